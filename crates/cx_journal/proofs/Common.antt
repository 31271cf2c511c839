-- The names that proofs over stores cite most, passed on from one place. Declares nothing.
pub use Rattle.std.proofs.Common.{⊎_elim}
pub use Rattle.std.proofs.lemmas.Grind.{flat_map-append}
pub use Rattle.cx_base.proofs.Common.{Bool, Err, IfErr, IfOk, IsTrue, List, None, Ok, Option, Result, Some, ap, append-nil, append_assoc}
pub use Rattle.cx_base.proofs.Common.{arith, cases_Bool, drop, drop_more, eqb-true, false, get_or, if◌then◌else◌, inl, inr, length}
pub use Rattle.cx_base.proofs.Common.{length-append, nat_lt, nat_tests, not, refl, rules, same_Some, slice_index, subst, suc, sym, take}
pub use Rattle.cx_base.proofs.Common.{take-append_seam, true, zero, ℕ, [], ◌%◌, ◌&&◌, ◌++◌, ◌+◌, ◌-◌, ◌/◌, ◌<◌, ◌==◌, ◌||◌, ◌∙◌, ◌∷◌, ◌≡◌}
pub use Rattle.cx_base.proofs.Common.{◌≤◌, ◌⊎◌}
pub use Rattle.cx_letter.specs.Prelude.{Kind, fits, is_some, record_shape}
pub use Rattle.byteorder.specs.Endian.{big_bytes}
pub use Rattle.cx_letter.specs.declared.kept.Record.{Record}
pub use Rattle.cx_msg.specs.RecordBytes.{spelling}
pub use Rattle.cx_disk.specs.Disk.{LeavesOnly, Only, Torn, written}
pub use Rattle.cx_keep.specs.Keeper.{all_fit}
pub use Rattle.cx_keep.specs.declared.keeper.KeepFault.TheVariants.{Failed}
pub use Rattle.cx_keep.specs.declared.keeper.OpenFault.{OpenFault}
pub use Rattle.cx_journal.specs.Blank.{IsBlank}
pub use Rattle.cx_journal.specs.Files.{TwoFiles, front_in}
pub use Rattle.cx_journal.specs.Generation.{IsBehind, IsOldOrNew, generation, next_generation, second_is_live}
pub use Rattle.cx_journal.specs.Image.{Image, SameImage, framed, image, image_with_record, with_first}
unfoldable pub use Rattle.cx_journal.specs.Image.{image_at}
pub use Rattle.cx_journal.specs.Journal.{IsAtRest, IsBeforeOrAfter, StandsFor, append_body, frame, frames, gates_from}
pub use Rattle.cx_journal.specs.Pair.{IsLive, IsTwin, StandsAfter, front_of, live_of}
pub use Rattle.cx_journal.specs.Payload.{all_kept_by, is_kept_by, may_keep, payloads}
unfoldable pub use Rattle.cx_journal.specs.Payload.{payload_read}
pub use Rattle.cx_journal.specs.State.{IsJournalReady, JournalState, has_some, records_or_none, told_records}
pub use Rattle.cx_journal.specs.Twin.{BothTell, IsPairImageOf, LeavesTwo, SamePair, TwoRest, file_image, image_chosen, pair_image}
pub use Rattle.cx_journal.specs.Twin.{seen_pair_records}
pub use Rattle.cx_journal.proofs.Gates.{all_kept-push, gates-count, gates-push, payloads-push}
pub use Rattle.cx_journal.proofs.Payloads.{both_so}
