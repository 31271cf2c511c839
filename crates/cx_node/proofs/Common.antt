-- The names that proofs of a node cite most, passed on from one place. Declares nothing.
pub use Rattle.std.specs.Str.Parse.{ExplainsUnsignedError, HasUnsignedDigitsIfOk, ParsesUnsigned}
pub use Rattle.std.proofs.lemmas.Option.{slice_get_read}
pub use Rattle.cx_base.proofs.Common.{Bool, Err, IfOk, List, None, Ok, Option, Some, ap, arith, below, cases_Bool, codes, drop}
pub use Rattle.cx_base.proofs.Common.{err_from_is_err_and, false, get_or, inl, inr, kind_text, length, length-map, list_all, list_any, map}
pub use Rattle.cx_base.proofs.Common.{min, not, numbers, option_and_then, option_map, refl, role, rules, same_Some, same_role, slice_get}
pub use Rattle.cx_base.proofs.Common.{string_bytes, subst, suc, sym, take, true, zero, ℕ, [], ◌&&◌, ◌++◌, ◌+◌, ◌-◌, ◌<◌, ◌∙◌, ◌∷◌, ◌≡◌, ◌≤◌}
pub use Rattle.cx_letter.specs.Prelude.{Cluster, RoleId, decimal}
pub use Rattle.cx_seat.specs.Prelude.{AreReady, changing, completed, hosted_in, hosted_of, hosted_place, is_client, stays, those_tick}
pub use Rattle.cx_seat.specs.Prelude.{without_care}
unfoldable pub use Rattle.cx_seat.specs.Prelude.{clients_tended, does_at}
pub use Rattle.cx_edge.specs.Sink.{SaysText}
pub use Rattle.cx_seat.specs.declared.guest.Guest.{Guest}
pub use Rattle.cx_node.specs.Acts.{Acts, Blames, failed, scene_of}
pub use Rattle.cx_node.specs.Hosting.{hosting, known_first, store_gives}
pub use Rattle.cx_node.specs.Node.{NodeState, course_at}
pub use Rattle.cx_node.specs.Tends.{is_meant, tended}
pub use Rattle.cx_node.proofs.Actions.{acts_nothing, blames_then, no_blame}
pub use Rattle.cx_node.proofs.Places.{place_within}
pub use Rattle.cx_node.proofs.Tended.{counts_as, first_none, first_some}
pub use Rattle.cx_node.proofs.TendedActs.{act_as, moved_as}
