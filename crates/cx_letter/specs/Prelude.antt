-- The names that definitions over datagrams and records cite most, passed on from one place. Declares nothing.
pub use Rattle.std.specs.List.{position_or_len}
pub use Rattle.std.specs.Prelude.{All, Bool, Err, IfErr, IfOk, IfSome, IsTrue, List, None, Ok, OnOk, Option, Result, Some, Vec, bytes_eq}
pub use Rattle.std.specs.Prelude.{codes, cond, decimal, drop, eqb, false, filter, if◌then◌else◌, is_none, is_some, length, map, nat_le}
pub use Rattle.std.specs.Prelude.{nat_lt, not, option_map, option_to_list, refl, slice_get, slice_index, slice_index_or, suc, take, true}
pub use Rattle.std.specs.Prelude.{zero, ℕ, [], ◌%◌, ◌&&◌, ◌*◌, ◌++◌, ◌+◌, ◌-◌, ◌<◌, ◌==◌, ◌^◌, ◌||◌, ◌∷◌, ◌≡◌, ◌≤◌, ◌⊎◌}
pub use Rattle.cx_base.specs.Prelude.{IsGrid, IsName, Rises, Shape, Table, acts, are_rising, below, code_of, comes_before, commands_of}
pub use Rattle.cx_base.specs.Prelude.{count_of, floor_fits, floor_of, grid_fault, is_answer_done, is_answer_of, is_before, is_done, is_in}
pub use Rattle.cx_base.specs.Prelude.{is_less, is_rising, is_valid_event, join_with_byte, list_all, list_any, make_grid, map_after}
pub use Rattle.cx_base.specs.Prelude.{map_behind, noted_for, one_more, option_map_or, puts_anew, ready_values, reply_of, rises}
pub use Rattle.cx_base.specs.Prelude.{role, role_text, same_op, same_role, same_value, slice_split, still_early, still_noted}
pub use Rattle.cx_base.specs.Prelude.{strip_carriage_return, text_at, value_for, with_answer, with_floor, with_note, with_told}
pub use Rattle.cx_base.specs.Fold.{command_list, fold}
pub use Rattle.cx_base.specs.Lists.{numbers}
pub use Rattle.cx_base.specs.Log.{before_following}
pub use Rattle.cx_base.specs.Role.{kind_of}
pub use Rattle.cx_base.specs.Round.{change_after, lead_after, no_round, same_round}
pub use Rattle.cx_base.specs.Sets.{is_above}
pub use Rattle.cx_base.specs.declared.cluster.Cluster.{Cluster}
pub use Rattle.cx_base.specs.declared.command.Answered.{Answered}
pub use Rattle.cx_base.specs.declared.command.Command.{Command}
pub use Rattle.cx_base.specs.declared.command.Floor.{Floor}
pub use Rattle.cx_base.specs.declared.command.Note.{Note}
pub use Rattle.cx_base.specs.declared.command.Op.{Op}
pub use Rattle.cx_base.specs.declared.command.Op.TheVariants.{App, Del, Put}
pub use Rattle.cx_base.specs.declared.command.Pair.{Pair}
pub use Rattle.cx_base.specs.declared.command.Placed.{Placed}
pub use Rattle.cx_base.specs.declared.command.Reply.{Reply}
pub use Rattle.cx_base.specs.declared.command.Reply.TheVariants.{Absent, Len, Okay}
pub use Rattle.cx_base.specs.declared.command.Value.{Value}
pub use Rattle.cx_base.specs.declared.command.Value.TheVariants.{Noop}
pub use Rattle.cx_base.specs.declared.event.Cut.{Cut}
pub use Rattle.cx_base.specs.declared.event.Cut.TheVariants.{Kept, Torn, Whole}
pub use Rattle.cx_base.specs.declared.event.Event.{Event}
pub use Rattle.cx_base.specs.declared.event.Happened.{Happened}
pub use Rattle.cx_base.specs.declared.event.Order.TheVariants.{Change, Collect, Lead, Offer, Replace}
pub use Rattle.cx_base.specs.declared.role.Kind.{Kind}
pub use Rattle.cx_base.specs.declared.role.Kind.TheVariants.{Acceptor, Batcher, Client, Leader, Matchmaker, Proxy, Reader, Replacer}
pub use Rattle.cx_base.specs.declared.role.Kind.TheVariants.{Replica, Unbatcher}
pub use Rattle.cx_base.specs.declared.role.RoleId.{RoleId}
pub use Rattle.cx_base.specs.declared.round.Round.{Round}
pub use Rattle.cx_base.specs.declared.why.Why.{Why}
pub use Rattle.cx_base.specs.declared.why.Why.TheVariants.{Full, Idle, Old, Past, Resent, Same, Sent, Stranger, Unasked}
pub use Rattle.cx_wire.specs.Format.{Appends, Format, Miss, by_tag, only, then_by, ◌▷◌}
unfoldable pub use Rattle.cx_wire.specs.Format.{u16, u32, u8}
pub use Rattle.cx_field.specs.Fields.{in_window}
unfoldable pub use Rattle.cx_field.specs.Fields.{accepted_set, answers, at, command_with, entries, found, grid, joined, mark, name, reason}
unfoldable pub use Rattle.cx_field.specs.Fields.{reply, round, round0, seq, set, slot, token, value, value_with, votes_with}
pub use Rattle.cx_field.specs.Reading.{Gives}
pub use Rattle.cx_field.specs.declared.parts.Asking.{Asking}
pub use Rattle.cx_field.specs.declared.parts.Entry.{Entry}
pub use Rattle.cx_field.specs.declared.parts.NackReason.{NackReason}
pub use Rattle.cx_field.specs.declared.parts.Token.{Token}
pub use Rattle.cx_field.specs.declared.parts.Vote.{Vote}
pub use Rattle.cx_letter.specs.Letter.{Letter, body, is_kind, is_listed, letter, receivers, senders}
pub use Rattle.cx_letter.specs.LetterParts.{PartsFit}
pub use Rattle.cx_letter.specs.Messages.{body_shape, body_with, tells_floors, version_of}
unfoldable pub use Rattle.cx_letter.specs.Messages.{cases_with}
pub use Rattle.cx_letter.specs.Names.{name_of_message}
pub use Rattle.cx_letter.specs.Records.{fits, record_shape}
