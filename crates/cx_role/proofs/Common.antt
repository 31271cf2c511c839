-- The names that proofs of roles cite most, passed on from one place. Declares nothing.
pub use Rattle.std.proofs.Common.{ap₂, count_by, flat_map, lit≤, sum_by}
pub use Rattle.std.proofs.KnownBytes.{Appends-nil}
pub use Rattle.std.proofs.lemmas.Grind.{flat_map-append}
pub use Rattle.std.proofs.lemmas.List.Elements.{All-filter, filter-append}
pub use Rattle.std.proofs.lemmas.List.Folds.{list_any-append}
pub use Rattle.std.proofs.lemmas.Option.{none-some, slice_get-map, slice_get_cases, slice_get_within}
pub use Rattle.cx_base.proofs.Common.{All-head, All-tail, IfSome, Option, Result, and_from, and_parts, ap, append-nil, append_assoc, arith}
pub use Rattle.cx_base.proofs.Common.{bytes_eq, cases_Bool, code_of, common_steps, cond, drop, eqb-true, err_from_is_err_and, filter_same}
pub use Rattle.cx_base.proofs.Common.{get_or, if◌then◌else◌, inl, inr, is_above, length-append, length-drop, length-map, length-set}
pub use Rattle.cx_base.proofs.Common.{length-take-le, list_all-append, lt-ltb, ltb-true, map-append, min, nat_tests, option_map}
pub use Rattle.cx_base.proofs.Common.{position_or_len, rules, same_Some, slice_get, slice_index_or, slice_set, subst, sym, take, take-map}
pub use Rattle.cx_base.proofs.Common.{take_all, take_more, true≢false, zero, ◌%◌, ◌*◌, ◌/◌, ◌==◌, ◌^◌, ◌||◌, ◌∙◌, ◌⊎◌}
pub use Rattle.cx_model.specs.Prelude.{Asking, Take, Token, act_of, bool_cases, durable_part, is_some, no_round, nothing, number_itself}
pub use Rattle.cx_model.specs.Prelude.{replica_volatile, run_from, same_number, same_role-itself, same_role-true, snap_turn, token_of}
pub use Rattle.cx_model.specs.Prelude.{turn_with, turned}
pub use Rattle.cx_role.specs.Prelude.{Act, All, Answered, Append, Appends, Asked, Batch, Batcher, BatcherIn, Bool, Change, Client, Cluster}
pub use Rattle.cx_role.specs.Prelude.{Command, Cut, Deferred, DeliversOneOf, Entry, Err, Event, Failed, Floor, Happened, IfErr, IfOk, Input}
pub use Rattle.cx_role.specs.Prelude.{IsFit, IsOrdered, IsReply, IsTrue, KeepFault, KeeperChange, KeptRecord, Kind, Leader, LeaderDurable}
pub use Rattle.cx_role.specs.Prelude.{LeaderIn, LeaderVolatile, Letter, List, Machine, MatchAnswer, MayKeep, Member, Msg, None, Note, Ok}
pub use Rattle.cx_role.specs.Prelude.{OnOk, Order, Outcome, Pair, Pending, Placed, Proxy, ProxyIn, Reader, ReaderDurable, ReaderIn}
pub use Rattle.cx_role.specs.Prelude.{ReaderVolatile, Record, Renewal, Replacer, ReplacerIn, ReplicaDurable, ReplicaIn, ReplicaVolatile}
pub use Rattle.cx_role.specs.Prelude.{Rises, RoleId, Round, Rules, Running, Shape, Some, State, Stranger, Table, Torn, Turn, Unbatcher}
pub use Rattle.cx_role.specs.Prelude.{Value, Vote, Whole, Why, World, Written, acceptor_rules, acked_by, act_at, all_fit, are_client_notes}
pub use Rattle.cx_role.specs.Prelude.{are_rising, batcher_rules, below, change, column_for, come, command_list, commands_of, count_of}
pub use Rattle.cx_role.specs.Prelude.{entries_since, entries_told, event_list, execute, execute_all, false, filter, fits, floor_fits}
pub use Rattle.cx_role.specs.Prelude.{floor_of, folded, folded_from, greatest_watermark, has_acked, has_round, heard_at, heard_by}
pub use Rattle.cx_role.specs.Prelude.{in_window, is_before, is_heard, is_in, is_matched, is_member_of, is_of_batch, is_of_round}
pub use Rattle.cx_role.specs.Prelude.{is_valid_event, kept_by, last_turn, leader_rules, length, list_after, list_all, list_any, list_with}
pub use Rattle.cx_role.specs.Prelude.{live_entries, machine_from, map, map_behind, mark_told, match_ack_counted, matchmaker_rules, max}
pub use Rattle.cx_role.specs.Prelude.{names, names_role, names_round, names_value, nat_le, nat_lt, not, note_of, notes_of, numbers}
pub use Rattle.cx_role.specs.Prelude.{only_word, option_map_or, outcome_of, pending_at, phase2a_to, pieces, placed_from, plain, position}
pub use Rattle.cx_role.specs.Prelude.{pre_read_counted, proxy_rules, reader_rules, ready_values, refl, refused, refused_from}
pub use Rattle.cx_role.specs.Prelude.{replacer_rules, replica_renewed, replica_rules, request, rises, role, rows_whole, run, running_after}
pub use Rattle.cx_role.specs.Prelude.{same_role, same_round, sets_to, snapped_by, sorted_into, start, state_of, still_deferred, suc}
pub use Rattle.cx_role.specs.Prelude.{told_to, true, turn, unbatcher_rules, vec_capacity, vote_at, ℕ, [], ◌&&◌, ◌++◌, ◌+◌, ◌-◌, ◌<◌, ◌∷◌}
pub use Rattle.cx_role.specs.Prelude.{◌≡◌, ◌≤◌}
unfoldable pub use Rattle.cx_role.specs.Prelude.{step, value}
pub use Rattle.cx_base.proofs.ByTest.{by_test, either_way}
pub use Rattle.cx_model.specs.Lists.{differ_role, get_set_other, get_set_same, list_other, list_own, not_both}
pub use Rattle.cx_model.specs.World.{world_after}
pub use Rattle.cx_role.proofs.Ranges.{real_above}
pub use Rattle.cx_role.proofs.Sends.{IsSending, IsSendingTo}
pub use Rattle.cx_role.specs.Prelude.kind
pub use Rattle.cx_role.specs.Prelude.why
pub use Rattle.cx_role.specs.Prelude.kept
pub use Rattle.cx_role.specs.Prelude.msg
