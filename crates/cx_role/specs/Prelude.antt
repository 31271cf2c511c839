-- The names that roles cite most, passed on from one place. Declares nothing.
pub use Rattle.std.specs.Prelude.{All, Bool, Err, IfErr, IfOk, IsTrue, List, None, Ok, OnErr, OnOk, Some, false, filter, length, map, max}
pub use Rattle.std.specs.Prelude.{nat_le, nat_lt, not, option_copied, position, refl, suc, true, vec_capacity, vec_len, ℕ, [], ◌&&◌, ◌++◌}
pub use Rattle.std.specs.Prelude.{◌+◌, ◌-◌, ◌<◌, ◌∷◌, ◌≡◌, ◌≤◌}
pub use Rattle.cx_letter.specs.Prelude.{Batcher, Client, Floor, Leader, Matchmaker, Note, Pair, Proxy, Reader, Replacer, Replica, Stranger}
pub use Rattle.cx_letter.specs.Prelude.{Table, Unbatcher, are_rising, command_list, count_of, fits, make_grid, map_behind, option_map_or}
pub use Rattle.cx_letter.specs.Prelude.{rises}
unfoldable pub use Rattle.cx_letter.specs.Prelude.{entries, mark, round, round0, token, value}
pub use Rattle.cx_model.specs.Prelude.{Acceptor, AcceptorDurable, Act, Answered, Appends, Asked, Batch, BatcherIn, BatcherVolatile, Cluster}
pub use Rattle.cx_model.specs.Prelude.{Command, Consumes, Cut, Del, DeliversOneOf, Down, Entry, Event, Happened, Input, IsFit, IsOrdered}
pub use Rattle.cx_model.specs.Prelude.{KeptRecord, Kind, LeaderDurable, LeaderIn, LeaderVolatile, Letter, Machine, MatchmakerDurable}
pub use Rattle.cx_model.specs.Prelude.{Member, Msg, Outcome, Placed, ProxyIn, ProxyVolatile, ReaderDurable, ReaderIn, ReaderVolatile}
pub use Rattle.cx_model.specs.Prelude.{Record, ReplacerDurable, ReplacerIn, ReplacerVolatile, ReplicaDurable, ReplicaIn, ReplicaVolatile}
pub use Rattle.cx_model.specs.Prelude.{Rises, RoleId, Round, Rules, Running, Shape, State, Status, Torn, Turn, Value, Vote, Wake, Whole}
pub use Rattle.cx_model.specs.Prelude.{Why, World, Written, acceptor_rules, acked_by, act_at, again_at, batcher_rules, below, change}
pub use Rattle.cx_model.specs.Prelude.{column_for, come, commands_of, count_reaching, execute_value, floor_fits, floor_of, folded}
pub use Rattle.cx_model.specs.Prelude.{folded_from, greatest_mark, greatest_watermark, has_acked, has_round, heard_by, held, held_to}
pub use Rattle.cx_model.specs.Prelude.{in_window, is_among, is_before, is_counted, is_deciding, is_first, is_idle, is_in, is_leading}
pub use Rattle.cx_model.specs.Prelude.{is_matched, is_member_of, is_of_batch, is_of_round, is_off, is_own, is_promising, is_retired}
pub use Rattle.cx_model.specs.Prelude.{is_stopping, is_valid_event, joined_entries, kept_by, last_turn, leader_rules, leads_to, letter}
pub use Rattle.cx_model.specs.Prelude.{list_all, list_any, list_of, live_entries, machine_from, match_ack_counted, match_ack_row}
pub use Rattle.cx_model.specs.Prelude.{matchmaker_rules, members_in, members_of, names, names_ballot, names_body, names_entry, names_grid}
pub use Rattle.cx_model.specs.Prelude.{names_role, names_round, names_set, names_value, numbers, only_word, opened, outcome_of, pending_at}
pub use Rattle.cx_model.specs.Prelude.{phase1a_to, phase2a_to, placed_from, plain, pre_read_ack_row, pre_read_counted, propose_to}
pub use Rattle.cx_model.specs.Prelude.{proxy_rules, reader_rules, ready_values, refused, refused_from, replacer_rules, replica_renewed}
pub use Rattle.cx_model.specs.Prelude.{replica_rules, replied, request, results_from, role, rows_whole, run, running_after, same_read}
pub use Rattle.cx_model.specs.Prelude.{same_role, same_round, sets_to, start, state_of, text_at, to_decide, turn, unbatcher_rules, vote_at}
pub use Rattle.cx_model.specs.Prelude.{vote_in_range}
unfoldable pub use Rattle.cx_model.specs.Prelude.{step}
pub use Rattle.cx_base.specs.declared.event.Order.{Order}
pub use Rattle.cx_base.specs.declared.why.Why.TheVariants.{Heard}
unfoldable pub use Rattle.cx_field.specs.Fields.{answered, command}
pub use Rattle.cx_field.specs.Ranges.{slots_rise}
pub use Rattle.cx_model.specs.Heard.{heard_at, is_heard, mark_told, told_to}
pub use Rattle.cx_model.specs.Leader.{are_known, held_by, without_known}
pub use Rattle.cx_model.specs.Lists.{list_with}
pub use Rattle.cx_model.specs.Matched.{entries_told, later_round}
pub use Rattle.cx_model.specs.Matchmaker.{entries_before, entries_since}
pub use Rattle.cx_model.specs.Reader.{matched, with_asked}
pub use Rattle.cx_model.specs.Replacer.{answers_of, sorted_into}
pub use Rattle.cx_model.specs.Replica.{answer_of, are_client_notes, execute, execute_all, is_renewal_whole, note_of, notes_of, pieces}
pub use Rattle.cx_model.specs.Replica.{still_deferred, with_client}
pub use Rattle.cx_model.specs.World.{Change, ask, event_list}
pub use Rattle.cx_model.specs.declared.states.Acked.{Acked}
pub use Rattle.cx_model.specs.declared.states.Deferred.{Deferred}
pub use Rattle.cx_model.specs.declared.states.MatchAnswer.{MatchAnswer}
pub use Rattle.cx_model.specs.declared.states.Pending.{Pending}
pub use Rattle.cx_model.specs.declared.states.Promised.{Promised}
pub use Rattle.cx_keep.specs.Keeper.{Append, KeeperChange, Renewal, all_fit, list_after}
pub use Rattle.cx_keep.specs.declared.keeper.KeepFault.{KeepFault}
pub use Rattle.cx_keep.specs.declared.keeper.KeepFault.TheVariants.{Failed, NoMemory}
pub use Rattle.cx_role.specs.Outbox.{Outgoing}
pub use Rattle.cx_role.specs.Role.{Appending, IsReply, IsStep, KeepsDurable, MayKeep, Replies, takes_no_memory}
pub use Rattle.cx_role.specs.Snap.{snap_of, snapped_by}
pub use Rattle.cx_role.specs.Wake.{refused_behind}
pub use Rattle.cx_base.specs.declared.role.Kind.TheVariants as kind
pub use Rattle.cx_base.specs.declared.why.Why.TheVariants as why
pub use Rattle.cx_model.specs.declared.states.Mode.TheVariants as mode
pub use Rattle.cx_letter.specs.declared.kept.Record.TheVariants as kept
pub use Rattle.cx_letter.specs.declared.message.Msg.TheVariants as msg
