-- The names that definitions over runs cite most, passed on from one place. Declares nothing.
pub use Rattle.std.specs.Io.KnownBytes.{Appends, Consumes, IsAtEnd}
pub use Rattle.std.specs.Prelude.{All, Bool, Err, IfOk, IfSome, IsTrue, List, None, Ok, OnOk, Option, Result, Some, bytes_eq, cond, drop}
pub use Rattle.std.specs.Prelude.{false, filter, get_or, if◌then◌else◌, is_some, length, map, max, min, nat_le, nat_lt, not, option_map}
pub use Rattle.std.specs.Prelude.{option_to_list, position, refl, reverse, slice_get, slice_index_or, suc, take, true, zero, ℕ, [], ◌%◌}
pub use Rattle.std.specs.Prelude.{◌&&◌, ◌*◌, ◌++◌, ◌+◌, ◌-◌, ◌<◌, ◌==◌, ◌^◌, ◌||◌, ◌∷◌, ◌≡◌, ◌≤◌, ◌⊎◌}
pub use Rattle.cx_letter.specs.Prelude.{Acceptor, Answered, App, Asking, Cluster, Collect, Command, Cut, Del, Entry, Event, Happened}
pub use Rattle.cx_letter.specs.Prelude.{IsGrid, Kept, Kind, Lead, Letter, NackReason, Noop, Offer, Op, Placed, Put, Replace, Reply, Rises}
pub use Rattle.cx_letter.specs.Prelude.{RoleId, Round, Shape, Token, Torn, Value, Vote, Whole, Why, below, change_after, commands_of}
pub use Rattle.cx_letter.specs.Prelude.{floor_fits}
pub use Rattle.cx_letter.specs.Prelude.{floor_of, fold, in_window, is_above, is_before, is_done, is_in, is_valid_event, lead_after, letter}
pub use Rattle.cx_letter.specs.Prelude.{list_all, list_any, no_round, numbers, position_or_len, puts_anew, ready_values, role}
pub use Rattle.cx_letter.specs.Prelude.{same_op, same_role, same_round, same_value, strip_carriage_return, text_at}
pub use Rattle.cx_base.specs.declared.status.Status.{Status}
pub use Rattle.cx_grid.specs.Quorum.{column_of, column_whole, is_whole, member_at, row_of, row_whole, with_mark}
pub use Rattle.cx_field.specs.Ranges.{vote_in_range}
pub use Rattle.cx_letter.specs.declared.input.Act.{Act}
pub use Rattle.cx_letter.specs.declared.input.Act.TheVariants.{Give, Snap, Stop, Wake}
pub use Rattle.cx_letter.specs.declared.input.Input.{Input}
pub use Rattle.cx_letter.specs.declared.input.Input.TheVariants.{Order, Take, Tick}
pub use Rattle.cx_letter.specs.declared.input.KeptRecord.{KeptRecord}
pub use Rattle.cx_letter.specs.declared.input.Written.{Written}
pub use Rattle.cx_letter.specs.declared.kept.Record.{Record}
pub use Rattle.cx_letter.specs.declared.message.Msg.{Msg}
pub use Rattle.cx_model.specs.Acceptor.{AcceptorDurable, acceptor_row, acceptor_rules, acceptor_takes, is_of_round, vote_at}
pub use Rattle.cx_model.specs.Batcher.{BatcherVolatile, batcher_row, batcher_rules, batcher_takes}
pub use Rattle.cx_model.specs.Chosen.{chosen_at, chosen_prefix, chosen_vote, first_chosen, has_vote, is_chosen, is_chosen_in, is_vote}
pub use Rattle.cx_model.specs.Chosen.{prefix_from}
pub use Rattle.cx_model.specs.Collection.{Collection, collection_from, is_collecting, is_informing, is_off, is_retired, not_collecting}
pub use Rattle.cx_model.specs.Collection.{with_forgotten, with_informed}
pub use Rattle.cx_model.specs.CommandList.{IsRight}
pub use Rattle.cx_model.specs.Examples.{one_of_each}
pub use Rattle.cx_model.specs.Facts.{BatcherWasTold, CanBeChosen, HasRound, HasVoted, IsFinished, IsInformed, IsProposed, IsReadOf}
pub use Rattle.cx_model.specs.Facts.{IsRetiring, LeaderWasTold, ReaderWasTold, ReplicaWasTold, WatermarkFacts, has_recorded, round_in}
pub use Rattle.cx_model.specs.Facts.{watermark_of}
pub use Rattle.cx_model.specs.Heard.{heard_by}
pub use Rattle.cx_model.specs.History.{finish_at}
pub use Rattle.cx_model.specs.Leader.{LeaderDurable, LeaderVolatile, begin_in, collect_in, count_reaching, garbage_a_to, has_no_room}
pub use Rattle.cx_model.specs.Leader.{inform_to, informed_in, is_changed, is_idle, is_leading, is_matching, is_own, is_past_window}
pub use Rattle.cx_model.specs.Leader.{is_promising, is_settled, lead_with, leader_row, leader_rules, leader_takes, leads_to, match_a_to}
pub use Rattle.cx_model.specs.Leader.{match_counted, matched_by, open_values, order_row, phase1a_to, promise_counted, propose_in}
pub use Rattle.cx_model.specs.Leader.{propose_to, round_of, set_learnt, stage_sends, tick_in}
pub use Rattle.cx_model.specs.Lists.{bool_cases, by_role, number_itself, role_from_parts, same_number, same_role-itself, same_role-true}
pub use Rattle.cx_model.specs.Matched.{enough, first_set, greatest_watermark, is_counted, is_member_of, live_entries, members_in}
pub use Rattle.cx_model.specs.Matched.{members_of, rows_whole}
pub use Rattle.cx_model.specs.Matchmaker.{MatchmakerDurable, at_work, boot_in, entry, has_round, in_set, is_booted, is_stopped}
pub use Rattle.cx_model.specs.Matchmaker.{matchmaker_row, matchmaker_rules, matchmaker_takes, set_of}
pub use Rattle.cx_model.specs.Member.{Begins, Member}
pub use Rattle.cx_model.specs.Names.{names, names_ballot, names_body, names_command, names_entry, names_grid, names_role, names_round}
pub use Rattle.cx_model.specs.Names.{names_set, names_value, names_vote}
pub use Rattle.cx_model.specs.Ordered.{machine_ordered}
pub use Rattle.cx_model.specs.Outcome.{Outcome, only_word, replied}
pub use Rattle.cx_model.specs.Plan.{best_vote, end_told, greater_vote, greatest_cw, has_promised, placed_from, plan, plan_between}
pub use Rattle.cx_model.specs.Plan.{promised_by, voted_value, votes_told}
pub use Rattle.cx_model.specs.Promises.{Agreement, DeliversOneOf, ForgottenIsKept, HasKept, HasTurn, IsConfig, OfEveryRun, OneNextSet}
pub use Rattle.cx_model.specs.Promises.{ReadsAreOfTheirReplica, ReadsAreRight, ReadsAskLater, ReadsComeAfterAnswers, ReadsComeAfterReads}
pub use Rattle.cx_model.specs.Promises.{RoundsAskLater, SessionsComeAfterHeard, SetsAreDecided, TurnsAskLater, held_in, watermark_in}
pub use Rattle.cx_model.specs.Proxy.{ProxyVolatile, again_at, again_for, announcement, ask, chosen_in_to, chosen_to, column_for}
pub use Rattle.cx_model.specs.Proxy.{members_for, pending_at, pending_of, phase2a_to, propose_over, proxy_row, proxy_rules, proxy_takes}
pub use Rattle.cx_model.specs.Proxy.{proxy_tick, raised_to, vote_for}
pub use Rattle.cx_model.specs.Reader.{Asked, Batch, ReaderDurable, ReaderVolatile, acked_by, ask_acceptors, ask_matchmakers, ask_replicas}
pub use Rattle.cx_model.specs.Reader.{asked_anew, asked_for, asking_of, begin, begin_if, finish, greatest_mark, has_acked, is_among}
pub use Rattle.cx_model.specs.Reader.{is_first, is_matched, is_of_batch, last_turn, make_token, match_ack_counted, match_ack_row}
pub use Rattle.cx_model.specs.Reader.{match_read_to, pre_read_ack_row, pre_read_counted, pre_read_to, read_to, reader_row, reader_rules}
pub use Rattle.cx_model.specs.Reader.{reader_takes, reader_tick, request_over}
pub use Rattle.cx_model.specs.Renewed.{IsOrdered}
pub use Rattle.cx_model.specs.RenewedLaws.{renewed_folds}
pub use Rattle.cx_model.specs.Replacer.{ReplacerDurable, ReplacerVolatile, boot_a_to, halt_counted, has_halted, is_booting, is_deciding}
pub use Rattle.cx_model.specs.Replacer.{is_resting, is_stopping, joined_entries, next_a_to, others, replacer_orders, replacer_row}
pub use Rattle.cx_model.specs.Replacer.{replacer_rules, replacer_takes, sets_to, sets_to_all, stop_a_to, to_decide}
pub use Rattle.cx_model.specs.Replica.{IsTied, Machine, ReplicaDurable, ReplicaVolatile, apply, before, execute_value, fetch_found}
pub use Rattle.cx_model.specs.Replica.{fetch_to, fetched_by, held, held_to, machine_from, machine_of, new_machine, read_answer_to}
pub use Rattle.cx_model.specs.Replica.{read_answers, read_row, replica_after, replica_renewed, replica_row, replica_rules, replica_snap}
pub use Rattle.cx_model.specs.Replica.{replica_takes, replica_tick, results_at, results_from}
pub use Rattle.cx_model.specs.Request.{floor_in, is_past, is_stale, request, same_read, same_request, same_token, token_of, was_sent}
pub use Rattle.cx_model.specs.Rules.{IsFit, Rules, Running, folded, folded_from, opened, outcome_of, refused, refused_from, running_after}
pub use Rattle.cx_model.specs.Rules.{written_after}
pub use Rattle.cx_model.specs.State.{BatcherIn, Down, LeaderIn, Plain, ProxyIn, ReaderIn, ReplacerIn, ReplicaIn, State, batcher_volatile}
pub use Rattle.cx_model.specs.State.{fresh_state, leader_volatile, plain, plain_volatile, proxy_volatile, reader_volatile}
pub use Rattle.cx_model.specs.State.{replacer_volatile, replica_volatile, state_of}
unfoldable pub use Rattle.cx_model.specs.State.{set_state}
pub use Rattle.cx_model.specs.Turn.{Turn, snap_turn, still, turn, turn_with, whole_turn}
pub use Rattle.cx_model.specs.Unbatcher.{answer_to, unbatcher_row, unbatcher_rules, unbatcher_takes}
pub use Rattle.cx_model.specs.World.{World, act_at, act_of, change, come, durable_part, kept_by, list_after, list_of, log_of, nothing, run}
pub use Rattle.cx_model.specs.World.{run_from, start, turned, values_in}
unfoldable pub use Rattle.cx_model.specs.World.{step}
