-- The names that proofs of laws cite most, passed on from one place. Declares nothing.
pub use Rattle.std.proofs.Common.{lit≤, ⊎_elim}
pub use Rattle.std.proofs.lemmas.List.{reverse-append}
pub use Rattle.std.proofs.lemmas.Option.{none-some, slice_get_within}
pub use Rattle.cx_base.proofs.Common.{and_from, and_parts, ap, append-nil, append_assoc, are_rising, arith, both_ways, cases_Bool, cases_lt}
pub use Rattle.cx_base.proofs.Common.{code_of, comes_before, cond_both, count_of, eq-eqb, eqb-true, following, inl, inr, is_answer_of}
pub use Rattle.cx_base.proofs.Common.{leb-true, length-append, length-drop, list_all-append, lt-ltb, ltb-false, ltb-true, map_behind}
pub use Rattle.cx_base.proofs.Common.{mod_below, nat_tests, none_placed, not-false, not-true, noted_for, or_right, same_Some, same_client}
pub use Rattle.cx_base.proofs.Common.{slice_set, subst, sym, take-append-le, take_all, true≢false, turned_test, with_floor, with_note, ◌∙◌}
pub use Rattle.cx_letter.specs.Prelude.{Floor, Pair, Sent, Unbatcher, before_following, command_list}
pub use Rattle.cx_model.specs.Prelude.{AcceptorDurable, Act, Answered, Asked, Asking, BatcherIn, BatcherVolatile, Begins, Bool, Cluster}
pub use Rattle.cx_model.specs.Prelude.{Collect, Collection, Command, Cut, DeliversOneOf, Down, Entry, Event, Give, Happened, HasKept}
pub use Rattle.cx_model.specs.Prelude.{HasRound, HasTurn, HasVoted, Input, IsConfig, IsFinished, IsFit, IsGrid, IsInformed, IsProposed}
pub use Rattle.cx_model.specs.Prelude.{Offer}
pub use Rattle.cx_model.specs.Prelude.{IsRetiring, IsRight, IsTied, Kept, KeptRecord, Kind, Lead, LeaderDurable, LeaderIn, LeaderVolatile}
pub use Rattle.cx_model.specs.Prelude.{LeaderWasTold, Letter, List, Machine, MatchmakerDurable, Member, Msg, NackReason, None, Noop}
pub use Rattle.cx_model.specs.Prelude.{OfEveryRun, Option, Order, Outcome, Placed, Plain, ProxyIn, ProxyVolatile, ReaderDurable, ReaderIn}
pub use Rattle.cx_model.specs.Prelude.{ReaderVolatile, ReaderWasTold, Record, Replace, ReplacerDurable, ReplacerIn, ReplacerVolatile}
pub use Rattle.cx_model.specs.Prelude.{ReplicaDurable, ReplicaIn, ReplicaVolatile, ReplicaWasTold, Reply, RoleId, Round, Rules, Shape, Snap}
pub use Rattle.cx_model.specs.Prelude.{Some, State, Stop, Take, Tick, Token, Torn, Turn, Value, Vote, Wake, Whole, Why, World, Written}
pub use Rattle.cx_model.specs.Prelude.{acceptor_row, acceptor_rules, acceptor_takes, acked_by, act_at, act_of, again_at, again_for}
pub use Rattle.cx_model.specs.Prelude.{announcement, answer_to, apply, ask_acceptors, ask_matchmakers, ask_replicas, asked_anew, asked_for}
pub use Rattle.cx_model.specs.Prelude.{asking_of, at_work, batcher_row, batcher_rules, batcher_volatile, before, begin, begin_if, begin_in}
pub use Rattle.cx_model.specs.Prelude.{below, best_vote, bool_cases, boot_in, by_role, bytes_eq, change, change_after, chosen_in_to}
pub use Rattle.cx_model.specs.Prelude.{chosen_prefix, chosen_to, collect_in, collection_from, column_for, column_of, column_whole, come}
pub use Rattle.cx_model.specs.Prelude.{commands_of, cond, count_reaching, drop, durable_part, end_told, enough, entry, execute_value, false}
pub use Rattle.cx_model.specs.Prelude.{fetch_found, fetch_to, fetched_by, filter, finish_at, first_set, floor_fits, floor_in, floor_of}
pub use Rattle.cx_model.specs.Prelude.{fold, folded, folded_from, fresh_state, garbage_a_to, greater_vote, greatest_cw, greatest_mark}
pub use Rattle.cx_model.specs.Prelude.{greatest_watermark, halt_counted, has_acked, has_halted, has_no_room, has_promised, has_round}
pub use Rattle.cx_model.specs.Prelude.{heard_by, held, held_in, held_to, if◌then◌else◌, in_set, inform_to, informed_in, is_above, is_among}
pub use Rattle.cx_model.specs.Prelude.{is_before, is_booted, is_booting, is_changed, is_chosen, is_collecting, is_counted, is_deciding}
pub use Rattle.cx_model.specs.Prelude.{is_done, is_first, is_idle, is_in, is_informing, is_leading, is_matched, is_matching, is_member_of}
pub use Rattle.cx_model.specs.Prelude.{is_of_batch, is_of_round, is_off, is_own, is_past, is_past_window, is_promising, is_resting}
pub use Rattle.cx_model.specs.Prelude.{is_retired, is_settled, is_stale, is_stopped, is_stopping, is_valid_event, joined_entries, kept_by}
pub use Rattle.cx_model.specs.Prelude.{last_turn, lead_after, lead_with, leader_row, leader_rules, leader_takes, leader_volatile, leads_to}
pub use Rattle.cx_model.specs.Prelude.{length, letter, list_after, list_all, list_any, list_of, live_entries, log_of, machine_from}
pub use Rattle.cx_model.specs.Prelude.{machine_of, make_token, map, match_a_to, match_ack_counted, match_ack_row, match_counted}
pub use Rattle.cx_model.specs.Prelude.{match_read_to, matched_by, matchmaker_row, matchmaker_rules, matchmaker_takes, max, member_at}
pub use Rattle.cx_model.specs.Prelude.{members_for, members_in, members_of, min, names, names_body, names_entry, names_grid, names_role}
pub use Rattle.cx_model.specs.Prelude.{names_round, names_set, names_value, names_vote, nat_le, nat_lt, new_machine, no_round, not}
pub use Rattle.cx_model.specs.Prelude.{not_collecting, nothing, number_itself, numbers, only_word, open_values, option_map, order_row}
pub use Rattle.cx_model.specs.Prelude.{pending_at, pending_of, phase1a_to, phase2a_to, placed_from, plain, plain_volatile, plan}
pub use Rattle.cx_model.specs.Prelude.{pre_read_ack_row, pre_read_counted, pre_read_to, promise_counted, promised_by, propose_in}
pub use Rattle.cx_model.specs.Prelude.{propose_over, propose_to, proxy_row, proxy_rules, proxy_takes, proxy_tick, proxy_volatile}
pub use Rattle.cx_model.specs.Prelude.{read_answer_to, read_answers, read_row, read_to, reader_row, reader_rules, reader_takes, reader_tick}
pub use Rattle.cx_model.specs.Prelude.{reader_volatile, ready_values, refl, refused, refused_from, replacer_orders, replacer_row}
pub use Rattle.cx_model.specs.Prelude.{replacer_rules, replacer_takes, replacer_volatile, replica_after, replica_renewed, replica_row}
pub use Rattle.cx_model.specs.Prelude.{replica_rules, replica_takes, replica_tick, replica_volatile, replied, request, request_over}
pub use Rattle.cx_model.specs.Prelude.{results_at, results_from, reverse, role, role_from_parts, round_of, rows_whole, run, run_from}
pub use Rattle.cx_model.specs.Prelude.{same_number, same_read, same_request, same_role, same_role-itself, same_role-true, same_round}
pub use Rattle.cx_model.specs.Prelude.{same_token, set_learnt, set_of, slice_get, slice_index_or, snap_turn, stage_sends, start, state_of}
pub use Rattle.cx_model.specs.Prelude.{still, suc, take, text_at, tick_in, to_decide, token_of, true, turn, turn_with, turned}
pub use Rattle.cx_model.specs.Prelude.{unbatcher_row, unbatcher_rules, values_in, vote_at, vote_for, voted_value, votes_told, was_sent}
pub use Rattle.cx_model.specs.Prelude.{watermark_in, whole_turn, with_forgotten, with_informed, with_mark, written_after, zero, ℕ, [], ◌%◌}
pub use Rattle.cx_model.specs.Prelude.{◌&&◌, ◌*◌, ◌++◌, ◌+◌, ◌-◌, ◌<◌, ◌==◌, ◌||◌, ◌∷◌, ◌≡◌, ◌≤◌, ◌⊎◌}
unfoldable pub use Rattle.cx_model.specs.Prelude.{set_state}
pub use Rattle.cx_base.proofs.ByTest.{by_test, either_way}
pub use Rattle.cx_model.specs.Acceptor.{acceptor_after, votes_from_slot, with_vote}
pub use Rattle.cx_model.specs.CommandList.{Stands}
pub use Rattle.cx_model.specs.Facts.{acceptor_of}
pub use Rattle.cx_model.specs.Heard.{heard_at, mark_told}
pub use Rattle.cx_model.specs.History.{Finish, finish_by, finish_with, was_asked}
pub use Rattle.cx_model.specs.Leader.{bypass, finish, forgotten_counted, greatest_of, held_by, informed_counted, leader_after, match_b_row}
pub use Rattle.cx_model.specs.Leader.{raised_to, with_seen}
pub use Rattle.cx_model.specs.Lists.{differ_role, list_other, list_own, not_both, other_role}
pub use Rattle.cx_model.specs.Matched.{entries_told}
pub use Rattle.cx_model.specs.Matchmaker.{entries_before, entries_since, garbage_a_row, match_a_row, match_read_row, matchmaker_after}
pub use Rattle.cx_model.specs.Matchmaker.{next_a_row, stop_a_row}
pub use Rattle.cx_model.specs.Promises.{WasRead, WasSession}
pub use Rattle.cx_model.specs.Proxy.{propose_row, vote_counted, with_pending}
pub use Rattle.cx_model.specs.Reader.{matched, request_row}
pub use Rattle.cx_model.specs.Replacer.{boot_b_row, boot_counted, decide, kept_or, known_record, known_set, next_counted, sets_row}
pub use Rattle.cx_model.specs.Replica.{Executed, chosen_row, execute, execute_all, execute_noted, fetch_row, offer_of, offer_row}
pub use Rattle.cx_model.specs.Replica.{offered, replica_orders, value_kept}
unfoldable pub use Rattle.cx_model.specs.Replica.{offers}
pub use Rattle.cx_model.specs.Turn.{cut_turn}
pub use Rattle.cx_model.specs.World.{ask, changed, records_in, records_of, world_after}
pub use Rattle.cx_model.specs.declared.states.Acked.{Acked}
pub use Rattle.cx_model.specs.declared.states.Deferred.{Deferred}
pub use Rattle.cx_model.specs.declared.states.Halt.{Halt}
pub use Rattle.cx_model.specs.declared.states.MatchAnswer.{MatchAnswer}
pub use Rattle.cx_model.specs.declared.states.Mode.{Mode}
pub use Rattle.cx_model.specs.declared.states.Mode.TheVariants.{Idle, Leading, Matching, Phase1}
pub use Rattle.cx_model.specs.declared.states.Pending.{Pending}
pub use Rattle.cx_model.specs.declared.states.Plan.{Plan}
pub use Rattle.cx_model.specs.declared.states.Promised.{Promised}
pub use Rattle.cx_model.specs.declared.states.Replacing.{Replacing}
pub use Rattle.cx_model.specs.declared.states.Replacing.TheVariants.{Booting, Deciding, Stopping}
pub use Rattle.cx_model.specs.declared.states.Stage.{Stage}
pub use Rattle.cx_model.specs.declared.states.Stage.TheVariants.{Collecting, Informing, Off, Retired}
pub use Rattle.cx_inv_run.specs.Kinds.{IsKeeper, IsKept, IsSender, Kinds, OfKind}
pub use Rattle.cx_inv_run.specs.Laws.{AllAllowed, HoldsAlong, Lands, Laws, anything}
pub use Rattle.cx_inv_run.specs.States.{Given, HoldsIn, entry_by, opened_state, snap_by, with_record}
unfoldable pub use Rattle.cx_inv_run.specs.States.{durable_of, log_in}
pub use Rattle.cx_inv_run.specs.Ties.{Ties}
pub use Rattle.cx_inv_run.proofs.Histories.{durable_by_time, durable_else, durable_other, durable_own, kept_cases, kept_longer, kept_other}
pub use Rattle.cx_inv_run.proofs.Histories.{log_by_time, log_other, log_own, log_snap, no_snap, set_running, state_other, state_own}
pub use Rattle.cx_inv_run.proofs.KindLaws.{kinds_are_so, kinds_hold}
pub use Rattle.cx_inv_run.proofs.LeaderSenders.{leader_kinds, replacer_kinds}
pub use Rattle.cx_inv_run.proofs.Members.{Member-all, Member-any, Member-at, Member-below, Member-both, Member-cases, Member-filter}
pub use Rattle.cx_inv_run.proofs.Members.{Member-first, Member-is_in, Member-map, Member-numbers, Member-one, Member-reverse, Member-second}
pub use Rattle.cx_inv_run.proofs.Members.{Member-turned, all-Member, any-Member, below-Member, filter-Member, filter-older, is_in-Member}
pub use Rattle.cx_inv_run.proofs.Members.{map-Member, none-Member}
pub use Rattle.cx_inv_run.proofs.Opening.{by_order, known_left, offers_say, opened_set}
pub use Rattle.cx_inv_run.proofs.Quorums.{column-Member, length-below, once_count, some_passes, wider}
pub use Rattle.cx_inv_run.proofs.Rounds.{at_most-trans, before-both, before-from_at_most, before-higher, before-itself, before-not}
pub use Rattle.cx_inv_run.proofs.Rounds.{before-to_at_least, before-trans, before_cases, itself-not_before, least, same_round-itself}
pub use Rattle.cx_inv_run.proofs.Rounds.{same_round-true}
pub use Rattle.cx_inv_run.proofs.Senders.{acceptor_kinds, batcher_kinds, matchmaker_kinds, proxy_kinds, reader_kinds, replica_kinds}
pub use Rattle.cx_inv_run.proofs.Senders.{unbatcher_kinds}
pub use Rattle.cx_inv_run.proofs.Sends.{batcher_sends, leader_sends, named, proxy_sends, replica_sends, sends_only, unbatcher_sends}
pub use Rattle.cx_inv_run.proofs.Snaps.{acceptor_snap_same, reader_same, reader_snap_same, snap_same}
pub use Rattle.cx_inv_run.proofs.Steps.{all_allowed, along, always, only_leader, run_append, run_cluster, run_from_keeps, run_keeps}
pub use Rattle.cx_inv_run.proofs.TieLaws.{ties_hold}
pub use Rattle.cx_inv_run.proofs.Tying.{held_is}
