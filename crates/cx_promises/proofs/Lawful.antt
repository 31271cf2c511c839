-- Every run is lawful: its promises, put together from the law crates.
use Rattle.cx_model.specs.Prelude.{List, Cluster, Event, chosen_prefix, run}
use Rattle.cx_inv_vote.proofs.Agree.{agreement}
use Rattle.cx_inv_vote.proofs.KeptSets.{kept_sets_are_decided}
use Rattle.cx_inv_vote.proofs.OneSet.{one_next_set, sets_are_a_chain, sets_are_decided}
use Rattle.cx_inv_alive.proofs.Runs.{no_dead_ends}
use Rattle.cx_inv_announce.proofs.Steps.{announced}
use Rattle.cx_inv_bypass.proofs.Steps.{bypassed_rounds}
use Rattle.cx_inv_held.proofs.Steps.{kept_watermarks, safe_snapshots}
use Rattle.cx_inv_open.proofs.Begins.{each_begins_once}
use Rattle.cx_inv_open.proofs.Steps.{roles_reopen}
use Rattle.cx_inv_list.proofs.Answers.{answers_are_of_a_log, one_list, reads_tell, sent_as_kept}
use Rattle.cx_inv_list.proofs.Requests.{requests_are_once}
use Rattle.cx_inv_list.proofs.Right.{machine_is_the_fold}
use Rattle.cx_inv_read.proofs.Results.{after_answers, after_reads}
use Rattle.cx_inv_retire.proofs.Later.{rounds_ask_later, turns_ask_later, reads_ask_later}
use Rattle.cx_linear.proofs.Orders.{linearizable}
use Rattle.cx_promises.specs.Lawful.{IsLawful, IsCommandList}
use Rattle.cx_promises.proofs.Heard.{heard_before}

pub lawful : (c : Cluster) (es : List Event) → IsLawful c es
lawful c es = record {
  linearizable = linearizable c es;
  agreement = agreement c es;
  chosen = one_list.chosen c es;
  replicas_hold_it = one_list.replicas_hold_it c es;
  they_send_what_they_kept = sent_as_kept c es;
  it_grows = one_list.it_grows c es;
  maps_are_folds = machine_is_the_fold.map c es;
  tables_are_folds = machine_is_the_fold.table c es;
  none_acts_twice = one_list.none_acts_twice _;
  answers_are_right = one_list.answers_are_right c es;
  results_are_right = answers_are_of_a_log.results c es;
  commands_were_asked = one_list.commands_were_asked c es;
  requests_are_once = requests_are_once c es;
  order = one_list.order c es;
  reads_are_right = reads_tell c es;
  reads_of_their_replica = answers_are_of_a_log.read c es;
  reads_after_answers = after_answers c es;
  reads_after_reads = after_reads c es;
  sessions_after_heard = heard_before c es;
  chosen_below = kept_watermarks.chosen_below c es;
  held = kept_watermarks.held c es;
  rounds_ask_later = rounds_ask_later c es;
  turns_ask_later = turns_ask_later c es;
  reads_ask_later = reads_ask_later c es;
  one_next_set = one_next_set c es;
  sets_are_a_chain = sets_are_a_chain c es;
  sets_are_decided = sets_are_decided c es;
  each_begins_once = each_begins_once c es;
  kept_sets_are_decided = kept_sets_are_decided c es;
  nothing_is_lost = safe_snapshots.nothing_is_lost c es;
  forgotten_is_kept = safe_snapshots.forgotten_is_kept c es;
  renewals_keep_all = safe_snapshots.renewals_keep_all c es;
  announced = announced c es;
  bypassed_rounds = bypassed_rounds c es;
  roles_reopen = roles_reopen c es;
  no_dead_ends = no_dead_ends c es;
}

pub prefix_is_the_list : (c : Cluster) (es : List Event) → IsCommandList c (run c es).kept (chosen_prefix (run c es).kept)
prefix_is_the_list c es = record {
  chosen = one_list.chosen c es;
  only = λ s v w at chosen. agreement c es s w v chosen (one_list.chosen c es s v at);
  replicas = one_list.replicas_hold_it c es;
}
