-- What is promised of one run: that of these events over this cluster. Each sentence is under its name in cx_model's Promises, but for the
-- announcement, which is cx_inv_announce's, the change of grid, which is cx_inv_bypass's, recovery, which is cx_inv_open's, progress,
-- which is cx_inv_alive's, and linearizability, which is cx_linear's.
use Rattle.std.specs.Prelude.{◌≡◌, ℕ, true, List, slice_get, Some}
use Rattle.cx_model.specs.Prelude.{Cluster, Value, Event, KeptRecord, is_chosen, chosen_prefix, Begins, OfEveryRun, Agreement}
use Rattle.cx_model.specs.Prelude.{ReadsAreRight, ReadsAreOfTheirReplica, ReadsComeAfterAnswers, ReadsComeAfterReads}
use Rattle.cx_model.specs.Prelude.{SessionsComeAfterHeard, RoundsAskLater, TurnsAskLater, ReadsAskLater, OneNextSet, SetsAreDecided}
use Rattle.cx_model.specs.Prelude.{ForgottenIsKept, run, log_of}
use Rattle.cx_model.specs.Promises.{ListIsChosen, ReplicasHoldIt, ReplicasSendWhatTheyKept, ListGrows, MapsAreFolds, TablesAreFolds}
use Rattle.cx_model.specs.Promises.{NoneActsTwice, AnswersAreRight, ResultsAreRight, CommandsWereAsked, RequestsAreOnce}
use Rattle.cx_model.specs.Promises.{OrderIsKept, ChosenBelow, HeldBelow}
use Rattle.cx_model.specs.Promises.{NothingIsLost, RenewalsKeepAll, SetsAreAChain, EachBeginsOnce, KeptSetsAreDecided}
use Rattle.cx_inv_alive.specs.Alive.{NoDeadEnds}
use Rattle.cx_inv_announce.specs.Announced.{Announced}
use Rattle.cx_inv_bypass.specs.Bypassed.{BypassedRounds}
use Rattle.cx_inv_open.specs.Reopened.{RolesReopen}
use Rattle.cx_linear.specs.History.{IsLinearizableRun}

pub record IsLawful (c : Cluster) (es : List Event) : Type 0 where
  -- linearizability
  pub linearizable : IsLinearizableRun c es
  -- agreement
  pub agreement : Agreement c es
  -- one command list
  pub chosen : ListIsChosen c es
  pub replicas_hold_it : ReplicasHoldIt c es
  pub they_send_what_they_kept : ReplicasSendWhatTheyKept c es
  pub it_grows : ListGrows c es
  pub maps_are_folds : MapsAreFolds c es
  pub tables_are_folds : TablesAreFolds c es
  pub none_acts_twice : NoneActsTwice (chosen_prefix (run c es).kept)
  pub answers_are_right : AnswersAreRight c es
  pub results_are_right : ResultsAreRight c es
  pub commands_were_asked : CommandsWereAsked c es
  pub requests_are_once : RequestsAreOnce c es
  pub order : OrderIsKept c es
  -- fresh reads, and sessions
  pub reads_are_right : ReadsAreRight c es
  pub reads_of_their_replica : ReadsAreOfTheirReplica c es
  pub reads_after_answers : ReadsComeAfterAnswers c es
  pub reads_after_reads : ReadsComeAfterReads c es
  pub sessions_after_heard : SessionsComeAfterHeard c es
  -- safe retirement
  pub chosen_below : ChosenBelow c es
  pub held : HeldBelow c es
  pub rounds_ask_later : RoundsAskLater c es
  pub turns_ask_later : TurnsAskLater c es
  pub reads_ask_later : ReadsAskLater c es
  -- sets of matchmakers
  pub one_next_set : OneNextSet c es
  pub sets_are_a_chain : SetsAreAChain c es
  pub sets_are_decided : SetsAreDecided c es
  pub each_begins_once : EachBeginsOnce c es
  pub kept_sets_are_decided : KeptSetsAreDecided c es
  -- safe snapshots
  pub nothing_is_lost : NothingIsLost c es
  pub forgotten_is_kept : ForgottenIsKept c es
  pub renewals_keep_all : RenewalsKeepAll c es
  -- announcement
  pub announced : Announced c es
  -- change of grid
  pub bypassed_rounds : BypassedRounds c es
  -- recovery
  pub roles_reopen : RolesReopen c es
  -- progress
  pub no_dead_ends : NoDeadEnds c es

-- every run is so
abbrev pub RunsAreLawful : Type 0
RunsAreLawful = OfEveryRun IsLawful

-- A list of values is the one command list of these records: each value is chosen in its slot and no other one is, and what each replica
-- kept begins it.
pub record IsCommandList (c : Cluster) (history : List KeptRecord) (values : List Value) : Type 0 where
  pub chosen : (s : ℕ) (v : Value) → slice_get values s ≡ Some v → is_chosen history s v ≡ true
  pub only : (s : ℕ) (v w : Value) → slice_get values s ≡ Some v → is_chosen history s w ≡ true → w ≡ v
  pub replicas : (p : ℕ) → Begins (log_of p history) values
