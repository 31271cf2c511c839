use Rattle.cx_base.specs.Asked.{is_valid_event}
use Rattle.cx_script.proofs.Takes.{spelled_is_good, schedule_is_good}
use Rattle.cx_script.specs.Names.{names_event}
use Rattle.cx_script.proofs.law.spelled_events_are_taken.Goals as goal

pub returns-clause-taken : goal.returns-clause-taken
returns-clause-taken c = λ c line event is. (spelled_is_good c line event is).taken

pub returns-clause-named : goal.returns-clause-named
returns-clause-named c = λ c line event is. (spelled_is_good c line event is).named

pub returns-clause-all_taken : goal.returns-clause-all_taken
returns-clause-all_taken c = λ c. schedule_is_good c is_valid_event (λ e h. h.taken)

pub returns-clause-all_named : goal.returns-clause-all_named
returns-clause-all_named c = λ c. schedule_is_good c (names_event c) (λ e h. h.named)
