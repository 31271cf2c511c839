use Rattle.cx_script.proofs.Generated.{generated_is_good}
use Rattle.cx_script.proofs.law.generated_events_are_taken.Goals as goal

pub returns-clause-taken : goal.returns-clause-taken
returns-clause-taken c = λ g sent. (generated_is_good g sent).taken

pub returns-clause-named : goal.returns-clause-named
returns-clause-named c = λ g sent. (generated_is_good g sent).named
