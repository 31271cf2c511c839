use Rattle.cx_script.proofs.Rising.{requests_are_named, requests_are_plain, requests_are_scripts, requests_are_taken}
use Rattle.cx_script.proofs.law.requests_rise.Goals as goal

pub returns-clause-scripts : goal.returns-clause-scripts
returns-clause-scripts c = requests_are_scripts

pub returns-clause-all_named : goal.returns-clause-all_named
returns-clause-all_named c = requests_are_named

pub returns-clause-all_taken : goal.returns-clause-all_taken
returns-clause-all_taken c = requests_are_taken

pub returns-clause-floors : goal.returns-clause-floors
returns-clause-floors c = requests_are_plain
