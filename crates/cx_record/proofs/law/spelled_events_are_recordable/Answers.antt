use Rattle.cx_record.proofs.Spelled.{requests_are_recordable, scripts_are_recordable, spelled_is_recordable}
use Rattle.cx_record.proofs.law.spelled_events_are_recordable.Goals as goal

pub returns-clause-line : goal.returns-clause-line
returns-clause-line c = spelled_is_recordable

pub returns-clause-requests : goal.returns-clause-requests
returns-clause-requests c = requests_are_recordable

pub returns-clause-scripts : goal.returns-clause-scripts
returns-clause-scripts c = scripts_are_recordable
