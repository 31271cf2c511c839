use Rattle.cx_record.proofs.Reading.{events_back, line_back}
use Rattle.cx_record.proofs.law.written_lines_are_read.Goals as goal

pub returns-clause-line : goal.returns-clause-line
returns-clause-line c = line_back

pub returns-clause-all : goal.returns-clause-all
returns-clause-all c = events_back
