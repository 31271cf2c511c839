use Rattle.cx_replay.proofs.Lawful.{lawful_generated}
use Rattle.cx_replay.proofs.generating.run_gen.Goals as goal

pub returns-in-Err-clause-lawful : goal.returns-in-Err-clause-lawful
returns-in-Err-clause-lawful g c = lawful_generated c.args.seed c.args.count

pub returns-then-not-write_all-clause-lawful : goal.returns-then-not-write_all-clause-lawful
returns-then-not-write_all-clause-lawful g c = lawful_generated c.args.seed c.args.count

pub returns-clause-lawful : goal.returns-clause-lawful
returns-clause-lawful g c = lawful_generated c.args.seed c.args.count
