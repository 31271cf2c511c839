use Rattle.cx_replica.proofs.Rises.{notes_above}
use Rattle.cx_replica.proofs.machine.Machine.with_client.Goals as goal

pub push-requires-clause-above : goal.push-requires-clause-above
push-requires-clause-above c = notes_above c.args.floor c.args.notes.now c.requires.above
