use Rattle.cx_kv.proofs.acting.ExecutedCommands.push.Goals as goal

pub invariant_of-self-2 : goal.invariant_of-self-2
invariant_of-self-2 c = rw c.of.ensures (c.in_ok-note.ensures.ok c.self.inside.commands.items c.self.invariant)
