use Rattle.cx_acceptor.proofs.SoundLaws.{sound_promise}
use Rattle.cx_acceptor.proofs.acceptor.Acceptor.phase1a.Goals as goal

pub invariant_of-self-2 : goal.invariant_of-self-2
invariant_of-self-2 g c =
    sound_promise c.self.inside.cluster c.self.inside.me _ c.self.invariant c.args.round c.requires.round
    (rw (← c.self.view_is) at c.requires.named)
