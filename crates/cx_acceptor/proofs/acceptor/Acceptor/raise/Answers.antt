use Rattle.cx_acceptor.proofs.SoundLaws.{sound_water}
use Rattle.cx_acceptor.proofs.acceptor.Acceptor.raise.Goals as goal

pub invariant_of-self : goal.invariant_of-self
invariant_of-self c =
    rw (c.keep_from.ensures.items, c.max-self-inside.ensures)
    (sound_water c.self.inside.cluster c.self.inside.me _ c.self.invariant c.args.round c.requires.round
    (rw (← c.self.view_is) at c.requires.named) c.args.mark c.requires.mark)
