use Rattle.cx_match.proofs.SoundLaws.{garbage_fits, sound_garbage}
use Rattle.cx_match.proofs.matchmaker.Matchmaker.garbage_a.Goals as goal

pub keep_own-requires : goal.keep_own-requires
keep_own-requires g c = garbage_fits c.args.round c.args.grid c.requires.round c.requires.grid

pub invariant_of-self-2 : goal.invariant_of-self-2
invariant_of-self-2 g c =
    let above = rw c.is_before.ensures at c.if-not-is_before.false in
    let sound = sound_garbage c.self.inside.me _ c.args.round c.args.grid c.self.invariant c.requires.round c.requires.grid above in
    rw (c.retire.ensures, c.reserve.ensures.items) sound
