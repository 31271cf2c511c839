use Rattle.cx_role.proofs.Ranges.{real_above}
use Rattle.cx_match.proofs.SoundLaws.{stop_fits, sound_stop}
use Rattle.cx_match.proofs.matchmaker.Matchmaker.stop_a.Goals as goal

pub stop_nack-requires-clause-other : goal.stop_nack-requires-clause-other
stop_nack-requires-clause-other g c =
    real_above c.args.round c.self.inside.ballot c.requires.round c.self.invariant.ballot (rw c.is_before.ensures at c.if-is_before.true)

pub keep_own-requires : goal.keep_own-requires
keep_own-requires g c = stop_fits c.args.round c.requires.round

pub invariant_of-self-2 : goal.invariant_of-self-2
invariant_of-self-2 g c = sound_stop c.self.inside.me _ c.self.invariant c.args.round c.requires.round
