use Rattle.cx_match.proofs.SoundLaws.{boot_fits, sound_boot}
use Rattle.cx_match.proofs.matchmaker.Matchmaker.boot.Goals as goal

pub keep_own-requires : goal.keep_own-requires
keep_own-requires g c = rw c.in_ok-entries.ensures
    (boot_fits c.args.set.now c.args.watermark c.args.entries.now c.set_fits.ensures c.requires.watermark c.requires.entries)

pub invariant_of-self-2 : goal.invariant_of-self-2
invariant_of-self-2 g c = rw (c.in_ok-begun.ensures, c.as_slice.ensures.items) (sound_boot c.self.inside.me _ c.self.invariant
    c.args.set.now c.args.watermark c.args.entries.now c.requires.watermark c.requires.entries)
