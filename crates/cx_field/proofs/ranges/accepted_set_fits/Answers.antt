use Rattle.std.proofs.Common.{◌<◌, ℕ, List, get_or, subst}
use Rattle.cx_field.proofs.SetLaws.{accepted_set_in_range}
use Rattle.cx_field.proofs.ranges.accepted_set_fits.Goals as goal

pub returns : goal.returns
returns c =
    let small : (i : ℕ) → get_or c.args.set.now i 0 < 65536 =
    subst (λ (ids : List ℕ). (i : ℕ) → get_or ids i 0 < 65536) c.ids.ensures.ids c.ids_fit.ensures in
    accepted_set_in_range c.args.accepted.now c.args.set.now c.ids.ensures.room c.ids.ensures.rising small c.requires
