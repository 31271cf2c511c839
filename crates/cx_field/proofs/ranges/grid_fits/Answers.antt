use Rattle.std.proofs.Common.{◌<◌, ℕ, List, get_or, subst}
use Rattle.cx_field.proofs.RangeLaws.{grid_in_range}
use Rattle.cx_field.proofs.ranges.grid_fits.Goals as goal

pub returns : goal.returns
returns c =
    let small : (i : ℕ) → get_or c.args.grid.now.members i 0 < 65536 =
    subst (λ (ms : List ℕ). (i : ℕ) → get_or ms i 0 < 65536) c.members.ensures.members c.ids_fit.ensures in
    grid_in_range c.args.grid.now c.members.ensures.grid small
