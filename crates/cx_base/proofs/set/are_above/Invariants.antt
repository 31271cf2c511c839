use Rattle.cx_base.proofs.Common.{◌≡◌, drop, is_above}
use Rattle.cx_base.proofs.set.are_above.Given as goal

abbrev pub invariant-loop-id : goal.invariant-loop-id
invariant-loop-id l = is_above (drop l.id-index l.ids) l.others ≡ is_above l.ids l.others
