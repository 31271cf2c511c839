use Rattle.cx_base.proofs.Common.{◌≡◌, map, drop}
use Rattle.cx_explain.specs.Meant.{at_distance}
use Rattle.cx_explain.proofs.meant.at_distance.Given as goal

abbrev pub invariant-loop-other : goal.invariant-loop-other
invariant-loop-other l =
    at_distance l.count l.word (map (λ text. text.now) (drop l.other-index l.known))
    ≡ at_distance l.count l.word (map (λ text. text.now) l.known)
