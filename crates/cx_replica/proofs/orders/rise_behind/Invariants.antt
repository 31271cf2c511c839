use Rattle.cx_base.proofs.Common.{◌≡◌, ◌∷◌, drop, rises}
use Rattle.cx_kv.specs.Rising.{has_lower_key}
use Rattle.cx_replica.proofs.orders.rise_behind.Given as goal

abbrev pub invariant-loop-pair : goal.invariant-loop-pair
invariant-loop-pair l = rises has_lower_key (l.last ∷ drop l.pair-index l.pairs) ≡ rises has_lower_key (l.first ∷ l.pairs)
