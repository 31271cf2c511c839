-- What a node that tends its roles asks of a proxy leader.
use Rattle.std.specs.Prelude.{ℕ, Bool, false, not, List, Option, None, Some}
use Rattle.cx_role.specs.Prelude.{list_any, numbers, Pending, ProxyVolatile, pending_at}

-- whether a value is there that isn't known to be chosen
abbrev pub is_undecided : Option Pending → Bool
is_undecided None = false
is_undecided (Some p) = not p.done

-- whether the value of a slot from the chosen watermark that it knows on waits for votes
abbrev pub awaits_votes : ProxyVolatile → Bool
awaits_votes v = list_any (λ (s : ℕ). is_undecided (pending_at s v.pending)) (numbers v.known 32)
