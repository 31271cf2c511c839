-- The result of a part of a tended turn: what its roles did, and what it counted.
use Rattle.std.specs.Prelude.{◌≡◌, ℕ, Bool, not, List, [], ◌∷◌, Option, Result, Ok, Err, OnOk}
use Rattle.cx_seat.specs.Prelude.{Changing, Hosted, Course, Moved, is_client, Care, Tended, awaits_votes_at, is_of_kind, is_overtaken}
use Rattle.cx_seat.specs.Prelude.{without_care}
use Rattle.cx_base.specs.declared.cluster.Cluster.{Cluster}
use Rattle.cx_node.specs.declared.node.Stop.{Stop}
use Rattle.cx_node.specs.declared.whom.Whom.{Whom}
use Rattle.cx_node.specs.declared.whom.Whom.TheVariants.{Awaiting, Kind, Others, Overtaken}
use Rattle.cx_node.specs.Acts.{Acts}
use Rattle.cx_node.specs.Doing.{Scene}

-- these roles, with these counts
abbrev pub tended : Care → Course → Tended
tended k s = record { care = k; course = s }

-- which roles are meant, by their places, where these numbers were completed when the pass began
abbrev pub is_meant : Whom → List ℕ → ℕ → Hosted → Bool
is_meant (Kind k) counts = λ i h. is_of_kind k h
is_meant Others counts = λ i h. not (is_client h)
is_meant Awaiting counts = λ i h. awaits_votes_at h
is_meant Overtaken counts = is_overtaken counts

-- whether it was done at all
abbrev pub done_of : {T : Type 0} → Result T Stop → Result (Unit {0}) Stop
done_of (Ok x) = Ok tt
done_of (Err e) = Err e

-- What one take gave, what the roles did with it, and what is counted.
abbrev pub TendsOnce : {K : Type 0} → Changing K → Cluster → (Option (List ℕ) → Moved Tended)
    → Result (Unit {0}) Stop → Scene K → Scene K → Care → Type 0
TendsOnce gives c f result old new care =
    (what : Option (List ℕ)) × Acts gives c (what ∷ []) (without_care (f what)) result old new
    × OnOk result (care ≡ (f what).next.care)
