-- The result of a part of a tended turn: what its roles did, and what is counted.
use Rattle.std.specs.Prelude.{◌≡◌, ℕ, List, [], Option, Result, OnOk}
use Rattle.cx_seat.specs.Prelude.{Changing, Course, Moved, Care, Tended, first_leader, leader_tended, without_care}
use Rattle.cx_base.specs.declared.cluster.Cluster.{Cluster}
use Rattle.cx_node.specs.declared.node.Stop.{Stop}
use Rattle.cx_node.specs.Acts.{Acts}
use Rattle.cx_node.specs.Doing.{Scene, course_in}
use Rattle.cx_node.specs.Tends.{TendsOnce, tended}

-- what the roles did in a part without a take, by what was counted before it
abbrev pub ActsTended : {K : Type 0} → Changing K → Cluster → (Tended → Moved Tended) → Result (Unit {0}) Stop → Care
    → Scene K → Scene K → Type 0
ActsTended gives c part result before old new =
    Acts gives c [] (without_care (part (tended before (course_in old)))) result old new

-- what is counted after it
abbrev pub IsCareAfter : (Tended → Moved Tended) → Result (Unit {0}) Stop → Care → Care → Course → Type 0
IsCareAfter part result before after s = OnOk result (after ≡ (part (tended before s)).next.care)

-- a turn, by what its take gave: what the roles did, and what is counted after it
abbrev pub ActsTurn : {K : Type 0} → Changing K → Cluster → (Option (List ℕ) → Tended → Moved Tended)
    → Result (Unit {0}) Stop → Care → Care → Scene K → Scene K → Type 0
ActsTurn gives c turn result before after old new =
    TendsOnce gives c (λ what. turn what (tended before (course_in old))) result old new after

-- the leader's part of a beat
abbrev pub leader_part : Cluster → Tended → Moved Tended
leader_part c t = leader_tended c (first_leader t.course.hosted) t
