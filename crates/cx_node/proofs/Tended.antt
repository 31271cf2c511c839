-- The parts of a tended turn, as acts.
use Rattle.std.proofs.lemmas.List.Sums.{length-filter, sum-map, sum_by-cons}
use Rattle.cx_role.proofs.Common.{◌≡◌, ◌+◌, not, ℕ, min, length, Bool, true, false, cond, List, [], ◌∷◌, map, Option, None, Some}
use Rattle.cx_role.proofs.Common.{option_map, Ok, Err, slice_get, if◌then◌else◌, refl, sym, ap, ap₂, ◌∙◌, subst, append-nil, OnOk, filter}
use Rattle.cx_role.proofs.Common.{is_some, count_by, sum_by, option_map_or, none-some, same_Some, Cluster, Kind, RoleId, role}
use Rattle.cx_role.proofs.Common.{LeaderDurable, LeaderVolatile, Running, Letter}
use Rattle.cx_seat.specs.Prelude.{hosted_in, hosted_of, Hosted, Course, Moved, stays, took, then_do, brought, is_client, hosted_place, Care}
use Rattle.cx_seat.specs.Prelude.{Tended, asks_again, beat, beat_over, clients_noted, completed, care_after_turn, gets, heeded, in_turn}
use Rattle.cx_seat.specs.Prelude.{is_beat, is_of_kind, is_overtaken, leader_asked, leader_cared, leader_tended, next_pass, passes}
use Rattle.cx_seat.specs.Prelude.{standing_of, those_tick, within, Numbered, numbered}
use Rattle.cx_base.specs.declared.role.Kind.TheVariants as kind
use Rattle.cx_node.specs.declared.come.Come.TheVariants as come
use Rattle.cx_seat.specs.declared.guest.Guest.{Guest}
use Rattle.cx_course.specs.declared.standing.Standing.{Standing}
use Rattle.cx_node.specs.Acts.{come_of, read_as}
use Rattle.cx_course.specs.Tending.{all_completed, at_or_none, brings_heeded, clients_tended, completed_by, first_leader, held_by_role}
use Rattle.cx_course.specs.Tending.{held_of, hosted_as, kind_ticks, leader_of, others_tick, pass_begun, tend_comes, turn_ended, with_care}
use Rattle.cx_node.specs.Tends.{tended}
use Rattle.cx_node.proofs.Actions.{Done}
use Rattle.cx_node.proofs.SeatedActs.{hosted_at}

-- ---- who is hosted

hosted_none : {K : Type 0} (gs : List (Guest K)) (who : RoleId) → hosted_place who (hosted_in gs) ≡ None
    → hosted_as who (hosted_in gs) ≡ None
hosted_none gs who none = ap (λ (o : Option ℕ). at_or_none o (hosted_in gs)) none

hosted_some : {K : Type 0} (gs : List (Guest K)) (who : RoleId) (i : ℕ) (h : Guest K) → hosted_place who (hosted_in gs) ≡ Some i
    → slice_get gs i ≡ Some h → hosted_as who (hosted_in gs) ≡ Some (hosted_of h)
hosted_some gs who i h found here = ap (λ (o : Option ℕ). at_or_none o (hosted_in gs)) found ∙ hosted_at gs i h here

pub held_none : {K : Type 0} (gs : List (Guest K)) (who : RoleId) → hosted_place who (hosted_in gs) ≡ None
    → 0 ≡ held_by_role who (hosted_in gs)
unfolding held_by_role
held_none gs who none = sym (ap (λ (o : Option Hosted). option_map_or held_of o 0) (hosted_none gs who none))

pub held_some : {K : Type 0} (gs : List (Guest K)) (who : RoleId) (i : ℕ) (h : Guest K) → hosted_place who (hosted_in gs) ≡ Some i
    → slice_get gs i ≡ Some h → held_of (hosted_of h) ≡ held_by_role who (hosted_in gs)
unfolding held_by_role
held_some gs who i h found here = sym (ap (λ (o : Option Hosted). option_map_or held_of o 0) (hosted_some gs who i h found here))

pub first_none : {K : Type 0} (gs : List (Guest K)) → hosted_place (role kind.Leader 0) (hosted_in gs) ≡ None
    → first_leader (hosted_in gs) ≡ None
unfolding first_leader
first_none gs none = rw (hosted_none gs (role kind.Leader 0) none)

pub first_some : {K : Type 0} (gs : List (Guest K)) (i : ℕ) (h : Guest K) → hosted_place (role kind.Leader 0) (hosted_in gs) ≡ Some i
    → slice_get gs i ≡ Some h → first_leader (hosted_in gs) ≡ leader_of (hosted_of h)
unfolding first_leader
first_some gs i h found here = rw (hosted_some gs (role kind.Leader 0) i h found here)

-- ---- what hosted clients have completed

sum_hosted : {K : Type 0} (f : Hosted → ℕ) (gs : List (Guest K)) → sum_by (λ g. f (hosted_of g)) gs ≡ sum_by f (hosted_in gs)
sum_hosted f [] = refl
sum_hosted f (g ∷ gs) = sum_by-cons (λ a. f (hosted_of a)) g gs ∙ ap (λ (n : ℕ). f (hosted_of g) + n) (sum_hosted f gs)
    ∙ sym (sum_by-cons f (hosted_of g) (hosted_in gs))

pub clients_there : {K : Type 0} (gs : List (Guest K))
    → length (filter (λ g. is_client (hosted_of g)) gs) ≡ count_by is_client (hosted_in gs)
clients_there gs = length-filter (λ g. is_client (hosted_of g)) gs ∙ sum_hosted (λ h. cond (is_client h) 1 0) gs

pub all_there : {K : Type 0} (gs : List (Guest K))
    → min (sum_by (λ g. completed (hosted_of g)) gs) 18446744073709551615 ≡ all_completed (hosted_in gs)
all_there gs = ap (λ (n : ℕ). min n 18446744073709551615) (sum_hosted completed gs ∙ sym (sum-map completed (hosted_in gs)))

pub marks_there : {K : Type 0} (gs : List (Guest K)) → map (λ g. completed (hosted_of g)) gs ≡ completed_by (hosted_in gs)
marks_there [] = refl
marks_there (g ∷ gs) = ap (λ (l : List ℕ). completed (hosted_of g) ∷ l) (marks_there gs)

-- ---- what comes of a take

read_heeded : (o : Option Numbered) (s : Course) (n : ℕ) (d : Letter) → read_as o ≡ come.Letter n d
    → brings_heeded o s ≡ heeded (numbered n d) s
read_heeded None s n d is = cc
read_heeded (Some x) s n d is =
    let number : x.number ≡ n = cc in
    let letter : x.letter ≡ d = cc in
    ap₂ (λ (m : ℕ) (l : Letter). heeded (numbered m l) s) number letter

read_foreign : (o : Option Numbered) (s : Course) → read_as o ≡ come.Foreign → brings_heeded o s ≡ stays s
read_foreign None s is = refl
read_foreign (Some x) s is = cc

read_nothing : (o : Option Numbered) → read_as o ≡ come.Nothing → ⊥
read_nothing None is = cc
read_nothing (Some x) is = cc

pub letter_heeded : (what : Option (List ℕ)) (s : Course) (n : ℕ) (d : Letter) → come_of s.recorded what ≡ come.Letter n d
    → (tend_comes what s ≡ took what (heeded (numbered n d) s)) × (is_some what ≡ true)
unfolding tend_comes
letter_heeded None s n d is = cc
letter_heeded (Some bytes) s n d is = (ap (took (Some bytes)) (read_heeded (brought s.recorded bytes) s n d is), refl)

pub foreign_heeded : (what : Option (List ℕ)) (s : Course) → come_of s.recorded what ≡ come.Foreign
    → (tend_comes what s ≡ took what (stays s)) × (is_some what ≡ true)
unfolding tend_comes
foreign_heeded None s is = cc
foreign_heeded (Some bytes) s is = (ap (took (Some bytes)) (read_foreign (brought s.recorded bytes) s is), refl)

pub nothing_heeded : (what : Option (List ℕ)) (s : Course) → come_of s.recorded what ≡ come.Nothing
    → (tend_comes what s ≡ took what (stays s)) × (is_some what ≡ false)
unfolding tend_comes
nothing_heeded None s is = (refl, refl)
nothing_heeded (Some bytes) s is = absurd (read_nothing (brought s.recorded bytes) is)

-- whatever a take gave, what comes of it comes after it
abbrev pub what_heeded : Option (List ℕ) → Course → Moved Course
what_heeded None s = stays s
what_heeded (Some bytes) s = brings_heeded (brought s.recorded bytes) s

pub all_heeded : (what : Option (List ℕ)) (s : Course) → tend_comes what s ≡ took what (what_heeded what s)
unfolding tend_comes
all_heeded None s = refl
all_heeded (Some bytes) s = refl

-- ---- acts

pub then_stays : (m : Moved Course) → then_do m (λ s. stays s) ≡ m
then_stays m = λ i. record { next = m.next; actions = append-nil m.actions i }

abbrev clients_pass : Care → Course → Moved Tended
clients_pass x s = if passes (count_by is_client s.hosted) (all_completed s.hosted) x then next_pass (tended x s) else stays (tended x s)

abbrev clients_go : Care → Course → Moved Tended
clients_go x s = if asks_again x.still then within (kind_ticks kind.Client) (tended x s) else clients_pass x s

clients_done : (k now : Care) (s : Course) → now ≡ clients_noted (all_completed s.hosted) k → clients_tended (tended k s) ≡ clients_go now s
unfolding clients_tended
clients_done k now s is = ap (λ (x : Care). clients_go x s) (sym is)

-- all clients ask again, or those that were overtaken, or none
pub clients_ask : (k now : Care) (done : ℕ) (s : Course) → now ≡ clients_noted done k → done ≡ all_completed s.hosted
    → asks_again now.still ≡ true → clients_tended (tended k s) ≡ within (kind_ticks kind.Client) (tended now s)
clients_ask k now done s is all e =
    clients_done k now s (is ∙ ap (λ (x : ℕ). clients_noted x k) all)
    ∙ ap (λ (t : Bool). if t then within (kind_ticks kind.Client) (tended now s) else clients_pass now s) e

clients_quiet : (k now : Care) (n done : ℕ) (t : Bool) (s : Course) → now ≡ clients_noted done k → done ≡ all_completed s.hosted
    → n ≡ count_by is_client s.hosted → asks_again now.still ≡ false → passes n done now ≡ t
    → clients_tended (tended k s) ≡ (if t then next_pass (tended now s) else stays (tended now s))
clients_quiet k now n done t s is all count e over =
    clients_done k now s (is ∙ ap (λ (x : ℕ). clients_noted x k) all)
    ∙ ap (λ (x : Bool). if x then within (kind_ticks kind.Client) (tended now s) else clients_pass now s) e
    ∙ ap (λ (x : Bool). if x then next_pass (tended now s) else stays (tended now s))
    (ap (λ (x : ℕ). passes x (all_completed s.hosted) now) (sym count) ∙ ap (λ (x : ℕ). passes n x now) (sym all) ∙ over)

pub clients_over : (k now : Care) (n done : ℕ) (s : Course) → now ≡ clients_noted done k → done ≡ all_completed s.hosted
    → n ≡ count_by is_client s.hosted → asks_again now.still ≡ false → passes n done now ≡ true
    → clients_tended (tended k s) ≡ next_pass (tended now s)
clients_over k now n done s is all count e over = clients_quiet k now n done true s is all count e over

pub clients_wait : (k now : Care) (n done : ℕ) (s : Course) → now ≡ clients_noted done k → done ≡ all_completed s.hosted
    → n ≡ count_by is_client s.hosted → asks_again now.still ≡ false → passes n done now ≡ false
    → clients_tended (tended k s) ≡ stays (tended now s)
clients_wait k now n done s is all count e over = clients_quiet k now n done false s is all count e over

-- the leader gets what it is asked, or there is none
pub leader_some : (c : Cluster) (o : Option (Running LeaderDurable LeaderVolatile)) (is_at : Standing) (k : Care) (s : Course)
    → Some is_at ≡ option_map standing_of o
    → leader_tended c o (tended k s) ≡ with_care (leader_cared is_at k) (gets (leader_asked c is_at (leader_cared is_at k)) s)
leader_some c None is_at k s is = absurd (none-some is_at (sym is))
leader_some c (Some l) is_at k s is = ap (λ (x : Standing). with_care (leader_cared x k) (gets (leader_asked c x (leader_cared x k)) s))
    (sym (same_Some is_at (standing_of l) is))

pub leader_none : (c : Cluster) (o : Option (Running LeaderDurable LeaderVolatile)) (k : Care) (s : Course)
    → None ≡ option_map standing_of o → leader_tended c o (tended k s) ≡ stays (tended k s)
leader_none c None k s is = refl
leader_none c (Some l) k s is = absurd (none-some (standing_of l) is)

abbrev ended : Cluster → ℕ → Care → Course → Moved Tended
ended c most x s = if is_beat most x then beat c (tended (beat_over x) s) else stays (tended x s)

-- a turn ends with a beat, or without one
pub ended_beat : (c : Cluster) (k now begun : Care) (most : ℕ) (came : Bool) (s : Course) → now ≡ care_after_turn came k
    → is_beat most now ≡ true → begun ≡ beat_over now → turn_ended c most came (tended k s) ≡ beat c (tended begun s)
unfolding turn_ended
ended_beat c k now begun most came s is e over =
    ap (λ (x : Care). ended c most x s) (sym is) ∙ ap (λ (t : Bool). if t then beat c (tended (beat_over now) s) else stays (tended now s))
    e ∙ ap (λ (x : Care). beat c (tended x s)) (sym over)

pub ended_still : (c : Cluster) (k now : Care) (most : ℕ) (came : Bool) (s : Course) → now ≡ care_after_turn came k
    → is_beat most now ≡ false → turn_ended c most came (tended k s) ≡ stays (tended now s)
unfolding turn_ended
ended_still c k now most came s is e = ap (λ (x : Care). ended c most x s) (sym is)
    ∙ ap (λ (t : Bool). if t then beat c (tended (beat_over now) s) else stays (tended now s)) e

-- what is counted, where it is known what is done
pub on_ok : (r : Done) (P : Type 0) → P → OnOk r P
on_ok (Ok u) P p = p
on_ok (Err e) P p = tt

pub counts_as : (m n : Moved Tended) (r : Done) (k : Care) → m ≡ n → OnOk r (k ≡ n.next.care) → OnOk r (k ≡ m.next.care)
counts_as m n r k is p = subst (λ (x : Moved Tended). OnOk r (k ≡ x.next.care)) (sym is) p

-- the next pass begins with what is completed after it
pub pass_counts : (now after : Care) (counts : List ℕ) (s last : Course) → last ≡ (in_turn (is_overtaken now.counts) now.queue s).next
    → counts ≡ completed_by last.hosted → after ≡ pass_begun counts now → after ≡ (next_pass (tended now s)).next.care
pass_counts now after counts s last there is begun =
    begun ∙ ap (λ (l : List ℕ). pass_begun l now) (is ∙ ap (λ (x : Course). completed_by x.hosted) there)

pub kind_is : (k : Kind) (s : Course) → kind_ticks k s ≡ those_tick (λ i h. is_of_kind k h) s
unfolding kind_ticks
kind_is k s = refl

pub others_is : (s : Course) → others_tick s ≡ those_tick (λ i h. not (is_client h)) s
unfolding others_tick
others_is s = refl
