-- A leader that was just opened.
use Rattle.std.proofs.lemmas.List.Elements.{All-nil, All-cons}
use Rattle.cx_role.proofs.Common.{◌≡◌, ◌<◌, ◌≤◌, ◌+◌, ◌^◌, ℕ, zero, suc, true, nat_lt, map, length, All, IsTrue, refl, ap, arith, sym}
use Rattle.cx_role.proofs.Common.{ltb-true, Cluster, Kind, RoleId, numbers, below, role, names_role}
use Rattle.cx_role.proofs.Common.kind
use Rattle.cx_leader.specs.State.{AreHeldNumbers}

-- a role of a leader's kind is the leader of its index
pub leader_itself : (me : RoleId) → me.kind ≡ kind.Leader → role kind.Leader me.index ≡ me
leader_itself me is = ap (λ (k : Kind). role k me.index) (sym is)

pub leader_named : (c : Cluster) (me : RoleId) → me.kind ≡ kind.Leader → IsTrue (names_role c me) → me.index < c.leaders
leader_named c me is named = let below : nat_lt me.index c.leaders ≡ true = rw is at named in ltb-true me.index c.leaders below

length-zeros : (first n : ℕ) → length {A = ℕ} (map (λ (r : ℕ). 0) (numbers first n)) ≡ n
length-zeros first zero = refl
length-zeros first (suc n) = omega (arith, length-zeros (first + 1) n)

zeros_low : (k first n : ℕ) → All (λ h. h ≤ k) (map (λ (r : ℕ). 0) (numbers first n))
zeros_low k first zero = All-nil (λ h. h ≤ k)
zeros_low k first (suc n) = All-cons (λ h. h ≤ k) 0 (map (λ (r : ℕ). 0) (numbers (first + 1) n)) (omega arith) (zeros_low k (first + 1) n)

-- no replica reported anything
pub none_told : (c : Cluster) → AreHeldNumbers c (map (λ (r : ℕ). 0) (below c.replicas))
none_told c = record { count = length-zeros 0 c.replicas; bounded = zeros_low (2 ^ 40) 0 c.replicas }

-- what opening a leader needs
pub ruleset openings = (leader_itself, leader_named, none_told)
