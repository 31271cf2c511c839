-- Roles whose kinds have rising codes stand apart.
use Rattle.cx_base.proofs.Common.{◌≡◌, ℕ, zero, suc, Bool, true, false, ◌==◌, ◌&&◌, ◌+◌, List, [], ◌∷◌, Some, slice_get, refl, sym, ap, ◌∙◌}
use Rattle.cx_base.proofs.Common.{arith, nat_tests, same_Some, code_of, role}
use Rattle.cx_base.specs.declared.role.RoleId.{RoleId}
use Rattle.cx_base.specs.declared.role.Kind.TheVariants as kind
use Rattle.cx_seat.specs.Opening.{AreApart}

-- the codes of their kinds are the numbers from n on
abbrev count_from : ℕ → List RoleId → Bool
count_from n [] = true
count_from n (r ∷ rs) = (code_of r.kind == n) && count_from (suc n) rs

first : (a b : Bool) → (a && b) ≡ true → a ≡ true
first true b h = refl
first false b h = cc

rest : (a b : Bool) → (a && b) ≡ true → b ≡ true
rest true b h = h
rest false b h = cc

same_number : (i j : ℕ) → (i == j) ≡ true → i ≡ j
same_number i j h = grind (arith, nat_tests)

place_of : (n : ℕ) (roles : List RoleId) → count_from n roles ≡ true
    → (i : ℕ) (me : RoleId) → slice_get roles i ≡ Some me → code_of me.kind ≡ n + i
place_of n [] count i me at = cc
place_of n (r ∷ rs) count zero me at =
    let code : code_of r.kind ≡ n = same_number (code_of r.kind) n (first (code_of r.kind == n) (count_from (suc n) rs) count) in
    let none : n ≡ n + zero = omega arith in
    ap (λ (a : RoleId). code_of a.kind) (sym (same_Some _ _ at)) ∙ code ∙ none
place_of n (r ∷ rs) count (suc i) me at =
    let next : suc n + i ≡ n + suc i = omega arith in
    place_of (suc n) rs (rest (code_of r.kind == n) (count_from (suc n) rs) count) i me at ∙ next

apart : (n : ℕ) (roles : List RoleId) → count_from n roles ≡ true → AreApart roles
apart n roles count i j me at too =
    let same : n + i ≡ n + j = sym (place_of n roles count i me at) ∙ place_of n roles count j me too in
    omega arith

-- the roles of the node, without and with its client
abbrev servers : List RoleId
servers =
    role kind.Batcher 0 ∷ role kind.Leader 0 ∷ role kind.Proxy 0 ∷ role kind.Acceptor 0 ∷ role kind.Matchmaker 0
    ∷ role kind.Replica 0 ∷ role kind.Unbatcher 0 ∷ role kind.Reader 0 ∷ []

pub servers_apart : AreApart servers
servers_apart = apart 2 servers refl

pub all_apart : AreApart (role kind.Client 0 ∷ servers)
all_apart = apart 1 (role kind.Client 0 ∷ servers) refl
