-- How many receive a value.
use Rattle.std.proofs.lemmas.Grind.{length_at_push}
use Rattle.cx_role.proofs.Common.{◌≡◌, ℕ, zero, suc, ◌+◌, ◌-◌, ◌<◌, ◌≤◌, Bool, true, ◌==◌, ◌||◌, List, [], ◌∷◌, ◌++◌, filter, map, length}
use Rattle.cx_role.proofs.Common.{refl, ap, append_assoc, length-append, arith, nat_tests, is_in, numbers, below, Cluster, RoleId, Pending}
use Rattle.cx_role.proofs.Common.{Letter, length-map, pending_at}
use Rattle.cx_grid.proofs.Crossing.{numbers_more}
use Rattle.cx_model.specs.Proxy.{again_at, again_for}
use Rattle.cx_role.proofs.Sends.{sent, passed, failed}

-- one of two tests passes at most as often as both
either_passes : (p q : ℕ → Bool) (xs : List ℕ)
    → length (filter (λ x. p x || q x) xs) ≤ length (filter p xs) + length (filter q xs)
either_passes p q [] = omega arith
either_passes p q (x ∷ xs) = let rest = either_passes p q xs in grind (arith, nat_tests, rest)

none_passes : (m first count : ℕ) → m < first → filter (λ x. m == x) (numbers first count) ≡ []
none_passes m first zero low = refl
none_passes m first (suc count) low =
    let rest = none_passes m (first + 1) count (omega arith) in grind (arith, nat_tests, rest)

one_passes : (m first count : ℕ) → length (filter (λ x. m == x) (numbers first count)) ≤ 1
one_passes m first zero = omega arith
one_passes m first (suc count) =
    let rest = one_passes m (first + 1) count in
    let none = none_passes m (first + 1) count in
    grind (arith, nat_tests, rest, none)

no_members : (xs : List ℕ) → length (filter (λ x. is_in x []) xs) ≡ 0
no_members [] = refl
no_members (x ∷ xs) = no_members xs

-- at most as many numbers of a row are among members as there are members
members_most : (ms : List ℕ) (first count : ℕ) → length (filter (λ a. is_in a ms) (numbers first count)) ≤ length ms
members_most [] first count = omega (arith, no_members (numbers first count))
members_most (m ∷ ms) first count =
    let both = either_passes (λ x. m == x) (λ x. is_in x ms) (numbers first count) in
    omega (arith, both, one_passes m first count, members_most ms first count)

-- what is sent again at the numbers from i on, once it was sent at i
pub again_on : (c : Cluster) (me : RoleId) (ps : List Pending) (sent : List Letter) (i n : ℕ) → i < n
    → (sent ++ again_for c me (pending_at i ps)) ++ again_at c me ps (numbers (i + 1) (n - (i + 1)))
    ≡ sent ++ again_at c me ps (numbers i (n - i))
again_on c me ps sent i n l = rw (append_assoc, numbers_more i n l) refl

-- sending, with its count
pub ruleset counted = (sent, passed, failed, length_at_push)

-- at most 16 members are asked in all
module _ {A : Type 0} (f : ℕ → A) (ms : List ℕ) (n : ℕ) (before old : List A) (most : length ms ≤ 16) where
  abbrev asked : List ℕ → List A
  asked ns = map f (filter (λ a. is_in a ms) ns)

  pub members_room : (later : List A) → before ++ later ≡ old ++ asked (below n)
      → length before + length later ≤ length old + 16
  members_room later h =
      let all : List ℕ = filter (λ a. is_in a ms) (below n) in
      omega (
        arith,
        ap (λ (l : List A). length l) h,
        length-append before later,
        length-append old (map f all),
        length-map all f,
        members_most ms 0 n,
      )

  -- and fewer before the last
  pub members_left : (i : ℕ) → i < n → is_in i ms ≡ true → before ++ asked (numbers i (n - i)) ≡ old ++ asked (below n)
      → length before < length old + 16
  members_left i l passes h =
      let later : List A = asked (numbers (i + 1) (n - (i + 1))) in
      let room = members_room (f i ∷ later) (rw (numbers_more i n l, passes) at h) in
      omega (arith, room)
