-- Seats that are opened without records.
use Rattle.cx_role.proofs.Common.{◌≡◌, ℕ, zero, suc, true, false, List, [], ◌∷◌, ◌++◌, length, Some, ap, sym, ◌∙◌, subst, refl, inl, inr}
use Rattle.cx_role.proofs.Common.{◌⊎◌, arith, nat_lt, slice_get, nat_tests, same_Some, slice_get_cases, count_of, role, Cluster, Kind}
use Rattle.cx_role.proofs.Common.{names_role, either_way, Rules, Running, State, state_of, start}
use Rattle.cx_base.specs.declared.role.Kind.TheVariants as kind
use Rattle.cx_model.specs.State.{Down, fresh_state}
use Rattle.cx_world.specs.Seat.{Seat, AreJustOpened, AreSeats}
use Rattle.cx_world.specs.World.{AreOfKind, state_at, volatile_in}

get_last : {X : Type 0} (xs : List X) (x y : X) (j : ℕ) → slice_get (xs ++ x ∷ []) j ≡ Some y
    → (slice_get xs j ≡ Some y) ⊎ ((j ≡ length xs) × (x ≡ y))
get_last [] x y zero e = inr (refl, same_Some x y e)
get_last [] x y (suc j) e = cc
get_last (z ∷ xs) x y zero e = inl e
get_last (z ∷ xs) x y (suc j) e = elim (get_last xs x y j e) [
  | inl p ↦ inl p
  | inr p ↦ inr ((let q = p.0 in omega arith), p.1)
]

-- what holds of each, at its place, and of one more
pub one_more : {X : Type 0} (P : ℕ → X → Type 0) (xs : List X) (x : X) (i : ℕ) → ((j : ℕ) (y : X) → slice_get xs j ≡ Some y → P j y)
    → length xs ≡ i → P i x → (j : ℕ) (y : X) → slice_get (xs ++ x ∷ []) j ≡ Some y → P j y
one_more P xs x i are size is j y e = elim (get_last xs x y j e) [
  | inl p ↦ are j y p
  | inr p ↦ subst (λ n. P n y) (sym (p.0 ∙ size)) (subst (λ z. P i z) p.1 is)
]

module _ {D V : Type 0} (rules : Rules D V) (make : V → State) (c : Cluster) (k : Kind) (seats : List (Seat (Running D V)))
    (fresh : fresh_state c k ≡ make (rules.fresh c rules.empty))
    (count : length seats ≡ count_of c k) (opened : AreJustOpened rules (λ s. s) c seats) (lists : AreSeats rules c k [] seats) where
  state : (i : ℕ) → (start c).roles (role k i) ≡ state_at make seats i
  state i = elim ((slice_get_cases seats i).1) [
    | inl some ↦
        let within = some.1 in
        let below : nat_lt i (count_of c k) ≡ true = subst (λ n. nat_lt i n ≡ true) count (grind (arith, nat_tests)) in
        rw below (fresh ∙ sym (ap (λ o. state_of make (volatile_in o)) some.2 ∙ ap (state_of make) (opened i some.0 some.2)))
    | inr past ↦
        let beyond = past.0 in
        let above : nat_lt i (count_of c k) ≡ false = subst (λ n. nat_lt i n ≡ false) count (grind (arith, nat_tests)) in
        rw above (sym (ap (λ o. state_of make (volatile_in o)) past.1))
  ]

  -- the seats of a kind are those of the world in which nothing has happened
  pub opened_kind : AreOfKind rules make c k (start c).roles [] seats
  opened_kind = record { count = count; states = state; lists = lists }

-- a client has no state
pub no_client : (c : Cluster) (i : ℕ) → (start c).roles (role kind.Client i) ≡ Down
no_client c i = either_way (λ s. s ≡ Down) (names_role c (role kind.Client i)) Down Down refl refl
