-- The values that a replica sends another one by an order.
use Rattle.std.proofs.lemmas.Option.{slice_get_past}
use Rattle.cx_role.proofs.Common.{◌≡◌, ◌⊎◌, inl, inr, ℕ, zero, suc, ◌+◌, ◌-◌, ◌<◌, ◌≤◌, ◌&&◌, Bool, true, false, List, [], ◌∷◌, ◌++◌}
use Rattle.cx_role.proofs.Common.{length, sym, ◌∙◌, append-nil}
use Rattle.cx_role.proofs.Common.{Option, None, Some, refl, arith, nat_lt, nat_tests, append_assoc, slice_get, cases_Bool, and_parts}
use Rattle.cx_role.proofs.Common.{RoleId, Value, Letter, ReplicaDurable, ReplicaVolatile, Cluster, Outcome, IsFit, by_test}
use Rattle.cx_role.proofs.Common.{◌==◌, ◌||◌, not, replica_rules, role}
use Rattle.cx_base.specs.declared.event.Order.{Order}
use Rattle.cx_base.specs.declared.event.Order.TheVariants.{Offer}
use Rattle.cx_base.specs.declared.role.Kind.TheVariants.{Replica}
use Rattle.cx_model.specs.Replica.{held, offer_of, offered, offers, replica_orders, value_kept}
use Rattle.cx_model.specs.Outcome.{only_word, replied}
use Rattle.cx_base.specs.declared.why.Why.TheVariants.{Fetched, Idle}

-- no value is kept of a slot at which nothing is held yet
pub past : (d : ReplicaDurable) (s : ℕ) → held d ≤ s → value_kept d s ≡ None
past d s above =
    let high : nat_lt s d.first ≡ false = grind (arith, nat_tests) in
    rw high (slice_get_past d.log (s - d.first) (omega arith))

-- nor of one that was forgotten
forgotten : (d : ReplicaDurable) (s : ℕ) → s < d.first → value_kept d s ≡ None
forgotten d s below = let low : nat_lt s d.first ≡ true = grind (arith, nat_tests) in rw low refl

-- nor of any where all were
all_forgotten : (d : ReplicaDurable) (s : ℕ) → held d ≤ d.first → value_kept d s ≡ None
all_forgotten d s all = elim (cases_Bool (nat_lt s d.first)) as (λ _. value_kept d s ≡ None) [
  | inl t ↦ rw t refl
  | inr f ↦ rw f (slice_get_past d.log (s - d.first) (omega arith))
]

none_within : (vs : List Value) (i : ℕ) → slice_get vs i ≡ None → length vs ≤ i
none_within [] i none = omega arith
none_within (v ∷ vs) zero none = absurd cc
none_within (v ∷ vs) (suc i) none = omega (arith, none_within vs i none)

-- of each other slot one is
kept_else : (d : ReplicaDurable) (s : ℕ) → d.first ≤ s → value_kept d s ≡ None → held d ≤ s
kept_else d s from none =
    let high : nat_lt s d.first ≡ false = grind (arith, nat_tests) in
    let within = none_within d.log (s - d.first) (rw high at none) in
    omega (arith, within)

-- which of three tests fails
one_fails : (a b c : Bool) → (a && b && c) ≡ false → (a ≡ false) ⊎ ((b ≡ false) ⊎ (c ≡ false))
one_fails false b c h = inl refl
one_fails true false c h = inr (inl refl)
one_fails true true c h = inr (inr h)

module _ (me to : RoleId) (d : ReplicaDurable) (s : ℕ) where
  -- one slot more
  pub offers_next : (sent : List Letter) (n i : ℕ) → i < n
      → (sent ++ offer_of me to (s + (n - i - 1)) (value_kept d (s + (n - i - 1)))) ++ offers me to d s (n - (i + 1))
      ≡ sent ++ offers me to d s (n - i)
  unfolding offers
  offers_next sent n i more =
      let e : n - i ≡ suc (n - (i + 1)) = omega arith in
      let f : n - i - 1 ≡ n - (i + 1) = omega arith in
      rw (f, e, append_assoc) refl

  -- no slot is left
  pub offers_end : (sent all : List Letter) (n i : ℕ) → n ≤ i → sent ++ offers me to d s (n - i) ≡ all → sent ≡ all
  unfolding offers
  offers_end sent all n i end is =
      let e : n - i ≡ zero = omega arith in sym (append-nil sent) ∙ (rw e at is)

  -- it keeps none of them
  none_offered : (n : ℕ) → (held d ≤ s) ⊎ ((held d ≤ d.first) ⊎ (s + n ≤ d.first)) → offers me to d s n ≡ []
  unfolding offers
  none_offered zero none = refl
  none_offered (suc n) (inl above) = rw (past d (s + n) (omega arith)) (none_offered n (inl above))
  none_offered (suc n) (inr (inl all)) = rw (all_forgotten d (s + n) all) (none_offered n (inr (inl all)))
  none_offered (suc n) (inr (inr below)) = rw (forgotten d (s + n) (omega arith)) (none_offered n (inr (inr (omega arith))))

  which : (n : ℕ) → (nat_lt s (held d) ≡ false) ⊎ ((nat_lt d.first (held d) ≡ false) ⊎ (nat_lt d.first (s + n) ≡ false))
      → (held d ≤ s) ⊎ ((held d ≤ d.first) ⊎ (s + n ≤ d.first))
  which n (inl f) = inl (grind (arith, nat_tests, f))
  which n (inr (inl f)) = inr (inl (grind (arith, nat_tests, f)))
  which n (inr (inr f)) = inr (inr (grind (arith, nat_tests, f)))

  module _ (v : ReplicaVolatile) where
    pub none_word : (n : ℕ) → (nat_lt s (held d) && nat_lt d.first (held d) && nat_lt d.first (s + n)) ≡ false
        → offered v (offers me to d s n) ≡ only_word Idle v
    none_word n none = rw (none_offered n (which n (one_fails _ _ _ none))) refl

    -- the greatest slot is kept, or one below it
    kept_below : (n : ℕ) (o : Option Value) → value_kept d (s + n) ≡ o → d.first ≤ s + n
        → (held d ≤ s + n → offered v (offers me to d s n) ≡ replied Fetched v (offers me to d s n))
        → offered v (offers me to d s (suc n)) ≡ replied Fetched v (offers me to d s (suc n))
    unfolding offers
    kept_below n (Some value) is from below = rw is refl
    kept_below n None is from below = rw is (below (kept_else d (s + n) from is))

    some_offered : (n : ℕ) → s < held d → d.first < held d → d.first < s + n → 1 ≤ n
        → offered v (offers me to d s n) ≡ replied Fetched v (offers me to d s n)
    some_offered zero here some above one = absurd (omega arith)
    some_offered (suc n) here some above one =
        kept_below n (value_kept d (s + n)) refl (omega arith) (λ high. some_offered n here some (omega arith) (omega arith))

    pub some_word : (n : ℕ) → 1 ≤ n → (nat_lt s (held d) && nat_lt d.first (held d) && nat_lt d.first (s + n)) ≡ true
        → offered v (offers me to d s n) ≡ replied Fetched v (offers me to d s n)
    some_word n one some =
        let a = and_parts (nat_lt s (held d) && nat_lt d.first (held d)) (nat_lt d.first (s + n)) some in
        let b = and_parts (nat_lt s (held d)) (nat_lt d.first (held d)) a.0 in
        some_offered n (grind (arith, nat_tests, b.0)) (grind (arith, nat_tests, b.1)) (grind (arith, nat_tests, a.1)) one

-- an order keeps nothing
module _ (c : Cluster) (me : RoleId) (d : ReplicaDurable) (v : ReplicaVolatile) where
  abbrev Fits : Outcome ReplicaVolatile → Type 0
  Fits o = IsFit replica_rules c me d o.kept

  offered_fits : (sent : List Letter) → Fits (offered v sent)
  offered_fits [] = tt
  offered_fits (first ∷ rest) = tt

  pub orders_fit : (order : Order) → Fits (replica_orders c me d v order)
  orders_fit (Offer to s) =
      by_test Fits (not (nat_lt to c.replicas) || (to == me.index)) _ _ (λ _. tt) (λ _. offered_fits (offers me (role Replica to) d s 32))
  orders_fit other = tt
