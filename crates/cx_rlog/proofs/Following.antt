-- The values that follow, one step on, and those that still wait.
use Rattle.cx_base.proofs.Common.{◌≡◌, ℕ, suc, ◌+◌, inl, inr, List, [], ◌∷◌, ◌++◌, refl, ap, sym, ◌∙◌, append_assoc, Some, max, filter}
use Rattle.cx_base.proofs.Common.{nat_le, cases_Bool, following, still_early, value_for}
use Rattle.cx_base.specs.declared.command.Value.{Value}
use Rattle.cx_base.specs.declared.command.Placed.{Placed}
use Rattle.cx_ring.specs.Ring.{RingState, raise_ring}

-- the value of a slot, and those that follow it
pub following_more : (early : List Placed) (slot next later left : ℕ) (v : Value) → next ≡ slot + 1 → left ≡ suc later
    → value_for slot early ≡ Some v
    → following early slot left ≡ v ∷ following early next later
following_more early slot next later left v n l h = rw (l, n, h) refl

-- a value moves from the front of what is left to the end of what is done
pub moved : (done more : List Value) (v w : Value) (left rest all : List Value) → more ≡ done ++ w ∷ [] → w ≡ v
    → left ≡ v ∷ rest → done ++ left ≡ all → more ++ rest ≡ all
moved done more v w left rest all e same l h = ap (λ (x : List Value). x ++ rest) e ∙ append_assoc done (w ∷ []) rest
    ∙ ap (λ (x : Value). done ++ x ∷ rest) same ∙ ap (λ (x : List Value). done ++ x) (sym l) ∙ h

pub still_early-filter : (held : ℕ) (early : List Placed)
    → filter (λ p. nat_le held p.slot) early ≡ still_early held early
still_early-filter held [] = refl
still_early-filter held (p ∷ early) =
    elim (cases_Bool (nat_le held p.slot)) as (λ _. filter (λ p. nat_le held p.slot) (p ∷ early) ≡ still_early held (p ∷ early)) [
      | inl e ↦ rw e (ap (λ (rest : List Placed). p ∷ rest) (still_early-filter held early))
      | inr e ↦ rw e (still_early-filter held early)
    ]

-- those that still wait once the window begins at the slots held
pub still_raised : (s new : ℕ) (r later : RingState Placed) → later ≡ raise_ring (λ (p : Placed). p.slot) s r
    → max r.first s ≡ new → later.items ≡ still_early new r.items
still_raised s new r later e n =
    ap (λ (x : RingState Placed). x.items) e ∙ ap (λ k. filter (λ (p : Placed). nat_le k p.slot) r.items) n ∙ still_early-filter new r.items
