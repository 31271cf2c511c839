-- The model's words on pending values are the ring's.
use Rattle.cx_role.proofs.Common.{◌≡◌, ℕ, ◌==◌, if◌then◌else◌, List, [], ◌∷◌, Option, Some, refl, ap, arith, nat_tests, Pending, pending_at}
use Rattle.cx_model.specs.Proxy.{with_pending}
use Rattle.cx_proxy.specs.Slots.{slot_of}
use Rattle.cx_ring.specs.Ring.{value_at, with_value}

-- the value of a slot
pub pending_at_value : (s : ℕ) (ps : List Pending) → pending_at s ps ≡ value_at slot_of s ps
pending_at_value s [] = refl
pending_at_value s (p ∷ ps) = ap (λ (o : Option Pending). if p.slot == s then Some p else o) (pending_at_value s ps)

-- one more value
pub with_pending_value : (one : Pending) (ps : List Pending) → with_pending one ps ≡ with_value slot_of one ps
with_pending_value one [] = refl
with_pending_value one (p ∷ ps) =
    ap (λ (l : List Pending). if p.slot == one.slot then one ∷ ps else p ∷ l) (with_pending_value one ps)

-- a value that is put into the place of one of its slot is put into the place of the one before that
pub put_again : (one two : Pending) (ps : List Pending) → two.slot ≡ one.slot
    → with_pending two (with_pending one ps) ≡ with_pending two ps
put_again one two [] e = grind (arith, nat_tests)
put_again one two (p ∷ ps) e = grind (arith, nat_tests, put_again one two ps e)
