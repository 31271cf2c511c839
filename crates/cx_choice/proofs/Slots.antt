-- The next slot of the chosen prefix.
use Rattle.std.proofs.Common.{arith}
use Rattle.cx_model.specs.Prelude.{◌≡◌, ℕ, suc, ◌+◌, ◌-◌, ◌<◌, [], ◌∷◌, List, None, Some, refl, Value, chosen_at, prefix_from, KeptRecord}

pub prefix_step : (history : List KeptRecord) (slot count : ℕ) (v : Value) → slot < count → chosen_at history slot ≡ Some v
    → prefix_from history slot (count - slot) ≡ v ∷ prefix_from history (slot + 1) (count - (slot + 1))
prefix_step history slot count v below chosen =
    let e : count - slot ≡ suc (count - (slot + 1)) = omega arith in rw (e, chosen) refl

pub prefix_end : (history : List KeptRecord) (slot count : ℕ) → slot < count → chosen_at history slot ≡ None
    → prefix_from history slot (count - slot) ≡ []
prefix_end history slot count below chosen =
    let e : count - slot ≡ suc (count - (slot + 1)) = omega arith in rw (e, chosen) refl
