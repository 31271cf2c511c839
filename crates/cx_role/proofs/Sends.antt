-- Sending to rising numbers below a count, and to those of them that pass a test.
use Rattle.std.proofs.Common.{append_assoc, arith}
use Rattle.cx_role.specs.Prelude.{◌≡◌, ◌≤◌, ◌<◌, ◌+◌, ◌-◌, ℕ, suc, Bool, true, false, List, [], ◌∷◌, ◌++◌, map, filter, refl, numbers}
use Rattle.cx_role.specs.Prelude.{below, Letter, Outgoing}

-- what was sent, and what is to be sent to those from i on, is all that is to be sent, and each takes room for one
pub record IsSending (f : ℕ → Letter) (begun out : Outgoing) (i n : ℕ) : Type 0 where
  pub list : out.list ++ map f (numbers i (n - i)) ≡ begun.list ++ map f (below n)
  pub spare : begun.spare ≤ out.spare + i

-- the same to those that pass a test
pub record IsSendingTo (p : ℕ → Bool) (f : ℕ → Letter) (begun out : Outgoing) (i n : ℕ) : Type 0 where
  pub list : out.list ++ map f (filter p (numbers i (n - i))) ≡ begun.list ++ map f (filter p (below n))
  pub spare : begun.spare ≤ out.spare + i

numbers_on : (i n : ℕ) → i < n → numbers i (n - i) ≡ i ∷ numbers (i + 1) (n - (i + 1))
numbers_on i n lt = let e : n - i ≡ suc (n - (i + 1)) = omega arith in rw e refl

module _ {A : Type 0} where
  pub sent : (xs : List A) (x : A) (f : ℕ → A) (i n : ℕ) → i < n → x ≡ f i
      → (xs ++ x ∷ []) ++ map f (numbers (i + 1) (n - (i + 1))) ≡ xs ++ map f (numbers i (n - i))
  sent xs x f i n lt is = rw (append_assoc, numbers_on i n lt, is) refl

  pub passed : (xs : List A) (x : A) (f : ℕ → A) (p : ℕ → Bool) (i n : ℕ) → i < n → p i ≡ true → x ≡ f i
      → (xs ++ x ∷ []) ++ map f (filter p (numbers (i + 1) (n - (i + 1)))) ≡ xs ++ map f (filter p (numbers i (n - i)))
  passed xs x f p i n lt in_p is = rw (append_assoc, numbers_on i n lt, in_p, is) refl

pub failed : (p : ℕ → Bool) (i n : ℕ) → i < n → p i ≡ false
    → filter p (numbers (i + 1) (n - (i + 1))) ≡ filter p (numbers i (n - i))
failed p i n lt out = rw (numbers_on i n lt, out) refl

pub ruleset sends = (sent, passed, failed)
