-- What keepers were given, one list of changes after another, and the places of the first actions of two lists.
use Rattle.cx_role.proofs.Common.{◌≡◌, ℕ, zero, suc, List, [], ◌∷◌, ◌++◌, take, Option, None, Some, slice_get, refl, sym, ap, subst, Bool}
use Rattle.cx_role.proofs.Common.{true, false, if◌then◌else◌, none-some, RoleId, same_role, KeeperChange}
use Rattle.cx_seat.specs.Prelude.{StoreChange, changes_of, Changing, AreChangesMade, Grows, GuestGrows, keeper_of, who}
use Rattle.cx_seat.specs.declared.guest.Guest.{Guest}

-- the place after a list at which a prefix of another ends
pub behind : {X : Type 0} (xs ys : List X) (n : ℕ) → (k : ℕ) × (take k (xs ++ ys) ≡ xs ++ take n ys)
    × (slice_get (xs ++ ys) k ≡ slice_get ys n)
behind [] ys n = (n, refl, refl)
behind (x ∷ xs) ys n = let p = behind xs ys n in (suc p.0, ap (λ l. x ∷ l) p.1, p.2)

-- one place further
pub behind_next : {X : Type 0} (xs ys : List X) (n : ℕ) → (behind xs ys (suc n)).0 ≡ suc (behind xs ys n).0
unfolding behind
behind_next [] ys n = refl
behind_next (x ∷ xs) ys n = ap suc (behind_next xs ys n)

-- the place at which a list's prefix ends, also where more comes
pub before : {X : Type 0} (xs ys : List X) (n : ℕ) → (k : ℕ) × (take k (xs ++ ys) ≡ take n xs)
    × ((y : X) → slice_get xs n ≡ Some y → slice_get (xs ++ ys) k ≡ Some y)
before [] ys zero = (0, refl, λ y e. absurd (none-some y e))
before [] ys (suc n) = (0, refl, λ y e. absurd (none-some y e))
before (x ∷ xs) ys zero = (0, refl, λ y e. e)
before (x ∷ xs) ys (suc n) = let p = before xs ys n in (suc p.0, ap (λ l. x ∷ l) p.1, p.2)

pub changes_append : (me : RoleId) (ks ls : List StoreChange) → changes_of me (ks ++ ls) ≡ changes_of me ks ++ changes_of me ls
changes_append me [] ls = refl
changes_append me (k ∷ ks) ls = by (same_role me k.role) (changes_append me ks ls)
  where
    by : (b : Bool) → changes_of me (ks ++ ls) ≡ changes_of me ks ++ changes_of me ls
        → (if b then k.change ∷ changes_of me (ks ++ ls) else changes_of me (ks ++ ls))
        ≡ (if b then k.change ∷ changes_of me ks else changes_of me ks) ++ changes_of me ls
    by true e = ap (λ l. k.change ∷ l) e
    by false e = e

module _ {K : Type 0} (gives : Changing K) where
  changed_then : (rs ss : List KeeperChange) (a b d : K) → AreChangesMade gives rs a b → AreChangesMade gives ss b d
      → AreChangesMade gives (rs ++ ss) a d
  changed_then [] ss a b d p q = subst (λ x. AreChangesMade gives ss x d) p q
  changed_then (r ∷ rs) ss a b d p q = (p.0, p.1, changed_then rs ss p.0 b d p.2 q)

  grows_then : (rs ss : List KeeperChange) (a b d : Option K) → Grows gives rs a b → Grows gives ss b d
      → Grows gives (rs ++ ss) a d
  grows_then rs ss None None None p q = tt
  grows_then rs ss None None (Some d) p q = absurd q
  grows_then rs ss None (Some b) d p q = absurd p
  grows_then rs ss (Some a) None d p q = absurd p
  grows_then rs ss (Some a) (Some b) None p q = absurd q
  grows_then rs ss (Some a) (Some b) (Some d) p q = changed_then rs ss a b d p q

  pub grows_none : (o : Option K) → Grows gives [] o o
  grows_none None = tt
  grows_none (Some k) = refl

  pub guest_then : (ks ls : List StoreChange) (a b d : Guest K) → who b ≡ who a → GuestGrows gives ks a b
      → GuestGrows gives ls b d → GuestGrows gives (ks ++ ls) a d
  guest_then ks ls a b d same p q =
      subst (λ rs. Grows gives rs (keeper_of a) (keeper_of d)) (sym (changes_append (who a) ks ls))
      (grows_then (changes_of (who a) ks) (changes_of (who a) ls) (keeper_of a) (keeper_of b) (keeper_of d) p
      (subst (λ me. Grows gives (changes_of me ls) (keeper_of b) (keeper_of d)) same q))
