-- What a depot holds and counts when the disks of roles were given back.
use Rattle.cx_role.proofs.Common.{◌≡◌, ◌≤◌, ◌⊎◌, ℕ, zero, suc, arith, true, List, [], ◌∷◌, ◌++◌, length, refl, sym, ap, subst, ◌∙◌, Option}
use Rattle.cx_role.proofs.Common.{None, Some, inl, inr, slice_get, option_map, cases_Bool, map-append, none-some, same_Some, slice_get-map}
use Rattle.cx_role.proofs.Common.{RoleId, Rises, same_role, same_role-true}
use Rattle.cx_seat.specs.Prelude.{shelf, Shelf, RecordStore, One, Two, AreDistinct, hosted_in, hosted_of, keeper_of, who, disks_in, lent_to}
use Rattle.cx_seat.specs.Prelude.{Lent, disks_of, places_of}
use Rattle.cx_edge.proofs.ShelfLaws.{same_shelf-itself}
use Rattle.cx_edge.specs.Depot.{IsOut, without}
use Rattle.cx_journal.specs.State.{JournalState}
use Rattle.cx_journal.specs.Twin.{TwinState}
use Rattle.cx_seat.specs.declared.guest.Guest.{Guest}
use Rattle.cx_seat.proofs.Lent.{others_differ, role_of_disk}
use Rattle.cx_seat.proofs.StoresBack.{Shown, IsGivenBack, GiveBack}

pub no_items : {T : Type 0} (xs : List T) (n : ℕ) → length xs ≡ n → n ≡ 0 → xs ≡ []
no_items [] n size none = refl
no_items (x ∷ xs) n size none = absurd (omega (arith, size, none))

-- ---- places

zero_is_suc : (i : ℕ) → zero ≡ suc i → ⊥
zero_is_suc i e = cc

less_one : (i j : ℕ) → suc i ≡ suc j → i ≡ j
less_one i j e = cc

-- no two of these disks have one place
abbrev Apart : {S : Type 0} → List (Lent S) → Type 0
Apart [] = Unit {0}
Apart {S} (l ∷ ls) = ((i : ℕ) (m : Lent S) → slice_get ls i ≡ Some m → m.place ≡ l.place → ⊥) × Apart ls

hosted_at : {K : Type 0} (gs : List (Guest K)) (i : ℕ) (g : Guest K) → slice_get gs i ≡ Some g
    → slice_get (hosted_in gs) i ≡ Some (hosted_of g)
hosted_at gs i g at = slice_get-map hosted_of gs i ∙ ap (option_map hosted_of) at

module _ {S : Type 0} where
  -- a disk is of this role, or of those that follow
  role_or_rest : (me : RoleId) (o : Option (RecordStore S)) (rest : List (Lent S)) (i : ℕ) (m : Lent S)
      → slice_get (disks_of me o ++ rest) i ≡ Some m
      → ((n : ℕ) × (slice_get (disks_of me o) n ≡ Some m)) ⊎ ((k : ℕ) × (slice_get rest k ≡ Some m))
  role_or_rest me None rest i m at = inr (i, at)
  role_or_rest me (Some (One j)) rest zero m at = inl (0, at)
  role_or_rest me (Some (One j)) rest (suc i) m at = inr (i, at)
  role_or_rest me (Some (Two t)) rest zero m at = inl (0, at)
  role_or_rest me (Some (Two t)) rest (suc zero) m at = inl (1, at)
  role_or_rest me (Some (Two t)) rest (suc (suc i)) m at = inr (i, at)

  -- each disk is one of some role's
  pub lender : (gs : List (Guest (RecordStore S))) (i : ℕ) (m : Lent S) → slice_get (disks_in gs) i ≡ Some m
      → (k : ℕ) × (g : Guest (RecordStore S)) × (n : ℕ) × (slice_get gs k ≡ Some g)
      × (slice_get (disks_of (who g) (keeper_of g)) n ≡ Some m)
  lender [] i m at = absurd (none-some m at)
  lender (g ∷ gs) i m at = go (lender gs) (role_or_rest (who g) (keeper_of g) (disks_in gs) i m at)
    where
      go : ((k : ℕ) (d : Lent S) → slice_get (disks_in gs) k ≡ Some d → (l : ℕ) × (h : Guest (RecordStore S)) × (n : ℕ)
          × (slice_get gs l ≡ Some h) × (slice_get (disks_of (who h) (keeper_of h)) n ≡ Some d))
          → ((n : ℕ) × (slice_get (disks_of (who g) (keeper_of g)) n ≡ Some m))
          ⊎ ((k : ℕ) × (slice_get (disks_in gs) k ≡ Some m))
          → (k : ℕ) × (h : Guest (RecordStore S)) × (n : ℕ) × (slice_get (g ∷ gs) k ≡ Some h)
          × (slice_get (disks_of (who h) (keeper_of h)) n ≡ Some m)
      go rest (inl own) = (0, g, own.0, refl, own.1)
      go rest (inr later) = let p = rest later.0 m later.1 in (suc p.0, p.1, p.2, p.3, p.4)

  in_front : (xs ys : List (Lent S)) (n : ℕ) (m : Lent S) → slice_get xs n ≡ Some m → slice_get (xs ++ ys) n ≡ Some m
  in_front [] ys n m at = absurd (none-some m at)
  in_front (x ∷ xs) ys zero m at = at
  in_front (x ∷ xs) ys (suc n) m at = in_front xs ys n m at

  in_rest : (xs ys : List (Lent S)) (n : ℕ) (m : Lent S) → slice_get ys n ≡ Some m
      → (k : ℕ) × (slice_get (xs ++ ys) k ≡ Some m)
  in_rest [] ys n m at = (n, at)
  in_rest (x ∷ xs) ys n m at = let p = in_rest xs ys n m at in (suc p.0, p.1)

  -- and the disks of each role are among them
  pub lent_at : (gs : List (Guest (RecordStore S))) (i : ℕ) (g : Guest (RecordStore S)) (n : ℕ) (m : Lent S)
      → slice_get gs i ≡ Some g → slice_get (disks_of (who g) (keeper_of g)) n ≡ Some m
      → (k : ℕ) × (slice_get (disks_in gs) k ≡ Some m)
  lent_at [] i g n m at own = absurd (none-some g at)
  lent_at (h ∷ gs) zero g n m at own = (
    n,
    in_front (disks_of (who h) (keeper_of h)) (disks_in gs) n m
        (ap (λ (x : Guest (RecordStore S)). slice_get (disks_of (who x) (keeper_of x)) n) (same_Some h g at) ∙ own),
  )
  lent_at (h ∷ gs) (suc i) g n m at own =
      let p = lent_at gs i g n m at own in in_rest (disks_of (who h) (keeper_of h)) (disks_in gs) p.0 m p.1

  pub apart_disks : (gs : List (Guest (RecordStore S))) → AreDistinct (hosted_in gs) → Apart (disks_in gs)
  apart_disks [] distinct = tt
  apart_disks (g ∷ gs) distinct =
      front (apart_disks gs (λ m n a b x y e. less_one m n (distinct (suc m) (suc n) a b x y e))) (keeper_of g)
    where
      other : (i : ℕ) (m : Lent S) → slice_get (disks_in gs) i ≡ Some m → m.place.role ≡ who g → ⊥
      other i m at same =
          let p = lender gs i m at in
          zero_is_suc p.0 (distinct zero (suc p.0) (hosted_of g) (hosted_of p.1) refl (hosted_at gs p.0 p.1 p.3)
          (sym same ∙ role_of_disk (who p.1) (keeper_of p.1) p.2 m p.4))

      one_is_zero : (a b : Shelf) → a ≡ b → a.side ≡ 1 → b.side ≡ 0 → ⊥
      one_is_zero a b e p q = cc

      front : Apart (disks_in gs) → (o : Option (RecordStore S)) → Apart (disks_of (who g) o ++ disks_in gs)
      front rest None = rest
      front rest (Some (One j)) = (λ i m at same. other i m at (ap (λ (p : Shelf). p.role) same), rest)
      front rest (Some (Two t)) = (first, (λ i m at same. other i m at (ap (λ (p : Shelf). p.role) same), rest))
        where
          first : (i : ℕ) (m : Lent S)
              → slice_get (record { place = shelf (who g) 1; disk = t.second } ∷ disks_in gs) i ≡ Some m
              → m.place ≡ shelf (who g) 0 → ⊥
          first zero m at same =
              one_is_zero (shelf (who g) 1) (shelf (who g) 0)
              (ap (λ (l : Lent S). l.place) (same_Some _ m at) ∙ same) refl refl
          first (suc i) m at same = other i m at (ap (λ (p : Shelf). p.role) same)

-- ---- what is stored, and the counts

rises_on : (a b c : ℕ) → Rises a b → b ≤ c → Rises a c
rises_on a b c rose later = grind arith

rises_from : (a b c : ℕ) → a ≤ b → Rises b c → Rises a c
rises_from a b c later rose = grind arith

module _ {D S : Type 0} (shown : Shown D S) where
  pub told_all : (ls : List (Lent S)) (old new : D) → GiveBack shown ls old new → shown.tells new ≡ shown.tells old
  told_all [] old new same = ap shown.tells same
  told_all (l ∷ ls) old new (mid, first, rest) = told_all ls mid new rest ∙ first.tells_same

  later_once : (l : Lent S) (old new : D) → IsGivenBack shown l old new → (a : RoleId)
      → shown.faults old a ≤ shown.faults new a
  later_once l old new back a = elim (cases_Bool (same_role a l.place.role)) [
    | inl is ↦ subst (λ (b : RoleId). shown.faults old b ≤ shown.faults new b)
        (sym (same_role-true a l.place.role is)) back.later
    | inr other ↦ omega (arith, back.others a (others_differ a l.place.role other))
  ]

  pub later_all : (ls : List (Lent S)) (old new : D) → GiveBack shown ls old new → (a : RoleId)
      → shown.faults old a ≤ shown.faults new a
  later_all [] old new same a = omega (arith, ap (λ (d : D). shown.faults d a) same)
  later_all (l ∷ ls) old new (mid, first, rest) a =
      omega (arith, later_once l old mid first a, later_all ls mid new rest a)

  pub others_all : (ls : List (Lent S)) (old new : D) → GiveBack shown ls old new → (a : Shelf)
      → ((i : ℕ) (l : Lent S) → slice_get ls i ≡ Some l → l.place ≡ a → ⊥) → shown.stored new a ≡ shown.stored old a
  others_all [] old new same a other = ap (λ (d : D). shown.stored d a) same
  others_all (l ∷ ls) old new (mid, first, rest) a other =
      others_all ls mid new rest a (λ i. other (suc i)) ∙ first.others_stored a (λ e. other 0 l refl (sym e))

  pub held_all : (ls : List (Lent S)) (old new : D) → GiveBack shown ls old new → Apart ls → shown.tells old ≡ true
      → (i : ℕ) (l : Lent S) (file : List ℕ) → slice_get ls i ≡ Some l → shown.seen l.disk ≡ Some file
      → shown.stored new l.place ≡ file
  held_all [] old new same apart tells i l file at holds = absurd (none-some l at)
  held_all (m ∷ ls) old new (mid, first, rest) apart tells zero l file at holds =
      let same = same_Some m l at in
      ap (λ (x : Lent S). shown.stored new x.place) (sym same)
      ∙ others_all ls mid new rest m.place apart.0
      ∙ first.stored tells file (ap (λ (x : Lent S). shown.seen x.disk) same ∙ holds)
  held_all (m ∷ ls) old new (mid, first, rest) apart tells (suc i) l file at holds =
      held_all ls mid new rest apart.1 (first.tells_same ∙ tells) i l file at holds

  still_once : (l : Lent S) (old new : D) → IsGivenBack shown l old new → (a : RoleId)
      → (l.place.role ≡ a → shown.failures l.disk ≡ 0) → shown.faults new a ≡ shown.faults old a
  still_once l old new back a none = elim (cases_Bool (same_role a l.place.role)) [
    | inl is ↦ subst (λ (b : RoleId). shown.faults new b ≡ shown.faults old b)
        (sym (same_role-true a l.place.role is)) (back.still (none (sym (same_role-true a l.place.role is))))
    | inr other ↦ back.others a (others_differ a l.place.role other)
  ]

  pub still_all : (ls : List (Lent S)) (old new : D) → GiveBack shown ls old new → (a : RoleId)
      → ((i : ℕ) (l : Lent S) → slice_get ls i ≡ Some l → l.place.role ≡ a → shown.failures l.disk ≡ 0)
      → shown.faults new a ≡ shown.faults old a
  still_all [] old new same a none = ap (λ (d : D). shown.faults d a) same
  still_all (l ∷ ls) old new (mid, first, rest) a none =
      still_all ls mid new rest a (λ i. none (suc i)) ∙ still_once l old mid first a (none 0 l refl)

  pub cause_all : (ls : List (Lent S)) (old new : D) → GiveBack shown ls old new
      → (i : ℕ) (l : Lent S) → slice_get ls i ≡ Some l → Rises 0 (shown.failures l.disk)
      → Rises (shown.faults old l.place.role) (shown.faults new l.place.role)
  cause_all [] old new same i l at rose = absurd (none-some l at)
  cause_all (m ∷ ls) old new (mid, first, rest) zero l at rose =
      let same = same_Some m l at in
      subst (λ (x : Lent S). Rises (shown.faults old x.place.role) (shown.faults new x.place.role)) same
      (rises_on _ _ _ (first.cause (subst (λ (x : Lent S). Rises 0 (shown.failures x.disk)) (sym same) rose))
      (later_all ls mid new rest m.place.role))
  cause_all (m ∷ ls) old new (mid, first, rest) (suc i) l at rose =
      rises_from _ _ _ (later_once m old mid first l.place.role) (cause_all ls mid new rest i l at rose)

  -- ---- the stores of one role after those of another

  module _ (g : Guest (RecordStore S)) (rest items : List (Guest (RecordStore S))) (next : items ≡ g ∷ rest) where
    first_lent : (out : List Shelf) (o : Option (RecordStore S)) → out ≡ lent_to items → keeper_of g ≡ o
        → out ≡ places_of (disks_of (who g) o) ++ lent_to rest
    first_lent out o lent some =
        lent ∙ ap lent_to next ∙ ap (λ k. places_of (disks_of (who g) k ++ disks_in rest)) some
        ∙ map-append (λ (l : Lent S). l.place) (disks_of (who g) o) (disks_in rest)

    -- none is given back where the role has no store
    pub skipped : (out : List Shelf) → out ≡ lent_to items → keeper_of g ≡ None → out ≡ lent_to rest
    skipped out lent none = first_lent out None lent none

    pub one_is_out : (out : List Shelf) (j : JournalState S) → out ≡ lent_to items → keeper_of g ≡ Some (One j)
        → IsOut (shelf (who g) 0) out
    one_is_out out j lent some = rw (first_lent out (Some (One j)) lent some, same_shelf-itself (shelf (who g) 0)) refl

    pub one_taken : (out : List Shelf) (j : JournalState S) → out ≡ lent_to items → keeper_of g ≡ Some (One j)
        → without (shelf (who g) 0) out ≡ lent_to rest
    one_taken out j lent some = rw (first_lent out (Some (One j)) lent some, same_shelf-itself (shelf (who g) 0)) refl

    pub first_is_out : (out : List Shelf) (t : TwinState S) → out ≡ lent_to items → keeper_of g ≡ Some (Two t)
        → IsOut (shelf (who g) 0) out
    first_is_out out t lent some = rw (first_lent out (Some (Two t)) lent some, same_shelf-itself (shelf (who g) 0)) refl

    pub first_taken : (out : List Shelf) (t : TwinState S) → out ≡ lent_to items → keeper_of g ≡ Some (Two t)
        → without (shelf (who g) 0) out ≡ shelf (who g) 1 ∷ lent_to rest
    first_taken out t lent some = rw (first_lent out (Some (Two t)) lent some, same_shelf-itself (shelf (who g) 0)) refl

    pub second_is_out : (out : List Shelf) → out ≡ shelf (who g) 1 ∷ lent_to rest → IsOut (shelf (who g) 1) out
    second_is_out out lent = rw (lent, same_shelf-itself (shelf (who g) 1)) refl

    pub second_taken : (out : List Shelf) → out ≡ shelf (who g) 1 ∷ lent_to rest
        → without (shelf (who g) 1) out ≡ lent_to rest
    second_taken out lent = rw (lent, same_shelf-itself (shelf (who g) 1)) refl

    -- those of this role, before those that are to come
    pub goes_on : (old mid : D) (all : List (Lent S)) (begin : D) (o : Option (RecordStore S)) → keeper_of g ≡ o
        → ((end : D) → GiveBack shown (disks_in rest) mid end
        → GiveBack shown (disks_of (who g) o ++ disks_in rest) old end)
        → ((end : D) → GiveBack shown (disks_in items) old end → GiveBack shown all begin end)
        → (end : D) → GiveBack shown (disks_in rest) mid end → GiveBack shown all begin end
    goes_on old mid all begin o some first before end later =
        before end (subst (λ ls. GiveBack shown ls old end)
        (ap (λ k. disks_of (who g) k ++ disks_in rest) (sym some) ∙ ap disks_in (sym next)) (first end later))

  -- all were given back
  pub all_back : (items : List (Guest (RecordStore S))) (all : List (Lent S)) (begin now : D) → items ≡ []
      → ((end : D) → GiveBack shown (disks_in items) now end → GiveBack shown all begin end)
      → GiveBack shown all begin now
  all_back items all begin now empty before =
      before now (subst (λ gs. GiveBack shown (disks_in gs) now now) (sym empty) refl)
