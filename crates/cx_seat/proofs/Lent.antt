-- The stores that are out, as they are lent and given back, and what stores hold that were given back.
use Rattle.cx_journal.proofs.Common.{TwoFiles, SameImage, SamePair}
use Rattle.cx_role.proofs.Common.{◌≡◌, ◌≤◌, ℕ, zero, suc, arith, Bool, true, false, List, [], ◌∷◌, ◌++◌, length, refl, sym, ap, subst, ◌∙◌}
use Rattle.cx_role.proofs.Common.{append_assoc, append-nil, Option, None, Some, Result, Ok, Err, is_some, inl, inr, slice_get, list_any}
use Rattle.cx_role.proofs.Common.{cases_Bool, flat_map-append, map-append, none-some, same_Some, slice_get_within, Cluster, Event, RoleId}
use Rattle.cx_role.proofs.Common.{same_role, same_role-true, same_role-itself}
use Rattle.cx_seat.specs.Prelude.{ClientOptions, shelf, Shelf, Files, OneFile, files_records, records_or_none, RecordStore, One, Two}
use Rattle.cx_seat.specs.Prelude.{keeper_of, who, AreOpened, IsOpened, disks_in, lent_to, Lent, disks_of, files_of, has_second, places_of}
use Rattle.cx_edge.proofs.ShelfLaws.{out_last, same_shelf-itself, without_last}
use Rattle.cx_edge.specs.Depot.{IsOut, without}
use Rattle.cx_edge.specs.Shelf.{same_shelf}
use Rattle.cx_seat.specs.declared.guest.Guest.{Guest}
use Rattle.cx_seat.specs.Opening.{NoneIsOut}
use Rattle.cx_seat.specs.Stores.{SameRecords, files_by}
use Rattle.cx_seat.proofs.OpenedRoles.{name_is}

true_is_false : true ≡ false → ⊥
true_is_false e = cc

pub ok_is_err : {T E : Type 0} (x : T) (e : E) → ◌≡◌ {A = Result T E} (Ok x) (Err e) → ⊥
ok_is_err x e is = cc

-- ---- names and places

pub others_differ : (a b : RoleId) → same_role a b ≡ false → a ≡ b → ⊥
others_differ a b other e =
    true_is_false (sym (same_role-itself b) ∙ subst (λ (x : RoleId). same_role x b ≡ false) e other)

-- the other side of a role is another place
pub sides_differ : (me : RoleId) → shelf me 0 ≡ shelf me 1 → ⊥
sides_differ me e = let side : 0 ≡ 1 = ap (λ (p : Shelf). p.side) e in absurd (omega (arith, side))

-- a disk of a store is its role's
pub role_of_disk : {S : Type 0} (me : RoleId) (o : Option (RecordStore S)) (n : ℕ) (l : Lent S)
    → slice_get (disks_of me o) n ≡ Some l → l.place.role ≡ me
role_of_disk me None n l at = absurd (none-some l at)
role_of_disk me (Some (One j)) zero l at = ap (λ (l : Lent _). l.place.role) (sym (same_Some _ l at))
role_of_disk me (Some (One j)) (suc n) l at = absurd (none-some l at)
role_of_disk me (Some (Two t)) zero l at = ap (λ (l : Lent _). l.place.role) (sym (same_Some _ l at))
role_of_disk me (Some (Two t)) (suc zero) l at = ap (λ (l : Lent _). l.place.role) (sym (same_Some _ l at))
role_of_disk me (Some (Two t)) (suc (suc n)) l at = absurd (none-some l at)

-- ---- what is out

-- one that was lent once, given back
pub without_lent : (p : Shelf) (out more : List Shelf) → list_any (same_shelf p) out ≡ false
    → without p (out ++ p ∷ more) ≡ out ++ more
without_lent p [] more none = rw (same_shelf-itself p) refl
without_lent p (q ∷ rest) more none = elim (cases_Bool (same_shelf p q)) [
  | inl is ↦ absurd (true_is_false (rw is at none))
  | inr other ↦ rw other (ap (λ (ps : List Shelf). q ∷ ps) (without_lent p rest more (rw other at none)))
]

-- both of a role's, where its first is given back before its second
module _ (me : RoleId) (out : List Shelf) (none : NoneIsOut me out) where
  both_lent : (out ++ shelf me 0 ∷ []) ++ shelf me 1 ∷ [] ≡ out ++ shelf me 0 ∷ shelf me 1 ∷ []
  both_lent = append_assoc out (shelf me 0 ∷ []) (shelf me 1 ∷ [])

  second_lent : without (shelf me 0) ((out ++ shelf me 0 ∷ []) ++ shelf me 1 ∷ []) ≡ out ++ shelf me 1 ∷ []
  second_lent = ap (without (shelf me 0)) both_lent ∙ without_lent (shelf me 0) out (shelf me 1 ∷ []) (none 0)

  pub second_is_out : IsOut (shelf me 1) (without (shelf me 0) ((out ++ shelf me 0 ∷ []) ++ shelf me 1 ∷ []))
  second_is_out = rw second_lent (out_last (shelf me 1) out)

  pub without_both : without (shelf me 1) (without (shelf me 0) ((out ++ shelf me 0 ∷ []) ++ shelf me 1 ∷ [])) ≡ out
  without_both = ap (without (shelf me 1)) second_lent ∙ without_last (shelf me 1) out (none 1)

-- ---- what is stored

pub files_by_sides : (stored after : Shelf → List ℕ) (who : RoleId) → after (shelf who 0) ≡ stored (shelf who 0)
    → after (shelf who 1) ≡ stored (shelf who 1) → files_of after who ≡ files_of stored who
files_by_sides stored after who one other =
    ap (λ first. files_by (has_second who.kind) first (after (shelf who 1))) one
    ∙ ap (λ second. files_by (has_second who.kind) (stored (shelf who 0)) second) other

pub files_same : (stored after : Shelf → List ℕ) (who : RoleId)
    → ((side : ℕ) → after (shelf who side) ≡ stored (shelf who side)) → files_of after who ≡ files_of stored who
files_same stored after who same = files_by_sides stored after who (same 0) (same 1)

pub same_records : (stored after : Shelf → List ℕ) → ((place : Shelf) → after place ≡ stored place)
    → SameRecords (files_of stored) (files_of after)
same_records stored after same who =
    ap (λ files. files_records (Some files)) (files_same stored after who (λ side. same (shelf who side)))

pub one_file : (stored : Shelf → List ℕ) (me : RoleId) → has_second me.kind ≡ false
    → files_of stored me ≡ OneFile (stored (shelf me 0))
one_file stored me one = ap (λ b. files_by b (stored (shelf me 0)) (stored (shelf me 1))) one

pub two_files : (stored : Shelf → List ℕ) (me : RoleId) → has_second me.kind ≡ true
    → files_of stored me ≡ TwoFiles (stored (shelf me 0)) (stored (shelf me 1))
two_files stored me two = ap (λ b. files_by b (stored (shelf me 0)) (stored (shelf me 1))) two

-- the records of all stores stay, where those of one role do, and elsewhere what is stored
pub records_stay : (me : RoleId) (stored after : Shelf → List ℕ)
    → files_records (Some (files_of after me)) ≡ files_records (Some (files_of stored me))
    → ((place : Shelf) → (place.role ≡ me → ⊥) → after place ≡ stored place)
    → SameRecords (files_of stored) (files_of after)
records_stay me stored after own others who = elim (cases_Bool (same_role who me)) [
  | inl is ↦ subst (λ (a : RoleId). files_records (Some (files_of after a)) ≡ files_records (Some (files_of stored a)))
      (sym (same_role-true who me is)) own
  | inr other ↦ ap (λ files. files_records (Some files))
      (files_same stored after who (λ side. others (shelf who side) (others_differ who me other)))
]

module _ {S : Type 0} (seen : S → Option (List ℕ)) (me : RoleId) (stored after : Shelf → List ℕ) where
  -- the records of a role's only store, where the disk that was given back has the same image
  pub one_stays : (lent back : S) → has_second me.kind ≡ false → seen lent ≡ Some (stored (shelf me 0))
      → is_some (seen back) ≡ is_some (seen lent)
      → ((file now : List ℕ) → seen lent ≡ Some file → seen back ≡ Some now → SameImage now file)
      → ((file : List ℕ) → seen back ≡ Some file → after (shelf me 0) ≡ file)
      → files_records (Some (files_of after me)) ≡ files_records (Some (files_of stored me))
  one_stays lent back one opened tells same closed =
      ap (λ files. files_records (Some files)) (one_file after me one)
      ∙ go (seen back) refl (tells ∙ ap is_some opened)
      ∙ ap (λ files. files_records (Some files)) (sym (one_file stored me one))
    where
      go : (o : Option (List ℕ)) → seen back ≡ o → is_some o ≡ true
          → files_records (Some (OneFile (after (shelf me 0)))) ≡ files_records (Some (OneFile (stored (shelf me 0))))
      go None e some = cc
      go (Some now) e some =
          ap (λ file. files_records (Some (OneFile file))) (closed now e)
          ∙ ap records_or_none (same (stored (shelf me 0)) now opened e None)

  -- those of its two stores, where the two have the same records
  pub two_stay : (first second first_back second_back : S) → has_second me.kind ≡ true
      → seen first ≡ Some (stored (shelf me 0)) → seen second ≡ Some (stored (shelf me 1))
      → is_some (seen first_back) ≡ is_some (seen first) → is_some (seen second_back) ≡ is_some (seen second)
      → ((a b c d : List ℕ) → seen first ≡ Some a → seen second ≡ Some b → seen first_back ≡ Some c
      → seen second_back ≡ Some d → SamePair c d a b)
      → ((file : List ℕ) → seen first_back ≡ Some file → after (shelf me 0) ≡ file)
      → ((file : List ℕ) → seen second_back ≡ Some file → after (shelf me 1) ≡ file)
      → files_records (Some (files_of after me)) ≡ files_records (Some (files_of stored me))
  two_stay first second first_back second_back two opened other tells other_tells same closed other_closed =
      ap (λ files. files_records (Some files)) (two_files after me two)
      ∙ go (seen first_back) (seen second_back) refl refl (tells ∙ ap is_some opened) (other_tells ∙ ap is_some other)
      ∙ ap (λ files. files_records (Some files)) (sym (two_files stored me two))
    where
      go : (o p : Option (List ℕ)) → seen first_back ≡ o → seen second_back ≡ p → is_some o ≡ true → is_some p ≡ true
          → files_records (Some (TwoFiles (after (shelf me 0)) (after (shelf me 1))))
          ≡ files_records (Some (TwoFiles (stored (shelf me 0)) (stored (shelf me 1))))
      go None p d e some more = cc
      go (Some a) None d e some more = cc
      go (Some a) (Some b) d e some more =
          ap (λ file. files_records (Some (TwoFiles file (after (shelf me 1))))) (closed a d)
          ∙ ap (λ file. files_records (Some (TwoFiles a file))) (other_closed b e)
          ∙ ap records_or_none (same (stored (shelf me 0)) (stored (shelf me 1)) a b opened other d e None)

-- no count falls, where one doesn't and the others stay
pub none_falls : (me : RoleId) (before after : RoleId → ℕ) → before me ≤ after me
    → ((a : RoleId) → (a ≡ me → ⊥) → after a ≡ before a) → (a : RoleId) → before a ≤ after a
none_falls me before after later others a = elim (cases_Bool (same_role a me)) [
  | inl is ↦ subst (λ (b : RoleId). before b ≤ after b) (sym (same_role-true a me is)) later
  | inr other ↦ omega (arith, others a (others_differ a me other))
]

-- ---- roles that were opened

pub lent_append : {D : Type 0} (guests more : List (Guest (RecordStore D))) → lent_to (guests ++ more) ≡ lent_to guests
    ++ lent_to more
lent_append guests more =
    ap places_of (flat_map-append (λ g. disks_of (who g) (keeper_of g)) guests more)
    ∙ map-append (λ (l : Lent _). l.place) (disks_in guests) (disks_in more)

pub lent_one : {D : Type 0} (guest : Guest (RecordStore D))
    → lent_to (guest ∷ []) ≡ places_of (disks_of (who guest) (keeper_of guest))
lent_one guest = ap places_of (append-nil (disks_of (who guest) (keeper_of guest)))

any_append : {X : Type 0} (p : X → Bool) (xs ys : List X) → list_any p xs ≡ false → list_any p ys ≡ false
    → list_any p (xs ++ ys) ≡ false
any_append p [] ys none more = more
any_append p (x ∷ xs) ys none more = elim (cases_Bool (p x)) [
  | inl is ↦ absurd (true_is_false (rw is at none))
  | inr other ↦ rw other (any_append p xs ys (rw other at none) more)
]

-- a role's places are none of another's
places_differ : {D : Type 0} (me other : RoleId) (side : ℕ) (k : Option (RecordStore D)) → same_role me other ≡ false
    → list_any (same_shelf (shelf me side)) (places_of (disks_of other k)) ≡ false
places_differ me other side None differ = refl
places_differ me other side (Some (One j)) differ = rw differ refl
places_differ me other side (Some (Two t)) differ = rw differ refl

not_lent : {D : Type 0} (me : RoleId) (guests : List (Guest (RecordStore D)))
    → ((i : ℕ) (g : Guest (RecordStore D)) → slice_get guests i ≡ Some g → same_role me (who g) ≡ false)
    → NoneIsOut me (lent_to guests)
not_lent me [] other side = refl
not_lent me (g ∷ gs) other side =
    rw (lent_append (g ∷ []) gs) (any_append (same_shelf (shelf me side)) (lent_to (g ∷ [])) (lent_to gs)
    (ap (list_any (same_shelf (shelf me side))) (lent_one g)
    ∙ places_differ me (who g) side (keeper_of g) (other 0 g refl))
    (not_lent me gs (λ i. other (suc i)) side))

-- a property of each element, and of one more at the end
one_more : {T : Type 0} (P : ℕ → T → Type 0) (xs : List T) (x : T)
    → ((i : ℕ) (y : T) → slice_get xs i ≡ Some y → P i y) → P (length xs) x
    → (i : ℕ) (y : T) → slice_get (xs ++ x ∷ []) i ≡ Some y → P i y
one_more P [] x each last zero y e = subst (P zero) (same_Some x y e) last
one_more P [] x each last (suc i) y e = cc
one_more P (z ∷ zs) x each last zero y e = each zero y e
one_more P (z ∷ zs) x each last (suc i) y e = one_more (λ k. P (suc k)) zs x (λ k. each (suc k)) last i y e

module _ {S : Type 0} (seen : S → Option (List ℕ)) (disk_faults : S → ℕ) (c : Cluster) (options : ClientOptions)
    (events : List Event) (tells : Bool) (stored : RoleId → Files) (roles : List RoleId)
    (guests : List (Guest (RecordStore S))) (me : RoleId) (next : slice_get roles (length guests) ≡ Some me)
    (all : AreOpened seen disk_faults c options events tells stored roles guests) where
  -- the next role of the list is opened
  pub opened_more : (guest : Guest (RecordStore S)) → IsOpened seen disk_faults c options events tells
      (stored me) me guest → AreOpened seen disk_faults c options events tells stored roles (guests ++ guest ∷ [])
  opened_more guest opened =
      one_more (λ i (g : Guest (RecordStore S)). (a : RoleId) × (slice_get roles i ≡ Some a)
      × IsOpened seen disk_faults c options events tells (stored a) a g) guests guest all (me, next, opened)

  -- its stores aren't out yet
  pub next_in_depot : ((i j : ℕ) (a : RoleId) → slice_get roles i ≡ Some a → slice_get roles j ≡ Some a → i ≡ j)
      → NoneIsOut me (lent_to guests)
  next_in_depot distinct = not_lent me guests (λ i g at. other i g at (same_role me (who g)) refl)
    where
      other : (i : ℕ) (g : Guest (RecordStore S)) → slice_get guests i ≡ Some g → (b : Bool)
          → same_role me (who g) ≡ b → same_role me (who g) ≡ false
      other i g at false e = e
      other i g at true e =
          let one = all i g at in
          let same : one.0 ≡ me = sym (name_is seen disk_faults c options events tells stored one.0 g one.2)
          ∙ sym (same_role-true me (who g) e) in
          let place : i ≡ length guests = distinct i (length guests) me (one.1 ∙ ap Some same) next in
          absurd (omega (arith, place, slice_get_within guests i g at))
