-- Roles that were opened: they are who they were named to be, they may run, and what each was opened from.
use Rattle.cx_journal.proofs.Common.{front_in, Image, frames, payloads, both_so}
use Rattle.cx_role.proofs.Common.{◌≡◌, ◌⊎◌, ◌++◌, ℕ, zero, suc, arith, Bool, true, false, List, [], ◌∷◌, length, map, take, Option, None}
use Rattle.cx_role.proofs.Common.{Some, option_map, Ok, Err, refl, sym, ap, ◌∙◌, subst, inl, inr, slice_get, IsTrue, list_all, none-some}
use Rattle.cx_role.proofs.Common.{same_Some, Cluster, Event, Kind, Client, Batcher, Proxy, Unbatcher, RoleId, names_role, Record}
use Rattle.cx_seat.specs.Prelude.{ClientOptions, Files, files_image, RecordStore, AreDistinct, AreReady, hosted_in, hosted_of, keeper_of}
use Rattle.cx_seat.specs.Prelude.{who, is_live_role, kind_at, name_of, AreApart, AreOpened, IsBadAs, IsOpened, is_durable, opened_as}
use Rattle.cx_seat.specs.Prelude.{has_second}
use Rattle.cx_inv_open.specs.Reopened.{refused_as}
use Rattle.cx_seat.specs.declared.guest.Guest.{Guest}
use Rattle.cx_seat.specs.Opening.{HasRecords, HasStore}

-- ---- places in two lists

pub get_map : {X Y : Type 0} (f : X → Y) (xs : List X) (i : ℕ) (y : Y) → slice_get (map f xs) i ≡ Some y → (x : X)
    × (slice_get xs i ≡ Some x) × (y ≡ f x)
get_map f [] i y e = absurd (none-some y e)
get_map f (x ∷ xs) zero y e = (x, refl, sym (same_Some (f x) y e))
get_map f (x ∷ xs) (suc i) y e = get_map f xs i y e

pub map_get : {X Y : Type 0} (f : X → Y) (xs : List X) (i : ℕ) (x : X) → slice_get xs i ≡ Some x
    → slice_get (map f xs) i ≡ Some (f x)
map_get f [] i x e = absurd (none-some x e)
map_get f (y ∷ ys) zero x e = ap (option_map f) e
map_get f (y ∷ ys) (suc i) x e = map_get f ys i x e

pub get_beside : {X Y : Type 0} (xs : List X) (ys : List Y) (i : ℕ) (x : X) → length ys ≡ length xs
    → slice_get xs i ≡ Some x → (y : Y) × (slice_get ys i ≡ Some y)
get_beside [] ys i x same e = absurd (none-some x e)
get_beside (x ∷ xs) [] i z same e = absurd (omega (arith, same))
get_beside (x ∷ xs) (y ∷ ys) zero z same e = (y, refl)
get_beside (x ∷ xs) (y ∷ ys) (suc i) z same e =
    let fewer : length ys ≡ length xs = omega (arith, same) in get_beside xs ys i z fewer e

pub all_named : {X : Type 0} (p : X → Bool) (xs : List X) → list_all p xs ≡ true → (i : ℕ) (x : X)
    → slice_get xs i ≡ Some x → p x ≡ true
all_named p [] all i x e = absurd (none-some x e)
all_named p (y ∷ ys) all zero x e = subst (λ z. p z ≡ true) (same_Some y x e) (both_so (p y) (list_all p ys) all).0
all_named p (y ∷ ys) all (suc i) x e = all_named p ys (both_so (p y) (list_all p ys) all).1 i x e

-- ---- one role

pub name_opened : (c : Cluster) (options : ClientOptions) (events : List Event) (me : RoleId) (records : List Record) (k : Kind)
    → name_of (opened_as c options events me records k) ≡ me
name_opened c options events me records Client = refl
name_opened c options events me records other = refl

live_opened : (c : Cluster) (options : ClientOptions) (events : List Event) (me : RoleId) (records : List Record) (k : Kind)
    → is_live_role (opened_as c options events me records k) ≡ true
live_opened c options events me records Client = refl
live_opened c options events me records other = refl

kind_opened : (c : Cluster) (options : ClientOptions) (events : List Event) (me : RoleId) (records : List Record) (k : Kind)
    → kind_at (opened_as c options events me records k) ≡ k
kind_opened c options events me records Client = refl
kind_opened c options events me records other = refl

-- ---- stores of their own

-- the bytes have no image, or it has a record that is refused, for the reason at this place
abbrev pub IsBadFor : (List Record → Option ℕ) → RoleId → Files → ℕ → Type 0
IsBadFor refuses me files at =
    (files_image (Some me.kind) files ≡ Err at)
    ⊎ ((records : List Record) × (files_image (Some me.kind) files ≡ Ok records)
    × (index : ℕ) × (refuses records ≡ Some index)
    × (at ≡ length (front_in files ++ frames (payloads (take index records)))))

-- a store that is read, and refused for no record, is bad at no place
good_store : (refuses : List Record → Option ℕ) (me : RoleId) (files : Files) (records : List Record)
    (at : ℕ) → files_image (Some me.kind) files ≡ Ok records → refuses records ≡ None
    → IsBadFor refuses me files at → ⊥
good_store refuses me files records at read accepted (inl broken) = ok_is_err (sym read ∙ broken)
  where
    ok_is_err : ◌≡◌ {A = Image} (Ok records) (Err at) → ⊥
    ok_is_err e = cc
good_store refuses me files records at read accepted (inr bad) =
    let same : records ≡ bad.0 = same_records records bad.0 (sym read ∙ bad.1) in
    none-some bad.2 (sym accepted ∙ ap refuses same ∙ bad.3)
  where
    same_records : (rs ts : List Record) → ◌≡◌ {A = Image} (Ok rs) (Ok ts) → rs ≡ ts
    same_records rs ts e = cc

-- the same of a role of any kind
pub good_as : (c : Cluster) (me : RoleId) (files : Files) (records : List Record) (at : ℕ) (k : Kind)
    → (is_durable k ≡ true → files_image (Some me.kind) files ≡ Ok records) → refused_as c me records k ≡ None
    → IsBadAs c me files at k → ⊥
good_as c me files records at Client read accepted bad = bad
good_as c me files records at Batcher read accepted bad = bad
good_as c me files records at Proxy read accepted bad = bad
good_as c me files records at Unbatcher read accepted bad = bad
good_as c me files records at other read accepted bad =
    good_store (λ rs. refused_as c me rs other) me files records at (read refl) accepted bad

module _ {D : Type 0} (seen : D → Option (List ℕ)) (disk_faults : D → ℕ) (tells second : Bool) where
  has_store : (records : List Record) (b : Bool) (o : Option (RecordStore D)) → b ≡ true
      → HasStore seen disk_faults tells second records b o → (s : RecordStore D) × (o ≡ Some s)
      × HasRecords seen disk_faults tells second records s
  has_store records true None durable has = absurd has
  has_store records true (Some s) durable has = (s, refl, has)
  has_store records false o durable has = cc

  pub has_records : (records : List Record) (b : Bool) (o : Option (RecordStore D)) (s : RecordStore D) → o ≡ Some s
      → HasStore seen disk_faults tells second records b o → HasRecords seen disk_faults tells second records s
  has_records records b None s e has = absurd (none-some s e)
  has_records records true (Some k) s e has =
      subst (HasRecords seen disk_faults tells second records) (same_Some k s e) has
  has_records records false (Some k) s e has = absurd has

module _ {D : Type 0} (seen : D → Option (List ℕ)) (disk_faults : D → ℕ) (c : Cluster) (options : ClientOptions)
    (events : List Event) (tells : Bool) (stored : RoleId → Files) where
  pub name_is : (me : RoleId) (guest : Guest (RecordStore D))
      → IsOpened seen disk_faults c options events tells (stored me) me guest → who guest ≡ me
  name_is me guest o = ap name_of o.hosted ∙ name_opened c options events me o.records me.kind

  pub keeps_store : (me : RoleId) (guest : Guest (RecordStore D))
      (o : IsOpened seen disk_faults c options events tells (stored me) me guest) → is_durable me.kind ≡ true
      → (s : RecordStore D) × (keeper_of guest ≡ Some s)
      × HasRecords seen disk_faults tells (has_second me.kind) o.records s
  keeps_store me guest o durable =
      has_store seen disk_faults tells (has_second me.kind) o.records (is_durable me.kind) (keeper_of guest) durable
      o.stored

  -- the store of a role that was opened is its own
  pub good_opened : (me : RoleId) (guest : Guest (RecordStore D)) (at : ℕ)
      → IsOpened seen disk_faults c options events tells (stored me) me guest → tells ≡ true
      → IsBadAs c me (stored me) at me.kind → ⊥
  good_opened me guest at o t bad = good_as c me (stored me) o.records at me.kind (o.read t) o.accepted bad

  -- ---- all roles

  pub distinct_opened : (roles : List RoleId) (guests : List (Guest (RecordStore D))) → AreApart roles
      → AreOpened seen disk_faults c options events tells stored roles guests → AreDistinct (hosted_in guests)
  distinct_opened roles guests apart all i j a b here there same =
      let g = get_map hosted_of guests i a here in
      let h = get_map hosted_of guests j b there in
      let o = all i g.0 g.1 in
      let p = all j h.0 h.1 in
      let name : o.0 ≡ p.0 = sym (name_is o.0 g.0 o.2) ∙ ap name_of (sym g.2) ∙ same ∙ ap name_of h.2
      ∙ name_is p.0 h.0 p.2 in
      apart i j p.0 (o.1 ∙ ap Some name) p.1

  pub ready_opened : (roles : List RoleId) (guests : List (Guest (RecordStore D))) → AreApart roles
      → ((i : ℕ) (me : RoleId) → slice_get roles i ≡ Some me → IsTrue (names_role c me))
      → AreOpened seen disk_faults c options events tells stored roles guests → AreReady c guests
  ready_opened roles guests apart named all = record {
    each = λ i h at. let o = all i h at in record {
      live = subst IsTrue (sym (ap is_live_role o.2.hosted ∙ live_opened c options events o.0 o.2.records o.0.kind)) refl;
      named = subst (λ me. IsTrue (names_role c me)) (sym (name_is o.0 h o.2)) (named i o.0 o.1);
      kind =
          ap kind_at o.2.hosted ∙ kind_opened c options events o.0 o.2.records o.0.kind
          ∙ ap (λ (a : RoleId). a.kind) (sym (name_is o.0 h o.2));
    };
    distinct = distinct_opened roles guests apart all;
  }
