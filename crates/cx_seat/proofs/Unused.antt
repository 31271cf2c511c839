-- Stores without records, the first one that has some, and the roles that are opened from stores without any.
use Rattle.std.proofs.lemmas.Bool.{eq-eqb, ne_eqb}
use Rattle.cx_role.proofs.Common.{◌≡◌, ◌<◌, ◌+◌, ◌==◌, ◌&&◌, not, ℕ, zero, suc, arith, Bool, true, false, List, [], ◌∷◌, length, Option}
use Rattle.cx_role.proofs.Common.{None, Some, Ok, refl, sym, ap, ◌∙◌, subst, slice_get, if◌then◌else◌, none-some, same_Some, Cluster, Event}
use Rattle.cx_role.proofs.Common.{RoleId, Record}
use Rattle.cx_seat.specs.Prelude.{ClientOptions, Files, files_image, records_or_none, RecordStore, keeper_of, who, AreOpened, IsBadAs}
use Rattle.cx_seat.specs.Prelude.{IsFirstUsed, IsOpened, first_holding, is_durable, is_store_used, has_second}
use Rattle.cx_journal.specs.State.{has_some}
use Rattle.cx_seat.specs.declared.guest.Guest.{Guest}
use Rattle.cx_seat.specs.Opening.{HasStore, holds_record}
use Rattle.cx_seat.proofs.OpenedRoles.{get_beside, good_opened, name_is}

-- no store of these roles has a record
abbrev pub NoneIsUsed : {D : Type 0} → List (Guest (RecordStore D)) → Type 0
NoneIsUsed {D} guests = (i : ℕ) (guest : Guest (RecordStore D)) → slice_get guests i ≡ Some guest → holds_record (keeper_of guest) ≡ false

-- the first of these roles whose store has a record
record IsFirstHolding {D : Type 0} (guests : List (Guest (RecordStore D))) (role : RoleId) : Type 0 where
  place : ℕ
  guest : Guest (RecordStore D)
  here : slice_get guests place ≡ Some guest
  name : who guest ≡ role
  holds : holds_record (keeper_of guest) ≡ true
  first : (i : ℕ) (other : Guest (RecordStore D)) → i < place → slice_get guests i ≡ Some other → holds_record (keeper_of other) ≡ false

module _ {D : Type 0} where
  none_more : (g : Guest (RecordStore D)) (gs : List (Guest (RecordStore D))) → holds_record (keeper_of g) ≡ false → NoneIsUsed gs
      → NoneIsUsed (g ∷ gs)
  none_more g gs none rest zero guest at = subst (λ x. holds_record (keeper_of x) ≡ false) (same_Some g guest at) none
  none_more g gs none rest (suc i) guest at = rest i guest at

  first_more : (g : Guest (RecordStore D)) (gs : List (Guest (RecordStore D))) (role : RoleId) → holds_record (keeper_of g) ≡ false
      → IsFirstHolding gs role → IsFirstHolding (g ∷ gs) role
  first_more g gs role none rest = record {
    place = suc rest.place;
    guest = rest.guest;
    here = rest.here;
    name = rest.name;
    holds = rest.holds;
    first = before;
  }
    where
      before : (i : ℕ) (other : Guest (RecordStore D)) → i < suc rest.place → slice_get (g ∷ gs) i ≡ Some other
          → holds_record (keeper_of other) ≡ false
      before zero other inside at = subst (λ x. holds_record (keeper_of x) ≡ false) (same_Some g other at) none
      before (suc i) other inside at = rest.first i other (omega (arith, inside)) at

  none_by : (g : Guest (RecordStore D)) (gs : List (Guest (RecordStore D))) (b : Bool) → holds_record (keeper_of g) ≡ b
      → (if b then Some (who g) else first_holding gs) ≡ None → (first_holding gs ≡ None → NoneIsUsed gs) → NoneIsUsed (g ∷ gs)
  none_by g gs true is none rest = absurd (none-some (who g) (sym none))
  none_by g gs false is none rest = none_more g gs is (rest none)

  -- where none is named, no store has a record
  pub none_holding : (guests : List (Guest (RecordStore D))) → first_holding guests ≡ None → NoneIsUsed guests
  none_holding [] none = λ i guest at. absurd (none-some guest at)
  none_holding (g ∷ gs) none = none_by g gs (holds_record (keeper_of g)) refl none (none_holding gs)

  some_by : (g : Guest (RecordStore D)) (gs : List (Guest (RecordStore D))) (role : RoleId) (b : Bool) → holds_record (keeper_of g) ≡ b
      → (if b then Some (who g) else first_holding gs) ≡ Some role → (first_holding gs ≡ Some role → IsFirstHolding gs role)
      → IsFirstHolding (g ∷ gs) role
  some_by g gs role true is e rest = record {
    place = 0;
    guest = g;
    here = refl;
    name = same_Some (who g) role e;
    holds = is;
    first = λ i other before at. absurd (omega (arith, before));
  }
  some_by g gs role false is e rest = first_more g gs role is (rest e)

  -- and one that is named is the first
  some_holding : (guests : List (Guest (RecordStore D))) (role : RoleId) → first_holding guests ≡ Some role
      → IsFirstHolding guests role
  some_holding [] role e = absurd (none-some role e)
  some_holding (g ∷ gs) role e = some_by g gs role (holds_record (keeper_of g)) refl e (some_holding gs role)

-- as many gates as records, and one more
gates_tell : (gates : List ℕ) (records : List Record) → length gates ≡ length records + 1 → not (length gates == 1) ≡ has_some records
gates_tell gates [] many = ap not (eq-eqb (length gates) 1 (omega (arith, many)))
gates_tell gates (r ∷ rs) many = ap not (ne_eqb (length gates) 1 (λ one. omega (arith, many, one)))

none_held : (records : List Record) → has_some records ≡ false → records ≡ []
none_held [] none = refl
none_held (r ∷ rs) none = cc

module _ {D : Type 0} (seen : D → Option (List ℕ)) (disk_faults : D → ℕ) (tells second : Bool) where
  holds_as : (records : List Record) (b : Bool) (o : Option (RecordStore D)) → HasStore seen disk_faults tells second records b o
      → holds_record o ≡ (b && has_some records)
  holds_as records true None has = absurd has
  holds_as records true (Some s) has = gates_tell _ records has.gates
  holds_as records false None has = refl
  holds_as records false (Some s) has = absurd has

module _ {D : Type 0} (seen : D → Option (List ℕ)) (disk_faults : D → ℕ) (c : Cluster) (options : ClientOptions)
    (events : List Event) (tells : Bool) (stored : RoleId → Files) where
  abbrev Opened : RoleId → Guest (RecordStore D) → Type 0
  Opened me guest = IsOpened seen disk_faults c options events tells (stored me) me guest

  holds_opened : (me : RoleId) (guest : Guest (RecordStore D)) (o : Opened me guest)
      → holds_record (keeper_of guest) ≡ (is_durable me.kind && has_some o.records)
  holds_opened me guest o =
      holds_as seen disk_faults tells (has_second me.kind) o.records (is_durable me.kind) (keeper_of guest) o.stored

  -- a role whose store has no record was opened from none
  pub fresh_opened : (me : RoleId) (guest : Guest (RecordStore D)) (o : Opened me guest) → holds_record (keeper_of guest) ≡ false
      → is_durable me.kind ≡ true → o.records ≡ []
  fresh_opened me guest o none durable =
      none_held o.records (sym (ap (λ b. b && has_some o.records) durable) ∙ sym (holds_opened me guest o) ∙ none)

  -- what the depot holds says it too
  pub used_opened : (me : RoleId) (guest : Guest (RecordStore D)) → Opened me guest → tells ≡ true
      → is_store_used me (stored me) ≡ holds_record (keeper_of guest)
  used_opened me guest o t = by (is_durable me.kind) (λ d. o.read t d) ∙ sym (holds_opened me guest o)
    where
      by : (b : Bool) → (b ≡ true → files_image (Some me.kind) (stored me) ≡ Ok o.records)
          → (b && has_some (records_or_none (files_image (Some me.kind) (stored me)))) ≡ (b && has_some o.records)
      by true read = ap (λ i. has_some (records_or_none i)) (read refl)
      by false read = refl

  module _ (roles : List RoleId) (guests : List (Guest (RecordStore D))) (count : length guests ≡ length roles)
      (all : AreOpened seen disk_faults c options events tells stored roles guests) (t : tells ≡ true) where
    used_at : (i : ℕ) (me : RoleId) (guest : Guest (RecordStore D)) → slice_get roles i ≡ Some me → slice_get guests i ≡ Some guest
        → is_store_used me (stored me) ≡ holds_record (keeper_of guest)
    used_at i me guest here at =
        let o = all i guest at in
        subst (λ a. is_store_used a (stored a) ≡ holds_record (keeper_of guest)) (same_Some o.0 me (sym o.1 ∙ here))
        (used_opened o.0 guest o.2 t)

    pub none_used : NoneIsUsed guests → (i : ℕ) (me : RoleId) → slice_get roles i ≡ Some me → is_store_used me (stored me) ≡ false
    none_used none i me here =
        let g = get_beside roles guests i me count here in
        used_at i me g.0 here g.1 ∙ none i g.0 g.1

    pub first_used : (role : RoleId) → first_holding guests ≡ Some role → IsFirstUsed roles stored role
    first_used role named =
        let first = some_holding guests role named in
        let o = all first.place first.guest first.here in
        let same : o.0 ≡ role = sym (name_is seen disk_faults c options events tells stored o.0 first.guest o.2) ∙ first.name in
        let here : slice_get roles first.place ≡ Some role = o.1 ∙ ap Some same in
        record {
          place = first.place;
          here = here;
          used = used_at first.place role first.guest here first.here ∙ first.holds;
          first = λ i other before at.
              let g = get_beside roles guests i other count at in
              used_at i other g.0 at g.1 ∙ first.first i g.0 before g.1;
        }

-- where all roles were opened, each store is its role's own
pub all_good : {D : Type 0} (seen : D → Option (List ℕ)) (disk_faults : D → ℕ) (c : Cluster) (options : ClientOptions) (events : List Event)
    (tells : Bool) (stored : RoleId → Files) (roles : List RoleId) (guests : List (Guest (RecordStore D)))
    → length guests ≡ length roles → AreOpened seen disk_faults c options events tells stored roles guests → tells ≡ true
    → (i : ℕ) (me : RoleId) (at : ℕ) → slice_get roles i ≡ Some me → IsBadAs c me (stored me) at me.kind → ⊥
all_good seen disk_faults c options events tells stored roles guests count all t i me at here bad =
    let g = get_beside roles guests i me count here in
    let o = all i g.0 g.1 in
    good_opened seen disk_faults c options events tells stored o.0 g.0 at o.2 t
    (subst (λ a. IsBadAs c a (stored a) at a.kind) (same_Some me o.0 (sym here ∙ o.1)) bad)
