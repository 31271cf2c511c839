-- The records that each role was opened from, and whom a run begins with.
use Rattle.cx_role.proofs.Common.{◌≡◌, ℕ, zero, suc, arith, Bool, true, false, List, [], ◌∷◌, length, Option, Some, refl, sym, ap, ◌∙◌}
use Rattle.cx_role.proofs.Common.{subst, if◌then◌else◌, slice_get, none-some, same_Some, Cluster, Event, RoleId, same_role, differ_role}
use Rattle.cx_role.proofs.Common.{same_role-itself, Record}
use Rattle.cx_seat.specs.Prelude.{ClientOptions, Files, records_or_none, RecordStore, hosted_in, Hosted, AreApart, AreOpened, IsOpened}
use Rattle.cx_seat.specs.Prelude.{is_durable, opened_as}
use Rattle.cx_model.specs.Lists.{by_role}
use Rattle.cx_seat.specs.declared.guest.Guest.{Guest}
use Rattle.cx_node.specs.Serving.{hosts, records_in_files}

module _ {D : Type 0} (seen : D → Option (List ℕ)) (disk_faults : D → ℕ) (c : Cluster) (options : ClientOptions)
    (events : List Event) (tells : Bool) (stored : RoleId → Files) where
  -- a role was opened from these records
  abbrev pub IsOpenedFrom : List Record → RoleId → Guest (RecordStore D) → Type 0
  IsOpenedFrom records me guest =
      (o : IsOpened seen disk_faults c options events tells (stored me) me guest) × (o.records ≡ records)

  -- each role of a list was opened from its records
  abbrev pub AreOpenedFrom : (RoleId → List Record) → List RoleId → List (Guest (RecordStore D)) → Type 0
  AreOpenedFrom recovered roles guests =
      (i : ℕ) (me : RoleId) (guest : Guest (RecordStore D)) → slice_get roles i ≡ Some me
      → slice_get guests i ≡ Some guest → IsOpenedFrom (recovered me) me guest

  abbrev first_told : RoleId → List Record → (RoleId → List Record) → RoleId → List Record
  first_told r records recovered me = if same_role me r then records else recovered me

  -- what each role was opened from; where it is known, it is what the depot holds
  abbrev pub AreTold : List RoleId → List (Guest (RecordStore D)) → Type 0
  AreTold roles guests =
      (recovered : RoleId → List Record) × (tells ≡ true → (me : RoleId) → is_durable me.kind ≡ true
      → recovered me ≡ records_in_files stored me) × AreOpenedFrom recovered roles guests

  told_more : (r : RoleId) (rs : List RoleId) (g : Guest (RecordStore D)) (gs : List (Guest (RecordStore D)))
      → AreApart (r ∷ rs)
      → IsOpened seen disk_faults c options events tells (stored r) r g → AreTold rs gs → AreTold (r ∷ rs) (g ∷ gs)
  told_more r rs g gs apart first rest = (recovered, is_told, from)
    where
      recovered : RoleId → List Record
      recovered = first_told r first.records rest.0

      own : recovered r ≡ first.records
      own = rw (same_role-itself r) refl

      is_told : tells ≡ true → (me : RoleId) → is_durable me.kind ≡ true → recovered me ≡ records_in_files stored me
      is_told t me = by_role (λ a. is_durable a.kind ≡ true → recovered a ≡ records_in_files stored a) r
          (λ d. own ∙ sym (ap records_or_none (first.read t d)))
          (λ a other d. (rw other refl) ∙ rest.1 t a d) me

      from : AreOpenedFrom recovered (r ∷ rs) (g ∷ gs)
      from zero me guest a b =
          subst (λ h. IsOpenedFrom (recovered me) me h) (same_Some g guest b)
          (subst (λ m. IsOpenedFrom (recovered m) m g) (same_Some r me a) (first, sym own))
      from (suc i) me guest a b =
          let other : same_role me r ≡ false = differ_role me r
          (λ e. let n = apart 0 (suc i) me (ap Some (sym e)) a in omega (arith, n)) in
          let same : recovered me ≡ rest.0 me = rw other refl in
          subst (λ rs. IsOpenedFrom rs me guest) (sym same) (rest.2 i me guest a b)

  pub told_opened : (roles : List RoleId) (guests : List (Guest (RecordStore D))) → AreApart roles
      → AreOpened seen disk_faults c options events tells stored roles guests → AreTold roles guests
  told_opened roles [] apart all = (records_in_files stored, (λ t me d. refl), λ i me guest a b. absurd (none-some guest b))
  told_opened [] (g ∷ gs) apart all = let o = all 0 g refl in absurd (none-some o.0 o.1)
  told_opened (r ∷ rs) (g ∷ gs) apart all =
      let one = all 0 g refl in
      told_more r rs g gs apart (subst (λ me. IsOpened seen disk_faults c options events tells (stored me) me g)
      (sym (same_Some r one.0 one.1)) one.2)
      (told_opened rs gs (λ i j me a b. let e = apart (suc i) (suc j) me a b in omega (arith, e)) (λ i. all (suc i)))

  pub hosts_opened : (recovered : RoleId → List Record) (roles : List RoleId) (guests : List (Guest (RecordStore D)))
      → length guests ≡ length roles → AreOpenedFrom recovered roles guests
      → hosted_in guests ≡ hosts c options events recovered roles
  hosts_opened recovered [] [] same from = refl
  hosts_opened recovered [] (g ∷ gs) same from = absurd (omega (arith, same))
  hosts_opened recovered (r ∷ rs) [] same from = absurd (omega (arith, same))
  hosts_opened recovered (r ∷ rs) (g ∷ gs) same from =
      let o = from 0 r g refl refl in
      let fewer : length gs ≡ length rs = omega (arith, same) in
      ap (λ (h : Hosted). h ∷ hosted_in gs) (o.0.hosted ∙ ap (λ rec. opened_as c options events r rec r.kind) o.1)
      ∙ ap (λ (hs : List Hosted). opened_as c options events r (recovered r) r.kind ∷ hs)
      (hosts_opened recovered rs gs fewer (λ i. from (suc i)))
