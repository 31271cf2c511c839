-- A replica keeps values that name clients of the cluster, in slots below 2^40.
use Rattle.cx_inv_run.proofs.Common.{◌≡◌, ℕ, zero, suc, ◌+◌, ◌-◌, ◌≤◌, ◌==◌, ◌&&◌, min, max, true, false, nat_lt, nat_le, List, ◌∷◌, length}
use Rattle.cx_inv_run.proofs.Common.{slice_get, Option, None, Some, refl, list_all, list_any, subst, sym, inl, inr, arith, and_parts}
use Rattle.cx_inv_run.proofs.Common.{and_from, nat_tests, Cluster, Placed, Value, RoleId, before_following, following, ready_values, role}
use Rattle.cx_inv_run.proofs.Common.{same_role, Letter, letter, Input, KeptRecord, Msg, Deferred, Member, names, names_body, names_role}
use Rattle.cx_inv_run.proofs.Common.{names_value, Outcome, by_test, either_way, ReplicaDurable, ReplicaVolatile, before, held}
use Rattle.cx_inv_run.proofs.Common.{replica_renewed, replica_rules, replica_row, replica_takes, read_row, fetched_by, fetch_found}
use Rattle.cx_inv_run.proofs.Common.{same_read, IsFit, refused, Lands, State, Given, ReplicaIn, snap_by, durable_of, log_in, Ties}
use Rattle.cx_inv_run.proofs.Common.{replica_kinds}
use Rattle.cx_base.specs.declared.role.Kind.TheVariants as kind
use Rattle.cx_base.specs.Log.{value_for}
use Rattle.cx_letter.specs.declared.input.Input.TheVariants as input
use Rattle.cx_letter.specs.declared.kept.Record.TheVariants as kept
use Rattle.cx_letter.specs.declared.message.Msg.TheVariants as msg
use Rattle.cx_model.specs.Replica.{is_renewal_whole, with_early}
use Rattle.cx_model.specs.RenewedLaws.{renewed_fits}
use Rattle.cx_inv_run.proofs.Opening.{by_order}
use Rattle.cx_inv_run.proofs.Tying.{limit_held, snap_is}
use Rattle.cx_inv_match.specs.Facts.{Facts}
use Rattle.cx_inv_vote.proofs.Agree.{chosen_proposed}
use Rattle.cx_inv_vote.proofs.Replicas.{waits_found, still_early-older, with_early-cases}
use Rattle.cx_inv_open.specs.Fits.{AreNamed, InRange, IsSlot, Fitting, has_fitting_floors}
use Rattle.cx_inv_open.proofs.Keep.{calm_in, new_fits, lands, proposed_slot}
use Rattle.cx_inv_open.proofs.Renewable.{logged_named, renewable, tied_ordered}

abbrev AllNamed : Cluster → List Value → Type 0
AllNamed c vs = list_all (λ (v : Value). names_value c v) vs ≡ true

-- the values that follow

following_named : (c : Cluster) (early : List Placed) → AreNamed c early → (s most : ℕ) → AllNamed c (following early s most)
following_named c early h s zero = refl
following_named c early h s (suc most) =
    step (value_for s early) refl (following early (s + 1) most) (following_named c early h (s + 1) most)
  where
    step : (o : Option Value) → value_for s early ≡ o → (vs : List Value) → AllNamed c vs → AllNamed c (before_following o vs)
    step None e vs rest = refl
    step (Some v) e vs rest =
        let r = waits_found s early v e in
        and_from (names_value c v) (list_all (λ (v : Value). names_value c v) vs)
        (subst (λ (w : Value). names_value c w ≡ true) r.3 (h r.0 r.1)) rest

following_few : (early : List Placed) (s most : ℕ) → length (following early s most) ≤ most
following_few early s zero = omega arith
following_few early s (suc most) = step (value_for s early) (following early (s + 1) most) (following_few early (s + 1) most)
  where
    step : (o : Option Value) (vs : List Value) → length vs ≤ most → length (before_following o vs) ≤ suc most
    step None vs few = omega arith
    step (Some v) vs few = omega arith

-- slots end at 2^40
ready_short : (held : ℕ) (early : List Placed) (v : Value) → IsSlot held
    → nat_le (held + length (ready_values held early v)) 1099511627776 ≡ true
ready_short held early v below =
    let few = following_few early (held + 1) (min 31 (1099511627776 - (held + 1))) in
    let short : held + length (ready_values held early v) ≤ 1099511627776 = omega arith in
    grind (arith, nat_tests)

same_slot : (s held : ℕ) → nat_lt s held ≡ false → nat_lt held s ≡ false → s ≡ held
same_slot s held low high = grind (arith, nat_tests)

-- a value that is chosen has a slot
abbrev HasSlot : Msg → Type 0
HasSlot (msg.Chosen s v) = IsSlot s
HasSlot other = Unit {0}

module _ (c : Cluster) (me : RoleId) (d : ReplicaDurable) (v : ReplicaVolatile) (h : AreNamed c v.early)
    (whole : is_renewal_whole d ≡ true) where
  abbrev Fine : Outcome ReplicaVolatile → Type 0
  Fine o = IsFit replica_rules c me d o.kept × AreNamed c o.volatile.early

  chosen_fine : (from : RoleId) (s : ℕ) (w : Value) → IsSlot s → names_value c w ≡ true
      → Fine (replica_takes c me d v from (msg.Chosen s w))
  chosen_fine from s w slot named =
      by_test Fine (nat_lt s (held d)) _ _ (λ t. (tt, h))
      (λ low. by_test Fine (nat_le (held d + 32) s) _ _ (λ t. (tt, h))
      (λ near. by_test Fine (nat_lt (held d) s) _ _ (λ t. (tt, early_named))
      (λ high. (
        fits (subst IsSlot (same_slot s (held d) low high) slot),
        λ p m. h p (still_early-older (held d + length (ready_values (held d) v.early w)) v.early p m),
      ))))
    where
      early_named : AreNamed c (with_early s w v.early (value_for s v.early))
      early_named p m = elim (with_early-cases s w v.early (value_for s v.early) p m) [
        | inl k ↦ h p k
        | inr e ↦ subst (λ (x : Placed). names_value c x.value ≡ true) (sym e) named
      ]

      fitting : IsSlot (held d) → (is_renewal_whole d && list_all (λ (x : Value). names_value c x) (ready_values (held d) v.early w)
          && nat_le (held d + length (ready_values (held d) v.early w)) 1099511627776) ≡ true
      fitting here =
          and_from _ _ (and_from _ _ whole (and_from (names_value c w) _ named
          (following_named c v.early h (held d + 1) (min 31 (1099511627776 - (held d + 1)))))) (ready_short (held d) v.early w here)

      fits : IsSlot (held d) → IsFit replica_rules c me d (Some (kept.Log (ready_values (held d) v.early w)))
      fits here = (fitting here, whole)

  read_fine : (r : Deferred) → Fine (read_row me d v r)
  read_fine r =
      either_way Fine (nat_le r.mark (held d)) _ _ (tt, h)
      (either_way Fine (list_any (λ (other : Deferred). same_read r.token other.token) v.deferred) _ _ (tt, h)
      (either_way Fine (nat_le 64 (length v.deferred)) _ _ (tt, h) (tt, h)))

  asked_named : (from : RoleId) (s : ℕ) → AreNamed c (fetched_by c me v from s).early
  asked_named from s =
      either_way (λ (x : ReplicaVolatile). AreNamed c x.early) (from.index == before c me) (record v { fetched = max v.fetched s }) v h h

  fetch_fine : (from : RoleId) (s : ℕ) (o : Option Value) → Fine (fetch_found me (fetched_by c me v from s) from s o)
  fetch_fine from s None = (tt, asked_named from s)
  fetch_fine from s (Some value) = (tt, asked_named from s)

  takes_fine : (from : RoleId) (m : Msg) → HasSlot m → names_body c m ≡ true → Fine (replica_takes c me d v from m)
  takes_fine from (msg.Chosen s value) slot named = chosen_fine from s value slot named
  takes_fine from (msg.Read t n key) slot named = read_fine (record { token = t; mark = n; key = key })
  takes_fine from (msg.SessRead seq n key) slot named =
      read_fine (record { token = record { client = from.index; seq = seq }; mark = n; key = key })
  takes_fine from (msg.Fetch s) slot named =
      either_way Fine (nat_lt s d.first) _ _ (tt, asked_named from s) (fetch_fine from s (slice_get d.log (s - d.first)))
  takes_fine from other slot named = (tt, h)

module _ (c : Cluster) (history : List KeptRecord) (sent : List Letter) (states : RoleId → State) (facts : Facts c history sent states)
    (ties : Ties history sent states) (h : Fitting c history sent states) where
  has_slot : (from to : RoleId) (m : Msg) → Member (letter from to m) sent → HasSlot m
  has_slot from to (msg.Chosen s v) x = let chosen = facts.says _ x in proposed_slot c history sent states h chosen.0 s v
      (chosen_proposed c history sent states facts chosen.0 s v chosen.1)
  has_slot from to other x = tt

  pub replica_lands : (p : ℕ) (v : ReplicaVolatile) (i : Input) → states (role kind.Replica p) ≡ ReplicaIn v
      → Given sent (role kind.Replica p) i
      → Lands (Fitting c) history sent states (role kind.Replica p) ReplicaIn
      (replica_row c (role kind.Replica p) (durable_of replica_rules (role kind.Replica p) history) v i)
  replica_lands p v i is given =
      let fine = row_fine i given in
      lands c history sent states h me ReplicaIn _ (new_fits replica_rules c history me (λ r x. x) _ fine.0) fine.1
      (calm_in me _ tt (replica_kinds c me refl d v i))
    where
      me : RoleId
      me = role kind.Replica p

      d : ReplicaDurable
      d = durable_of replica_rules me history

      named : AreNamed c v.early
      named = subst (λ (s : State). InRange c s) is (h.running me)

      whole : is_renewal_whole d ≡ true
      whole = (ties.tied p).whole

      row_fine : (i : Input) → Given sent me i → Fine c me d v named whole (replica_row c me d v i)
      row_fine (input.Take x) given =
          by_test (Fine c me d v named whole) (same_role x.to me && names c x) _ _
          (λ t. let a = and_parts (same_role x.to me) (names c x) t in
          takes_fine c me d v named whole x.from x.msg (has_slot x.from x.to x.msg given.1)
          (and_parts (names_role c x.from && names_role c x.to) (names_body c x.msg) a.1).1) (λ f. (tt, named))
      row_fine input.Tick given = (tt, named)
      row_fine (input.Order order) given =
          by_order (Fine c me d v named whole) c me d v (tt, named) (tt, named) (λ to s n. (tt, named)) order

  -- a replica forgets values: it opens from the renewed list
  pub snapped : (p : ℕ) (v : ReplicaVolatile) (first : ℕ)
      → replica_rules.snap c (role kind.Replica p) (durable_of replica_rules (role kind.Replica p) history) v ≡ Some first
      → Fitting c (snap_by (role kind.Replica p) first ∷ history) sent states
  snapped p v first e = record { fit = (opens, h.fit); says = h.says; running = h.running }
    where
      me : RoleId
      me = role kind.Replica p

      d : ReplicaDurable
      d = durable_of replica_rules me history

      opens : has_fitting_floors (log_in history p) ≡ true → refused replica_rules c me (replica_renewed d first) ≡ None
      opens told =
          let tied = ties.tied p in
          let is = snap_is c me d v first e in
          let above = is.1 in
          let from : d.first ≤ first = omega (arith, above) in
          let most : first ≤ held d = subst (λ n. n ≤ held d) (sym is.0) (limit_held c d v) in
          renewed_fits d first from (tied_ordered d (log_in history p) tied) c me most
          (renewable c d (log_in history p) tied (logged_named c history h.fit p) told)
