-- What is so of the values that are ready, and of a replica after them.
use Rattle.std.proofs.Math.Bool.{and-false}
use Rattle.std.proofs.lemmas.List.Sums.{count_by-le-length, length-filter}
use Rattle.cx_role.proofs.Common.{◌≡◌, ℕ, zero, suc, ◌+◌, ◌-◌, ◌<◌, ◌≤◌, ◌^◌, ◌==◌, ◌&&◌, Bool, true, false, List, [], ◌∷◌, ◌++◌, length}
use Rattle.cx_role.proofs.Common.{Option, None, Some, refl, ap, sym, ◌∙◌, subst, inl, inr, arith, nat_lt, nat_le, min, list_all, slice_get}
use Rattle.cx_role.proofs.Common.{and_from, and_parts, cases_Bool, eqb-true, nat_tests, length-append, list_all-append, same_Some, Cluster}
use Rattle.cx_role.proofs.Common.{Placed, Value, RoleId, ready_values, Note, IsOrdered, value, Deferred, names_value, Outcome, by_test}
use Rattle.cx_role.proofs.Common.{Machine, ReplicaDurable, ReplicaVolatile, are_client_notes, machine_from, are_rising, replica_rules}
use Rattle.cx_role.proofs.Common.{still_deferred, Running, MayKeep}
use Rattle.cx_base.specs.Log.{value_for, before_following, following, still_early}
use Rattle.cx_wire.specs.Format.{u8, u32, u64}
use Rattle.cx_field.specs.Fields.{mark, token}
use Rattle.cx_letter.specs.Records.{kept_record, fits as record_fits}
use Rattle.cx_letter.specs.declared.kept.Record.TheVariants as kept
use Rattle.cx_model.specs.Replica.{held as held_of, is_renewal_whole, with_client, replica_fits}
use Rattle.cx_field.proofs.Rising.{list_all-filter}
use Rattle.cx_replica.specs.Rows.{chosen_row_in}
use Rattle.cx_replica.specs.Sound.{is_cluster_value, are_own, are_own_early, are_notes, are_reads, are_values, IsTableOfCluster, IsSound}
use Rattle.cx_replica.proofs.Values.{notes_in, values_in}
use Rattle.cx_replica.specs.declared.wanted.Wanted.{Wanted}
use Rattle.cx_replica.proofs.Noted.{values_noted}
use Rattle.cx_rlog.specs.State.{LogState, held}
use Rattle.cx_rlog.proofs.Following.{still_early-filter}
use Rattle.cx_rlog.specs.Taken.{taken_at}
use Rattle.cx_rlog.specs.declared.taken.Taken.TheVariants as taken

value_for_own : (c : Cluster) (s : ℕ) (early : List Placed) (v : Value) → are_own_early c early ≡ true
    → value_for s early ≡ Some v → is_cluster_value c v ≡ true
value_for_own c s [] v own e = cc
value_for_own c s (p ∷ early) v own e =
    let parts = and_parts (is_cluster_value c p.value) (are_own_early c early) own in
    elim (cases_Bool (p.slot == s)) as (λ _. is_cluster_value c v ≡ true) [
      | inl t ↦ let same : Some p.value ≡ Some v = rw t at e in let here = parts.0 in cc
      | inr f ↦ value_for_own c s early v parts.1 (rw f at e)
    ]

following_own : (c : Cluster) (early : List Placed) (s most : ℕ) → are_own_early c early ≡ true
    → are_own c (following early s most) ≡ true
following_own c early s zero own = refl
following_own c early s (suc most) own = go (value_for s early) refl (following_own c early (s + 1) most own)
  where
    go : (o : Option Value) → value_for s early ≡ o → are_own c (following early (s + 1) most) ≡ true
        → are_own c (before_following o (following early (s + 1) most)) ≡ true
    go None e rest = refl
    go (Some v) e rest = and_from (is_cluster_value c v) (are_own c (following early (s + 1) most)) (value_for_own c s early v own e) rest

following_few : (early : List Placed) (s most : ℕ) → length (following early s most) ≤ most
following_few early s zero = omega arith
following_few early s (suc most) = go (value_for s early) (following_few early (s + 1) most)
  where
    go : (o : Option Value) → length (following early (s + 1) most) ≤ most
        → length (before_following o (following early (s + 1) most)) ≤ suc most
    go None rest = omega arith
    go (Some v) rest = omega arith

-- the values that are ready are the cluster's
pub ready_own : (c : Cluster) (held : ℕ) (early : List Placed) (v : Value) → is_cluster_value c v ≡ true
    → are_own_early c early ≡ true → are_own c (ready_values held early v) ≡ true
ready_own c held early v one own =
    let most = min 31 (1099511627776 - (held + 1)) in
    and_from (is_cluster_value c v) (are_own c (following early (held + 1) most)) one (following_own c early (held + 1) most own)

-- slots end at 2^40
pub ready_short : (held : ℕ) (early : List Placed) (v : Value) → held < 2 ^ 40
    → held + length (ready_values held early v) ≤ 2 ^ 40
ready_short held early v below =
    let few = following_few early (held + 1) (min 31 (1099511627776 - (held + 1))) in omega arith

abbrev are_named : Cluster → List Value → Bool
are_named c vs = list_all (λ (v : Value). names_value c v) vs

-- the values are the cluster's where they are in their ranges and name its clients
own_parts : (c : Cluster) (vs : List Value) → are_own c vs ≡ (are_values vs && are_named c vs)
own_parts c [] = refl
own_parts c (v ∷ vs) =
    rw (own_parts c vs) (regrouped (value.fits v) (names_value c v) (are_values vs) (are_named c vs))
  where
    regrouped : (f n fs ns : Bool) → ((f && n) && (fs && ns)) ≡ ((f && fs) && (n && ns))
    regrouped false n fs ns = refl
    regrouped true true fs ns = refl
    regrouped true false fs ns = sym (and-false fs)

pub both_parts : (c : Cluster) (vs : List Value) → are_own c vs ≡ true → (are_values vs ≡ true) × (are_named c vs ≡ true)
both_parts c vs own = and_parts (are_values vs) (are_named c vs) (sym (own_parts c vs) ∙ own)

pub own_fits : (c : Cluster) (vs : List Value) → are_own c vs ≡ true → are_values vs ≡ true
own_fits c vs own = (both_parts c vs own).0

-- a value that is held is in its ranges
pub fits_at : (c : Cluster) (vs : List Value) (slot : ℕ) (v : Value) → are_own c vs ≡ true → slice_get vs slot ≡ Some v
    → value.fits v ≡ true
fits_at c [] slot v own e = cc
fits_at c (w ∷ vs) zero v own e =
    let parts = and_parts (is_cluster_value c w) (are_own c vs) own in
    subst (λ (x : Value). value.fits x ≡ true) (same_Some w v e) ((and_parts (value.fits w) (names_value c w) parts.0).0)
fits_at c (w ∷ vs) (suc slot) v own e = fits_at c vs slot v (and_parts (is_cluster_value c w) (are_own c vs) own).1 e

pub own-append : (c : Cluster) (log vs : List Value) → are_own c log ≡ true → are_own c vs ≡ true
    → are_own c (log ++ vs) ≡ true
own-append c log vs held new =
    list_all-append (λ (v : Value). is_cluster_value c v) log vs ∙ and_from (are_own c log) (are_own c vs) held new

pub still_own : (c : Cluster) (held : ℕ) (early : List Placed) → are_own_early c early ≡ true
    → are_own_early c (still_early held early) ≡ true
still_own c held early own =
    rw (← still_early-filter held early)
    (list_all-filter (λ (p : Placed). nat_le held p.slot) (λ (p : Placed). is_cluster_value c p.value) early own)

-- a chosen value's record is one that the replica may keep
pub chosen_fits : (r : Running ReplicaDurable ReplicaVolatile) (s : ℕ) (w : Value) → s < 2 ^ 40 → is_renewal_whole r.durable ≡ true
    → is_cluster_value r.cluster w ≡ true → are_own_early r.cluster r.volatile.early ≡ true
    → MayKeep replica_rules r (chosen_row_in r s w)
chosen_fits r s w below whole one own =
    let n = held_of r.durable in
    let Fits : Outcome ReplicaVolatile → Type 0 = λ o. MayKeep replica_rules r o in
    by_test Fits (nat_lt s n) _ _ (λ _. tt)
    (λ past. by_test Fits (nat_le (n + 32) s) _ _ (λ _. tt)
    (λ far. by_test Fits (nat_lt n s) _ _ (λ _. tt)
    (λ early.
    let under : n < 2 ^ 40 = grind (arith, nat_tests) in
    let short = ready_short n r.volatile.early w under in
    let ready = ready_own r.cluster n r.volatile.early w one own in
    let named = (both_parts r.cluster (ready_values n r.volatile.early w) ready).1 in
    (and_from _ _ (and_from _ _ whole named) (grind (arith, nat_tests)), whole))))

pub log_fits : (vs : List Value) → record_fits (kept.Log vs) ≡ true → are_values vs ≡ true
unfolding kept_record
log_fits vs h = values_in vs h

-- values of a record that fits a list that is whole
pub logged_own : (c : Cluster) (me : RoleId) (d : ReplicaDurable) (vs : List Value)
    → are_values vs ≡ true → replica_fits c me d (kept.Log vs) ≡ true → are_own c vs ≡ true
logged_own c me d vs fit own =
    let named = (and_parts (is_renewal_whole d) (are_named c vs)
    (and_parts (is_renewal_whole d && are_named c vs) (nat_le (held_of d + length vs) 1099511627776) own).0).1 in
    own_parts c vs ∙ and_from (are_values vs) (are_named c vs) fit named

pub tailed_own : (c : Cluster) (me : RoleId) (d : ReplicaDurable) (vs : List Value)
    → are_values vs ≡ true → replica_fits c me d (kept.Tail vs) ≡ true → are_own c vs ≡ true
tailed_own c me d vs fit own =
    let named = (and_parts (d.pairs == 0 && d.clients == 0) (are_named c vs)
    (and_parts (d.pairs == 0 && d.clients == 0 && are_named c vs) (length vs == min 32 d.values) own).0).1 in
    own_parts c vs ∙ and_from (are_values vs) (are_named c vs) fit named

pub tailed_few : (c : Cluster) (me : RoleId) (d : ReplicaDurable) (vs : List Value) → replica_fits c me d (kept.Tail vs) ≡ true
    → length vs ≤ d.values
tailed_few c me d vs own =
    let size = (and_parts (d.pairs == 0 && d.clients == 0 && are_named c vs) (length vs == min 32 d.values) own).1 in
    grind (arith, nat_tests, size)

pub noted_parts : (c : Cluster) (me : RoleId) (d : ReplicaDurable) (client floor : ℕ) (notes : List Note)
    → replica_fits c me d (kept.Notes client floor notes) ≡ true
    → (nat_lt client c.clients ≡ true) × (are_rising 0 (with_client client floor notes d.machine.table).floors ≡ true)
    × (are_client_notes floor notes ≡ true)
noted_parts c me d client floor notes own =
    let p = and_parts (d.pairs == 0 && nat_lt 0 d.clients && nat_lt client c.clients
    && are_rising 0 (with_client client floor notes d.machine.table).floors) (are_client_notes floor notes) own in
    let q = and_parts (d.pairs == 0 && nat_lt 0 d.clients && nat_lt client c.clients)
    (are_rising 0 (with_client client floor notes d.machine.table).floors) p.0 in
    let r = and_parts (d.pairs == 0 && nat_lt 0 d.clients) (nat_lt client c.clients) q.0 in
    (r.1, q.1, p.1)

-- a list that wants nothing more is whole
pub wants_nothing : (pairs clients values : ℕ) → (pairs ≡ 0) × (clients ≡ 0) × (values ≡ 0)
    → (pairs == 0 && clients == 0 && values == 0) ≡ true
wants_nothing pairs clients values none =
    let p = none.0 in
    let q = none.1 in
    let r = none.2 in
    rw (p, q, r) refl

pub wants_none : (pairs clients values : ℕ) → (pairs == 0 && clients == 0 && values == 0) ≡ true
    → (pairs ≡ 0) × (clients ≡ 0) × (values ≡ 0)
wants_none pairs clients values whole =
    let b = and_parts (pairs == 0 && clients == 0) (values == 0) whole in
    let a = and_parts (pairs == 0) (clients == 0) b.0 in
    (eqb-true pairs 0 a.0, eqb-true clients 0 a.1, eqb-true values 0 b.1)

pub logged_parts : (c : Cluster) (me : RoleId) (d : ReplicaDurable) (vs : List Value) → replica_fits c me d (kept.Log vs) ≡ true
    → ((d.pairs ≡ 0) × (d.clients ≡ 0) × (d.values ≡ 0)) × (held_of d + length vs ≤ 2 ^ 40)
logged_parts c me d vs own =
    let p = and_parts (is_renewal_whole d && are_named c vs) (nat_le (held_of d + length vs) 1099511627776) own in
    let whole = (and_parts (is_renewal_whole d) (are_named c vs) p.0).0 in
    let short = p.1 in
    (wants_none d.pairs d.clients d.values whole, grind (arith, nat_tests, short))

-- a replica is sound after more values of the cluster, once they are executed
pub sound_more : (c : Cluster) (me : RoleId) (live : Bool) (log new : LogState) (m n : Machine) (w : Wanted) (reads left : List Deferred)
    (vs : List Value)
    → IsSound c me live log m w reads → (w.pairs ≡ 0) × (w.clients ≡ 0) × (w.values ≡ 0)
    → new.first ≡ log.first → new.list ≡ log.list ++ vs → are_own c vs ≡ true → are_own_early c new.early ≡ true
    → n ≡ machine_from (held log) m vs → held log + length vs ≤ 2 ^ 40
    → are_reads left ≡ true → length left ≤ 64 → IsSound c me live new n (record w { begun = true }) left
sound_more c me live log new m n w reads left vs sound none first list own early ran short fit few =
    let both = values_noted c (held log) m vs own sound.ordered sound.noted in
    let size : length new.list ≡ length log.list + length vs = ap (λ (l : List Value). length l) list ∙ length-append log.list vs in
    let nothing = none.2 in
    record {
      kind = sound.kind;
      place = sound.place;
      own = subst (λ (l : List Value). are_own c l ≡ true) (sym list) (own-append c log.list vs sound.own own);
      waiting = early;
      reads = fit;
      few = few;
      ordered = rw ran both.0;
      noted = rw ran both.1;
      short = omega (arith, first, size, nothing, short);
      fresh = λ e. cc;
      whole = λ e. none;
    }

-- values that were executed before stand behind those that it has
pub sound_tail : (c : Cluster) (me : RoleId) (live : Bool) (log new : LogState) (m : Machine) (w : Wanted) (reads : List Deferred)
    (vs : List Value)
    → IsSound c me live log m w reads → live ≡ false → new.first ≡ log.first → new.list ≡ log.list ++ vs → are_own c vs ≡ true
    → are_own_early c new.early ≡ true → length vs ≤ w.values
    → IsSound c me live new m (record w { begun = true; values = w.values - length vs }) reads
sound_tail c me live log new m w reads vs sound waits first list own early most =
    let size : length new.list ≡ length log.list + length vs = ap (λ (l : List Value). length l) list ∙ length-append log.list vs in
    let before = sound.short in
    record {
      kind = sound.kind;
      place = sound.place;
      own = subst (λ (l : List Value). are_own c l ≡ true) (sym list) (own-append c log.list vs sound.own own);
      waiting = early;
      reads = sound.reads;
      few = sound.few;
      ordered = sound.ordered;
      noted = sound.noted;
      short = omega (arith, first, size, most, before);
      fresh = λ e. cc;
      whole = λ e. cc;
    }

-- what is noted of one more client
pub sound_notes : (c : Cluster) (me : RoleId) (live : Bool) (log : LogState) (m n : Machine) (w : Wanted) (reads : List Deferred)
    → IsSound c me live log m w reads → live ≡ false → IsOrdered n.table → IsTableOfCluster c n.table
    → IsSound c me live log n (record w { begun = true; clients = w.clients - 1 }) reads
sound_notes c me live log m n w reads sound waits ordered noted = record {
  kind = sound.kind;
  place = sound.place;
  own = sound.own;
  waiting = sound.waiting;
  reads = sound.reads;
  few = sound.few;
  ordered = ordered;
  noted = noted;
  short = sound.short;
  fresh = λ e. cc;
  whole = λ e. cc;
}

pub base_held : (f h p n : ℕ) → record_fits (kept.Base f h p n) ≡ true → h ≤ 2 ^ 40
unfolding kept_record mark u64
base_held f h p n fit =
    let most =
    (and_parts (mark.fits h) (u32.fits p && u8.fits n) (and_parts (mark.fits f) (mark.fits h && (u32.fits p && u8.fits n)) fit).1).0 in
    grind (arith, nat_tests, most)

pub tail_fits : (vs : List Value) → record_fits (kept.Tail vs) ≡ true → are_values vs ≡ true
unfolding kept_record
tail_fits vs h = values_in vs h

pub notes_fit : (client floor : ℕ) (ns : List Note) → record_fits (kept.Notes client floor ns) ≡ true → are_notes client ns ≡ true
unfolding kept_record
notes_fit client floor ns h =
    let parts = and_parts _ _ h in
    notes_in client ns parts.0 (and_parts _ _ parts.1).1

pub none_own : (c : Cluster) (log : LogState) (first : ℕ) (list : List Value) (spare : ℕ)
    → log ≡ record { first = first; list = list; early = []; spare = spare } → are_own_early c log.early ≡ true
none_own c log first list spare is = subst (λ (l : LogState). are_own_early c l.early ≡ true) (sym is) refl

next_is : (held s : ℕ) → taken.Next ≡ taken_at held s → s ≡ held
next_is held s e = elim (cases_Bool (nat_lt s held)) as (λ _. s ≡ held) [
  | inl t ↦ let past : taken.Next ≡ taken.Past = rw t at e in cc
  | inr f ↦ elim (cases_Bool (nat_le (held + 32) s)) as (λ _. s ≡ held) [
    | inl t ↦ let full : taken.Next ≡ taken.Full = rw (f, t) at e in cc
    | inr g ↦ elim (cases_Bool (s == held)) as (λ _. s ≡ held) [
      | inl t ↦ eqb-true s held t
      | inr h ↦ let early : taken.Next ≡ taken.Early = rw (f, g, h) at e in cc
    ]
  ]
]

-- the next slot is below the end of slots where it is taken
pub next_below : (old new : LogState) (early : List Placed) (s : ℕ) → taken.Next ≡ taken_at (held old) s
    → new ≡ record old { early = early } → s < 2 ^ 40 → held new < 2 ^ 40
next_below old new early s next is below =
    let here : s ≡ held old = next_is (held old) s next in
    let same : held new ≡ held old = ap (λ (l : LogState). held l) is in
    omega arith

-- the reads that still wait are in their ranges, and no more than before
pub still_reads : (held : ℕ) (reads : List Deferred) → are_reads reads ≡ true
    → are_reads (still_deferred held reads) ≡ true
still_reads held reads fit =
    list_all-filter (λ (r : Deferred). nat_lt held r.mark) (λ (r : Deferred). token.fits r.token) reads fit

pub still_few : (held : ℕ) (reads : List Deferred) (most : ℕ) → length reads ≤ most
    → length (still_deferred held reads) ≤ most
still_few held reads most few = omega
    (arith, length-filter (λ (r : Deferred). nat_lt held r.mark) reads, count_by-le-length (λ (r : Deferred). nat_lt held r.mark) reads)
