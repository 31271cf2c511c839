-- A replica opens from its own renewed list.
use Rattle.cx_role.proofs.Common.{◌≡◌, ℕ, zero, suc, ◌-◌, ◌≤◌, Bool, true, List, [], ◌∷◌, drop, length-drop, None, Some, refl, ap, sym}
use Rattle.cx_role.proofs.Common.{subst, ◌∙◌, arith, and_parts, Cluster, RoleId, rises, Deferred, Machine, replica_renewed, replica_rules}
use Rattle.cx_role.proofs.Common.{Running, refused, Value, IsOrdered, ReplicaDurable, ReplicaVolatile, snapped_by}
use Rattle.cx_kv.specs.Rising.{has_lower_key}
use Rattle.cx_model.specs.RenewedLaws.{renewed_fits, renewed_folds}
use Rattle.cx_replica.specs.Rows.{replica_durable, replica_view}
use Rattle.cx_replica.specs.Sound.{IsSound, are_own, is_cluster_value}
use Rattle.cx_replica.specs.declared.wanted.Wanted.{Wanted}
use Rattle.cx_replica.proofs.Rows.{both_parts}
use Rattle.cx_rlog.specs.State.{LogState, from_slot, held}

pub renewed_opens : (c : Cluster) (me : RoleId) (live : Bool) (log : LogState) (m : Machine) (w : Wanted) (reads : List Deferred)
    (first : ℕ) → IsSound c me live log m w reads → rises has_lower_key m.map ≡ true → log.first ≤ first → first ≤ held log
    → refused replica_rules c me (replica_renewed (replica_durable log m w) first) ≡ None
renewed_opens c me live log m w reads first sound rising later within =
    renewed_fits (replica_durable log m w) first later sound.ordered c me within
    (record { keys = rising; near = sound.noted.near; clients = sound.noted.clients; values = (both_parts c log.list sound.own).1 })

own_later : (c : Cluster) (n : ℕ) (vs : List Value) → are_own c vs ≡ true → are_own c (drop n vs) ≡ true
own_later c zero vs own = own
own_later c (suc n) [] own = refl
own_later c (suc n) (v ∷ vs) own = own_later c n vs (and_parts (is_cluster_value c v) (are_own c vs) own).1

-- a list that wants nothing more
abbrev pub nothing_wanted : Wanted
nothing_wanted = record { begun = true; pairs = 0; clients = 0; values = 0 }

-- a replica without the values below a slot is sound
pub sound_renewed : (c : Cluster) (me : RoleId) (live lives : Bool) (log new : LogState) (m : Machine) (w none : Wanted)
    (reads : List Deferred) (first : ℕ)
    → IsSound c me live log m w reads → log.first ≤ first → first ≤ held log → new ≡ from_slot first log → none ≡ nothing_wanted
    → IsSound c me lives new m none reads
sound_renewed c me live lives log new m w none reads first sound later within is nothing =
    let count = length-drop (first - log.first) log.list in
    let before = sound.short in
    let there : IsSound c me lives (from_slot first log) m nothing_wanted reads = record {
      kind = sound.kind;
      place = sound.place;
      own = own_later c (first - log.first) log.list sound.own;
      waiting = sound.waiting;
      reads = sound.reads;
      few = sound.few;
      ordered = sound.ordered;
      noted = sound.noted;
      short = omega (arith, count, later, within, before);
      fresh = λ e. cc;
      whole = λ e. (refl, refl, refl);
    } in
    subst (λ (x : Wanted). IsSound c me lives new m x reads) (sym nothing)
    (subst (λ (l : LogState). IsSound c me lives l m nothing_wanted reads) (sym is) there)

-- its state is what its renewed list leaves
pub state_renewed : (c : Cluster) (me : RoleId) (live : Bool) (log new : LogState) (m : Machine) (w none : Wanted) (reads : List Deferred)
    (fetched first : ℕ) → new ≡ from_slot first log → none ≡ nothing_wanted → log.first ≤ first → IsOrdered m.table
    → replica_view c me live new m none reads fetched ≡ snapped_by replica_rules (replica_view c me live log m w reads fetched) (Some first)
state_renewed c me live log new m w none reads fetched first is nothing later ordered =
    let after : ReplicaDurable → Running ReplicaDurable ReplicaVolatile =
    λ d. record (replica_view c me live log m w reads fetched) { durable = d } in
    (λ j. replica_view c me live (is j) m (nothing j) reads fetched)
    ∙ sym (ap after (renewed_folds (replica_durable log m w) first later ordered))
