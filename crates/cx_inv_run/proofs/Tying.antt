-- A durable part stays tied to all values that its replica kept: with more values, and without those below a slot.
use Rattle.cx_base.proofs.Common.{sym, ◌∙◌, ap, subst, arith, length-append, length-drop, nat_tests, drop-append-le, drop-drop}
use Rattle.cx_model.specs.Prelude.{◌≡◌, ◌≤◌, ◌<◌, ℕ, ◌+◌, ◌-◌, ◌||◌, Bool, true, false, List, [], ◌∷◌, ◌++◌, length, drop, Some, refl, ◌==◌}
use Rattle.cx_model.specs.Prelude.{nat_le, min, if◌then◌else◌, None, Cluster, Value, RoleId, machine_ordered, IsOrdered, renewed_folds}
use Rattle.cx_model.specs.Prelude.{IsTied, Machine, ReplicaDurable, ReplicaVolatile, execute_value, held, machine_from, machine_of}
use Rattle.cx_model.specs.Prelude.{new_machine, replica_after, replica_renewed, replica_rules, replica_snap, folded}
use Rattle.cx_letter.specs.declared.kept.Record.TheVariants as kept
use Rattle.cx_model.specs.Renewed.{forgets}
use Rattle.cx_model.specs.Replica.{snap_limit}

-- how many slots are held is how many values were kept
pub held_is : (d : ReplicaDurable) (values : List Value) → IsTied d values → held d ≡ length values
held_is d values tied = omega (arith, tied.within, ap length tied.log, length-drop d.first values)

-- more values go through the machine that the first ones leave
pub machine_goes_on : (n : ℕ) (m : Machine) (vs ws : List Value)
    → machine_from n m (vs ++ ws) ≡ machine_from (n + length vs) (machine_from n m vs) ws
machine_goes_on n m [] ws = (let same : n ≡ n + 0 = omega arith in ap (λ k. machine_from k m ws) same)
machine_goes_on n m (v ∷ vs) ws =
    let first = (execute_value n m v).machine in
    let same : n + 1 + length vs ≡ n + length (v ∷ vs) = omega arith in
    machine_goes_on (n + 1) first vs ws ∙ ap (λ k. machine_from k (machine_from (n + 1) first vs) ws) same

pub tied_none : IsTied replica_rules.empty []
tied_none = record { within = omega arith; log = refl; machine = refl; whole = refl }

pub tied_more : (d : ReplicaDurable) (values vs : List Value) → IsTied d values → IsTied (replica_after d (kept.Log vs)) (values ++ vs)
tied_more d values vs tied = record {
  within = omega (arith, tied.within, length-append values vs);
  log = ap (λ l. l ++ vs) tied.log ∙ sym (drop-append-le d.first values vs tied.within);
  machine =
      let count : held d ≡ 0 + length values = omega (arith, held_is d values tied) in
      ap (λ m. machine_from (held d) m vs) tied.machine ∙ ap (λ n. machine_from n (machine_of values) vs) count
      ∙ sym (machine_goes_on 0 new_machine values vs);
  whole = tied.whole;
}

pub tied_forgets : (d : ReplicaDurable) (first : ℕ) (values : List Value) → d.first ≤ first → first ≤ held d → IsTied d values
    → IsTied (forgets d first) values
tied_forgets d first values from most tied = record {
  within = omega (arith, most, held_is d values tied);
  log =
      let sum : d.first + (first - d.first) ≡ first = omega (arith, from) in
      ap (λ l. drop (first - d.first) l) tied.log ∙ drop-drop (first - d.first) d.first values ∙ ap (λ n. drop n values) sum;
  machine = tied.machine;
  whole = refl;
}

-- which slot a replica forgets up to: the mark, which is above its first slot
pub snap_is : (c : Cluster) (me : RoleId) (d : ReplicaDurable) (v : ReplicaVolatile) (first : ℕ) → replica_snap c me d v ≡ Some first
    → (first ≡ snap_limit c d v) × (d.first < first)
snap_is c me d v first e = go (nat_le (snap_limit c d v) d.first) (nat_le 4294967296 (length d.machine.map)) refl e
  where
    go : (low many : Bool) → nat_le (snap_limit c d v) d.first ≡ low → (if low || many then None else Some (snap_limit c d v)) ≡ Some first
        → (first ≡ snap_limit c d v) × (d.first < first)
    go true many low e = cc
    go false true low e = cc
    go false false low e =
        let is : snap_limit c d v ≡ first = cc in
        (sym is, subst (λ n. d.first < n) is (grind (arith, nat_tests, low)))

-- it is held
pub limit_held : (c : Cluster) (d : ReplicaDurable) (v : ReplicaVolatile) → snap_limit c d v ≤ held d
limit_held c d v = go (c.replicas == 1)
  where
    go : (alone : Bool) → (if alone then held d else min (held d) v.fetched) ≤ held d
    go true = omega arith
    go false = grind (arith, nat_tests)

-- a renewal leaves the durable part tied
pub tied_snap : (c : Cluster) (me : RoleId) (d : ReplicaDurable) (v : ReplicaVolatile) (first : ℕ) (values : List Value) → IsTied d values
    → replica_snap c me d v ≡ Some first → IsTied (folded replica_rules (replica_renewed d first)) values
tied_snap c me d v first values tied e =
    let is = snap_is c me d v first e in
    let above = is.1 in
    let from : d.first ≤ first = omega (arith, above) in
    let most : first ≤ held d = subst (λ n. n ≤ held d) (sym is.0) (limit_held c d v) in
    let ordered : IsOrdered d.machine.table = subst (λ (m : Machine). IsOrdered m.table) (sym tied.machine) (machine_ordered values) in
    subst (λ x. IsTied x values) (sym (renewed_folds d first from ordered)) (tied_forgets d first values from most tied)
