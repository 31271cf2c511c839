-- In every run each replica's durable part is tied to all values that it kept.
use Rattle.cx_base.proofs.Common.{sym, subst, ap, inl, inr, cases_Bool}
use Rattle.cx_model.specs.Prelude.{◌≡◌, ◌⊎◌, ℕ, true, false, List, [], ◌∷◌, Option, None, Some, refl, Cluster, Value, Event, RoleId, role}
use Rattle.cx_model.specs.Prelude.{same_role, Letter, KeptRecord, Record, Outcome, IsTied, ReplicaDurable, ReplicaVolatile, replica_rules}
use Rattle.cx_model.specs.Prelude.{durable_part, log_of, run, State, BatcherIn, LeaderIn, ProxyIn, ReplicaIn, ReaderIn, ReplacerIn, plain}
use Rattle.cx_model.specs.Prelude.{same_role-true}
use Rattle.cx_base.specs.declared.role.Kind.TheVariants as kind
use Rattle.cx_inv_run.specs.Kinds.{IsKeeper, IsKept, OfKind}
use Rattle.cx_inv_run.specs.Laws.{Lands, Laws, anything}
use Rattle.cx_inv_run.specs.States.{entry_by, snap_by, with_record, durable_of, log_in, HoldsIn}
use Rattle.cx_inv_run.specs.Ties.{Ties}
use Rattle.cx_inv_run.proofs.Histories.{durable_by_time, durable_else, durable_none, durable_other, durable_own, durable_snap, log_by_time}
use Rattle.cx_inv_run.proofs.Histories.{log_none, log_other, log_own, log_snap}
use Rattle.cx_inv_run.proofs.Senders.{replica_kinds}
use Rattle.cx_inv_run.proofs.Sends.{keeps_only, replica_keeps}
use Rattle.cx_inv_run.proofs.Steps.{run_keeps, along_anything, all_allowed}
use Rattle.cx_inv_run.proofs.Tying.{tied_none, tied_more, tied_snap}

tied_as : (d e : ReplicaDurable) (vs ws : List Value) → d ≡ e → vs ≡ ws → IsTied e ws → IsTied d vs
tied_as d e vs ws p q tied = rw (p, q) tied

-- a fact of one replica, and of each other
pub by_replica : (P : ℕ → Type 0) (p q : ℕ) → P p → (same_role (role kind.Replica q) (role kind.Replica p) ≡ false → P q) → P q
by_replica P p q own other = go (cases_Bool (same_role (role kind.Replica q) (role kind.Replica p)))
  where
    go : (same_role (role kind.Replica q) (role kind.Replica p) ≡ true) ⊎ (same_role (role kind.Replica q) (role kind.Replica p) ≡ false)
        → P q
    go (inl t) = subst P (sym (ap (λ (a : RoleId). a.index) (same_role-true (role kind.Replica q) (role kind.Replica p) t))) own
    go (inr f) = other f

module _ (history : List KeptRecord) (sent : List Letter) (states : RoleId → State) (h : Ties history sent states) where
  abbrev IsTiedIn : List KeptRecord → ℕ → Type 0
  IsTiedIn after p = IsTied (durable_of replica_rules (role kind.Replica p) after) (log_in after p)

  -- a record of another role
  other_kept : (me : RoleId) (p : ℕ) (r : Record) → same_role (role kind.Replica p) me ≡ false → IsTiedIn (entry_by me r ∷ history) p
  other_kept me p r e =
      tied_as _ _ _ _ (durable_other replica_rules me (role kind.Replica p) r history e) (log_other me p r history e) (h.tied p)

  others : (me : RoleId) (o : Option Record) → ((p : ℕ) → same_role (role kind.Replica p) me ≡ false) → (p : ℕ)
      → IsTiedIn (with_record me o history) p
  others me None e p = h.tied p
  others me (Some r) e p = other_kept me p r (e p)

  -- a record of a replica
  own_kept : (p : ℕ) (r : Record) → IsKeeper kind.Replica r → IsTiedIn (entry_by (role kind.Replica p) r ∷ history) p
  own_kept p = replica_keeps (λ r. IsTiedIn (entry_by (role kind.Replica p) r ∷ history) p)
      (λ vs. tied_as _ _ _ _ (durable_own replica_rules (role kind.Replica p) _ history) (log_own p _ history)
      (tied_more _ (log_in history p) vs (h.tied p)))

  one_kept : (p : ℕ) (r : Record) → IsKeeper kind.Replica r → (q : ℕ) → IsTiedIn (entry_by (role kind.Replica p) r ∷ history) q
  one_kept p r k q =
      by_replica (IsTiedIn (entry_by (role kind.Replica p) r ∷ history)) p q (own_kept p r k) (other_kept (role kind.Replica p) q r)

  replicas : (p : ℕ) (o : Option Record) → IsKept kind.Replica o → (q : ℕ) → IsTiedIn (with_record (role kind.Replica p) o history) q
  replicas p None k q = h.tied q
  replicas p (Some r) k q = one_kept p r k q

  -- a row of another role
  landed : {V : Type 0} (me : RoleId) (make : V → State) (o : Outcome V) → ((p : ℕ) → same_role (role kind.Replica p) me ≡ false)
      → Lands Ties history sent states me make o
  landed me make o e = record {
    whole = record { tied = others me o.kept e };
    cut = λ r k. record { tied = λ p. other_kept me p r (e p) };
  }

  -- a row of a replica
  replica_landed : (p : ℕ) (o : Outcome ReplicaVolatile) → OfKind (role kind.Replica p) o
      → Lands Ties history sent states (role kind.Replica p) ReplicaIn o
  replica_landed p o kinds = record {
    whole = record { tied = replicas p o.kept kinds.keeps };
    cut = λ r e. record { tied = one_kept p r (keeps_only (role kind.Replica p) o r kinds e) };
  }

  -- a replica forgets values
  snapped : (c : Cluster) (p : ℕ) (v : ReplicaVolatile) (first : ℕ)
      → replica_rules.snap c (role kind.Replica p) (durable_of replica_rules (role kind.Replica p) history) v ≡ Some first
      → (q : ℕ) → IsTiedIn (snap_by (role kind.Replica p) first ∷ history) q
  snapped c p v first e q =
      let me = role kind.Replica p in
      by_replica (IsTiedIn (snap_by me first ∷ history)) p q (tied_as _ _ _ _ (durable_snap replica_rules me first history)
      (log_snap me p first history) (tied_snap c me _ v first (log_in history p) (h.tied p) e))
      (λ f. tied_as _ _ _ _ (durable_else replica_rules me (role kind.Replica q) first history f) (log_snap me q first history) (h.tied q))

  -- another role puts its list anew
  other_anew : (me : RoleId) (first : ℕ) → ((p : ℕ) → same_role (role kind.Replica p) me ≡ false) → (q : ℕ)
      → IsTiedIn (snap_by me first ∷ history) q
  other_anew me first e q =
      tied_as _ _ _ _ (durable_else replica_rules me (role kind.Replica q) first history (e q)) (log_snap me q first history) (h.tied q)

-- the states don't matter
restated : (history : List KeptRecord) (sent more : List Letter) (states others : RoleId → State) → Ties history sent states
    → Ties history more others
restated history sent more states others h = record { tied = h.tied }

started : (states : RoleId → State) → Ties [] [] states
started states = record { tied = λ p. tied_as _ _ _ _ (durable_none replica_rules (role kind.Replica p)) (log_none p) tied_none }

pub ties_laws : (c : Cluster) → Laws c (λ n e. Unit {0}) anything Ties
ties_laws c = record {
  same = λ history sent states others e h. restated history sent sent states others h;
  start = λ states fresh. started states;
  stop = λ history sent states me h. restated history sent sent states _ h;
  wake = λ history sent states me h e. restated history sent sent states _ h;
  ask = λ history sent states n e allowed knows h. restated history sent _ states states h;
  batcher = λ history sent states b v i knows h is given. landed history sent states h (role kind.Batcher b) BatcherIn _ (λ p. refl);
  leader = λ history sent states l v i knows h is given. landed history sent states h (role kind.Leader l) LeaderIn _ (λ p. refl);
  proxy = λ history sent states p v i knows h is given. landed history sent states h (role kind.Proxy p) ProxyIn _ (λ q. refl);
  acceptor = λ history sent states a i knows h is given. landed history sent states h (role kind.Acceptor a) plain _ (λ p. refl);
  matchmaker = λ history sent states m i knows h is given. landed history sent states h (role kind.Matchmaker m) plain _ (λ p. refl);
  replica = λ history sent states p v i knows h is given. replica_landed history sent states h p
      _ (replica_kinds c (role kind.Replica p) refl (durable_of replica_rules (role kind.Replica p) history) v i);
  snap = λ history sent states p v first knows h is e. record { tied = snapped history sent states h c p v first e };
  acceptor_anew = λ history sent states a first knows h is e.
      record { tied = other_anew history sent states h (role kind.Acceptor a) first (λ p. refl) };
  reader_anew = λ history sent states r first v knows h is e.
      record { tied = other_anew history sent states h (role kind.Reader r) first (λ p. refl) };
  unbatcher = λ history sent states u i knows h is given. landed history sent states h (role kind.Unbatcher u) plain _ (λ p. refl);
  reader = λ history sent states r v i knows h is given. landed history sent states h (role kind.Reader r) ReaderIn _ (λ p. refl);
  replacer = λ history sent states x v i knows h is given. landed history sent states h (role kind.Replacer x) ReplacerIn _ (λ p. refl);
}

pub ties_hold : (c : Cluster) (es : List Event) → HoldsIn Ties (run c es)
ties_hold c es = run_keeps c (λ n e. Unit {0}) anything Ties (ties_laws c) es (along_anything (run c []) es) (all_allowed (run c []) es)

-- the same, with the oldest first
pub tied_in : (c : Cluster) (es : List Event) (p : ℕ)
    → IsTied (durable_part replica_rules (role kind.Replica p) (run c es).kept) (log_of p (run c es).kept)
tied_in c es p = tied_as _ _ _ _ (durable_by_time replica_rules (role kind.Replica p) (run c es).kept) (log_by_time p (run c es).kept)
    ((ties_hold c es).tied p)
