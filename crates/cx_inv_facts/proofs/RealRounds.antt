-- Each round that was begun is a real one.
use Rattle.cx_inv_run.proofs.Common.{◌≡◌, true, List, ◌∷◌, Option, None, Some, sym, subst, ◌∙◌, refl, inl, inr, Cluster, Event, Kind}
use Rattle.cx_inv_run.proofs.Common.{RoleId, Round, Shape, role, is_before, no_round, Letter, KeptRecord, Record, acceptor_rules}
use Rattle.cx_inv_run.proofs.Common.{matchmaker_rules, Outcome, HasKept, reader_rules, replacer_rules, replica_rules, run, IsKept, OfKind}
use Rattle.cx_inv_run.proofs.Common.{Lands, Laws, State, BatcherIn, LeaderIn, ProxyIn, ReplicaIn, ReaderIn, ReplacerIn, plain, entry_by}
use Rattle.cx_inv_run.proofs.Common.{with_record, durable_of, HoldsIn, kept_cases, no_snap, batcher_kinds, proxy_kinds, acceptor_kinds}
use Rattle.cx_inv_run.proofs.Common.{matchmaker_kinds, replica_kinds, unbatcher_kinds, reader_kinds, replacer_kinds, always}
use Rattle.cx_base.specs.declared.role.Kind.TheVariants as kind
use Rattle.cx_letter.specs.declared.kept.Record.TheVariants as kept
use Rattle.cx_inv_match.specs.Facts.{Facts}
use Rattle.cx_inv_vote.proofs.Steps.{facts_hold}
use Rattle.cx_inv_facts.proofs.LeaderRows.{leader_next}
use Rattle.cx_inv_facts.proofs.Next.{AllNext}

abbrev AreReal : List KeptRecord → List Letter → (RoleId → State) → Type 0
AreReal history sent states = (me : RoleId) (i : Round) (g : Shape) → HasKept history me (kept.Round i g) → is_before no_round i ≡ true

-- a record of a round is of a real one
abbrev IsReal : Record → Type 0
IsReal (kept.Round i g) = is_before no_round i ≡ true
IsReal other = Unit {0}

-- roles that begin no rounds
no_round_kept : (k : Kind) → (k ≡ kind.Leader → ⊥) → (r : Record) → IsKept k (Some r) → IsReal r
no_round_kept k other (kept.Round i g) s = absurd (other s)
no_round_kept k other r s = tt

real_next : (history : List KeptRecord) (me : RoleId) (r : Record) → AllNext history me (Some r) → IsReal r
real_next history me (kept.Round i g) next = next.0
real_next history me r next = tt

module _ (history : List KeptRecord) (sent : List Letter) (states : RoleId → State) (h : AreReal history sent states) (me : RoleId) where
  one_more : (r : Record) → IsReal r → (a : RoleId) (i : Round) (g : Shape) → HasKept (entry_by me r ∷ history) a (kept.Round i g)
      → is_before no_round i ≡ true
  one_more r real a i g x = elim (kept_cases me a r (kept.Round i g) history x) [
    | inl q ↦ subst IsReal (sym q.1) real
    | inr o ↦ h a i g o
  ]

  landed : {V : Type 0} (make : V → State) (o : Outcome V) (k : Option Record) → o.kept ≡ k → ((r : Record) → k ≡ Some r → IsReal r)
      → Lands AreReal history sent states me make o
  landed make o None e real = record {
    whole = subst (λ (x : Option Record). AreReal (with_record me x history) sent states) (sym e) h;
    cut = λ r p. absurd (none_some r (sym e ∙ p));
  }
    where
      none_some : (r : Record) → None ≡ Some r → ⊥
      none_some r p = cc
  landed make o (Some r) e real = record {
    whole = subst (λ (x : Option Record). AreReal (with_record me x history) sent states) (sym e) (one_more r (real r refl));
    cut = λ q p. one_more q (real q (sym e ∙ p));
  }

  calm : {V : Type 0} (make : V → State) (o : Outcome V) → (me.kind ≡ kind.Leader → ⊥) → OfKind me o
      → Lands AreReal history sent states me make o
  calm make o other kinds =
      landed make o o.kept refl (λ r e. no_round_kept me.kind other r (subst (λ (x : Option Record). IsKept me.kind x) e kinds.keeps))

real_laws : (c : Cluster) → Laws c (λ n e. Unit {0}) (Facts c) AreReal
real_laws c = record {
  same = λ history sent states others same h. h;
  start = λ states starts me i g m. absurd m;
  stop = λ history sent states me h. h;
  wake = λ history sent states me h down. h;
  ask = λ history sent states n e allowed facts h. h;
  batcher = λ history sent states b v i facts h is given.
      calm history sent states h (role kind.Batcher b) BatcherIn _ (λ p. cc) (batcher_kinds c (role kind.Batcher b) refl v i);
  leader = λ history sent states l v i facts h is given.
      landed history sent states h (role kind.Leader l) LeaderIn _ _ refl
      (λ r e. real_next history (role kind.Leader l) r
      (subst (λ (x : Option Record). AllNext history (role kind.Leader l) x) e (leader_next c history sent states facts l v i)));
  proxy = λ history sent states p v i facts h is given.
      calm history sent states h (role kind.Proxy p) ProxyIn _ (λ q. cc) (proxy_kinds c (role kind.Proxy p) refl v i);
  acceptor = λ history sent states a i facts h is given.
      calm history sent states h (role kind.Acceptor a) plain _ (λ p. cc)
      (acceptor_kinds c (role kind.Acceptor a) refl (durable_of acceptor_rules (role kind.Acceptor a) history) i);
  matchmaker = λ history sent states m i facts h is given.
      calm history sent states h (role kind.Matchmaker m) plain _ (λ p. cc)
      (matchmaker_kinds c (role kind.Matchmaker m) refl (durable_of matchmaker_rules (role kind.Matchmaker m) history) i);
  replica = λ history sent states p v i facts h is given.
      calm history sent states h (role kind.Replica p) ReplicaIn _ (λ q. cc)
      (replica_kinds c (role kind.Replica p) refl (durable_of replica_rules (role kind.Replica p) history) v i);
  snap =
      λ history sent states p v first facts h is e me i g x. h me i g (no_snap (role kind.Replica p) me first (kept.Round i g) history x);
  acceptor_anew =
      λ history sent states p first facts h is e me i g x. h me i g (no_snap (role kind.Acceptor p) me first (kept.Round i g) history x);
  reader_anew =
      λ history sent states p first v facts h is e me i g x. h me i g (no_snap (role kind.Reader p) me first (kept.Round i g) history x);
  unbatcher = λ history sent states u i facts h is given.
      calm history sent states h (role kind.Unbatcher u) plain _ (λ p. cc) (unbatcher_kinds c (role kind.Unbatcher u) refl i);
  reader = λ history sent states r v i facts h is given. calm history sent states h (role kind.Reader r) ReaderIn _ (λ p. cc)
      (reader_kinds c (role kind.Reader r) refl (durable_of reader_rules (role kind.Reader r) history) v i);
  replacer = λ history sent states x v i facts h is given. calm history sent states h (role kind.Replacer x) ReplacerIn _ (λ p. cc)
      (replacer_kinds c (role kind.Replacer x) refl (durable_of replacer_rules (role kind.Replacer x) history) v i);
}

pub all_real : (c : Cluster) (es : List Event) → HoldsIn AreReal (run c es)
all_real c es = always c (Facts c) AreReal (real_laws c) (facts_hold c) es
