-- Each step keeps the records in order, so they are in every run.
use Rattle.cx_inv_run.proofs.Common.{◌≡◌, List, ◌∷◌, Option, None, Some, subst, sym, ◌∙◌, refl, Cluster, Event, RoleId, role, Letter}
use Rattle.cx_inv_run.proofs.Common.{KeptRecord, Written, Record, Member, Outcome, reader_rules, replica_rules, run, OfKind, Lands, Laws}
use Rattle.cx_inv_run.proofs.Common.{State, BatcherIn, LeaderIn, ProxyIn, ReplicaIn, ReaderIn, ReplacerIn, plain, entry_by, with_record}
use Rattle.cx_inv_run.proofs.Common.{durable_of, HoldsIn, batcher_kinds, proxy_kinds, replica_kinds, unbatcher_kinds, reader_kinds, always}
use Rattle.cx_base.specs.declared.role.Kind.TheVariants as kind
use Rattle.cx_letter.specs.declared.input.Written.TheVariants as written
use Rattle.cx_inv_match.specs.Facts.{Facts}
use Rattle.cx_inv_vote.proofs.Steps.{facts_hold}
use Rattle.cx_inv_facts.specs.Order.{Each, IsLaterChange, LaterOfOne, Ordered}
use Rattle.cx_inv_facts.proofs.LeaderRows.{leader_next}
use Rattle.cx_inv_facts.proofs.Next.{IsNext, AllNext, KeepsNoRounds, is_later, no_rounds, acceptor_next, matchmaker_next}
use Rattle.cx_inv_facts.proofs.Replacers.{replacer_next}

module _ (history : List KeptRecord) (sent : List Letter) (states : RoleId → State) (h : Ordered history sent states) (me : RoleId) where
  one_more : (r : Record) → IsNext history me r → Each LaterOfOne (entry_by me r ∷ history)
  one_more r next =
      (λ k m e. later k.what (subst (λ (a : RoleId). Member {X = KeptRecord} (record { role = a; what = k.what }) history) e m), h)
    where
      later : (w : Written) → Member {X = KeptRecord} (record { role = me; what = w }) history → IsLaterChange (written.Record r) w
      later (written.Record s) m = is_later history me r next s m
      later (written.Snap first) m = tt

  in_order : {V : Type 0} (make : V → State) (o : Outcome V) (r : Option Record) → o.kept ≡ r → AllNext history me r
      → Lands Ordered history sent states me make o
  in_order make o None e next = record {
    whole = subst (λ (x : Option Record). Each LaterOfOne (with_record me x history)) (sym e) h;
    cut = λ r p. absurd (none_some r (sym e ∙ p));
  }
    where
      none_some : (r : Record) → None ≡ Some r → ⊥
      none_some r p = cc
  in_order make o (Some r) e next = record {
    whole = subst (λ (x : Option Record). Each LaterOfOne (with_record me x history)) (sym e) (one_more r next);
    cut = λ q p. one_more q (subst (λ (x : Option Record). AllNext history me x) (sym e ∙ p) next);
  }

  -- a role that keeps no rounds
  calm : {V : Type 0} (make : V → State) (o : Outcome V) → KeepsNoRounds me.kind → OfKind me o → Lands Ordered history sent states me make o
  calm make o none kinds = in_order make o o.kept refl (no_rounds history me me.kind none o.kept kinds.keeps)

ordered_laws : (c : Cluster) → Laws c (λ n e. Unit {0}) (Facts c) Ordered
ordered_laws c = record {
  same = λ history sent states others same h. h;
  start = λ states starts. tt;
  stop = λ history sent states me h. h;
  wake = λ history sent states me h down. h;
  ask = λ history sent states n e allowed facts h. h;
  batcher = λ history sent states b v i facts h is given.
      calm history sent states h (role kind.Batcher b) BatcherIn _ tt (batcher_kinds c (role kind.Batcher b) refl v i);
  leader = λ history sent states l v i facts h is given.
      in_order history sent states h (role kind.Leader l) LeaderIn _ _ refl (leader_next c history sent states facts l v i);
  proxy = λ history sent states p v i facts h is given.
      calm history sent states h (role kind.Proxy p) ProxyIn _ tt (proxy_kinds c (role kind.Proxy p) refl v i);
  acceptor = λ history sent states a i facts h is given.
      in_order history sent states h (role kind.Acceptor a) plain _ _ refl (acceptor_next c history sent states facts a i);
  matchmaker = λ history sent states m i facts h is given.
      in_order history sent states h (role kind.Matchmaker m) plain _ _ refl (matchmaker_next c history sent states facts m i);
  replica = λ history sent states p v i facts h is given.
      calm history sent states h (role kind.Replica p) ReplicaIn _ tt
      (replica_kinds c (role kind.Replica p) refl (durable_of replica_rules (role kind.Replica p) history) v i);
  snap = λ history sent states p v first facts h is e. (λ k m f. tt, h);
  acceptor_anew = λ history sent states p first facts h is e. (λ k m f. tt, h);
  reader_anew = λ history sent states p first v facts h is e. (λ k m f. tt, h);
  unbatcher = λ history sent states u i facts h is given.
      calm history sent states h (role kind.Unbatcher u) plain _ tt (unbatcher_kinds c (role kind.Unbatcher u) refl i);
  reader = λ history sent states r v i facts h is given. calm history sent states h (role kind.Reader r) ReaderIn _ tt
      (reader_kinds c (role kind.Reader r) refl (durable_of reader_rules (role kind.Reader r) history) v i);
  replacer = λ history sent states x v i facts h is given.
      in_order history sent states h (role kind.Replacer x) ReplacerIn _ _ refl (replacer_next c history sent states facts x v i);
}

pub ordered : (c : Cluster) (es : List Event) → HoldsIn Ordered (run c es)
ordered c es = always c (Facts c) Ordered (ordered_laws c) (facts_hold c) es
