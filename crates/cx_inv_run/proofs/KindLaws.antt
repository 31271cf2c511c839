-- In every run each datagram and each change of a store is of its role's kind.
use Rattle.std.proofs.Common.{sym, subst, inl, inr}
use Rattle.cx_model.specs.Prelude.{◌≡◌, ℕ, true, List, [], ◌∷◌, ◌++◌, Option, None, Some, refl, Cluster, Event, RoleId, role, Letter}
use Rattle.cx_model.specs.Prelude.{puts_anew, KeptRecord, Record, acceptor_rules, leader_rules, matchmaker_rules, Member, Outcome}
use Rattle.cx_model.specs.Prelude.{reader_rules, replacer_rules}
use Rattle.cx_model.specs.Prelude.{replica_rules, request, run, State, BatcherIn, LeaderIn, ProxyIn, ReplicaIn, ReaderIn, ReplacerIn, plain}
use Rattle.cx_base.specs.declared.event.Event.TheVariants as event
use Rattle.cx_base.specs.declared.role.Kind.TheVariants as kind
use Rattle.cx_inv_run.specs.Kinds.{IsSender, IsWriter, IsKept, OfKind, Kinds, KindsLaw}
use Rattle.cx_inv_run.specs.Laws.{Lands, Laws, anything}
use Rattle.cx_inv_run.specs.States.{snap_by, with_record, durable_of, HoldsIn}
use Rattle.cx_inv_run.proofs.Members.{Member-both, Member-one, Member-reverse}
use Rattle.cx_inv_run.proofs.Senders.{acceptor_kinds, matchmaker_kinds, batcher_kinds, unbatcher_kinds, proxy_kinds, replica_kinds}
use Rattle.cx_inv_run.proofs.Senders.{reader_kinds}
use Rattle.cx_inv_run.proofs.LeaderSenders.{leader_kinds, replacer_kinds}
use Rattle.cx_inv_run.proofs.Sends.{keeps_only}
use Rattle.cx_inv_run.proofs.Steps.{run_keeps, along_anything, all_allowed}

-- the states don't matter
restated : (kept : List KeptRecord) (sent : List Letter) (states others : RoleId → State) → Kinds kept sent states → Kinds kept sent others
restated kept sent states others h = record { senders = h.senders; keepers = h.keepers }

-- a request is of a client's kind
requested : (n : ℕ) (e : Event) (d : Letter) → Member d (request n e) → IsSender d.from.kind d.msg
requested n (event.Write command batcher) d m = Member-one (λ d. IsSender d.from.kind d.msg) _ refl d m
requested n (event.Read client seq floor reader replica key) d m = Member-one (λ d. IsSender d.from.kind d.msg) _ refl d m
requested n (event.Session client seq floor replica key) d m = Member-one (λ d. IsSender d.from.kind d.msg) _ refl d m
requested n (event.Deliver number cut) d m = absurd m
requested n (event.Tick r) d m = absurd m
requested n (event.Order leader order cut) d m = absurd m
requested n (event.Replace replacer set cut) d m = absurd m
requested n (event.Offer replica to slot) d m = absurd m
requested n (event.Snap r cut) d m = absurd m
requested n (event.Crash r) d m = absurd m
requested n (event.Restart r) d m = absurd m

module _ (kept : List KeptRecord) (sent : List Letter) (states : RoleId → State) (h : Kinds kept sent states) where
  sent_more : (ds : List Letter) → ((d : Letter) → Member d ds → IsSender d.from.kind d.msg) → (d : Letter) → Member d (sent ++ ds)
      → IsSender d.from.kind d.msg
  sent_more ds own = Member-both (λ (d : Letter). IsSender d.from.kind d.msg) sent ds h.senders own

  kept_more : (me : RoleId) (o : Option Record) → IsKept me.kind o → (k : KeptRecord) → Member k (with_record me o kept)
      → IsWriter k.role.kind k.what
  kept_more me None own k m = h.keepers k m
  kept_more me (Some r) own k (inl e) = subst (λ (x : KeptRecord). IsWriter x.role.kind x.what) (sym e) own
  kept_more me (Some r) own k (inr m) = h.keepers k m

  -- a role puts its list anew
  snapped : (me : RoleId) (first : ℕ) → puts_anew me.kind ≡ true → Kinds (snap_by me first ∷ kept) sent states
  snapped me first is = record { senders = h.senders; keepers = kept_one me first is }
    where
      kept_one : (me : RoleId) (first : ℕ) → puts_anew me.kind ≡ true → (k : KeptRecord) → Member k (snap_by me first ∷ kept)
          → IsWriter k.role.kind k.what
      kept_one me first is k (inl e) = subst (λ (x : KeptRecord). IsWriter x.role.kind x.what) (sym e) is
      kept_one me first is k (inr m) = h.keepers k m

  -- a row whose outcome is of its role's kind
  landed : {V : Type 0} (me : RoleId) (make : V → State) (o : Outcome V) → OfKind me o → Lands Kinds kept sent states me make o
  landed me make o kinds = record {
    whole = record {
      senders =
          sent_more o.sends (λ d m. let own = kinds.sends d m in subst (λ (from : RoleId). IsSender from.kind d.msg) (sym own.0) own.1);
      keepers = kept_more me o.kept kinds.keeps;
    };
    cut = λ r e. record { senders = h.senders; keepers = kept_more me (Some r) (keeps_only me o r kinds e) };
  }

pub kinds_laws : (c : Cluster) → Laws c (λ n e. Unit {0}) anything Kinds
kinds_laws c = record {
  same = λ kept sent states others e h. restated kept sent states others h;
  start = λ states fresh. record { senders = λ d m. absurd m; keepers = λ k m. absurd m };
  stop = λ kept sent states me h. restated kept sent states _ h;
  wake = λ kept sent states me h e. restated kept sent states _ h;
  ask = λ kept sent states n e allowed knows h.
      record { senders = sent_more kept sent states h (request n e) (requested n e); keepers = h.keepers };
  batcher = λ kept sent states b v i knows h is given.
      landed kept sent states h (role kind.Batcher b) BatcherIn _ (batcher_kinds c (role kind.Batcher b) refl v i);
  leader = λ kept sent states l v i knows h is given. landed kept sent states h (role kind.Leader l) LeaderIn
      _ (leader_kinds c (role kind.Leader l) refl (durable_of leader_rules (role kind.Leader l) kept) v i);
  proxy = λ kept sent states p v i knows h is given.
      landed kept sent states h (role kind.Proxy p) ProxyIn _ (proxy_kinds c (role kind.Proxy p) refl v i);
  acceptor = λ kept sent states a i knows h is given. landed kept sent states h (role kind.Acceptor a) plain
      _ (acceptor_kinds c (role kind.Acceptor a) refl (durable_of acceptor_rules (role kind.Acceptor a) kept) i);
  matchmaker = λ kept sent states m i knows h is given. landed kept sent states h (role kind.Matchmaker m) plain
      _ (matchmaker_kinds c (role kind.Matchmaker m) refl (durable_of matchmaker_rules (role kind.Matchmaker m) kept) i);
  replica = λ kept sent states p v i knows h is given. landed kept sent states h (role kind.Replica p) ReplicaIn
      _ (replica_kinds c (role kind.Replica p) refl (durable_of replica_rules (role kind.Replica p) kept) v i);
  snap = λ kept sent states p v first knows h is e. snapped kept sent states h (role kind.Replica p) first refl;
  acceptor_anew = λ kept sent states a first knows h is e. snapped kept sent states h (role kind.Acceptor a) first refl;
  reader_anew = λ kept sent states r first v knows h is e. snapped kept sent states h (role kind.Reader r) first refl;
  unbatcher = λ kept sent states u i knows h is given.
      landed kept sent states h (role kind.Unbatcher u) plain _ (unbatcher_kinds c (role kind.Unbatcher u) refl i);
  reader = λ kept sent states r v i knows h is given. landed kept sent states h (role kind.Reader r) ReaderIn
      _ (reader_kinds c (role kind.Reader r) refl (durable_of reader_rules (role kind.Reader r) kept) v i);
  replacer = λ kept sent states x v i knows h is given. landed kept sent states h (role kind.Replacer x) ReplacerIn
      _ (replacer_kinds c (role kind.Replacer x) refl (durable_of replacer_rules (role kind.Replacer x) kept) v i);
}

pub kinds_hold : (c : Cluster) (es : List Event) → HoldsIn Kinds (run c es)
kinds_hold c es = run_keeps c (λ n e. Unit {0}) anything Kinds (kinds_laws c) es (along_anything (run c []) es) (all_allowed (run c []) es)

pub kinds_are_so : KindsLaw
kinds_are_so = record {
  senders = λ c es d m. (kinds_hold c es).senders d m;
  keepers = λ c es k m. (kinds_hold c es).keepers k (Member-reverse k ((run c es).kept) m);
}
