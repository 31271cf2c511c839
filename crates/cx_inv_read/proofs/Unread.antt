-- Of a read that no event asked for no datagram was sent, up to the question to a replica.
use Rattle.cx_inv_run.proofs.Common.{ℕ, List, inl, inr, subst, refl, Cluster, Event, RoleId, role, Token, Letter, Input, KeptRecord}
use Rattle.cx_inv_run.proofs.Common.{acceptor_rules, ReaderWasTold, leader_rules, matchmaker_rules, Outcome, ReaderDurable, ReaderVolatile}
use Rattle.cx_inv_run.proofs.Common.{reader_rules, reader_row, replacer_rules, replica_rules, request, Lands, Laws, State, durable_of}
use Rattle.cx_inv_run.proofs.Common.{Member-cases, Member-one, batcher_kinds, proxy_kinds, acceptor_kinds, matchmaker_kinds, replica_kinds}
use Rattle.cx_inv_run.proofs.Common.{unbatcher_kinds, leader_kinds, replacer_kinds, batcher_sends, leader_sends, proxy_sends, replica_sends}
use Rattle.cx_inv_run.proofs.Common.{unbatcher_sends, sends_only}
use Rattle.cx_base.specs.declared.event.Event.TheVariants as event
use Rattle.cx_base.specs.declared.role.Kind.TheVariants as kind
use Rattle.cx_inv_run.proofs.Sends.{acceptor_sends, matchmaker_sends}
use Rattle.cx_inv_match.specs.Facts.{InState}
use Rattle.cx_inv_read.specs.Reads.{IsElse, Unread}
use Rattle.cx_inv_read.proofs.Requests.{IsReadFor}
use Rattle.cx_inv_read.proofs.Rows.{Each, reader_tells, replacer_sends}
use Rattle.cx_inv_read.proofs.Says.{Known, told_lands}

module _ (t : Token) where
  abbrev Says : List KeptRecord → Letter → Type 0
  Says history d = IsElse t d.from d.to d.msg

  abbrev Fresh : Letter → Type 0
  Fresh d = IsElse t d.from d.to d.msg

  -- what a reader has running was asked for
  reader_fresh : (c : Cluster) (r : ℕ) (d : ReaderDurable) (v : ReaderVolatile) (sent : List Letter) → Each Fresh sent
      → ReaderWasTold sent (role kind.Reader r) v → (i : Input) → Each Fresh (reader_row c (role kind.Reader r) d v i).sends
  reader_fresh c r d v sent told was =
      reader_tells Fresh c (role kind.Reader r) d v (λ m. tt) (λ b e m. tt) (λ b e w a. tt)
      (λ b e x m n. told _ ((was.batch b e).requests x m))

  -- a request of something else

  abbrev pub IsOther : Event → Type 0
  IsOther e = IsReadFor t e → ⊥

  asked_fresh : (n : ℕ) (e : Event) → IsOther e → Each Fresh (request n e)
  asked_fresh n (event.Write command batcher) other = Member-one Fresh _ tt
  asked_fresh n (event.Read client seq floor reader replica key) other = Member-one Fresh _ other
  asked_fresh n (event.Session client seq floor replica key) other = Member-one Fresh _ tt
  asked_fresh n (event.Deliver k cut) other = λ d m. absurd m
  asked_fresh n (event.Tick r) other = λ d m. absurd m
  asked_fresh n (event.Order l order cut) other = λ d m. absurd m
  asked_fresh n (event.Snap r cut) other = λ d m. absurd m
  asked_fresh n (event.Replace x set cut) other = λ d m. absurd m
  asked_fresh n (event.Offer p to s) other = λ d m. absurd m
  asked_fresh n (event.Crash r) other = λ d m. absurd m
  asked_fresh n (event.Restart r) other = λ d m. absurd m

  abbrev lands : {V : Type 0} (history : List KeptRecord) (sent : List Letter) (states : RoleId → State) → Unread t history sent states
      → (me : RoleId) (make : V → State) (o : Outcome V) → Each Fresh o.sends → Lands (Unread t) history sent states me make o
  lands history sent states told me make o says = told_lands Says (λ a r h d x. x) history sent states told me make o says

  pub unread_laws : (c : Cluster) → Laws c (λ n. IsOther) (Known c) (Unread t)
  unread_laws c = record {
    same = λ history sent states others e h. h;
    start = λ states h d m. absurd m;
    stop = λ history sent states me h. h;
    wake = λ history sent states me h down. h;
    ask = λ history sent states n e other known h d m.
        elim (Member-cases d sent (request n e) m) [ inl k ↦ h d k | inr k ↦ asked_fresh n e other d k ];
    batcher = λ history sent states b v i known h up given.
        lands history sent states h (role kind.Batcher b) _ _
        (sends_only Fresh (role kind.Batcher b) _ (batcher_kinds c (role kind.Batcher b) refl v i)
        (λ to. batcher_sends (λ m. IsElse t (role kind.Batcher b) to m) (λ commands. tt)));
    leader = λ history sent states l v i known h up given.
        lands history sent states h (role kind.Leader l) _ _ (sends_only Fresh (role kind.Leader l)
        _ (leader_kinds c (role kind.Leader l) refl (durable_of leader_rules (role kind.Leader l) history) v i)
        (λ to. leader_sends (λ m. IsElse t (role kind.Leader l) to m) (λ j. tt) (λ j g. tt) (λ j. tt) (λ j g s cw u. tt) (λ j cw. tt)
        (λ j g. tt)));
    proxy = λ history sent states p v i known h up given.
        lands history sent states h (role kind.Proxy p) _ _
        (sends_only Fresh (role kind.Proxy p) _ (proxy_kinds c (role kind.Proxy p) refl v i)
        (λ to. proxy_sends (λ m. IsElse t (role kind.Proxy p) to m) (λ j s cw u. tt) (λ s u. tt) (λ j s. tt)));
    acceptor = λ history sent states a i known h up given.
        lands history sent states h (role kind.Acceptor a) _ _ (sends_only Fresh (role kind.Acceptor a)
        _ (acceptor_kinds c (role kind.Acceptor a) refl (durable_of acceptor_rules (role kind.Acceptor a) history) i)
        (λ to. acceptor_sends (λ m. IsElse t (role kind.Acceptor a) to m) (λ j cw votes. tt) (λ j promise. tt) (λ j s. tt) (λ j cw. tt)
        (λ u w n. tt)));
    matchmaker = λ history sent states m i known h up given.
        lands history sent states h (role kind.Matchmaker m) _ _ (sends_only Fresh (role kind.Matchmaker m)
        _ (matchmaker_kinds c (role kind.Matchmaker m) refl (durable_of matchmaker_rules (role kind.Matchmaker m) history) i)
        (λ to. matchmaker_sends (λ x. IsElse t (role kind.Matchmaker m) to x) (λ j w entries. tt) (λ j reason other. tt) (λ j. tt)
        (λ u w entries. tt) (λ b w entries a s. tt) (λ b other. tt) (λ b. tt) (λ s. tt)));
    replica = λ history sent states p v i known h up given.
        lands history sent states h (role kind.Replica p) _ _ (sends_only Fresh (role kind.Replica p)
        _ (replica_kinds c (role kind.Replica p) refl (durable_of replica_rules (role kind.Replica p) history) v i)
        (λ to. replica_sends (λ m. IsElse t (role kind.Replica p) to m) (λ s value. tt) (λ s answers. tt) (λ n. tt) (λ s. tt)
        (λ seq n found. tt)));
    snap = λ history sent states p v first known h up e. h;
    acceptor_anew = λ history sent states p first known h up e. h;
    reader_anew = λ history sent states p first v known h up e. h;
    unbatcher = λ history sent states u i known h up given.
        lands history sent states h (role kind.Unbatcher u) _ _
        (sends_only Fresh (role kind.Unbatcher u) _ (unbatcher_kinds c (role kind.Unbatcher u) refl i)
        (λ to. unbatcher_sends (λ m. IsElse t (role kind.Unbatcher u) to m) (λ seq at reply. tt)));
    reader = λ history sent states r v i known h up given.
        lands history sent states h (role kind.Reader r) _ _
        (reader_fresh c r (durable_of reader_rules (role kind.Reader r) history) v sent h
        (subst (λ s. InState c history sent (role kind.Reader r) s) up (known.1.running (role kind.Reader r))).0 i);
    replacer = λ history sent states x v i known h up given.
        lands history sent states h (role kind.Replacer x) _ _ (sends_only Fresh (role kind.Replacer x)
        _ (replacer_kinds c (role kind.Replacer x) refl (durable_of replacer_rules (role kind.Replacer x) history) v i)
        (λ to. replacer_sends (λ m. IsElse t (role kind.Replacer x) to m) (λ b. tt) (λ b s. tt) (λ s w es. tt) (λ s. tt)));
  }
