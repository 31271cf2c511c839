-- Each answer of a replica to a client stands on a question that was sent to a replica for this client and number.
use Rattle.cx_inv_run.proofs.Common.{◌≡◌, ℕ, ◌≤◌, ◌&&◌, List, ◌++◌, inl, inr, ap, subst, refl, Cluster, Event, Kind, RoleId, role}
use Rattle.cx_inv_run.proofs.Common.{same_role, Token, Letter, letter, Input, KeptRecord, Msg, Deferred, acceptor_rules, ReplicaWasTold}
use Rattle.cx_inv_run.proofs.Common.{leader_rules, matchmaker_rules, Member, names, Outcome, either_way, reader_rules, replacer_rules}
use Rattle.cx_inv_run.proofs.Common.{Machine, ReplicaDurable, ReplicaVolatile, held, replica_rules, read_answer_to, replica_row, request}
use Rattle.cx_inv_run.proofs.Common.{run, IsSender, OfKind, Lands, Laws, State, Given, durable_of, HoldsIn, Member-both, Member-first}
use Rattle.cx_inv_run.proofs.Common.{batcher_kinds, proxy_kinds, acceptor_kinds, matchmaker_kinds, unbatcher_kinds, reader_kinds}
use Rattle.cx_inv_run.proofs.Common.{leader_kinds, replacer_kinds, always}
use Rattle.cx_base.specs.declared.role.Kind.TheVariants as kind
use Rattle.cx_letter.specs.declared.input.Input.TheVariants as input
use Rattle.cx_letter.specs.declared.message.Msg.TheVariants as msg
use Rattle.cx_model.specs.Facts.{IsReadOf}
use Rattle.cx_inv_match.specs.Facts.{InState}
use Rattle.cx_inv_read.specs.Reads.{AnswerHasQuestion, AreAnswers}
use Rattle.cx_inv_read.proofs.Fresh.{known_holds}
use Rattle.cx_inv_read.proofs.Requests.{requested}
use Rattle.cx_inv_read.proofs.Rows.{IsPlain, IsQuestion, Each, replica_offers, replica_tells, replica_ticks}
use Rattle.cx_inv_read.proofs.Says.{Known}

-- a client and a number make one token
pub one_token : (u t : Token) → role kind.Client u.client ≡ role kind.Client t.client → u.seq ≡ t.seq → u ≡ t
one_token u t p q = go (ap (λ (r : RoleId). r.index) p)
  where
    go : u.client ≡ t.client → u ≡ t
    go e = λ i. record { client = e i; seq = q i }

-- what was asked stays so

still_asked : (sent ds : List Letter) (me : RoleId) (r : Deferred) → IsReadOf sent me r → IsReadOf (sent ++ ds) me r
still_asked sent ds me r (inl x) = inl (x.0, Member-first _ sent ds x.1)
still_asked sent ds me r (inr x) = inr (x.0, x.1, Member-first _ sent ds x.2)

still_says : (sent ds : List Letter) (to : RoleId) (m : Msg) → AnswerHasQuestion sent to m → AnswerHasQuestion (sent ++ ds) to m
still_says sent ds to (msg.ReadAnswer seq n found) h = record {
  replica = h.replica;
  question = h.question;
  asked = still_asked sent ds h.replica h.question h.asked;
  enough = h.enough;
  client_is = h.client_is;
  seq_is = h.seq_is;
}
still_says sent ds to other h = tt

abbrev SaysAll : List Letter → List Letter → Type 0
SaysAll sent ds = Each (λ d. AnswerHasQuestion sent d.to d.msg) ds

more : (sent ds : List Letter) → SaysAll sent sent → SaysAll sent ds → SaysAll (sent ++ ds) (sent ++ ds)
more sent ds old new =
    Member-both (λ (d : Letter). AnswerHasQuestion (sent ++ ds) d.to d.msg) sent ds
    (λ d m. still_says sent ds d.to d.msg (old d m)) (λ d m. still_says sent ds d.to d.msg (new d m))

lands : {V : Type 0} (history : List KeptRecord) (sent : List Letter) (states : RoleId → State) → AreAnswers history sent states
    → (me : RoleId) (make : V → State) (o : Outcome V) → SaysAll sent o.sends → Lands AreAnswers history sent states me make o
lands history sent states h me make o says = record { whole = more sent o.sends h says; cut = λ r e. h }

-- only replicas answer so
others : (sent : List Letter) (k : Kind) → (k ≡ kind.Replica → ⊥) → (to : RoleId) (m : Msg) → IsSender k m → AnswerHasQuestion sent to m
others sent k other to (msg.ReadAnswer seq n found) s = absurd (other s)
others sent k other to m s = tt

other_lands : {V : Type 0} (history : List KeptRecord) (sent : List Letter) (states : RoleId → State) → AreAnswers history sent states
    → (me : RoleId) (make : V → State) (o : Outcome V) → (me.kind ≡ kind.Replica → ⊥) → OfKind me o
    → Lands AreAnswers history sent states me make o
other_lands history sent states h me make o other kinds =
    lands history sent states h me make o (λ d m. others sent me.kind other d.to d.msg (kinds.sends d m).1)

-- a replica

plain : (sent : List Letter) (to : RoleId) (m : Msg) → IsPlain m → AnswerHasQuestion sent to m
plain sent to (msg.ReadAnswer seq n found) h = absurd h
plain sent to other h = tt

answer_says : (sent : List Letter) (me : RoleId) (n : ℕ) (machine : Machine) (r : Deferred) (to : RoleId) → IsReadOf sent to r → r.mark ≤ n
    → AnswerHasQuestion sent (read_answer_to me n machine r).to (read_answer_to me n machine r).msg
answer_says sent me n machine r to asked enough =
    record { replica = to; question = r; asked = asked; enough = enough; client_is = refl; seq_is = refl }

now_asked : (sent : List Letter) (l : Letter) (r : Deferred) → Member l sent → IsQuestion l.from l.msg r → IsReadOf sent l.to r
now_asked sent l r m (inl e) = inl (l.from, subst (λ x. Member (letter l.from l.to x) sent) e m)
now_asked sent l r m (inr x) = inr (l.from, x.0, subst (λ y. Member (letter l.from l.to y) sent) x.1 m)

replica_says : (c : Cluster) (sent : List Letter) (me : RoleId) (d : ReplicaDurable) (v : ReplicaVolatile) → ReplicaWasTold sent me v
    → (i : Input) → Given sent me i → SaysAll sent (replica_row c me d v i).sends
replica_says c sent me d v waits (input.Take l) given =
    either_way (λ (o : Outcome ReplicaVolatile). SaysAll sent o.sends) (same_role l.to me && names c l) _ _
    (replica_tells (λ x. AnswerHasQuestion sent x.to x.msg) c me (plain sent) d v l.from
    (λ n machine r m. answer_says sent me n machine r me (waits.deferred r m)) l.msg
    (λ r q. answer_says sent me (held d) d.machine r l.to (now_asked sent l r given.1 q))) (λ x m. absurd m)
replica_says c sent me d v waits input.Tick given = replica_ticks (λ x. AnswerHasQuestion sent x.to x.msg) c me (plain sent) d v
replica_says c sent me d v waits (input.Order order) given =
    replica_offers (λ x. AnswerHasQuestion sent x.to x.msg) c me (plain sent) d v order

answer_laws : (c : Cluster) → Laws c (λ n e. Unit {0}) (Known c) AreAnswers
answer_laws c = record {
  same = λ history sent states others e h. h;
  start = λ states h d m. absurd m;
  stop = λ history sent states me h. h;
  wake = λ history sent states me h down. h;
  ask = λ history sent states n e allowed known h. more sent (request n e) h (requested (λ d. AnswerHasQuestion sent d.to d.msg)
      (λ from to command. tt) (λ from to seq replica key. tt) (λ from to seq k key. tt) n e);
  batcher = λ history sent states b v i known h up given.
      other_lands history sent states h (role kind.Batcher b) _ _ (λ e. cc) (batcher_kinds c (role kind.Batcher b) refl v i);
  leader = λ history sent states l v i known h up given.
      other_lands history sent states h (role kind.Leader l) _ _ (λ e. cc)
      (leader_kinds c (role kind.Leader l) refl (durable_of leader_rules (role kind.Leader l) history) v i);
  proxy = λ history sent states p v i known h up given.
      other_lands history sent states h (role kind.Proxy p) _ _ (λ e. cc) (proxy_kinds c (role kind.Proxy p) refl v i);
  acceptor = λ history sent states a i known h up given.
      other_lands history sent states h (role kind.Acceptor a) _ _ (λ e. cc)
      (acceptor_kinds c (role kind.Acceptor a) refl (durable_of acceptor_rules (role kind.Acceptor a) history) i);
  matchmaker = λ history sent states m i known h up given.
      other_lands history sent states h (role kind.Matchmaker m) _ _ (λ e. cc)
      (matchmaker_kinds c (role kind.Matchmaker m) refl (durable_of matchmaker_rules (role kind.Matchmaker m) history) i);
  replica = λ history sent states p v i known h up given.
      lands history sent states h (role kind.Replica p) _ _
      (replica_says c sent (role kind.Replica p) (durable_of replica_rules (role kind.Replica p) history) v
      (subst (λ s. InState c history sent (role kind.Replica p) s) up (known.1.running (role kind.Replica p))) i given);
  snap = λ history sent states p v first known h up e. h;
  acceptor_anew = λ history sent states p first known h up e. h;
  reader_anew = λ history sent states p first v known h up e. h;
  unbatcher = λ history sent states u i known h up given.
      other_lands history sent states h (role kind.Unbatcher u) _ _ (λ e. cc) (unbatcher_kinds c (role kind.Unbatcher u) refl i);
  reader = λ history sent states r v i known h up given. other_lands history sent states h (role kind.Reader r) _ _ (λ e. cc)
      (reader_kinds c (role kind.Reader r) refl (durable_of reader_rules (role kind.Reader r) history) v i);
  replacer = λ history sent states x v i known h up given.
      other_lands history sent states h (role kind.Replacer x) _ _ (λ e. cc)
      (replacer_kinds c (role kind.Replacer x) refl (durable_of replacer_rules (role kind.Replacer x) history) v i);
}

pub answers_hold : (c : Cluster) (es : List Event) → HoldsIn AreAnswers (run c es)
answers_hold c es = always c (Known c) AreAnswers (answer_laws c) (known_holds c) es
