-- The calls of a run are in its history, and what responses there are was sent.
use Rattle.std.proofs.lemmas.Slice.Eq.{bytes_eq-Decides}
use Rattle.cx_inv_run.proofs.Common.{◌≡◌, ◌⊎◌, ℕ, Bool, true, false, not, ◌&&◌, ◌==◌, List, [], ◌∷◌, ◌++◌}
use Rattle.cx_inv_run.proofs.Common.{Option, None, Some, inl, inr, ap, sym}
use Rattle.cx_inv_run.proofs.Common.{subst, ◌∙◌, refl, slice_get, list_any, and_parts, same_Some, cases_Bool}
use Rattle.cx_inv_run.proofs.Common.{same_number, true≢false, Cluster, Cut, Event, Happened, Reply, RoleId, Why, Token, Letter, Msg}
use Rattle.cx_inv_run.proofs.Common.{letter, make_token, Member, run, token_of, same_request, same_token, was_sent}
use Rattle.cx_base.specs.declared.event.Event.TheVariants as event
use Rattle.cx_base.specs.declared.why.Why.TheVariants as why
use Rattle.cx_letter.specs.declared.message.Msg.TheVariants as msg
use Rattle.cx_base.proofs.SameLaws.{same_op-true}
use Rattle.cx_model.specs.Request.{is_sent}
use Rattle.cx_inv_list.proofs.Requests.{requests_are_once}
use Rattle.cx_inv_read.proofs.Requests.{WentOut, was_asked_by}
use Rattle.cx_linear.specs.Linearizable.{ClientCall, Operation, Response, CallEvent}
use Rattle.cx_linear.specs.Linearizable.{Update, Get, Replied, Found, Invoke, Respond}
use Rattle.cx_linear.specs.History.{call, told_by, told_in, seen_as, history_from, history_of}
use Rattle.cx_linear.proofs.Runs.{happens}
use Rattle.cx_inv_list.proofs.Once.{Member-in}
use Rattle.cx_linear.proofs.Seen.{seen_stands}

-- the first of a list that passes a test
record IsFirst {X : Type 0} (p : X → Bool) (xs : List X) : Type 0 where
  before : List X
  first : X
  later : List X
  split : xs ≡ before ++ first ∷ later
  none : list_any p before ≡ false
  passes : p first ≡ true

first_of : {X : Type 0} (p : X → Bool) (xs : List X) → list_any p xs ≡ true → IsFirst p xs
first_of p [] h = absurd (true≢false (sym h))
first_of p (x ∷ xs) h = elim (cases_Bool (p x)) [
  | inl t ↦ record { before = []; first = x; later = xs; split = refl; none = refl; passes = t }
  | inr f ↦ (let r = first_of p xs (rw f at h) in
      record {
        before = x ∷ r.before;
        first = r.first;
        later = r.later;
        split = ap (λ l. x ∷ l) r.split;
        none = rw f r.none;
        passes = r.passes;
      })
]

sent_is : (w : Why) → is_sent w ≡ true → w ≡ why.Sent
sent_is why.Sent h = refl
sent_is other h = cc

pub same_parts : (t u : Token) → t.client ≡ u.client → t.seq ≡ u.seq → t ≡ u
same_parts t u p q = λ i. record { client = p i; seq = q i }

token_is : (t : Token) (o : Option Token) → same_token t o ≡ true → o ≡ Some t
token_is t None h = cc
token_is t (Some u) h =
    let p = and_parts (t.client == u.client) (t.seq == u.seq) h in
    let a = same_number t.client u.client p.0 in
    let b = same_number t.seq u.seq p.1 in
    ap (λ v. Some v) (same_parts u t (sym a) (sym b))

same_call : (client seq other number : ℕ) (o p : Operation) → Some (make_token client seq) ≡ Some (make_token other number) → o ≡ p
    → call client seq o ≡ call other number p
same_call client seq other number o p e q =
    let t = same_Some (make_token client seq) (make_token other number) e in λ i. record { token = t i; operation = q i }

-- requests of one token that ask the same invoke one call
same_seen : (sent : List Letter) (e f : Event) → same_request e f ≡ true → token_of f ≡ token_of e
    → seen_as sent why.Sent f ≡ seen_as sent why.Sent e
same_seen sent (event.Write k b) (event.Write l d) h t =
    ap (λ x. Some (Invoke x)) (same_call l.client l.seq k.client k.seq (Update l.op) (Update k.op) t (ap (λ o. Update o)
    (sym (same_op-true k.op l.op h))))
same_seen sent (event.Read client seq f r p key) (event.Read other number g s q last) h t =
    ap (λ x. Some (Invoke x)) (same_call other number client seq (Get last) (Get key) t
    (ap (λ o. Get o) (sym ((bytes_eq-Decides key last).0 h))))
same_seen sent (event.Session client seq f p key) (event.Session other number g q last) h t = refl
same_seen sent e f h t = cc

seen_token : (sent : List Letter) (e : Event) (x : ClientCall) → seen_as sent why.Sent e ≡ Some (Invoke x) → token_of e ≡ Some x.token
seen_token sent (event.Write k b) x h = cc
seen_token sent (event.Read client seq f r p key) x h = cc
seen_token sent e x h = cc

-- each call is in the history
pub call_invoked : (c : Cluster) (es : List Event) (e : Event) (x : ClientCall) → WentOut (run c es) e
    → seen_as (run c es).sent why.Sent e ≡ Some (Invoke x) → Member (Invoke x) (history_of (run c es))
call_invoked c es e x m q =
    let w = run c es in
    let own = seen_token w.sent e x q in
    let f = first_of (λ (h : Happened). was_sent h && same_token x.token (token_of h.event)) w.events (was_asked_by x.token w e m own) in
    let p = and_parts (was_sent f.first) (same_token x.token (token_of f.first.event)) f.passes in
    let t = token_is x.token (token_of f.first.event) p.1 in
    let s = sent_is f.first.why p.0 in
    let there : Member f.first w.events = subst (λ l. Member f.first l) (sym f.split) (Member-in f.first f.before f.later) in
    let out : WentOut w f.first.event = subst (λ y. Member (happens f.first.event y) w.events) s there in
    let same = requests_are_once c es x.token e f.first.event m out own t in
    let seen : seen_as w.sent f.first.why f.first.event ≡ Some (Invoke x) =
    ap (λ y. seen_as w.sent y f.first.event) s ∙ same_seen w.sent e f.first.event same (t ∙ sym own) ∙ q in
    subst (λ l. Member (Invoke x) (history_from w.sent [] l)) (sym f.split)
    (seen_stands w.sent f.before f.first f.later [] (Invoke x) seen (ap not f.none))

-- RESPONSES

-- a command's answer with this response was sent, or a read's
pub record IsReply (sent : List Letter) (t : Token) (r : Response) : Type 0 where
  pub from : RoleId
  pub to : RoleId
  pub seq : ℕ
  pub at : ℕ
  pub reply : Reply
  pub sent_it : Member (letter from to (msg.Answer seq at reply)) sent
  pub client_is : to.index ≡ t.client
  pub seq_is : seq ≡ t.seq
  pub is : r ≡ Replied reply

pub record IsText (sent : List Letter) (t : Token) (r : Response) : Type 0 where
  pub from : RoleId
  pub to : RoleId
  pub seq : ℕ
  pub n : ℕ
  pub found : Option (List ℕ)
  pub sent_it : Member (letter from to (msg.ReadAnswer seq n found)) sent
  pub client_is : to.index ≡ t.client
  pub seq_is : seq ≡ t.seq
  pub is : r ≡ Found found

pub response_sent : (sent : List Letter) (from to : RoleId) (m : Msg) (t : Token) (r : Response) → Member (letter from to m) sent
    → told_by to.index m ≡ Some (Respond t r) → IsReply sent t r ⊎ IsText sent t r
response_sent sent from to (msg.Answer seq at reply) t r m h = inl (record {
  from = from;
  to = to;
  seq = seq;
  at = at;
  reply = reply;
  sent_it = m;
  client_is = cc;
  seq_is = cc;
  is = cc;
})
response_sent sent from to (msg.ReadAnswer seq n found) t r m h = inr (record {
  from = from;
  to = to;
  seq = seq;
  n = n;
  found = found;
  sent_it = m;
  client_is = cc;
  seq_is = cc;
  is = cc;
})
response_sent sent from to other t r m h = cc

-- a response is the delivery of a datagram
pub record IsDelivery (sent : List Letter) (w : Why) (e : Event) (x : CallEvent) : Type 0 where
  pub number : ℕ
  pub cut : Cut
  pub letter_is : Letter
  pub why_is : w ≡ why.Heard
  pub event_is : e ≡ event.Deliver number cut
  pub there : slice_get sent number ≡ Some letter_is
  pub tells : told_by letter_is.to.index letter_is.msg ≡ Some x

delivered : (sent : List Letter) (number : ℕ) (cut : Cut) (x : CallEvent) (o : Option Letter) → slice_get sent number ≡ o
    → told_in o ≡ Some x → IsDelivery sent why.Heard (event.Deliver number cut) x
delivered sent number cut x None e h = cc
delivered sent number cut x (Some d) e h =
    record { number = number; cut = cut; letter_is = d; why_is = refl; event_is = refl; there = e; tells = h }

pub response_delivered : (sent : List Letter) (w : Why) (e : Event) (t : Token) (r : Response) → seen_as sent w e ≡ Some (Respond t r)
    → IsDelivery sent w e (Respond t r)
response_delivered sent why.Sent (event.Write k b) t r h = cc
response_delivered sent why.Sent (event.Read client seq f s p key) t r h = cc
response_delivered sent why.Heard (event.Deliver n cut) t r h = delivered sent n cut (Respond t r) (slice_get sent n) refl h
response_delivered sent w e t r h = cc
