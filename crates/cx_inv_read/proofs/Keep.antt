-- The facts on a read after a step: what was said stays so, and what a row sends and leaves is added.
use Rattle.cx_inv_run.proofs.Common.{◌≡◌, ℕ, Bool, true, false, ◌&&◌, ◌⊎◌, List, ◌∷◌, ◌++◌, Option, None, Some, inl, inr, ap, sym, subst}
use Rattle.cx_inv_run.proofs.Common.{◌∙◌, list_any, true≢false, and_parts, and_from, cases_Bool, Cluster, RoleId, Round, same_round, Asking}
use Rattle.cx_inv_run.proofs.Common.{Entry, Token, Letter, letter, KeptRecord, Msg, number_itself, Member, Outcome, OfKind, Lands, State}
use Rattle.cx_inv_run.proofs.Common.{Down, ReaderIn, entry_by, with_record, Member-cases, Member-first, Member-both, Member-any, any-Member}
use Rattle.cx_inv_run.proofs.Common.{kept_longer, set_running, same_round-true, same_round-itself}
use Rattle.cx_base.specs.declared.role.Kind.TheVariants as kind
use Rattle.cx_letter.specs.declared.message.Msg.TheVariants as msg
use Rattle.cx_model.specs.Reader.{Batch, same_asking}
use Rattle.cx_inv_match.specs.Facts.{Facts}
use Rattle.cx_inv_match.proofs.Grow.{more_nth}
use Rattle.cx_inv_vote.proofs.Readers.{same_asking-true}
use Rattle.cx_inv_read.specs.Reads.{Has, HasSent, Covers, IsRaised, IsReadAnswer, IsNew, ReadSays, IsAcked, HasEvidence, HasBatch, InReader}
use Rattle.cx_inv_read.specs.Reads.{FreshReadFacts}
use Rattle.cx_inv_read.proofs.Rows.{Each}

-- from the asking on
abbrev pub Since : Cluster → List KeptRecord → List Letter → Token → List KeptRecord → List Letter → (RoleId → State) → Type 0
Since c asked sent0 t history sent states = Has history asked → HasSent sent sent0 → FreshReadFacts c asked sent0 t history sent states

pub covers_older : (history longer : List KeptRecord) → Has longer history → (a : RoleId) (n : ℕ) → Covers longer a n → Covers history a n
covers_older history longer more a n h = record {
  votes = λ j s v x. h.votes j s v (x.0, more _ x.1);
  mark = λ j m x. h.mark j m (elim x [ inl y ↦ inl (y.0, y.1, more _ y.2) | inr y ↦ inr (more _ y) ]);
}

module _ (history longer : List KeptRecord) (more : Has longer history) where
  pub still_raised : (w : Round) → IsRaised history w → IsRaised longer w
  still_raised w h = elim h [ inl e ↦ inl e | inr x ↦ inr (x.0, x.1, more _ x.2) ]

  still_answer : (c : Cluster) (asked : List KeptRecord) (m : RoleId) (w : Round) (es : List Entry) → IsReadAnswer c asked history m w es
      → IsReadAnswer c asked longer m w es
  still_answer c asked m w es h = record {
    running = h.running;
    all = h.all;
    began = elim h.began [ inl x ↦ inl x | inr x ↦ inr (x.0, x.1, x.2, more _ x.3, x.4, x.5) ];
    only = λ e k. let x = h.only e k in (x.0, more _ x.1);
    raised = still_raised w h.raised;
    has_watermark = h.has_watermark;
  }

  pub still_says : (c : Cluster) (asked : List KeptRecord) (t : Token) (from to : RoleId) (m : Msg) → ReadSays c asked t history from to m
      → ReadSays c asked t longer from to m
  still_says c asked t from to (msg.MatchReadAck u w es) h = λ e. still_answer c asked from w es (h e)
  still_says c asked t from to (msg.PreRead u w) h = λ e. still_raised w (h e)
  still_says c asked t from to (msg.PreReadAck u w n) h = λ e. let x = h e in (x.0, still_raised w x.1)
  still_says c asked t from to (msg.Read u n key) h = h
  still_says c asked t from to other h = tt

  pub still_evidence : (c : Cluster) (asked : List KeptRecord) (sent0 : List Letter) (u : Asking) (sent : List Letter) (w : Round)
      → HasEvidence c asked sent0 u history sent w → HasEvidence c asked sent0 u longer sent w
  still_evidence c asked sent0 u sent w (inl e) = inl e
  still_evidence c asked sent0 u sent w (inr (inl x)) = inr (inl x)
  still_evidence c asked sent0 u sent w (inr (inr k)) = inr (inr (record {
    past = k.past;
    sent_then = k.sent_then;
    within = λ r m. more r (k.within r m);
    longer = k.longer;
    wider = k.wider;
    sets = k.sets;
    collected = k.collected;
    covers = k.covers;
  }))

  pub still_batch : (c : Cluster) (asked : List KeptRecord) (t : Token) (a : RoleId) (s : List ℕ) (o : Option Batch)
      → HasBatch c asked t history a s o → HasBatch c asked t longer a s o
  still_batch c asked t a s None h = tt
  still_batch c asked t a s (Some b) h = record {
    set = h.set;
    set_known = (h.set_known.0, more_nth c history longer more h.set_known.0 h.set h.set_known.1);
    once = h.once;
    known = h.known;
    asking = h.asking;
    under = h.under;
  }

  pub still_reader : (c : Cluster) (asked : List KeptRecord) (t : Token) (a : RoleId) (st : State) → InReader c asked t history a st
      → InReader c asked t longer a st
  still_reader c asked t a (ReaderIn v) h = still_batch c asked t a v.set v.running h
  still_reader c asked t a other h = tt

-- whether a message is an acceptor's answer to this turn, with this watermark
abbrev is_ack : Asking → Round → Msg → Bool
is_ack u w (msg.PreReadAck x i n) = same_asking x u && same_round i w
is_ack u w other = false

ack_is : (u : Asking) (w : Round) (m : Msg) → is_ack u w m ≡ true → (n : ℕ) × (m ≡ msg.PreReadAck u w n)
ack_is u w (msg.PreReadAck x i n) h =
    let p = and_parts (same_asking x u) (same_round i w) h in
    (n, ap (λ y. msg.PreReadAck y i n) (same_asking-true x u p.0) ∙ ap (λ y. msg.PreReadAck u y n) (same_round-true i w p.1))
ack_is u w other h = cc

is_ack-itself : (u : Asking) (w : Round) (n : ℕ) → is_ack u w (msg.PreReadAck u w n) ≡ true
is_ack-itself u w n = and_from _ _ (and_from _ _ (number_itself u.reader) (number_itself u.turn)) (same_round-itself w)

acked_cases : (sent ds : List Letter) (u : Asking) (w : Round) (a : RoleId) (n : ℕ) → IsAcked (sent ++ ds) u w a n
    → IsAcked sent u w a n ⊎ IsAcked ds u w a n
acked_cases sent ds u w a n h = elim (Member-cases _ sent ds h.1) [ inl m ↦ inl (h.0, m) | inr m ↦ inr (h.0, m) ]

module _ (c : Cluster) (asked : List KeptRecord) (sent0 : List Letter) (t : Token) (history : List KeptRecord) (sent : List Letter)
    (states : RoleId → State) (facts : Facts c history sent states) (reads : FreshReadFacts c asked sent0 t history sent states) where
  -- answers of acceptors under new turns, by what they kept till now, with a watermark that was raised
  abbrev pub AcksAreSo : List Letter → Type 0
  AcksAreSo ds =
      (u : Asking) → IsNew asked u → (w : Round) (a : RoleId) (n : ℕ) → IsAcked ds u w a n → Covers history a n × IsRaised history w

  -- no answer with this watermark, or all cover this history
  new_evidence : (u : Asking) → IsNew asked u → (w : Round) → IsRaised history w → ((a : RoleId) (n : ℕ) → IsAcked sent u w a n → ⊥)
      → (ds : List Letter) → AcksAreSo ds → HasEvidence c asked sent0 u history (sent ++ ds) w
  new_evidence u new w (inl e) none ds acks = inl e
  new_evidence u new w (inr x) none ds acks =
      inr (inr (record {
        past = history;
        sent_then = sent;
        within = λ k m. m;
        longer = reads.has;
        wider = reads.has_sent;
        sets = facts.sets;
        collected = (facts.garbaged x.0 w x.1 x.2).1;
        covers = λ a n y. elim (acked_cases sent ds u w a n y) [ inl z ↦ absurd (none a n z) | inr z ↦ (acks u new w a n z).0 ];
      }))

  more_evidence : (ds : List Letter) → AcksAreSo ds → (u : Asking) → IsNew asked u → (w : Round)
      → HasEvidence c asked sent0 u history sent w → HasEvidence c asked sent0 u history (sent ++ ds) w
  more_evidence ds acks u new w (inl e) = inl e
  more_evidence ds acks u new w (inr (inr k)) =
      inr (inr (record {
        past = k.past;
        sent_then = k.sent_then;
        within = k.within;
        longer = k.longer;
        wider = k.wider;
        sets = k.sets;
        collected = k.collected;
        covers = λ a n y. elim (acked_cases sent ds u w a n
            y) [ inl z ↦ k.covers a n z | inr z ↦ covers_older k.past history k.within a n (acks u new w a n z).0 ];
      }))
  more_evidence ds acks u new w (inr (inl none)) = elim (cases_Bool (list_any (λ (d : Letter). is_ack u w d.msg) ds)) [
    | inl h ↦ (
        let r = any-Member (λ (d : Letter). is_ack u w d.msg) ds h in
        let q = ack_is u w r.0.msg r.2 in
        let m : Member (letter r.0.from r.0.to (msg.PreReadAck u w q.0)) ds = subst (λ x. Member (letter r.0.from r.0.to x) ds) q.1 r.1 in
        new_evidence u new w (acks u new w r.0.from q.0 (r.0.to, m)).1 none ds acks
        )
    | inr f ↦ inr (inl (λ a n y. elim (acked_cases sent ds u w a n y) [
      | inl z ↦ none a n z
      | inr z ↦ true≢false
          (sym (Member-any (λ (d : Letter). is_ack u w d.msg) (letter a z.0 (msg.PreReadAck u w n)) ds z.1 (is_ack-itself u w n)) ∙ f)
    ]))
  ]

  -- more datagrams, of no role's step
  pub sent_more : (ds : List Letter) → Each (λ d. ReadSays c asked t history d.from d.to d.msg) ds → AcksAreSo ds
      → FreshReadFacts c asked sent0 t history (sent ++ ds) states
  sent_more ds says acks = record {
    has = reads.has;
    has_sent = λ d m. Member-first d sent ds (reads.has_sent d m);
    says = Member-both (λ (d : Letter). ReadSays c asked t history d.from d.to d.msg) sent ds reads.says says;
    evidence = λ u new w. more_evidence ds acks u new w (reads.evidence u new w);
    readers = reads.readers;
  }

  -- a row lands whose datagrams say what is so
  pub lands : {V : Type 0} (me : RoleId) (make : V → State) (o : Outcome V) → Each (λ d. ReadSays c asked t history d.from d.to d.msg)
      o.sends → AcksAreSo o.sends → InReader c asked t history me (make o.volatile)
      → Lands (Since c asked sent0 t) history sent states me make o
  lands me make o says acks state = record {
    whole = λ has has_sent. record {
      has = has;
      has_sent = has_sent;
      says = Member-both (λ (d : Letter). ReadSays c asked t (with_record me o.kept history) d.from d.to d.msg) sent o.sends (λ d m.
          still_says history (with_record me o.kept history) (kept_longer me o.kept history) c asked t d.from d.to d.msg (reads.says d m))
          (λ d m.
          still_says history (with_record me o.kept history) (kept_longer me o.kept history) c asked t d.from d.to d.msg (says d m));
      evidence = λ u new w.
          still_evidence history (with_record me o.kept history) (kept_longer me o.kept history) c asked sent0 u (sent ++ o.sends) w
          (more_evidence o.sends acks u new w (reads.evidence u new w));
      readers = set_running (λ a s. InReader c asked t (with_record me o.kept history) a s) me (make o.volatile) states
          (still_reader history (with_record me o.kept history) (kept_longer me o.kept history) c asked t me (make o.volatile) state)
          (λ a e.
          still_reader history (with_record me o.kept history) (kept_longer me o.kept history) c asked t a (states a) (reads.readers a));
    };
    cut = λ r e has has_sent. record {
      has = has;
      has_sent = has_sent;
      says = λ d m. still_says history (entry_by me r ∷ history) (λ k x. inr x) c asked t d.from d.to d.msg (reads.says d m);
      evidence = λ u new w. still_evidence history (entry_by me r ∷ history) (λ k x. inr x) c asked sent0 u sent w (reads.evidence u new w);
      readers = set_running (λ a s. InReader c asked t (entry_by me r ∷ history) a s) me Down states tt
          (λ a e. still_reader history (entry_by me r ∷ history) (λ k x. inr x) c asked t a (states a) (reads.readers a));
    };
  }

  -- only acceptors send such answers
  pub no_acks : {V : Type 0} (me : RoleId) (o : Outcome V) → (me.kind ≡ kind.Acceptor → ⊥) → OfKind me o → AcksAreSo o.sends
  no_acks me o other kinds u new w a n x = absurd (other (kinds.sends _ x.1).1)
