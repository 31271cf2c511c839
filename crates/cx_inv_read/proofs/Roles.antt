-- Each row of an acceptor and of a matchmaker keeps the facts on a read.
use Rattle.cx_inv_run.proofs.Common.{◌≡◌, ℕ, true, false, ◌&&◌, max, List, [], inl, inr, sym, subst, refl, arith, Cluster, RoleId, Round}
use Rattle.cx_inv_run.proofs.Common.{Shape, role, same_role, Asking, Token, Letter, letter, Input, KeptRecord, Msg, acceptor_rules}
use Rattle.cx_inv_run.proofs.Common.{acceptor_row, entry, is_booted, is_stopped, matchmaker_rules, matchmaker_row, Member, names, Outcome}
use Rattle.cx_inv_run.proofs.Common.{either_way, IsConfig, Lands, State, plain, Given, durable_of, matchmaker_kinds, HasRound}
use Rattle.cx_inv_match.specs.Prelude.{Facts, HasStopped}
use Rattle.cx_base.specs.declared.role.Kind.TheVariants as kind
use Rattle.cx_letter.specs.declared.input.Input.TheVariants as input
use Rattle.cx_letter.specs.declared.message.Msg.TheVariants as msg
use Rattle.cx_inv_vote.proofs.Matchmakers.{booted_member, running_log}
use Rattle.cx_inv_read.specs.Reads.{Covers, IsNew, IsRaised, IsReadAnswer, ReadSays, FreshReadFacts}
use Rattle.cx_inv_read.proofs.Keep.{Since, covers_older, lands, no_acks}
use Rattle.cx_inv_read.proofs.Rows.{IsPlain, Each, acceptor_tells, matchmaker_tells}
use Rattle.cx_inv_read.proofs.Says.{Known}

pub plain_says : (c : Cluster) (asked : List KeptRecord) (t : Token) (history : List KeptRecord) (from to : RoleId) (m : Msg) → IsPlain m
    → ReadSays c asked t history from to m
plain_says c asked t history from to (msg.ReadReq seq replica key) h = absurd h
plain_says c asked t history from to (msg.MatchRead u) h = absurd h
plain_says c asked t history from to (msg.MatchReadAck u w es) h = absurd h
plain_says c asked t history from to (msg.PreRead u w) h = absurd h
plain_says c asked t history from to (msg.PreReadAck u w n) h = absurd h
plain_says c asked t history from to (msg.Read u n key) h = absurd h
plain_says c asked t history from to other h = tt

module _ (c : Cluster) (asked : List KeptRecord) (sent0 : List Letter) (states0 : RoleId → State)
    (facts0 : Facts c asked sent0 states0) (t : Token)
    (history : List KeptRecord) (sent : List Letter) (states : RoleId → State) (known : Known c history sent states)
    (reads : FreshReadFacts c asked sent0 t history sent states) where
  abbrev facts : Facts c history sent states
  facts = known.1

  abbrev Says : Letter → Type 0
  Says d = ReadSays c asked t history d.from d.to d.msg

  abbrev SaysAll : {V : Type 0} → Outcome V → Type 0
  SaysAll o = Each Says o.sends

  nothing : Each Says []
  nothing d m = absurd m

  -- an acceptor

  abbrev IsAckSo : Letter → Type 0
  IsAckSo d = (u : Asking) (w : Round) (n : ℕ) → d.msg ≡ msg.PreReadAck u w n → IsNew asked u → Covers history d.from n × IsRaised history w

  covers_all : (me : RoleId) → Covers history me (max (durable_of acceptor_rules me history).cw (durable_of acceptor_rules me history).top)
  covers_all me = record {
    votes = λ j s v x. let p = (facts.acceptors me).top j s v x in omega arith;
    mark = λ j k x. let p = (facts.acceptors me).mark j k x in omega arith;
  }

  acceptor_says : (me : RoleId) (i : Input) → Given sent me i
      → Each Says (acceptor_row c me (durable_of acceptor_rules me history) tt i).sends
  acceptor_says me (input.Take l) given =
      either_way SaysAll (same_role l.to me && names c l) _ _
      (acceptor_tells Says me (plain_says c asked t history me) (durable_of acceptor_rules me history) l.from l.msg (λ u w e p. (
        covers_older asked history reads.has me _ (covers_all me),
        subst (λ m. ReadSays c asked t history l.from l.to m) e (reads.says l given.1) p,
      ))) nothing
  acceptor_says me input.Tick given = nothing
  acceptor_says me (input.Order order) given = nothing

  acceptor_acks : (me : RoleId) (i : Input) → Given sent me i
      → Each IsAckSo (acceptor_row c me (durable_of acceptor_rules me history) tt i).sends
  acceptor_acks me (input.Take l) given =
      either_way (λ (o : Outcome (Unit {0})). Each IsAckSo o.sends) (same_role l.to me && names c l) _ _ (acceptor_tells IsAckSo me
      (λ to m h u w n e p. absurd (subst IsPlain e h)) (durable_of acceptor_rules me history) l.from l.msg (ack l given.1))
      (λ d m. absurd m)
    where
      ack : (l : Letter) → Member l sent → (u : Asking) (w : Round) → l.msg ≡ msg.PreRead u w → IsAckSo (letter me l.from
          (msg.PreReadAck u w (max (durable_of acceptor_rules me history).cw (durable_of acceptor_rules me history).top)))
      ack l m u w e x y n q p =
          let a : x ≡ u = cc in
          let b : y ≡ w = cc in
          let k : n ≡ max (durable_of acceptor_rules me history).cw (durable_of acceptor_rules me history).top = cc in (
            subst (λ z. Covers history me z) (sym k) (covers_all me),
            subst (λ z. IsRaised history z) (sym b)
                (subst (λ m. ReadSays c asked t history l.from l.to m) e (reads.says l m) (subst (IsNew asked) a p)),
          )
  acceptor_acks me input.Tick given = λ d m. absurd m
  acceptor_acks me (input.Order order) given = λ d m. absurd m

  pub acceptor_lands : (a : ℕ) (i : Input) → Given sent (role kind.Acceptor a) i → Lands (Since c asked sent0 t) history sent states
      (role kind.Acceptor a) plain (acceptor_row c (role kind.Acceptor a) (durable_of acceptor_rules (role kind.Acceptor a) history) tt i)
  acceptor_lands a i given =
      lands c asked sent0 t history sent states facts reads (role kind.Acceptor a) plain _ (acceptor_says (role kind.Acceptor a) i given)
      (λ u new w b n x. acceptor_acks (role kind.Acceptor a) i given _ x.1 u w n refl new) tt

  -- a matchmaker

  log_answer : (m : ℕ) → is_booted c (role kind.Matchmaker m) (durable_of matchmaker_rules (role kind.Matchmaker m) history) ≡ true
      → is_stopped (durable_of matchmaker_rules (role kind.Matchmaker m) history) ≡ false
      → IsReadAnswer c asked history (role kind.Matchmaker m) (durable_of matchmaker_rules (role kind.Matchmaker m) history).watermark
      (durable_of matchmaker_rules (role kind.Matchmaker m) history).entries
  log_answer m booted running = record {
    running = λ x. running_log c history sent m (durable_of matchmaker_rules me history) (facts.logs me) running (stopped x);
    all = λ j g from x. (facts.logs me).all j g from (still j g x);
    began = elim (booted_member c history sent m (durable_of matchmaker_rules me history) (facts.logs me) booted) [
      | inl x ↦ inl x
      | inr x ↦ inr (
        x.0,
        x.1,
        x.2,
        x.3,
        (facts.logs me).boots x.0 x.1 x.2 x.3,
        λ e k l. (facts.logs me).all e.round e.grid l (inr (x.0, x.1, x.2, x.3, k)),
      )
    ];
    only = λ e k. elim ((facts.logs me).only e k) [ inl x ↦ had e.round e.grid x | inr x ↦ (facts.garbaged me e.round e.grid x).0 ];
    raised = elim (facts.logs me).raised [ inl x ↦ inl x | inr x ↦ inr x.0 ];
    has_watermark = elim (facts.logs me).raised [ inl x ↦ inl x | inr x ↦ inr x.1 ];
  }
    where
      me : RoleId
      me = role kind.Matchmaker m

      still : (j : Round) (g : Shape) → HasRound asked (role kind.Matchmaker m) j g → HasRound history (role kind.Matchmaker m) j g
      still j g (inl x) = inl (reads.has _ x)
      still j g (inr x) = inr (x.0, x.1, x.2, reads.has _ x.3, x.4)

      stopped : HasStopped asked (role kind.Matchmaker m) → HasStopped history (role kind.Matchmaker m)
      stopped (b, inl x) = (b, inl (reads.has _ x))
      stopped (b, inr x) = (b, inr (x.0, reads.has _ x.1))

      had : (j : Round) (g : Shape) → HasRound history (role kind.Matchmaker m) j g → IsConfig history j g
      had j g (inl x) = facts.asked (role kind.Matchmaker m) j g x
      had j g (inr x) = ((facts.sets.booted (role kind.Matchmaker m) x.0 x.1 x.2 x.3).1.join.only (entry j g) x.4).0

  matchmaker_says : (m : ℕ) (i : Input)
      → Each Says (matchmaker_row c (role kind.Matchmaker m) (durable_of matchmaker_rules (role kind.Matchmaker m) history) tt i).sends
  matchmaker_says m (input.Take l) =
      either_way SaysAll (same_role l.to (role kind.Matchmaker m) && names c l) _ _
      (matchmaker_tells Says c (role kind.Matchmaker m) (plain_says c asked t history (role kind.Matchmaker m))
      (durable_of matchmaker_rules (role kind.Matchmaker m) history) l.from l.msg (λ u e b f p. log_answer m b f)) nothing
  matchmaker_says m input.Tick = nothing
  matchmaker_says m (input.Order order) = nothing

  pub matchmaker_lands : (m : ℕ) (i : Input) → Lands (Since c asked sent0 t) history sent states (role kind.Matchmaker m) plain
      (matchmaker_row c (role kind.Matchmaker m) (durable_of matchmaker_rules (role kind.Matchmaker m) history) tt i)
  matchmaker_lands m i =
      lands c asked sent0 t history sent states facts reads (role kind.Matchmaker m) plain _ (matchmaker_says m i)
      (no_acks c asked sent0 t history sent states facts reads (role kind.Matchmaker m) _ (λ e. cc)
      (matchmaker_kinds c (role kind.Matchmaker m) refl (durable_of matchmaker_rules (role kind.Matchmaker m) history) i)) tt
