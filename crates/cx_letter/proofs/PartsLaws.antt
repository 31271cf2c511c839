-- The parts of a datagram that fit.
use Rattle.cx_base.proofs.Common.{sym, ap, ◌∙◌, eqb-true}
use Rattle.cx_letter.specs.Prelude.{◌≡◌, ℕ, Bool, true, false, ◌&&◌, ◌||◌, eqb, refl, IsTrue, role, code_of, kind_of, Kind, Client, RoleId}
use Rattle.cx_letter.specs.Prelude.{u16, slot, mark, at, seq, round, round0, grid, name, reply, in_window, entries, joined, set}
use Rattle.cx_letter.specs.Prelude.{accepted_set, answers, found, reason, token, body_shape, Letter, letter, senders, receivers, is_listed}
use Rattle.cx_letter.specs.Prelude.{PartsFit}
use Rattle.cx_wire.proofs.Laws.{both}
use Rattle.cx_field.specs.Fields.{command, commands, value, votes, asking}
use Rattle.cx_letter.specs.Messages.{answer, match_b, match_nack, match_read_ack, nack, phase1b, phase2a, pre_read, pre_read_ack, propose}
use Rattle.cx_letter.specs.Messages.{read_answer, read_key, read_req, results, round_slot, sess_read, slot_value, stop_b}
use Rattle.cx_letter.specs.Letter.{fits}
use Rattle.cx_letter.specs.declared.message.Msg.{Msg}
use Rattle.cx_letter.specs.declared.message.Msg.TheVariants.{Submit, Batch, Leads, MatchA, MatchB, MatchNack, Phase1A, Phase1B, Nack}
use Rattle.cx_letter.specs.declared.message.Msg.TheVariants.{Propose, Phase2A, Phase2B, Chosen, ChosenIn, Results, Answer, Held, Fetch}
use Rattle.cx_letter.specs.declared.message.Msg.TheVariants.{Inform, Informed, GarbageA, GarbageB, ReadReq, MatchRead, MatchReadAck}
use Rattle.cx_letter.specs.declared.message.Msg.TheVariants.{PreRead, PreReadAck, Read, ReadAnswer, SessRead, StopA, StopB, StopNack, NextA}
use Rattle.cx_letter.specs.declared.message.Msg.TheVariants.{NextB, BootA, BootB, Sets}

same_kind : (k : Kind) → k ≡ kind_of (code_of k)
same_kind Client = refl
same_kind other = refl

only_first : (b : Bool) → (b || false) ≡ true → b ≡ true
only_first true h = refl
only_first false h = h

-- a role whose code is the only one listed
listed_role : (r : RoleId) (code : ℕ) → (eqb code (code_of r.kind) || false) ≡ true → r ≡ role (kind_of code) r.index
listed_role r code listed =
    let same : code ≡ code_of r.kind = eqb-true _ _ (only_first (eqb code (code_of r.kind)) listed) in
    ap (λ (k : Kind). role k r.index) (same_kind r.kind ∙ ap kind_of (sym same))

-- the tests of a datagram that fits, one by one
pub record Fitting (d : Letter) : Type 0 where
  pub from_index : u16.fits d.from.index ≡ true
  pub to_index : u16.fits d.to.index ≡ true
  pub from : is_listed senders (body_shape d.msg).tag (code_of d.from.kind) ≡ true
  pub to : is_listed receivers (body_shape d.msg).tag (code_of d.to.kind) ≡ true
  pub msg : (body_shape d.msg).fits ≡ true

pub fitting : (d : Letter) → fits d ≡ true → Fitting d
fitting d h =
    let f = u16.fits d.from.index in
    let t = u16.fits d.to.index in
    let s = is_listed senders (body_shape d.msg).tag (code_of d.from.kind) in
    let r = is_listed receivers (body_shape d.msg).tag (code_of d.to.kind) in
    let a = both (f && t && s && r) (body_shape d.msg).fits h in
    let b = both (f && t && s) r a.0 in
    let c = both (f && t) s b.0 in
    let e = both f t c.0 in
    record { from_index = e.0; to_index = e.1; from = c.1; to = b.1; msg = a.1 }

-- each part of a datagram that fits is in its range, and its roles are of its kind
pub parts : (from to : RoleId) (m : Msg) → IsTrue (fits (letter from to m)) → PartsFit from to m
unfolding command commands value votes match_b match_nack phase1b nack propose phase2a round_slot slot_value results answer read_req
    match_read_ack pre_read pre_read_ack read_key read_answer stop_b sess_read
parts from to (Submit c) h =
    let f = fitting (letter from to (Submit c)) h in
    (record { sent = listed_role from 1 f.from; received = listed_role to 2 f.to }, f.msg)
parts from to (Batch cs) h =
    let f = fitting (letter from to (Batch cs)) h in
    (record { sent = listed_role from 2 f.from; received = listed_role to 3 f.to }, f.msg)
parts from to (Leads r) h =
    let f = fitting (letter from to (Leads r)) h in
    (record { sent = listed_role from 3 f.from; received = listed_role to 2 f.to }, f.msg)
parts from to (MatchA r g) h =
    let f = fitting (letter from to (MatchA r g)) h in
    let p = both (round.fits r) (grid.fits g) f.msg in
    (record { sent = listed_role from 3 f.from; received = listed_role to 6 f.to }, p.0, p.1)
parts from to (MatchB r w es) h =
    let f = fitting (letter from to (MatchB r w es)) h in
    let p = both (round.fits r) (round0.fits w && entries.fits es) f.msg in
    let q = both (round0.fits w) (entries.fits es) p.1 in
    (record { sent = listed_role from 6 f.from; received = listed_role to 3 f.to }, p.0, q.0, q.1)
parts from to (MatchNack r why other) h =
    let f = fitting (letter from to (MatchNack r why other)) h in
    let p = both (round.fits r) (reason.fits why && round.fits other) f.msg in
    let q = both (reason.fits why) (round.fits other) p.1 in
    (record { sent = listed_role from 6 f.from; received = listed_role to 3 f.to }, p.0, q.1)
parts from to (Phase1A r) h =
    let f = fitting (letter from to (Phase1A r)) h in
    (record { sent = listed_role from 3 f.from; received = listed_role to 5 f.to }, f.msg)
parts from to (Phase1B r cw vs) h =
    let f = fitting (letter from to (Phase1B r cw vs)) h in
    let p = both (round.fits r) (mark.fits cw && (votes cw).fits vs) f.msg in
    let q = both (mark.fits cw) ((votes cw).fits vs) p.1 in
    (record { sent = listed_role from 5 f.from; received = listed_role to 3 f.to }, p.0, q.0, q.1)
parts from to (Nack r pr) h =
    let f = fitting (letter from to (Nack r pr)) h in
    let p = both (round.fits r) (round.fits pr) f.msg in
    (record { sent = listed_role from 5 f.from; received = listed_role to 3 f.to }, p.0, p.1)
parts from to (Propose r g sl cw v) h =
    let f = fitting (letter from to (Propose r g sl cw v)) h in
    let p = both (round.fits r) (grid.fits g && (slot.fits sl && ((mark.fits cw && in_window cw sl) && value.fits v))) f.msg in
    let q = both (grid.fits g) (slot.fits sl && ((mark.fits cw && in_window cw sl) && value.fits v)) p.1 in
    let s = both (slot.fits sl) ((mark.fits cw && in_window cw sl) && value.fits v) q.1 in
    let t = both (mark.fits cw && in_window cw sl) (value.fits v) s.1 in
    let u = both (mark.fits cw) (in_window cw sl) (t.0) in
    (record { sent = listed_role from 3 f.from; received = listed_role to 4 f.to }, p.0, q.0, s.0, u.0, u.1, t.1)
parts from to (Phase2A r sl cw v) h =
    let f = fitting (letter from to (Phase2A r sl cw v)) h in
    let p = both (round.fits r) (slot.fits sl && ((mark.fits cw && in_window cw sl) && value.fits v)) f.msg in
    let q = both (slot.fits sl) ((mark.fits cw && in_window cw sl) && value.fits v) p.1 in
    let s = both (mark.fits cw && in_window cw sl) (value.fits v) q.1 in
    let t = both (mark.fits cw) (in_window cw sl) (s.0) in
    (record { sent = listed_role from 4 f.from; received = listed_role to 5 f.to }, p.0, q.0, t.0, t.1, s.1)
parts from to (Phase2B r sl) h =
    let f = fitting (letter from to (Phase2B r sl)) h in
    let p = both (round.fits r) (slot.fits sl) f.msg in
    (record { sent = listed_role from 5 f.from; received = listed_role to 4 f.to }, p.0, p.1)
parts from to (Chosen sl v) h =
    let f = fitting (letter from to (Chosen sl v)) h in
    let p = both (slot.fits sl) (value.fits v) f.msg in
    (listed_role to 7 f.to, p.0, p.1)
parts from to (ChosenIn r sl) h =
    let f = fitting (letter from to (ChosenIn r sl)) h in
    let p = both (round.fits r) (slot.fits sl) f.msg in
    (record { sent = listed_role from 4 f.from; received = listed_role to 3 f.to }, p.0, p.1)
parts from to (Results sl as') h =
    let f = fitting (letter from to (Results sl as')) h in
    let p = both (slot.fits sl) (answers.fits as') f.msg in
    (record { sent = listed_role from 7 f.from; received = listed_role to 8 f.to }, p.0, p.1)
parts from to (Answer sq n reply') h =
    let f = fitting (letter from to (Answer sq n reply')) h in
    let p = both (seq.fits sq) (at.fits n && reply.fits reply') f.msg in
    let q = both (at.fits n) (reply.fits reply') p.1 in
    (record { sent = listed_role from 8 f.from; received = listed_role to 1 f.to }, p.0, q.0, q.1)
parts from to (Held n) h =
    let f = fitting (letter from to (Held n)) h in
    (record { sent = listed_role from 7 f.from; received = listed_role to 3 f.to }, f.msg)
parts from to (Fetch n) h =
    let f = fitting (letter from to (Fetch n)) h in
    (record { sent = listed_role from 7 f.from; received = listed_role to 7 f.to }, f.msg)
parts from to (Inform r n) h =
    let f = fitting (letter from to (Inform r n)) h in
    let p = both (round.fits r) (mark.fits n) f.msg in
    (record { sent = listed_role from 3 f.from; received = listed_role to 5 f.to }, p.0, p.1)
parts from to (Informed r n) h =
    let f = fitting (letter from to (Informed r n)) h in
    let p = both (round.fits r) (mark.fits n) f.msg in
    (record { sent = listed_role from 5 f.from; received = listed_role to 3 f.to }, p.0, p.1)
parts from to (GarbageA r g) h =
    let f = fitting (letter from to (GarbageA r g)) h in
    let p = both (round.fits r) (grid.fits g) f.msg in
    (record { sent = listed_role from 3 f.from; received = listed_role to 6 f.to }, p.0, p.1)
parts from to (GarbageB r) h =
    let f = fitting (letter from to (GarbageB r)) h in
    (record { sent = listed_role from 6 f.from; received = listed_role to 3 f.to }, f.msg)
parts from to (ReadReq sq pr key) h =
    let f = fitting (letter from to (ReadReq sq pr key)) h in
    let p = both (seq.fits sq) (u16.fits pr && (name 32).fits key) f.msg in
    let q = both (u16.fits pr) ((name 32).fits key) p.1 in
    (record { sent = listed_role from 1 f.from; received = listed_role to 9 f.to }, p.0, q.0, q.1)
parts from to (MatchRead a) h =
    let f = fitting (letter from to (MatchRead a)) h in
    (record { sent = listed_role from 9 f.from; received = listed_role to 6 f.to }, f.msg)
parts from to (MatchReadAck a w es) h =
    let f = fitting (letter from to (MatchReadAck a w es)) h in
    let p = both (asking.fits a) (round0.fits w && entries.fits es) f.msg in
    let q = both (round0.fits w) (entries.fits es) p.1 in
    (record { sent = listed_role from 6 f.from; received = listed_role to 9 f.to }, p.0, q.0, q.1)
parts from to (PreRead a w) h =
    let f = fitting (letter from to (PreRead a w)) h in
    let p = both (asking.fits a) (round0.fits w) f.msg in
    (record { sent = listed_role from 9 f.from; received = listed_role to 5 f.to }, p.0, p.1)
parts from to (PreReadAck a w n) h =
    let f = fitting (letter from to (PreReadAck a w n)) h in
    let p = both (asking.fits a) (round0.fits w && mark.fits n) f.msg in
    let q = both (round0.fits w) (mark.fits n) p.1 in
    (record { sent = listed_role from 5 f.from; received = listed_role to 9 f.to }, p.0, q.0, q.1)
parts from to (Read tok n key) h =
    let f = fitting (letter from to (Read tok n key)) h in
    let p = both (token.fits tok) (mark.fits n && (name 32).fits key) f.msg in
    let q = both (mark.fits n) ((name 32).fits key) p.1 in
    (record { sent = listed_role from 9 f.from; received = listed_role to 7 f.to }, p.0, q.0, q.1)
parts from to (ReadAnswer sq n text) h =
    let f = fitting (letter from to (ReadAnswer sq n text)) h in
    let p = both (seq.fits sq) (mark.fits n && found.fits text) f.msg in
    let q = both (mark.fits n) (found.fits text) p.1 in
    (record { sent = listed_role from 7 f.from; received = listed_role to 1 f.to }, p.0, q.0, q.1)
parts from to (StopA r) h =
    let f = fitting (letter from to (StopA r)) h in
    (record { sent = listed_role from 10 f.from; received = listed_role to 6 f.to }, f.msg)
parts from to (StopB r w es a s) h =
    let f = fitting (letter from to (StopB r w es a s)) h in
    let p = both (round.fits r) (round0.fits w && (entries.fits es && (round0.fits a && (accepted_set a).fits s))) f.msg in
    let q = both (round0.fits w) (entries.fits es && (round0.fits a && (accepted_set a).fits s)) p.1 in
    let t = both (entries.fits es) (round0.fits a && (accepted_set a).fits s) q.1 in
    let u = both (round0.fits a) ((accepted_set a).fits s) t.1 in
    (record { sent = listed_role from 6 f.from; received = listed_role to 10 f.to }, p.0, q.0, t.0, u.0, u.1)
parts from to (StopNack r other) h =
    let f = fitting (letter from to (StopNack r other)) h in
    let p = both (round.fits r) (round.fits other) f.msg in
    (record { sent = listed_role from 6 f.from; received = listed_role to 10 f.to }, p.0, p.1)
parts from to (NextA r s) h =
    let f = fitting (letter from to (NextA r s)) h in
    let p = both (round.fits r) (set.fits s) f.msg in
    (record { sent = listed_role from 10 f.from; received = listed_role to 6 f.to }, p.0, p.1)
parts from to (NextB r) h =
    let f = fitting (letter from to (NextB r)) h in
    (record { sent = listed_role from 6 f.from; received = listed_role to 10 f.to }, f.msg)
parts from to (BootA s w es) h =
    let f = fitting (letter from to (BootA s w es)) h in
    let p = both (set.fits s) (round0.fits w && joined.fits es) f.msg in
    let q = both (round0.fits w) (joined.fits es) p.1 in
    (record { sent = listed_role from 10 f.from; received = listed_role to 6 f.to }, p.0, q.0, q.1)
parts from to (BootB s) h =
    let f = fitting (letter from to (BootB s)) h in
    (record { sent = listed_role from 6 f.from; received = listed_role to 10 f.to }, f.msg)
parts from to (Sets s) h =
    let f = fitting (letter from to (Sets s)) h in
    (listed_role from 10 f.from, f.msg)
parts from to (SessRead sq n key) h =
    let f = fitting (letter from to (SessRead sq n key)) h in
    let p = both (seq.fits sq) (mark.fits n && (name 32).fits key) f.msg in
    let q = both (mark.fits n) ((name 32).fits key) p.1 in
    (record { sent = listed_role from 1 f.from; received = listed_role to 7 f.to }, p.0, q.0, q.1)
