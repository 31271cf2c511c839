-- The acceptor's rows: it promises rounds and votes for values (VLDB 2021, with the chosen watermark of this project).
use Rattle.std.specs.Prelude.{ℕ, ◌+◌, ◌==◌, Bool, false, not, ◌&&◌, ◌||◌, nat_lt, nat_le, max, filter, if◌then◌else◌, List, [], ◌∷◌, Option}
use Rattle.std.specs.Prelude.{None, Some, true}
use Rattle.cx_letter.specs.Prelude.{list_all, Cluster, Value, RoleId, Acceptor, Leader, Round, Idle, Past, Same, Stranger, same_role, role}
use Rattle.cx_letter.specs.Prelude.{is_before, same_round, no_round, Letter, letter, in_window, Asking, Vote}
use Rattle.cx_base.specs.declared.why.Why.TheVariants.{Asked, Informed, Nack, Promised, Voted}
use Rattle.cx_letter.specs.declared.input.Input.{Input}
use Rattle.cx_letter.specs.declared.input.Input.TheVariants.{Take, Tick, Order}
use Rattle.cx_letter.specs.declared.message.Msg.{Msg}
use Rattle.cx_letter.specs.declared.message.Msg.TheVariants as msg
use Rattle.cx_letter.specs.declared.kept.Record.{Record}
use Rattle.cx_letter.specs.declared.kept.Record.TheVariants as kept
use Rattle.cx_model.specs.Names.{names, names_round, names_value, names_vote}
use Rattle.cx_model.specs.Outcome.{Outcome, only_word, replied}
use Rattle.cx_model.specs.Rules.{Rules}

-- the promised round, the chosen watermark, the last vote at each slot from there on by rising slot, and one more than the greatest slot
-- that was ever voted at
pub record AcceptorDurable : Type 0 where
  pub promise : Round
  pub cw : ℕ
  pub votes : List Vote
  pub top : ℕ

-- the vote at a slot
abbrev pub vote_at : ℕ → List Vote → Option Vote
vote_at s [] = None
vote_at s (v ∷ vs) = if v.slot == s then Some v else vote_at s vs

-- the votes from a slot on
abbrev pub votes_from_slot : ℕ → List Vote → List Vote
votes_from_slot low vs = filter (λ (v : Vote). nat_le low v.slot) vs

-- the votes with one more, in the place of that of its slot or where its slot belongs
abbrev pub with_vote : Vote → List Vote → List Vote
with_vote v [] = v ∷ []
with_vote v (u ∷ us) =
    if u.slot == v.slot then v ∷ us
    else if nat_lt v.slot u.slot then v ∷ u ∷ us
    else u ∷ with_vote v us

-- whether a vote is of this round
abbrev pub is_of_round : Round → Option Vote → Bool
is_of_round i None = false
is_of_round i (Some v) = same_round v.round i

abbrev pub acceptor_after : AcceptorDurable → Record → AcceptorDurable
acceptor_after d (kept.Promise i) = record d { promise = i }
acceptor_after d (kept.Vote i s cw v) =
    record {
      promise = i;
      cw = max d.cw cw;
      votes = with_vote (record { round = i; slot = s; value = v }) (votes_from_slot (max d.cw cw) d.votes);
      top = max d.top (s + 1);
    }
acceptor_after d (kept.Water i cw) = record d { promise = i; cw = max d.cw cw; votes = votes_from_slot (max d.cw cw) d.votes }
acceptor_after d (kept.Voted i top cw vs) = record { promise = i; cw = cw; votes = vs; top = top }
acceptor_after d other = d

-- whether the acceptor could have appended this record; only a list begins with what it was put anew as, since each record of an
-- acceptor promises a real round
abbrev pub acceptor_fits : Cluster → RoleId → AcceptorDurable → Record → Bool
acceptor_fits c me d (kept.Promise i) = names_round c i && is_before d.promise i
acceptor_fits c me d (kept.Vote i s cw v) = names_round c i && names_value c v && not (is_before i d.promise) && nat_le d.cw s
    && in_window cw s && not (is_of_round i (vote_at s d.votes))
acceptor_fits c me d (kept.Water i cw) = names_round c i && not (is_before i d.promise) && (is_before d.promise i || nat_lt d.cw cw)
acceptor_fits c me d (kept.Voted i top cw vs) =
    not (is_before no_round d.promise) && names_round c i && list_all (λ (v : Vote). names_vote c v) vs
acceptor_fits c me d other = false

-- the list put anew: one record with all that the acceptor knows (this project's own)
abbrev pub acceptor_renewed : AcceptorDurable → ℕ → List Record
acceptor_renewed d first = kept.Voted d.promise d.top d.cw d.votes ∷ []

-- one without a record has nothing to put anew
abbrev pub acceptor_snap : Cluster → RoleId → AcceptorDurable → Unit {0} → Option ℕ
acceptor_snap c me d v = if is_before no_round d.promise then Some 0 else None

-- a leader learns that a greater round was promised
abbrev pub nack_to : RoleId → Round → Round → Letter
nack_to me i promise = letter me (role Leader i.id) (msg.Nack i promise)

abbrev pub phase2b_to : RoleId → RoleId → Round → ℕ → Letter
phase2b_to me proxy i s = letter me proxy (msg.Phase2B i s)

abbrev pub phase1b_to : RoleId → RoleId → Round → AcceptorDurable → Letter
phase1b_to me leader i d = letter me leader (msg.Phase1B i d.cw d.votes)

-- a leader asks to promise its round, and for what was voted in earlier ones
abbrev pub phase1a_row : RoleId → AcceptorDurable → RoleId → Round → Outcome (Unit {0})
phase1a_row me d from i =
    if is_before i d.promise then replied Nack tt (nack_to me i d.promise ∷ [])
    else if same_round i d.promise then replied Same tt (phase1b_to me from i d ∷ [])
    else record { why = Promised; kept = Some (kept.Promise i); volatile = tt; sends = phase1b_to me from i d ∷ [] }

-- a proxy leader asks for a vote
abbrev pub phase2a_row : RoleId → AcceptorDurable → RoleId → Round → ℕ → ℕ → Value → Outcome (Unit {0})
phase2a_row me d from i s cw v =
    if is_before i d.promise then replied Nack tt (nack_to me i d.promise ∷ [])
    else if nat_lt s d.cw then only_word Past tt
    else if is_of_round i (vote_at s d.votes) then replied Same tt (phase2b_to me from i s ∷ [])
    else record { why = Voted; kept = Some (kept.Vote i s cw v); volatile = tt; sends = phase2b_to me from i s ∷ [] }

abbrev pub informed_to : RoleId → RoleId → Round → ℕ → Letter
informed_to me leader i cw = letter me leader (msg.Informed i cw)

-- a leader that retires earlier rounds reports that enough replicas hold this many slots (this project's own)
abbrev pub inform_row : RoleId → AcceptorDurable → RoleId → Round → ℕ → Outcome (Unit {0})
inform_row me d from i cw =
    if is_before i d.promise then replied Nack tt (nack_to me i d.promise ∷ [])
    else if same_round i d.promise && nat_le cw d.cw then replied Same tt (informed_to me from i d.cw ∷ [])
    else record { why = Informed; kept = Some (kept.Water i cw); volatile = tt; sends = informed_to me from i (max d.cw cw) ∷ [] }

-- a reader asks from which slot on nothing is chosen by its vote (this project's own)
abbrev pub pre_read_row : RoleId → AcceptorDurable → RoleId → Asking → Round → Outcome (Unit {0})
pre_read_row me d from u w = replied Asked tt (letter me from (msg.PreReadAck u w (max d.cw d.top)) ∷ [])

abbrev pub acceptor_takes : RoleId → AcceptorDurable → RoleId → Msg → Outcome (Unit {0})
acceptor_takes me d from (msg.Phase1A i) = phase1a_row me d from i
acceptor_takes me d from (msg.Phase2A i s cw v) = phase2a_row me d from i s cw v
acceptor_takes me d from (msg.Inform i cw) = inform_row me d from i cw
acceptor_takes me d from (msg.PreRead u w) = pre_read_row me d from u w
acceptor_takes me d from other = only_word Stranger tt

abbrev pub acceptor_row : Cluster → RoleId → AcceptorDurable → Unit {0} → Input → Outcome (Unit {0})
acceptor_row c me d v (Take letter) =
    if same_role letter.to me && names c letter then acceptor_takes me d letter.from letter.msg else only_word Stranger tt
acceptor_row c me d v Tick = only_word Idle tt
acceptor_row c me d v (Order order) = only_word Stranger tt

-- all that an acceptor knows is durable
abbrev pub acceptor_rules : Rules AcceptorDurable (Unit {0})
acceptor_rules = record {
  kind = Acceptor;
  empty = record { promise = no_round; cw = 0; votes = []; top = 0 };
  after = acceptor_after;
  fits = acceptor_fits;
  whole = λ d. true;
  fresh = λ c d. tt;
  row = acceptor_row;
  snap = acceptor_snap;
  renewed = acceptor_renewed;
}
