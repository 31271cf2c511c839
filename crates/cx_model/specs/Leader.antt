-- The leader's rows: it begins rounds and retires the earlier ones (JSys 2021), and gives each batch a slot while it leads (VLDB 2021).
use Rattle.std.specs.Prelude.{ℕ, ◌+◌, ◌-◌, ◌*◌, ◌/◌, ◌%◌, ◌==◌, Bool, true, false, not, ◌&&◌, ◌||◌, nat_lt, nat_le, max, map, filter}
use Rattle.std.specs.Prelude.{if◌then◌else◌, List, [], ◌∷◌, ◌++◌, length, Option, None, Some, slice_index_or, slice_set}
use Rattle.cx_letter.specs.Prelude.{list_all, Cluster, Command, Placed, Lead, Change, Collect, Offer, Replace, RoleId, Acceptor, Batcher}
use Rattle.cx_letter.specs.Prelude.{Leader, Matchmaker, Proxy, Round, is_above, Shape, is_in, below, numbers, same_role, role, is_before}
use Rattle.cx_letter.specs.Prelude.{same_round, no_round, lead_after, change_after, Letter, letter, Entry, NackReason, Vote}
use Rattle.cx_base.specs.declared.command.Value.TheVariants.{Batch}
use Rattle.cx_base.specs.declared.event.Order.{Order as OrderOf}
use Rattle.cx_base.specs.declared.why.Why.TheVariants as why
use Rattle.cx_letter.specs.declared.input.Input.{Input}
use Rattle.cx_letter.specs.declared.input.Input.TheVariants.{Take, Tick, Order}
use Rattle.cx_field.specs.declared.parts.NackReason.TheVariants as nack
use Rattle.cx_letter.specs.declared.message.Msg.{Msg}
use Rattle.cx_letter.specs.declared.message.Msg.TheVariants as msg
use Rattle.cx_letter.specs.declared.kept.Record.{Record}
use Rattle.cx_letter.specs.declared.kept.Record.TheVariants as kept
use Rattle.cx_model.specs.declared.states.MatchAnswer.{MatchAnswer}
use Rattle.cx_model.specs.declared.states.Mode.{Mode}
use Rattle.cx_model.specs.declared.states.Mode.TheVariants.{Idle, Matching, Phase1, Leading}
use Rattle.cx_model.specs.declared.states.Plan.{Plan}
use Rattle.cx_model.specs.declared.states.Promised.{Promised}
use Rattle.cx_model.specs.Collection.{Collection, not_collecting, collection_from, with_informed, with_forgotten, is_off, is_informing}
use Rattle.cx_model.specs.Collection.{is_collecting, is_retired}
use Rattle.cx_model.specs.Matched.{enough, first_set, later_round, is_counted, live_entries, is_member_of, members_of, members_in}
use Rattle.cx_model.specs.Matched.{rows_whole}
use Rattle.cx_model.specs.Names.{names, names_round, names_grid}
use Rattle.cx_model.specs.Outcome.{Outcome, only_word, replied}
use Rattle.cx_model.specs.Plan.{promised_by, has_promised, plan, placed_from}
use Rattle.cx_model.specs.Rules.{Rules}

-- its last round with its grid
pub record LeaderDurable : Type 0 where
  pub own : Option Entry

-- What it is doing; the greatest round that a refusal named; the set of matchmakers that it knows; the greatest number of slots that
-- each replica reported; the matchmakers' and the acceptors' answers that it counted; the chosen watermark and the next free slot; the
-- slot behind the last one that it proposed when it began to lead; the values that it proposed from the chosen watermark on, by slot, in
-- its round or, while it goes on to another grid, in the round before; which of these slots it knows to be chosen in its round; and how
-- far it is in retiring the earlier rounds.
pub record LeaderVolatile : Type 0 where
  pub mode : Mode
  pub seen : Round
  pub set : List ℕ
  pub held : List ℕ
  pub told : List MatchAnswer
  pub promises : List Promised
  pub cw : ℕ
  pub next : ℕ
  pub end : ℕ
  pub proposed : List Placed
  pub chosen : List ℕ
  pub collection : Collection

abbrev pub is_idle : Mode → Bool
is_idle Idle = true
is_idle Matching = false
is_idle Phase1 = false
is_idle Leading = false

abbrev pub is_matching : Mode → Bool
is_matching Idle = false
is_matching Matching = true
is_matching Phase1 = false
is_matching Leading = false

abbrev pub is_promising : Mode → Bool
is_promising Idle = false
is_promising Matching = false
is_promising Phase1 = true
is_promising Leading = false

abbrev pub is_leading : Mode → Bool
is_leading Idle = false
is_leading Matching = false
is_leading Phase1 = false
is_leading Leading = true

abbrev pub round_of : Option Entry → Round
round_of None = no_round
round_of (Some e) = e.round

-- whether this is the leader's own round
abbrev pub is_own : LeaderDurable → Round → Bool
is_own d i = same_round i (round_of d.own)

abbrev pub match_a_to : RoleId → Round → Shape → ℕ → Letter
match_a_to me i g m = letter me (role Matchmaker m) (msg.MatchA i g)

abbrev pub phase1a_to : RoleId → Round → ℕ → Letter
phase1a_to me i a = letter me (role Acceptor a) (msg.Phase1A i)

abbrev pub leads_to : RoleId → Round → ℕ → Letter
leads_to me i b = letter me (role Batcher b) (msg.Leads i)

-- how many proxy leaders each leader has of its own (this project's own): none where all are shared
abbrev pub own_share : Cluster → ℕ
own_share c = if c.own_proxies then c.proxies / c.leaders else 0

-- The proxy leader of a leader's slot: they take turns, all of them (VLDB 2021) or the leader's own.
abbrev pub proxy_of : Cluster → ℕ → ℕ → ℕ
proxy_of c leader slot = if own_share c == 0 then slot % c.proxies else leader * own_share c + slot % own_share c

abbrev pub propose_to : Cluster → RoleId → Entry → ℕ → Placed → Letter
propose_to c me own cw p =
    letter me (role Proxy (proxy_of c me.index p.slot)) (msg.Propose own.round own.grid p.slot cw p.value)

abbrev pub inform_to : RoleId → Round → ℕ → ℕ → Letter
inform_to me i cw a = letter me (role Acceptor a) (msg.Inform i cw)

abbrev pub garbage_a_to : RoleId → Entry → ℕ → Letter
garbage_a_to me own m = letter me (role Matchmaker m) (msg.GarbageA own.round own.grid)

-- it begins a round, if there is one: the round is kept before the matchmakers are asked to record it
abbrev pub begin_in : Cluster → RoleId → LeaderVolatile → Shape → Option Round → Outcome LeaderVolatile
begin_in c me v g None = only_word why.End v
begin_in c me v g (Some i) =
    record {
      why = why.Started;
      kept = Some (kept.Round i g);
      volatile = record v { mode = Matching; told = []; promises = []; collection = not_collecting };
      sends = map (match_a_to me i g) v.set;
    }

-- the order to lead: a round above all that it has seen
abbrev pub lead_row : Cluster → RoleId → LeaderDurable → LeaderVolatile → Shape → Outcome LeaderVolatile
lead_row c me d v g =
    if names_grid c g then begin_in c me v g (lead_after (round_of d.own) v.seen me.index) else only_word why.Stranger v

-- the order to go on with another grid: the next round of its own (JSys 2021)
abbrev pub change_row : Cluster → RoleId → LeaderDurable → LeaderVolatile → Shape → Outcome LeaderVolatile
change_row c me d v g =
    if not (names_grid c g) then only_word why.Stranger v
    else if not (is_leading v.mode) then only_word why.Idle v
    else begin_in c me v g (change_after (round_of d.own))

-- its first phase is done: it leads, and proposes what the plan says
abbrev pub lead_with : Cluster → RoleId → Entry → LeaderVolatile → Plan → Outcome LeaderVolatile
lead_with c me own v p =
    replied why.Leads
    (record v { mode = Leading; promises = []; cw = p.cw; next = p.end; end = p.end; proposed = placed_from p.cw p.values; chosen = [] })
    (map (propose_to c me own p.cw) (placed_from p.cw p.values) ++ map (leads_to me own.round) (below c.batchers))

abbrev pub finish : Cluster → RoleId → Entry → LeaderVolatile → Outcome LeaderVolatile
finish c me own v = lead_with c me own v (plan v.cw v.promises)

-- Enough matchmakers have answered. Where no earlier grid is live there is nobody to ask: a round that has proposed is recorded by
-- enough of them, and one that retires it is live in its place.
abbrev pub matched_by : Cluster → RoleId → Entry → LeaderVolatile → List Entry → Outcome LeaderVolatile
matched_by c me own v [] = finish c me own v
matched_by c me own v (e ∷ es) =
    replied why.Phase1 (record v { mode = Phase1 }) (map (phase1a_to me own.round) (members_of c (e ∷ es)))

-- Whether a round came by a change: a round of a lead has s = 0, and only a leader that leads goes on to the next s.
abbrev pub is_changed : Round → Bool
is_changed i = nat_lt 0 i.s

-- A round that came by a change asks no acceptor. Between it and its leader's round before there is no other, so it begins with what that
-- one proposed from the chosen watermark on (phase 1 bypassing, JSys 2021).
abbrev pub bypass : Cluster → RoleId → Entry → LeaderVolatile → Outcome LeaderVolatile
bypass c me own v =
    replied why.Bypassed
    (record v { mode = Leading; end = v.next; chosen = [] })
    (map (propose_to c me own v.cw) v.proposed ++ map (leads_to me own.round) (below c.batchers))

abbrev pub match_counted : Cluster → RoleId → Option Entry → LeaderVolatile → Outcome LeaderVolatile
match_counted c me None v = only_word why.Old v
match_counted c me (Some own) v =
    if nat_lt (length v.told) (enough c) then only_word why.Counted v
    else if is_changed own.round then bypass c me own v
    else matched_by c me own v (live_entries v.told)

-- a matchmaker answers
abbrev pub match_b_row : Cluster → RoleId → LeaderDurable → LeaderVolatile → RoleId → Round → Round → List Entry → Outcome LeaderVolatile
match_b_row c me d v from i w es =
    if not (is_matching v.mode && is_own d i && is_in from.index v.set) then only_word why.Old v
    else if is_counted from.index v.told then only_word why.Same v
    else match_counted c me d.own (record v { told = v.told ++ record { matchmaker = from.index; watermark = w; entries = es } ∷ [] })

-- one more acceptor has promised; the phase ends when each live grid has a whole row
abbrev pub promise_counted : Cluster → RoleId → Option Entry → LeaderVolatile → Outcome LeaderVolatile
promise_counted c me None v = only_word why.Old v
promise_counted c me (Some own) v =
    if rows_whole (live_entries v.told) (promised_by v.promises) then finish c me own v else only_word why.Counted v

-- an acceptor promises, and reports its votes
abbrev pub phase1b_row : Cluster → RoleId → LeaderDurable → LeaderVolatile → RoleId → Round → ℕ → List Vote → Outcome LeaderVolatile
phase1b_row c me d v from i cw votes =
    if not (is_promising v.mode && is_own d i) then only_word why.Old v
    else if not (is_member_of (live_entries v.told) from.index) then only_word why.Unasked v
    else if has_promised from.index v.promises then only_word why.Same v
    else promise_counted c me d.own (record v { promises = v.promises ++ record { acceptor = from.index; cw = cw; votes = votes } ∷ [] })

abbrev pub with_seen : Round → LeaderVolatile → LeaderVolatile
with_seen i v = record v { seen = later_round v.seen i }

-- an acceptor has promised a greater round, which is noted whatever the answer
abbrev pub nack_row : LeaderDurable → LeaderVolatile → Round → Round → Outcome LeaderVolatile
nack_row d v i promise =
    if is_idle v.mode || not (is_own d i) then only_word why.Old (with_seen promise v)
    else only_word why.Nacked (record (with_seen promise v) { mode = Idle })

-- whether a matchmaker refuses since it has no room
abbrev pub has_no_room : NackReason → Bool
has_no_room nack.Full = true
has_no_room nack.Collected = false
has_no_room nack.Later = false

-- a matchmaker doesn't record the round, and reports a greater one; where it has no room the leader goes on
abbrev pub match_nack_row : LeaderDurable → LeaderVolatile → RoleId → Round → NackReason → Round → Outcome LeaderVolatile
match_nack_row d v from i reason other =
    if is_idle v.mode || not (is_own d i) || not (is_in from.index v.set) then only_word why.Old (with_seen other v)
    else if has_no_room reason then only_word why.Full (with_seen other v)
    else only_word why.Nacked (record (with_seen other v) { mode = Idle })

-- The slots from cw on that the leader may propose at are a window of 32, and slots end at 2^40.
abbrev pub is_past_window : LeaderVolatile → Bool
is_past_window v = (v.next == v.cw + 32) || (v.next == 1099511627776)

abbrev pub propose_in : Cluster → RoleId → LeaderVolatile → List Command → Option Entry → Outcome LeaderVolatile
propose_in c me v commands None = only_word why.Idle v
propose_in c me v commands (Some own) =
    let placed : Placed = record { slot = v.next; value = Batch commands } in
    if is_past_window v then only_word why.Window v
    else replied why.Proposed (record v { next = v.next + 1; proposed = v.proposed ++ placed ∷ [] }) (propose_to c me own v.cw placed ∷ [])

-- a batcher hands in a batch
abbrev pub batch_row : Cluster → RoleId → LeaderDurable → LeaderVolatile → List Command → Outcome LeaderVolatile
batch_row c me d v commands = if is_leading v.mode then propose_in c me v commands d.own else only_word why.Idle v

-- a proxy leader reports that a slot is chosen in this round
abbrev pub chosen_in_row : LeaderDurable → LeaderVolatile → Round → ℕ → Outcome LeaderVolatile
chosen_in_row d v i s =
    if not (is_leading v.mode && is_own d i) then only_word why.Old v
    else if nat_lt s v.cw then only_word why.Past v
    else if nat_le v.next s then only_word why.Unasked v
    else if is_in s v.chosen then only_word why.Same v
    else only_word why.Chosen (record v { chosen = v.chosen ++ s ∷ [] })

-- a greater chosen watermark: the slots below it are forgotten, and none of them is free
abbrev pub raised_to : ℕ → LeaderVolatile → LeaderVolatile
raised_to cw v =
    record v {
      cw = max v.cw cw;
      next = max v.next (max v.cw cw);
      proposed = filter (λ (p : Placed). nat_le (max v.cw cw) p.slot) v.proposed;
      chosen = filter (λ s. nat_le (max v.cw cw) s) v.chosen;
    }

-- how many of the numbers reach this one
abbrev pub count_reaching : ℕ → List ℕ → ℕ
count_reaching n held = length (filter (λ h. nat_le n h) held)

abbrev pub greatest_of : List ℕ → ℕ
greatest_of [] = 0
greatest_of (n ∷ ns) = max n (greatest_of ns)

-- the greatest of the numbers that `count` of them reach
abbrev pub held_by : ℕ → List ℕ → ℕ
held_by count held = greatest_of (filter (λ n. nat_le count (count_reaching n held)) held)

abbrev pub held_noted : Cluster → LeaderVolatile → List ℕ → Outcome LeaderVolatile
held_noted c v held = only_word why.Held (raised_to (held_by (enough c) held) (record v { held = held }))

-- A replica reports how many slots it holds. What f + 1 replicas hold is never lost, and is the chosen watermark (this project's own).
abbrev pub held_row : Cluster → LeaderVolatile → RoleId → ℕ → Outcome LeaderVolatile
held_row c v from n =
    if nat_le n (slice_index_or v.held from.index 0) then only_word why.Same v
    else held_noted c v (slice_set v.held from.index n)

-- whether all slots from one up to another are known to be chosen
abbrev pub are_known : List ℕ → ℕ → ℕ → Bool
are_known chosen first end = list_all (λ s. is_in s chosen) (numbers first (end - first))

-- whether all that it proposed when it began to lead is known to be chosen, or held
abbrev pub is_settled : LeaderVolatile → Bool
is_settled v = are_known v.chosen v.cw v.end

abbrev pub collect_in : Cluster → RoleId → LeaderVolatile → Option Entry → Outcome LeaderVolatile
collect_in c me v None = only_word why.Idle v
collect_in c me v (Some own) =
    if not (is_off v.collection.stage) then only_word why.Same v
    else if not (is_settled v) then only_word why.Waiting v
    else replied why.Informing (record v { collection = collection_from v.cw }) (map (inform_to me own.round v.cw) (members_in c own.grid))

-- the order to retire all earlier rounds
abbrev pub collect_row : Cluster → RoleId → LeaderDurable → LeaderVolatile → Outcome LeaderVolatile
collect_row c me d v = if is_leading v.mode then collect_in c me v d.own else only_word why.Idle v

abbrev pub informed_counted : Cluster → RoleId → Entry → LeaderVolatile → Collection → Outcome LeaderVolatile
informed_counted c me own v k =
    if is_collecting k.stage
    then replied why.Collecting (record v { collection = k }) (map (garbage_a_to me own) v.set)
    else only_word why.Counted (record v { collection = k })

abbrev pub informed_in : Cluster → RoleId → LeaderVolatile → RoleId → Option Entry → Outcome LeaderVolatile
informed_in c me v from None = only_word why.Old v
informed_in c me v from (Some own) =
    if not (is_in from.index own.grid.members) then only_word why.Unasked v
    else if is_in from.index v.collection.counted then only_word why.Same v
    else informed_counted c me own v (with_informed own.grid from.index v.collection)

-- an acceptor of its grid knows how many slots are held
abbrev pub informed_row : Cluster → RoleId → LeaderDurable → LeaderVolatile → RoleId → Round → ℕ → Outcome LeaderVolatile
informed_row c me d v from i cw =
    if not (is_leading v.mode && is_own d i && is_informing v.collection.stage && nat_le v.collection.mark cw) then only_word why.Old v
    else informed_in c me v from d.own

abbrev pub forgotten_counted : LeaderVolatile → Collection → Outcome LeaderVolatile
forgotten_counted v k = only_word (if is_retired k.stage then why.Retired else why.Counted) (record v { collection = k })

-- a matchmaker has forgotten the earlier rounds
abbrev pub garbage_b_row : Cluster → LeaderDurable → LeaderVolatile → RoleId → Round → Outcome LeaderVolatile
garbage_b_row c d v from i =
    if not (is_leading v.mode && is_own d i && is_collecting v.collection.stage && is_in from.index v.set) then only_word why.Old v
    else if is_in from.index v.collection.counted then only_word why.Same v
    else forgotten_counted v (with_forgotten (enough c) from.index v.collection)

-- the members of the new set are asked the same; what was counted of the earlier set goes
abbrev pub set_learnt : RoleId → LeaderVolatile → Mode → Option Entry → Outcome LeaderVolatile
set_learnt me v Matching (Some own) = replied why.Learnt (record v { told = [] }) (map (match_a_to me own.round own.grid) v.set)
set_learnt me v Leading (Some own) =
    if is_collecting v.collection.stage
    then replied why.Learnt (record v { collection = record v.collection { counted = [] } }) (map (garbage_a_to me own) v.set)
    else only_word why.Learnt v
set_learnt me v other own = only_word why.Learnt v

-- a set that took over is told
abbrev pub sets_row : RoleId → LeaderDurable → LeaderVolatile → List ℕ → Outcome LeaderVolatile
sets_row me d v s = if is_above s v.set then set_learnt me (record v { set = s }) v.mode d.own else only_word why.Old v

abbrev pub leader_takes : Cluster → RoleId → LeaderDurable → LeaderVolatile → RoleId → Msg → Outcome LeaderVolatile
leader_takes c me d v from (msg.MatchB i w es) = match_b_row c me d v from i w es
leader_takes c me d v from (msg.MatchNack i reason other) = match_nack_row d v from i reason other
leader_takes c me d v from (msg.Phase1B i cw votes) = phase1b_row c me d v from i cw votes
leader_takes c me d v from (msg.Nack i promise) = nack_row d v i promise
leader_takes c me d v from (msg.Batch commands) = batch_row c me d v commands
leader_takes c me d v from (msg.ChosenIn i s) = chosen_in_row d v i s
leader_takes c me d v from (msg.Held n) = held_row c v from n
leader_takes c me d v from (msg.Informed i cw) = informed_row c me d v from i cw
leader_takes c me d v from (msg.GarbageB i) = garbage_b_row c d v from i
leader_takes c me d v from (msg.Sets s) = sets_row me d v s
leader_takes c me d v from other = only_word why.Stranger v

-- the values whose slots aren't known to be chosen
abbrev pub without_known : List ℕ → List Placed → List Placed
without_known chosen proposed = filter (λ (p : Placed). not (is_in p.slot chosen)) proposed

abbrev pub open_values : LeaderVolatile → List Placed
open_values v = without_known v.chosen v.proposed

-- what the present stage of retiring asks again
abbrev pub stage_sends : Cluster → RoleId → Entry → List ℕ → Collection → List Letter
stage_sends c me own set k =
    if is_informing k.stage then map (inform_to me own.round k.mark) (members_in c own.grid)
    else if is_collecting k.stage then map (garbage_a_to me own) set
    else []

-- what is waited for is asked again
abbrev pub tick_in : Cluster → RoleId → LeaderVolatile → Mode → Option Entry → Outcome LeaderVolatile
tick_in c me v mode None = only_word why.Idle v
tick_in c me v Idle (Some own) = only_word why.Idle v
tick_in c me v Matching (Some own) = replied why.Resent v (map (match_a_to me own.round own.grid) v.set)
tick_in c me v Phase1 (Some own) = replied why.Resent v (map (phase1a_to me own.round) (members_of c (live_entries v.told)))
tick_in c me v Leading (Some own) =
    replied why.Resent v (map (propose_to c me own v.cw) (open_values v) ++ map (leads_to me own.round) (below c.batchers)
    ++ stage_sends c me own v.set v.collection)

-- an order; a leader doesn't replace matchmakers
abbrev pub order_row : Cluster → RoleId → LeaderDurable → LeaderVolatile → OrderOf → Outcome LeaderVolatile
order_row c me d v (Lead g) = lead_row c me d v g
order_row c me d v (Change g) = change_row c me d v g
order_row c me d v Collect = collect_row c me d v
order_row c me d v (Replace s) = only_word why.Stranger v
order_row c me d v (Offer to s) = only_word why.Stranger v

abbrev pub leader_row : Cluster → RoleId → LeaderDurable → LeaderVolatile → Input → Outcome LeaderVolatile
leader_row c me d v (Take letter) =
    if same_role letter.to me && names c letter then leader_takes c me d v letter.from letter.msg else only_word why.Stranger v
leader_row c me d v Tick = tick_in c me v v.mode d.own
leader_row c me d v (Order order) = order_row c me d v order

abbrev pub leader_after : LeaderDurable → Record → LeaderDurable
leader_after d (kept.Round i g) = record { own = Some (record { round = i; grid = g }) }
leader_after d other = d

-- whether a round follows a leader's last one: a first one above it, or its next
abbrev pub follows : Round → Round → Bool
follows own i = (is_before own i && (i.s == 0)) || same_round i (record own { s = own.s + 1 })

-- whether the leader could have appended this record
abbrev pub leader_fits : Cluster → RoleId → LeaderDurable → Record → Bool
leader_fits c me d (kept.Round i g) = names_round c i && names_grid c g && (i.id == me.index) && follows (round_of d.own) i
leader_fits c me d other = false

abbrev pub idle_leader : Cluster → LeaderVolatile
idle_leader c =
    record {
      mode = Idle;
      seen = no_round;
      set = first_set c;
      held = map (λ r. 0) (below c.replicas);
      told = [];
      promises = [];
      cw = 0;
      next = 0;
      end = 0;
      proposed = [];
      chosen = [];
      collection = not_collecting;
    }

abbrev pub leader_rules : Rules LeaderDurable LeaderVolatile
leader_rules = record {
  kind = Leader;
  empty = record { own = None };
  after = leader_after;
  fits = leader_fits;
  whole = λ d. true;
  fresh = λ c d. idle_leader c;
  row = leader_row;
  snap = λ c me d v. None;
  renewed = λ d first. [];
}
