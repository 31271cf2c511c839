-- The word `bypassed` of an event is that of a leader's row, so the event does what the row does.
use Rattle.cx_inv_run.proofs.Common.{◌≡◌, ◌≤◌, ◌<◌, ℕ, ◌+◌, ◌-◌, Bool, true, false, List, [], ◌∷◌, ◌++◌, map, reverse, Option, Some, None}
use Rattle.cx_inv_run.proofs.Common.{ap, sym, ◌∙◌, subst, refl, inl, inr, arith, slice_get, length, true≢false, same_Some, Cluster, Placed}
use Rattle.cx_inv_run.proofs.Common.{Value, Cut, Whole, Torn, Kept, Event, Offer, Replace, Kind, RoleId, Round, Shape, below, role}
use Rattle.cx_inv_run.proofs.Common.{change_after}
use Rattle.cx_inv_run.proofs.Common.{Entry, Token, Letter, Act, Give, Snap, Stop, Wake, Input, Record, Msg, IsProposed, heard_by}
use Rattle.cx_inv_run.proofs.Common.{finish_with, finish_by, LeaderDurable, LeaderVolatile, leader_rules, leader_row, round_of, bypass}
use Rattle.cx_inv_run.proofs.Common.{leads_to, propose_to, Member, names_role, Outcome, either_way, OfEveryRun, is_stale, request, Turn}
use Rattle.cx_inv_run.proofs.Common.{turn, turn_with, whole_turn, still, World, change, changed, come, ask, nothing, act_at, act_of}
use Rattle.cx_inv_run.proofs.Common.{durable_part, run, State, LeaderIn, leader_volatile, HoldsIn, durable_by_time, state_own, Member-cases}
use Rattle.cx_inv_run.proofs.Common.{Member-first, Member-map, map-Member, Member-numbers, named, only_leader, run_cluster, is_changed}
use Rattle.cx_inv_run.proofs.Common.{Matching}
use Rattle.cx_base.specs.declared.event.Event.TheVariants as event
use Rattle.cx_base.specs.declared.role.Kind.TheVariants as kind
use Rattle.cx_base.specs.declared.why.Why.TheVariants as why
use Rattle.cx_letter.specs.declared.input.Input.TheVariants as input
use Rattle.cx_letter.specs.declared.message.Msg.TheVariants as msg
use Rattle.cx_model.specs.World.{Change}
use Rattle.cx_inv_run.proofs.Members.{numbers-Member}
use Rattle.cx_inv_match.specs.Prelude.{Facts, InMode, InState}
use Rattle.cx_inv_vote.proofs.Steps.{facts_hold}
use Rattle.cx_inv_bypass.specs.Bypassed.{Bypasses, GoesOn, BypassedRounds, IsOfRound}
use Rattle.cx_inv_bypass.specs.Full.{IsFull, FullIn, FullState, Full}
use Rattle.cx_inv_bypass.proofs.Keep.{full_runs}
use Rattle.cx_inv_bypass.proofs.Rows.{IsBypassing, bypassing, next_round, other_word}

-- what the datagrams of that row are

abbrev is_proposal : Msg → Bool
is_proposal (msg.Propose i g s cw v) = true
is_proposal other = false

propose_parts : (i j : Round) (g k : Shape) (s t cw low : ℕ) (u v : Value) → msg.Propose i g s cw u ≡ msg.Propose j k t low v
    → (i ≡ j) × (s ≡ t) × (u ≡ v)
propose_parts i j g k s t cw low u v e = (cc, cc, cc)

module _ (c : Cluster) (me : RoleId) (own : Entry) (cw : ℕ) (ps : List Placed) where
  abbrev sends : List Letter
  sends = map (propose_to c me own cw) ps ++ map (leads_to me own.round) (below c.batchers)

  of_round : (d : Letter) → Member d sends → IsOfRound own.round d.msg
  of_round d m = elim (Member-cases d (map (propose_to c me own cw) ps) (map (leads_to me own.round) (below c.batchers)) m) [
    | inl p ↦ (let r = Member-map (propose_to c me own cw) d ps p in
        subst (λ (x : Letter). IsOfRound own.round x.msg) (sym r.2) refl)
    | inr q ↦ (let r = Member-map (leads_to me own.round) d (below c.batchers) q in
        subst (λ (x : Letter). IsOfRound own.round x.msg) (sym r.2) refl)
  ]

  asks_for : (p : Placed) → Member p ps → IsProposed sends own.round p.slot p.value
  asks_for p m = (
    me,
    _,
    own.grid,
    cw,
    Member-first _ (map (propose_to c me own cw) ps) (map (leads_to me own.round) (below c.batchers))
        (map-Member (propose_to c me own cw) p ps m),
  )

  -- each proposal is of one of the values
  record IsOne (j : Round) (s : ℕ) (v : Value) : Type 0 where
    round : j ≡ own.round
    placed : Placed
    member : Member placed ps
    slot : s ≡ placed.slot
    value : v ≡ placed.value

  asked_for : (j : Round) (s : ℕ) (v : Value) → IsProposed sends j s v → IsOne j s v
  asked_for j s v h = elim (Member-cases _ (map (propose_to c me own cw) ps) (map (leads_to me own.round) (below c.batchers)) h.4) [
    | inl x ↦ (let r = Member-map (propose_to c me own cw) _ ps x in
        let same = propose_parts j own.round h.2 own.grid s (r.0).slot h.3 cw v (r.0).value (ap (λ (d : Letter). d.msg) r.2) in
        record { round = same.0; placed = r.0; member = r.1; slot = same.1; value = same.2 })
    | inr y ↦ (let r = Member-map (leads_to me own.round) _ (below c.batchers) y in
        absurd (true≢false (ap (λ (d : Letter). is_proposal d.msg) r.2)))
  ]

-- what a change does that answers `bypassed`
record Did (w : World) (ch : Change) (i : Round) : Type 0 where
  asks_nobody : (d : Letter) → Member d ch.sends → IsOfRound i d.msg
  before : Round
  follows : change_after before ≡ Some i
  cw : ℕ
  end : ℕ
  finish : finish_by (length w.events + 1) ch.who ch.why ch.roles w.kept
      ≡ record { event = length w.events + 1; round = i; cw = cw; end = end } ∷ []
  covers : (s : ℕ) (v : Value) → IsProposed w.sent before s v → s < end
  proposes : (s : ℕ) → cw ≤ s → s < end → (v : Value) × IsProposed w.sent before s v × IsProposed ch.sends i s v
  only : (j : Round) (s : ℕ) (v : Value) → IsProposed ch.sends j s v → (j ≡ i) × (cw ≤ s) × (s < end) × IsProposed w.sent before s v

module _ (c : Cluster) (w : World) (is_c : w.cluster ≡ c) (full : HoldsIn Full w) (facts : HoldsIn (Facts c) w) where
  abbrev last_round : RoleId → Round
  last_round a = round_of (durable_part leader_rules a w.kept).own

  -- a row of a leader
  module _ (l : ℕ) (v : LeaderVolatile) (running : w.roles (role kind.Leader l) ≡ LeaderIn v) where
    abbrev me : RoleId
    me = role kind.Leader l

    abbrev d : LeaderDurable
    d = durable_part leader_rules me w.kept

    its_window : FullIn w.sent (round_of d.own) v.cw v.next v.proposed v.mode
    its_window = subst (λ (x : LeaderDurable). FullIn w.sent (round_of x.own) v.cw v.next v.proposed v.mode)
        (sym (durable_by_time leader_rules me w.kept)) (subst (λ (s : State). FullState (reverse w.kept) w.sent me s) running (full me))

    its_mode : InMode c (reverse w.kept) w.sent d.own v v.mode
    its_mode = subst (λ (x : LeaderDurable). InMode c (reverse w.kept) w.sent x.own v v.mode) (sym (durable_by_time leader_rules me w.kept))
        (subst (λ (s : State). InState c (reverse w.kept) w.sent me s) running (facts.running me)).1

    -- all that was proposed in the round before lies below the next slot
    below_next : (own : Entry) → d.own ≡ Some own → is_changed own.round ≡ true → v.mode ≡ Matching → (j : Round)
        → change_after j ≡ Some own.round → (s : ℕ) (u : Value) → IsProposed w.sent j s u → s < v.next
    below_next own e changed mode j follows =
        let m = subst (λ o. InMode c (reverse w.kept) w.sent o v Matching) e
        (subst (λ x. InMode c (reverse w.kept) w.sent d.own v x) mode its_mode) in
        ((m.2 changed).covered j (next_round own.round j follows)).1

    abbrev left_by : Outcome LeaderVolatile → Change
    left_by o = changed LeaderIn me w.roles (whole_turn o)

    row_did : (own : Entry) (last : LeaderVolatile) (j : Round) → d.own ≡ Some own → change_after j ≡ Some own.round
        → IsFull w.sent j last.cw last.next last.proposed → ((s : ℕ) (u : Value) → IsProposed w.sent j s u → s < last.next)
        → Did w (left_by (bypass c me own last)) (round_of d.own)
    row_did own last j e follows window covers =
        let same : own.round ≡ round_of d.own = ap round_of (sym e) in
        record {
          asks_nobody = λ x m. subst (λ (k : Round). IsOfRound k x.msg) same (of_round c me own last.cw last.proposed x m);
          before = j;
          follows = follows ∙ ap (λ (x : Round). Some x) same;
          cw = last.cw;
          end = last.next;
          finish = ap (λ (s : State). finish_with (length w.events + 1) (round_of d.own) s)
              (state_own me (LeaderIn ((bypass c me own last).volatile)) w.roles);
          covers = covers;
          proposes = λ s low high.
              let there = Member-map (λ (p : Placed). p.slot) s last.proposed
              (subst (λ (ns : List ℕ). Member s ns) (sym window.slots)
              (Member-numbers s last.cw (last.next - last.cw) low (let l = window.window in omega arith))) in
              let p = there.0 in (
                p.value,
                subst (λ n. IsProposed w.sent j n p.value) (sym there.2) (window.each p there.1),
                subst (λ n. IsProposed (sends c me own last.cw last.proposed) (round_of d.own) n p.value) (sym there.2)
                    (subst (λ (x : Round). IsProposed (sends c me own last.cw last.proposed) x p.slot p.value) same
                    (asks_for c me own last.cw last.proposed p there.1)),
              );
          only = λ k s u h.
              let found = asked_for c me own last.cw last.proposed k s u h in
              let p = found.placed in
              let there = numbers-Member p.slot last.cw (last.next - last.cw) (subst (λ (ns : List ℕ). Member p.slot ns) window.slots
              (map-Member (λ (q : Placed). q.slot) p last.proposed found.member)) in (
                found.round ∙ same,
                let low = there.0 in let at = found.slot in omega arith,
                let high = there.1 in let low = there.0 in let at = found.slot in let l = window.window in omega arith,
                subst (λ n. IsProposed w.sent j n u) (sym found.slot)
                    (subst (λ x. IsProposed w.sent j p.slot x) (sym found.value) (window.each p found.member)),
              );
        }

    whole_did : (i : Input) → (leader_row c me d v i).why ≡ why.Bypassed → Did w (left_by (leader_row c me d v i)) (round_of d.own)
    whole_did i word =
        let r : IsBypassing c me w.sent d v (leader_row c me d v i) = bypassing c me w.sent d v its_window i word in
        subst (λ o. Did w (left_by o) (round_of d.own)) (sym r.row)
        (row_did r.own r.last r.before r.has_own r.follows r.full (subst (λ n. (s : ℕ) (u : Value) → IsProposed w.sent r.before s u → s < n)
        (sym r.next) (below_next r.own r.has_own r.changed r.mode r.before r.follows)))

    cut_did : (i : Input) (cut : Cut) (r : Option Record)
        → (turn_with cut r (leader_row c me d v i)).why ≡ why.Bypassed
        → Did w (changed LeaderIn me w.roles (turn_with cut r (leader_row c me d v i))) (round_of d.own)
    cut_did i cut None word = whole_did i word
    cut_did i Whole (Some r) word = whole_did i word
    cut_did i Torn (Some r) word = other_word refl word
    cut_did i Kept (Some r) word = other_word refl word

  -- an act at a leader
  module _ (l : ℕ) (act : Act) where
    abbrev DoneBy : Turn LeaderVolatile → Type 0
    DoneBy t = t.why ≡ why.Bypassed → Did w (changed LeaderIn (role kind.Leader l) w.roles t) (last_round (role kind.Leader l))

    turn_did : (x : Act) (running : Option LeaderVolatile)
        → ((v : LeaderVolatile) → running ≡ Some v → w.roles (role kind.Leader l) ≡ LeaderIn v)
        → DoneBy (turn leader_rules c (role kind.Leader l) (durable_part leader_rules (role kind.Leader l) w.kept) x running)
    turn_did (Give i cut) None found word = other_word refl word
    turn_did (Give i cut) (Some v) found word = cut_did l v (found v refl) i cut _ word
    turn_did Stop None found word = other_word refl word
    turn_did Stop (Some v) found word = other_word refl word
    turn_did (Snap cut) None found word = other_word refl word
    turn_did (Snap cut) (Some v) found word = other_word refl word
    turn_did Wake None found word =
        let d = durable_part leader_rules (role kind.Leader l) w.kept in
        either_way DoneBy (names_role c (role kind.Leader l)) (still (Some (leader_rules.fresh c d)) why.Opened)
        (still None why.Down)
        (λ word. other_word refl word) (λ word. other_word refl word) word
    turn_did Wake (Some v) found word = other_word refl word

    leader_did : DoneBy (turn leader_rules c (role kind.Leader l) (durable_part leader_rules (role kind.Leader l) w.kept) act
        (leader_volatile (w.roles (role kind.Leader l))))
    leader_did = turn_did act _ (only_leader (w.roles (role kind.Leader l)))

  -- an event at a leader `who`
  module _ (who : RoleId) (leads : who.kind ≡ kind.Leader) where
    abbrev DidSo : Change → Type 0
    DidSo ch = ch.who ≡ Some who → ch.why ≡ why.Bypassed → Did w ch (last_round who)

    no_leader : (a : RoleId) (k : Kind) → (k ≡ kind.Leader → ⊥) → a.kind ≡ k → ◌≡◌ {A = Option RoleId} (Some a) (Some who) → ⊥
    no_leader a k other is e = other (sym is ∙ subst (λ (x : RoleId). x.kind ≡ kind.Leader) (sym (same_Some a who e)) leads)

    act_did : (act : Act) (a : RoleId) (k : Kind) → a.kind ≡ k → DidSo (act_of c w.roles w.kept act a k)
    act_did act a kind.Client is at word = other_word refl word
    act_did act a kind.Leader is at word =
        let own : a ≡ role kind.Leader a.index = named kind.Leader a is in
        subst (λ (x : RoleId). Did w (act_of c w.roles w.kept act a kind.Leader) (last_round x)) (same_Some a who at)
        (subst (λ (x : RoleId). (act_of c w.roles w.kept act x kind.Leader).why ≡ why.Bypassed
        → Did w (act_of c w.roles w.kept act x kind.Leader) (last_round x)) (sym own) (leader_did a.index act) word)
    act_did act a kind.Batcher is at word = absurd (no_leader a kind.Batcher (λ p. cc) is at)
    act_did act a kind.Proxy is at word = absurd (no_leader a kind.Proxy (λ p. cc) is at)
    act_did act a kind.Acceptor is at word = absurd (no_leader a kind.Acceptor (λ p. cc) is at)
    act_did act a kind.Matchmaker is at word = absurd (no_leader a kind.Matchmaker (λ p. cc) is at)
    act_did act a kind.Replica is at word = absurd (no_leader a kind.Replica (λ p. cc) is at)
    act_did act a kind.Unbatcher is at word = absurd (no_leader a kind.Unbatcher (λ p. cc) is at)
    act_did act a kind.Reader is at word = absurd (no_leader a kind.Reader (λ p. cc) is at)
    act_did act a kind.Replacer is at word = absurd (no_leader a kind.Replacer (λ p. cc) is at)

    at_did : (act : Act) (a : RoleId) → DidSo (act_at w act a)
    at_did act a = subst (λ (x : Cluster). DidSo (act_of x w.roles w.kept act a a.kind)) (sym is_c) (act_did act a a.kind refl)

    come_did : (cut : Cut) (o : Option Letter) → DidSo (come w cut o)
    come_did cut None at word = other_word refl word
    come_did cut (Some x) at word = at_did (Give (input.Take x) cut) x.to at word

    ask_did : (e : Event) (t : Token) → DidSo (ask w e (Some t))
    ask_did e t =
        either_way DidSo (is_stale t e w.events)
        (nothing (Some (role kind.Client t.client)) w.roles why.Stale) (record {
          who = Some (role kind.Client t.client);
          why = why.Sent;
          roles = w.roles;
          kept = [];
          sends = request (heard_by t.client w.sent w.events) e;
        }) (λ at word. other_word refl word) (λ at word. other_word refl word)

    event_did : (e : Event) → DidSo (change w e)
    event_did (event.Write command batcher) = ask_did (event.Write command batcher) (record { client = command.client; seq = command.seq })
    event_did (event.Read client seq floor reader replica key) =
        ask_did (event.Read client seq floor reader replica key) (record { client = client; seq = seq })
    event_did (event.Session client seq floor replica key) =
        ask_did (event.Session client seq floor replica key) (record { client = client; seq = seq })
    event_did (event.Deliver n cut) = come_did cut (slice_get w.sent n)
    event_did (event.Tick r) = at_did (Give input.Tick Whole) r
    event_did (event.Order l order cut) = at_did (Give (input.Order order) cut) (role kind.Leader l)
    event_did (event.Replace x s cut) = at_did (Give (input.Order (Replace s)) cut) (role kind.Replacer x)
    event_did (event.Offer p to s) = at_did (Give (input.Order (Offer to s)) Whole) (role kind.Replica p)
    event_did (event.Crash r) = at_did Stop r
    event_did (event.Snap r cut) = at_did (Snap cut) r
    event_did (event.Restart r) = at_did Wake r

  goes_on : (e : Event) (i : Round) → Bypasses w e i → GoesOn w e i
  goes_on e i b =
      let r : Did w (change w e) i = subst (λ x. Did w (change w e) x) b.round (event_did b.who b.kind_is e b.at_it b.word) in
      record {
        asks_nobody = r.asks_nobody;
        before = r.before;
        follows = r.follows;
        cw = r.cw;
        end = r.end;
        finish = r.finish;
        covers = r.covers;
        proposes = r.proposes;
        only = r.only;
      }

pub bypassed_rounds : OfEveryRun BypassedRounds
bypassed_rounds c es then later e same i b = goes_on c (run c then) (run_cluster c then) (full_runs c then) (facts_hold c then) e i b
