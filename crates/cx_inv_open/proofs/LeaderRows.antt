-- A leader keeps rounds that follow its own, and proposes in the window of its watermark.
use Rattle.std.proofs.lemmas.Bool.{or_left}
use Rattle.cx_inv_run.proofs.Common.{◌≡◌, ℕ, ◌+◌, ◌-◌, ◌<◌, ◌≤◌, ◌==◌, Bool, true, false, not, ◌&&◌, ◌||◌, max, nat_lt, nat_le, map, List}
use Rattle.cx_inv_run.proofs.Common.{[], ◌∷◌, ◌++◌, length, slice_index_or, slice_set, Option, None, Some, if◌then◌else◌, refl, ap, sym}
use Rattle.cx_inv_run.proofs.Common.{subst, ◌∙◌, arith, and_from, and_parts, or_right, not-false, nat_tests, same_Some, Cluster, Command}
use Rattle.cx_inv_run.proofs.Common.{Placed, Lead, Collect, Replace, RoleId, Round, Why, Shape, is_in, below, numbers, same_role}
use Rattle.cx_inv_run.proofs.Common.{lead_after, change_after, is_above, Entry, Letter, Input, Msg, Mode, Idle, Matching, Phase1, Leading}
use Rattle.cx_inv_run.proofs.Common.{Promised, Collection, collection_from, with_informed, with_forgotten, is_off, is_informing}
use Rattle.cx_inv_run.proofs.Common.{is_collecting, LeaderDurable, LeaderVolatile, leader_rules, is_idle, is_matching, is_promising}
use Rattle.cx_inv_run.proofs.Common.{is_leading, round_of, is_own, match_a_to, phase1a_to, leads_to, propose_to, inform_to, garbage_a_to}
use Rattle.cx_inv_run.proofs.Common.{begin_in, finish, is_changed, bypass, matched_by, match_counted, promise_counted, with_seen}
use Rattle.cx_inv_run.proofs.Common.{is_past_window, propose_in, held_by, is_settled, collect_in, informed_counted, informed_in, set_learnt}
use Rattle.cx_inv_run.proofs.Common.{leader_takes, open_values, stage_sends, tick_in, order_row, leader_row, has_no_room, number_itself}
use Rattle.cx_inv_run.proofs.Common.{enough, is_counted, live_entries, is_member_of, members_of, members_in, rows_whole, Member, names}
use Rattle.cx_inv_run.proofs.Common.{names_grid, names_round, Outcome, only_word, replied, by_test, either_way, promised_by, has_promised}
use Rattle.cx_inv_run.proofs.Common.{votes_told, greatest_cw, end_told, voted_value, best_vote, placed_from, IsFit, Member-both}
use Rattle.cx_inv_run.proofs.Common.{Member-filter, Member-one, same_round-itself, before-higher}
use Rattle.cx_base.specs.declared.event.Order.{Order as OrderOf}
use Rattle.cx_base.specs.declared.event.Order.TheVariants.{Change, Offer}
use Rattle.cx_base.specs.declared.why.Why.TheVariants as why
use Rattle.cx_letter.specs.declared.input.Input.TheVariants as input
use Rattle.cx_letter.specs.declared.kept.Record.TheVariants as kept
use Rattle.cx_letter.specs.declared.message.Msg.TheVariants as msg
use Rattle.cx_model.specs.Leader.{leader_fits, follows}
use Rattle.cx_inv_open.specs.Fits.{IsNextSlot, IsSlot}
use Rattle.cx_inv_open.proofs.Keep.{AllInWindow, none_in, one_in, both_in, each_in}
use Rattle.cx_inv_open.proofs.Plans.{AreReported, Reports, AllReported, all_reported, end_most, planned_count, placed_below, next_free}
use Rattle.cx_inv_open.proofs.Plans.{next_raised}

module _ (c : Cluster) (me : RoleId) (d : LeaderDurable) (place : me.index < c.leaders) where
  -- the round that it begins follows its own

  is_named : nat_lt me.index c.leaders ≡ true
  is_named = grind (arith, nat_tests)

  abbrev round_fits : Round → Shape → Round → Bool
  round_fits own g i = names_round c i && names_grid c g && (i.id == me.index) && follows own i

  lead_fits : (own seen i : Round) (g : Shape) → names_grid c g ≡ true → lead_after own seen me.index ≡ Some i → round_fits own g i ≡ true
  lead_fits own seen i g named is = go (max own.r seen.r == 4294967295) is
    where
      go : (b : Bool) → (if b then None else Some (record { r = max own.r seen.r + 1; id = me.index; s = 0 })) ≡ Some i
          → round_fits own g i ≡ true
      go true q = cc
      go false q =
          let next : Round = record { r = max own.r seen.r + 1; id = me.index; s = 0 } in
          subst (λ (x : Round). round_fits own g x ≡ true) (same_Some next i q)
          (and_from _ _ (and_from _ _ (and_from _ _ is_named named) (number_itself me.index))
          (or_left _ _ (and_from _ _ (before-higher own next (omega arith)) refl)))

  change_fits : (own i : Round) (g : Shape) → own.id ≡ me.index → names_grid c g ≡ true → change_after own ≡ Some i
      → round_fits own g i ≡ true
  change_fits own i g mine named is = go (own.s == 4294967295) is
    where
      go : (b : Bool) → (if b then None else Some (record own { s = own.s + 1 })) ≡ Some i → round_fits own g i ≡ true
      go true q = cc
      go false q =
          let next : Round = record own { s = own.s + 1 } in
          subst (λ (x : Round). round_fits own g x ≡ true) (same_Some next i q)
          (and_from _ _ (and_from _ _ (and_from _ _ (subst (λ n. nat_lt n c.leaders ≡ true) (sym mine) is_named) named)
          (subst (λ n. (n == me.index) ≡ true) (sym mine) (number_itself me.index))) (or_right _ _ (same_round-itself next)))

  -- A row keeps and sends what is in its ranges, where its watermark afterwards is.
  pub record IsFine (o : Outcome LeaderVolatile) : Type 0 where
    pub keeps : IsFit leader_rules c me d o.kept
    pub next : IsNextSlot o.volatile.next o.volatile.cw
    pub sends : AllInWindow o.sends

  abbrev pub Good : Outcome LeaderVolatile → Type 0
  Good o = o.volatile.cw ≤ 1099511627776 → IsFine o

  calm : (w : Why) (v : LeaderVolatile) → IsNextSlot v.next v.cw → Good (only_word w v)
  calm w v n low = record { keeps = tt; next = n; sends = none_in }

  sending : (w : Why) (v : LeaderVolatile) (ds : List Letter) → IsNextSlot v.next v.cw → AllInWindow ds → Good (replied w v ds)
  sending w v ds n says low = record { keeps = tt; next = n; sends = says }

  informs_in : (i : Round) (cw : ℕ) (acceptors : List ℕ) → AllInWindow (map (inform_to me i cw) acceptors)
  informs_in i cw acceptors = each_in (inform_to me i cw) acceptors (λ a m. tt)

  garbage_in : (own : Entry) (set : List ℕ) → AllInWindow (map (garbage_a_to me own) set)
  garbage_in own set = each_in (garbage_a_to me own) set (λ m x. tt)

  leads_in : (i : Round) → AllInWindow (map (leads_to me i) (below c.batchers))
  leads_in i = each_in (leads_to me i) (below c.batchers) (λ b m. tt)

  phase1_in : (i : Round) (acceptors : List ℕ) → AllInWindow (map (phase1a_to me i) acceptors)
  phase1_in i acceptors = each_in (phase1a_to me i) acceptors (λ a m. tt)

  match_in : (i : Round) (g : Shape) (set : List ℕ) → AllInWindow (map (match_a_to me i g) set)
  match_in i g set = each_in (match_a_to me i g) set (λ m x. tt)

  stage_in : (own : Entry) (set : List ℕ) (k : Collection) → AllInWindow (stage_sends c me own set k)
  stage_in own set k =
      either_way AllInWindow (is_informing k.stage) _ _ (informs_in own.round k.mark (members_in c own.grid))
      (either_way AllInWindow (is_collecting k.stage) _ _ (garbage_in own set) none_in)

  module _ (v : LeaderVolatile) (h : IsNextSlot v.next v.cw) where
    begin_good : (g : Shape) (o : Option Round) → ((i : Round) → o ≡ Some i → leader_fits c me d (kept.Round i g) ≡ true)
        → Good (begin_in c me v g o)
    begin_good g None fits = calm why.End v h
    begin_good g (Some i) fits = λ low. record { keeps = (fits i refl, refl); next = h; sends = match_in i g v.set }

    -- the end of the first phase
    finish_good : (own : Entry) → AllReported v.promises → Good (finish c me own v)
    finish_good own told low =
        let cw = greatest_cw v.cw v.promises in
        let votes = votes_told v.promises in
        let reported = all_reported v.cw v.promises told in
        let near = end_most cw (cw + 32) votes (omega arith) (λ u m. (reported u m).0) in
        let few = end_most cw 1099511627776 votes low (λ u m. (reported u m).1) in
        let values = map (λ s. voted_value (best_vote s votes)) (numbers cw (end_told cw votes - cw)) in
        let count = planned_count (λ s. voted_value (best_vote s votes)) cw (end_told cw votes - cw) in
        record {
          keeps = tt;
          next = (near, few);
          sends = both_in (map (propose_to c me own cw) (placed_from cw values)) (map (leads_to me own.round) (below c.batchers))
              (each_in (propose_to c me own cw) (placed_from cw values)
              (λ p m. let l = placed_below cw values p m in (omega arith, omega arith))) (leads_in own.round);
        }

    matched_good : (own : Entry) → AllReported v.promises → (es : List Entry) → Good (matched_by c me own v es)
    matched_good own told [] = finish_good own told
    matched_good own told (e ∷ es) = sending why.Phase1 (record v { mode = Phase1 }) (map (phase1a_to me own.round) (members_of c (e ∷ es)))
        h (phase1_in own.round (members_of c (e ∷ es)))

    -- without one: what it proposed in the round before lies before its next slot
    bypass_good : (own : Entry) → ((p : Placed) → Member p v.proposed → p.slot < v.next) → Good (bypass c me own v)
    bypass_good own proposed =
        let near = h.0 in
        let few = h.1 in
        sending why.Bypassed _ _ h
        (both_in (map (propose_to c me own v.cw) v.proposed) (map (leads_to me own.round) (below c.batchers))
        (each_in (propose_to c me own v.cw) v.proposed (λ p m. let l = proposed p m in (omega arith, omega arith))) (leads_in own.round))

    match_counted_good : AllReported v.promises → (o : Option Entry)
        → ((own : Entry) → o ≡ Some own → is_changed own.round ≡ true → (p : Placed) → Member p v.proposed → p.slot < v.next)
        → Good (match_counted c me o v)
    match_counted_good told None ready = calm why.Old v h
    match_counted_good told (Some own) ready =
        either_way Good (nat_lt (length v.told) (enough c)) _ _ (calm why.Counted v h) (by_test Good (is_changed own.round)
        _ _ (λ changed. bypass_good own (ready own refl changed)) (λ f. matched_good own told (live_entries v.told)))

    promise_counted_good : AllReported v.promises → (o : Option Entry) → Good (promise_counted c me o v)
    promise_counted_good told None = calm why.Old v h
    promise_counted_good told (Some own) =
        either_way Good (rows_whole (live_entries v.told) (promised_by v.promises)) _ _ (finish_good own told) (calm why.Counted v h)

    propose_good : (commands : List Command) (o : Option Entry) → Good (propose_in c me v commands o)
    propose_good commands None = calm why.Idle v h
    propose_good commands (Some own) =
        by_test Good (is_past_window v) _ _ (λ t. calm why.Window v h)
        (λ f. let free = next_free v.next v.cw h f in
        let near = free.0 in
        let few = free.1 in
        sending why.Proposed _ _ (omega arith, omega arith) (one_in _ free))

    collect_good : (o : Option Entry) → Good (collect_in c me v o)
    collect_good None = calm why.Idle v h
    collect_good (Some own) =
        either_way Good (not (is_off v.collection.stage)) _ _ (calm why.Same v h)
        (either_way Good (not (is_settled v)) _ _ (calm why.Waiting v h)
        (sending why.Informing (record v { collection = collection_from v.cw }) _ h (informs_in own.round v.cw (members_in c own.grid))))

    informed_counted_good : (own : Entry) (k : Collection) → Good (informed_counted c me own v k)
    informed_counted_good own k =
        either_way Good (is_collecting k.stage) _ _ (sending why.Collecting (record v { collection = k }) _ h (garbage_in own v.set))
        (calm why.Counted (record v { collection = k }) h)

    informed_good : (from : RoleId) (o : Option Entry) → Good (informed_in c me v from o)
    informed_good from None = calm why.Old v h
    informed_good from (Some own) =
        either_way Good (not (is_in from.index own.grid.members)) _ _ (calm why.Unasked v h) (either_way Good (is_in from.index
        v.collection.counted) _ _ (calm why.Same v h) (informed_counted_good own (with_informed own.grid from.index v.collection)))

    learnt_good : (mode : Mode) (o : Option Entry) → Good (set_learnt me v mode o)
    learnt_good Idle o = calm why.Learnt v h
    learnt_good Matching None = calm why.Learnt v h
    learnt_good Matching (Some own) = sending why.Learnt (record v { told = [] }) _ h (match_in own.round own.grid v.set)
    learnt_good Phase1 o = calm why.Learnt v h
    learnt_good Leading None = calm why.Learnt v h
    learnt_good Leading (Some own) =
        either_way Good (is_collecting v.collection.stage) _ _ (sending why.Learnt
        (record v { collection = record v.collection { counted = [] } }) _ h (garbage_in own v.set)) (calm why.Learnt v h)

  -- by the input

  module _ (v : LeaderVolatile) (h : IsNextSlot v.next v.cw) (told : AllReported v.promises) (ready : is_matching v.mode ≡ true
      → (own : Entry) → d.own ≡ Some own → is_changed own.round ≡ true → (p : Placed) → Member p v.proposed → p.slot < v.next) where
    takes_good : (from : RoleId) (m : Msg) → Reports m → Good (leader_takes c me d v from m)
    takes_good from (msg.MatchB i w es) reports =
        by_test Good (not (is_matching v.mode && is_own d i && is_in from.index v.set)) _ _ (λ t. calm why.Old v h)
        (λ f. either_way Good (is_counted from.index v.told) _ _ (calm why.Same v h)
        (match_counted_good (record v { told = v.told ++ record { matchmaker = from.index; watermark = w; entries = es } ∷ [] })
        h told d.own
        (ready (and_parts (is_matching v.mode) (is_own d i)
        (and_parts (is_matching v.mode && is_own d i) (is_in from.index v.set) (not-false _ f)).0).0)))
    takes_good from (msg.MatchNack i reason other) reports =
        either_way Good (is_idle v.mode || not (is_own d i) || not (is_in from.index v.set)) _ _ (calm why.Old (with_seen other v) h)
        (either_way Good (has_no_room reason) _ _ (calm why.Full (with_seen other v) h)
        (calm why.Nacked (record (with_seen other v) { mode = Idle }) h))
    takes_good from (msg.Phase1B i cw votes) reports =
        let p : Promised = record { acceptor = from.index; cw = cw; votes = votes } in
        either_way Good (not (is_promising v.mode && is_own d i)) _ _ (calm why.Old v h)
        (either_way Good (not (is_member_of (live_entries v.told) from.index)) _ _ (calm why.Unasked v h)
        (either_way Good (has_promised from.index v.promises) _ _ (calm why.Same v h)
        (promise_counted_good (record v { promises = v.promises ++ p ∷ [] }) h (Member-both (λ (q : Promised). AreReported q.cw q.votes)
        v.promises (p ∷ []) told (Member-one (λ (q : Promised). AreReported q.cw q.votes) p reports)) d.own)))
    takes_good from (msg.Nack i promise) reports = either_way Good (is_idle v.mode || not (is_own d i))
        _ _ (calm why.Old (with_seen promise v) h) (calm why.Nacked (record (with_seen promise v) { mode = Idle }) h)
    takes_good from (msg.Batch commands) reports =
        either_way Good (is_leading v.mode) _ _ (propose_good v h commands d.own) (calm why.Idle v h)
    takes_good from (msg.ChosenIn i s) reports =
        either_way Good (not (is_leading v.mode && is_own d i)) _ _ (calm why.Old v h)
        (either_way Good (nat_lt s v.cw) _ _ (calm why.Past v h)
        (either_way Good (nat_le v.next s) _ _ (calm why.Unasked v h)
        (either_way Good (is_in s v.chosen) _ _ (calm why.Same v h) (calm why.Chosen (record v { chosen = v.chosen ++ s ∷ [] }) h))))
    takes_good from (msg.Held n) reports =
        let held = slice_set v.held from.index n in
        either_way Good (nat_le n (slice_index_or v.held from.index 0)) _ _ (calm why.Same v h)
        (λ low. record { keeps = tt; next = next_raised v.next v.cw (held_by (enough c) held) h low; sends = none_in })
    takes_good from (msg.Informed i cw) reports =
        either_way Good (not (is_leading v.mode && is_own d i && is_informing v.collection.stage && nat_le v.collection.mark cw)) _ _
        (calm why.Old v h) (informed_good v h from d.own)
    takes_good from (msg.GarbageB i) reports = either_way Good (not (is_leading v.mode && is_own d i && is_collecting v.collection.stage
        && is_in from.index v.set)) _ _ (calm why.Old v h) (either_way Good (is_in from.index v.collection.counted) _ _ (calm why.Same v h)
        (calm _ (record v { collection = with_forgotten (enough c) from.index v.collection }) h))
    takes_good from (msg.Sets s) reports =
        either_way Good (is_above s v.set) _ _ (learnt_good (record v { set = s }) h v.mode d.own) (calm why.Old v h)
    takes_good from other reports = calm why.Stranger v h

    -- while it leads it has a round, and what it proposed lies before its next slot
    module _ (mine : (own : Entry) → d.own ≡ Some own → own.round.id ≡ me.index) (has_round : is_leading v.mode ≡ true → d.own ≡ None → ⊥)
        (proposed : (own : Entry) → d.own ≡ Some own → v.mode ≡ Leading → (p : Placed) → Member p v.proposed → p.slot < v.next) where
      ticks_good : (mode : Mode) → v.mode ≡ mode → (o : Option Entry) → d.own ≡ o → Good (tick_in c me v mode o)
      ticks_good mode is None e = calm why.Idle v h
      ticks_good Idle is (Some own) e = calm why.Idle v h
      ticks_good Matching is (Some own) e = sending why.Resent v _ h (match_in own.round own.grid v.set)
      ticks_good Phase1 is (Some own) e = sending why.Resent v _ h (phase1_in own.round (members_of c (live_entries v.told)))
      ticks_good Leading is (Some own) e =
          let proposals = map (propose_to c me own v.cw) (open_values v) in
          let leads = map (leads_to me own.round) (below c.batchers) in
          sending why.Resent v (proposals ++ leads ++ stage_sends c me own v.set v.collection) h
          (both_in (proposals ++ leads) (stage_sends c me own v.set v.collection) (both_in proposals leads
          (each_in (propose_to c me own v.cw) (open_values v) again) (leads_in own.round)) (stage_in own v.set v.collection))
        where
          again : (p : Placed) → Member p (open_values v) → (p.slot < v.cw + 32) × IsSlot p.slot
          again p m =
              let below = proposed own e is p (Member-filter (λ (q : Placed). not (is_in q.slot v.chosen)) p v.proposed m).0 in
              let near = h.0 in
              let few = h.1 in
              (omega arith, omega arith)

      changes_good : (g : Shape) → names_grid c g ≡ true → is_leading v.mode ≡ true → (o : Option Entry) → d.own ≡ o
          → (i : Round) → change_after (round_of d.own) ≡ Some i → leader_fits c me d (kept.Round i g) ≡ true
      changes_good g named leads None e i next = absurd (has_round leads e)
      changes_good g named leads (Some own) e i next =
          change_fits (round_of d.own) i g (ap (λ (o : Option Entry). (round_of o).id) e ∙ mine own e) named next

      orders_good : (order : OrderOf) → Good (order_row c me d v order)
      orders_good (Lead g) = by_test Good (names_grid c g) _ _ (λ named. begin_good v h g (lead_after (round_of d.own) v.seen me.index)
          (λ i next. lead_fits (round_of d.own) v.seen i g named next)) (λ f. calm why.Stranger v h)
      orders_good (Change g) =
          by_test Good (not (names_grid c g)) _ _ (λ t. calm why.Stranger v h)
          (λ named. by_test Good (not (is_leading v.mode)) _ _ (λ t. calm why.Idle v h)
          (λ leads. begin_good v h g (change_after (round_of d.own)) (changes_good g (not-false _ named) (not-false _ leads) d.own refl)))
      orders_good Collect = either_way Good (is_leading v.mode) _ _ (collect_good v h d.own) (calm why.Idle v h)
      orders_good (Replace s) = calm why.Stranger v h
      orders_good (Offer to s) = calm why.Stranger v h

      pub row_good : (i : Input) → ((x : Letter) → i ≡ input.Take x → Reports x.msg) → Good (leader_row c me d v i)
      row_good (input.Take x) reports =
          either_way Good (same_role x.to me && names c x) _ _ (takes_good x.from x.msg (reports x refl)) (calm why.Stranger v h)
      row_good input.Tick reports = ticks_good v.mode refl d.own refl
      row_good (input.Order order) reports = orders_good order
