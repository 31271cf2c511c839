-- Each row of a leader leaves its window full while it leads, and while it goes on with another grid; and the word `bypassed` is that of
-- one row.
use Rattle.cx_inv_run.proofs.Common.{◌≡◌, ◌≤◌, ◌+◌, ◌-◌, ℕ, Bool, true, false, not, ◌&&◌, ◌||◌, max, ◌==◌, List, [], ◌∷◌, ◌++◌, map, filter}
use Rattle.cx_inv_run.proofs.Common.{Option, None, Some, ap, sym, subst, ◌∙◌, refl, inl, inr, arith, nat_le, nat_lt, length, if◌then◌else◌}
use Rattle.cx_inv_run.proofs.Common.{slice_index_or, slice_set, true≢false, and_parts, not-false, nat_tests, same_Some, Cluster, Command}
use Rattle.cx_inv_run.proofs.Common.{Placed, Value, Lead, Collect, Offer, Replace, RoleId, Round, Why, Shape, is_in, below, numbers}
use Rattle.cx_inv_run.proofs.Common.{same_role}
use Rattle.cx_inv_run.proofs.Common.{lead_after, change_after, is_above, Entry, Letter, Input, Take, Tick, Order, Record, Msg, Mode, Idle}
use Rattle.cx_inv_run.proofs.Common.{Matching, Phase1, Leading, Collection, with_informed, with_forgotten, is_off, is_informing}
use Rattle.cx_inv_run.proofs.Common.{is_collecting, is_retired, IsProposed, LeaderDurable, LeaderVolatile, leader_after, round_of, is_own}
use Rattle.cx_inv_run.proofs.Common.{is_changed, is_idle, is_matching, is_promising, is_leading, leads_to, propose_to, begin_in, finish}
use Rattle.cx_inv_run.proofs.Common.{bypass, matched_by, match_counted, promise_counted, propose_in, held_by, collect_in, informed_in}
use Rattle.cx_inv_run.proofs.Common.{forgotten_counted, set_learnt, is_past_window, is_settled, leader_takes, tick_in, order_row}
use Rattle.cx_inv_run.proofs.Common.{leader_row, has_no_room, enough, is_counted, live_entries, is_member_of, rows_whole, Member, names}
use Rattle.cx_inv_run.proofs.Common.{names_grid, Outcome, replied, by_test, either_way, plan, placed_from, promised_by, has_promised}
use Rattle.cx_inv_run.proofs.Common.{Member-cases, Member-first, Member-second, map-Member, filter-older}
use Rattle.cx_base.specs.declared.command.Value.TheVariants.{Batch}
use Rattle.cx_base.specs.declared.event.Order.{Order as OrderOf}
use Rattle.cx_base.specs.declared.event.Order.TheVariants.{Change}
use Rattle.cx_base.specs.declared.why.Why.TheVariants as why
use Rattle.cx_letter.specs.declared.message.Msg.TheVariants as msg
use Rattle.cx_inv_bypass.specs.Full.{IsFull, FullIn}
use Rattle.cx_inv_bypass.proofs.Windows.{slots_of, slots-more, slots-from, plan-window, plan-slots}

-- more datagrams

pub proposed_still : (sent ds : List Letter) (i : Round) (s : ℕ) (v : Value) → IsProposed sent i s v → IsProposed (sent ++ ds) i s v
proposed_still sent ds i s v p = (p.0, p.1, p.2, p.3, Member-first _ sent ds p.4)

full_still : (sent ds : List Letter) (i : Round) (cw next : ℕ) (proposed : List Placed) → IsFull sent i cw next proposed
    → IsFull (sent ++ ds) i cw next proposed
full_still sent ds i cw next proposed h =
    record { window = h.window; slots = h.slots; each = λ p m. proposed_still sent ds i p.slot p.value (h.each p m) }

pub still_full : (sent ds : List Letter) (i : Round) (cw next : ℕ) (proposed : List Placed) (mode : Mode)
    → FullIn sent i cw next proposed mode → FullIn (sent ++ ds) i cw next proposed mode
still_full sent ds i cw next proposed Leading h = full_still sent ds i cw next proposed h
still_full sent ds i cw next proposed Matching h = λ t. (let r = h t in (r.0, r.1, full_still sent ds r.0 cw next proposed r.2))
still_full sent ds i cw next proposed Idle h = tt
still_full sent ds i cw next proposed Phase1 h = tt

-- the modes that a test lets through

leading_is : (m : Mode) → is_leading m ≡ true → m ≡ Leading
leading_is Idle t = cc
leading_is Matching t = cc
leading_is Phase1 t = cc
leading_is Leading t = refl

matching_is : (m : Mode) → is_matching m ≡ true → m ≡ Matching
matching_is Idle t = cc
matching_is Matching t = refl
matching_is Phase1 t = cc
matching_is Leading t = cc

-- a round of a lead didn't come by a change

lead_first : (own seen i : Round) (l : ℕ) → lead_after own seen l ≡ Some i → is_changed i ≡ false
lead_first own seen i l is = go (max own.r seen.r == 4294967295) is
  where
    go : (b : Bool) → (if b then None else Some (record { r = max own.r seen.r + 1; id = l; s = 0 })) ≡ Some i → is_changed i ≡ false
    go true q = cc
    go false q = subst (λ (x : Round). is_changed x ≡ false) (same_Some _ i q) (grind (arith, nat_tests))

-- the round that follows another one
pub next_round : (i j : Round) → change_after j ≡ Some i → i ≡ record j { s = j.s + 1 }
next_round i j = go (j.s == 4294967295)
  where
    go : (b : Bool) → (if b then None else Some (record j { s = j.s + 1 })) ≡ Some i → i ≡ record j { s = j.s + 1 }
    go true q = cc
    go false q = sym (same_Some _ i q)

abbrev is_bypassed : Why → Bool
is_bypassed why.Bypassed = true
is_bypassed other = false

-- another word is not this one
pub other_word : {A : Type 0} {y : Why} → is_bypassed y ≡ false → y ≡ why.Bypassed → A
other_word f e = absurd (true≢false (sym (ap is_bypassed e) ∙ f))

-- the last round of a leader once a record is kept
abbrev pub round_after : LeaderDurable → Option Record → Round
round_after d None = round_of d.own
round_after d (Some r) = round_of (leader_after d r).own

-- the row that bypasses the first phase, in a round that follows another one in which the leader's window is full
pub record IsBypassing (c : Cluster) (me : RoleId) (sent : List Letter) (d : LeaderDurable) (v : LeaderVolatile)
    (o : Outcome LeaderVolatile) : Type 0 where
  pub own : Entry
  pub has_own : d.own ≡ Some own
  pub before : Round
  pub follows : change_after before ≡ Some own.round
  pub changed : is_changed own.round ≡ true
  pub mode : v.mode ≡ Matching
  pub last : LeaderVolatile
  pub next : last.next ≡ v.next
  pub full : IsFull sent before last.cw last.next last.proposed
  pub row : o ≡ bypass c me own last

module _ (c : Cluster) (me : RoleId) (sent : List Letter) (d : LeaderDurable) (v : LeaderVolatile)
    (h : FullIn sent (round_of d.own) v.cw v.next v.proposed v.mode) where
  abbrev Good : Outcome LeaderVolatile → Type 0
  Good o =
      FullIn (sent ++ o.sends) (round_after d o.kept) (o.volatile).cw (o.volatile).next (o.volatile).proposed (o.volatile).mode
      × (o.why ≡ why.Bypassed → IsBypassing c me sent d v o)

  -- a row with another word that keeps nothing
  says : (w : Why) (u : LeaderVolatile) (ds : List Letter) → is_bypassed w ≡ false
      → FullIn sent (round_of d.own) u.cw u.next u.proposed u.mode → Good (replied w u ds)
  says w u ds f full = (still_full sent ds (round_of d.own) u.cw u.next u.proposed u.mode full, other_word f)

  -- and leaves the window
  abbrev same : (w : Why) → is_bypassed w ≡ false → Good (replied w v [])
  same w f = says w v [] f h

  while_leading : is_leading v.mode ≡ true → IsFull sent (round_of d.own) v.cw v.next v.proposed
  while_leading t = subst (λ m. FullIn sent (round_of d.own) v.cw v.next v.proposed m) (leading_is v.mode t) h

  while_matching : is_matching v.mode ≡ true → is_changed (round_of d.own) ≡ true
      → (j : Round) × (change_after j ≡ Some (round_of d.own)) × IsFull sent j v.cw v.next v.proposed
  while_matching t = subst (λ m. FullIn sent (round_of d.own) v.cw v.next v.proposed m) (matching_is v.mode t) h

  -- it begins to lead: what it remembers is proposed in its own round

  asked : (own : Entry) (cw : ℕ) (ps : List Placed) (more : List Letter) (p : Placed) → Member p ps
      → IsProposed (sent ++ (map (propose_to c me own cw) ps ++ more)) own.round p.slot p.value
  asked own cw ps more p m = (
    me,
    _,
    own.grid,
    cw,
    Member-second _ sent (map (propose_to c me own cw) ps ++ more)
        (Member-first _ (map (propose_to c me own cw) ps) more (map-Member (propose_to c me own cw) p ps m)),
  )

  led : (own : Entry) → d.own ≡ Some own → (cw next : ℕ) (ps : List Placed) → cw ≤ next → slots_of ps ≡ numbers cw (next - cw)
      → FullIn (sent ++ (map (propose_to c me own cw) ps ++ map (leads_to me own.round) (below c.batchers))) (round_of d.own) cw
      next ps Leading
  led own e cw next ps l slots = subst (λ (o : Option Entry).
      IsFull (sent ++ (map (propose_to c me own cw) ps ++ map (leads_to me own.round) (below c.batchers))) (round_of o) cw next ps) (sym e)
      record { window = l; slots = slots; each = asked own cw ps (map (leads_to me own.round) (below c.batchers)) }

  finish_full : (own : Entry) → d.own ≡ Some own → (w : LeaderVolatile) → Good (finish c me own w)
  finish_full own e w =
      let p = plan w.cw w.promises in
      (led own e p.cw p.end (placed_from p.cw p.values) (plan-window w.cw w.promises) (plan-slots w.cw w.promises), other_word refl)

  bypass_full : (own : Entry) → d.own ≡ Some own → is_changed own.round ≡ true → is_matching v.mode ≡ true → (w : LeaderVolatile)
      → w.cw ≡ v.cw → w.next ≡ v.next → w.proposed ≡ v.proposed → Good (bypass c me own w)
  bypass_full own e changed t w cw next proposed =
      let old = while_matching t (subst (λ (o : Option Entry). is_changed (round_of o) ≡ true) (sym e) changed) in
      let full : IsFull sent old.0 w.cw w.next w.proposed = rw (cw, next, proposed) old.2 in (
        led own e w.cw w.next w.proposed full.window full.slots,
        λ p. record {
          own = own;
          has_own = e;
          before = old.0;
          follows = old.1 ∙ ap (λ (o : Option Entry). Some (round_of o)) e;
          changed = changed;
          mode = matching_is v.mode t;
          last = w;
          next = next;
          full = full;
          row = refl;
        },
      )

  matched_full : (own : Entry) → d.own ≡ Some own → (w : LeaderVolatile) (es : List Entry) → Good (matched_by c me own w es)
  matched_full own e w [] = finish_full own e w
  matched_full own e w (x ∷ es) = (tt, other_word refl)

  match_counted_full : (o : Option Entry) → d.own ≡ o → is_matching v.mode ≡ true → (w : LeaderVolatile) → w.cw ≡ v.cw → w.next ≡ v.next
      → w.proposed ≡ v.proposed → w.mode ≡ v.mode → Good (match_counted c me o w)
  match_counted_full None e t w cw next proposed mode = (rw (cw, next, proposed, mode) (same why.Old refl).0, other_word refl)
  match_counted_full (Some own) e t w cw next proposed mode =
      either_way Good (nat_lt (length w.told) (enough c)) _ _ (rw (cw, next, proposed, mode) (same why.Counted refl).0, other_word refl)
      (by_test Good (is_changed own.round) _ _ (λ changed. bypass_full own e changed t w cw next proposed)
      (λ f. matched_full own e w (live_entries w.told)))

  promise_counted_full : (o : Option Entry) → d.own ≡ o → (w : LeaderVolatile) → w.cw ≡ v.cw → w.next ≡ v.next → w.proposed ≡ v.proposed
      → w.mode ≡ v.mode → Good (promise_counted c me o w)
  promise_counted_full None e w cw next proposed mode = (rw (cw, next, proposed, mode) (same why.Old refl).0, other_word refl)
  promise_counted_full (Some own) e w cw next proposed mode =
      either_way Good (rows_whole (live_entries w.told) (promised_by w.promises)) _ _ (finish_full own e w)
      (rw (cw, next, proposed, mode) (same why.Counted refl).0, other_word refl)

  -- it proposes one more

  more_full : (own : Entry) → d.own ≡ Some own → is_leading v.mode ≡ true → (placed : Placed) → placed.slot ≡ v.next
      → FullIn (sent ++ propose_to c me own v.cw placed ∷ []) (round_of d.own) v.cw (v.next + 1) (v.proposed ++ placed ∷ []) v.mode
  more_full own e t placed at =
      let old = while_leading t in
      let ds = propose_to c me own v.cw placed ∷ [] in
      subst (λ m. FullIn (sent ++ ds) (round_of d.own) v.cw (v.next + 1) (v.proposed ++ placed ∷ []) m) (sym (leading_is v.mode t))
      record {
        window = let l = old.window in omega arith;
        slots = subst (λ n. slots_of (v.proposed ++ placed ∷ []) ≡ numbers v.cw (n + 1 - v.cw)) at
            (slots-more v.proposed placed v.cw (let l = old.window in omega arith)
            (subst (λ n. slots_of v.proposed ≡ numbers v.cw (n - v.cw)) (sym at) old.slots));
        each = λ p m. elim (Member-cases p v.proposed (placed ∷ []) m) [
          | inl k ↦ proposed_still sent ds (round_of d.own) p.slot p.value (old.each p k)
          | inr k ↦ (elim k [
            | inl is ↦ subst (λ (x : Placed). IsProposed (sent ++ ds) (round_of d.own) x.slot x.value) (sym is)
                (subst (λ (o : Option Entry). IsProposed (sent ++ ds) (round_of o) placed.slot placed.value) (sym e)
                (me, _, own.grid, v.cw, Member-second _ sent ds (inl refl)))
            | inr n ↦ absurd n
          ])
        ];
      }

  propose_full : is_leading v.mode ≡ true → (commands : List Command) (o : Option Entry) → d.own ≡ o → Good (propose_in c me v commands o)
  propose_full t commands None e = same why.Idle refl
  propose_full t commands (Some own) e =
      let placed : Placed = record { slot = v.next; value = Batch commands } in
      either_way Good (is_past_window v) _ _ (same why.Window refl) (more_full own e t placed refl, other_word refl)

  -- its watermark rises

  raised_is : (i : Round) (cw : ℕ) → IsFull sent i v.cw v.next v.proposed
      → IsFull sent i (max v.cw cw) (max v.next (max v.cw cw)) (filter (λ (p : Placed). nat_le (max v.cw cw) p.slot) v.proposed)
  raised_is i cw full = record {
    window = omega arith;
    slots = slots-from v.proposed v.cw v.next (max v.cw cw) (omega arith) full.window full.slots;
    each = λ p m. full.each p (filter-older _ p v.proposed m);
  }

  raised_in : (i : Round) (cw : ℕ) (mode : Mode) → FullIn sent i v.cw v.next v.proposed mode
      → FullIn sent i (max v.cw cw) (max v.next (max v.cw cw)) (filter (λ (p : Placed). nat_le (max v.cw cw) p.slot) v.proposed) mode
  raised_in i cw Leading full = raised_is i cw full
  raised_in i cw Matching full = λ t. (let r = full t in (r.0, r.1, raised_is r.0 cw r.2))
  raised_in i cw Idle full = tt
  raised_in i cw Phase1 full = tt

  -- it retires earlier rounds

  collect_full : (o : Option Entry) → Good (collect_in c me v o)
  collect_full None = same why.Idle refl
  collect_full (Some own) =
      either_way Good (not (is_off v.collection.stage)) _ _ (same why.Same refl)
      (either_way Good (not (is_settled v)) _ _ (same why.Waiting refl) (says why.Informing _ _ refl h))

  informed_full : (from : RoleId) (o : Option Entry) → Good (informed_in c me v from o)
  informed_full from None = same why.Old refl
  informed_full from (Some own) =
      either_way Good (not (is_in from.index own.grid.members)) _ _ (same why.Unasked refl)
      (either_way Good (is_in from.index v.collection.counted) _ _ (same why.Same refl)
      (either_way Good (is_collecting (with_informed own.grid from.index v.collection).stage) _ _ (says why.Collecting _ _ refl h)
      (says why.Counted _ [] refl h)))

  forgotten_full : (k : Collection) → Good (forgotten_counted v k)
  forgotten_full k =
      says (if is_retired k.stage then why.Retired else why.Counted) (record v { collection = k }) [] (other (is_retired k.stage)) h
    where
      other : (b : Bool) → is_bypassed (if b then why.Retired else why.Counted) ≡ false
      other true = refl
      other false = refl

  -- it learns of another set of matchmakers

  learnt_full : (s : List ℕ) (mode : Mode) (o : Option Entry) → Good (set_learnt me (record v { set = s }) mode o)
  learnt_full s Matching (Some own) = says why.Learnt _ _ refl h
  learnt_full s Leading (Some own) =
      either_way Good (is_collecting v.collection.stage) _ _ (says why.Learnt _ _ refl h) (says why.Learnt _ [] refl h)
  learnt_full s Idle o = says why.Learnt _ [] refl h
  learnt_full s Phase1 o = says why.Learnt _ [] refl h
  learnt_full s Matching None = says why.Learnt _ [] refl h
  learnt_full s Leading None = says why.Learnt _ [] refl h

  -- a new round

  begin_full : (g : Shape) (next : Option Round)
      → ((i : Round) → next ≡ Some i → is_changed i ≡ true → (j : Round) × (change_after j ≡ Some i) × IsFull sent j v.cw v.next v.proposed)
      → Good (begin_in c me v g next)
  begin_full g None ready = same why.End refl
  begin_full g (Some i) ready = (still_full sent _ i v.cw v.next v.proposed Matching (ready i refl), other_word refl)

  -- by the input

  order_full : (order : OrderOf) → Good (order_row c me d v order)
  order_full (Lead g) =
      either_way Good (names_grid c g) _ _ (begin_full g (lead_after (round_of d.own) v.seen me.index)
      (λ i e t. absurd (true≢false (sym t ∙ lead_first (round_of d.own) v.seen i me.index e)))) (same why.Stranger refl)
  order_full (Change g) =
      either_way Good (not (names_grid c g)) _ _ (same why.Stranger refl)
      (by_test Good (not (is_leading v.mode)) _ _ (λ t. same why.Idle refl)
      (λ f. begin_full g (change_after (round_of d.own)) (λ i e t. (round_of d.own, e, while_leading (not-false _ f)))))
  order_full Collect = either_way Good (is_leading v.mode) _ _ (collect_full d.own) (same why.Idle refl)
  order_full (Replace s) = same why.Stranger refl
  order_full (Offer to s) = same why.Stranger refl

  takes_full : (from : RoleId) (m : Msg) → Good (leader_takes c me d v from m)
  takes_full from (msg.MatchB i w es) =
      by_test Good (not (is_matching v.mode && is_own d i && is_in from.index v.set)) _ _ (λ t. same why.Old refl)
      (λ f. (let of_round = (and_parts (is_matching v.mode && is_own d i) (is_in from.index v.set) (not-false _ f)).0 in
      either_way Good (is_counted from.index v.told) _ _ (same why.Same refl)
      (match_counted_full d.own refl (and_parts (is_matching v.mode) (is_own d i) of_round).0 _ refl refl refl refl)))
  takes_full from (msg.MatchNack i reason other) =
      either_way Good (is_idle v.mode || not (is_own d i) || not (is_in from.index v.set)) _ _ (says why.Old _ [] refl h)
      (either_way Good (has_no_room reason) _ _ (says why.Full _ [] refl h) (tt, other_word refl))
  takes_full from (msg.Phase1B i cw votes) =
      either_way Good (not (is_promising v.mode && is_own d i)) _ _ (same why.Old refl)
      (either_way Good (not (is_member_of (live_entries v.told) from.index)) _ _ (same why.Unasked refl) (either_way Good
      (has_promised from.index v.promises) _ _ (same why.Same refl) (promise_counted_full d.own refl _ refl refl refl refl)))
  takes_full from (msg.Nack i promise) =
      either_way Good (is_idle v.mode || not (is_own d i)) _ _ (says why.Old _ [] refl h) (tt, other_word refl)
  takes_full from (msg.Batch commands) =
      by_test Good (is_leading v.mode) _ _ (λ t. propose_full t commands d.own refl) (λ f. same why.Idle refl)
  takes_full from (msg.ChosenIn i s) =
      either_way Good (not (is_leading v.mode && is_own d i)) _ _ (same why.Old refl)
      (either_way Good (nat_lt s v.cw) _ _ (same why.Past refl) (either_way Good (nat_le v.next s) _ _ (same why.Unasked refl)
      (either_way Good (is_in s v.chosen) _ _ (same why.Same refl) (says why.Chosen _ [] refl h))))
  takes_full from (msg.Held n) =
      either_way Good (nat_le n (slice_index_or v.held from.index 0)) _ _ (same why.Same refl)
      (says why.Held _ [] refl (raised_in (round_of d.own) (held_by (enough c) (slice_set v.held from.index n)) v.mode h))
  takes_full from (msg.Informed i cw) =
      either_way Good (not (is_leading v.mode && is_own d i && is_informing v.collection.stage && nat_le v.collection.mark cw)) _ _
      (same why.Old refl) (informed_full from d.own)
  takes_full from (msg.GarbageB i) = either_way Good (not (is_leading v.mode && is_own d i && is_collecting v.collection.stage
      && is_in from.index v.set)) _ _ (same why.Old refl) (either_way Good (is_in from.index v.collection.counted) _ _ (same why.Same refl)
      (forgotten_full (with_forgotten (enough c) from.index v.collection)))
  takes_full from (msg.Sets s) = either_way Good (is_above s v.set) _ _ (learnt_full s v.mode d.own) (same why.Old refl)
  takes_full from other = same why.Stranger refl

  tick_full : (mode : Mode) (o : Option Entry) → Good (tick_in c me v mode o)
  tick_full mode None = same why.Idle refl
  tick_full Idle (Some own) = same why.Idle refl
  tick_full Matching (Some own) = says why.Resent v _ refl h
  tick_full Phase1 (Some own) = says why.Resent v _ refl h
  tick_full Leading (Some own) = says why.Resent v _ refl h

  row_full : (i : Input) → Good (leader_row c me d v i)
  row_full (Take x) = either_way Good (same_role x.to me && names c x) _ _ (takes_full x.from x.msg) (same why.Stranger refl)
  row_full Tick = tick_full v.mode d.own
  row_full (Order order) = order_full order

  pub leader_full : (i : Input) → (let o = leader_row c me d v i in
      FullIn (sent ++ o.sends) (round_after d o.kept) (o.volatile).cw (o.volatile).next (o.volatile).proposed (o.volatile).mode)
  leader_full i = (row_full i).0

  -- the word is true
  pub bypassing : (i : Input) → (leader_row c me d v i).why ≡ why.Bypassed → IsBypassing c me sent d v (leader_row c me d v i)
  bypassing i = (row_full i).1
