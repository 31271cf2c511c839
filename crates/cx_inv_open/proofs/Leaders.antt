-- A leader's rows keep the facts, by what is known of a leader that runs.
use Rattle.cx_inv_run.proofs.Common.{◌≡◌, ℕ, suc, ◌-◌, ◌<◌, ◌≤◌, Bool, true, nat_le, filter, List, [], ◌∷◌, length, slice_get, None, Some}
use Rattle.cx_inv_run.proofs.Common.{refl, ap, sym, subst, inl, arith, leb-true, Cluster, Placed, RoleId, below, role, Entry, Letter}
use Rattle.cx_inv_run.proofs.Common.{letter, Input, KeptRecord, Msg, Mode, Idle, Matching, Phase1, Leading, LeaderDurable, LeaderVolatile}
use Rattle.cx_inv_run.proofs.Common.{leader_rules, is_idle, is_matching, is_leading, is_changed, leader_row, Member, Lands, State, Given}
use Rattle.cx_inv_run.proofs.Common.{LeaderIn, durable_of, log_in}
use Rattle.cx_base.specs.declared.role.Kind.TheVariants as kind
use Rattle.cx_letter.specs.declared.input.Input.TheVariants as input
use Rattle.cx_letter.specs.declared.message.Msg.TheVariants as msg
use Rattle.cx_inv_run.proofs.Members.{filter-passes}
use Rattle.cx_inv_match.specs.Facts.{Facts, InMode, InState, IsLastRound}
use Rattle.cx_inv_vote.proofs.Agree.{chosen_proposed}
use Rattle.cx_inv_held.specs.Held.{IsStored, LowFacts, LowState, slots_held}
use Rattle.cx_inv_held.proofs.Leaders.{leader_low}
use Rattle.cx_inv_open.specs.Fits.{InRange, Fitting}
use Rattle.cx_inv_open.proofs.Keep.{new_fits, lands, proposed_slot}
use Rattle.cx_inv_open.proofs.LeaderRows.{row_good}
use Rattle.cx_inv_open.proofs.Plans.{Reports}

-- a leader that leads is not idle
not_idle : (m : Mode) → is_leading m ≡ true → is_idle m ≡ true → ⊥
not_idle Idle t s = cc
not_idle Matching t s = cc
not_idle Phase1 t s = cc
not_idle Leading t s = cc

matching_is : (m : Mode) → is_matching m ≡ true → m ≡ Matching
matching_is Idle t = cc
matching_is Matching t = refl
matching_is Phase1 t = cc
matching_is Leading t = cc

-- a list whose places are all below a number is no longer
no_longer : {X : Type 0} (most : ℕ) (xs : List X) → ((i : ℕ) (x : X) → slice_get xs i ≡ Some x → i < most) → length xs ≤ most
no_longer most [] h = omega arith
no_longer most (x ∷ xs) h =
    let first = h 0 x refl in
    let rest = no_longer (most - 1) xs (λ i y e. let l = h (suc i) y e in omega arith) in
    omega arith

one_of : (xs : List ℕ) → 1 ≤ length xs → (n : ℕ) × Member n xs
one_of [] l = absurd (omega arith)
one_of (x ∷ xs) l = (x, inl refl)

module _ (c : Cluster) (history : List KeptRecord) (sent : List Letter) (states : RoleId → State)
    (facts : Facts c history sent states) (lows : LowFacts c history sent states) (fitting : Fitting c history sent states) where
  -- each watermark is below the end of slots, since replicas hold as many
  held_few : (p : ℕ) → slots_held history p ≤ 1099511627776
  held_few p =
      no_longer 1099511627776 (log_in history p)
      (λ s v e. let chosen = facts.logged p s v e in
      proposed_slot c history sent states fitting chosen.0 s v (chosen_proposed c history sent states facts chosen.0 s v chosen.1))

  stored_few : (n : ℕ) → IsStored c history n → n ≤ 1099511627776
  stored_few n stored =
      let holds : ℕ → Bool = λ p. nat_le n (slots_held history p) in
      let one = one_of (filter holds (below c.replicas)) (omega arith) in
      let held = leb-true n (slots_held history one.0) (filter-passes holds one.0 (below c.replicas) one.1) in
      let few = held_few one.0 in
      omega arith

  reports : (from to : RoleId) (m : Msg) → Member (letter from to m) sent → Reports m
  reports from to (msg.Phase1B i cw votes) x = λ u m. (
    fitting.says _ x u m,
    proposed_slot c history sent states fitting u.round u.slot u.value
        (facts.voted from u.round u.slot u.value ((facts.says _ x).only u m).0),
  )
  reports from to other x = tt

  module _ (l : ℕ) (v : LeaderVolatile) (place : l < c.leaders) (is : states (role kind.Leader l) ≡ LeaderIn v) where
    abbrev me : RoleId
    me = role kind.Leader l

    abbrev d : LeaderDurable
    d = durable_of leader_rules me history

    state : InState c history sent me (LeaderIn v)
    state = subst (λ (s : State). InState c history sent me s) is (facts.running me)

    mine : (own : Entry) → d.own ≡ Some own → own.round.id ≡ l
    mine own e =
        sym (ap (λ (r : RoleId). r.index) (facts.owner me own.round own.grid (subst (λ o. IsLastRound history me o) e (facts.last me)).0))

    has_round : is_leading v.mode ≡ true → d.own ≡ None → ⊥
    has_round leads e = not_idle v.mode leads (subst (λ o. InMode c history sent o v v.mode) e state.1)

    proposed : (own : Entry) → d.own ≡ Some own → v.mode ≡ Leading → (p : Placed) → Member p v.proposed → p.slot < v.next
    proposed own e leads p m =
        ((subst (λ o. InMode c history sent o v Leading) e (subst (λ mode. InMode c history sent d.own v mode) leads state.1)).window p m).1

    -- while it goes on with another grid, what it proposed in the round before
    ready : is_matching v.mode ≡ true → (own : Entry) → d.own ≡ Some own → is_changed own.round ≡ true → (p : Placed) → Member p v.proposed
        → p.slot < v.next
    ready matches own e changed p m =
        (((subst (λ o. InMode c history sent o v Matching) e
        (subst (λ mode. InMode c history sent d.own v mode) (matching_is v.mode matches) state.1)).2 changed).window p m).1

    given : (i : Input) → Given sent me i → (x : Letter) → i ≡ input.Take x → Reports x.msg
    given (input.Take y) g x e = let same : y ≡ x = cc in subst (λ (z : Letter). Reports z.msg) same (reports y.from y.to y.msg g.1)
    given input.Tick g x e = cc
    given (input.Order order) g x e = cc

    pub leader_lands : (i : Input) → Given sent me i → Lands (Fitting c) history sent states me LeaderIn (leader_row c me d v i)
    leader_lands i g =
        let next = subst (λ (s : State). InRange c s) is (fitting.running me) in
        let low = leader_low c history me d v (subst (λ (s : State). LowState c history s) is (lows.running me)) sent lows.says i g in
        let fine = row_good c me d place v next (λ p m. reports _ _ _ (state.0.promises p m)) ready mine has_round proposed i (given i g)
        (stored_few _ low.state.cw) in
        lands c history sent states fitting me LeaderIn _ (new_fits leader_rules c history me (λ r x. x) _ fine.keeps) fine.next fine.sends
