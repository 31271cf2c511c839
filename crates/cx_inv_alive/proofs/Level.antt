-- The stages together.
use Rattle.cx_inv_run.proofs.Common.{◌≡◌, ◌<◌, ℕ, suc, true, false, List, [], ◌∷◌, map, Option, Some, None, ap, sym, ◌∙◌, subst, refl, inl}
use Rattle.cx_inv_run.proofs.Common.{inr, arith, and_parts, nat_tests, list_all, ◌+◌, ◌*◌, ◌==◌, Bool, filter, max, nat_le, nat_lt, not}
use Rattle.cx_inv_run.proofs.Common.{length, take, Cluster, Command, Value, RoleId, Round, IsGrid, Shape, is_in, below, floor_of, is_done}
use Rattle.cx_inv_run.proofs.Common.{role, Entry, Vote, Letter, AcceptorDurable, acceptor_rules, batcher_rules, MatchAnswer, Leading}
use Rattle.cx_inv_run.proofs.Common.{Promised, LeaderDurable, LeaderVolatile, held_by, lead_with, leader_rules, leads_to, match_a_to}
use Rattle.cx_inv_run.proofs.Common.{matched_by, phase1a_to, propose_to, round_of, enough, first_set, is_member_of, live_entries}
use Rattle.cx_inv_run.proofs.Common.{members_of, MatchmakerDurable, entry, is_stopped, matchmaker_rules, set_of, Member, names_entry}
use Rattle.cx_inv_run.proofs.Common.{names_grid, names_round, names_value, names_vote, Outcome, placed_from, plan, votes_told}
use Rattle.cx_inv_run.proofs.Common.{ProxyVolatile, ReplicaDurable, ReplicaVolatile, execute_value, held, machine_from, replica_after}
use Rattle.cx_inv_run.proofs.Common.{replica_rules, World, Member-first, Member-filter, Member-is_in, Member-all, all-Member, below-Member}
use Rattle.cx_inv_run.proofs.Common.{Member-below, map-Member, length-below, BatcherIn, LeaderIn, Plain, ProxyIn, ReplicaIn, durable_of}
use Rattle.cx_base.specs.declared.role.Kind.TheVariants as kind
use Rattle.cx_letter.specs.declared.kept.Record.TheVariants as kept
use Rattle.cx_model.specs.Leader.{idle_leader}
use Rattle.cx_model.specs.Matchmaker.{has_set}
use Rattle.cx_inv_alive.proofs.Answered.{answered}
use Rattle.cx_inv_alive.proofs.Chain.{asking, round_asked, take_Member, take_length, apart_take, live_entry, greatest_is, votes_all}
use Rattle.cx_inv_alive.proofs.Floors.{free_from}
use Rattle.cx_inv_alive.proofs.Hears.{held_least, heard_all}
use Rattle.cx_inv_alive.proofs.Matched.{not_above, matched}
use Rattle.cx_inv_alive.proofs.Moments.{Moment, Goes, Left}
use Rattle.cx_inv_alive.proofs.Phase.{apart_below, less, less_test, phase_all}
use Rattle.cx_inv_alive.proofs.Plans.{values_for, plan_of, end_is, plan_is, end_below, votes_such}
use Rattle.cx_inv_alive.proofs.Serve.{not_before_itself, held_after, all_served, not_less}
use Rattle.cx_model.specs.Matchmaker.{has_place}
use Rattle.cx_inv_alive.proofs.Stages.{HasCounts, is_of, is_role, Apart, lead_round, begun_over, matching, goes_on_with, phasing}
use Rattle.cx_inv_alive.proofs.Stages.{settled_at, IsHearing, Grown, CanMatch, match_answer_of, reported_by, MayHavePromised, MayVote}
use Rattle.cx_inv_alive.proofs.Stages.{single_grid, proposed_over, with_values}
use Rattle.cx_inv_alive.specs.Alive.{submitted, IsAnswered, acceptor_store, matchmaker_store, takes_a_round, tell_less, IsRoomy}
use Rattle.cx_inv_alive.specs.Alive.{leader_store}

-- What the stores of acceptors and matchmakers are in every run: names lie in the cluster.
pub record AreNamed (w : World) : Type 0 where
  pub votes : (a : ℕ) → nat_lt a w.cluster.acceptors ≡ true
      → list_all (λ (v : Vote). names_vote w.cluster v) (acceptor_store w a).votes ≡ true
  pub watermarks : (m : ℕ) → Member m (first_set w.cluster) → names_round w.cluster (matchmaker_store w m).watermark ≡ true
  pub entries : (m : ℕ) → Member m (first_set w.cluster)
      → list_all (λ (e : Entry). names_entry w.cluster e) (matchmaker_store w m).entries ≡ true

pub not_true : (b : Bool) → not b ≡ true → b ≡ false
not_true true h = cc
not_true false h = refl

not_end : (n : ℕ) → nat_lt n 1099511627776 ≡ true → (n == 1099511627776) ≡ false
not_end n h = grind (arith, nat_tests, h)

low_enough : (cw h : ℕ) → nat_le cw h ≡ true → nat_lt h cw ≡ false
low_enough cw h le = grind (arith, nat_tests, le)

le_plus : (h n : ℕ) → nat_le h (h + n) ≡ true
le_plus h n = grind (arith, nat_tests)

pub le_then : (a b d : ℕ) → nat_le a b ≡ true → nat_le b d ≡ true → nat_le a d ≡ true
le_then a b d h k = grind (arith, nat_tests, h, k)

exact : (a h : ℕ) → nat_le h a ≡ true → nat_le a (max 0 h) ≡ true → a ≡ h
exact a h l k = grind (arith, nat_tests, l, k)

exact_end : (a h e : ℕ) → nat_le h e ≡ true → nat_le e a ≡ true → nat_le a (max h e) ≡ true → a ≡ e
exact_end a h e o l k = grind (arith, nat_tests, o, l, k)

max_same : (e : ℕ) → max e e ≡ e
max_same e = omega arith

below_pool : (m n p : ℕ) → m < n → nat_le n p ≡ true → nat_lt m p ≡ true
below_pool m n p l h = grind (arith, nat_tests, l, h)

pub positive : (f n : ℕ) → nat_le (f + 1) n ≡ true → nat_lt 0 n ≡ true
positive f n h = grind (arith, nat_tests, h)

booted : (c : Cluster) (m : ℕ) (o : Option (List ℕ)) → nat_lt m (2 * c.f + 1) ≡ true → has_set (set_of c (role kind.Matchmaker m) o) ≡ true
booted c m None h = rw h refl
booted c m (Some s) h = refl

zeros_told : (n : ℕ) (xs : List ℕ) (k : ℕ) → Member k (map (λ r. 0) xs) → nat_le k n ≡ true
zeros_told n [] k m = absurd m
zeros_told n (x ∷ xs) k (inl e) = subst (λ j. nat_le j n ≡ true) (sym e) (least n)
  where
    least : (n : ℕ) → nat_le 0 n ≡ true
    least n = grind (arith, nat_tests)
zeros_told n (x ∷ xs) k (inr m) = zeros_told n xs k m

zeros_length : (xs : List ℕ) → length {A = ℕ} (map (λ r. 0) xs) ≡ length xs
zeros_length [] = refl
zeros_length (x ∷ xs) = ap (λ n. suc n) (zeros_length xs)

zeros_noted : (n : ℕ) (xs : List ℕ) → nat_le (held_by n (map (λ r. 0) xs)) 0 ≡ true
zeros_noted n xs = held_least n 0 (map (λ r. 0) xs) (zeros_told 0 xs)

first_count : (n e : ℕ) → suc n ≡ e → 0 + suc n ≡ e
first_count n e h = omega (arith, h)

at_ready : (v : LeaderVolatile) (e : ℕ) → v.mode ≡ Leading → v.cw ≡ e → v.next ≡ e → v ≡ settled_at v e
at_ready v e mode cw next = ap (λ x. record v { mode = x }) mode ∙ ap (λ x. record v { mode = Leading; cw = x }) cw
    ∙ ap (λ x. record v { mode = Leading; cw = e; next = x }) next

-- what a replica's machine is after values more
machine_with : (vs : List Value) (d : ReplicaDurable) (slot : ℕ) → held d ≡ slot
    → (with_values d vs).machine ≡ machine_from slot d.machine vs
machine_with [] d slot is = refl
machine_with (v ∷ vs) d slot is =
    machine_with vs (replica_after d (kept.Log (v ∷ []))) (slot + 1) (held_after d v slot is)
    ∙ ap (λ n. machine_from (slot + 1) (execute_value n d.machine v).machine vs) is

-- the conditions are those of a world; replicas have fetched since then, and hold as much
module _ (w : World) (h b : ℕ) (command : Command) (counts : HasCounts w.cluster) (named : AreNamed w)
    (within : (a : ℕ) → nat_lt a w.cluster.acceptors ≡ true → nat_le (acceptor_store w a).cw h ≡ true)
    (known : nat_lt command.client w.cluster.clients ≡ true) (batched : nat_lt b w.cluster.batchers ≡ true)
    (room : IsRoomy w.cluster w command)
    (stored : ℕ → ReplicaDurable) (holds : (p : ℕ) → Member p (below w.cluster.replicas) → held (stored p) ≡ h)
    (few : nat_lt h 1099511627776 ≡ true)
    (free : (p : ℕ) → Member p (below w.cluster.replicas)
    → is_done command.seq (floor_of command.client (stored p).machine.table.floors) ≡ false) where
  abbrev c : Cluster
  c = w.cluster

  abbrev goal : World → Type 0
  goal = IsAnswered command

  abbrev r : ℕ
  r = room.round

  abbrev me : RoleId
  me = role kind.Leader 0

  abbrev i : Round
  i = lead_round 0 r

  abbrev g : Shape
  g = single_grid 0

  abbrev all : List ℕ
  all = below c.replicas

  named_grid : names_grid c g ≡ true
  named_grid = rw counts.acceptors refl

  replicated : nat_lt 0 c.replicas ≡ true
  replicated = positive c.f c.replicas counts.replicas

  -- WHAT STAYS UNTIL IT LEADS

  pub record Base (x : Moment) : Type 0 where
    pub steady : (p : ℕ) → Member p all → (v : ReplicaVolatile) × (x.states (role kind.Replica p) ≡ ReplicaIn (record v { early = [] }))
    pub store : (p : ℕ) → Member p all → durable_of replica_rules (role kind.Replica p) x.kept ≡ stored p
    pub proxies : (q : ℕ) → nat_lt q c.proxies ≡ true → (v : ProxyVolatile) × (x.states (role kind.Proxy q) ≡ ProxyIn v)
    pub acceptors : (a : ℕ) → nat_lt a c.acceptors ≡ true → x.states (role kind.Acceptor a) ≡ Plain
    pub matchmakers : (m : ℕ) → nat_lt m c.pool ≡ true → x.states (role kind.Matchmaker m) ≡ Plain
    pub unbatchers : (u : ℕ) → nat_lt u c.unbatchers ≡ true → x.states (role kind.Unbatcher u) ≡ Plain
    pub batcher : x.states (role kind.Batcher b) ≡ BatcherIn (batcher_rules.fresh c tt)
    pub handed : Member (submitted command b) x.sent

  -- all roles were just opened, and of the stores only replicas' have changed
  pub record Start (x : Moment) : Type 0 where
    pub base : Base x
    pub votes : (a : ℕ) → durable_of acceptor_rules (role kind.Acceptor a) x.kept ≡ acceptor_store w a
    pub rounds : (m : ℕ) → durable_of matchmaker_rules (role kind.Matchmaker m) x.kept ≡ matchmaker_store w m
    pub own : durable_of leader_rules me x.kept ≡ leader_store w 0
    pub idle : x.states me ≡ LeaderIn (idle_leader c)

  base_then : (keeps : RoleId → Bool) (x y : Moment) → ((p : ℕ) → keeps (role kind.Replica p) ≡ false) → Left keeps (is_role me) x y
      → Base x → Base y
  base_then keeps x y none left base =
      record {
        steady = λ p m. let s = base.steady p m in (s.0, left.states (role kind.Replica p) refl ∙ s.1);
        store = λ p m. left.replicas p (none p) ∙ base.store p m;
        proxies = λ q l. let s = base.proxies q l in (s.0, left.states (role kind.Proxy q) refl ∙ s.1);
        acceptors = λ a l. left.states (role kind.Acceptor a) refl ∙ base.acceptors a l;
        matchmakers = λ a l. left.states (role kind.Matchmaker a) refl ∙ base.matchmakers a l;
        unbatchers = λ a l. left.states (role kind.Unbatcher a) refl ∙ base.unbatchers a l;
        batcher = left.states (role kind.Batcher b) refl ∙ base.batcher;
        handed = left.sent (submitted command b) base.handed;
      }

  holds_h : (x : Moment) → Base x → (p : ℕ) → Member p all → held (durable_of replica_rules (role kind.Replica p) x.kept) ≡ h
  holds_h x base p m = ap (λ d. held d) (base.store p m) ∙ holds p m

  -- THE VALUES

  abbrev Told : List Promised → Type 0
  Told ps =
      (p : Promised) → Member p ps → (p ≡ reported_by (acceptor_store w p.acceptor) p.acceptor) × (nat_lt p.acceptor c.acceptors ≡ true)

  told_votes : (P : Vote → Bool) (ps : List Promised) → Told ps
      → ((a : ℕ) → nat_lt a c.acceptors ≡ true → list_all P (acceptor_store w a).votes ≡ true) → list_all P (votes_told ps) ≡ true
  told_votes P ps told every = votes_all P ps (λ p m. let t = told p m in subst (λ (vs : List Vote). list_all P vs ≡ true)
      (sym (ap (λ (q : Promised). q.votes) t.0)) (every p.acceptor t.1))

  abbrev values : List Promised → List Value
  values ps = values_for h (votes_told ps)

  values_are_named : (ps : List Promised) → Told ps → list_all (λ v. names_value c v) (values ps) ≡ true
  values_are_named ps told =
      votes_such (λ v. names_value c v) refl (votes_told ps)
      (told_votes (λ (v : Vote). names_value c v.value) ps told
      (λ a l.
      Member-all (λ (v : Vote). names_value c v.value) (acceptor_store w a).votes (λ v m. (and_parts (names_round c v.round)
      (names_value c v.value) (all-Member (λ (v : Vote). names_vote c v) (acceptor_store w a).votes (named.votes a l) v m)).1))) h

  in_acceptors : (P : ℕ → Bool) → list_all P (below c.acceptors) ≡ true → (a : ℕ) → nat_lt a c.acceptors ≡ true → P a ≡ true
  in_acceptors P every a l = all-Member P (below c.acceptors) every a (Member-below a c.acceptors (less a c.acceptors l))

  values_end : (ps : List Promised) → Told ps → (h + length (values ps) == 1099511627776) ≡ false
  values_end ps told =
      not_end (h + length (values ps))
      (subst (λ n. nat_lt n 1099511627776 ≡ true) (end_is h (votes_told ps))
      (end_below 1099511627776 h (votes_told ps) few
      (told_votes (λ (v : Vote). nat_lt (v.slot + 1) 1099511627776) ps told
      (in_acceptors (λ a. list_all (λ (v : Vote). nat_lt (v.slot + 1) 1099511627776) (acceptor_store w a).votes) room.slots.votes))))

  undone : (ps : List Promised) → Told ps → (p : ℕ) → Member p all
      → is_done command.seq (floor_of command.client (machine_from h (stored p).machine (values ps)).table.floors) ≡ false
  undone ps told p m =
      free_from command.client command.seq h (stored p).machine (values ps)
      (free p m)
      (votes_such (tell_less command.client command.seq) refl (votes_told ps)
      (told_votes (λ (v : Vote). tell_less command.client command.seq v.value) ps told (in_acceptors (λ a.
      list_all (λ (v : Vote). tell_less command.client command.seq v.value) (acceptor_store w a).votes) room.waits.votes)) h)

  -- ONCE IT LEADS

  abbrev led_by : LeaderVolatile → List Promised → Outcome LeaderVolatile
  led_by v ps = lead_with c me (entry i g) v (plan_of h (values ps))

  served_on : (ps : List Promised) (v : LeaderVolatile) (x : Moment) → v.cw ≡ h → IsHearing c h v → Base x → Told ps
      → MayVote 0 r h (durable_of acceptor_rules (role kind.Acceptor 0) x.kept) → durable_of leader_rules me x.kept ≡ begun_over 0 r g
      → x.states me ≡ LeaderIn (led_by v ps).volatile → ((d : Letter) → Member d (led_by v ps).sends → Member d x.sent) → Goes goal c x
  served_on ps v x cw hearing base told may own runs sends =
      let vs = values ps in
      let e = h + length vs in
      let u = (led_by v ps).volatile in
      all_served goal c 0 r 0 h counts.leaders counts.acceptors vs h x (not_less h) (values_are_named ps told)
      (record {
        plain = base.acceptors 0 counts.acceptors;
        voter = may;
        holds = λ p m. let s = base.steady p m in record { volatile = s.0; runs = s.1; count = holds_h x base p m };
        proxies = base.proxies;
      }) (λ p m. sends (proposed_over c 0 r 0 h p) (Member-first _ (map (propose_to c me (entry i g) h) (placed_from h vs))
      (map (leads_to me i) (below c.batchers)) (map-Member (propose_to c me (entry i g) h) p (placed_from h vs) m))) (λ y s.
      heard_all goal c 0 e counts.leaders y u counts.replicas (s.left.states me refl ∙ runs)
      (record {
        count = hearing.count;
        noted = subst (λ n. nat_le (held_by (enough c) v.held) n ≡ true) cw hearing.noted;
        told = λ k m. le_then k h e (hearing.told k m) (le_plus h (length vs));
        ahead = le_plus h (length vs);
      })
      (λ p m.
      let q = s.holds p m in
      record {
        volatile = record q.volatile { early = [] };
        runs = q.runs;
        count = q.count;
        there = less_test p c.replicas (below-Member p c.replicas m);
      }) (λ z t left is grown reached.
      let at_end : t.cw ≡ e = exact_end t.cw h e (le_plus h (length vs)) reached grown.top in
      let same : t ≡ settled_at t e = at_ready t e grown.mode at_end (grown.next ∙ ap (λ n. max e n) at_end ∙ max_same e) in
      answered c 0 r 0 e b command counts.leaders counts.acceptors replicated counts.unbatchers batched (values_end ps told)
      known z t (batcher_rules.fresh c tt) (left.sent (submitted command b) (s.left.sent (submitted command b) base.handed))
      (left.leaders 0 refl ∙ s.left.leaders 0 refl ∙ own)
      (is ∙ ap (λ (q : LeaderVolatile). LeaderIn q) same)
      (left.states (role kind.Batcher b) refl ∙ s.left.states (role kind.Batcher b) refl ∙ base.batcher)
      refl
      (record {
        plain = left.states (role kind.Acceptor 0) refl ∙ s.left.states (role kind.Acceptor 0) refl ∙ base.acceptors 0 counts.acceptors;
        voter = subst (λ d. MayVote 0 r e d) (sym (left.acceptors 0 refl)) s.voter;
        holds = λ p m.
            let q = s.holds p m in
            record {
              volatile = q.volatile;
              runs = left.states (role kind.Replica p) refl ∙ q.runs;
              count = ap (λ (d : ReplicaDurable). held d) (left.replicas p refl) ∙ q.count;
            };
        proxies = λ q l. let k = s.proxies q l in (k.0, left.states (role kind.Proxy q) refl ∙ k.1);
      })
      (λ n l. left.states (role kind.Unbatcher n) refl ∙ s.left.states (role kind.Unbatcher n) refl ∙ base.unbatchers n l)
      (λ p m.
      subst (λ (d : ReplicaDurable). is_done command.seq (floor_of command.client d.machine.table.floors) ≡ false)
      (sym (left.replicas p refl ∙ s.stores p m ∙ ap (λ d. with_values d vs) (base.store p m))) (subst (λ k. is_done command.seq
      (floor_of command.client k.table.floors) ≡ false) (sym (machine_with vs (stored p) h (holds p m))) (undone ps told p m)))))

  -- ITS MATCHMAKERS

  abbrev works : ℕ → Bool
  works m = takes_a_round c (matchmaker_store w m)

  can_match : (m : ℕ) → Member m (filter works (first_set c)) → CanMatch c m r g (matchmaker_store w m)
  can_match m there =
      let f = Member-filter works m (first_set c) there in
      let d = matchmaker_store w m in
      let parts = and_parts (not (is_stopped d)) (has_place c g d.entries) f.1 in
      record {
        member = booted c m d.booted (less_test m (2 * c.f + 1) (below-Member m (2 * c.f + 1) f.0));
        works = not_true (is_stopped d) parts.0;
        room = parts.1;
        watermark = all-Member (λ m. nat_lt (matchmaker_store w m).watermark.r r) (first_set c) room.rounds.watermarks m f.0;
        lower = all-Member (λ m. list_all (λ (e : Entry). nat_lt e.round.r r) (matchmaker_store w m).entries) (first_set c)
            room.rounds.entries m f.0;
        named_watermark = named.watermarks m f.0;
        named_entries = named.entries m f.0;
      }

  -- from a leader that has heard what is held
  abbrev picked : List ℕ
  picked = take (enough c) (filter works (first_set c))

  abbrev rounds_at : ℕ → MatchmakerDurable
  rounds_at m = matchmaker_store w m

  abbrev votes_at : ℕ → AcceptorDurable
  votes_at a = acceptor_store w a

  plan_now : (v : LeaderVolatile) (ps : List Promised) → v.cw ≡ h → Told ps → plan v.cw ps ≡ plan_of h (values ps)
  plan_now v ps cw told =
      ap (λ n. plan n ps) cw ∙ plan_is h ps (greatest_is h ps
      (λ p m. let t = told p m in subst (λ n. nat_le n h ≡ true) (sym (ap (λ (q : Promised). q.cw) t.0)) (within p.acceptor t.1)))

  promised_low : (a : ℕ) → nat_lt a c.acceptors ≡ true → nat_lt (votes_at a).promise.r r ≡ true
  promised_low = in_acceptors (λ a. nat_lt (acceptor_store w a).promise.r r) room.rounds.acceptors

  may_vote : (d : AcceptorDurable) → MayHavePromised 0 r (votes_at 0) d → MayVote 0 r h d
  may_vote d (inl e) =
      subst (λ x. MayVote 0 r h x) (sym e) (record {
        promised = not_above 0 r (votes_at 0).promise (promised_low 0 counts.acceptors);
        within = low_enough (votes_at 0).cw h (within 0 counts.acceptors);
      })
  may_vote d (inr e) = subst (λ x. MayVote 0 r h x) (sym e)
      (record { promised = not_before_itself 0 r; within = low_enough (votes_at 0).cw h (within 0 counts.acceptors) })

  module _ (v : LeaderVolatile) (cw : v.cw ≡ h) (hearing : IsHearing c h v) (set : v.set ≡ first_set c) where
    hears_still : (t : LeaderVolatile) → t.held ≡ v.held → t.cw ≡ v.cw → t.next ≡ v.next → IsHearing c h t
    hears_still t e f k =
        record {
          count = ap (λ (l : List ℕ). length l) e ∙ hearing.count;
          noted = subst (λ n. nat_le (held_by (enough c) t.held) n ≡ true) (sym f)
              (subst (λ l. nat_le (held_by (enough c) l) v.cw ≡ true) (sym e) hearing.noted);
          told = λ n m. hearing.told n (subst (λ l. Member n l) e m);
          ahead = subst (λ n. nat_le n t.next ≡ true) (sym f) (subst (λ n. nat_le v.cw n ≡ true) (sym k) hearing.ahead);
        }

    abbrev tells : ℕ → MatchAnswer
    tells m = match_answer_of i (rounds_at m) m

    -- enough have answered
    went_on : (ms : List ℕ) → ((m : ℕ) → Member m ms → Member m (first_set c)) → (x : Moment) → Base x
        → ((a : ℕ) → durable_of acceptor_rules (role kind.Acceptor a) x.kept ≡ votes_at a) → durable_of leader_rules me x.kept
        ≡ begun_over 0 r g → x.states me ≡ LeaderIn (goes_on_with c 0 r g (asking v) (map tells ms)).volatile
        → ((d : Letter) → Member d (goes_on_with c 0 r g (asking v) (map tells ms)).sends → Member d x.sent) → Goes goal c x
    went_on ms firsts x base votes own runs sends = go (live_entries (map tells ms)) refl
      where
        go : (es : List Entry) → live_entries (map tells ms) ≡ es → Goes goal c x
        go [] e =
            let told = map tells ms in
            let before = matching (asking v) told in
            let same : goes_on_with c 0 r g (asking v) told ≡ led_by before [] = ap (λ l. matched_by c me (entry i g) before l) e
            ∙ ap (λ p. lead_with c me (entry i g) before p) (plan_now before [] cw (λ p m. absurd m)) in
            served_on [] before x cw (hears_still before refl refl refl) base (λ p m. absurd m) (may_vote _ (inl (votes 0))) own
            (runs ∙ ap (λ (o : Outcome LeaderVolatile). LeaderIn o.volatile) same)
            (λ d m. sends d (subst (λ (o : Outcome LeaderVolatile). Member d o.sends) (sym same) m))
        go (some ∷ es) e =
            let told = map tells ms in
            let before = matching (asking v) told in
            let same = ap (λ l. matched_by c me (entry i g) before l) e in
            let is_live : (k : Entry) → Member k (live_entries told) → IsGrid k.grid × (names_grid c k.grid ≡ true) =
            λ k m.
            let q = live_entry i rounds_at ms k m in
            let first = firsts q.0 q.1 in (
              room.grids q.0 k first q.2,
              (and_parts (names_round c k.round) (names_grid c k.grid)
                  (all-Member (λ (e : Entry). names_entry c e) (rounds_at q.0).entries (named.entries q.0 first) k q.2)).1,
            ) in
            phase_all goal c 0 r g (asking v) told votes_at counts.leaders is_live x some (subst (λ l. Member some l) (sym e) (inl refl))
            (runs ∙ ap (λ (o : Outcome LeaderVolatile). LeaderIn o.volatile) same) own
            (λ k m.
            let f = Member-filter (λ a. is_member_of (live_entries told) a) k (below c.acceptors) m in
            let there = less_test k c.acceptors (below-Member k c.acceptors f.0) in
            record {
              runs = base.acceptors k there;
              store = votes k;
              asked =
                  sends (phase1a_to me i k)
                  (subst (λ (o : Outcome LeaderVolatile). Member (phase1a_to me i k) o.sends) (sym same)
                  (map-Member (phase1a_to me i) k (members_of c (some ∷ es)) (subst (λ l. Member k (members_of c l)) e m)));
              there = there;
              member = f.1;
              new = refl;
              promised = promised_low k there;
              named = named.votes k there;
            })
            (λ ps y left stores fin.
            let known2 : Told ps =
            λ p m.
            let t = fin.known p m in
            let f = Member-filter (λ a. is_member_of (live_entries told) a) p.acceptor (below c.acceptors) t.1 in
            (t.0, less_test p.acceptor c.acceptors (below-Member p.acceptor c.acceptors f.0)) in
            let after = phasing (asking v) told ps in
            let leads = ap (λ p. lead_with c me (entry i g) after p) (plan_now after ps cw known2) in
            served_on ps after y cw (hears_still after refl refl refl) (base_then (is_of kind.Acceptor) x y (λ p. refl) left base) known2
            (may_vote _ (subst (λ d. MayHavePromised 0 r d (durable_of acceptor_rules (role kind.Acceptor 0) y.kept)) (votes 0) (stores 0)))
            (left.leaders 0 refl ∙ own)
            (fin.runs ∙ ap (λ (o : Outcome LeaderVolatile). LeaderIn o.volatile) leads)
            (λ d m. fin.sends d (subst (λ (o : Outcome LeaderVolatile). Member d o.sends) (sym leads) m)))

    -- it has asked
    asked_on : (x : Moment) → Base x → ((a : ℕ) → durable_of acceptor_rules (role kind.Acceptor a) x.kept ≡ votes_at a)
        → ((m : ℕ) → durable_of matchmaker_rules (role kind.Matchmaker m) x.kept ≡ rounds_at m)
        → durable_of leader_rules me x.kept ≡ begun_over 0 r g
        → x.states me ≡ LeaderIn (asking v) → ((m : ℕ) → Member m v.set → Member (match_a_to me i g m) x.sent) → Goes goal c x
    asked_on x base votes rounds own runs asked = go picked refl
      where
        go : (l : List ℕ) → picked ≡ l → Goes goal c x
        go [] e =
            absurd (none c.f (ap (λ (l : List ℕ). length l) (sym e) ∙ take_length (enough c) (filter works (first_set c)) room.matchmakers))
          where
            none : (f : ℕ) → 0 ≡ f + 1 → ⊥
            none f e = omega (arith, e)
        go (m ∷ ms) e =
            let passes : (k : ℕ) → Member k (m ∷ ms) → Member k (filter works (first_set c)) =
            λ k there. take_Member (enough c) (filter works (first_set c)) k (subst (λ l. Member k l) (sym e) there) in
            let first : (k : ℕ) → Member k (m ∷ ms) → Member k (first_set c) =
            λ k there. (Member-filter works k (first_set c) (passes k there)).0 in
            matched goal c 0 r g (asking v) rounds_at counts.leaders named_grid ms m [] x (first_count (length ms) (enough c)
            (ap (λ (l : List ℕ). length l) (sym e) ∙ take_length (enough c) (filter works (first_set c)) room.matchmakers))
            (subst (λ l. Apart l) e (apart_take (enough c) (filter works (first_set c)) (apart_below works (2 * c.f + 1)))) runs own
            (λ k there.
            let pool = below_pool k (2 * c.f + 1) c.pool (below-Member k (2 * c.f + 1) (first k there)) counts.pool in
            record {
              runs = base.matchmakers k pool;
              store = rounds k;
              asked = asked k (subst (λ l. Member k l) (sym set) (first k there));
              there = pool;
              knows = subst (λ l. is_in k l ≡ true) (sym set) (Member-is_in k (first_set c) (first k there));
              new = refl;
              can = can_match k (passes k there);
            })
            (λ y left fin. went_on (m ∷ ms) first y (base_then (is_of kind.Matchmaker) x y (λ p. refl) left base)
            (λ a. left.acceptors a refl ∙ votes a) (left.leaders 0 refl ∙ own) fin.runs fin.sends)

  begun_on : (x y : Moment) (v : LeaderVolatile) → Start x → Left (λ a. false) (is_role me) x y → y.states me ≡ LeaderIn v
      → Grown c h (idle_leader c) v → nat_le h v.cw ≡ true → Goes goal c y
  begun_on x y v start left runs grown reached =
      round_asked goal c 0 r g named_grid refl room.rounds.reachable y v runs
      (subst (λ (d : LeaderDurable). nat_lt (round_of d.own).r r ≡ true) (sym (left.leaders 0 refl ∙ start.own))
      (all-Member (λ l. nat_lt (round_of (leader_store w l).own).r r) (below c.leaders) room.rounds.leaders 0
      (Member-below 0 c.leaders (less 0 c.leaders counts.leaders))))
      (subst (λ (n : Round). nat_lt n.r r ≡ true) (sym grown.seen) (above_none (votes_at 0).promise.r r (promised_low 0 counts.acceptors)))
      (λ z left2 runs2 own2 asked2.
      asked_on v (exact v.cw h reached grown.top) grown.hearing grown.set z
      (base_then (is_role me) y z (λ p. refl) left2 (base_then (λ a. false) x y (λ p. refl) left start.base))
      (λ a. left2.acceptors a refl ∙ left.acceptors a refl ∙ start.votes a)
      (λ m. left2.matchmakers m refl ∙ left.matchmakers m refl ∙ start.rounds m)
      own2 runs2 asked2)
    where
      above_none : (a n : ℕ) → nat_lt a n ≡ true → nat_lt 0 n ≡ true
      above_none a n l = grind (arith, nat_tests, l)

  pub answered_from_level : (x : Moment) → Start x → Goes goal c x
  answered_from_level x start =
      heard_all goal c 0 h counts.leaders x (idle_leader c) counts.replicas start.idle (record {
        count = zeros_length (below c.replicas) ∙ length-below c.replicas;
        noted = zeros_noted (enough c) (below c.replicas);
        told = zeros_told h (below c.replicas);
        ahead = refl;
      })
      (λ p m. let s = start.base.steady p m in record {
        volatile = record s.0 { early = [] };
        runs = s.1;
        count = holds_h x start.base p m;
        there = less_test p c.replicas (below-Member p c.replicas m);
      }) (λ y v left is grown reached. begun_on x y v start left is grown reached)
