-- Each part of a node's run, tended or not, keeps the node beside the model's run.
use Rattle.cx_role.proofs.Common.{◌≡◌, ◌+◌, ◌%◌, ◌==◌, ◌&&◌, ◌||◌, ℕ, zero, suc, Bool, true, false, not, List, [], ◌∷◌, length, Option}
use Rattle.cx_role.proofs.Common.{None, Some, option_map, ap, sym, ◌∙◌, subst, refl, inl, inr, arith, if◌then◌else◌, bytes_eq, count_by}
use Rattle.cx_role.proofs.Common.{is_some, slice_get, option_map_or, cases_Bool, none-some, same_Some, Cluster, Order, Kind, RoleId, below}
use Rattle.cx_role.proofs.Common.{role, same_role, LeaderDurable, LeaderVolatile, same_role-true, either_way, Running, World, run, Letter}
use Rattle.cx_base.specs.declared.event.Order.TheVariants as order
use Rattle.cx_base.specs.declared.role.Kind.TheVariants as kind
use Rattle.cx_inv_run.proofs.Steps.{run_cluster}
use Rattle.cx_leader.specs.Tending.{can_collect, is_new_leader}
use Rattle.cx_msg.specs.Datagrams.{spelling}
use Rattle.cx_letter.specs.declared.input.Input.TheVariants as input
use Rattle.cx_record.specs.Numbers.{Numbered, last_from, last_sent, numbered, or_else}
use Rattle.cx_course.specs.declared.doing.Doing.{Doing}
use Rattle.cx_course.specs.declared.doing.Doing.TheVariants.{Begin, Give, Snap}
use Rattle.cx_course.specs.declared.standing.Standing.{Standing}
use Rattle.cx_course.specs.Action.{Action, noted_in, sent_in}
use Rattle.cx_course.specs.Course.{Course, Moved, does_at, stays, then_do}
use Rattle.cx_course.specs.Hosted.{Hosted, name_of}
use Rattle.cx_course.specs.Run.{TakeResults, all_do, at_place, brings, brought, comes, first_do, grid_of, idle_at, is_client, lead_at}
use Rattle.cx_course.specs.Run.{ordered, hosted_place, prepared, snaps, ticked, node_turn, turns_from, untended_run}
use Rattle.cx_course.specs.Tending.{Care, Tended, all_completed, asks_again, awaits_votes_at, beat, beat_over, brings_heeded, clients_noted}
use Rattle.cx_course.specs.Tending.{clients_tended, collected, care_after_turn, first_leader, gets, heeded, held_by_role, in_turn, is_beat}
use Rattle.cx_course.specs.Tending.{is_of_kind, is_overtaken, is_so, is_time, kind_ticks, leader_asked, leader_cared, leader_tended}
use Rattle.cx_course.specs.Tending.{next_pass, node_run, others_tick, passes, paused, reported, standing_of, tend_comes, tend_ordered}
use Rattle.cx_course.specs.Tending.{tend_prepared, tended_run, tended_turn, those_tick, ticks_behind, ticks_if, turn_ended, untended}
use Rattle.cx_course.specs.Tending.{within}
use Rattle.cx_course.proofs.Doings.{IsFair, IsOrder}
use Rattle.cx_course.proofs.Following.{Stands}
use Rattle.cx_course.proofs.Grids.{change_is_order, collect_is_order, lead_is_order}
use Rattle.cx_course.proofs.Moments.{Goes, does_go, self, stays_go, then_go, took_go}
use Rattle.cx_course.proofs.Past.{past_of}

-- a part of a run keeps the node beside the model's run
abbrev pub Keeps : Cluster → (Course → Moved Course) → Type 0
Keeps c f = (p : List Action) (s : Course) → Stands c (past_of p) s → Goes self c p (f s)

-- what any role may do at any time
abbrev IsFree : Doing → Type 0
IsFree what = (w : World) (me : RoleId) → IsFair w me what

ticks_free : IsFree (Give 0 input.Tick)
ticks_free w me = tt

-- ---- names and numbers

place_named : (who : RoleId) (hs : List Hosted) (i : ℕ) → hosted_place who hs ≡ Some i → (h : Hosted) → slice_get hs i ≡ Some h
    → who ≡ name_of h
place_named who [] i e h here = absurd (none-some i e)
place_named who (x ∷ hs) i e h here = elim (cases_Bool (same_role who (name_of x))) [
  | inl t ↦ (
      let first : i ≡ 0 = same_Some i 0 (sym e ∙ ap (λ b. if b then Some 0 else option_map (λ j. j + 1) (hosted_place who hs)) t) in
      same_role-true who (name_of x) t ∙ ap name_of (same_Some x h (ap (slice_get (x ∷ hs)) (sym first) ∙ here))
      )
  | inr off ↦ later (λ j is there. place_named who hs j is h there) (hosted_place who hs) refl
      (sym (ap (λ b. if b then Some 0 else option_map (λ j. j + 1) (hosted_place who hs)) off) ∙ e)
]
  where
    later : ((j : ℕ) → hosted_place who hs ≡ Some j → slice_get hs j ≡ Some h → who ≡ name_of h) → (o : Option ℕ) → hosted_place who hs ≡ o
        → option_map (λ j. j + 1) o ≡ Some i → who ≡ name_of h
    later rest None is q = absurd (none-some i q)
    later rest (Some j) is q =
        let next : i ≡ suc j = sym (same_Some (j + 1) i q) ∙ omega arith in
        rest j is (sym (ap (slice_get (x ∷ hs)) next) ∙ here)

last_is : (n : ℕ) (bytes : List ℕ) (ds : List Letter) (x : Numbered) → last_from n bytes ds ≡ Some x
    → (m : ℕ) × (x.number ≡ n + m) × (slice_get ds m ≡ Some x.letter)
last_is n bytes [] x e = absurd (none-some x e)
last_is n bytes (d ∷ ds) x e = later (λ e. last_is (n + 1) bytes ds x e) (last_from (n + 1) bytes ds) refl e
  where
    here : (b : Bool) → (if b then Some (numbered n d) else None) ≡ Some x
        → (m : ℕ) × (x.number ≡ n + m) × (slice_get (d ∷ ds) m ≡ Some x.letter)
    here true q =
        let is = same_Some (numbered n d) x q in
        (0, sym (ap (λ (y : Numbered). y.number) is) ∙ omega arith, ap (λ (y : Numbered). Some y.letter) is)
    here false q = absurd (none-some x q)

    later : (last_from (n + 1) bytes ds ≡ Some x → (m : ℕ) × (x.number ≡ n + 1 + m) × (slice_get ds m ≡ Some x.letter))
        → (o : Option Numbered) → last_from (n + 1) bytes ds ≡ o
        → or_else o (if bytes_eq (spelling d) bytes then Some (numbered n d) else None) ≡ Some x
        → (m : ℕ) × (x.number ≡ n + m) × (slice_get (d ∷ ds) m ≡ Some x.letter)
    later rest None is q = here (bytes_eq (spelling d) bytes) q
    later rest (Some y) is q =
        let r = rest (is ∙ q) in
        (suc r.0, r.1 ∙ omega arith, r.2)

-- what is found was sent by its number
number_sent : (bytes : List ℕ) (sent : List Letter) (x : Numbered) → last_sent bytes sent ≡ Some x → slice_get sent x.number ≡ Some x.letter
unfolding last_sent
number_sent bytes sent x e =
    let r = last_is 0 bytes sent x e in
    let number : x.number ≡ r.0 = r.1 ∙ omega arith in
    ap (slice_get sent) number ∙ r.2

module _ (c : Cluster) where
  -- ---- steps of hosted roles

  free_go : (i : ℕ) (what : Doing) → IsFree what → Keeps c (does_at i what)
  free_go i what free p s st = does_go c p s i what st (λ h here. free (run c (noted_in p)) (name_of h))

  place_go : (o : Option ℕ) (what : Doing) → IsFree what → Keeps c (at_place o what)
  place_go None what free p s st = stays_go self c p s st
  place_go (Some i) what free p s st = free_go i what free p s st

  first_go : (n : ℕ) (what : Doing) → IsFree what → Keeps c (first_do n what)
  first_go zero what free p s st = stays_go self c p s st
  first_go (suc n) what free p s st = then_go self self c p (first_do n what s) (λ after. does_at n what after)
      (first_go n what free p s st) (λ q now. free_go n what free q ((first_do n what s).next) now)

  all_go : (what : Doing) → IsFree what → Keeps c (all_do what)
  all_go what free p s st = first_go (length s.hosted) what free p s st

  -- one or the other
  pick : {S : Type 0} (of : S → Course) (p : List Action) (b : Bool) (m n : Moved S) → Goes of c p m → Goes of c p n
      → Goes of c p (if b then m else n)
  pick of p b m n x y = either_way (Goes of c p) b m n x y

  -- ---- orders

  abbrev IsGiven : Order → Type 0
  IsGiven o = (me : RoleId) → me.kind ≡ kind.Leader → IsOrder c me o

  order_go : (o : Order) → IsGiven o → (p : List Action) (s : Course) → Stands c (past_of p) s → (i : ℕ)
      → hosted_place (role kind.Leader 0) s.hosted ≡ Some i → Goes self c p (does_at i (Give 0 (input.Order o)) s)
  order_go o given p s st i at =
      does_go c p s i (Give 0 (input.Order o)) st (λ h here. subst (λ x. IsOrder x (name_of h) o) (sym (run_cluster c (noted_in p)))
      (given (name_of h) (ap (λ (a : RoleId). a.kind) (sym (place_named (role kind.Leader 0) s.hosted i at h here)))))

  order_place : (o : Order) → IsGiven o → (p : List Action) (s : Course) → Stands c (past_of p) s → (at : Option ℕ)
      → hosted_place (role kind.Leader 0) s.hosted ≡ at → Goes self c p (at_place at (Give 0 (input.Order o)) s)
  order_place o given p s st None at = stays_go self c p s st
  order_place o given p s st (Some i) at = order_go o given p s st i at

  abbrev AreGiven : Option Order → Type 0
  AreGiven None = Unit {0}
  AreGiven (Some o) = IsGiven o

  gets_go : (o : Option Order) → AreGiven o → Keeps c (gets o)
  gets_go None given p s st = stays_go self c p s st
  gets_go (Some o) given p s st = order_place o given p s st (hosted_place (role kind.Leader 0) s.hosted) refl

  lead_go : (p : List Action) (s : Course) → Stands c (past_of p) s → (at : Option ℕ) → hosted_place (role kind.Leader 0) s.hosted ≡ at
      → Goes self c p (lead_at c at s)
  lead_go p s st None at = stays_go self c p s st
  lead_go p s st (Some i) at =
      pick self p (idle_at (slice_get s.hosted i)) (does_at i (Give 0 (input.Order (order.Lead (grid_of c)))) s) (stays s)
      (order_go (order.Lead (grid_of c)) (λ me is. lead_is_order c me is) p s st i at) (stays_go self c p s st)

  -- ---- the turns of a node that doesn't tend

  ordered_go : (n : ℕ) → Keeps c (ordered c n)
  unfolding ordered
  ordered_go n p s st = pick self p ((n == 1) || (n % 4096 == 0)) (lead_at c (hosted_place (role kind.Leader 0) s.hosted) s) (stays s)
      (lead_go p s st (hosted_place (role kind.Leader 0) s.hosted) refl) (stays_go self c p s st)

  snaps_go : (n : ℕ) → Keeps c (snaps n)
  unfolding snaps
  snaps_go n p s st = pick self p (n % 4096 == 0) (all_do Snap s) (stays s) (all_go Snap (λ w me. tt) p s st) (stays_go self c p s st)

  prepared_go : (n : ℕ) → Keeps c (prepared c n)
  unfolding prepared
  prepared_go n p s st =
      then_go self self c p (ordered c n s) (λ led. snaps n led) (ordered_go n p s st) (λ q now. snaps_go n q ((ordered c n s).next) now)

  -- a datagram that was sent comes to its role
  take_go : (x : Numbered) (p : List Action) (s : Course) → Stands c (past_of p) s → slice_get (sent_in p) x.number ≡ Some x.letter
      → (at : Option ℕ) → hosted_place x.letter.to s.hosted ≡ at → Goes self c p (at_place at (Give x.number (input.Take x.letter)) s)
  take_go x p s st sent None at = stays_go self c p s st
  take_go x p s st sent (Some i) at = does_go c p s i (Give x.number (input.Take x.letter)) st
      (λ h here. (ap (λ l. slice_get l x.number) st.sends ∙ sent, place_named x.letter.to s.hosted i at h here))

  brought_so : (p : List Action) (s : Course) (bytes : List ℕ) → Stands c (past_of p) s
      → brought s.recorded bytes ≡ last_sent bytes (sent_in p)
  brought_so p s bytes st = ap (λ r. brought r bytes) st.recorded

  brings_go : (p : List Action) (s : Course) (bytes : List ℕ) → Stands c (past_of p) s → (o : Option Numbered)
      → last_sent bytes (sent_in p) ≡ o → Goes self c p (brings o s)
  brings_go p s bytes st None is = stays_go self c p s st
  brings_go p s bytes st (Some x) is = take_go x p s st (number_sent bytes (sent_in p) x is) (hosted_place x.letter.to s.hosted) refl

  comes_go : (what : Option (List ℕ)) → Keeps c (comes what)
  unfolding comes
  comes_go None p s st = took_go c p s None (stays s) st (λ q same now. stays_go self c q s now)
  comes_go (Some bytes) p s st = took_go c p s (Some bytes) (brings (brought s.recorded bytes) s) st
      (λ q same now. brings_go q s bytes now (brought s.recorded bytes) (sym (brought_so q s bytes now)))

  ticked_go : (n : ℕ) → Keeps c (ticked n)
  unfolding ticked
  ticked_go n p s st = pick self p (n % 64 == 0) (all_do (Give 0 input.Tick) s) (stays s) (all_go (Give 0 input.Tick) ticks_free p s st)
      (stays_go self c p s st)

  turn_go : (n : ℕ) (what : Option (List ℕ)) → Keeps c (node_turn c n what)
  unfolding node_turn
  turn_go n what p s st =
      let a = prepared c n s in
      let b = comes what a.next in
      then_go self self c p a (λ after. then_do (comes what after) (λ last. ticked n last)) (prepared_go n p s st) (λ q now.
      then_go self self c q b (λ last. ticked n last) (comes_go what q a.next now) (λ r last. ticked_go n r b.next last))

  turns_go : {S : Type 0} (of : S → Course) (step : ℕ → Option (List ℕ) → S → Moved S)
      → ((n : ℕ) (what : Option (List ℕ)) (p : List Action) (s : S) → Stands c (past_of p) (of s) → Goes of c p (step n what s))
      → (n : ℕ) (takes : TakeResults) (p : List Action) (s : S) → Stands c (past_of p) (of s) → Goes of c p (turns_from step n takes s)
  turns_go of step go n [] p s st = stays_go of c p s st
  turns_go of step go n (what ∷ rest) p s st = then_go of of c p (step n what s) (λ after. turns_from step (n + 1) rest after)
      (go n what p s st) (λ q now. turns_go of step go (n + 1) rest q ((step n what s).next) now)

  untended_go : (takes : TakeResults) → Keeps c (untended_run c takes)
  untended_go takes p s st =
      then_go self self c p (all_do Begin s) (λ after. turns_from (node_turn c) 1 takes after) (all_go Begin (λ w me. tt) p s st)
      (λ q now. turns_go self (node_turn c) turn_go 1 takes q ((all_do Begin s).next) now)

  -- ---- parts of the turns of a tended node

  ticks_if_go : (test : ℕ → Hosted → Bool) (i : ℕ) → Keeps c (ticks_if test i)
  ticks_if_go test i p s st = pick self p (is_so (test i) (slice_get s.hosted i)) (does_at i (Give 0 input.Tick) s) (stays s)
      (free_go i (Give 0 input.Tick) ticks_free p s st) (stays_go self c p s st)

  in_turn_go : (test : ℕ → Hosted → Bool) (places : List ℕ) → Keeps c (in_turn test places)
  in_turn_go test [] p s st = stays_go self c p s st
  in_turn_go test (i ∷ places) p s st = then_go self self c p (ticks_if test i s) (λ after. in_turn test places after)
      (ticks_if_go test i p s st) (λ q now. in_turn_go test places q ((ticks_if test i s).next) now)

  those_go : (test : ℕ → Hosted → Bool) → Keeps c (those_tick test)
  those_go test p s st = in_turn_go test (below (length s.hosted)) p s st

  kind_go : (k : Kind) → Keeps c (kind_ticks k)
  unfolding kind_ticks
  kind_go k p s st = those_go (λ i h. is_of_kind k h) p s st

  tend_ordered_go : (n : ℕ) → Keeps c (tend_ordered c n)
  unfolding tend_ordered
  tend_ordered_go n p s st =
      pick self p ((n == 1) && not (option_map_or (λ (l : Running LeaderDurable LeaderVolatile). is_new_leader l.durable)
      (first_leader s.hosted) false)) (stays s) (ordered c n s) (stays_go self c p s st) (ordered_go n p s st)

  tend_prepared_go : (n : ℕ) → Keeps c (tend_prepared c n)
  unfolding tend_prepared
  tend_prepared_go n p s st = then_go self self c p (tend_ordered c n s) (λ led. snaps n led) (tend_ordered_go n p s st)
      (λ q now. snaps_go n q ((tend_ordered c n s).next) now)

  reported_go : (from who : RoleId) (before : ℕ) → Keeps c (reported from who before)
  unfolding reported
  reported_go from who before p s st = pick self p (ticks_behind from before (held_by_role who s.hosted))
      (at_place (hosted_place who s.hosted) (Give 0 input.Tick) s) (stays s)
      (place_go (hosted_place who s.hosted) (Give 0 input.Tick) ticks_free p s st) (stays_go self c p s st)

  given_if : (b : Bool) (o : Order) → IsGiven o → AreGiven (if b then Some o else None)
  given_if true o given = given
  given_if false o given = tt

  collected_go : Keeps c collected
  unfolding collected
  collected_go p s st =
      let b = option_map_or (λ (l : Running LeaderDurable LeaderVolatile). can_collect l.volatile) (first_leader s.hosted) false in
      gets_go (if b then Some order.Collect else None) (given_if b order.Collect (λ me is. collect_is_order c me is)) p s st

  heeded_go : (x : Numbered) (p : List Action) (s : Course) → Stands c (past_of p) s → slice_get (sent_in p) x.number ≡ Some x.letter
      → Goes self c p (heeded x s)
  unfolding heeded
  heeded_go x p s st sent =
      let a = at_place (hosted_place x.letter.to s.hosted) (Give x.number (input.Take x.letter)) s in
      let b = reported x.letter.from x.letter.to (held_by_role x.letter.to s.hosted) a.next in
      let own = same_role x.letter.to (role kind.Leader 0) in
      then_go self self c p a (λ after. then_do (reported x.letter.from x.letter.to (held_by_role x.letter.to s.hosted) after)
      (λ last. if own then collected last else stays last)) (take_go x p s st sent (hosted_place x.letter.to s.hosted) refl) (λ q now.
      then_go self self c q b (λ last. if own then collected last else stays last)
      (reported_go x.letter.from x.letter.to (held_by_role x.letter.to s.hosted) q a.next now) (λ r last.
      pick self r own (collected b.next) (stays b.next) (collected_go r b.next last) (stays_go self c r b.next last)))

  heeds_go : (p : List Action) (s : Course) (bytes : List ℕ) → Stands c (past_of p) s → (o : Option Numbered)
      → last_sent bytes (sent_in p) ≡ o → Goes self c p (brings_heeded o s)
  heeds_go p s bytes st None is = stays_go self c p s st
  heeds_go p s bytes st (Some x) is = heeded_go x p s st (number_sent bytes (sent_in p) x is)

  tend_comes_go : (what : Option (List ℕ)) → Keeps c (tend_comes what)
  unfolding tend_comes
  tend_comes_go None p s st = took_go c p s None (stays s) st (λ q same now. stays_go self c q s now)
  tend_comes_go (Some bytes) p s st = took_go c p s (Some bytes) (brings_heeded (brought s.recorded bytes) s) st
      (λ q same now. heeds_go q s bytes now (brought s.recorded bytes) (sym (brought_so q s bytes now)))

  paused_go : (k : Care) (came : Bool) → Keeps c (paused k came)
  unfolding paused
  paused_go k came p s st =
      let waited = (k.calm == 7) && not came in
      pick self p (k.came && not came) (kind_ticks kind.Batcher s) (if waited then those_tick (λ i h. awaits_votes_at h) s else stays s)
      (kind_go kind.Batcher p s st)
      (pick self p waited (those_tick (λ i h. awaits_votes_at h) s) (stays s) (those_go (λ i h. awaits_votes_at h) p s st)
      (stays_go self c p s st))

  others_go : Keeps c others_tick
  unfolding others_tick
  others_go p s st = those_go (λ i h. not (is_client h)) p s st

  -- ---- the turns of a tended node

  abbrev at : Tended → Course
  at t = t.course

  asked_given : (l : Standing) (k : Care) → AreGiven (leader_asked c l k)
  unfolding leader_asked
  asked_given l k =
      either_way AreGiven l.may_lead (Some (order.Lead (grid_of c))) (if is_time k.stuck && l.is_spent then Some (order.Change (grid_of c))
      else if l.can_collect then Some order.Collect else None) (λ me is. lead_is_order c me is)
      (either_way AreGiven (is_time k.stuck && l.is_spent) (Some (order.Change (grid_of c))) (if l.can_collect then Some order.Collect
      else None) (λ me is. change_is_order c me is) (given_if l.can_collect order.Collect (λ me is. collect_is_order c me is)))

  leader_go : (o : Option (Running LeaderDurable LeaderVolatile)) (p : List Action) (t : Tended) → Stands c (past_of p) t.course
      → Goes at c p (leader_tended c o t)
  leader_go None p t st = stays_go at c p t st
  leader_go (Some l) p t st =
      let k = leader_cared (standing_of l) t.care in
      gets_go (leader_asked c (standing_of l) k) (asked_given (standing_of l) k) p t.course st

  pass_go : (p : List Action) (t : Tended) → Stands c (past_of p) t.course → Goes at c p (next_pass t)
  pass_go p t st = in_turn_go (is_overtaken t.care.counts) t.care.queue p t.course st

  clients_go : (p : List Action) (t : Tended) → Stands c (past_of p) t.course → Goes at c p (clients_tended t)
  unfolding clients_tended
  clients_go p t st =
      let k = clients_noted (all_completed t.course.hosted) t.care in
      let noted : Tended = record { care = k; course = t.course } in
      let others = if passes (count_by is_client t.course.hosted) (all_completed t.course.hosted) k then next_pass noted else stays noted in
      pick at p (asks_again k.still) (within (kind_ticks kind.Client) noted) others (kind_go kind.Client p t.course st)
      (pick at p (passes (count_by is_client t.course.hosted) (all_completed t.course.hosted) k) (next_pass noted) (stays noted)
      (pass_go p noted st) (stays_go at c p noted st))

  beat_go : (p : List Action) (t : Tended) → Stands c (past_of p) t.course → Goes at c p (beat c t)
  unfolding beat
  beat_go p t st =
      let a = within others_tick t in
      let b = leader_tended c (first_leader a.next.course.hosted) a.next in
      then_go at at c p a (λ after. then_do (leader_tended c (first_leader after.course.hosted) after) (λ last. clients_tended last))
      (others_go p t.course st) (λ q now.
      then_go at at c q b (λ last. clients_tended last) (leader_go (first_leader a.next.course.hosted) q a.next now)
      (λ r last. clients_go r b.next last))

  ended_go : (m : ℕ) (came : Bool) (p : List Action) (t : Tended) → Stands c (past_of p) t.course → Goes at c p (turn_ended c m came t)
  unfolding turn_ended
  ended_go m came p t st =
      let k = care_after_turn came t.care in
      let over : Tended = record { care = beat_over k; course = t.course } in
      let on : Tended = record { care = k; course = t.course } in
      pick at p (is_beat m k) (beat c over) (stays on) (beat_go p over st) (stays_go at c p on st)

  tended_turn_go : (m n : ℕ) (what : Option (List ℕ)) (p : List Action) (t : Tended) → Stands c (past_of p) t.course
      → Goes at c p (tended_turn c m n what t)
  unfolding tended_turn
  tended_turn_go m n what p t st =
      let a = within (tend_prepared c n) t in
      let b = within (tend_comes what) a.next in
      let d = within (paused b.next.care (is_some what)) b.next in
      then_go at at c p a (λ a. then_do (within (tend_comes what) a) (λ b. then_do (within (paused b.care (is_some what)) b)
      (λ d. turn_ended c m (is_some what) d))) (tend_prepared_go n p t.course st) (λ q now.
      then_go at at c q b (λ b. then_do (within (paused b.care (is_some what)) b) (λ d. turn_ended c m (is_some what) d))
      (tend_comes_go what q a.next.course now) (λ r mid.
      then_go at at c r d (λ d. turn_ended c m (is_some what) d) (paused_go b.next.care (is_some what) r b.next.course mid)
      (λ v last. ended_go m (is_some what) v d.next last)))

  tended_go : (m : ℕ) (takes : TakeResults) (p : List Action) (s : Course) → Stands c (past_of p) s → Goes at c p (tended_run c m takes s)
  tended_go m takes p s st =
      let a = within (all_do Begin) (untended s) in
      then_go at at c p a (λ after. turns_from (tended_turn c m) 1 takes after) (all_go Begin (λ w me. tt) p s st)
      (λ q now. turns_go at (tended_turn c m) (tended_turn_go m) 1 takes q a.next now)

  -- the whole run, tended or not
  pub run_go : (tend : Option ℕ) (takes : TakeResults) → Keeps c (node_run tend c takes)
  unfolding node_run
  run_go None takes p s st = untended_go takes p s st
  run_go (Some m) takes p s st = tended_go m takes p s st
