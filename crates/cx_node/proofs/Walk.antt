-- What every step and every take of a run keeps holds behind the run.
use Rattle.cx_role.proofs.Common.{◌≡◌, ◌+◌, ◌/◌, ◌%◌, ◌==◌, ◌&&◌, ◌||◌, not, ℕ, zero, suc, Bool, true, false, List, [], ◌∷◌, ◌++◌, length}
use Rattle.cx_role.proofs.Common.{Option, None, Some, refl, sym, subst, append-nil, append_assoc, if◌then◌else◌, is_some, nat_lt, count_by}
use Rattle.cx_role.proofs.Common.{slice_get, option_map_or, below, role, same_role, Cluster, Order, Kind, RoleId, LeaderDurable}
use Rattle.cx_role.proofs.Common.{LeaderVolatile, Running}
use Rattle.cx_seat.specs.Prelude.{Action, Took, Course, Moved, does_at, stays, then_do, took, Hosted, TakeResults, all_do, at_place}
use Rattle.cx_seat.specs.Prelude.{brought, first_do, grid_of, idle_at, is_client, lead_at, hosted_place, Care, Tended, asks_again}
use Rattle.cx_seat.specs.Prelude.{awaits_votes_at, beat_over, clients_noted, care_after_turn, first_leader, gets, held_by_role, in_turn}
use Rattle.cx_seat.specs.Prelude.{is_beat, is_of_kind, is_overtaken, is_so, leader_asked, leader_cared, leader_tended, next_pass, passes}
use Rattle.cx_seat.specs.Prelude.{standing_of, those_tick, ticks_behind, ticks_if, within, Doing, Begin, Give, Snap, can_collect}
use Rattle.cx_seat.specs.Prelude.{is_new_leader, Numbered, numbered}
use Rattle.cx_base.specs.declared.event.Order.TheVariants as order
use Rattle.cx_base.specs.declared.role.Kind.TheVariants as kind
use Rattle.cx_course.specs.Run.{brings, comes, ordered, prepared, snaps, ticked, node_turn, turns_from, untended_run}
use Rattle.cx_course.specs.Tending.{all_completed, beat, brings_heeded, clients_tended, collected, heeded, kind_ticks, node_run}
use Rattle.cx_course.specs.Tending.{others_tick, paused, reported, tend_comes, tend_ordered, tend_prepared, tended_turn, turn_ended}
use Rattle.cx_course.specs.Tending.{untended}
use Rattle.cx_letter.specs.declared.input.Input.TheVariants as input

-- what the role at a place may be asked in a run: a datagram is for it, and one that bytes bring
abbrev pub MayDo : Course → ℕ → Doing → Type 0
MayDo s i (Give number (input.Take d)) =
    (hosted_place d.to s.hosted ≡ Some i) × (bytes : List ℕ) × (brought s.recorded bytes ≡ Some (numbered number d))
MayDo s i other = Unit {0}

-- what is said of hosted roles and of all that was done by then is preserved by a step, and by a take
pub record IsPreserved (Holds : Course → List Action → Type 0) : Type 0 where
  pub step : (s : Course) (done : List Action) (i : ℕ) (what : Doing) → MayDo s i what → Holds s done
      → Holds (does_at i what s).next (done ++ (does_at i what s).actions)
  pub take : (s : Course) (done : List Action) (what : Option (List ℕ)) → Holds s done → Holds s (done ++ Took what ∷ [])

module _ (Holds : Course → List Action → Type 0) (preserves : IsPreserved Holds) where
  -- it holds behind a part
  abbrev After : List Action → Moved Course → Type 0
  After done m = Holds m.next (done ++ m.actions)

  abbrev AfterTended : List Action → Moved Tended → Type 0
  AfterTended done m = Holds m.next.course (done ++ m.actions)

  nothing : (s : Course) (done : List Action) → Holds s done → After done (stays s)
  nothing s done h = subst (Holds s) (sym (append-nil done)) h

  one_then : {S T : Type 0} (from : S → Course) (to : T → Course) (done : List Action) (m : Moved S) (f : S → Moved T)
      → Holds (from m.next) (done ++ m.actions)
      → (Holds (from m.next) (done ++ m.actions) → Holds (to (f m.next).next) ((done ++ m.actions) ++ (f m.next).actions))
      → Holds (to (then_do m f).next) (done ++ (then_do m f).actions)
  one_then from to done m f h next =
      subst (Holds (to (f m.next).next)) (append_assoc done m.actions ((f m.next).actions)) (next h)

  either : (b : Bool) (done : List Action) (m n : Moved Course) → After done m → After done n → After done (if b then m else n)
  either true done m n h g = h
  either false done m n h g = g

  either_tended : (b : Bool) (done : List Action) (m n : Moved Tended) → AfterTended done m → AfterTended done n
      → AfterTended done (if b then m else n)
  either_tended true done m n h g = h
  either_tended false done m n h g = g

  then_one : (done : List Action) (m : Moved Course) (f : Course → Moved Course) → After done m
      → (After done m → After (done ++ m.actions) (f m.next)) → After done (then_do m f)
  then_one done m f h next = one_then (λ s. s) (λ s. s) done m f h next

  then_tended : (done : List Action) (m : Moved Tended) (f : Tended → Moved Tended) → AfterTended done m
      → (AfterTended done m → AfterTended (done ++ m.actions) (f m.next)) → AfterTended done (then_do m f)
  then_tended done m f h next = one_then (λ (t : Tended). t.course) (λ (t : Tended). t.course) done m f h next

  -- ---- parts that are asked of all

  first : (n : ℕ) (what : Doing) → ((s : Course) (i : ℕ) → MayDo s i what) → (s : Course) (done : List Action) → Holds s done
      → After done (first_do n what s)
  first zero what may s done h = nothing s done h
  first (suc n) what may s done h =
      then_one done (first_do n what s) (λ after. does_at n what after) (first n what may s done h)
      (λ g. preserves.step ((first_do n what s).next) (done ++ (first_do n what s).actions) n what (may _ n) g)

  begin_all : (s : Course) (done : List Action) → Holds s done → After done (all_do Begin s)
  begin_all s done h = first (length s.hosted) Begin (λ s i. tt) s done h

  snap_all : (s : Course) (done : List Action) → Holds s done → After done (all_do Snap s)
  snap_all s done h = first (length s.hosted) Snap (λ s i. tt) s done h

  tick_all : (s : Course) (done : List Action) → Holds s done → After done (all_do (Give 0 input.Tick) s)
  tick_all s done h = first (length s.hosted) (Give 0 input.Tick) (λ s i. tt) s done h

  -- the role at a place that may be none
  named : (o : Option ℕ) (what : Doing) (s : Course) (done : List Action) → ((i : ℕ) → o ≡ Some i → MayDo s i what) → Holds s done
      → After done (at_place o what s)
  named None what s done may h = nothing s done h
  named (Some i) what s done may h = preserves.step s done i what (may i refl) h

  -- ---- the parts of a turn

  lead : (c : Cluster) (o : Option ℕ) (s : Course) (done : List Action) → Holds s done → After done (lead_at c o s)
  lead c None s done h = nothing s done h
  lead c (Some i) s done h =
      let what = Give 0 (input.Order (order.Lead (grid_of c))) in
      either (idle_at (slice_get s.hosted i)) done (does_at i what s) (stays s) (preserves.step s done i what tt h) (nothing s done h)

  order_one : (c : Cluster) (n : ℕ) (s : Course) (done : List Action) → Holds s done → After done (ordered c n s)
  unfolding ordered
  order_one c n s done h =
      let o = hosted_place (role kind.Leader 0) s.hosted in
      either ((n == 1) || (n % 4096 == 0)) done (lead_at c o s) (stays s) (lead c o s done h) (nothing s done h)

  snap_some : (n : ℕ) (s : Course) (done : List Action) → Holds s done → After done (snaps n s)
  unfolding snaps
  snap_some n s done h = either (n % 4096 == 0) done (all_do Snap s) (stays s) (snap_all s done h) (nothing s done h)

  prepare : (c : Cluster) (n : ℕ) (s : Course) (done : List Action) → Holds s done → After done (prepared c n s)
  unfolding prepared
  prepare c n s done h =
      then_one done (ordered c n s) (λ led. snaps n led) (order_one c n s done h)
      (λ g. snap_some n ((ordered c n s).next) (done ++ (ordered c n s).actions) g)

  took_first : (what : Option (List ℕ)) (s : Course) (done : List Action) (m : Moved Course)
      → (Holds s (done ++ Took what ∷ []) → After (done ++ Took what ∷ []) m) → Holds s done → After done (took what m)
  took_first what s done m next h =
      subst (Holds m.next) (append_assoc done (Took what ∷ []) m.actions) (next (preserves.take s done what h))

  bring : (bytes : List ℕ) (o : Option Numbered) (s : Course) (done : List Action) → brought s.recorded bytes ≡ o → Holds s done
      → After done (brings o s)
  bring bytes None s done is h = nothing s done h
  bring bytes (Some x) s done is h =
      named (hosted_place x.letter.to s.hosted) (Give x.number (input.Take x.letter)) s done (λ i here. (here, bytes, is)) h

  come : (what : Option (List ℕ)) (s : Course) (done : List Action) → Holds s done → After done (comes what s)
  unfolding comes
  come None s done h = took_first None s done (stays s) (λ g. nothing s (done ++ Took None ∷ []) g) h
  come (Some bytes) s done h =
      took_first (Some bytes) s done (brings (brought s.recorded bytes) s)
      (λ g. bring bytes (brought s.recorded bytes) s (done ++ Took (Some bytes) ∷ []) refl g) h

  tick_some : (n : ℕ) (s : Course) (done : List Action) → Holds s done → After done (ticked n s)
  unfolding ticked
  tick_some n s done h =
      either (n % 64 == 0) done (all_do (Give 0 input.Tick) s) (stays s) (tick_all s done h) (nothing s done h)

  turn_one : (c : Cluster) (n : ℕ) (what : Option (List ℕ)) (s : Course) (done : List Action) → Holds s done
      → After done (node_turn c n what s)
  unfolding node_turn
  turn_one c n what s done h =
      let a = prepared c n s in
      let b = comes what a.next in
      then_one done a (λ after. then_do (comes what after) (λ last. ticked n last)) (prepare c n s done h)
      (λ g. then_one (done ++ a.actions) b (λ last. ticked n last) (come what a.next (done ++ a.actions) g)
      (λ k. tick_some n b.next ((done ++ a.actions) ++ b.actions) k))

  turns : (c : Cluster) (n : ℕ) (takes : TakeResults) (s : Course) (done : List Action) → Holds s done
      → After done (turns_from (node_turn c) n takes s)
  turns c n [] s done h = nothing s done h
  turns c n (what ∷ rest) s done h =
      let a = node_turn c n what s in
      then_one done a (λ after. turns_from (node_turn c) (n + 1) rest after) (turn_one c n what s done h)
      (λ g. turns c (n + 1) rest a.next (done ++ a.actions) g)

  untended_all : (c : Cluster) (takes : TakeResults) (s : Course) (done : List Action) → Holds s done
      → After done (untended_run c takes s)
  untended_all c takes s done h =
      let a = all_do Begin s in
      then_one done a (λ after. turns_from (node_turn c) 1 takes after) (begin_all s done h)
      (λ g. turns c 1 takes a.next (done ++ a.actions) g)

  -- ---- the parts of a turn of a tended node

  tick_if : (test : ℕ → Hosted → Bool) (i : ℕ) (s : Course) (done : List Action) → Holds s done → After done (ticks_if test i s)
  tick_if test i s done h =
      either (is_so (test i) (slice_get s.hosted i)) done (does_at i (Give 0 input.Tick) s) (stays s)
      (preserves.step s done i (Give 0 input.Tick) tt h) (nothing s done h)

  tick_turn : (test : ℕ → Hosted → Bool) (places : List ℕ) (s : Course) (done : List Action) → Holds s done
      → After done (in_turn test places s)
  tick_turn test [] s done h = nothing s done h
  tick_turn test (i ∷ places) s done h =
      let a = ticks_if test i s in
      then_one done a (λ after. in_turn test places after) (tick_if test i s done h)
      (λ g. tick_turn test places a.next (done ++ a.actions) g)

  tick_those : (test : ℕ → Hosted → Bool) (s : Course) (done : List Action) → Holds s done → After done (those_tick test s)
  tick_those test s done h = tick_turn test (below (length s.hosted)) s done h

  tick_kind : (k : Kind) (s : Course) (done : List Action) → Holds s done → After done (kind_ticks k s)
  unfolding kind_ticks
  tick_kind k s done h = tick_those (λ i x. is_of_kind k x) s done h

  get : (o : Option Order) (s : Course) (done : List Action) → Holds s done → After done (gets o s)
  get None s done h = nothing s done h
  get (Some x) s done h = named (hosted_place (role kind.Leader 0) s.hosted) (Give 0 (input.Order x)) s done (λ i here. tt) h

  tend_order : (c : Cluster) (n : ℕ) (s : Course) (done : List Action) → Holds s done → After done (tend_ordered c n s)
  unfolding tend_ordered
  tend_order c n s done h = either ((n == 1) && not (option_map_or (λ (l : Running LeaderDurable LeaderVolatile). is_new_leader l.durable)
      (first_leader s.hosted) false)) done (stays s) (ordered c n s) (nothing s done h) (order_one c n s done h)

  tend_prepare : (c : Cluster) (n : ℕ) (s : Course) (done : List Action) → Holds s done → After done (tend_prepared c n s)
  unfolding tend_prepared
  tend_prepare c n s done h =
      let a = tend_ordered c n s in
      then_one done a (λ led. snaps n led) (tend_order c n s done h) (λ g. snap_some n a.next (done ++ a.actions) g)

  report : (from who : RoleId) (was : ℕ) (s : Course) (done : List Action) → Holds s done → After done (reported from who was s)
  unfolding reported
  report from who was s done h =
      let o = hosted_place who s.hosted in
      either (ticks_behind from was (held_by_role who s.hosted)) done (at_place o (Give 0 input.Tick) s) (stays s)
      (named o (Give 0 input.Tick) s done (λ i here. tt) h) (nothing s done h)

  collect : (s : Course) (done : List Action) → Holds s done → After done (collected s)
  unfolding collected
  collect s done h =
      get (if option_map_or (λ (l : Running LeaderDurable LeaderVolatile). can_collect l.volatile) (first_leader s.hosted) false
      then Some order.Collect else None) s done h

  heed : (bytes : List ℕ) (x : Numbered) (s : Course) (done : List Action) → brought s.recorded bytes ≡ Some x → Holds s done
      → After done (heeded x s)
  unfolding heeded
  heed bytes x s done is h =
      let to = x.letter.to in
      let was = held_by_role to s.hosted in
      let a = at_place (hosted_place to s.hosted) (Give x.number (input.Take x.letter)) s in
      let from = x.letter.from in
      let b = reported from to was a.next in
      then_one done a
      (λ after. then_do (reported from to was after) (λ last. if same_role to (role kind.Leader 0) then collected last else stays last))
      (bring bytes (Some x) s done is h)
      (λ g. then_one (done ++ a.actions) b (λ last. if same_role to (role kind.Leader 0) then collected last else stays last)
      (report from to was a.next (done ++ a.actions) g)
      (λ k. let so_far = (done ++ a.actions) ++ b.actions in
      either (same_role to (role kind.Leader 0)) so_far (collected b.next) (stays b.next) (collect b.next so_far k)
      (nothing b.next so_far k)))

  bring_heeded : (bytes : List ℕ) (o : Option Numbered) (s : Course) (done : List Action) → brought s.recorded bytes ≡ o → Holds s done
      → After done (brings_heeded o s)
  bring_heeded bytes None s done is h = nothing s done h
  bring_heeded bytes (Some x) s done is h = heed bytes x s done is h

  tend_come : (what : Option (List ℕ)) (s : Course) (done : List Action) → Holds s done → After done (tend_comes what s)
  unfolding tend_comes
  tend_come None s done h = took_first None s done (stays s) (λ g. nothing s (done ++ Took None ∷ []) g) h
  tend_come (Some bytes) s done h =
      took_first (Some bytes) s done (brings_heeded (brought s.recorded bytes) s)
      (λ g. bring_heeded bytes (brought s.recorded bytes) s (done ++ Took (Some bytes) ∷ []) refl g) h

  pause : (k : Care) (came : Bool) (s : Course) (done : List Action) → Holds s done → After done (paused k came s)
  unfolding paused
  pause k came s done h =
      let waited = (k.calm == 7) && not came in
      either (k.came && not came) done (kind_ticks kind.Batcher s) (if waited then those_tick (λ i x. awaits_votes_at x) s else stays s)
      (tick_kind kind.Batcher s done h) (either waited done (those_tick (λ i x. awaits_votes_at x) s) (stays s)
      (tick_those (λ i x. awaits_votes_at x) s done h) (nothing s done h))

  tick_others : (s : Course) (done : List Action) → Holds s done → After done (others_tick s)
  unfolding others_tick
  tick_others s done h = tick_those (λ i x. not (is_client x)) s done h

  tend_leader : (c : Cluster) (o : Option (Running LeaderDurable LeaderVolatile)) (t : Tended) (done : List Action) → Holds t.course done
      → AfterTended done (leader_tended c o t)
  tend_leader c None t done h = nothing t.course done h
  tend_leader c (Some l) t done h =
      get (leader_asked c (standing_of l) (leader_cared (standing_of l) t.care)) t.course done h

  pass : (t : Tended) (done : List Action) → Holds t.course done → AfterTended done (next_pass t)
  pass t done h = tick_turn (is_overtaken t.care.counts) t.care.queue t.course done h

  tend_clients : (t : Tended) (done : List Action) → Holds t.course done → AfterTended done (clients_tended t)
  unfolding clients_tended
  tend_clients t done h =
      let k = clients_noted (all_completed t.course.hosted) t.care in
      let noted : Tended = record { care = k; course = t.course } in
      let rest = if passes (count_by is_client t.course.hosted) (all_completed t.course.hosted) k then next_pass noted else stays noted in
      either_tended (asks_again k.still) done (within (kind_ticks kind.Client) noted) rest (tick_kind kind.Client t.course done h)
      (either_tended (passes (count_by is_client t.course.hosted) (all_completed t.course.hosted) k) done (next_pass noted) (stays noted)
      (pass noted done h) (nothing t.course done h))

  beat_one : (c : Cluster) (t : Tended) (done : List Action) → Holds t.course done → AfterTended done (beat c t)
  unfolding beat
  beat_one c t done h =
      let a = within others_tick t in
      let b = leader_tended c (first_leader a.next.course.hosted) a.next in
      then_tended done a (λ after. then_do (leader_tended c (first_leader after.course.hosted) after) (λ last. clients_tended last))
      (tick_others t.course done h)
      (λ g. then_tended (done ++ a.actions) b (λ last. clients_tended last)
      (tend_leader c (first_leader a.next.course.hosted) a.next (done ++ a.actions) g)
      (λ k. tend_clients b.next ((done ++ a.actions) ++ b.actions) k))

  end_turn : (c : Cluster) (m : ℕ) (came : Bool) (t : Tended) (done : List Action) → Holds t.course done
      → AfterTended done (turn_ended c m came t)
  unfolding turn_ended
  end_turn c m came t done h =
      let k = care_after_turn came t.care in
      let rested : Tended = record { care = beat_over k; course = t.course } in
      let noted : Tended = record { care = k; course = t.course } in
      either_tended (is_beat m k) done (beat c rested) (stays noted) (beat_one c rested done h) (nothing t.course done h)

  tended_one : (c : Cluster) (m n : ℕ) (what : Option (List ℕ)) (t : Tended) (done : List Action) → Holds t.course done
      → AfterTended done (tended_turn c m n what t)
  unfolding tended_turn
  tended_one c m n what t done h =
      let a = within (tend_prepared c n) t in
      let b = within (tend_comes what) a.next in
      let d = within (paused b.next.care (is_some what)) b.next in
      then_tended done a (λ x. then_do (within (tend_comes what) x)
      (λ y. then_do (within (paused y.care (is_some what)) y) (λ z. turn_ended c m (is_some what) z))) (tend_prepare c n t.course done h)
      (λ g. then_tended (done ++ a.actions) b
      (λ y. then_do (within (paused y.care (is_some what)) y) (λ z. turn_ended c m (is_some what) z))
      (tend_come what a.next.course (done ++ a.actions) g)
      (λ k. let so_far = (done ++ a.actions) ++ b.actions in
      then_tended so_far d (λ z. turn_ended c m (is_some what) z) (pause b.next.care (is_some what) b.next.course so_far k)
      (λ l. end_turn c m (is_some what) d.next (so_far ++ d.actions) l)))

  tended_turns : (c : Cluster) (m n : ℕ) (takes : TakeResults) (t : Tended) (done : List Action) → Holds t.course done
      → AfterTended done (turns_from (tended_turn c m) n takes t)
  tended_turns c m n [] t done h = nothing t.course done h
  tended_turns c m n (what ∷ rest) t done h =
      let a = tended_turn c m n what t in
      then_tended done a (λ after. turns_from (tended_turn c m) (n + 1) rest after) (tended_one c m n what t done h)
      (λ g. tended_turns c m (n + 1) rest a.next (done ++ a.actions) g)

  -- behind the run
  pub walk : (tend : Option ℕ) (c : Cluster) (takes : TakeResults) (s : Course) (done : List Action) → Holds s done
      → Holds (node_run tend c takes s).next (done ++ (node_run tend c takes s).actions)
  unfolding node_run
  walk None c takes s done h = untended_all c takes s done h
  walk (Some m) c takes s done h =
      let a = within (all_do Begin) (untended s) in
      then_tended done a (λ after. turns_from (tended_turn c m) 1 takes after) (begin_all s done h)
      (λ g. tended_turns c m 1 takes a.next (done ++ a.actions) g)
