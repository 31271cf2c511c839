-- One act of a tended turn after the other.
use Rattle.cx_role.proofs.Common.{◌≡◌, ◌<◌, ◌==◌, ◌&&◌, not, nat_lt, ◌/◌, ℕ, length, Bool, true, false, List, [], ◌∷◌, Option, None, Some}
use Rattle.cx_role.proofs.Common.{option_map, Ok, Err, slice_get, if◌then◌else◌, refl, sym, ap, ◌∙◌, subst, OnOk, is_some, slice_get-map}
use Rattle.cx_role.proofs.Common.{slice_get_within, Cluster, Order, RoleId, role, same_role, Letter}
use Rattle.cx_seat.specs.Prelude.{LinkHistory, can_collect, is_new_leader, Changing, Give, AreReady, hosted_in, hosted_of, Hosted, Course}
use Rattle.cx_seat.specs.Prelude.{Moved, stays, took, then_do, at_place, hosted_place, snaps, Care, Tended, awaits_votes_at, clients_tended}
use Rattle.cx_seat.specs.Prelude.{first_leader, gets, held_by_role, in_turn, is_so, kind_ticks, leader_tended, tend_comes, those_tick}
use Rattle.cx_seat.specs.Prelude.{ticks_behind, ticks_if, turn_ended, without_care, Recorded, numbered, is_leader_so}
use Rattle.cx_base.specs.declared.event.Order.TheVariants as order
use Rattle.cx_base.specs.declared.role.Kind.TheVariants as kind
use Rattle.cx_letter.specs.declared.input.Input.TheVariants as input
use Rattle.cx_node.specs.declared.come.Come.TheVariants as come
use Rattle.cx_seat.specs.declared.guest.Guest.{Guest}
use Rattle.cx_node.specs.declared.node.Stop.{Stop}
use Rattle.cx_node.specs.declared.node.Stop.TheVariants.{LinkFault, NoMemory, RecordFull, StoreFault, WriteFault}
use Rattle.cx_node.specs.Acts.{Acts, Receives}
use Rattle.cx_node.specs.Doing.{Scene, course_in, scene}
use Rattle.cx_course.specs.Run.{ordered}
use Rattle.cx_course.specs.Tending.{beat, collected, heeded, others_tick, paused, reported, tend_ordered, tend_prepared, tended_turn}
use Rattle.cx_node.specs.Tends.{TendsOnce, tended}
use Rattle.cx_node.proofs.Actions.{Done, acts_before, acts_cut, acts_none, acts_nothing, acts_then, acts_took, course}
use Rattle.cx_node.proofs.Tended.{letter_heeded, foreign_heeded, nothing_heeded, what_heeded, all_heeded, then_stays}

-- ---- one after the other

-- of whom this is so, there is one
pub so_within : (test : Hosted → Bool) (hs : List Hosted) (i : ℕ) → is_so test (slice_get hs i) ≡ true → i < length hs
so_within test hs i e = go (slice_get hs i) refl e
  where
    go : (o : Option Hosted) → slice_get hs i ≡ o → is_so test o ≡ true → i < length hs
    go None none so = cc
    go (Some h) here so = slice_get_within hs i h here

-- whether it is so of the one at a place, where this list has the same
pub so_at : {K : Type 0} (test : Hosted → Bool) (gs seats : List (Guest K)) (i : ℕ) (t : Bool) → seats ≡ gs
    → t ≡ is_so test (option_map hosted_of (slice_get seats i)) → is_so test (slice_get (hosted_in gs) i) ≡ t
so_at {K} test gs seats i t same is = ap (is_so test) (slice_get-map hosted_of gs i)
    ∙ ap (λ (l : List (Guest K)). is_so test (option_map hosted_of (slice_get l i))) (sym same) ∙ sym is

module _ {K : Type 0} (gives : Changing K) (c : Cluster) where
  pub act_as : (m n : Moved Course) (r : Done) (a b : Scene K) → m ≡ n → Acts gives c [] n r a b → Acts gives c [] m r a b
  act_as m n r a b is p = subst (λ (x : Moved Course). Acts gives c [] x r a b) (sym is) p

  -- what is asked where a test says so
  pub due : (t : Bool) (m : Moved Course) (r : Done) (a b : Scene K) → t ≡ true → Acts gives c [] m r a b
      → Acts gives c [] (if t then m else stays (course_in a)) r a b
  due t m r a b e p = subst (λ (x : Bool). Acts gives c [] (if x then m else stays (course_in a)) r a b) (sym e) p

  pub not_due : (t : Bool) (m : Moved Course) (a : Scene K) → t ≡ false → AreReady c a.guests
      → Acts gives c [] (if t then m else stays (course_in a)) (Ok tt) a a
  not_due t m a e ready =
      subst (λ (x : Bool). Acts gives c [] (if x then m else stays (course_in a)) (Ok tt) a a) (sym e) (acts_nothing gives c a ready)

  -- it was done, and then memory ran out
  pub then_stops : (m : Moved Course) (a b : Scene K) → Acts gives c [] m (Ok tt) a b → Acts gives c [] m (Err NoMemory) a b
  then_stops m a b p =
      subst (λ (x : Moved Course). Acts gives c [] x (Err NoMemory) a b) (then_stays m)
      (acts_then gives c [] [] m (λ s. stays s) (Err NoMemory) a b b p (acts_none gives c [] (stays (course_in b)) b))

  pub gets_some : (o : Option Order) (x : Order) (who : RoleId) (r : Done) (a b : Scene K) → o ≡ Some x → who ≡ role kind.Leader 0
      → Acts gives c [] (at_place (hosted_place who (hosted_in a.guests)) (Give 0 (input.Order x)) (course_in a)) r a b
      → Acts gives c [] (gets o (course_in a)) r a b
  gets_some o x who r a b is name p =
      let s = course_in a in
      subst (λ (q : Option Order). Acts gives c [] (gets q s) r a b) (sym is)
      (subst (λ (w : RoleId). Acts gives c [] (at_place (hosted_place w s.hosted) (Give 0 (input.Order x)) s) r a b) name p)

  pub gets_none : (o : Option Order) (a : Scene K) → o ≡ None → AreReady c a.guests → Acts gives c [] (gets o (course_in a)) (Ok tt) a a
  gets_none o a is ready =
      subst (λ (q : Option Order). Acts gives c [] (gets q (course_in a)) (Ok tt) a a) (sym is) (acts_nothing gives c a ready)

  -- The roles at these places are asked to tick, and so far this was done: what comes of those that are left comes of all.
  abbrev pub Asked : (ℕ → Hosted → Bool) → List ℕ → List ℕ → Scene K → Scene K → Type 0
  Asked test all left a b = (r : Done) (d : Scene K) → Acts gives c [] (in_turn test left (course_in b)) r b d
      → Acts gives c [] (in_turn test all (course_in a)) r a d

  pub none_asked : (test : ℕ → Hosted → Bool) (all left : List ℕ) (a : Scene K) → left ≡ all → Asked test all left a a
  none_asked test all left a is r d q = subst (λ (l : List ℕ). Acts gives c [] (in_turn test l (course_in a)) r a d) is q

  pub one_asked : (test : ℕ → Hosted → Bool) (all left rest : List ℕ) (i : ℕ) (a b d : Scene K) → left ≡ i ∷ rest → Asked test all left a b
      → Acts gives c [] (ticks_if test i (course_in b)) (Ok tt) b d → Asked test all rest a d
  one_asked test all left rest i a b d is before p r f q =
      before r f
      (subst (λ (l : List ℕ). Acts gives c [] (in_turn test l (course_in b)) r b f) (sym is)
      (acts_then gives c [] [] (ticks_if test i (course_in b)) (λ after. in_turn test rest after) r b d f p q))

  pub one_stopped : (test : ℕ → Hosted → Bool) (all left rest : List ℕ) (i : ℕ) (e : Stop) (a b d : Scene K) → left ≡ i ∷ rest
      → Asked test all left a b
      → Acts gives c [] (ticks_if test i (course_in b)) (Err e) b d → Acts gives c [] (in_turn test all (course_in a)) (Err e) a d
  one_stopped test all left rest i e a b d is before p =
      before (Err e) d
      (subst (λ (l : List ℕ). Acts gives c [] (in_turn test l (course_in b)) (Err e) b d) (sym is)
      (acts_before gives c [] [] (ticks_if test i (course_in b)) (λ after. in_turn test rest after) e b d p))

  pub all_asked : (test : ℕ → Hosted → Bool) (all left : List ℕ) (a b : Scene K) → left ≡ [] → Asked test all left a b → AreReady c b.guests
      → Acts gives c [] (in_turn test all (course_in a)) (Ok tt) a b
  all_asked test all left a b is before ready = before (Ok tt) b
      (subst (λ (l : List ℕ). Acts gives c [] (in_turn test l (course_in b)) (Ok tt) b b) (sym is) (acts_nothing gives c b ready))

  -- ---- the parts of a turn

  pub order_waits : (n : ℕ) (a : Scene K)
      → ((n == 1) && not (is_leader_so (λ l. is_new_leader l.durable) (first_leader (hosted_in a.guests)))) ≡ true → AreReady c a.guests
      → Acts gives c [] (tend_ordered c n (course_in a)) (Ok tt) a a
  unfolding tend_ordered
  order_waits n a e ready =
      let s = course_in a in
      subst (λ (x : Bool). Acts gives c [] (if x then stays s else ordered c n s) (Ok tt) a a) (sym e) (acts_nothing gives c a ready)

  pub order_comes : (n : ℕ) (r : Done) (a b : Scene K)
      → ((n == 1) && not (is_leader_so (λ l. is_new_leader l.durable) (first_leader (hosted_in a.guests)))) ≡ false
      → Acts gives c [] (ordered c n (course_in a)) r a b → Acts gives c [] (tend_ordered c n (course_in a)) r a b
  unfolding tend_ordered
  order_comes n r a b e p =
      let s = course_in a in
      subst (λ (x : Bool). Acts gives c [] (if x then stays s else ordered c n s) r a b) (sym e) p

  pub report_due : (from who : RoleId) (before : ℕ) (r : Done) (a b : Scene K)
      → ticks_behind from before (held_by_role who (hosted_in a.guests)) ≡ true
      → Acts gives c [] (at_place (hosted_place who (hosted_in a.guests)) (Give 0 input.Tick) (course_in a)) r a b
      → Acts gives c [] (reported from who before (course_in a)) r a b
  unfolding reported
  report_due from who before r a b e p = due (ticks_behind from before (held_by_role who (hosted_in a.guests)))
      (at_place (hosted_place who (hosted_in a.guests)) (Give 0 input.Tick) (course_in a)) r a b e p

  pub report_none : (from who : RoleId) (before : ℕ) (a : Scene K) → ticks_behind from before (held_by_role who (hosted_in a.guests))
      ≡ false → AreReady c a.guests → Acts gives c [] (reported from who before (course_in a)) (Ok tt) a a
  unfolding reported
  report_none from who before a e ready = not_due (ticks_behind from before (held_by_role who (hosted_in a.guests)))
      (at_place (hosted_place who (hosted_in a.guests)) (Give 0 input.Tick) (course_in a)) a e ready

  pub collect_due : (r : Done) (a b : Scene K) → is_leader_so (λ l. can_collect l.volatile) (first_leader (hosted_in a.guests)) ≡ true
      → Acts gives c [] (gets (Some order.Collect) (course_in a)) r a b → Acts gives c [] (collected (course_in a)) r a b
  unfolding collected
  collect_due r a b e p =
      subst (λ (x : Bool). Acts gives c [] (gets (if x then Some order.Collect else None) (course_in a)) r a b) (sym e) p

  pub collect_none : (a : Scene K) → is_leader_so (λ l. can_collect l.volatile) (first_leader (hosted_in a.guests)) ≡ false
      → AreReady c a.guests → Acts gives c [] (collected (course_in a)) (Ok tt) a a
  unfolding collected
  collect_none a e ready = subst (λ (x : Bool). Acts gives c [] (gets (if x then Some order.Collect else None) (course_in a)) (Ok tt) a a)
      (sym e) (acts_nothing gives c a ready)

  -- what leader 0 does where it took something
  abbrev for_leader : RoleId → Course → Moved Course
  for_leader to s = if same_role to (role kind.Leader 0) then collected s else stays s

  abbrev taken_by : ℕ → Letter → Course → Moved Course
  taken_by n d s = at_place (hosted_place d.to s.hosted) (Give n (input.Take d)) s

  pub heed_take : (n : ℕ) (d : Letter) (e : Stop) (a b : Scene K) → Acts gives c [] (at_place (hosted_place d.to (hosted_in a.guests))
      (Give n (input.Take d)) (course_in a)) (Err e) a b → Acts gives c [] (heeded (numbered n d) (course_in a)) (Err e) a b
  unfolding heeded
  heed_take n d e a b p =
      let s = course_in a in
      acts_before gives c [] [] (taken_by n d s)
      (λ after. then_do (reported d.from d.to (held_by_role d.to s.hosted) after) (λ last. for_leader d.to last)) e a b p

  pub heed_report : (n : ℕ) (d : Letter) (e : Stop) (a b f : Scene K)
      → Acts gives c [] (at_place (hosted_place d.to (hosted_in a.guests)) (Give n (input.Take d)) (course_in a)) (Ok tt) a b
      → Acts gives c [] (reported d.from d.to (held_by_role d.to (hosted_in a.guests)) (course_in b)) (Err e) b f
      → Acts gives c [] (heeded (numbered n d) (course_in a)) (Err e) a f
  unfolding heeded
  heed_report n d e a b f p q =
      let s = course_in a in
      acts_then gives c [] [] (taken_by n d s)
      (λ after. then_do (reported d.from d.to (held_by_role d.to s.hosted) after) (λ last. for_leader d.to last)) (Err e) a b f p
      (acts_before gives c [] [] (reported d.from d.to (held_by_role d.to s.hosted) (course_in b)) (λ last. for_leader d.to last) e b f q)

  pub heed_collect : (n : ℕ) (d : Letter) (r : Done) (a b f h : Scene K)
      → Acts gives c [] (at_place (hosted_place d.to (hosted_in a.guests)) (Give n (input.Take d)) (course_in a)) (Ok tt) a b
      → Acts gives c [] (reported d.from d.to (held_by_role d.to (hosted_in a.guests)) (course_in b)) (Ok tt) b f
      → Acts gives c [] (if same_role d.to (role kind.Leader 0) then collected (course_in f) else stays (course_in f)) r f h
      → Acts gives c [] (heeded (numbered n d) (course_in a)) r a h
  unfolding heeded
  heed_collect n d r a b f h p q t =
      let s = course_in a in
      acts_then gives c [] [] (taken_by n d s)
      (λ after. then_do (reported d.from d.to (held_by_role d.to s.hosted) after) (λ last. for_leader d.to last)) r a b h p
      (acts_then gives c [] [] (reported d.from d.to (held_by_role d.to s.hosted) (course_in b)) (λ last. for_leader d.to last) r b f h q t)

  -- what a take of the link gave, and what came of it
  pub took_letter : (n : ℕ) (d : Letter) (gs : List (Guest K)) (known : Option Recorded) (link mid : Option LinkHistory)
      (out : Option (List ℕ)) (r : Done) (b : Scene K) → AreReady c gs → Receives known link mid (Ok (come.Letter n d))
      → Acts gives c [] (heeded (numbered n d) (course gs known)) r (scene gs known mid out) b → (what : Option (List ℕ))
      × Acts gives c (what ∷ []) (tend_comes what (course gs known)) r (scene gs known link out) b × (true ≡ is_some what)
  took_letter n d gs known link mid out r b ready got p =
      let s = course gs known in
      let what = got.0 in
      let is = letter_heeded what s n d got.2 in (
        what,
        subst (λ (m : Moved Course). Acts gives c (what ∷ []) m r (scene gs known link out) b) (sym is.0)
            (acts_then gives c (what ∷ []) [] (took what (stays s)) (λ after. heeded (numbered n d) after) r (scene gs known link out)
            (scene gs known mid out) b (acts_took gives c what gs known link mid out got.1 ready) p),
        sym is.1,
      )

  pub took_foreign : (gs : List (Guest K)) (known : Option Recorded) (link mid : Option LinkHistory) (out : Option (List ℕ)) → AreReady c gs
      → Receives known link mid (Ok come.Foreign)
      → (what : Option (List ℕ)) × Acts gives c (what ∷ []) (tend_comes what (course gs known)) (Ok tt) (scene gs known link out)
      (scene gs known mid out) × (true ≡ is_some what)
  took_foreign gs known link mid out ready got =
      let s = course gs known in
      let what = got.0 in
      let is = foreign_heeded what s got.2 in (
        what,
        subst (λ (m : Moved Course). Acts gives c (what ∷ []) m (Ok tt) (scene gs known link out) (scene gs known mid out)) (sym is.0)
            (acts_took gives c what gs known link mid out got.1 ready),
        sym is.1,
      )

  pub took_nothing : (gs : List (Guest K)) (known : Option Recorded) (link mid : Option LinkHistory) (out : Option (List ℕ)) → AreReady c gs
      → Receives known link mid (Ok come.Nothing)
      → (what : Option (List ℕ)) × Acts gives c (what ∷ []) (tend_comes what (course gs known)) (Ok tt) (scene gs known link out)
      (scene gs known mid out) × (false ≡ is_some what)
  took_nothing gs known link mid out ready got =
      let s = course gs known in
      let what = got.0 in
      let is = nothing_heeded what s got.2 in (
        what,
        subst (λ (m : Moved Course). Acts gives c (what ∷ []) m (Ok tt) (scene gs known link out) (scene gs known mid out)) (sym is.0)
            (acts_took gives c what gs known link mid out got.1 ready),
        sym is.1,
      )

  pub took_fault : (gs : List (Guest K)) (known : Option Recorded) (link mid : Option LinkHistory) (out : Option (List ℕ)) (e : Stop)
      → AreReady c gs → Receives known link mid (Err e)
      → (what : Option (List ℕ))
      × Acts gives c (what ∷ []) (tend_comes what (course gs known)) (Err e) (scene gs known link out) (scene gs known mid out)
  took_fault gs known link mid out LinkFault ready got = (
    None,
    subst (λ k. Acts gives c (None ∷ []) (tend_comes None (course gs known)) (Err LinkFault) (scene gs known link out)
        (scene gs known k out)) (sym got)
        (subst (λ (m : Moved Course). Acts gives c (None ∷ []) m (Err LinkFault) (scene gs known link out) (scene gs known link out))
        (sym (all_heeded None (course gs known))) (acts_cut gives c (None ∷ []) (stays (course gs known)) (scene gs known link out))),
  )
  took_fault gs known link mid out NoMemory ready got =
      let what = got.0 in (
        what,
        subst (λ (m : Moved Course). Acts gives c (what ∷ []) m (Err NoMemory) (scene gs known link out) (scene gs known mid out))
            (sym (all_heeded what (course gs known)))
            (acts_then gives c (what ∷ []) [] (took what (stays (course gs known))) (λ after. what_heeded what after) (Err NoMemory)
            (scene gs known link out) (scene gs known mid out) (scene gs known mid out)
            (acts_took gives c what gs known link mid out got.1 ready)
            (acts_none gives c [] (what_heeded what (course gs known)) (scene gs known mid out))),
      )
  took_fault gs known link mid out WriteFault ready got = absurd got
  took_fault gs known link mid out RecordFull ready got = absurd got
  took_fault gs known link mid out (StoreFault role) ready got = absurd got

  -- what is done in a pause that doesn't begin
  abbrev waits_on : Bool → Course → Moved Course
  waits_on t s = if t then those_tick (λ i h. awaits_votes_at h) s else stays s

  pub pause_begins : (k : Care) (came : Bool) (r : Done) (a b : Scene K) → (k.came && not came) ≡ true
      → Acts gives c [] (kind_ticks kind.Batcher (course_in a)) r a b → Acts gives c [] (paused k came (course_in a)) r a b
  unfolding paused
  pause_begins k came r a b e p =
      let s = course_in a in
      subst (λ (x : Bool). Acts gives c [] (if x then kind_ticks kind.Batcher s else waits_on ((k.calm == 7) && not came) s) r a b) (sym e)
      p

  pause_goes_on : (k : Care) (came : Bool) (r : Done) (a b : Scene K) → (k.came && not came) ≡ false
      → Acts gives c [] (waits_on ((k.calm == 7) && not came) (course_in a)) r a b → Acts gives c [] (paused k came (course_in a)) r a b
  unfolding paused
  pause_goes_on k came r a b e p =
      let s = course_in a in
      subst (λ (x : Bool). Acts gives c [] (if x then kind_ticks kind.Batcher s else waits_on ((k.calm == 7) && not came) s) r a b) (sym e)
      p

  pub pause_lasts : (k : Care) (came : Bool) (r : Done) (a b : Scene K) → (k.came && not came) ≡ false → ((k.calm == 7) && not came) ≡ true
      → Acts gives c [] (those_tick (λ i h. awaits_votes_at h) (course_in a)) r a b → Acts gives c [] (paused k came (course_in a)) r a b
  pause_lasts k came r a b e w p =
      pause_goes_on k came r a b e (due ((k.calm == 7) && not came) (those_tick (λ i h. awaits_votes_at h) (course_in a)) r a b w p)

  pub pause_none : (k : Care) (came : Bool) (a : Scene K) → (k.came && not came) ≡ false → ((k.calm == 7) && not came) ≡ false
      → AreReady c a.guests → Acts gives c [] (paused k came (course_in a)) (Ok tt) a a
  pause_none k came a e w ready = pause_goes_on k came (Ok tt) a a e
      (not_due ((k.calm == 7) && not came) (those_tick (λ i h. awaits_votes_at h) (course_in a)) a w ready)

  -- ---- what comes to the same

  pub moved_as : (m n : Moved Tended) (r : Done) (a b : Scene K) → m ≡ n → Acts gives c [] (without_care n) r a b
      → Acts gives c [] (without_care m) r a b
  moved_as m n r a b is p = subst (λ (x : Moved Tended). Acts gives c [] (without_care x) r a b) (sym is) p

  -- ---- a beat

  abbrev leader_part : Care → Course → Moved Tended
  leader_part k s = leader_tended c (first_leader s.hosted) (tended k s)

  -- one part of a beat after another
  abbrev rest_of_beat : Care → Course → Moved Course
  rest_of_beat k s =
      then_do (without_care (leader_part k s)) (λ last. without_care (clients_tended (tended (leader_part k s).next.care last)))

  pub beat_others : (k : Care) (e : Stop) (a b : Scene K) → Acts gives c [] (others_tick (course_in a)) (Err e) a b
      → Acts gives c [] (without_care (beat c (tended k (course_in a)))) (Err e) a b
  unfolding beat
  beat_others k e a b p = acts_before gives c [] [] (others_tick (course_in a)) (rest_of_beat k) e a b p

  pub beat_leader : (k : Care) (e : Stop) (a b d : Scene K) → Acts gives c [] (others_tick (course_in a)) (Ok tt) a b
      → Acts gives c [] (without_care (leader_tended c (first_leader (hosted_in b.guests)) (tended k (course_in b)))) (Err e) b d
      → Acts gives c [] (without_care (beat c (tended k (course_in a)))) (Err e) a d
  unfolding beat
  beat_leader k e a b d p q =
      let s = course_in b in
      acts_then gives c [] [] (others_tick (course_in a)) (rest_of_beat k) (Err e) a b d p (acts_before gives c [] []
      (without_care (leader_part k s)) (λ last. without_care (clients_tended (tended (leader_part k s).next.care last))) e b d q)

  pub beat_clients : (k now : Care) (r : Done) (a b d f : Scene K) → Acts gives c [] (others_tick (course_in a)) (Ok tt) a b
      → Acts gives c [] (without_care (leader_tended c (first_leader (hosted_in b.guests)) (tended k (course_in b)))) (Ok tt) b d
      → now ≡ (leader_tended c (first_leader (hosted_in b.guests)) (tended k (course_in b))).next.care
      → Acts gives c [] (without_care (clients_tended (tended now (course_in d)))) r d f
      → Acts gives c [] (without_care (beat c (tended k (course_in a)))) r a f
  unfolding beat
  beat_clients k now r a b d f p q is t =
      let s = course_in b in
      acts_then gives c [] [] (others_tick (course_in a)) (rest_of_beat k) r a b f p (acts_then gives c [] []
      (without_care (leader_part k s)) (λ last. without_care (clients_tended (tended (leader_part k s).next.care last))) r b d f q
      (subst (λ (x : Care). Acts gives c [] (without_care (clients_tended (tended x (course_in d)))) r d f) is t))

  -- what a beat leaves counted
  pub beat_counts : (k now last : Care) (r : Done) (a b d : Scene K) → Acts gives c [] (others_tick (course_in a)) (Ok tt) a b
      → Acts gives c [] (without_care (leader_tended c (first_leader (hosted_in b.guests)) (tended k (course_in b)))) (Ok tt) b d
      → now ≡ (leader_tended c (first_leader (hosted_in b.guests)) (tended k (course_in b))).next.care
      → OnOk r (last ≡ (clients_tended (tended now (course_in d))).next.care)
      → OnOk r (last ≡ (beat c (tended k (course_in a))).next.care)
  unfolding beat
  beat_counts k now last (Ok u) a b d p q is t =
      let s = course_in b in
      let there : tended now (course_in d) ≡ (leader_part k s).next = λ i. record { care = is i; course = q.done.course i } in
      t ∙ ap (λ (x : Tended). (clients_tended x).next.care) there
      ∙ ap (λ (x : Course). (clients_tended (leader_part k x).next).next.care) p.done.course
  beat_counts k now last (Err e) a b d p q is t = tt

  -- one part of a turn after another
  abbrev rest_of_turn : ℕ → Option (List ℕ) → Care → Course → Moved Course
  rest_of_turn most what k s = then_do (paused k (is_some what) s) (λ last. without_care (turn_ended c most (is_some what) (tended k last)))

  pub tend_prepare_order : (n : ℕ) (e : Stop) (a b : Scene K) → Acts gives c [] (tend_ordered c n (course_in a)) (Err e) a b
      → Acts gives c [] (tend_prepared c n (course_in a)) (Err e) a b
  unfolding tend_prepared
  tend_prepare_order n e a b p = acts_before gives c [] [] (tend_ordered c n (course_in a)) (λ led. snaps n led) e a b p

  pub tend_prepare_snap : (n : ℕ) (r : Done) (a b d : Scene K) → Acts gives c [] (tend_ordered c n (course_in a)) (Ok tt) a b
      → Acts gives c [] (snaps n (course_in b)) r b d → Acts gives c [] (tend_prepared c n (course_in a)) r a d
  unfolding tend_prepared
  tend_prepare_snap n r a b d p q = acts_then gives c [] [] (tend_ordered c n (course_in a)) (λ led. snaps n led) r a b d p q

  pub turn_prepare : (most n : ℕ) (k now : Care) (e : Stop) (a b : Scene K) → Acts gives c [] (tend_prepared c n (course_in a)) (Err e) a b
      → TendsOnce gives c (λ what. tended_turn c most n what (tended k (course_in a))) (Err e) a b now
  unfolding tended_turn
  turn_prepare most n k now e a b p = (
    None,
    acts_before gives c [] (None ∷ []) (tend_prepared c n (course_in a))
        (λ after. then_do (tend_comes None after) (rest_of_turn most None k)) e a b p,
    tt,
  )

  pub turn_take : (most n : ℕ) (k now : Care) (e : Stop) (a b d : Scene K) → Acts gives c [] (tend_prepared c n (course_in a)) (Ok tt) a b
      → (q : (what : Option (List ℕ)) × Acts gives c (what ∷ []) (tend_comes what (course_in b)) (Err e) b d)
      → TendsOnce gives c (λ what. tended_turn c most n what (tended k (course_in a))) (Err e) a d now
  unfolding tended_turn
  turn_take most n k now e a b d p q =
      let what = q.0 in (
        what,
        acts_then gives c [] (what ∷ []) (tend_prepared c n (course_in a))
            (λ after. then_do (tend_comes what after) (rest_of_turn most what k)) (Err e) a b d p
            (acts_before gives c (what ∷ []) [] (tend_comes what (course_in b)) (rest_of_turn most what k) e b d q.1),
        tt,
      )

  pub turn_pause : (most n : ℕ) (k now : Care) (came : Bool) (e : Stop) (a b d f : Scene K)
      → Acts gives c [] (tend_prepared c n (course_in a)) (Ok tt) a b
      → (q : (what : Option (List ℕ)) × Acts gives c (what ∷ []) (tend_comes what (course_in b)) (Ok tt) b d × (came ≡ is_some what))
      → Acts gives c [] (paused k came (course_in d)) (Err e) d f
      → TendsOnce gives c (λ what. tended_turn c most n what (tended k (course_in a))) (Err e) a f now
  unfolding tended_turn
  turn_pause most n k now came e a b d f p q t =
      let what = q.0 in
      let pausing = subst (λ (x : Bool). Acts gives c [] (paused k x (course_in d)) (Err e) d f) q.2 t in (
        what,
        acts_then gives c [] (what ∷ []) (tend_prepared c n (course_in a))
            (λ after. then_do (tend_comes what after) (rest_of_turn most what k)) (Err e) a b f p
            (acts_then gives c (what ∷ []) [] (tend_comes what (course_in b)) (rest_of_turn most what k) (Err e) b d f q.1
            (acts_before gives c [] [] (paused k (is_some what) (course_in d))
            (λ last. without_care (turn_ended c most (is_some what) (tended k last))) e d f pausing)),
        tt,
      )

  -- what a turn leaves counted
  turn_counts : (most n : ℕ) (k now : Care) (what : Option (List ℕ)) (r : Done) (a b d f : Scene K)
      → Acts gives c [] (tend_prepared c n (course_in a)) (Ok tt) a b
      → Acts gives c (what ∷ []) (tend_comes what (course_in b)) (Ok tt) b d → Acts gives c [] (paused k (is_some what) (course_in d))
      (Ok tt) d f → OnOk r (now ≡ (turn_ended c most (is_some what) (tended k (course_in f))).next.care)
      → OnOk r (now ≡ (tended_turn c most n what (tended k (course_in a))).next.care)
  unfolding tended_turn
  turn_counts most n k now what (Ok u) a b d f p q t is =
      let last = λ (x : Course). (turn_ended c most (is_some what) (tended k x)).next.care in
      is ∙ ap last t.done.course ∙ ap (λ (x : Course). last (paused k (is_some what) x).next) q.done.course
      ∙ ap (λ (x : Course). last (paused k (is_some what) (tend_comes what x).next).next) p.done.course
  turn_counts most n k now what (Err e) a b d f p q t is = tt

  pub turn_end : (most n : ℕ) (k now : Care) (came : Bool) (r : Done) (a b d f h : Scene K)
      → Acts gives c [] (tend_prepared c n (course_in a)) (Ok tt) a b
      → (q : (what : Option (List ℕ)) × Acts gives c (what ∷ []) (tend_comes what (course_in b)) (Ok tt) b d × (came ≡ is_some what))
      → Acts gives c [] (paused k came (course_in d)) (Ok tt) d f
      → Acts gives c [] (without_care (turn_ended c most came (tended k (course_in f)))) r f h
      → OnOk r (now ≡ (turn_ended c most came (tended k (course_in f))).next.care)
      → TendsOnce gives c (λ what. tended_turn c most n what (tended k (course_in a))) r a h now
  unfolding tended_turn
  turn_end most n k now came r a b d f h p q t u is =
      let what = q.0 in
      let pausing = subst (λ (x : Bool). Acts gives c [] (paused k x (course_in d)) (Ok tt) d f) q.2 t in
      let ending = subst (λ (x : Bool). Acts gives c [] (without_care (turn_ended c most x (tended k (course_in f)))) r f h) q.2 u in
      let counts = subst (λ (x : Bool). OnOk r (now ≡ (turn_ended c most x (tended k (course_in f))).next.care)) q.2 is in (
        what,
        acts_then gives c [] (what ∷ []) (tend_prepared c n (course_in a))
            (λ after. then_do (tend_comes what after) (rest_of_turn most what k)) r a b h p
            (acts_then gives c (what ∷ []) [] (tend_comes what (course_in b)) (rest_of_turn most what k) r b d h q.1
            (acts_then gives c [] [] (paused k (is_some what) (course_in d))
            (λ last. without_care (turn_ended c most (is_some what) (tended k last))) r d f h pausing ending)),
        turn_counts most n k now what r a b d f p q.1 pausing counts,
      )
