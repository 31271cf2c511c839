-- Turns, one after the other, and the end of a run.
use Rattle.cx_base.proofs.Common.{◌≡◌, ◌⊎◌, ◌<◌, ℕ, suc, ◌+◌, false, List, [], ◌∷◌, ◌++◌, length, length-append, take, take_at, arith}
use Rattle.cx_base.proofs.Common.{Option, None, Some, Result, Ok, Err, refl, sym, ap, ◌∙◌, subst, append_assoc, append-nil, add-zero, inl}
use Rattle.cx_base.proofs.Common.{inr, take-append-le, IfErr, OnOk}
use Rattle.cx_seat.specs.Prelude.{Changing, Begin, hosted_in, TakeResults, Course, Moved, stays, then_do, all_do, all_finished, Care}
use Rattle.cx_seat.specs.Prelude.{Tended, any_turn, first_care, no_care, within, without_care}
use Rattle.cx_base.specs.declared.cluster.Cluster.{Cluster}
use Rattle.cx_node.specs.declared.node.RunEnd.{RunEnd}
use Rattle.cx_node.specs.declared.node.Stop.{Stop}
use Rattle.cx_node.specs.declared.node.Stop.TheVariants.{NoMemory}
use Rattle.cx_node.specs.Acts.{Acts, ActsLong, ActsOnce}
use Rattle.cx_node.specs.Doing.{Scene, course_in}
use Rattle.cx_node.specs.Node.{IsUnderway, RunsPart}
use Rattle.cx_course.specs.Run.{node_turn, turns_from}
use Rattle.cx_course.specs.Tending.{node_run}
use Rattle.cx_node.specs.Tends.{TendsOnce, tended}
use Rattle.cx_node.proofs.Actions.{acts_before, acts_none, acts_nothing, acts_then}

abbrev with_next : {S T : Type 0} → Moved S → Moved T → Moved T
with_next m n = then_do m (λ s. n)

with_next_again : {S : Type 0} (m n o : Moved S) → with_next m (with_next n o) ≡ with_next (with_next m n) o
with_next_again m n o = λ i. record { next = o.next; actions = sym (append_assoc m.actions n.actions o.actions) i }

then_stays : {S : Type 0} (m : Moved S) → then_do m (λ s. stays s) ≡ m
then_stays m = λ i. record { next = m.next; actions = append-nil m.actions i }

-- one turn more
turns_more : {S : Type 0} (step : ℕ → Option (List ℕ) → S → Moved S) (n : ℕ) (ts : TakeResults) (what : Option (List ℕ))
    (s : S) → turns_from step n (ts ++ what ∷ []) s ≡ then_do (turns_from step n ts s)
    (λ after. step (n + length ts) what after)
turns_more step n [] what s = then_stays (step n what s) ∙ ap (λ k. step k what s) (sym (add-zero n))
turns_more step n (t ∷ ts) what s =
    let m = step n t s in
    let rest = turns_from step (n + 1) ts m.next in
    let number : (n + 1) + length ts ≡ n + suc (length ts) = omega arith in
    ap (with_next m) (turns_more step (n + 1) ts what m.next ∙ ap (λ k. with_next rest (step k what rest.next)) number)
    ∙ with_next_again m rest (step (n + suc (length ts)) what rest.next)

-- a run with what is counted in it
abbrev whole : Option ℕ → Cluster → TakeResults → Course → Moved Tended
whole tend c ts s =
    then_do (within (all_do Begin) (tended (first_care tend s.hosted) s))
    (λ after. turns_from (any_turn tend c) 1 ts after)

whole_more : (tend : Option ℕ) (c : Cluster) (ts : TakeResults) (what : Option (List ℕ)) (s : Course)
    → whole tend c (ts ++ what ∷ []) s ≡ then_do (whole tend c ts s)
    (λ after. any_turn tend c (length ts + 1) what after)
whole_more tend c ts what s =
    let m = within (all_do Begin) (tended (first_care tend s.hosted) s) in
    let rest = turns_from (any_turn tend c) 1 ts m.next in
    let number : 1 + length ts ≡ length ts + 1 = omega arith in
    ap (with_next m) (turns_more (any_turn tend c) 1 ts what m.next
    ∙ ap (λ k. with_next rest (any_turn tend c k what rest.next)) number)
    ∙ with_next_again m rest (any_turn tend c (length ts + 1) what rest.next)

-- a node that doesn't tend counts nothing
untended_turns : (c : Cluster) (n : ℕ) (ts : TakeResults) (t : Tended)
    → without_care (turns_from (any_turn None c) n ts t) ≡ turns_from (node_turn c) n ts t.course
untended_turns c n [] t = refl
untended_turns c n (what ∷ ts) t =
    let m = node_turn c n what t.course in ap (with_next m) (untended_turns c (n + 1) ts (tended t.care m.next))

run_is : (tend : Option ℕ) (c : Cluster) (ts : TakeResults) (s : Course)
    → node_run tend c ts s ≡ without_care (whole tend c ts s)
unfolding node_run
run_is None c ts s =
    let m = all_do Begin s in ap (with_next m) (sym (untended_turns c 1 ts (tended (no_care []) m.next)))
run_is (Some most) c ts s = refl

on_ok : (r : Result (Unit {0}) Stop) (k : Care) → OnOk r (k ≡ k)
on_ok (Ok u) k = refl
on_ok (Err e) k = tt

-- a turn in which nothing is counted
pub once_untended : {K : Type 0} (gives : Changing K) (c : Cluster) (n : ℕ) (r : Result (Unit {0}) Stop)
    (a b : Scene K) (k : Care) → ActsOnce gives c (λ what. node_turn c n what (course_in a)) r a b
    → TendsOnce gives c (λ what. any_turn None c n what (tended k (course_in a))) r a b k
once_untended gives c n r a b k q = (q.0, q.1, on_ok r k)

abbrev pub care_after : Option ℕ → Cluster → TakeResults → Course → Care
care_after tend c ts s = (whole tend c ts s).next.care

abbrev turn_on : Option ℕ → Cluster → ℕ → Option (List ℕ) → Care → Course → Moved Course
turn_on tend c n what k s = without_care (any_turn tend c n what (tended k s))

run_more : (tend : Option ℕ) (c : Cluster) (ts : TakeResults) (what : Option (List ℕ)) (s : Course)
    → node_run tend c (ts ++ what ∷ []) s ≡ then_do (node_run tend c ts s)
    (λ after. turn_on tend c (length ts + 1) what (care_after tend c ts s) after)
run_more tend c ts what s =
    run_is tend c (ts ++ what ∷ []) s ∙ ap without_care (whole_more tend c ts what s)
    ∙ ap (λ (m : Moved Course). then_do m
    (λ after. turn_on tend c (length ts + 1) what (care_after tend c ts s) after)) (sym (run_is tend c ts s))

care_more : (tend : Option ℕ) (c : Cluster) (ts : TakeResults) (what : Option (List ℕ)) (s : Course)
    → care_after tend c (ts ++ what ∷ []) s ≡ (any_turn tend c (length ts + 1) what (tended (care_after tend c ts s)
    ((node_run tend c ts s).next))).next.care
care_more tend c ts what s =
    ap (λ (m : Moved Tended). m.next.care) (whole_more tend c ts what s)
    ∙ ap (λ (m : Moved Course). (any_turn tend c (length ts + 1) what
    (tended (care_after tend c ts s) m.next)).next.care) (sym (run_is tend c ts s))

pub no_end : (tend : Option ℕ) (c : Cluster) (limit : ℕ) (s : Course) → IsUnderway tend c limit s []
no_end tend c limit s =
    record { most = omega arith; not_before = λ k short. let none : ⊥ = omega (arith, short) in absurd none }

-- another turn was made, since the run wasn't at its end
ends_more : (tend : Option ℕ) (c : Cluster) (limit : ℕ) (s : Course) (ts : TakeResults) (what : Option (List ℕ))
    → length ts < limit → all_finished ((node_run tend c ts s).next.hosted) ≡ false
    → IsUnderway tend c limit s ts → IsUnderway tend c limit s (ts ++ what ∷ [])
ends_more tend c limit s ts what more not_yet e =
    record {
      most = omega (arith, length-append ts (what ∷ []), more);
      not_before = λ k short. go k (cases k (subst (λ n. k < n) (length-append ts (what ∷ [])) short));
    }
  where
    cases : (k : ℕ) → k < length ts + 1 → (k < length ts) ⊎ (k ≡ length ts)
    cases k h = grind (arith, h)

    go : (k : ℕ) → (k < length ts) ⊎ (k ≡ length ts) → all_finished ((node_run tend c (take k (ts ++ what ∷ [])) s).next.hosted) ≡ false
    go k (inl short) =
        subst (λ l. all_finished ((node_run tend c l s).next.hosted) ≡ false)
        (sym (take-append-le k ts (what ∷ []) (omega (arith, short)))) (e.not_before k short)
    go k (inr same) =
        subst (λ l. all_finished ((node_run tend c l s).next.hosted) ≡ false)
        (sym (take_at ts (what ∷ []) k (sym same))) not_yet

module _ {K : Type 0} (gives : Changing K) (tend : Option ℕ) (c : Cluster) (limit : ℕ) where
  -- a run with this many turns was made, and this is counted after it
  abbrev pub Underway : ℕ → Scene K → Scene K → Care → Type 0
  Underway made a b k =
      (ts : TakeResults) × Acts gives c ts (node_run tend c ts (course_in a)) (Ok tt) a b
      × IsUnderway tend c limit (course_in a) ts × (length ts ≡ made)
      × (k ≡ care_after tend c ts (course_in a))

  pub begun_underway : (a b : Scene K) (k : Care) → k ≡ first_care tend (hosted_in a.guests)
      → Acts gives c [] (all_do Begin (course_in a)) (Ok tt) a b → Underway 0 a b k
  begun_underway a b k first p =
      let s = course_in a in (
        [],
        subst (λ (m : Moved Course). Acts gives c [] m (Ok tt) a b) (sym (run_is tend c [] s))
            (acts_then gives c [] [] (all_do Begin s) (λ after. stays after) (Ok tt) a b b p
            (acts_nothing gives c b p.ready)),
        no_end tend c limit s,
        refl,
        first,
      )

  pub stopped_begun : (e : Stop) (a b : Scene K) → Acts gives c [] (all_do Begin (course_in a)) (Err e) a b
      → ActsLong gives tend c limit (Err e) a b
  stopped_begun e a b p =
      let s = course_in a in (
        [],
        subst (λ (m : Moved Course). Acts gives c [] m (Err e) a b) (sym (run_is tend c [] s))
            (acts_before gives c [] [] (all_do Begin s) (λ after. stays after) e a b p),
        no_end tend c limit s,
        tt,
      )

  -- it stopped before all that
  pub never_begun : (a : Scene K) → ActsLong gives tend c limit (Err NoMemory) a a
  never_begun a =
      let s = course_in a in
      ([], acts_none gives c [] (node_run tend c [] s) a, no_end tend c limit s, tt)

  turned : (n : ℕ) (r : Result (Unit {0}) Stop) (a b d : Scene K) (k j : Care) → n < limit
      → all_finished (hosted_in b.guests) ≡ false
      → (u : Underway n a b k) (t : TendsOnce gives c
      (λ what. any_turn tend c (n + 1) what (tended k (course_in b))) r b d j)
      → Acts gives c (u.0 ++ t.0 ∷ []) (node_run tend c (u.0 ++ t.0 ∷ []) (course_in a)) r a d
      × IsUnderway tend c limit (course_in a) (u.0 ++ t.0 ∷ [])
  turned n r a b d k j more not_yet u t =
      let s = course_in a in
      let ts = u.0 in
      let numbered : Acts gives c (t.0 ∷ []) (turn_on tend c (length ts + 1) t.0 k (course_in b)) r b d =
      subst (λ m. Acts gives c (t.0 ∷ []) (turn_on tend c (m + 1) t.0 k (course_in b)) r b d) (sym u.3) t.1 in
      let q : Acts gives c (t.0 ∷ []) (turn_on tend c (length ts + 1) t.0 (care_after tend c ts s)
      (course_in b)) r b d =
      subst (λ x. Acts gives c (t.0 ∷ []) (turn_on tend c (length ts + 1) t.0 x
      (course_in b)) r b d) u.4 numbered in (
        subst (λ (m : Moved Course). Acts gives c (ts ++ t.0 ∷ []) m r a d) (sym (run_more tend c ts t.0 s))
            (acts_then gives c ts (t.0 ∷ []) (node_run tend c ts s)
            (λ after. turn_on tend c (length ts + 1) t.0 (care_after tend c ts s) after) r a b d u.1 q),
        ends_more tend c limit s ts t.0 (subst (λ m. m < limit) (sym u.3) more)
            (ap (λ (x : Course). all_finished x.hosted) (sym u.1.done.course) ∙ not_yet) u.2,
      )

  pub turned_underway : (n : ℕ) (a b d : Scene K) (k j : Care) → n < limit → all_finished (hosted_in b.guests) ≡ false
      → Underway n a b k → TendsOnce gives c (λ what. any_turn tend c (n + 1) what (tended k (course_in b)))
      (Ok tt) b d j → Underway (n + 1) a d j
  turned_underway n a b d k j more not_yet u t =
      let s = course_in a in
      let ts = u.0 in
      let p = turned n (Ok tt) a b d k j more not_yet u t in
      let numbered : j ≡ (any_turn tend c (length ts + 1) t.0 (tended k (course_in b))).next.care =
      subst (λ m. j ≡ (any_turn tend c (m + 1) t.0 (tended k (course_in b))).next.care) (sym u.3) t.2 in
      let cared : j ≡ (any_turn tend c (length ts + 1) t.0
      (tended (care_after tend c ts s) (course_in b))).next.care =
      subst (λ x. j ≡ (any_turn tend c (length ts + 1) t.0 (tended x (course_in b))).next.care) u.4 numbered in
      let hosted : j ≡ (any_turn tend c (length ts + 1) t.0
      (tended (care_after tend c ts s) ((node_run tend c ts s).next))).next.care =
      subst (λ x. j ≡ (any_turn tend c (length ts + 1) t.0
      (tended (care_after tend c ts s) x)).next.care) u.1.done.course cared in (
        ts ++ t.0 ∷ [],
        p.0,
        p.1,
        length-append ts (t.0 ∷ []) ∙ ap (λ m. m + 1) u.3,
        hosted
            ∙ sym (care_more tend c ts t.0 s),
      )

  pub stopped_turn : (n : ℕ) (e : Stop) (a b d : Scene K) (k j : Care) → n < limit
      → all_finished (hosted_in b.guests) ≡ false
      → Underway n a b k → TendsOnce gives c (λ what. any_turn tend c (n + 1) what (tended k (course_in b)))
      (Err e) b d j → ActsLong gives tend c limit (Err e) a d
  stopped_turn n e a b d k j more not_yet u t =
      let p = turned n (Err e) a b d k j more not_yet u t in (u.0 ++ t.0 ∷ [], p.0, p.1, tt)

  -- what is said of the turns, under the answer of the whole run
  pub run_stops : (e : Stop) (r : Result RunEnd Stop) (a b : Scene K) → r ≡ Err e
      → ActsLong gives tend c limit (Err e) a b → IfErr r (λ x. RunsPart gives x tend c limit a b)
  run_stops e r a b is p =
      subst (λ (o : Result RunEnd Stop). IfErr o (λ x. RunsPart gives x tend c limit a b)) (sym is)
      (p.0, p.2, p.1.part)
