-- The moments of a recording node's run: what stands between two steps follows at each of them, and every change of a store that is next.
use Rattle.cx_role.proofs.Common.{◌≡◌, ◌≤◌, ◌+◌, ℕ, zero, suc, Bool, true, false, List, [], ◌∷◌, ◌++◌, length, map, nat_le, take, Option}
use Rattle.cx_role.proofs.Common.{None, Some, ap, sym, ◌∙◌, subst, refl, arith, append-nil, append_assoc, slice_get, option_map, true≢false}
use Rattle.cx_role.proofs.Common.{nat_tests, none-some, same_Some, Cluster, Event, KeeperChange, run, Written}
use Rattle.cx_inv_open.specs.Reopened.{stored_as}
use Rattle.cx_record.specs.Lines.{events_text}
use Rattle.cx_record.specs.Numbers.{Recorded, most_lines}
use Rattle.cx_course.specs.declared.doing.Doing.{Doing}
use Rattle.cx_course.specs.Action.{Action, Answered, Filled, Kept, Noted, Printed, Sent, Took, kept_as, noted_in, sent_in, step_actions}
use Rattle.cx_course.specs.Changing.{StoreChange, change_for, changed_by}
use Rattle.cx_course.specs.Course.{Course, Moved, does_at, found_does, made, made_if, stays, step_events, then_do, took}
use Rattle.cx_course.specs.Follows.{Follows, IsNextOf, is_between}
use Rattle.cx_course.specs.Hosted.{Hosted, does, name_of}
use Rattle.cx_course.proofs.Doings.{IsFair}
use Rattle.cx_course.proofs.Following.{Stands, lands, next_change, stands_follow, stands_then}
use Rattle.cx_course.proofs.Roles.{Lands}
use Rattle.cx_course.proofs.Past.{past_of, past_same, past_step}

-- At each moment between two steps while these actions are done, after those, what was done follows; and so does each change that is next.
abbrev pub Along : Cluster → List Action → List Action → Type 0
Along c p [] = Unit {0}
Along c p (x ∷ q) = (is_between (Some x) ≡ true → Follows c p) × ((k : StoreChange) → x ≡ Kept k → IsNextOf c p k) × Along c (p ++ x ∷ []) q

along_append : (c : Cluster) (p q r : List Action) → Along c p q → Along c (p ++ q) r → Along c p (q ++ r)
along_append c p [] r a b = subst (λ l. Along c l r) (append-nil p) b
along_append c p (x ∷ q) r a b =
    (a.0, a.1, along_append c (p ++ x ∷ []) q r a.2 (subst (λ l. Along c l r) (sym (append_assoc p (x ∷ []) q)) b))

abbrev is_none : {A : Type 0} → List A → Bool
is_none [] = true
is_none (x ∷ xs) = false

no_change : (x : Action) (k : StoreChange) → kept_as x ≡ [] → x ≡ Kept k → ⊥
no_change x k none is = true≢false (sym (ap is_none none) ∙ ap (λ y. is_none (kept_as y)) is)

-- actions within a step
within : {B : Type 0} (make : B → Action) → ((b : B) → is_between (Some (make b)) ≡ false) → ((b : B) → kept_as (make b) ≡ [])
    → (c : Cluster) (p : List Action) (xs : List B) → Along c p (map make xs)
within make off none c p [] = tt
within make off none c p (x ∷ xs) = (
  λ is. absurd (true≢false (sym is ∙ off x)),
  λ k is. absurd (no_change (make x) k (none x) is),
  within make off none c (p ++ make x ∷ []) xs,
)

-- ---- what a part of a run comes to

-- all its moments follow, and behind it the node stands beside the run
abbrev pub Goes : {S : Type 0} → (S → Course) → Cluster → List Action → Moved S → Type 0
Goes of c p m = Along c p m.actions × Stands c (past_of (p ++ m.actions)) (of m.next)

abbrev pub self : Course → Course
self s = s

pub stays_go : {S : Type 0} (of : S → Course) (c : Cluster) (p : List Action) (s : S) → Stands c (past_of p) (of s) → Goes of c p (stays s)
stays_go of c p s st = (tt, subst (λ l. Stands c (past_of l) (of s)) (sym (append-nil p)) st)

pub then_go : {S T : Type 0} (f : S → Course) (g : T → Course) (c : Cluster) (p : List Action) (m : Moved S) (k : S → Moved T)
    → Goes f c p m → ((q : List Action) → Stands c (past_of q) (f m.next) → Goes g c q (k m.next)) → Goes g c p (then_do m k)
then_go f g c p m k one rest =
    let r = rest (p ++ m.actions) one.1 in (
      along_append c p m.actions ((k m.next).actions) one.0 r.0,
      subst (λ l. Stands c (past_of l) (g ((k m.next).next))) (append_assoc p m.actions ((k m.next).actions)) r.1,
    )

pub took_go : (c : Cluster) (p : List Action) (s : Course) (what : Option (List ℕ)) (m : Moved Course) → Stands c (past_of p) s
    → ((q : List Action) → sent_in q ≡ sent_in p → Stands c (past_of q) s → Goes self c q m) → Goes self c p (took what m)
took_go c p s what m st rest =
    let same = past_same p (Took what) refl refl refl refl in
    let r = rest (p ++ Took what ∷ []) (ap (λ t. t.sent) same) (subst (λ t. Stands c t s) (sym same) st) in (
      (λ is. stands_follow c p s st, λ k is. absurd (no_change (Took what) k refl is), r.0),
      subst (λ l. Stands c (past_of l) m.next) (append_assoc p (Took what ∷ []) m.actions) r.1,
    )

-- ---- a step

module _ (c : Cluster) (p : List Action) (hs : List Hosted) (st : Stands c (past_of p)
    (record { hosted = hs; recorded = Some (record { sent = sent_in p; lines = length (noted_in p) }) })) (i : ℕ) (what : Doing) where
  abbrev Here : Course
  Here = record { hosted = hs; recorded = Some (record { sent = sent_in p; lines = length (noted_in p) }) }

  module _ (h : Hosted) (here : slice_get hs i ≡ Some h) (fair : IsFair (run c (noted_in p)) (name_of h) what) where
    abbrev Changes : List StoreChange
    Changes = (does h what).kept

    abbrev Events : List Event
    Events = step_events h what

    abbrev For : Written → KeeperChange
    For y = change_for (stored_as (name_of h) (run c (noted_in p)).kept (name_of h).kind) y

    abbrev came : Lands (run c (noted_in p)) Events (name_of h) (does h what)
    came = lands c (past_of p) hs st i what h here fair

    one_kept : (k : StoreChange) → IsNextOf c p k → Along c p (Kept k ∷ [])
    one_kept k next = (λ is. stands_follow c p Here st, λ j same. subst (IsNextOf c p) (ap (λ x. first_or k (kept_as x)) same) next, tt)
      where
        first_or : StoreChange → List StoreChange → StoreChange
        first_or d [] = d
        first_or d (x ∷ xs) = x

    kept_along : (o : Option Written) → came.what ≡ o → Along c p (map Kept Changes)
    kept_along None is = subst (λ ks. Along c p (map Kept ks)) (sym (came.kept ∙ ap (λ o. changed_by (name_of h) (option_map For o)) is)) tt
    kept_along (Some y) is =
        let k : StoreChange = record { role = name_of h; change = For y } in
        let alone : Changes ≡ k ∷ [] = came.kept ∙ ap (λ o. changed_by (name_of h) (option_map For o)) is in
        let next = next_change c (past_of p) hs st i what h here fair y is k alone in
        subst (λ ks. Along c p (map Kept ks)) (sym alone)
        (one_kept k (record { event = next.0; what = y; keeps = next.1; change_is = next.2 }))

    step_along : Along c p
        (step_actions Changes (does h what).sends (events_text Events) (map Noted Events ++ map Answered (does h what).answers))
    step_along =
        let x = does h what in
        let q = p ++ map Kept Changes in
        let r = q ++ map Sent x.sends in
        let v = r ++ map Printed (events_text Events) in
        along_append c p (map Kept Changes)
        (map Sent x.sends ++ (map Printed (events_text Events) ++ (map Noted Events ++ map Answered x.answers))) (kept_along came.what refl)
        (along_append c q (map Sent x.sends) (map Printed (events_text Events) ++ (map Noted Events ++ map Answered x.answers))
        (within Sent (λ b. refl) (λ b. refl) c q x.sends)
        (along_append c r (map Printed (events_text Events)) (map Noted Events ++ map Answered x.answers)
        (within Printed (λ b. refl) (λ b. refl) c r (events_text Events))
        (along_append c v (map Noted Events) (map Answered x.answers) (within Noted (λ b. refl) (λ b. refl) c v Events)
        (within Answered (λ b. refl) (λ b. refl) c (v ++ map Noted Events) x.answers))))

    made_goes : length (noted_in p) + length Events ≤ most_lines → Goes self c p (made i Here Events (does h what))
    made_goes room =
        let x = does h what in (
          step_along,
          subst (λ t. Stands c t ((made i Here Events x).next)) (sym (past_step Changes x.sends (events_text Events) Events x.answers p))
              (stands_then c (past_of p) hs st i what h here fair room),
        )

    -- where its lines don't fit, it isn't made
    full_goes : Goes self c p (record { next = Here; actions = Filled ∷ [] })
    full_goes = (
      (λ is. stands_follow c p Here st, λ k is. absurd (no_change Filled k refl is), tt),
      subst (λ t. Stands c t Here) (sym (past_same p Filled refl refl refl refl)) st,
    )

    fit_goes : (b : Bool) → nat_le (length (noted_in p) + length Events) most_lines ≡ b
        → Goes self c p (made_if b i Here Events (does h what))
    fit_goes true is = made_goes (at_most (length (noted_in p) + length Events) is)
      where
        at_most : (n : ℕ) → nat_le n most_lines ≡ true → n ≤ most_lines
        at_most n is = grind (arith, nat_tests)
    fit_goes false is = full_goes

  found_goes : ((h : Hosted) → slice_get hs i ≡ Some h → IsFair (run c (noted_in p)) (name_of h) what) → (o : Option Hosted)
      → slice_get hs i ≡ o → Goes self c p (found_does i Here what o)
  found_goes fair None here = stays_go self c p Here st
  found_goes fair (Some h) here = fit_goes h here (fair h here) (nat_le (length (noted_in p) + length (step_events h what)) most_lines) refl

-- whatever a hosted role does
pub does_go : (c : Cluster) (p : List Action) (s : Course) (i : ℕ) (what : Doing) → Stands c (past_of p) s
    → ((h : Hosted) → slice_get s.hosted i ≡ Some h → IsFair (run c (noted_in p)) (name_of h) what) → Goes self c p (does_at i what s)
unfolding does_at
does_go c p s i what st fair =
    let here : Course = record { hosted = s.hosted; recorded = Some (record { sent = sent_in p; lines = length (noted_in p) }) } in
    let same : s ≡ here = ap (λ (r : Option Recorded). course s.hosted r) st.recorded in
    subst (λ x. Goes self c p (found_does i x what (slice_get s.hosted i))) (sym same)
    (found_goes c p s.hosted (subst (Stands c (past_of p)) same st) i what fair (slice_get s.hosted i) refl)
  where
    course : List Hosted → Option Recorded → Course
    course hs r = record { hosted = hs; recorded = r }

-- ---- the whole run

pub follows_between : (c : Cluster) (p q : List Action) → Along c p q → Follows c (p ++ q) → (count : ℕ)
    → is_between (slice_get q count) ≡ true → Follows c (p ++ take count q)
follows_between c p [] a end zero is = end
follows_between c p [] a end (suc n) is = end
follows_between c p (x ∷ q) a end zero is = subst (Follows c) (sym (append-nil p)) (a.0 is)
follows_between c p (x ∷ q) a end (suc n) is =
    subst (Follows c) (append_assoc p (x ∷ []) (take n q))
    (follows_between c (p ++ x ∷ []) q a.2 (subst (Follows c) (sym (append_assoc p (x ∷ []) q)) end) n is)

pub keeps_next : (c : Cluster) (p q : List Action) → Along c p q → (count : ℕ) (k : StoreChange) → slice_get q count ≡ Some (Kept k)
    → IsNextOf c (p ++ take count q) k
keeps_next c p [] a count k is = absurd (none-some (Kept k) is)
keeps_next c p (x ∷ q) a zero k is = subst (λ l. IsNextOf c l k) (sym (append-nil p)) (a.1 k (same_Some x (Kept k) is))
keeps_next c p (x ∷ q) a (suc n) k is =
    subst (λ l. IsNextOf c l k) (append_assoc p (x ∷ []) (take n q)) (keeps_next c (p ++ x ∷ []) q a.2 n k is)
