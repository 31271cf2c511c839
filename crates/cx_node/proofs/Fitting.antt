-- What of a step's lines fits a record.
use Rattle.cx_role.proofs.Common.{◌≡◌, ◌+◌, ◌++◌, ℕ, true, false, nat_le, List, [], length, arith, Option, None, Some, refl, sym, ap, ap₂}
use Rattle.cx_role.proofs.Common.{◌∙◌, append-nil, nat_tests, length-append, Event, KeeperChange, Letter}
use Rattle.cx_seat.specs.Prelude.{has_room_for, step_events, Hosted, does, Doing, Changing, HasChangeFailedIn, Grows, Rests, hosted_of}
use Rattle.cx_seat.specs.Prelude.{keeper_of, who, Recorded, has_room}
use Rattle.cx_course.specs.Course.{own_event, requests_by}
use Rattle.cx_course.proofs.Doings.{asks_nothing}
use Rattle.cx_seat.specs.declared.guest.Guest.{Guest}
use Rattle.cx_seat.specs.declared.guest.Guest.TheVariants as guest
use Rattle.cx_record.specs.Numbers.{most_lines}

more_full : (lines n more most : ℕ) → nat_le (lines + n) most ≡ false → nat_le (lines + (n + more)) most ≡ false
more_full lines n more most full = grind (arith, nat_tests)

-- where some lines don't fit, more don't
pub full_with : (r : Recorded) (own more : List Event) → has_room (length own) r ≡ false
    → has_room (length (own ++ more)) r ≡ false
full_with r own more full =
    ap (λ (n : ℕ). nat_le (r.lines + n) most_lines) (length-append own more)
    ∙ more_full r.lines (length own) (length more) most_lines full

-- a role with a store sends no requests
asks_none : {K : Type 0} (gives : Changing K) (h : Guest K) (what : Doing) (o : Option KeeperChange) (b : Option K)
    → HasChangeFailedIn gives o (keeper_of h) b
    → requests_by (does (hosted_of h) what).next (does (hosted_of h) what).sends ≡ []
asks_none gives (guest.Client role) what o b fails = absurd fails
asks_none gives other what o b fails = asks_nothing (hosted_of other) what refl

-- so its own lines are all
pub own_is_all : {K : Type 0} (gives : Changing K) (h : Guest K) (what : Doing) (o : Option KeeperChange) (b : Option K)
    (r : Recorded)
    → HasChangeFailedIn gives o (keeper_of h) b → has_room (length (own_event (who h) what)) r ≡ true
    → has_room_for (Some r) (step_events (hosted_of h) what) ≡ true
own_is_all gives h what o b r fails room =
    ap (λ (es : List Event). has_room (length es) r)
    (ap (λ es. own_event (who h) what ++ es) (asks_none gives h what o b fails) ∙ append-nil (own_event (who h) what))
    ∙ room

-- a role that has no keeper in the end had none
pub rests_without : {K : Type 0} (gives : Changing K) (rs : List KeeperChange) (a b : Option K) → Grows gives rs a b → b ≡ None
    → Rests gives a b
rests_without gives rs None None grows none = tt
rests_without gives rs None (Some b) grows none = absurd grows
rests_without gives rs (Some a) None grows none = absurd grows
rests_without gives rs (Some a) (Some b) grows none = cc

-- where its own event doesn't fit, a step doesn't
pub full_own : {K : Type 0} (h : Guest K) (what : Doing) (r : Recorded) (own : List Event) → own ≡ own_event (who h) what
    → has_room (length own) r ≡ false → has_room_for (Some r) (step_events (hosted_of h) what) ≡ false
full_own h what r own is full =
    full_with r (own_event (who h) what) (requests_by (does (hosted_of h) what).next (does (hosted_of h) what).sends)
    (ap (λ (es : List Event). has_room (length es) r) (sym is) ∙ full)

-- the events of a step are its own, and the requests of what it sends
pub all_events : {K : Type 0} (h after : Guest K) (what : Doing) (own all : List Event) (sends : List Letter)
    → own ≡ own_event (who h) what → all ≡ own ++ requests_by (hosted_of after) sends
    → hosted_of after ≡ (does (hosted_of h) what).next → sends ≡ (does (hosted_of h) what).sends
    → all ≡ step_events (hosted_of h) what
all_events h after what own all sends own_is all_is next sends_are =
    all_is ∙ ap₂ (λ (es fs : List Event). es ++ fs) own_is (ap₂ (λ (s : Hosted) (ds : List Letter). requests_by s ds) next sends_are)
