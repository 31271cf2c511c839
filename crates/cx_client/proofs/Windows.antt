-- What is true of requests whose numbers rise: which of them are outstanding, and what becomes of them once a number is completed.
use Rattle.std.proofs.lemmas.List.{set_at}
use Rattle.std.proofs.lemmas.List.Filters.{length-filter_both}
use lib.Seq.{paste}
use Rattle.cx_base.proofs.Common.{◌≡◌, ◌⊎◌, inl, inr, None, Some, ℕ, zero, suc, ◌+◌, ◌-◌, ◌≤◌, ◌<◌, Bool, true, false, not, cond, List, []}
use Rattle.cx_base.proofs.Common.{◌∷◌, ◌++◌, drop, filter, length, get_or, take, min, eqb-true, IfSome, refl, sym, subst, ap, ◌∙◌, arith}
use Rattle.cx_base.proofs.Common.{nat_le, nat_lt, slice_get, list_any, list_all, position, position_or_len, and_from, and_parts, cases_Bool}
use Rattle.cx_base.proofs.Common.{or_from, or_right, nat_tests, append_assoc, get_or-take, length-take, length-take-le, take_all, take_more}
use Rattle.cx_base.proofs.Common.{position-Some, fails_before_first, set, floor_fits, is_valid_event}
use Rattle.cx_inv_run.proofs.Common.{Event, Member-all, Member-filter, filter-Member, Member}
use Rattle.cx_base.specs.declared.event.Event.TheVariants as event
use Rattle.cx_script.specs.Requests.{number_of, rise_above}
use Rattle.cx_client.specs.Window.{first_of, floor_for, has_number, is_near, is_outstanding, newly, outstanding, event_with_floor}
use Rattle.cx_client.specs.Window.{without_request}

-- ---- numbers that rise

both : (n : ℕ) (e : Event) (es : List Event) → rise_above n (e ∷ es) ≡ true → (n < number_of e) × (rise_above (number_of e) es ≡ true)
both n e es rising =
    let p = and_parts (nat_lt n (number_of e)) (rise_above (number_of e) es) rising in
    let first = p.0 in
    (grind (arith, nat_tests, first), p.1)

begins : (n : ℕ) (e : Event) (es : List Event) → n < number_of e → rise_above (number_of e) es ≡ true → rise_above n (e ∷ es) ≡ true
begins n e es above rising = and_from (nat_lt n (number_of e)) (rise_above (number_of e) es) (grind (arith, nat_tests, above)) rising

-- numbers above one are above each lower one
pub lower : (n m : ℕ) (es : List Event) → m ≤ n → rise_above n es ≡ true → rise_above m es ≡ true
lower n m [] least rising = refl
lower n m (e ∷ es) least rising = (let p = both n e es rising in let above = p.0 in begins m e es (omega (arith, above, least)) p.1)

pub rises_on : (n : ℕ) (e : Event) (es : List Event) → rise_above n (e ∷ es) ≡ true → rise_above n es ≡ true
rises_on n e es rising = (let p = both n e es rising in let above = p.0 in lower (number_of e) n es (omega (arith, above)) p.1)

pub filter_rises : (p : Event → Bool) (n : ℕ) (es : List Event) → rise_above n es ≡ true → rise_above n (filter p es) ≡ true
filter_rises p n [] rising = refl
filter_rises p n (e ∷ es) rising =
    by_own (p e) (both n e es rising) (filter_rises p (number_of e) es) (filter_rises p n es (rises_on n e es rising))
  where
    by_own : (test : Bool) → (n < number_of e) × (rise_above (number_of e) es ≡ true)
        → (rise_above (number_of e) es ≡ true → rise_above (number_of e) (filter p es) ≡ true)
        → rise_above n (filter p es) ≡ true → rise_above n (cond test (e ∷ filter p es) (filter p es)) ≡ true
    by_own true parts selected rest = begins n e (filter p es) parts.0 (selected parts.1)
    by_own false parts selected rest = rest

pub take_rises : (k n : ℕ) (es : List Event) → rise_above n es ≡ true → rise_above n (take k es) ≡ true
take_rises zero n es rising = refl
take_rises (suc k) n [] rising = refl
take_rises (suc k) n (e ∷ es) rising = (let p = both n e es rising in begins n e (take k es) p.0 (take_rises k (number_of e) es p.1))

pub above : (n : ℕ) (es : List Event) → rise_above n es ≡ true → (e : Event) → Member e es → n < number_of e
above n [] rising e m = absurd m
above n (x ∷ es) rising e (inl same) = subst (λ (y : Event). n < number_of y) (sym same) (both n x es rising).0
above n (x ∷ es) rising e (inr m) = above n es (rises_on n x es rising) e m

-- they rise above the floor that is told with them
pub rise_above_floor : (left : List Event) → rise_above 0 left ≡ true → rise_above (floor_for left) left ≡ true
rise_above_floor [] rising = refl
rise_above_floor (e ∷ es) rising = (let p = both 0 e es rising in let some = p.0 in begins (number_of e - 1) e es (omega (arith, some)) p.1)

-- requests of one number are one
pub one_number : (n : ℕ) (es : List Event) → rise_above n es ≡ true → (a b : Event) → Member a es → Member b es
    → number_of a ≡ number_of b → a ≡ b
one_number n [] rising a b m o same = absurd m
one_number n (x ∷ es) rising a b (inl is) (inl also) same = is ∙ sym also
one_number n (x ∷ es) rising a b (inl is) (inr o) same =
    let later : number_of x < number_of b = above (number_of x) es (both n x es rising).1 b o in
    let first : number_of a ≡ number_of x = ap number_of is in
    absurd (omega (arith, later, first, same))
one_number n (x ∷ es) rising a b (inr m) (inl also) same =
    let later : number_of x < number_of a = above (number_of x) es (both n x es rising).1 a m in
    let first : number_of b ≡ number_of x = ap number_of also in
    absurd (omega (arith, later, first, same))
one_number n (x ∷ es) rising a b (inr m) (inr o) same = one_number n es (rises_on n x es rising) a b m o same

-- ---- those that are outstanding

pub taken : (k : ℕ) (e : Event) (es : List Event) → Member e (take k es) → Member e es
taken zero e es m = absurd m
taken (suc k) e [] m = absurd m
taken (suc k) e (x ∷ es) (inl same) = inl same
taken (suc k) e (x ∷ es) (inr m) = inr (taken k e es m)

pub is_left : (window : ℕ) (left : List Event) (e : Event) → Member e (outstanding window left) → Member e left
is_left window left e m = taken window e left (Member-filter (is_near (first_of left)) e (take window left) m).0

-- where one isn't near enough, no later one is
none_near : (first n : ℕ) (es : List Event) → first + 63 ≤ n → rise_above n es ≡ true → filter (is_near first) es ≡ []
none_near first n [] far rising = refl
none_near first n (e ∷ es) far rising =
    let parts = both n e es rising in
    let more = parts.0 in
    let test : is_near first e ≡ false = grind (arith, nat_tests, far, more) in
    rw (test, none_near first (number_of e) es (omega (arith, far, more)) parts.1) refl

-- those that are near enough stand in front
pub near_front : (first n : ℕ) (es : List Event) → rise_above n es ≡ true → (window : ℕ)
    → (k : ℕ) × (filter (is_near first) (take window es) ≡ take k es)
near_front first n es rising zero = (0, refl)
near_front first n [] rising (suc window) = (0, refl)
near_front first n (e ∷ es) rising (suc window) =
    by_test (cases_Bool (is_near first e)) (both n e es rising) (near_front first (number_of e) es (both n e es rising).1 window)
  where
    by_test : (is_near first e ≡ true) ⊎ (is_near first e ≡ false) → (n < number_of e) × (rise_above (number_of e) es ≡ true) → (k : ℕ)
        × (filter (is_near first) (take window es) ≡ take k es) → (k : ℕ) × (filter (is_near first) (e ∷ take window es) ≡ take k (e ∷ es))
    by_test (inl near) parts rest = (suc rest.0, rw (near, rest.1) refl)
    by_test (inr far) parts rest =
        let most : first + 63 ≤ number_of e = grind (arith, nat_tests, far) in
        (0, rw (far, none_near first (number_of e) (take window es) most (take_rises window (number_of e) es parts.1)) refl)

take_one : (n : ℕ) (e : Event) (es : List Event) → take (1 + n) (e ∷ es) ≡ e ∷ take n es
take_one n e es = (let next : 1 + n ≡ suc n = omega arith in rw next refl)

near_count : (first n : ℕ) (es : List Event) → rise_above n es ≡ true
    → filter (is_near first) es ≡ take (position_or_len (λ (e : Event). not (is_near first e)) es) es
near_count first n [] rising = refl
near_count first n (e ∷ es) rising =
    by_test (cases_Bool (is_near first e)) (both n e es rising) (near_count first (number_of e) es (both n e es rising).1)
  where
    by_test : (is_near first e ≡ true) ⊎ (is_near first e ≡ false) → (n < number_of e) × (rise_above (number_of e) es ≡ true)
        → filter (is_near first) es ≡ take (position_or_len (λ (x : Event). not (is_near first x)) es) es
        → filter (is_near first) (e ∷ es) ≡ take (position_or_len (λ (x : Event). not (is_near first x)) (e ∷ es)) (e ∷ es)
    by_test (inl near) parts rest =
        rw near (ap (λ (xs : List Event). e ∷ xs) rest ∙ sym (take_one (position_or_len (λ (x : Event). not (is_near first x)) es) e es))
    by_test (inr far) parts rest = (let most : first + 63 ≤ number_of e = grind (arith, nat_tests, far) in
        rw (far, none_near first (number_of e) es most parts.1) refl)

place_is : (p : Event → Bool) (es : List Event) (k : ℕ) → position p es ≡ Some k → position_or_len p es ≡ k
place_is p es k is = go (nat_lt (position_or_len p es) (length es)) (position_or_len p es) is
  where
    go : (test : Bool) (n : ℕ) → cond test (Some n) None ≡ Some k → n ≡ k
    go true n is = cc
    go false n is = cc

-- what is outstanding ends before the first that isn't near enough
pub outstanding_to : (window : ℕ) (left : List Event) → rise_above 0 left ≡ true → (k : ℕ)
    → position (λ (e : Event). not (is_near (first_of left) e)) (take window left) ≡ Some k
    → take k (take window left) ≡ outstanding window left
outstanding_to window left rising k is =
    let far = λ (e : Event). not (is_near (first_of left) e) in
    let whole : outstanding window left ≡ take (position_or_len far (take window left)) (take window left) =
    near_count (first_of left) 0 (take window left) (take_rises window 0 left rising) in
    subst (λ (n : ℕ). take n (take window left) ≡ outstanding window left) (place_is far (take window left) k is) (sym whole)

-- where none is found it is the end
at_end : (p : Event → Bool) (es : List Event) → position p es ≡ None → length es ≤ position_or_len p es
at_end p es is = go (cases_Bool (nat_lt (position_or_len p es) (length es)))
  where
    go : (nat_lt (position_or_len p es) (length es) ≡ true) ⊎ (nat_lt (position_or_len p es) (length es) ≡ false)
        → length es ≤ position_or_len p es
    go (inl less) = (let none : Some (position_or_len p es) ≡ None = rw less at is in absurd cc)
    go (inr most) = grind (arith, nat_tests, most)

pub outstanding_all : (window : ℕ) (left : List Event) → rise_above 0 left ≡ true
    → position (λ (e : Event). not (is_near (first_of left) e)) (take window left) ≡ None → take window left ≡ outstanding window left
outstanding_all window left rising is =
    let far = λ (e : Event). not (is_near (first_of left) e) in
    let whole : outstanding window left ≡ take (position_or_len far (take window left)) (take window left) =
    near_count (first_of left) 0 (take window left) (take_rises window 0 left rising) in
    sym (whole ∙ take_all (position_or_len far (take window left)) (take window left) (at_end far (take window left) is))

-- the first is outstanding
pub first_is : (window : ℕ) (e : Event) (left : List Event) → 1 ≤ window → Member e (outstanding window (e ∷ left))
first_is zero e left some = absurd (omega (arith, some))
first_is (suc n) e left some =
    let near : is_near (number_of e) e ≡ true = grind (arith, nat_tests) in
    filter-Member (is_near (number_of e)) e (e ∷ take n left) (inl refl) near

-- ---- which floor may be told

valid_telling : (floor : ℕ) (e : Event) → floor_fits (number_of e) floor ≡ true → is_valid_event (event_with_floor floor e) ≡ true
valid_telling floor (event.Write command batcher) fits = fits
valid_telling floor (event.Read client seq before reader replica key) fits = fits
valid_telling floor (event.Session client seq before replica key) fits = fits
valid_telling floor other fits = refl

-- with each outstanding request the floor may be told
pub fits : (window : ℕ) (left : List Event) → rise_above 0 left ≡ true → (e : Event) → Member e (outstanding window left)
    → floor_fits (number_of e) (floor_for left) ≡ true
fits window left rising e m =
    let p = Member-filter (is_near (first_of left)) e (take window left) m in
    let near = p.1 in
    let more : floor_for left < number_of e = above (floor_for left) left (rise_above_floor left rising) e (taken window e left p.0) in
    let a : nat_lt (floor_for left) (number_of e) ≡ true = grind (arith, nat_tests, more) in
    let b : nat_le (number_of e) (floor_for left + 64) ≡ true = grind (arith, nat_tests, near) in
    and_from (nat_lt (floor_for left) (number_of e)) (nat_le (number_of e) (floor_for left + 64)) a b

pub all_valid : (window : ℕ) (left : List Event) → rise_above 0 left ≡ true
    → list_all (λ (e : Event). is_valid_event (event_with_floor (floor_for left) e)) (outstanding window left) ≡ true
all_valid window left rising = Member-all (λ (e : Event). is_valid_event (event_with_floor (floor_for left) e)) (outstanding window left)
    (λ e m. valid_telling (floor_for left) e (fits window left rising e m))

-- no uncompleted number is at or below it
pub all_below : (left : List Event) → rise_above 0 left ≡ true → list_all (λ (e : Event). nat_lt (floor_for left) (number_of e)) left ≡ true
all_below left rising = Member-all (λ (e : Event). nat_lt (floor_for left) (number_of e)) left
    (λ e m. (let more = above (floor_for left) left (rise_above_floor left rising) e m in grind (arith, nat_tests, more)))

-- ---- once a number is completed

-- no number that rises above another is that one
none_has : (n : ℕ) (es : List Event) → rise_above n es ≡ true → (filter (has_number n) es ≡ []) × (without_request n es ≡ es)
none_has n es rising = go n es (λ e m. above n es rising e m)
  where
    go : (n : ℕ) (es : List Event) → ((e : Event) → Member e es → n < number_of e)
        → (filter (has_number n) es ≡ []) × (without_request n es ≡ es)
    go n [] all = (refl, refl)
    go n (e ∷ es) all =
        let more : n < number_of e = all e (inl refl) in
        let test : has_number n e ≡ false = grind (arith, nat_tests, more) in
        let rest = go n es (λ x m. all x (inr m)) in
        (rw (test, rest.0) refl, rw (test, rest.1) refl)

-- a request is the only one of its number
pub only_one : (m : ℕ) (es : List Event) → rise_above m es ≡ true → (e : Event) → Member e es
    → filter (has_number (number_of e)) es ≡ e ∷ []
only_one m [] rising e here = absurd here
only_one m (x ∷ es) rising e (inl same) =
    let none = none_has (number_of e) es (subst (λ (y : Event). rise_above (number_of y) es ≡ true) (sym same) (both m x es rising).1) in
    let test : has_number (number_of e) x ≡ true = (let number = ap number_of same in grind (arith, nat_tests, number)) in
    rw (test, none.0) (ap (λ (y : Event). y ∷ []) (sym same))
only_one m (x ∷ es) rising e (inr here) =
    let parts = both m x es rising in
    let later : number_of x < number_of e = above (number_of x) es parts.1 e here in
    let test : has_number (number_of e) x ≡ false = grind (arith, nat_tests, later) in
    rw (test, only_one (number_of x) es parts.1 e here) refl

pub at_place : (i : ℕ) (es : List Event) (d : Event) → i < length es → Member (get_or es i d) es
at_place i [] d inside = absurd (omega (arith, inside))
at_place zero (e ∷ es) d inside = inl refl
at_place (suc i) (e ∷ es) d inside = inr (at_place i es d (omega (arith, inside)))

-- without the request at a place those before it and those behind it are left
pub without_at : (m : ℕ) (es : List Event) → rise_above m es ≡ true → (i : ℕ) (d : Event) → i < length es
    → without_request (number_of (get_or es i d)) es ≡ take i es ++ drop (suc i) es
without_at m [] rising i d inside = absurd (omega (arith, inside))
without_at m (e ∷ es) rising zero d inside =
    let none = none_has (number_of e) es (both m e es rising).1 in
    let test : has_number (number_of e) e ≡ true = grind (arith, nat_tests) in
    rw (test, none.1) refl
without_at m (e ∷ es) rising (suc i) d inside =
    let parts = both m e es rising in
    let later : number_of e < number_of (get_or es i d) =
    above (number_of e) es parts.1 (get_or es i d) (at_place i es d (omega (arith, inside))) in
    let test : has_number (number_of (get_or es i d)) e ≡ false = grind (arith, nat_tests, later) in
    rw (test, without_at (number_of e) es parts.1 i d (omega (arith, inside))) refl

-- ---- what the code finds

-- what is outstanding is a front of what is left
front : (window : ℕ) (left : List Event) → rise_above 0 left ≡ true → (k : ℕ) × (outstanding window left ≡ take k left)
front window left rising = near_front (first_of left) 0 left rising window

any_at : (p : Event → Bool) (es : List Event) (i : ℕ) (d : Event) → i < length es → p (get_or es i d) ≡ true → list_any p es ≡ true
any_at p [] i d inside here = absurd (omega (arith, inside))
any_at p (e ∷ es) zero d inside here = rw here refl
any_at p (e ∷ es) (suc i) d inside here = or_right (p e) (list_any p es) (any_at p es i d (omega (arith, inside)) here)

pub some_of : (es : List Event) (n : ℕ) → n < length es → Event
some_of [] n inside = absurd (omega (arith, inside))
some_of (e ∷ es) n inside = e

within : (p : Event → Bool) (es : List Event) (k : ℕ) → position p es ≡ Some k → k < length es
within p es k is =
    let same : position_or_len p es ≡ k = place_is p es k is in
    elim (cases_Bool (nat_lt (position_or_len p es) (length es))) [
      | inl less ↦ grind (arith, nat_tests, less, same)
      | inr most ↦ (let none : None ≡ Some k = rw most at is in absurd cc)
    ]

-- the request at the place that was found
pub found_at : (window n : ℕ) (left : List Event) → rise_above 0 left ≡ true → (place : ℕ)
    → position (has_number n) (outstanding window left) ≡ Some place
    → (d : Event) × (is_outstanding window left n ≡ true) × (place < length left) × (number_of (get_or left place d) ≡ n)
found_at window n left rising place is =
    let d = some_of (outstanding window left) place (within (has_number n) (outstanding window left) place is) in
    let parts = go d (front window left rising) (position-Some (has_number n) (outstanding window left) place d is) in
    (d, parts.0, parts.1, parts.2)
  where
    go : (d : Event) → (k : ℕ) × (outstanding window left ≡ take k left)
        → (place < length (outstanding window left)) × (has_number n (get_or (outstanding window left) place d) ≡ true)
        × ((i : ℕ) → i < place → has_number n (get_or (outstanding window left) i d) ≡ false)
        → (is_outstanding window left n ≡ true) × (place < length left) × (number_of (get_or left place d) ≡ n)
    go d (k, same) (inside, here, before) =
        let long : length (outstanding window left) ≡ min k (length left) = ap length same ∙ length-take k left in
        let less : place < k = omega (arith, inside, long) in
        let one : get_or (outstanding window left) place d ≡ get_or left place d =
        ap (λ (es : List Event). get_or es place d) same ∙ get_or-take k left place d less in (
          any_at (has_number n) (outstanding window left) place d inside here,
          omega (arith, inside, long),
          ap number_of (sym one) ∙ eqb-true (number_of (get_or (outstanding window left) place d)) n here,
        )

-- none was found
pub none_found : (p : Event → Bool) (es : List Event) → position p es ≡ None → list_any p es ≡ false
none_found p es is = go es (λ i d inside. fails_before_first p es i d (let end = at_end p es is in omega (arith, inside, end)))
  where
    go : (xs : List Event) → ((i : ℕ) (d : Event) → i < length xs → p (get_or xs i d) ≡ false) → list_any p xs ≡ false
    go [] all = refl
    go (x ∷ xs) all = or_from (p x) (list_any p xs) (all 0 x (omega arith)) (go xs (λ i d inside. all (suc i) d (omega (arith, inside))))

-- the last number of requests, or this one where there are none
abbrev pub last_or : ℕ → List Event → ℕ
last_or n [] = n
last_or n (e ∷ es) = last_or (number_of e) es

pub last_is : (n : ℕ) (es : List Event) (sent : ℕ) → IfSome (slice_get es (length es - 1)) (λ e. sent ≡ number_of e) → (es ≡ [] → sent ≡ n)
    → sent ≡ last_or n es
last_is n [] sent last none = none refl
last_is n (e ∷ []) sent last none = last
last_is n (e ∷ x ∷ es) sent last none =
    let place : length (e ∷ x ∷ es) - 1 ≡ suc (length (x ∷ es) - 1) = omega arith in
    last_is (number_of e) (x ∷ es) sent (subst (λ (k : ℕ). IfSome (slice_get (e ∷ x ∷ es) k) (λ y. sent ≡ number_of y)) place last)
    (λ (h : x ∷ es ≡ []). cc)

least_last : (n : ℕ) (es : List Event) → rise_above n es ≡ true → n ≤ last_or n es
least_last n [] rising = omega arith
least_last n (e ∷ es) rising =
    let parts = both n e es rising in
    let more = parts.0 in
    let rest : number_of e ≤ last_or (number_of e) es = least_last (number_of e) es parts.1 in
    omega (arith, more, rest)

-- those above the last of a front are those that aren't in it
behind_front : (n k : ℕ) (left : List Event) → rise_above n left ≡ true → (e : Event) → Member e left
    → nat_lt (last_or n (take k left)) (number_of e) ≡ not (list_any (has_number (number_of e)) (take k left))
behind_front n k [] rising e m = absurd m
behind_front n zero (x ∷ es) rising e m = (let more = above n (x ∷ es) rising e m in grind (arith, nat_tests, more))
behind_front n (suc k) (x ∷ es) rising e (inl same) =
    let here : has_number (number_of e) x ≡ true = (let number = ap number_of same in grind (arith, nat_tests, number)) in
    let least : number_of x ≤ last_or (number_of x) (take k es) =
    least_last (number_of x) (take k es) (take_rises k (number_of x) es (both n x es rising).1) in
    let number = ap number_of same in
    let test : nat_lt (last_or (number_of x) (take k es)) (number_of e) ≡ false = grind (arith, nat_tests, least, number) in
    rw (here, test) refl
behind_front n (suc k) (x ∷ es) rising e (inr m) =
    let parts = both n x es rising in
    let later : number_of x < number_of e = above (number_of x) es parts.1 e m in
    let test : has_number (number_of e) x ≡ false = grind (arith, nat_tests, later) in
    rw test (behind_front (number_of x) k es parts.1 e m)

filter_where : (p q : Event → Bool) (es : List Event) → ((e : Event) → Member e es → p e ≡ q e) → filter p es ≡ filter q es
filter_where p q [] same = refl
filter_where p q (e ∷ es) same = rw (same e (inl refl), filter_where p q es (λ x m. same x (inr m))) refl

-- what becomes outstanding is above all that was
pub newly_is : (window n : ℕ) (left : List Event) (sent : ℕ) → rise_above 0 left ≡ true → sent ≡ last_or 0 (outstanding window left)
    → filter (λ (e : Event). nat_lt sent (number_of e)) (outstanding window (without_request n left)) ≡ newly window n left
newly_is window n left sent rising is = go (front window left rising)
  where
    go : (k : ℕ) × (outstanding window left ≡ take k left)
        → filter (λ (e : Event). nat_lt sent (number_of e)) (outstanding window (without_request n left)) ≡ newly window n left
    go (k, same) =
        let last : sent ≡ last_or 0 (take k left) = is ∙ ap (last_or 0) same in
        filter_where (λ (e : Event). nat_lt sent (number_of e)) (λ (e : Event). not (is_outstanding window left (number_of e)))
        (outstanding window (without_request n left)) (λ e m.
        let here : Member e left =
        (Member-filter (λ (x : Event). not (has_number n x)) e left (is_left window (without_request n left) e m)).0 in
        rw (last, same) (behind_front 0 k left rising e here))

-- all are above 0
pub all_above : (window : ℕ) (left : List Event) → rise_above 0 left ≡ true
    → filter (λ (e : Event). nat_lt 0 (number_of e)) (outstanding window left) ≡ outstanding window left
all_above window left rising = go 0 (outstanding window left) (λ e m. above 0 left rising e (is_left window left e m))
  where
    go : (n : ℕ) (es : List Event) → ((e : Event) → Member e es → n < number_of e) → filter (λ (e : Event). nat_lt n (number_of e)) es ≡ es
    go n [] all = refl
    go n (e ∷ es) all =
        let first : n < number_of e = all e (inl refl) in
        let test : nat_lt n (number_of e) ≡ true = grind (arith, nat_tests, first) in
        rw (test, go n es (λ x m. all x (inr m))) refl

filter_least : (p : Event → Bool) (es : List Event) → length (filter p es) ≤ length es
filter_least p es = (let all = length-filter_both p (λ e. not (p e)) (λ e. refl) es in omega (arith, all))

-- no more are outstanding than the window has room for
pub at_most : (window : ℕ) (left : List Event) → length (outstanding window left) ≤ window
at_most window left =
    let fewer : length (outstanding window left) ≤ length (take window left) = filter_least (is_near (first_of left)) (take window left) in
    let long : length (take window left) ≡ min window (length left) = length-take window left in
    omega (arith, fewer, long)

-- ---- a request that is brought forward

pub brought : (script : List Event) (done place : ℕ) (e : Event) → done + place < length script
    → set (paste script (done + 1) (drop done script) (done + place - done)) done e
    ≡ take done script ++ e ∷ (take place (drop done script) ++ drop (done + place + 1) script)
brought script done place e inside =
    let mid = take place (drop done script) in
    let rest = drop (done + place + 1) script in
    let count : done + place - done ≡ place = omega arith in
    let end : done + 1 + place ≡ done + place + 1 = omega arith in
    let front : take (done + 1) script ≡ take done script ++ get_or script done e ∷ [] = take_more script done e (omega (arith, inside)) in
    let all : paste script (done + 1) (drop done script) (done + place - done)
    ≡ (take done script ++ get_or script done e ∷ []) ++ mid ++ rest = rw (count, end, front) refl in
    let grouped : paste script (done + 1) (drop done script) (done + place - done)
    ≡ take done script ++ get_or script done e ∷ (mid ++ rest) =
    all ∙ append_assoc (take done script ++ get_or script done e ∷ []) mid rest
    ∙ append_assoc (take done script) (get_or script done e ∷ []) (mid ++ rest) in
    ap (λ (es : List Event). set es done e) grouped
    ∙ set_at (take done script) (get_or script done e) (mid ++ rest) e done (length-take-le done script (omega (arith, inside)))
