-- What a hosted role does, seen of all hosted roles.
use Rattle.std.proofs.lemmas.List.{map-set}
use Rattle.cx_role.proofs.Common.{refl, sym, ap, ◌∙◌, subst, inl, inr, take, IsTrue, Option, None, Some, option_map, Ok, Err, slice_get}
use Rattle.cx_role.proofs.Common.{slice_set, ◌≡◌, ◌⊎◌, ◌==◌, ℕ, zero, suc, true, false, List, [], ◌∷◌, ◌++◌, length, length-set, map}
use Rattle.cx_role.proofs.Common.{Appends-nil, length-map, same_Some, slice_get-map, IfSome, Appends, same_role, Cluster, Event, RoleId}
use Rattle.cx_role.proofs.Common.{bool_cases, differ_role, get_set_other, get_set_same, not_both, number_itself, same_number, names_role}
use Rattle.cx_role.proofs.Common.{Letter}
use Rattle.cx_seat.specs.Prelude.{LinkHistory, Doing, Action, Filled, Kept, Printed, bound_in, step_actions, taken_in, changes_of, Changing}
use Rattle.cx_seat.specs.Prelude.{AreDistinct, AreReady, HasChangeFailedIn, Grows, GuestGrows, Rests, hosted_in, hosted_of, keeper_of, who}
use Rattle.cx_seat.specs.Prelude.{Step, does, is_live_role, kind_at, name_of, Course, Moved, has_room_for, step_events, noting, Recorded}
use Rattle.cx_seat.specs.Prelude.{has_room}
use Rattle.cx_edge.specs.Sink.{AppendsPart}
use Rattle.cx_seat.specs.declared.guest.Guest.{Guest}
use Rattle.cx_node.specs.declared.node.Stop.{Stop}
use Rattle.cx_node.specs.declared.node.Stop.TheVariants as stop
use Rattle.cx_course.specs.Action.{Answered, Noted, Sent}
use Rattle.cx_node.specs.Acts.{Acts}
use Rattle.cx_node.specs.Doing.{HasLinkSent, HasLinkSentPart, Did, DidPart, GuestsGrow, GuestsRest, scene}
use Rattle.cx_seat.specs.Guest.{IsGuestReady}
use Rattle.cx_course.specs.Course.{does_at, found_does, made, made_if, seen}
use Rattle.cx_seat.specs.Noting.{with_more_lines, shown}
use Rattle.cx_record.specs.Lines.{events_text}
use Rattle.cx_record.specs.Numbers.{with_step}
use Rattle.cx_node.proofs.Asked.{IsNoted, are_noted, linked_step, none_noted, step_bound, step_kept, step_made, step_printed, step_taken}
use Rattle.cx_node.proofs.Done.{did_nothing, guests_rest, rests_itself, same_at, stands_at}
use Rattle.cx_node.proofs.Grown.{grows_none}
use Rattle.cx_node.proofs.Seated.{kept_own, kept_first, kind_stays, renewed_by, fails_some, cut_sends, cut_text}

-- what a record has of a step
abbrev noted_of : Option Recorded → List Event → Step → List Action
noted_of None events s = []
noted_of (Some r) events s = map Noted events ++ map Answered s.answers

noted_is : (r : Option Recorded) (events : List Event) (s : Step) → IsNoted (noted_of r events s)
noted_is None events s = none_noted
noted_is (Some r) events s = are_noted events s.answers

-- what is seen of a step, whether its node records or not
abbrev done_by : Option Recorded → List Event → Step → List Action
done_by r events s = step_actions s.kept s.sends (shown r events s.text) (noted_of r events s)

seen_is : (r : Option Recorded) (events : List Event) (s : Step) → seen r events s ≡ done_by r events s
seen_is None events s = refl
seen_is (Some r) events s = refl

-- what is known of the record after a step
recorded_after : (r : Option Recorded) (events : List Event) (sends : List Letter)
    → option_map (with_more_lines (length events)) (option_map (noting sends) r) ≡ option_map (with_step (length events) sends) r
recorded_after None events sends = refl
recorded_after (Some r) events sends = refl

-- what is shown is that of the step's events, and so is what is known of the record
pub shown_is : (r : Option Recorded) (noted events : List Event) (text : List ℕ) → IfSome r (λ x. noted ≡ events)
    → shown r noted text ≡ shown r events text
shown_is None noted events text is = refl
shown_is (Some r) noted events text is = ap events_text is

shown_as : (r : Option Recorded) (sends : List Letter) (noted : List Event) (own : List ℕ)
    → shown (option_map (noting sends) r) noted own ≡ shown r noted own
shown_as None sends noted own = refl
shown_as (Some r) sends noted own = refl

counted_is : (r : Option Recorded) (noted events : List Event) → IfSome r (λ x. noted ≡ events)
    → option_map (with_more_lines (length noted)) r ≡ option_map (with_more_lines (length events)) r
counted_is None noted events is = refl
counted_is (Some r) noted events is = ap (λ (es : List Event). Some (with_more_lines (length es) r)) is

fits_is : (r : Option Recorded) (noted events : List Event) → IfSome r (λ x. noted ≡ events) → has_room_for r noted ≡ true
    → has_room_for r events ≡ true
fits_is None noted events is fit = refl
fits_is (Some r) noted events is fit = ap (λ (es : List Event). has_room (length es) r) (sym is) ∙ fit

-- noting what is sent takes no line
pub fits_still : (r : Option Recorded) (sends : List Letter) (events : List Event) → has_room_for r events ≡ true
    → has_room_for (option_map (noting sends) r) events ≡ true
fits_still None sends events fit = refl
fits_still (Some r) sends events fit = fit

some_still : (r : Option Recorded) (sends : List Letter) (P : Type 0) → IfSome r (λ x. P)
    → IfSome (option_map (noting sends) r) (λ x. P)
some_still None sends P p = tt
some_still (Some r) sends P p = p

pub hosted_at : {K : Type 0} (gs : List (Guest K)) (i : ℕ) (a : Guest K) → slice_get gs i ≡ Some a
    → slice_get (hosted_in gs) i ≡ Some (hosted_of a)
hosted_at gs i a e = slice_get-map hosted_of gs i ∙ ap (option_map hosted_of) e

names_hosted : {K : Type 0} (gs : List (Guest K)) → map name_of (hosted_in gs) ≡ map who gs
names_hosted [] = refl
names_hosted (a ∷ gs) = ap (λ l. who a ∷ l) (names_hosted gs)

-- no two of the same names have one name either
distinct_still : {K : Type 0} (gs bs : List (Guest K)) → length bs ≡ length gs → map who bs ≡ map who gs
    → AreDistinct (hosted_in gs) → AreDistinct (hosted_in bs)
distinct_still {K} gs bs len same distinct i j x y p q e =
    let lens : length (hosted_in gs) ≡ length (hosted_in bs) = length-map gs hosted_of ∙ sym len
    ∙ sym (length-map bs hosted_of) in
    let names : map name_of (hosted_in gs) ≡ map name_of (hosted_in bs) = names_hosted gs ∙ sym same
    ∙ sym (names_hosted bs) in
    let a = stands_at (hosted_in bs) (hosted_in gs) i x lens p in
    let b = stands_at (hosted_in bs) (hosted_in gs) j y lens q in
    distinct i j a.0 b.0 a.1 b.1 (same_at name_of (hosted_in bs) (hosted_in gs) i x a.0 names p a.1 ∙ e
    ∙ sym (same_at name_of (hosted_in bs) (hosted_in gs) j y b.0 names q b.1))

names_set : {K : Type 0} (gs : List (Guest K)) (i : ℕ) (h after : Guest K) → slice_get gs i ≡ Some h
    → who after ≡ who h → map who (slice_set gs i after) ≡ map who gs
names_set [] i h after e same = refl
names_set (a ∷ gs) zero h after e same = ap (λ w. w ∷ map who gs) (same ∙ ap who (sym (same_Some a h e)))
names_set (a ∷ gs) (suc i) h after e same = ap (λ l. who a ∷ l) (names_set gs i h after e same)

-- nothing was done, whatever is known of the record
did_none : {K : Type 0} (gives : Changing K) (c : Cluster) (gs : List (Guest K)) (r t : Option Recorded) (l : Option LinkHistory)
    (o : Option (List ℕ)) → Did gives c [] (scene gs r l o) (scene gs t l o)
did_none gives c gs r t l o =
    let none = did_nothing gives c (scene gs r l o) in
    record { names = none.names; kept = none.kept; link = none.link; printed = none.printed; made = none.made }

take_all : {X : Type 0} (xs : List X) → take (length xs) xs ≡ xs
take_all [] = refl
take_all (x ∷ xs) = ap (λ l. x ∷ l) (take_all xs)

module _ {K : Type 0} (gives : Changing K) (c : Cluster) (gs : List (Guest K)) (i : ℕ) (what : Doing)
    (h after : Guest K) (here : slice_get gs i ≡ Some h) (ready : AreReady c gs) (same : who after ≡ who h) where
  -- what holds at that place, and of each other role, holds of all
  each_at : (P : Guest K → Guest K → Type 0) → P h after
      → ((j : ℕ) (a : Guest K) → (j ≡ i → ⊥) → slice_get gs j ≡ Some a → P a a)
      → (j : ℕ) (a b : Guest K) → slice_get gs j ≡ Some a → slice_get (slice_set gs i after) j ≡ Some b → P a b
  each_at P own others j a b e f = go (bool_cases (j == i))
    where
      go : ((j == i) ≡ true) ⊎ ((j == i) ≡ false) → P a b
      go (inl t) =
          let p = same_number j i t in
          let first : h ≡ a = same_Some h a (sym here ∙ ap (slice_get gs) (sym p) ∙ e) in
          let second : after ≡ b = same_Some after b
          (sym (get_set_same gs i h after here) ∙ ap (slice_get (slice_set gs i after)) (sym p) ∙ f) in
          subst (λ x. P x b) first (subst (P h) second own)
      go (inr t) =
          let differs : (j ≡ i → ⊥) = λ p. not_both (j == i) (subst (λ k. (j == k) ≡ true) p (number_itself j)) t in
          let still : a ≡ b = same_Some a b (sym e ∙ sym (get_set_other gs i j after differs) ∙ f) in
          subst (P a) still (others j a differs e)

  other_name : (j : ℕ) (a : Guest K) → (j ≡ i → ⊥) → slice_get gs j ≡ Some a → same_role (who a) (who h) ≡ false
  other_name j a differs e =
      differ_role (who a) (who h) (λ p. differs (ready.distinct j i (hosted_of a) (hosted_of h) (hosted_at gs j a e)
      (hosted_at gs i h here) p))

  ready_still : IsTrue (is_live_role (hosted_of after)) → kind_at (hosted_of after) ≡ kind_at (hosted_of h)
      → AreReady c (slice_set gs i after)
  ready_still live kept_kind =
      record {
        each = λ j b f.
            let a = stands_at (slice_set gs i after) gs j b (sym (length-set gs i after)) f in
            each_at (λ x y. IsGuestReady c y) (record {
              live = live;
              named = subst (λ w. IsTrue (names_role c w))
                  (sym same) (ready.each i h here).named;
              kind = kept_kind ∙ (ready.each i h here).kind ∙ ap (λ (w : RoleId). w.kind) (sym same);
            }) (λ k x differs e. ready.each k x e) j a.0 b a.1 f;
        distinct =
            distinct_still gs (slice_set gs i after) (length-set gs i after)
            (names_set gs i h after here same) ready.distinct;
      }

  abbrev step : Step
  step = does (hosted_of h) what

  abbrev events : List Event
  events = step_events (hosted_of h) what

  -- the step, where its lines fit
  seat_does_at : (r : Option Recorded) → has_room_for r events ≡ true
      → does_at i what (record { hosted = hosted_in gs; recorded = r })
      ≡ made i (record { hosted = hosted_in gs; recorded = r }) events step
  unfolding does_at
  seat_does_at r fit =
      let s : Course = record { hosted = hosted_in gs; recorded = r } in
      ap (found_does i s what) (hosted_at gs i h here) ∙ ap (λ t. made_if t i s events step) fit

  -- and where they don't
  seat_filled : (r : Option Recorded) → has_room_for r events ≡ false
      → does_at i what (record { hosted = hosted_in gs; recorded = r })
      ≡ record { next = record { hosted = hosted_in gs; recorded = r }; actions = Filled ∷ [] }
  unfolding does_at
  seat_filled r full =
      let s : Course = record { hosted = hosted_in gs; recorded = r } in
      ap (found_does i s what) (hosted_at gs i h here) ∙ ap (λ t. made_if t i s events step) full

  -- the step was done as far as these datagrams and this text, and what a record has of it
  did_seated : (r t : Option Recorded) (l k : Option LinkHistory) (o p : Option (List ℕ)) (sends : List Letter) (text : List ℕ)
      (ns : List Action)
      → IsNoted ns → GuestGrows gives step.kept h after → HasLinkSent c sends l k → Appends o p text
      → Did gives c (step_actions step.kept sends text ns) (scene gs r l o) (scene (slice_set gs i after) t k p)
  did_seated r t l k o p sends text ns noted grows asked printed =
      record {
        names = names_set gs i h after here same;
        kept = subst (λ ks. GuestsGrow gives ks gs (slice_set gs i after)) (sym (step_kept step.kept sends text ns noted)) (
          length-set gs i after,
          each_at (λ a b. GuestGrows gives step.kept a b) grows
              (λ j a differs e. subst (λ rs. Grows gives rs (keeper_of a) (keeper_of a))
              (sym (kept_own (hosted_of h) what (who a) (other_name j a differs e)))
              (grows_none gives (keeper_of a))),
        );
        link = linked_step c step.kept sends text ns l k noted asked;
        printed = subst (Appends o p) (sym (step_printed step.kept sends text ns noted)) printed;
        made = step_made step.kept sends text ns noted;
      }

  -- The whole step was done: these datagrams were sent and noted, this text was written, and its lines were counted.
  pub acts_seated : (r t : Option Recorded) (l k : Option LinkHistory) (o p : Option (List ℕ)) (sends : List Letter)
      (noted : List Event) (own text : List ℕ)
      → hosted_of after ≡ step.next → GuestGrows gives step.kept h after → IsTrue (is_live_role (hosted_of after))
      → sends ≡ step.sends → own ≡ step.text → IfSome r (λ x. noted ≡ events) → has_room_for r noted ≡ true
      → text ≡ shown (option_map (noting sends) r) noted own
      → t ≡ option_map (with_more_lines (length noted)) (option_map (noting sends) r)
      → HasLinkSent c sends l k → Appends o p text
      → Acts gives c [] (does_at i what (record { hosted = hosted_in gs; recorded = r })) (Ok tt) (scene gs r l o)
      (scene (slice_set gs i after) t k p)
  acts_seated r t l k o p sends noted own text next grows live sends_are own_is noted_are fit text_is counted asked printed =
      let s : Course = record { hosted = hosted_in gs; recorded = r } in
      let acts = done_by r events step in
      let is : seen r events step ≡ acts = seen_is r events step in
      let written : text ≡ shown r events step.text = text_is ∙ shown_as r sends noted own ∙ ap (shown r noted) own_is
      ∙ shown_is r noted events step.text noted_are in
      let known : t ≡ option_map (with_step (length events) step.sends) r = counted
      ∙ counted_is (option_map (noting sends) r) noted events (some_still r sends (noted ≡ events) noted_are)
      ∙ recorded_after r events sends ∙ ap (λ ds. option_map (with_step (length events) ds) r) sends_are in
      subst (λ (m : Moved Course). Acts gives c [] m (Ok tt) (scene gs r l o) (scene (slice_set gs i after) t k p))
      (sym (seat_does_at r (fits_is r noted events noted_are fit)))
      (record {
        done = record {
          course = λ j. record { hosted = (map-set hosted_of gs i after ∙ ap (slice_set (hosted_in gs) i) next) j; recorded = known j };
          did = subst (λ xs. Did gives c xs (scene gs r l o) (scene (slice_set gs i after) t k p)) (sym is)
              (did_seated r t l k o p step.sends (shown r events step.text) (noted_of r events step) (noted_is r events step) grows
              (subst (λ ds. HasLinkSent c ds l k) sends_are asked) (subst (Appends o p) written printed));
        };
        taken = (
          ap bound_in is ∙ step_bound step.kept step.sends (shown r events step.text) (noted_of r events step) (noted_is r events step),
          ap taken_in is ∙ step_taken step.kept step.sends (shown r events step.text) (noted_of r events step) (noted_is r events step),
        );
        ready = ready_still live (ap kind_at next ∙ kind_stays (hosted_of h) what);
        part = tt;
      })

  -- it stopped before anything was kept, sent or printed
  rest_still : Rests gives (keeper_of h) (keeper_of after) → GuestsRest gives gs (slice_set gs i after)
  rest_still rests = (
    length-set gs i after,
    each_at (λ a b. (who b ≡ who a) × Rests gives (keeper_of a) (keeper_of b)) (same, rests)
        (λ j a differs e. (refl, rests_itself gives (keeper_of a))),
  )

  -- it stopped within what it has to do, whatever that is
  pub acts_unable : (r t : Option Recorded) (l : Option LinkHistory) (o : Option (List ℕ)) (m : Moved Course)
      → Rests gives (keeper_of h) (keeper_of after)
      → Acts gives c [] m (Err stop.NoMemory) (scene gs r l o) (scene (slice_set gs i after) t l o)
  acts_unable r t l o m rests =
      record {
        done = tt;
        taken = tt;
        ready = tt;
        part = record { count = 0; mid = gs; did = did_none gives c gs r t l o; stops = rest_still rests };
      }

  seated_full : (r t : Option Recorded) (l : Option LinkHistory) (o : Option (List ℕ)) → has_room_for r events ≡ false
      → Rests gives (keeper_of h) (keeper_of after)
      → Acts gives c [] (does_at i what (record { hosted = hosted_in gs; recorded = r })) (Err stop.RecordFull) (scene gs r l o)
      (scene (slice_set gs i after) t l o)
  seated_full r t l o full rests =
      subst (λ (m : Moved Course). Acts gives c [] m (Err stop.RecordFull) (scene gs r l o) (scene (slice_set gs i after) t l o))
      (sym (seat_filled r full))
      (record {
        done = tt;
        taken = tt;
        ready = tt;
        part = record { count = 0; mid = gs; did = did_none gives c gs r t l o; stops = (refl, rest_still rests) };
      })

  seated_fails : (r t : Option Recorded) (l : Option LinkHistory) (o : Option (List ℕ)) (role : RoleId) (bs : List ℕ) (ns : List Action)
      → who h ≡ role
      → HasChangeFailedIn gives (slice_get (changes_of (who h) step.kept) 0) (keeper_of h) (keeper_of after)
      → DidPart gives c (step_actions step.kept step.sends bs ns) (stop.StoreFault role) (scene gs r l o)
      (scene (slice_set gs i after) t l o)
  seated_fails r t l o role bs ns name fails =
      let f = fails_some gives (slice_get (changes_of (who h) step.kept) 0) (keeper_of h) (keeper_of after) fails in
      record {
        count = 0;
        mid = gs;
        did = did_none gives c gs r t l o;
        stops = (
          f.0,
          subst (λ me. slice_get (step_actions step.kept step.sends bs ns) 0 ≡ Some
              (Kept (record { role = me; change = f.0 }))) name
              (kept_first (hosted_of h) what f.0 (map Sent step.sends ++ (map Printed bs ++ ns)) f.1),
          record {
            place = i;
            guest = h;
            after = after;
            here = here;
            others = refl;
            name = name;
            same = same;
            fails = f.2;
            renews = λ records is.
                ap (λ (w : RoleId). w.kind) (sym name) ∙ sym (ready.each i h here).kind
                ∙ renewed_by (hosted_of h) what records (f.1 ∙ ap Some is);
          },
        );
      }

  -- A part of its actions was done, where the lines fit.
  seated_part : (r t : Option Recorded) (l k : Option LinkHistory) (o p : Option (List ℕ)) (e : Stop) → has_room_for r events ≡ true
      → DidPart gives c (done_by r events step) e (scene gs r l o) (scene (slice_set gs i after) t k p)
      → Acts gives c [] (does_at i what (record { hosted = hosted_in gs; recorded = r })) (Err e) (scene gs r l o)
      (scene (slice_set gs i after) t k p)
  seated_part r t l k o p e fit part =
      subst (λ (m : Moved Course). Acts gives c [] m (Err e) (scene gs r l o) (scene (slice_set gs i after) t k p))
      (sym (seat_does_at r fit))
      (record {
        done = tt;
        taken = tt;
        ready = tt;
        part = subst (λ xs. DidPart gives c xs e (scene gs r l o) (scene (slice_set gs i after) t k p)) (sym (seen_is r events step)) part;
      })

  -- its role took no step
  pub acts_unasked : (r t : Option Recorded) (l : Option LinkHistory) (o : Option (List ℕ)) (e : Stop)
      → (e ≡ stop.NoMemory → Rests gives (keeper_of h) (keeper_of after))
      → (e ≡ stop.RecordFull → (has_room_for r events ≡ false) × Rests gives (keeper_of h) (keeper_of after))
      → ((role : RoleId) → e ≡ stop.StoreFault role → (has_room_for r events ≡ true) × (who h ≡ role)
      × HasChangeFailedIn gives (slice_get (changes_of (who h) step.kept) 0) (keeper_of h) (keeper_of after))
      → (e ≡ stop.WriteFault → ⊥) → (e ≡ stop.LinkFault → ⊥)
      → Acts gives c [] (does_at i what (record { hosted = hosted_in gs; recorded = r })) (Err e) (scene gs r l o)
      (scene (slice_set gs i after) t l o)
  acts_unasked r t l o stop.NoMemory rests full fails no_write no_link =
      acts_unable r t l o (does_at i what (record { hosted = hosted_in gs; recorded = r })) (rests refl)
  acts_unasked r t l o stop.WriteFault rests full fails no_write no_link = absurd (no_write refl)
  acts_unasked r t l o stop.LinkFault rests full fails no_write no_link = absurd (no_link refl)
  acts_unasked r t l o stop.RecordFull rests full fails no_write no_link =
      let f = full refl in seated_full r t l o f.0 f.1
  acts_unasked r t l o (stop.StoreFault role) rests full fails no_write no_link =
      let f = fails role refl in
      seated_part r t l l o o (stop.StoreFault role) f.0
      (seated_fails r t l o role (shown r events step.text) (noted_of r events step) f.1 f.2)

  -- memory ran out between its datagrams
  pub acts_unsent : (r t : Option Recorded) (l k : Option LinkHistory) (o : Option (List ℕ)) (noted : List Event)
      → IfSome r (λ x. noted ≡ events) → has_room_for r noted ≡ true
      → GuestGrows gives step.kept h after → HasLinkSentPart c step.sends l k
      → Acts gives c [] (does_at i what (record { hosted = hosted_in gs; recorded = r })) (Err stop.NoMemory) (scene gs r l o)
      (scene (slice_set gs i after) t k o)
  acts_unsent r t l k o noted noted_are fit grows asked =
      let cut = cut_sends step.kept step.sends (shown r events step.text) (noted_of r events step) asked.0 in
      seated_part r t l k o o stop.NoMemory (fits_is r noted events noted_are fit)
      (record {
        count = cut.0;
        mid = slice_set gs i after;
        did =
            subst (λ xs. Did gives c xs (scene gs r l o) (scene (slice_set gs i after) t k o)) (sym cut.1)
            (did_seated r t l k o o (take asked.0 step.sends) [] [] none_noted grows asked.1 (Appends-nil o));
        stops = guests_rest gives (slice_set gs i after);
      })

  -- memory ran out for its lines, when all was sent
  pub acts_unspelled : (r t : Option Recorded) (l k : Option LinkHistory) (o : Option (List ℕ)) (noted : List Event)
      → IfSome r (λ x. noted ≡ events) → has_room_for r noted ≡ true
      → GuestGrows gives step.kept h after → HasLinkSent c step.sends l k
      → Acts gives c [] (does_at i what (record { hosted = hosted_in gs; recorded = r })) (Err stop.NoMemory) (scene gs r l o)
      (scene (slice_set gs i after) t k o)
  acts_unspelled r t l k o noted noted_are fit grows asked =
      acts_unsent r t l k o noted noted_are fit grows
      (length step.sends, subst (λ ds. HasLinkSent c ds l k) (sym (take_all step.sends)) asked)

  -- the output failed within its text
  pub acts_unwritten : (r t : Option Recorded) (l k : Option LinkHistory) (o p : Option (List ℕ)) (sends : List Letter)
      (noted : List Event) (own text : List ℕ)
      → GuestGrows gives step.kept h after → sends ≡ step.sends → own ≡ step.text
      → IfSome r (λ x. noted ≡ events) → has_room_for r noted ≡ true
      → text ≡ shown (option_map (noting sends) r) noted own
      → HasLinkSent c sends l k → AppendsPart o p text
      → Acts gives c [] (does_at i what (record { hosted = hosted_in gs; recorded = r })) (Err stop.WriteFault) (scene gs r l o)
      (scene (slice_set gs i after) t k p)
  acts_unwritten r t l k o p sends noted own text grows sends_are own_is noted_are fit text_is asked printed =
      let written : text ≡ shown r events step.text = text_is ∙ shown_as r sends noted own ∙ ap (shown r noted) own_is
      ∙ shown_is r noted events step.text noted_are in
      let some : AppendsPart o p (shown r events step.text) = subst (AppendsPart o p) written printed in
      let cut = cut_text step.kept step.sends (shown r events step.text) (noted_of r events step) some.0 in
      seated_part r t l k o p stop.WriteFault (fits_is r noted events noted_are fit)
      (record {
        count = cut.0;
        mid = slice_set gs i after;
        did =
            subst (λ xs. Did gives c xs (scene gs r l o) (scene (slice_set gs i after) t k p)) (sym cut.1)
            (did_seated r t l k o p step.sends (take some.0 (shown r events step.text)) [] none_noted grows
            (subst (λ ds. HasLinkSent c ds l k) sends_are asked) some.1);
        stops = guests_rest gives (slice_set gs i after);
      })
