-- The world after an event is the model's step, and what was true of the world before is true of it.
use Rattle.std.specs.Option.{option_to_list}
use Rattle.cx_role.proofs.Common.{◌≡◌, ◌+◌, ℕ, true, List, [], ◌∷◌, ◌++◌, length, Option, ap, sym, ◌∙◌, subst, refl, list_all}
use Rattle.cx_role.proofs.Common.{list_all-append, is_valid_event, Cluster, Event, Happened, RoleId, Why, State, World, change, start, run}
use Rattle.cx_role.proofs.Common.{run_from, event_list, Letter, KeptRecord, heard_at}
use Rattle.cx_model.specs.World.{step}
use Rattle.cx_world.specs.Heard.{Hears, Raised, heard_below}
use Rattle.cx_world.specs.World.{SeatLists, HasSeats, IsChange, IsUnspentWorld, are_taken, seat_roles}
use Rattle.cx_world.proofs.Hearing.{change_hears, hears_after, heard_below_after}
use Rattle.cx_world.proofs.Seats.{states_are}

run_one : (w : World) (es : List Event) (e : Event) → run_from w (es ++ e ∷ []) ≡ step (run_from w es) e
run_one w [] e = refl
run_one w (d ∷ es) e = run_one (step w d) es e

event_list_one : (hs : List Happened) (h : Happened) → event_list (hs ++ h ∷ []) ≡ event_list hs ++ h.event ∷ []
event_list_one [] h = refl
event_list_one (g ∷ hs) h = ap (λ l. g.event ∷ l) (event_list_one hs h)

abbrev make_world : Cluster → (RoleId → State) → List Happened → List KeptRecord → List Letter → World
make_world c roles events kept sent = record { cluster = c; roles = roles; events = events; kept = kept; sent = sent }

same_world : (c : Cluster) (r s : RoleId → State) (e f : List Happened) (k l : List KeptRecord) (d g : List Letter) → r ≡ s → e ≡ f → k ≡ l
    → d ≡ g → make_world c r e k d ≡ make_world c s f l g
same_world c r s e f k l d g p q t u = cc

-- one event more is one that the world takes
pub all_taken_after : (old new : List Happened) (e : Event) (u : Why) → are_taken old ≡ true → is_valid_event e ≡ true
    → new ≡ old ++ record { event = e; why = u } ∷ [] → are_taken new ≡ true
all_taken_after old new e u taken valid more =
    ap (λ l. are_taken l) more ∙ ap (λ l. list_all is_valid_event l) (event_list_one old (record { event = e; why = u }))
    ∙ list_all-append is_valid_event (event_list old) (e ∷ []) ∙ rw (taken, valid) refl

-- what follows a change of the seats, as it is written into the histories, is the step
pub stepped : (w : World) (e : Event) (at : Option RoleId) (u : Why) (r : Option KeptRecord) (seats : SeatLists) (sends : List Letter)
    → IsChange w (change w e) at u r seats sends → (events : List Happened) (kept : List KeptRecord) (sent : List Letter)
    → events ≡ w.events ++ record { event = e; why = u } ∷ [] → kept ≡ w.kept ++ option_to_list r → sent ≡ w.sent ++ sends
    → make_world w.cluster (seat_roles seats) events kept sent ≡ step w e
unfolding step
stepped w e at u r seats sends ch events kept sent same_events same_kept same_sent =
    let to = change w e in
    same_world w.cluster (seat_roles seats) to.roles events (w.events ++ record { event = e; why = to.why } ∷ []) kept (w.kept ++ to.kept)
    sent (w.sent ++ to.sends)
    (sym (states_are w.cluster to.roles (w.kept ++ to.kept) seats ch.seats))
    (same_events ∙ ap (λ x. w.events ++ record { event = e; why = x } ∷ []) ch.why)
    (same_kept ∙ ap (λ l. w.kept ++ l) ch.kept) (same_sent ∙ ap (λ l. w.sent ++ l) ch.sends)

pub held_after : (w : World) (e : Event) (at : Option RoleId) (u : Why) (r : Option KeptRecord) (seats : SeatLists) (sends : List Letter)
    → IsChange w (change w e) at u r seats sends → w ≡ run w.cluster (event_list w.events) → are_taken w.events ≡ true → is_valid_event e
    ≡ true → (numbers raised : List ℕ) → Hears numbers w.sent w.events → list_all (heard_below (length w.sent)) w.events ≡ true
    → Raised numbers raised (λ client. heard_at client w.sent (record { event = e; why = u }))
    → (events : List Happened) (kept : List KeptRecord) (sent out : List Letter)
    → events ≡ w.events ++ record { event = e; why = u } ∷ [] → kept ≡ w.kept ++ option_to_list r → sent ≡ w.sent ++ sends → out ≡ []
    → IsUnspentWorld (make_world w.cluster (seat_roles seats) events kept sent) seats raised out
held_after w e at u r seats sends ch ran taken valid numbers raised hears all told events kept sent out same_events same_kept
    same_sent empty =
    let to = change w e in
    let all_kept : kept ≡ w.kept ++ to.kept = same_kept ∙ ap (λ l. w.kept ++ l) ch.kept in
    let listed : event_list events ≡ event_list w.events ++ e ∷ [] =
    ap (λ l. event_list l) same_events ∙ event_list_one w.events (record { event = e; why = u }) in
    let one : heard_below (length w.sent) (record { event = e; why = u }) ≡ true = change_hears w e u ch.why in
    record {
      out = empty;
      seats = subst (λ l. HasSeats w.cluster (seat_roles seats) l seats) (sym all_kept)
          (subst (λ r. HasSeats w.cluster r (w.kept ++ to.kept) seats)
          (states_are w.cluster to.roles (w.kept ++ to.kept) seats ch.seats) ch.seats);
      hears = subst (λ l. Hears raised l events) (sym same_sent) (subst (λ l. Hears raised (w.sent ++ sends) l) (sym same_events)
          (hears_after numbers raised w.sent sends w.events (record { event = e; why = u }) hears all one told));
      hears_sent = subst (λ l. list_all (heard_below (length l)) events ≡ true) (sym same_sent)
          (subst (λ l. list_all (heard_below (length (w.sent ++ sends))) l ≡ true) (sym same_events)
          (heard_below_after w.sent sends w.events (record { event = e; why = u }) all one));
      ran = stepped w e at u r seats sends ch events kept sent same_events same_kept same_sent ∙ ap (λ x. step x e) ran
          ∙ sym (run_one _ (event_list w.events) e) ∙ ap (λ l. run w.cluster l) (sym listed);
      taken = all_taken_after w.events events e u taken valid same_events;
    }

-- seats that were just opened are those of the world in which nothing has happened
pub same_start : (c : Cluster) (seats : SeatLists) → HasSeats c (start c).roles [] seats
    → make_world c (seat_roles seats) [] [] [] ≡ start c
same_start c seats has =
    same_world c (seat_roles seats) (start c).roles [] [] [] [] [] [] (sym (states_are c (start c).roles [] seats has)) refl refl refl
