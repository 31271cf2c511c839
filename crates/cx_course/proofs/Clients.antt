-- A step of a hosted client is events of the model.
use Rattle.cx_role.proofs.Common.{◌≡◌, ◌⊎◌, ℕ, Bool, true, false, List, [], ◌∷◌, ◌++◌, None, Some, map, ap, sym, ◌∙◌, subst, refl, inl, inr}
use Rattle.cx_role.proofs.Common.{slice_get, if◌then◌else◌, flat_map, floor_fits, Whole, Event, Order, RoleId, role, mark_told}
use Rattle.cx_role.proofs.Common.{same_role-itself, Member, names_role, DeliversOneOf, World, run_from, step, Letter}
use Rattle.cx_base.specs.declared.event.Event.TheVariants as event
use Rattle.cx_base.specs.declared.role.Kind.TheVariants as kind
use Rattle.cx_base.specs.declared.why.Why.TheVariants as why
use Rattle.cx_client.specs.Asking.{shifted}
use Rattle.cx_client.specs.Client.{ClientMoved, ClientState, client_start, client_takes, client_ticks, hearing, left, client_stays}
use Rattle.cx_client.specs.Window.{floor_for, outstanding, request_letters, event_with_floor}
use Rattle.cx_client.proofs.Shifted.{all_itself, asks_shifted}
use Rattle.cx_client.proofs.Windows.{fits, is_left}
use Rattle.cx_inv_run.proofs.Members.{Member-at, Member-cases, Member-map, all-Member}
use Rattle.cx_letter.specs.declared.input.Input.TheVariants as input
use Rattle.cx_record.specs.Readable.{IsRecordable}
use Rattle.cx_script.specs.Requests.{asks, number_of}
use Rattle.cx_course.specs.declared.doing.Doing.{Doing}
use Rattle.cx_course.specs.declared.doing.Doing.TheVariants.{Begin, Give, Snap}
use Rattle.cx_course.specs.Course.{is_a, own_event, request_by, requests_by, step_events}
use Rattle.cx_course.specs.Hosted.{ClientAt, Step, answer_in, does, printed}
use Rattle.cx_course.proofs.Asker.{IsAsker, IsTraced}
use Rattle.cx_course.proofs.Requests.{Sends, all_go_out, nothing_sends, sends_on}
use Rattle.cx_course.proofs.Scripts.{dropped, recordable_telling, sent_as}
use Rattle.cx_course.proofs.Takes.{Asks, hears, stays_so, takes_so, ticks_so}

-- ---- what is recorded of a client

-- each event of a client's step is the delivery of the datagram that it takes, or can be recorded
abbrev pub IsClients : World → Doing → Event → Type 0
IsClients w what e = ((n : ℕ) × (d : Letter) × (what ≡ Give n (input.Take d)) × (e ≡ event.Deliver n Whole)) ⊎ IsRecordable w.cluster e

-- A step of a hosted client comes to this world: its events send its datagrams, keep nothing, and are recorded; what it takes as an answer
-- was delivered.
pub record ClientLands (w : World) (s : ClientState) (what : Doing) : Type 0 where
  pub next : ClientState
  pub next_is : (does (ClientAt s) what).next ≡ ClientAt next
  pub me : next.me ≡ s.me
  pub keeps : (does (ClientAt s) what).kept ≡ []
  pub sends : Sends w (run_from w (step_events (ClientAt s) what)) s (does (ClientAt s) what).sends
  pub asker : IsAsker (run_from w (step_events (ClientAt s) what)) next
  pub traced : IsTraced (run_from w (step_events (ClientAt s) what))
  pub answers : (d : Letter) → Member d (does (ClientAt s) what).answers → DeliversOneOf w (step_events (ClientAt s) what) d
  pub events : (e : Event) → Member e (step_events (ClientAt s) what) → IsClients w what e

-- what a step does that is this move of a client, behind these events of its own
abbrev pub moved_step : ClientMoved → List ℕ → List Letter → Step
moved_step m text answers = record { next = ClientAt m.state; kept = []; sends = m.sends; text = text; answers = answers }

abbrev pub requests_in : ℕ → List Letter → List Event
requests_in floor ds = flat_map (λ (d : Letter). request_by floor d.from d.to d.msg) ds

-- the datagrams of a client's lines are recorded as these lines, with the floor that they tell
requests_back : (client heard floor : ℕ) (es : List Event) → ((e : Event) → Member e es → asks client e ≡ true)
    → requests_in floor (request_letters heard floor es) ≡ map (event_with_floor floor) es
requests_back client heard floor [] own = refl
requests_back client heard floor (e ∷ es) own = one e (own e (inl refl)) (requests_back client heard floor es (λ x m. own x (inr m)))
  where
    one : (e : Event) → asks client e ≡ true → requests_in floor (request_letters heard floor es) ≡ map (event_with_floor floor) es
        → requests_in floor (request_letters heard floor (e ∷ es)) ≡ event_with_floor floor e ∷ map (event_with_floor floor) es
    one (event.Write command batcher) own rest = ap (λ (l : List Event). event_with_floor floor (event.Write command batcher) ∷ l) rest
    one (event.Read other seq before reader replica key) own rest =
        ap (λ (l : List Event). event_with_floor floor (event.Read other seq before reader replica key) ∷ l) rest
    one (event.Session other seq before replica key) own rest =
        ap (λ (l : List Event). event_with_floor floor (event.Session other seq before replica key) ∷ l) rest
    one other own rest = cc

-- a client's move in a world: its requests go out
module _ (w : World) (s : ClientState) (m : ClientMoved) (moves : Asks w s m) (traced : IsTraced w) where
  abbrev Floor : ℕ
  Floor = floor_for (left m.state)

  abbrev Requests : List Event
  Requests = requests_in Floor m.sends

  -- to whom the lines go
  abbrev Lines : List Event
  Lines = map (shifted m.state.cluster moves.shift) moves.lines

  its_own : (e : Event) → Member e Lines → asks m.state.me.index e ≡ true
  its_own e here =
      let l = Member-map (shifted m.state.cluster moves.shift) e moves.lines here in
      let own : asks m.state.me.index l.0 ≡ true = all-Member (asks m.state.me.index) (left m.state) moves.asker.client.script.own l.0
      (is_left m.state.window (left m.state) l.0 (moves.out l.0 l.1)) in
      ap (asks m.state.me.index) l.2 ∙ asks_shifted m.state.cluster moves.shift m.state.me.index l.0 ∙ own

  pub requests_are : Requests ≡ map (event_with_floor Floor) Lines
  requests_are = ap (requests_in Floor) moves.sends ∙ requests_back m.state.me.index m.state.heard Floor Lines its_own

  each_recordable : (e : Event) → Member e (map (event_with_floor Floor) Lines) → IsRecordable w.cluster e
  each_recordable e here =
      let x = Member-map (event_with_floor Floor) e Lines here in
      let l = Member-map (shifted m.state.cluster moves.shift) x.0 moves.lines x.1 in
      let own : Member l.0 m.state.script =
      dropped m.state.done l.0 m.state.script (is_left m.state.window (left m.state) l.0 (moves.out l.0 l.1)) in
      let fit : floor_fits (number_of l.0) Floor ≡ true =
      fits m.state.window (left m.state) moves.asker.client.script.rising l.0 (moves.out l.0 l.1) in
      let line : IsRecordable m.state.cluster l.0 = subst (λ c. IsRecordable c l.0) (sym moves.asker.cluster) (moves.asker.lines l.0 own) in
      subst (IsRecordable w.cluster) (sym (x.2 ∙ ap (event_with_floor Floor) l.2))
      (subst (λ c. IsRecordable c (sent_as m.state.cluster moves.shift Floor l.0)) moves.asker.cluster
      (recordable_telling m.state.cluster moves.shift Floor l.0 line fit))

  pub moved_out : Sends w (run_from w Requests) m.state m.sends × IsAsker (run_from w Requests) m.state × IsTraced (run_from w Requests)
  moved_out =
      let out = all_go_out w m.state moves.asker traced moves.shift moves.lines
      (λ e here. is_left m.state.window (left m.state) e (moves.out e here)) in (
        subst (λ es. Sends w (run_from w es) m.state m.sends) (sym requests_are)
            (subst (λ ds. Sends w (run_from w (map (event_with_floor Floor) Lines)) m.state ds) (sym moves.sends) out.0),
        subst (λ es. IsAsker (run_from w es) m.state) (sym requests_are) out.1,
        subst (λ es. IsTraced (run_from w es)) (sym requests_are) out.2,
      )

  pub requests_so : (e : Event) → Member e Requests → IsRecordable w.cluster e
  requests_so e here = each_recordable e (subst (λ (es : List Event). Member e es) requests_are here)

-- what holds of a client's name holds of one that has it
same_sends : (w after : World) (s t : ClientState) (ds : List Letter) → t.me ≡ s.me → Sends w after t ds → Sends w after s ds
same_sends w after s t ds me sends = record {
  cluster = sends.cluster;
  roles = sends.roles;
  kept = sends.kept;
  sent = sends.sent;
  others = λ index differs. sends.others index (λ same. differs (same ∙ ap (λ (r : RoleId). r.index) me));
}

-- a client is no role of another kind
is_client : (s : ClientState) → s.me ≡ role kind.Client s.me.index → is_a kind.Client s.me ≡ true
is_client s me = ap (λ (r : RoleId). is_a kind.Client r) me ∙ same_role-itself (role kind.Client s.me.index)

is_no_leader : (s : ClientState) → s.me ≡ role kind.Client s.me.index → is_a kind.Leader s.me ≡ false
is_no_leader s me = ap (λ (r : RoleId). is_a kind.Leader r) me

is_no_replica : (s : ClientState) → s.me ≡ role kind.Client s.me.index → is_a kind.Replica s.me ≡ false
is_no_replica s me = ap (λ (r : RoleId). is_a kind.Replica r) me

-- a step whose own events come to a world in which the client makes this move
module _ (w : World) (s : ClientState) (what : Doing) (own : List Event) (behind : World)
    (along : (es : List Event) → run_from w (own ++ es) ≡ run_from behind es)
    (before : Sends w behind s []) (traced : IsTraced behind) (m : ClientMoved) (moves : Asks behind s m) (text : List ℕ)
    (answers : List Letter) (does_so : does (ClientAt s) what ≡ moved_step m text answers) (own_so : own_event s.me what ≡ own) where
  abbrev All : List Event
  All = own ++ requests_in (floor_for (left m.state)) m.sends

  events_so : step_events (ClientAt s) what ≡ All
  events_so =
      ap (λ (x : Step). own_event s.me what ++ requests_by x.next x.sends) does_so
      ∙ ap (λ (es : List Event). es ++ requests_in (floor_for (left m.state)) m.sends) own_so

  after_is : run_from w (step_events (ClientAt s) what) ≡ run_from behind (requests_in (floor_for (left m.state)) m.sends)
  after_is = ap (run_from w) events_so ∙ along (requests_in (floor_for (left m.state)) m.sends)

  pub it_lands : ((d : Letter) → Member d answers → DeliversOneOf w All d) → ((e : Event) → Member e own → IsClients w what e)
      → ClientLands w s what
  it_lands delivered own_events =
      let out = moved_out behind s m moves traced in
      let after = run_from behind (requests_in (floor_for (left m.state)) m.sends) in
      record {
        next = m.state;
        next_is = ap (λ (x : Step). x.next) does_so;
        me = moves.me;
        keeps = ap (λ (x : Step). x.kept) does_so;
        sends = subst (λ x. Sends w x s (does (ClientAt s) what).sends) (sym after_is)
            (subst (λ ds. Sends w after s ds) (sym (ap (λ (x : Step). x.sends) does_so))
            (sends_on w behind after s [] m.sends before (same_sends behind after s m.state m.sends moves.me out.0)));
        asker = subst (λ x. IsAsker x m.state) (sym after_is) out.1;
        traced = subst IsTraced (sym after_is) out.2;
        answers = λ d here. subst (λ es. DeliversOneOf w es d) (sym events_so)
            (delivered d (subst (λ (ds : List Letter). Member d ds) (ap (λ (x : Step). x.answers) does_so) here));
        events = λ e here. elim (Member-cases e own (requests_in (floor_for (left m.state)) m.sends)
            (subst (λ (es : List Event). Member e es) events_so here)) [
              | inl mine ↦ own_events e mine
              | inr request ↦ inr (subst (λ c. IsRecordable c e) before.cluster (requests_so behind s m moves traced e request))
            ];
      }

-- ---- the law

-- what a recording node knows of a doing: what is taken is a datagram that was sent, to this role, by its number
abbrev pub Comes : World → RoleId → Doing → Type 0
Comes w me Begin = Unit {0}
Comes w me (Give n (input.Take d)) = (slice_get w.sent n ≡ Some d) × (d.to ≡ me)
Comes w me (Give n input.Tick) = Unit {0}
Comes w me (Give n (input.Order order)) = Unit {0}
Comes w me Snap = Unit {0}

module _ (w : World) (s : ClientState) (is : IsAsker w s) (traced : IsTraced w) where
  none_delivered : (es : List Event) (d : Letter) → Member d [] → DeliversOneOf w es d
  none_delivered es d m = absurd m

  starts_so : Asks w s (record { why = why.Resent; state = s; sends = client_start s; completes = false })
  starts_so = record {
    asker = is;
    me = refl;
    lines = outstanding s.window (left s);
    shift = None;
    out = λ e m. m;
    sends = ap (request_letters s.heard (floor_for (left s))) (sym (all_itself s.cluster (outstanding s.window (left s))));
  }

  rests_so : Asks w s (client_stays why.Idle s)
  rests_so = stays_so w s s why.Idle is refl

  took_so : (n : ℕ) (d : Letter) → slice_get w.sent n ≡ Some d → d.to ≡ s.me
      → IsAsker (step w (event.Deliver n Whole)) (hearing (mark_told d.msg) s) → Asks (step w (event.Deliver n Whole)) s (client_takes s d)
  took_so n d sent to heard =
      takes_so (step w (event.Deliver n Whole)) s d (ap (λ c. names_role c d.from) is.cluster ∙ traced.named d (Member-at d w.sent n sent))
      to (ap (λ c. names_role c s.me) is.cluster ∙ is.named) heard

  its_name : s.me ≡ role kind.Client s.me.index
  its_name = is.client.me

  does_begin : does (ClientAt s) Begin
      ≡ moved_step (record { why = why.Resent; state = s; sends = client_start s; completes = false }) [] []
  unfolding does
  does_begin = refl

  does_take : (n : ℕ) (d : Letter) → does (ClientAt s) (Give n (input.Take d))
      ≡ moved_step (client_takes s d) (printed (client_takes s d) s.me d) (answer_in (client_takes s d) d)
  unfolding does
  does_take n d = refl

  does_tick : (n : ℕ) → does (ClientAt s) (Give n input.Tick) ≡ moved_step (client_ticks s) [] []
  unfolding does
  does_tick n = refl

  does_order : (n : ℕ) (order : Order) → does (ClientAt s) (Give n (input.Order order)) ≡ moved_step (client_stays why.Idle s) [] []
  unfolding does
  does_order n order = refl

  does_snap : does (ClientAt s) Snap ≡ moved_step (client_stays why.Idle s) [] []
  unfolding does
  does_snap = refl

  answered_one : (d x : Letter) (b : Bool) → Member x (if b then d ∷ [] else []) → x ≡ d
  answered_one d x true (inl same) = same
  answered_one d x true (inr never) = absurd never
  answered_one d x false never = absurd never

  pub client_lands : (what : Doing) → Comes w s.me what → ClientLands w s what
  client_lands Begin come = it_lands w s Begin [] w (λ es. refl) (nothing_sends w s) traced
      (record { why = why.Resent; state = s; sends = client_start s; completes = false }) starts_so [] [] does_begin refl
      (none_delivered _) (λ e m. absurd m)
  client_lands (Give n input.Tick) come =
      it_lands w s (Give n input.Tick) [] w (λ es. refl) (nothing_sends w s) traced (client_ticks s) (ticks_so w s is) [] [] (does_tick n)
      (ap (λ (b : Bool). if b then [] else event.Tick s.me ∷ []) (is_client s its_name)) (none_delivered _) (λ e m. absurd m)
  client_lands (Give n (input.Order order)) come = it_lands w s (Give n (input.Order order)) [] w (λ es. refl) (nothing_sends w s) traced
      (client_stays why.Idle s) rests_so [] [] (does_order n order)
      (ap (λ (b : Bool). if b then event.Order s.me.index order Whole ∷ [] else []) (is_no_leader s its_name)) (none_delivered _)
      (λ e m. absurd m)
  client_lands Snap come =
      it_lands w s Snap [] w (λ es. refl) (nothing_sends w s) traced (client_stays why.Idle s) rests_so [] [] does_snap
      (ap (λ (b : Bool). if b then event.Snap s.me Whole ∷ [] else []) (is_no_replica s its_name)) (none_delivered _)
      (λ e m. absurd m)
  client_lands (Give n (input.Take d)) come =
      let heard = hears w s is traced n d come.0 come.1 in
      let moves = took_so n d come.0 come.1 heard.1 in
      it_lands w s (Give n (input.Take d)) (event.Deliver n Whole ∷ []) (step w (event.Deliver n Whole)) (λ es. refl) heard.0 heard.2
      (client_takes s d) moves (printed (client_takes s d) s.me d) (answer_in (client_takes s d) d) (does_take n d) refl
      (λ x here. subst (λ (y : Letter). DeliversOneOf w (event.Deliver n Whole ∷ requests_in (floor_for (left (client_takes s d).state))
      (client_takes s d).sends) y) (sym (answered_one d x (client_takes s d).completes here)) (
        [],
        requests_in (floor_for (left (client_takes s d).state)) (client_takes s d).sends,
        event.Deliver n Whole,
        refl,
        (n, Whole, refl, come.0),
      )) (λ e here. elim here [ inl same ↦ inl (n, d, refl, same) | inr never ↦ absurd never ])

-- ---- the same, a kind of step at a time

-- what a client's move comes to in a world
abbrev pub MovesOn : World → World → ClientState → ClientMoved → Type 0
MovesOn w behind s m = Sends w (run_from behind (requests_by (ClientAt m.state) m.sends)) s m.sends
    × IsAsker (run_from behind (requests_by (ClientAt m.state) m.sends)) m.state
    × IsTraced (run_from behind (requests_by (ClientAt m.state) m.sends)) × (m.state.me ≡ s.me)

moves_on : (w behind : World) (s : ClientState) (m : ClientMoved) → Sends w behind s [] → IsTraced behind → Asks behind s m
    → MovesOn w behind s m
moves_on w behind s m before traced moves =
    let out = moved_out behind s m moves traced in
    let after = run_from behind (requests_by (ClientAt m.state) m.sends) in
    (sends_on w behind after s [] m.sends before (same_sends behind after s m.state m.sends moves.me out.0), out.1, out.2, moves.me)

pub client_begins : (w : World) (s : ClientState) → IsTraced w → IsAsker w s
    → Sends w (run_from w (requests_by (ClientAt s) (client_start s))) s (client_start s)
    × IsAsker (run_from w (requests_by (ClientAt s) (client_start s))) s × IsTraced (run_from w (requests_by (ClientAt s) (client_start s)))
client_begins w s traced is =
    let on = moves_on w w s (record { why = why.Resent; state = s; sends = client_start s; completes = false }) (nothing_sends w s) traced
    (starts_so w s is traced) in
    (on.0, on.1, on.2)

pub client_ticked : (w : World) (s : ClientState) → IsTraced w → IsAsker w s → MovesOn w w s (client_ticks s)
client_ticked w s traced is = moves_on w w s (client_ticks s) (nothing_sends w s) traced (ticks_so w s is)

pub client_took : (w : World) (s : ClientState) (n : ℕ) (d : Letter) → IsTraced w → IsAsker w s → slice_get w.sent n ≡ Some d → d.to ≡ s.me
    → MovesOn w (step w (event.Deliver n Whole)) s (client_takes s d)
client_took w s n d traced is sent to =
    let heard = hears w s is traced n d sent to in
    moves_on w (step w (event.Deliver n Whole)) s (client_takes s d) heard.0 heard.2 (took_so w s is traced n d sent to heard.1)
