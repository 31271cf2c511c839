-- What each step of a client sends and completes.
use Rattle.std.proofs.lemmas.List.{drop-drop, drop_at, get_or-drop, length_push, take_at}
use Rattle.cx_role.proofs.Common.{◌≡◌, ◌⊎◌, ◌≤◌, ◌<◌, ◌+◌, ◌-◌, ◌&&◌, get_or, inl, inr, ℕ, suc, Bool, true, false, not, nat_lt, List, []}
use Rattle.cx_role.proofs.Common.{◌∷◌, ◌++◌, append_assoc, drop, filter, length, map, max, min, take, Option, None, Some, refl, sym, subst}
use Rattle.cx_role.proofs.Common.{ap, ◌∙◌, eqb-true, arith, list_all, position, and_from, and_parts, cases_Bool, nat_tests, length-append}
use Rattle.cx_role.proofs.Common.{length-drop, length-take-le, list_all-append, Cluster, Event, Client, Why, role, same_role, mark_told}
use Rattle.cx_role.proofs.Common.{number_itself, Member, names, by_test, request, Letter, Msg, Stranger}
use Rattle.cx_base.specs.declared.event.Event.TheVariants as event
use Rattle.cx_inv_run.proofs.Members.{Member-all, Member-any, Member-filter, Member-first, Member-map, Member-second, all-Member}
use Rattle.cx_inv_run.proofs.Members.{any-Member, filter-Member}
use Rattle.cx_wire.specs.Format.{u64}
use Rattle.cx_field.specs.Fields.{at, mark}
use Rattle.cx_letter.specs.declared.message.Msg.TheVariants as msg
use Rattle.cx_script.specs.Names.{names_event}
use Rattle.cx_script.specs.Requests.{IsScript, asks, number_of, rise_above}
use Rattle.cx_client.specs.Asking.{one_further, set_back, shifted}
use Rattle.cx_client.specs.declared.asking.ClientOptions.{ClientOptions}
use Rattle.cx_client.specs.Client.{ClientMoved, ClientState, IsClient, Moves, again, again_letters, answer_number, client_completes}
use Rattle.cx_client.specs.Client.{client_hears, client_opened, client_start, client_takes, client_ticks, client_told, client_waits}
use Rattle.cx_client.specs.Client.{after_completion, hearing, is_finished, left, client_stays}
use Rattle.cx_client.specs.Completes.{IsAnswerToRequest, CompletesRequest, AreFromClient, IsSent, TellsFloor, TellsHeard, heard_after}
use Rattle.cx_client.specs.Completes.{msg_has_floor, tells_heard}
use Rattle.cx_client.specs.Window.{floor_for, has_number, is_outstanding, newly, outstanding, request_letters, event_with_floor}
use Rattle.cx_client.specs.Window.{without_request}
use Rattle.cx_client.proofs.Shifted.{all_itself, asks_shifted, named_shifted}
use Rattle.cx_client.proofs.Windows.{all_above, all_below, at_place, filter_rises, first_is, is_left, last_or, newly_is, none_found}
use Rattle.cx_client.proofs.Windows.{one_number, only_one, some_of, without_at}
use Rattle.cx_base.specs.declared.why.Why.TheVariants.{Heard, Idle, Resent}

-- ---- what is sent

abbrev Pass : (Letter → Bool) → List Letter → Type 0
Pass p ds = list_all p ds ≡ true

-- what requests send passes a test where the datagram of each does
each_pass : (p : Letter → Bool) (heard floor : ℕ) (es : List Event)
    → ((e : Event) → Member e es → Pass p (request heard (event_with_floor floor e))) → Pass p (request_letters heard floor es)
each_pass p heard floor [] each = refl
each_pass p heard floor (e ∷ es) each =
    list_all-append p (request heard (event_with_floor floor e)) (request_letters heard floor es)
    ∙ and_from (list_all p (request heard (event_with_floor floor e))) (list_all p (request_letters heard floor es)) (each e (inl refl))
    (each_pass p heard floor es (λ x m. each x (inr m)))

request_own : (index heard floor : ℕ) (e : Event) → asks index e ≡ true
    → Pass (λ (d : Letter). same_role d.from (role Client index)) (request heard (event_with_floor floor e))
request_own index heard floor (event.Write command batcher) is = rw is refl
request_own index heard floor (event.Read client seq before reader replica key) is = rw is refl
request_own index heard floor (event.Session client seq before replica key) is = rw is refl
request_own index heard floor other is = refl

request_named : (c : Cluster) (heard floor : ℕ) (e : Event) → names_event c e ≡ true
    → Pass (names c) (request heard (event_with_floor floor e))
request_named c heard floor (event.Write command batcher) is =
    (let parts = and_parts (nat_lt command.client c.clients) (nat_lt batcher c.batchers) is in rw (parts.0, parts.1) refl)
request_named c heard floor (event.Read client seq before reader replica key) is = rw is refl
request_named c heard floor (event.Session client seq before replica key) is = rw is refl
request_named c heard floor other is = refl

request_told : (heard floor : ℕ) (e : Event) → Pass (λ (d : Letter). msg_has_floor floor d.msg) (request heard (event_with_floor floor e))
request_told heard floor (event.Write command batcher) = rw (number_itself floor) refl
request_told heard floor other = refl

request_marked : (heard floor : ℕ) (e : Event) → Pass (λ (d : Letter). tells_heard heard d.msg) (request heard (event_with_floor floor e))
request_marked heard floor (event.Session client seq before replica key) = rw (number_itself heard) refl
request_marked heard floor other = refl

all_told : (heard floor : ℕ) (es : List Event) → Pass (λ (d : Letter). msg_has_floor floor d.msg) (request_letters heard floor es)
all_told heard floor es = each_pass (λ (d : Letter). msg_has_floor floor d.msg) heard floor es (λ e m. request_told heard floor e)

all_marked : (s : ClientState) (floor : ℕ) (es : List Event) → TellsHeard s (request_letters s.heard floor es)
all_marked s floor es = each_pass (λ (d : Letter). tells_heard s.heard d.msg) s.heard floor es (λ e m. request_marked s.heard floor e)

-- a request of this client that may be sent
record IsOwn (s : ClientState) (e : Event) : Type 0 where
  own : asks s.me.index e ≡ true
  named : names_event s.cluster e ≡ true

left_own : (s : ClientState) → IsClient s → (e : Event) → Member e (left s) → IsOwn s e
left_own s is e m = record {
  own = all-Member (asks s.me.index) (left s) is.script.own e m;
  named = all-Member (names_event s.cluster) (left s) is.script.named e m;
}

-- also where it goes to others
shifted_own : (s : ClientState) → IsClient s → (o : Option ℕ) (es : List Event) → ((e : Event) → Member e es → Member e (left s))
    → (e : Event) → Member e (map (shifted s.cluster o) es) → IsOwn s e
shifted_own s is o es here e m =
    let l = Member-map (shifted s.cluster o) e es m in
    let own = left_own s is l.0 (here l.0 l.1) in
    subst (IsOwn s) (sym l.2)
    (record { own = asks_shifted s.cluster o s.me.index l.0 ∙ own.own; named = named_shifted s.cluster o l.0 own.named })

all_own : (s : ClientState) → IsClient s → (heard floor : ℕ) (es : List Event) → ((e : Event) → Member e es → IsOwn s e)
    → AreFromClient s (request_letters heard floor es)
all_own s is heard floor es here = record {
  own = rw is.me (each_pass (λ (d : Letter). same_role d.from (role Client s.me.index)) heard floor es
      (λ e m. request_own s.me.index heard floor e (here e m).own));
  named = each_pass (names s.cluster) heard floor es (λ e m. request_named s.cluster heard floor e (here e m).named);
}

nothing_own : (s : ClientState) → AreFromClient s []
nothing_own s = record { own = refl; named = refl }

all_sent : (heard floor : ℕ) (es : List Event) (e : Event) → Member e es → (d : Letter)
    → Member d (request heard (event_with_floor floor e)) → Member d (request_letters heard floor es)
all_sent heard floor [] e m d sent = absurd m
all_sent heard floor (x ∷ es) e (inl same) d sent = Member-first d (request heard (event_with_floor floor x))
    (request_letters heard floor es) (subst (λ (y : Event). Member d (request heard (event_with_floor floor y))) same sent)
all_sent heard floor (x ∷ es) e (inr m) d sent =
    Member-second d (request heard (event_with_floor floor x)) (request_letters heard floor es) (all_sent heard floor es e m d sent)

-- ---- the steps, by cases

-- what is no answer tells nothing
no_mark : (m : Msg) → answer_number m ≡ None → mark_told m ≡ 0
no_mark (msg.Submit c) none = refl
no_mark (msg.Batch cs) none = refl
no_mark (msg.Leads r) none = refl
no_mark (msg.MatchA r g) none = refl
no_mark (msg.MatchB r w es) none = refl
no_mark (msg.MatchNack r why o) none = refl
no_mark (msg.Phase1A r) none = refl
no_mark (msg.Phase1B r cw vs) none = refl
no_mark (msg.Nack r p) none = refl
no_mark (msg.Propose r g s cw v) none = refl
no_mark (msg.Phase2A r s cw v) none = refl
no_mark (msg.Phase2B r s) none = refl
no_mark (msg.Chosen s v) none = refl
no_mark (msg.ChosenIn r s) none = refl
no_mark (msg.Results s answers) none = refl
no_mark (msg.Answer seq at reply) none = cc
no_mark (msg.Held n) none = refl
no_mark (msg.Fetch n) none = refl
no_mark (msg.Inform r n) none = refl
no_mark (msg.Informed r n) none = refl
no_mark (msg.GarbageA r g) none = refl
no_mark (msg.GarbageB r) none = refl
no_mark (msg.ReadReq seq replica key) none = refl
no_mark (msg.MatchRead t) none = refl
no_mark (msg.MatchReadAck t w es) none = refl
no_mark (msg.PreRead t w) none = refl
no_mark (msg.PreReadAck t w n) none = refl
no_mark (msg.Read t n key) none = refl
no_mark (msg.ReadAnswer seq n found) none = cc
no_mark (msg.StopA i) none = refl
no_mark (msg.StopB i w a s es) none = refl
no_mark (msg.StopNack i p) none = refl
no_mark (msg.NextA i s) none = refl
no_mark (msg.NextB i) none = refl
no_mark (msg.BootA s w es) none = refl
no_mark (msg.BootB s) none = refl
no_mark (msg.Sets s) none = refl
no_mark (msg.SessRead seq n key) none = refl

-- What holds of a stranger's datagram, of an answer that completes nothing, and of one that completes an outstanding request, holds of a
-- datagram's step.
takes_by : (P : ClientMoved → Type 0) (s : ClientState) (d : Letter) → (heard_after s d ≡ s.heard → P (client_stays Stranger s))
    → (heard_after s d ≡ max s.heard (mark_told d.msg) → P (client_stays Heard (hearing (mark_told d.msg) s))) → ((n : ℕ)
    → same_role d.to s.me ≡ true → names s.cluster d ≡ true → answer_number d.msg ≡ Some n → is_outstanding s.window (left s) n ≡ true
    → P (client_completes n (hearing (mark_told d.msg) s)))
    → P (client_takes s d)
takes_by P s d stay hear complete =
    by_test P (same_role d.to s.me && names s.cluster d) (client_told s (mark_told d.msg) (answer_number d.msg)) (client_stays Stranger s)
    (λ mine. (let parts = and_parts (same_role d.to s.me) (names s.cluster d) mine in told (answer_number d.msg) refl (rw mine refl)
    (complete_of parts.0 parts.1))) (λ other. stay (rw other refl))
  where
    complete_of : same_role d.to s.me ≡ true → names s.cluster d ≡ true → (n : ℕ) → answer_number d.msg ≡ Some n
        → is_outstanding s.window (left s) n ≡ true → P (client_completes n (hearing (mark_told d.msg) s))
    complete_of mine known n is out = complete n mine known is out

    told : (o : Option ℕ) → answer_number d.msg ≡ o → heard_after s d ≡ max s.heard (mark_told d.msg) → ((n : ℕ)
        → answer_number d.msg ≡ Some n → is_outstanding s.window (left s) n ≡ true → P (client_completes n (hearing (mark_told d.msg) s)))
        → P (client_told s (mark_told d.msg) o)
    told None is heard each = stay (heard ∙ (let none = no_mark d.msg is in omega (arith, none)))
    told (Some n) is heard each = by_test P (is_outstanding s.window (left s) n) (client_completes n (hearing (mark_told d.msg) s))
        (client_stays Heard (hearing (mark_told d.msg) s)) (λ out. each n is out) (λ out. hear heard)

-- what holds of a client that waits for nothing, and of one that sends what is outstanding, holds of a tick
ticks_by : (P : ClientMoved → Type 0) (s : ClientState) → ((w : Why) → P (client_stays w s)) → ((w : Why) (es : List Event)
    → es ≡ outstanding s.window (left s) → P (record { why = w; state = again s; sends = again_letters (again s) es; completes = false }))
    → P (client_ticks s)
ticks_by P s stay send = go (outstanding s.window (left s)) refl
  where
    go : (es : List Event) → es ≡ outstanding s.window (left s) → P (client_waits s es)
    go [] is = stay Idle
    go (e ∷ es) is = send Resent (e ∷ es) is

-- what is left once the uncompleted request of a number is completed
pub record IsCompleted (n : ℕ) (e : Event) (s : ClientState) : Type 0 where
  pub script : (after_completion n s).script ≡ take s.done s.script ++ e ∷ without_request n (left s)
  pub front : take (s.done + 1) (after_completion n s).script ≡ take s.done s.script ++ e ∷ []
  pub left : drop (s.done + 1) (after_completion n s).script ≡ without_request n (left s)

is_completed : (s : ClientState) (n : ℕ) (e : Event) → IsClient s → Member e (left s) → number_of e ≡ n → IsCompleted n e s
is_completed s n e is here number =
    let one : filter (has_number n) (left s) ≡ e ∷ [] =
    subst (λ (k : ℕ). filter (has_number k) (left s) ≡ e ∷ []) number (only_one 0 (left s) is.script.rising e here) in
    let all : (after_completion n s).script ≡ take s.done s.script ++ e ∷ without_request n (left s) =
    ap (λ (es : List Event). take s.done s.script ++ (es ++ without_request n (left s))) one in
    let parted : (after_completion n s).script ≡ (take s.done s.script ++ e ∷ []) ++ without_request n (left s) =
    all ∙ sym (append_assoc (take s.done s.script) (e ∷ []) (without_request n (left s))) in
    let long : length (take s.done s.script ++ e ∷ []) ≡ s.done + 1 =
    length_push (take s.done s.script) e ∙ ap (λ (k : ℕ). k + 1) (length-take-le s.done s.script is.done) in
    record {
      script = all;
      front = ap (λ (es : List Event). take (s.done + 1) es) parted
          ∙ take_at (take s.done s.script ++ e ∷ []) (without_request n (left s)) (s.done + 1) long;
      left = ap (λ (es : List Event). drop (s.done + 1) es) parted
          ∙ drop_at (take s.done s.script ++ e ∷ []) (without_request n (left s)) (s.done + 1) long;
    }

-- an outstanding request of a number, and what is left once it is completed
found : (s : ClientState) (n : ℕ) → IsClient s → is_outstanding s.window (left s) n ≡ true
    → (e : Event) × Member e (outstanding s.window (left s)) × (number_of e ≡ n) × IsCompleted n e s
found s n is out =
    let here = any-Member (has_number n) (outstanding s.window (left s)) out in
    let number : number_of here.0 ≡ n = eqb-true (number_of here.0) n here.2 in
    (here.0, here.1, number, is_completed s n here.0 is (is_left s.window (left s) here.0 here.1) number)

-- ---- a client with a script of its own stays one

max_fits : (a b : ℕ) → mark.fits a ≡ true → mark.fits b ≡ true → mark.fits (max a b) ≡ true
unfolding mark u64
max_fits a b first second = grind (arith, nat_tests, first, second)

-- the number of an answer is a number of values
pub at_fits : (n : ℕ) → at.fits n ≡ true → mark.fits n ≡ true
unfolding at mark u64
at_fits n fit = grind (arith, nat_tests, fit)

zero_fits : mark.fits 0 ≡ true
unfolding mark u64
zero_fits = refl

pub hearing_is_client : (s : ClientState) (at : ℕ) → mark.fits at ≡ true → IsClient s → IsClient (hearing at s)
hearing_is_client s at fits is = record {
  me = is.me;
  completed = is.completed;
  script = is.script;
  done = is.done;
  some_window = is.some_window;
  window_fits = is.window_fits;
  heard = max_fits s.heard at is.heard fits;
}

-- however many places further it asks
pub further_is_client : (s : ClientState) (o : Option ℕ) → IsClient s → IsClient (record s { shift = o })
further_is_client s o is = record {
  me = is.me;
  completed = is.completed;
  script = is.script;
  done = is.done;
  some_window = is.some_window;
  window_fits = is.window_fits;
  heard = is.heard;
}

pub opened_is_client : (c : Cluster) (index : ℕ) (script : List Event) (options : ClientOptions) → IsScript c index script
    → 1 ≤ options.window → options.window ≤ 64 → IsClient (client_opened c (role Client index) script options)
opened_is_client c index script options is some fits =
    record { me = refl; completed = refl; script = is; done = omega arith; some_window = some; window_fits = fits; heard = zero_fits }

pub completed_is_client : (s : ClientState) (n : ℕ) (e : Event) → IsClient s → Member e (left s) → number_of e ≡ n
    → IsClient (after_completion n s)
completed_is_client s n e is here number = go (is_completed s n e is here number)
  where
    all_without : (p : Event → Bool) → list_all p (left s) ≡ true → list_all p (without_request n (left s)) ≡ true
    all_without p all = Member-all p (without_request n (left s))
        (λ x m. all-Member p (left s) all x (Member-filter (λ (y : Event). not (has_number n y)) x (left s) m).0)

    script_without : IsScript s.cluster s.me.index (left s) → IsScript s.cluster s.me.index (without_request n (left s))
    script_without is = record {
      own = all_without (asks s.me.index) is.own;
      named = all_without (names_event s.cluster) is.named;
      rising = filter_rises (λ (y : Event). not (has_number n y)) 0 (left s) is.rising;
    }

    go : IsCompleted n e s → IsClient (after_completion n s)
    go i =
        let own : asks s.me.index e ≡ true = all-Member (asks s.me.index) (left s) is.script.own e here in
        let before : list_all (asks s.me.index) (take s.done s.script ++ e ∷ []) ≡ true =
        list_all-append (asks s.me.index) (take s.done s.script) (e ∷ [])
        ∙ and_from (list_all (asks s.me.index) (take s.done s.script)) (list_all (asks s.me.index) (e ∷ [])) is.completed (rw own refl) in
        let count : length (after_completion n s).script ≡ length (take s.done s.script) + length (e ∷ without_request n (left s)) =
        ap length i.script ∙ length-append (take s.done s.script) (e ∷ without_request n (left s)) in
        let front : length (take s.done s.script) ≡ s.done = length-take-le s.done s.script is.done in
        record {
          me = is.me;
          completed = ap (list_all (asks s.me.index)) i.front ∙ before;
          script = subst (λ (es : List Event). IsScript s.cluster s.me.index es) (sym i.left) (script_without is.script);
          done = omega (arith, count, front);
          some_window = is.some_window;
          window_fits = is.window_fits;
          heard = is.heard;
        }

heard_is_client : (s : ClientState) (n : ℕ) → IsClient s → is_outstanding s.window (left s) n ≡ true → IsClient (after_completion n s)
heard_is_client s n is out = (let f = found s n is out in completed_is_client s n f.0 is (is_left s.window (left s) f.0 f.1) f.2)

pub takes_stays : (s : ClientState) (d : Letter) → mark.fits (mark_told d.msg) ≡ true → IsClient s → IsClient (client_takes s d).state
takes_stays s d fits is =
    let t = hearing (mark_told d.msg) s in
    let after : IsClient t = hearing_is_client s (mark_told d.msg) fits is in
    takes_by (λ (m : ClientMoved). IsClient m.state) s d (λ h. is) (λ h. after) (λ n mine known number out. heard_is_client t n after out)

pub ticks_stays : (s : ClientState) → IsClient s → IsClient (client_ticks s).state
ticks_stays s is = ticks_by (λ (m : ClientMoved). IsClient m.state) s (λ w. is) (λ w es same. further_is_client s (one_further s.shift) is)

-- ---- a client sends requests of its own, with their names in the cluster

pub starts_own : (s : ClientState) → IsClient s → AreFromClient s (client_start s)
starts_own s is =
    all_own s is s.heard (floor_for (left s)) (outstanding s.window (left s)) (λ e m. left_own s is e (is_left s.window (left s) e m))

pub ticks_own : (s : ClientState) → IsClient s → AreFromClient s (client_ticks s).sends
ticks_own s is =
    ticks_by (λ (m : ClientMoved). AreFromClient s m.sends) s (λ w. nothing_own s)
    (λ w es same. all_own s is s.heard (floor_for (left s)) (map (shifted s.cluster (one_further s.shift)) es)
    (shifted_own s is (one_further s.shift) es (λ e m. is_left s.window (left s) e (subst (λ (xs : List Event). Member e xs) same m))))

pub takes_own : (s : ClientState) (d : Letter) → IsClient s → AreFromClient s (client_takes s d).sends
takes_own s d is =
    takes_by (λ (m : ClientMoved). AreFromClient s m.sends) s d (λ h. nothing_own s) (λ h. nothing_own s)
    (λ n mine known number out. all_own s is (max s.heard (mark_told d.msg)) (floor_for (without_request n (left s)))
    (newly s.window n (left s)) (λ e m. left_own s is e (newly_left n e m)))
  where
    newly_left : (n : ℕ) (e : Event) → Member e (newly s.window n (left s)) → Member e (left s)
    newly_left n e m =
        let after = Member-filter (λ (x : Event). not (is_outstanding s.window (left s) (number_of x))) e
        (outstanding s.window (without_request n (left s))) m in
        (Member-filter (λ (x : Event). not (has_number n x)) e (left s) (is_left s.window (without_request n (left s)) e after.0)).0

-- ---- a datagram completes the request that it answers

pub takes_one : (s : ClientState) (d : Letter) → IsClient s → (client_takes s d).completes ≡ true
    → CompletesRequest s d (client_takes s d).state
takes_one s d is =
    takes_by (λ (m : ClientMoved). m.completes ≡ true → CompletesRequest s d m.state) s d (λ heard h. cc) (λ heard h. cc)
    (λ n mine known number out h. go n mine known number (found s n is out))
  where
    go : (n : ℕ) → same_role d.to s.me ≡ true → names s.cluster d ≡ true → answer_number d.msg ≡ Some n
        → (e : Event) × Member e (outstanding s.window (left s)) × (number_of e ≡ n) × IsCompleted n e s
        → CompletesRequest s d (after_completion n (hearing (mark_told d.msg) s))
    go n mine known number (e, here, of_number, i) =
        let heard : max s.heard (mark_told d.msg) ≡ heard_after s d = rw (mine, known) refl in
        let script : (after_completion n s).script ≡ take s.done s.script ++ e ∷ without_request (number_of e) (left s) =
        subst (λ (k : ℕ). (after_completion n s).script ≡ take s.done s.script ++ e ∷ without_request k (left s))
        (sym of_number) i.script in
        record {
          answers = record {
            request = e;
            outstanding = here;
            number = number ∙ ap (λ (k : ℕ). Some k) (sym of_number);
            received = mine;
            named = known;
          };
          state = λ j. record s { script = script j; done = s.done + 1; heard = heard j; shift = set_back s.shift };
        }

pub takes_none : (s : ClientState) (d : Letter) → (client_takes s d).completes ≡ false
    → (client_takes s d).state ≡ record s { heard = heard_after s d }
takes_none s d =
    takes_by (λ (m : ClientMoved). m.completes ≡ false → m.state ≡ record s { heard = heard_after s d }) s d
    (λ heard h. ap (λ (n : ℕ). record s { heard = n }) (sym heard)) (λ heard h. ap (λ (n : ℕ). record s { heard = n }) (sym heard))
    (λ n mine known number out h. cc)

pub answer_completes : (s : ClientState) (d : Letter) → IsAnswerToRequest s d → (client_takes s d).completes ≡ true
answer_completes s d a =
    let out : is_outstanding s.window (left s) (number_of a.request) ≡ true = Member-any (has_number (number_of a.request)) a.request
    (outstanding s.window (left s)) a.outstanding (number_itself (number_of a.request)) in
    rw (a.received, a.named, a.number, out) refl

pub ticks_none : (s : ClientState) → (client_ticks s).completes ≡ false
ticks_none s = ticks_by (λ (m : ClientMoved). m.completes ≡ false) s (λ w. refl) (λ w es same. refl)

pub ticks_same : (s : ClientState) → (client_ticks s).state ≡ record s { shift = (client_ticks s).state.shift }
ticks_same s = ticks_by (λ (m : ClientMoved). m.state ≡ record s { shift = m.state.shift }) s (λ w. refl) (λ w es same. refl)

-- ---- whom a tick asks

-- a client that asks no others asks as it began
pub ticks_alone : (s : ClientState) → s.shift ≡ None → ((client_ticks s).state ≡ s) × ((client_ticks s).sends ≡ client_start s)
ticks_alone s alone = go (outstanding s.window (left s)) refl
  where
    further : one_further s.shift ≡ s.shift
    further = ap one_further alone ∙ sym alone

    go : (es : List Event) → es ≡ outstanding s.window (left s) → ((client_waits s es).state ≡ s)
        × ((client_waits s es).sends ≡ request_letters s.heard (floor_for (left s)) (outstanding s.window (left s)))
    go [] is = (refl, ap (request_letters s.heard (floor_for (left s))) is)
    go (e ∷ es) is = (
      ap (λ (o : Option ℕ). record s { shift = o }) further,
      ap (λ (o : Option ℕ). request_letters s.heard (floor_for (left s)) (map (shifted s.cluster o) (e ∷ es))) (further ∙ alone)
          ∙ ap (request_letters s.heard (floor_for (left s))) (all_itself s.cluster (e ∷ es) ∙ is),
    )

-- a client that asks others asks those one place further than the last time
pub ticks_further : (s : ClientState) (n : ℕ) → s.shift ≡ Some n → (client_ticks s).sends
    ≡ request_letters s.heard (floor_for (left s)) (map (shifted s.cluster (Some (min (n + 1) 4294967295))) (outstanding s.window (left s)))
ticks_further s n is = go (outstanding s.window (left s)) refl
  where
    go : (es : List Event) → es ≡ outstanding s.window (left s) → (client_waits s es).sends ≡ request_letters s.heard (floor_for (left s))
        (map (shifted s.cluster (Some (min (n + 1) 4294967295))) (outstanding s.window (left s)))
    go [] same = ap (λ (xs : List Event).
        request_letters s.heard (floor_for (left s)) (map (shifted s.cluster (Some (min (n + 1) 4294967295))) xs)) same
    go (e ∷ es) same =
        ap (λ (o : Option ℕ). request_letters s.heard (floor_for (left s)) (map (shifted s.cluster (one_further o)) (e ∷ es))) is
        ∙ ap (λ (xs : List Event).
        request_letters s.heard (floor_for (left s)) (map (shifted s.cluster (Some (min (n + 1) 4294967295))) xs)) same

-- ---- the floors that are sent

tells_of : (s : ClientState) → rise_above 0 (left s) ≡ true → (heard : ℕ) (es : List Event)
    → TellsFloor s (request_letters heard (floor_for (left s)) es)
tells_of s rising heard es = record { told = all_told heard (floor_for (left s)) es; below = all_below (left s) rising }

nothing_tells : (s : ClientState) → rise_above 0 (left s) ≡ true → TellsFloor s []
nothing_tells s rising = record { told = refl; below = all_below (left s) rising }

pub starts_tell : (s : ClientState) → IsClient s → TellsFloor s (client_start s)
starts_tell s is = tells_of s is.script.rising s.heard (outstanding s.window (left s))

pub ticks_tell : (s : ClientState) → IsClient s → TellsFloor s (client_ticks s).sends
ticks_tell s is = ticks_by (λ (m : ClientMoved). TellsFloor s m.sends) s (λ w. nothing_tells s is.script.rising)
    (λ w es same. tells_of s is.script.rising s.heard (map (shifted s.cluster (one_further s.shift)) es))

pub takes_tell : (s : ClientState) (d : Letter) → IsClient s → TellsFloor (client_takes s d).state (client_takes s d).sends
takes_tell s d is =
    takes_by (λ (m : ClientMoved). TellsFloor m.state m.sends) s d (λ h. nothing_tells s is.script.rising)
    (λ h. nothing_tells (hearing (mark_told d.msg) s) is.script.rising)
    (λ n mine known number out. go n (found s n is out).3.left (heard_is_client s n is out).script.rising)
  where
    go : (n : ℕ) → left (after_completion n s) ≡ without_request n (left s) → rise_above 0 (left (after_completion n s)) ≡ true
        → TellsFloor (after_completion n (hearing (mark_told d.msg) s)) (client_completes n (hearing (mark_told d.msg) s)).sends
    go n gone rising =
        let t = hearing (mark_told d.msg) s in
        subst (λ (es : List Event). TellsFloor (after_completion n t) (request_letters t.heard (floor_for es) (newly s.window n (left s))))
        gone (tells_of (after_completion n t) rising t.heard (newly s.window n (left s)))

-- ---- what sessions tell

pub takes_heard : (s : ClientState) (d : Letter) → (client_takes s d).state.heard ≡ heard_after s d
takes_heard s d = takes_by (λ (m : ClientMoved). m.state.heard ≡ heard_after s d) s d (λ heard. sym heard) (λ heard. sym heard)
    (λ n mine known number out. rw (mine, known) refl)

pub starts_marked : (s : ClientState) → TellsHeard s (client_start s)
starts_marked s = all_marked s (floor_for (left s)) (outstanding s.window (left s))

pub ticks_marked : (s : ClientState) → TellsHeard s (client_ticks s).sends
ticks_marked s = ticks_by (λ (m : ClientMoved). TellsHeard s m.sends) s (λ w. refl)
    (λ w es same. all_marked s (floor_for (left s)) (map (shifted s.cluster (one_further s.shift)) es))

pub takes_marked : (s : ClientState) (d : Letter) → TellsHeard (client_takes s d).state (client_takes s d).sends
takes_marked s d =
    takes_by (λ (m : ClientMoved). TellsHeard m.state m.sends) s d (λ h. refl) (λ h. refl)
    (λ n mine known number out.
    all_marked (hearing (mark_told d.msg) s) (floor_for (without_request n (left s))) (newly s.window n (left s)))

-- ---- what becomes outstanding is sent

pub takes_sent : (s : ClientState) (d : Letter) (e : Event) → IsClient s → Member e (outstanding s.window (left (client_takes s d).state))
    → Member e (outstanding s.window (left s)) ⊎ IsSent (client_takes s d).state (client_takes s d).sends e
takes_sent s d e is = takes_by (λ (m : ClientMoved).
    Member e (outstanding s.window (left m.state)) → Member e (outstanding s.window (left s)) ⊎ IsSent m.state m.sends e) s d (λ h m. inl m)
    (λ h m. inl m) (λ n mine known number out m. go (mark_told d.msg) n out (found s n is out) m)
  where
    was_out : (n : ℕ) → Member e (outstanding s.window (without_request n (left s))) → (o : Event)
        × Member o (outstanding s.window (left s)) × (has_number (number_of e) o ≡ true) → Member e (outstanding s.window (left s))
    was_out n after (o, here, same) =
        let e_left : Member e (left s) =
        (Member-filter (λ (x : Event). not (has_number n x)) e (left s) (is_left s.window (without_request n (left s)) e after)).0 in
        let number : number_of o ≡ number_of e = eqb-true (number_of o) (number_of e) same in
        subst (λ (x : Event). Member x (outstanding s.window (left s)))
        (one_number 0 (left s) is.script.rising o e (is_left s.window (left s) o here) e_left number) here

    go : (at n : ℕ) → is_outstanding s.window (left s) n ≡ true → (o : Event) × Member o (outstanding s.window (left s)) × (number_of o ≡ n)
        × IsCompleted n o s → Member e (outstanding s.window (left (after_completion n (hearing at s))))
        → Member e (outstanding s.window (left s)) ⊎ IsSent (after_completion n (hearing at s)) (client_completes n (hearing at s)).sends e
    go at n out (o, here, of_number, i) m =
        let t = hearing at s in
        let after : Member e (outstanding s.window (without_request n (left s))) =
        subst (λ (es : List Event). Member e (outstanding s.window es)) i.left m in
        elim (cases_Bool (is_outstanding s.window (left s) (number_of e))) [
          | inl was ↦ inl (was_out n after (any-Member (has_number (number_of e)) (outstanding s.window (left s)) was))
          | inr new ↦
              let test : not (is_outstanding s.window (left s) (number_of e)) ≡ true = rw new refl in
              let here : Member e (newly s.window n (left s)) =
              filter-Member (λ (x : Event). not (is_outstanding s.window (left s) (number_of x))) e
              (outstanding s.window (without_request n (left s))) after test in
              inr (subst (λ (es : List Event). (x : Letter) → Member x (request t.heard (event_with_floor (floor_for es) e))
              → Member x (client_completes n t).sends) (sym i.left)
              (all_sent t.heard (floor_for (without_request n (left s))) (newly s.window n (left s)) e here))
        ]

-- ---- the steps of the code

-- all outstanding requests went out
pub sent_all : (s : ClientState) (o : Option ℕ) (before sent : List Letter) → IsClient s → before ≡ []
    → sent ≡ before ++ request_letters s.heard (floor_for (left s))
    (map (shifted s.cluster o) (filter (λ (e : Event). nat_lt 0 (number_of e)) (outstanding s.window (left s))))
    → sent ≡ request_letters s.heard (floor_for (left s)) (map (shifted s.cluster o) (outstanding s.window (left s)))
sent_all s o before sent is none sends =
    sends ∙ ap (λ (ds : List Letter). ds ++ request_letters s.heard (floor_for (left s))
    (map (shifted s.cluster o) (filter (λ (e : Event). nat_lt 0 (number_of e)) (outstanding s.window (left s))))) none
    ∙ ap (λ (es : List Event). request_letters s.heard (floor_for (left s)) (map (shifted s.cluster o) es))
    (all_above s.window (left s) is.script.rising)

-- a client begins with those of its lines
pub sent_first : (s : ClientState) (before sent : List Letter) → IsClient s → before ≡ [] → sent ≡ before ++ request_letters s.heard
    (floor_for (left s)) (map (shifted s.cluster None) (filter (λ (e : Event). nat_lt 0 (number_of e)) (outstanding s.window (left s))))
    → sent ≡ client_start s
sent_first s before sent is none sends = sent_all s None before sent is none sends
    ∙ ap (request_letters s.heard (floor_for (left s))) (all_itself s.cluster (outstanding s.window (left s)))

waits_again : (s : ClientState) (es : List Event) (e : Event) (after : ClientState) (sent : List Letter) → Member e es → after ≡ again s
    → sent ≡ again_letters (again s) es → Moves (client_waits s es) Resent false after sent
waits_again s [] e after sent m state is = absurd m
waits_again s (x ∷ es) e after sent m state is = record { why = refl; completes = refl; state = state; sends = is }

-- a tick of a client that hasn't finished sends what is outstanding
pub ticks_again : (s after : ClientState) (sent : List Letter) → IsClient s → is_finished s ≡ false → after ≡ again s
    → sent ≡ again_letters after (outstanding after.window (left after)) → Moves (client_ticks s) Resent false after sent
ticks_again s after sent is unfinished state sends = go (left s) refl
  where
    go : (es : List Event) → left s ≡ es → Moves (client_ticks s) Resent false after sent
    go [] none =
        let long : length (left s) ≡ length s.script - s.done = length-drop s.done s.script in
        let empty : length (left s) ≡ 0 = ap length none in
        let most : s.done ≤ length s.script = is.done in
        let room : s.done < length s.script = grind (most, arith, nat_tests) in
        absurd (omega (arith, long, empty, room))
    go (e ∷ es) here =
        waits_again s (outstanding s.window (left s)) e after sent
        (subst (λ (xs : List Event). Member e (outstanding s.window xs)) (sym here) (first_is s.window e es is.some_window)) state
        (sends ∙ ap (λ (t : ClientState). again_letters t (outstanding t.window (left t))) state)

-- no outstanding request has the number that was heard
pub hears_none : (s : ClientState) (n : ℕ) (after : ClientState) (sent : List Letter) → after ≡ s
    → position (has_number n) (outstanding s.window (left s)) ≡ None → sent ≡ [] → Moves (client_hears s n) Heard false after sent
hears_none s n after sent state is none =
    let out : is_outstanding s.window (left s) n ≡ false = none_found (has_number n) (outstanding s.window (left s)) is in
    rw out (record { why = refl; completes = refl; state = state; sends = none })

-- one has it
pub hears_one : (s : ClientState) (n last : ℕ) (after : ClientState) (before sent : List Letter) → IsClient s
    → is_outstanding s.window (left s) n ≡ true → after ≡ after_completion n s
    → last ≡ last_or 0 (outstanding s.window (left s)) → before ≡ [] → sent ≡ before ++ request_letters after.heard (floor_for (left after))
    (map (shifted after.cluster None) (filter (λ (e : Event). nat_lt last (number_of e)) (outstanding after.window (left after))))
    → Moves (client_hears s n) Heard true after sent
hears_one s n last after before sent is out state end none sends =
    let gone : left (after_completion n s) ≡ without_request n (left s) = (found s n is out).3.left in
    let news : filter (λ (e : Event). nat_lt last (number_of e)) (outstanding s.window (without_request n (left s)))
    ≡ newly s.window n (left s) = newly_is s.window n (left s) last is.script.rising end in
    let all : sent ≡ (client_completes n s).sends =
    sends ∙ ap (λ (es : List Event). before ++ request_letters after.heard (floor_for (left after)) es)
    (all_itself after.cluster (filter (λ (e : Event). nat_lt last (number_of e)) (outstanding after.window (left after))))
    ∙ ap (λ (ds : List Letter). ds ++ request_letters after.heard (floor_for (left after))
    (filter (λ (e : Event). nat_lt last (number_of e)) (outstanding after.window (left after)))) none
    ∙ ap (λ (t : ClientState).
    request_letters t.heard (floor_for (left t)) (filter (λ (e : Event). nat_lt last (number_of e)) (outstanding t.window (left t)))) state
    ∙ ap (λ (es : List Event).
    request_letters s.heard (floor_for es) (filter (λ (e : Event). nat_lt last (number_of e)) (outstanding s.window es))) gone
    ∙ ap (request_letters s.heard (floor_for (without_request n (left s)))) news in
    rw out (record { why = refl; completes = refl; state = state; sends = all })

-- the request at a place of those that are left was brought forward
pub brought_is : (s : ClientState) (place : ℕ) (d : Event) (script : List Event) → IsClient s → place < length (left s)
    → script ≡ take s.done s.script ++ get_or s.script (s.done + place) d ∷ (take place (left s) ++ drop (s.done + place + 1) s.script)
    → script ≡ (after_completion (number_of (get_or (left s) place d)) s).script
brought_is s place d script is inside brought =
    let e = get_or (left s) place d in
    let here : get_or s.script (s.done + place) d ≡ e = sym (get_or-drop s.done s.script place d) in
    let rest : drop (s.done + place + 1) s.script ≡ drop (suc place) (left s) =
    (let n : s.done + place + 1 ≡ s.done + suc place = omega arith in rw n (sym (drop-drop (suc place) s.done s.script))) in
    let one : filter (has_number (number_of e)) (left s) ≡ e ∷ [] =
    only_one 0 (left s) is.script.rising e (at_place place (left s) d inside) in
    let others : without_request (number_of e) (left s) ≡ take place (left s) ++ drop (suc place) (left s) =
    without_at 0 (left s) is.script.rising place d inside in
    rw brought (rw (here, rest, one, others) refl)

pub completed_state : (s : ClientState) (place : ℕ) (d : Event) (script : List Event) (shift : Option ℕ) → IsClient s
    → place < length (left s) → shift ≡ set_back s.shift
    → script ≡ take s.done s.script ++ get_or s.script (s.done + place) d ∷ (take place (left s) ++ drop (s.done + place + 1) s.script)
    → record s { script = script; done = s.done + 1; shift = shift } ≡ after_completion (number_of (get_or (left s) place d)) s
completed_state s place d script shift is inside back brought =
    let all = brought_is s place d script is inside brought in
    λ j. record s { script = all j; done = s.done + 1; shift = back j }

pub completed_client : (s : ClientState) (place : ℕ) (script : List Event) (shift : Option ℕ) → IsClient s → place < length (left s)
    → shift ≡ set_back s.shift
    → ((d : Event)
    → script ≡ take s.done s.script ++ get_or s.script (s.done + place) d ∷ (take place (left s) ++ drop (s.done + place + 1) s.script))
    → IsClient (record s { script = script; done = s.done + 1; shift = shift })
completed_client s place script shift is inside back brought =
    let d = some_of (left s) place inside in
    let e = get_or (left s) place d in
    subst IsClient (sym (completed_state s place d script shift is inside back (brought d)))
    (completed_is_client s (number_of e) e is (at_place place (left s) d inside) refl)
