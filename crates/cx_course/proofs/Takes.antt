-- What a datagram does to a hosted client, beside its delivery in the model.
use Rattle.std.proofs.lemmas.List.{drop_at, length_push}
use Rattle.cx_inv_run.proofs.Common.{Member-cases, Member-filter, Member-first, Member-second, any-Member, filter-Member, names_body, Give}
use Rattle.cx_role.proofs.Common.{◌≡◌, ◌+◌, ◌&&◌, ℕ, zero, suc, Bool, true, false, not, ◌⊎◌, List, [], ◌∷◌, ◌++◌, append_assoc, drop}
use Rattle.cx_role.proofs.Common.{filter, length, map, max, take, Option, None, Some, ap, sym, ◌∙◌, subst, refl, inl, inr, arith}
use Rattle.cx_role.proofs.Common.{append-nil, eqb-true, slice_get, if◌then◌else◌, cases_Bool, none-some, Cluster, Whole, Event, Happened}
use Rattle.cx_role.proofs.Common.{Kind, RoleId, Why, role, same_role, heard_at, heard_by, mark_told, differ_role, same_role-itself, Member}
use Rattle.cx_role.proofs.Common.{names, names_role, token_of, World, act_of, change, world_after, nothing, Token, Letter, Msg}
use Rattle.cx_role.proofs.Common.{length-take-le, told_to, Change, step}
use Rattle.cx_base.specs.declared.event.Event.TheVariants as event
use Rattle.cx_base.specs.declared.role.Kind.TheVariants as kind
use Rattle.cx_base.specs.declared.why.Why.TheVariants as why
use Rattle.cx_client.specs.Asking.{one_further, shifted}
use Rattle.cx_client.specs.Client.{ClientMoved, ClientState, again, answer_number, client_completes, client_hears, client_takes}
use Rattle.cx_client.specs.Client.{client_ticks, client_told, client_waits, after_completion, hearing, left, client_stays}
use Rattle.cx_client.specs.Window.{event_with_floor, floor_for, has_number, is_outstanding, newly, outstanding, request_letters}
use Rattle.cx_client.specs.Window.{without_request}
use Rattle.cx_client.proofs.Shifted.{all_itself}
use Rattle.cx_client.proofs.Steps.{completed_is_client, further_is_client}
use Rattle.cx_client.proofs.Windows.{is_left, only_one, taken}
use Rattle.cx_letter.specs.declared.input.Input.TheVariants as input
use Rattle.cx_letter.specs.declared.message.Msg.TheVariants as msg
use Rattle.cx_script.specs.Requests.{number_of}
use Rattle.cx_course.proofs.Asker.{IsAsker, IsTold, IsTraced, SparesClient, unheard}
use Rattle.cx_course.proofs.Hearing.{IsThere, heard_then, is_there, spares, told_other, traced_behind}
use Rattle.cx_course.proofs.Requests.{Sends, step_is}
use Rattle.cx_course.proofs.Scripts.{dropped}

-- a request that was told is told by a client of the same cluster whose script has the same lines, and of which no more are left
told_on : (s t : ClientState) (e : Event) → IsTold s e → t.cluster ≡ s.cluster → ((l : Event) → Member l s.script → Member l t.script)
    → ((l : Event) → Member l (left t) → Member l (left s)) → IsTold t e
told_on s t e told same lines fewer = record {
  line = told.line;
  floor = told.floor;
  shift = told.shift;
  own = lines told.line told.own;
  is = told.is ∙ ap (λ c. event_with_floor told.floor (shifted c told.shift told.line)) (sym same);
  below = λ l m. told.below l (fewer l m);
}

-- a line is in front, or left
parted : (n : ℕ) (e : Event) (es : List Event) → Member e es → Member e (take n es) ⊎ Member e (drop n es)
parted zero e es m = inr m
parted (suc n) e [] m = absurd m
parted (suc n) e (x ∷ es) (inl same) = inl (inl same)
parted (suc n) e (x ∷ es) (inr m) = elim (parted n e es m) [ inl front ↦ inl (inr front) | inr rest ↦ inr rest ]

-- ---- a delivery to a client

module _ (w : World) (s : ClientState) (is : IsAsker w s) (traced : IsTraced w) (n : ℕ) (d : Letter) (sent : slice_get w.sent n ≡ Some d)
    (to : d.to ≡ s.me) where
  abbrev pub Delivery : Event
  Delivery = event.Deliver n Whole

  abbrev Hearing : Change
  Hearing = nothing (Some d.to) w.roles why.Heard

  hears_so : change w Delivery ≡ Hearing
  hears_so = rw sent (by_kind d.to.kind (ap (λ (a : RoleId). a.kind) (to ∙ is.client.me)))
    where
      by_kind : (k : Kind) → k ≡ kind.Client → act_of w.cluster w.roles w.kept (Give (input.Take d) Whole) d.to k ≡ Hearing
      by_kind k client = ap (λ j. act_of w.cluster w.roles w.kept (Give (input.Take d) Whole) d.to j) client

  abbrev Heard : World
  Heard = world_after w Delivery Hearing

  abbrev New : Happened
  New = record { event = Delivery; why = why.Heard }

  abbrev pub Then : ClientState
  Then = hearing (mark_told d.msg) s

  its_name : d.to ≡ role kind.Client s.me.index
  its_name = to ∙ is.client.me

  tells_it : heard_at s.me.index w.sent New ≡ mark_told d.msg
  tells_it = ap (told_to s.me.index) sent ∙ ap (λ (b : Bool). if b then mark_told d.msg else 0)
      (ap (λ (r : RoleId). same_role r (role kind.Client s.me.index)) its_name ∙ same_role-itself (role kind.Client s.me.index))

  there : IsThere w.sent New
  there = subst (λ (y : Why). IsThere w.sent (record { event = Delivery; why = y })) (ap (λ (ch : Change). ch.why) hears_so)
      (is_there w Delivery)

  heard_so : max s.heard (mark_told d.msg) ≡ heard_by s.me.index Heard.sent Heard.events
  heard_so =
      turned s.heard (mark_told d.msg) ∙ ap (λ n. max n s.heard) (sym tells_it) ∙ ap (λ n. max (heard_at s.me.index w.sent New) n) is.heard
      ∙ sym (heard_then w Delivery Hearing traced there s.me.index)
    where
      turned : (a b : ℕ) → max a b ≡ max b a
      turned a b = omega arith

  -- such an event asks for nothing
  asks_none : (h : Happened) (t : Token) → Member h Heard.events → token_of h.event ≡ Some t → Member h w.events
  asks_none h t m token = elim (Member-cases h w.events (New ∷ []) m) [
    | inl old ↦ old
    | inr (inl new) ↦ absurd (none-some t (sym (ap (λ (x : Happened). token_of x.event) new) ∙ token))
    | inr (inr never) ↦ absurd never
  ]

  asker_behind : IsAsker Heard Then
  asker_behind = record {
    client = is.client;
    cluster = is.cluster;
    named = is.named;
    lines = is.lines;
    one_line = is.one_line;
    asked =
        λ h t m sent token mine. told_on s Then h.event (is.asked h t (asks_none h t m token) sent token mine) refl (λ l m. m) (λ l m. m);
    heard = heard_so;
  }

  spared : (index : ℕ) → (index ≡ s.me.index → ⊥) → SparesClient w Heard index
  spared index differs =
      spares w Delivery Hearing traced there index refl (told_other index w New n Whole d refl sent
      (differ_role d.to (role kind.Client index) (λ same. differs (ap (λ (r : RoleId). r.index) (sym same ∙ its_name)))))

  pub hears : Sends w (step w Delivery) s [] × IsAsker (step w Delivery) Then × IsTraced (step w Delivery)
  hears =
      let behind = step_is w Delivery Hearing hears_so in (
        subst (λ x. Sends w x s []) (sym behind)
            (record { cluster = refl; roles = refl; kept = append-nil w.kept; sent = refl; others = spared }),
        subst (λ x. IsAsker x Then) (sym behind) asker_behind,
        subst IsTraced (sym behind) (traced_behind w Delivery Hearing traced there (λ x m. absurd m)),
      )

-- ---- what the client does

-- a message is no answer, and tells nothing; or it is one, and names nothing
pub record IsOther (m : Msg) : Type 0 where
  pub none : answer_number m ≡ None
  pub nothing : mark_told m ≡ 0

pub record IsAnswer (m : Msg) : Type 0 where
  pub number : ℕ
  pub is : answer_number m ≡ Some number
  pub names : (c : Cluster) → names_body c m ≡ true

answer_or_not : (m : Msg) → IsOther m ⊎ IsAnswer m
answer_or_not (msg.Submit c) = inl (record { none = refl; nothing = refl })
answer_or_not (msg.Batch cs) = inl (record { none = refl; nothing = refl })
answer_or_not (msg.Leads r) = inl (record { none = refl; nothing = refl })
answer_or_not (msg.MatchA r g) = inl (record { none = refl; nothing = refl })
answer_or_not (msg.MatchB r w es) = inl (record { none = refl; nothing = refl })
answer_or_not (msg.MatchNack r why o) = inl (record { none = refl; nothing = refl })
answer_or_not (msg.Phase1A r) = inl (record { none = refl; nothing = refl })
answer_or_not (msg.Phase1B r cw vs) = inl (record { none = refl; nothing = refl })
answer_or_not (msg.Nack r p) = inl (record { none = refl; nothing = refl })
answer_or_not (msg.Propose r g s cw v) = inl (record { none = refl; nothing = refl })
answer_or_not (msg.Phase2A r s cw v) = inl (record { none = refl; nothing = refl })
answer_or_not (msg.Phase2B r s) = inl (record { none = refl; nothing = refl })
answer_or_not (msg.Chosen s v) = inl (record { none = refl; nothing = refl })
answer_or_not (msg.ChosenIn r s) = inl (record { none = refl; nothing = refl })
answer_or_not (msg.Results s answers) = inl (record { none = refl; nothing = refl })
answer_or_not (msg.Answer seq at reply) = inr (record { number = seq; is = refl; names = λ c. refl })
answer_or_not (msg.Held n) = inl (record { none = refl; nothing = refl })
answer_or_not (msg.Fetch n) = inl (record { none = refl; nothing = refl })
answer_or_not (msg.Inform r n) = inl (record { none = refl; nothing = refl })
answer_or_not (msg.Informed r n) = inl (record { none = refl; nothing = refl })
answer_or_not (msg.GarbageA r g) = inl (record { none = refl; nothing = refl })
answer_or_not (msg.GarbageB r) = inl (record { none = refl; nothing = refl })
answer_or_not (msg.ReadReq seq replica key) = inl (record { none = refl; nothing = refl })
answer_or_not (msg.MatchRead t) = inl (record { none = refl; nothing = refl })
answer_or_not (msg.MatchReadAck t w es) = inl (record { none = refl; nothing = refl })
answer_or_not (msg.PreRead t w) = inl (record { none = refl; nothing = refl })
answer_or_not (msg.PreReadAck t w n) = inl (record { none = refl; nothing = refl })
answer_or_not (msg.Read t n key) = inl (record { none = refl; nothing = refl })
answer_or_not (msg.ReadAnswer seq n found) = inr (record { number = seq; is = refl; names = λ c. refl })
answer_or_not (msg.StopA i) = inl (record { none = refl; nothing = refl })
answer_or_not (msg.StopB i w a s es) = inl (record { none = refl; nothing = refl })
answer_or_not (msg.StopNack i p) = inl (record { none = refl; nothing = refl })
answer_or_not (msg.NextA i s) = inl (record { none = refl; nothing = refl })
answer_or_not (msg.NextB i) = inl (record { none = refl; nothing = refl })
answer_or_not (msg.BootA s w es) = inl (record { none = refl; nothing = refl })
answer_or_not (msg.BootB s) = inl (record { none = refl; nothing = refl })
answer_or_not (msg.Sets s) = inl (record { none = refl; nothing = refl })
answer_or_not (msg.SessRead seq n key) = inl (record { none = refl; nothing = refl })

-- a client once the outstanding request of this number is completed
module _ (w : World) (s : ClientState) (is : IsAsker w s) (n : ℕ) (out : is_outstanding s.window (left s) n ≡ true) where
  found : (e : Event) × Member e (left s) × (number_of e ≡ n)
  found =
      let here = any-Member (has_number n) (outstanding s.window (left s)) out in
      (here.0, is_left s.window (left s) here.0 here.1, eqb-true (number_of here.0) n here.2)

  pub left_then : left (after_completion n s) ≡ without_request n (left s)
  left_then =
      let e = found.0 in
      let one : filter (has_number n) (left s) ≡ e ∷ [] =
      subst (λ (k : ℕ). filter (has_number k) (left s) ≡ e ∷ []) found.2 (only_one 0 (left s) is.client.script.rising e found.1) in
      let parted : (after_completion n s).script ≡ (take s.done s.script ++ e ∷ []) ++ without_request n (left s) =
      ap (λ (es : List Event). take s.done s.script ++ (es ++ without_request n (left s))) one
      ∙ sym (append_assoc (take s.done s.script) (e ∷ []) (without_request n (left s))) in
      let long : length (take s.done s.script ++ e ∷ []) ≡ s.done + 1 =
      length_push (take s.done s.script) e ∙ ap (λ (k : ℕ). k + 1) (length-take-le s.done s.script is.client.done) in
      ap (λ (es : List Event). drop (s.done + 1) es) parted
      ∙ drop_at (take s.done s.script ++ e ∷ []) (without_request n (left s)) (s.done + 1) long

  still_left : (l : Event) → Member l (left (after_completion n s)) → Member l (left s)
  still_left l m = (Member-filter (λ (x : Event). not (has_number n x)) l (left s) (subst (λ (es : List Event). Member l es) left_then m)).0

  -- its script has the same lines
  lines_then : (l : Event) → Member l s.script → Member l (after_completion n s).script
  lines_then l m = elim (parted s.done l s.script m) [
    | inl front ↦ Member-first l (take s.done s.script) (filter (has_number n) (left s) ++ without_request n (left s)) front
    | inr rest ↦ Member-second l (take s.done s.script) (filter (has_number n) (left s) ++ without_request n (left s))
        (elim (cases_Bool (has_number n l)) [
          | inl t ↦
              Member-first l (filter (has_number n) (left s)) (without_request n (left s)) (filter-Member (has_number n) l (left s) rest t)
          | inr f ↦ Member-second l (filter (has_number n) (left s)) (without_request n (left s))
              (filter-Member (λ (x : Event). not (has_number n x)) l (left s) rest (rw f refl))
        ])
  ]

  lines_before : (l : Event) → Member l (after_completion n s).script → Member l s.script
  lines_before l m = elim (Member-cases l (take s.done s.script) (filter (has_number n) (left s) ++ without_request n (left s)) m) [
    | inl front ↦ taken s.done l s.script front
    | inr rest ↦ dropped s.done l s.script (elim (Member-cases l (filter (has_number n) (left s)) (without_request n (left s)) rest) [
      | inl own ↦ (Member-filter (has_number n) l (left s) own).0
      | inr other ↦ (Member-filter (λ (x : Event). not (has_number n x)) l (left s) other).0
    ])
  ]

  pub asks_then : IsAsker w (after_completion n s)
  asks_then = record {
    client = completed_is_client (unheard s) n found.0 is.client found.1 found.2;
    cluster = is.cluster;
    named = is.named;
    lines = λ l m. is.lines l (lines_before l m);
    one_line = λ a b m o same. is.one_line a b (lines_before a m) (lines_before b o) same;
    asked = λ h t m sent token mine. told_on s (after_completion n s) h.event (is.asked h t m sent token mine) refl lines_then still_left;
    heard = is.heard;
  }

-- What a move of a client comes to: some of its outstanding lines go out, perhaps to others, with the floor that it then tells.
pub record Asks (w : World) (s : ClientState) (m : ClientMoved) : Type 0 where
  pub asker : IsAsker w m.state
  pub me : m.state.me ≡ s.me
  pub lines : List Event
  pub shift : Option ℕ
  pub out : (e : Event) → Member e lines → Member e (outstanding m.state.window (left m.state))
  pub sends : m.sends ≡ request_letters m.state.heard (floor_for (left m.state)) (map (shifted m.state.cluster shift) lines)

pub stays_so : (w : World) (s t : ClientState) (y : Why) → IsAsker w t → t.me ≡ s.me → Asks w s (client_stays y t)
stays_so w s t y is me = record { asker = is; me = me; lines = []; shift = None; out = λ e m. absurd m; sends = refl }

completes_so : (w : World) (t : ClientState) (n : ℕ) → IsAsker w t → is_outstanding t.window (left t) n ≡ true
    → Asks w t (client_completes n t)
completes_so w t n is out = record {
  asker = asks_then w t is n out;
  me = refl;
  lines = newly t.window n (left t);
  shift = None;
  out = λ e m.
      subst (λ (es : List Event). Member e (outstanding t.window es)) (sym (left_then w t is n out))
      (Member-filter (λ (x : Event). not (is_outstanding t.window (left t) (number_of x))) e
      (outstanding t.window (without_request n (left t))) m).0;
  sends =
      ap (λ (es : List Event). request_letters t.heard (floor_for es) (newly t.window n (left t))) (sym (left_then w t is n out))
      ∙ ap (request_letters t.heard (floor_for (left (after_completion n t)))) (sym (all_itself t.cluster (newly t.window n (left t))));
}

hears_so_far : (w : World) (t : ClientState) (n : ℕ) → IsAsker w t → Asks w t (client_hears t n)
hears_so_far w t n is = elim (cases_Bool (is_outstanding t.window (left t) n)) [
  | inl out ↦ subst (Asks w t) (sym (rw out refl)) (completes_so w t n is out)
  | inr out ↦ subst (Asks w t) (sym (rw out refl)) (stays_so w t t why.Heard is refl)
]

-- A datagram to it: it hears of an answer, as the world does that delivers it.
module _ (w : World) (s : ClientState) (d : Letter) (from : names_role s.cluster d.from ≡ true) (to : d.to ≡ s.me)
    (named : names_role s.cluster s.me ≡ true) (is : IsAsker w (hearing (mark_told d.msg) s)) where
  names_it : names_body s.cluster d.msg ≡ true → (same_role d.to s.me && names s.cluster d) ≡ true
  names_it body =
      let mine : same_role d.to s.me ≡ true = ap (λ (r : RoleId). same_role r s.me) to ∙ same_role-itself s.me in
      let here : names_role s.cluster d.to ≡ true = ap (names_role s.cluster) to ∙ named in
      rw (mine, from, here, body) refl

  pub takes_so : Asks w s (client_takes s d)
  takes_so = elim (answer_or_not d.msg) [
    | inl other ↦ subst (Asks w s) (sym (no_answer other)) (strange other)
    | inr answer ↦ subst (Asks w s) (sym (an_answer answer)) (told answer)
  ]
    where
      either : {A : Type 0} (b : Bool) (x : A) → (if b then x else x) ≡ x
      either true x = refl
      either false x = refl

      no_answer : IsOther d.msg → client_takes s d ≡ client_stays why.Stranger s
      no_answer other = ap (λ (o : Option ℕ). if same_role d.to s.me && names s.cluster d then client_told s (mark_told d.msg) o
          else client_stays why.Stranger s) other.none ∙ either (same_role d.to s.me && names s.cluster d) (client_stays why.Stranger s)

      least : (n : ℕ) → max n 0 ≡ n
      least n = omega arith

      strange : IsOther d.msg → Asks w s (client_stays why.Stranger s)
      strange other =
          let same : hearing (mark_told d.msg) s ≡ s =
          ap (λ (n : ℕ). record s { heard = max s.heard n }) other.nothing ∙ ap (λ (n : ℕ). record s { heard = n }) (least s.heard) in
          stays_so w s s why.Stranger (subst (IsAsker w) same is) refl

      an_answer : (answer : IsAnswer d.msg) → client_takes s d ≡ client_hears (hearing (mark_told d.msg) s) answer.number
      an_answer answer = ap (λ (b : Bool). if b then client_told s (mark_told d.msg) (answer_number d.msg) else client_stays why.Stranger s)
          (names_it (answer.names s.cluster)) ∙ ap (client_told s (mark_told d.msg)) answer.is

      told : (answer : IsAnswer d.msg) → Asks w s (client_hears (hearing (mark_told d.msg) s) answer.number)
      told answer =
          let a = hears_so_far w (hearing (mark_told d.msg) s) answer.number is in
          record { asker = a.asker; me = a.me; lines = a.lines; shift = a.shift; out = a.out; sends = a.sends }

-- a client that asks again stands as before
asks_again : (w : World) (s : ClientState) → IsAsker w s → IsAsker w (again s)
asks_again w s is = record {
  client = further_is_client (unheard s) (one_further s.shift) is.client;
  cluster = is.cluster;
  named = is.named;
  lines = is.lines;
  one_line = is.one_line;
  asked = λ h t m sent token mine. told_on s (again s) h.event (is.asked h t m sent token mine) refl (λ l m. m) (λ l m. m);
  heard = is.heard;
}

-- a tick sends what is outstanding, if something is, where the client asks others to the next ones
pub ticks_so : (w : World) (s : ClientState) → IsAsker w s → Asks w s (client_ticks s)
ticks_so w s is = go (outstanding s.window (left s)) refl
  where
    go : (es : List Event) → outstanding s.window (left s) ≡ es → Asks w s (client_waits s es)
    go [] none = stays_so w s s why.Idle is refl
    go (e ∷ es) some = record {
      asker = asks_again w s is;
      me = refl;
      lines = e ∷ es;
      shift = one_further s.shift;
      out = λ x m. subst (λ (xs : List Event). Member x xs) (sym some) m;
      sends = refl;
    }
