-- What a client has heard grows by what is delivered to it alone: what is sent later changes nothing of it.
use Rattle.std.proofs.Math.Bool.{or-true}
use Rattle.std.proofs.lemmas.Bool.Decides.{eqb_tells}
use Rattle.std.proofs.lemmas.Grind.{get_or-set_at}
use Rattle.cx_base.proofs.Common.{get_or, replicate, IsTrue, length-set, get_or-set_other}
use Rattle.cx_inv_run.proofs.Common.{◌≡◌, ◌<◌, ◌≤◌, ◌+◌, ℕ, zero, suc, max, Bool, true, false, not, ◌&&◌, ◌||◌, ◌==◌, if◌then◌else◌, List}
use Rattle.cx_inv_run.proofs.Common.{[], ◌∷◌, ◌++◌, length, nat_lt, slice_get, slice_set, Option, None, Some, ap, sym, ◌∙◌, subst, refl}
use Rattle.cx_inv_run.proofs.Common.{inl, inr, arith, length-append, lt-ltb, ltb-true, list_all, list_all-append, slice_get_within, code_of}
use Rattle.cx_inv_run.proofs.Common.{Cut, Event, Happened, Kind, Why, heard_at, heard_by, mark_told, World, change, come, Letter}
use Rattle.cx_base.specs.declared.event.Event.TheVariants as event
use Rattle.cx_base.specs.declared.role.Kind.TheVariants as kind
use Rattle.cx_field.specs.Fields.{mark}
use Rattle.cx_wire.specs.Format.{u64}
use Rattle.cx_model.specs.Heard.{delivered_to, is_heard, told_to}
use Rattle.cx_world.specs.Heard.{AreMarks, Hears, Raised, delivered, heard_below, is_below, is_client}

-- A NUMBER IS RAISED

pub raised_none : (numbers : List ℕ) (told : ℕ → ℕ) → ((client : ℕ) → told client ≡ 0) → Raised numbers numbers told
raised_none numbers told none = λ client. let e : told client ≡ 0 = none client in omega arith

pub raised_less : (numbers : List ℕ) (client told : ℕ) → told ≤ get_or numbers client 0
    → Raised numbers numbers (λ other. if client == other then told else 0)
raised_less numbers client told less =
    λ other. elim (eqb_tells client other) [
      | inl p ↦
          let own : (if client == other then told else 0) ≡ told = rw p.0 refl in
          let below : told ≤ get_or numbers other 0 = subst (λ c. told ≤ get_or numbers c 0) p.1 less in
          omega arith
      | inr p ↦ let none : (if client == other then told else 0) ≡ 0 = rw p.0 refl in omega arith
    ]

pub raised_more : (numbers : List ℕ) (client told : ℕ) → client < length numbers → get_or numbers client 0 < told
    → Raised numbers (slice_set numbers client told) (λ other. if client == other then told else 0)
raised_more numbers client told there more =
    λ other. elim (eqb_tells client other) [
      | inl p ↦
          let own : (if client == other then told else 0) ≡ told = rw p.0 refl in
          let now : get_or (slice_set numbers client told) other 0 ≡ told = get_or-set_at numbers client other told 0 (sym p.1) there in
          let above : get_or numbers other 0 < told = subst (λ c. get_or numbers c 0 < told) p.1 more in
          omega arith
      | inr p ↦
          let none : (if client == other then told else 0) ≡ 0 = rw p.0 refl in
          let now : get_or (slice_set numbers client told) other 0 ≡ get_or numbers other 0 =
          get_or-set_other numbers client other told 0 (λ e. p.1 (sym e)) in
          omega arith
    ]

pub still_marks : (numbers : List ℕ) (client told : ℕ) → AreMarks numbers → client < 64 → IsTrue (mark.fits told)
    → AreMarks (slice_set numbers client told)
still_marks numbers client told are small fits =
    record {
      clients = length-set numbers client told ∙ are.clients;
      fit = λ other. elim (eqb_tells client other) [
        | inl p ↦ subst (λ n. IsTrue (mark.fits n)) (sym (get_or-set_at numbers client other told 0 (sym p.1) (rw are.clients small))) fits
        | inr p ↦ subst (λ n. IsTrue (mark.fits n)) (sym (get_or-set_other numbers client other told 0 (λ e. p.1 (sym e)))) (are.fit other)
      ];
    }

pub zero_fits : IsTrue (mark.fits 0)
unfolding mark u64
zero_fits = refl

-- at first each has heard of nothing
pub all_zero : (n client : ℕ) → ◌≡◌ {A = ℕ} (get_or (replicate n 0) client 0) 0
all_zero zero client = refl
all_zero (suc n) zero = refl
all_zero (suc n) (suc client) = all_zero n client

-- WHAT IS DELIVERED TO WHOM

never : {A : Type 0} → false ≡ true → A
never e = cc

none_at : (k : Kind) (index client m : ℕ) → is_client k ≡ false
    → ◌≡◌ {A = ℕ} (if (code_of k == code_of kind.Client) && (index == client) then m else 0) 0
none_at kind.Client index client m other = never (sym other)
none_at k index client m other = refl

one_at : (k : Kind) (index client m : ℕ) → is_client k ≡ true
    → ◌≡◌ {A = ℕ} (if (code_of k == code_of kind.Client) && (index == client) then m else 0) (if index == client then m else 0)
one_at kind.Client index client m is = refl
one_at other index client m is = never is

pub told_none : (d : Letter) → is_client d.to.kind ≡ false → (client : ℕ) → told_to client (Some d) ≡ 0
told_none d other client = none_at d.to.kind d.to.index client (mark_told d.msg) other

pub told_one : (d : Letter) → is_client d.to.kind ≡ true → (client : ℕ)
    → told_to client (Some d) ≡ (if d.to.index == client then mark_told d.msg else 0)
told_one d is client = one_at d.to.kind d.to.index client (mark_told d.msg) is

abbrev pub told_at : ℕ → List Letter → Option ℕ → ℕ
told_at client sent None = 0
told_at client sent (Some n) = told_to client (slice_get sent n)

pub delivered_is : (client : ℕ) (sent : List Letter) (e : Event) → delivered_to client sent e ≡ told_at client sent (delivered e)
delivered_is client sent (event.Write command batcher) = refl
delivered_is client sent other = refl

-- what was heard with a word that doesn't say so, of an event that delivers nothing, and of one that does
pub heard_none : (client : ℕ) (sent : List Letter) (h : Happened) → is_heard h.why ≡ false → heard_at client sent h ≡ 0
heard_none client sent h other = ap (λ (b : Bool). if b then delivered_to client sent h.event else 0) other

pub heard_of : (client : ℕ) (sent : List Letter) (h : Happened) (o : Option ℕ) → is_heard h.why ≡ true → delivered h.event ≡ o
    → heard_at client sent h ≡ told_at client sent o
heard_of client sent h o is same = ap (λ (b : Bool). if b then delivered_to client sent h.event else 0) is
    ∙ delivered_is client sent h.event ∙ ap (λ x. told_at client sent x) same

pub hear_other : (numbers : List ℕ) (sent : List Letter) (h : Happened) → is_heard h.why ≡ false
    → Raised numbers numbers (λ client. heard_at client sent h)
hear_other numbers sent h other = raised_none numbers (λ client. heard_at client sent h) (λ client. heard_none client sent h other)

pub hear_nothing : (numbers : List ℕ) (sent : List Letter) (h : Happened) → is_heard h.why ≡ true → delivered h.event ≡ None
    → Raised numbers numbers (λ client. heard_at client sent h)
hear_nothing numbers sent h is none = raised_none numbers (λ client. heard_at client sent h) (λ client. heard_of client sent h None is none)

pub hear_absent : (numbers : List ℕ) (sent : List Letter) (h : Happened) (n : ℕ) → is_heard h.why ≡ true → delivered h.event ≡ Some n
    → slice_get sent n ≡ None → Raised numbers numbers (λ client. heard_at client sent h)
hear_absent numbers sent h n is some none = raised_none numbers (λ client. heard_at client sent h)
    (λ client. heard_of client sent h (Some n) is some ∙ ap (λ x. told_to client x) none)

pub hear_one : (numbers raised : List ℕ) (sent : List Letter) (h : Happened) (n : ℕ) (d : Letter) → is_heard h.why ≡ true
    → delivered h.event ≡ Some n → slice_get sent n ≡ Some d
    → Raised numbers raised (λ client. told_to client (Some d)) → Raised numbers raised (λ client. heard_at client sent h)
hear_one numbers raised sent h n d is some there told = λ client. told client
    ∙ ap (λ m. max m (get_or numbers client 0)) (sym (heard_of client sent h (Some n) is some ∙ ap (λ x. told_to client x) there))

pub take_none : (numbers : List ℕ) (d : Letter) → is_client d.to.kind ≡ false → Raised numbers numbers (λ client. told_to client (Some d))
take_none numbers d other = raised_none numbers (λ client. told_to client (Some d)) (λ client. told_none d other client)

pub take_one : (numbers raised : List ℕ) (d : Letter) (index told : ℕ) → is_client d.to.kind ≡ true → index ≡ d.to.index
    → told ≡ mark_told d.msg
    → Raised numbers raised (λ client. if index == client then told else 0) → Raised numbers raised (λ client. told_to client (Some d))
take_one numbers raised d index told is same tells more =
    λ client. more client ∙ ap (λ m. max m (get_or numbers client 0)) (rw (same, tells) (sym (told_one d is client)))

-- WHAT IS SENT LATER

get_earlier : (sent more : List Letter) (n : ℕ) → n < length sent → slice_get (sent ++ more) n ≡ slice_get sent n
get_earlier [] more n below = absurd (omega (arith, below))
get_earlier (d ∷ sent) more zero below = refl
get_earlier (d ∷ sent) more (suc n) below = get_earlier sent more n (omega (arith, below))

below_more : (sent more : List Letter) (n : ℕ) → nat_lt n (length sent) ≡ true → nat_lt n (length (sent ++ more)) ≡ true
below_more sent more n below =
    let earlier : n < length sent = ltb-true n (length sent) below in
    let size : length (sent ++ more) ≡ length sent + length more = length-append sent more in
    let now : n < length (sent ++ more) = omega arith in
    lt-ltb n (length (sent ++ more)) now

is_there : (sent : List Letter) (n : ℕ) (d : Letter) → slice_get sent n ≡ Some d → nat_lt n (length sent) ≡ true
is_there sent n d e = lt-ltb n (length sent) (slice_get_within sent n d e)

same_if : (b : Bool) (client : ℕ) (sent more : List Letter) (o : Option ℕ) → (not b || is_below (length sent) o) ≡ true
    → ◌≡◌ {A = ℕ} (if b then told_at client (sent ++ more) o else 0) (if b then told_at client sent o else 0)
same_if false client sent more o below = refl
same_if true client sent more None below = refl
same_if true client sent more (Some n) below = ap (λ x. told_to client x) (get_earlier sent more n (ltb-true n (length sent) below))

below_if : (b : Bool) (sent more : List Letter) (o : Option ℕ) → (not b || is_below (length sent) o) ≡ true
    → (not b || is_below (length (sent ++ more)) o) ≡ true
below_if false sent more o below = refl
below_if true sent more None below = refl
below_if true sent more (Some n) below = below_more sent more n below

same_heard_at : (client : ℕ) (sent more : List Letter) (h : Happened) → heard_below (length sent) h ≡ true
    → heard_at client (sent ++ more) h ≡ heard_at client sent h
same_heard_at client sent more h below =
    ap (λ (x : ℕ). if is_heard h.why then x else 0) (delivered_is client (sent ++ more) h.event)
    ∙ same_if (is_heard h.why) client sent more (delivered h.event) below
    ∙ ap (λ (x : ℕ). if is_heard h.why then x else 0) (sym (delivered_is client sent h.event))

first_of : (a b : Bool) → (a && b) ≡ true → a ≡ true
first_of true b e = refl
first_of false b e = never e

rest_of : (a b : Bool) → (a && b) ≡ true → b ≡ true
rest_of true b e = e
rest_of false b e = never e

both : (a b : Bool) → a ≡ true → b ≡ true → (a && b) ≡ true
both true b p q = q
both false b p q = p

same_heard : (client : ℕ) (sent more : List Letter) (events : List Happened) → list_all (heard_below (length sent)) events ≡ true
    → heard_by client (sent ++ more) events ≡ heard_by client sent events
same_heard client sent more [] all = refl
same_heard client sent more (h ∷ events) all =
    let one = first_of (heard_below (length sent) h) (list_all (heard_below (length sent)) events) all in
    let others = rest_of (heard_below (length sent) h) (list_all (heard_below (length sent)) events) all in
    ap (λ n. max n (heard_by client (sent ++ more) events)) (same_heard_at client sent more h one)
    ∙ ap (λ n. max (heard_at client sent h) n) (same_heard client sent more events others)

still_below : (sent more : List Letter) (events : List Happened) → list_all (heard_below (length sent)) events ≡ true
    → list_all (heard_below (length (sent ++ more))) events ≡ true
still_below sent more [] all = refl
still_below sent more (h ∷ events) all =
    let one = first_of (heard_below (length sent) h) (list_all (heard_below (length sent)) events) all in
    let others = rest_of (heard_below (length sent) h) (list_all (heard_below (length sent)) events) all in
    both (heard_below (length (sent ++ more)) h) (list_all (heard_below (length (sent ++ more))) events)
    (below_if (is_heard h.why) sent more (delivered h.event) one) (still_below sent more events others)

-- ONE EVENT MORE

swapped : (a b c : ℕ) → max a (max b c) ≡ max b (max a c)
swapped a b c = omega arith

heard_more : (client : ℕ) (sent : List Letter) (events : List Happened) (h : Happened)
    → heard_by client sent (events ++ h ∷ []) ≡ max (heard_at client sent h) (heard_by client sent events)
heard_more client sent [] h = refl
heard_more client sent (g ∷ events) h = ap (λ n. max (heard_at client sent g) n) (heard_more client sent events h)
    ∙ swapped (heard_at client sent g) (heard_at client sent h) (heard_by client sent events)

-- The numbers after one event more are what each client has heard of it, whatever is sent.
pub hears_after : (numbers raised : List ℕ) (sent more : List Letter) (events : List Happened) (h : Happened)
    → Hears numbers sent events → list_all (heard_below (length sent)) events ≡ true → heard_below (length sent) h ≡ true
    → Raised numbers raised (λ client. heard_at client sent h) → Hears raised (sent ++ more) (events ++ h ∷ [])
hears_after numbers raised sent more events h hears all one told =
    λ client. told client ∙ ap (λ n. max (heard_at client sent h) n) (hears client)
    ∙ sym (heard_more client (sent ++ more) events h
    ∙ ap (λ n. max n (heard_by client (sent ++ more) events)) (same_heard_at client sent more h one)
    ∙ ap (λ n. max (heard_at client sent h) n) (same_heard client sent more events all))

pub heard_below_after : (sent more : List Letter) (events : List Happened) (h : Happened) → list_all (heard_below (length sent)) events
    ≡ true → heard_below (length sent) h ≡ true → list_all (heard_below (length (sent ++ more))) (events ++ h ∷ []) ≡ true
heard_below_after sent more events h all one =
    list_all-append (heard_below (length (sent ++ more))) events (h ∷ []) ∙ both (list_all (heard_below (length (sent ++ more))) events)
    (list_all (heard_below (length (sent ++ more))) (h ∷ [])) (still_below sent more events all)
    (both (heard_below (length (sent ++ more)) h) true (below_if (is_heard h.why) sent more (delivered h.event) one) refl)

-- A CLIENT HEARS OF DATAGRAMS THAT WERE SENT

come_hears : (w : World) (cut : Cut) (n : ℕ) (o : Option Letter) → slice_get w.sent n ≡ o
    → (not (is_heard (come w cut o).why) || nat_lt n (length w.sent)) ≡ true
come_hears w cut n None e = refl
come_hears w cut n (Some d) e = subst (λ b. (not (is_heard (come w cut (Some d)).why) || b) ≡ true) (sym (is_there w.sent n d e))
    (or-true (not (is_heard (come w cut (Some d)).why)))

pub change_hears : (w : World) (e : Event) (u : Why) → u ≡ (change w e).why
    → heard_below (length w.sent) (record { event = e; why = u }) ≡ true
change_hears w (event.Deliver n cut) u is =
    subst (λ x. (not (is_heard x) || nat_lt n (length w.sent)) ≡ true) (sym is) (come_hears w cut n (slice_get w.sent n) refl)
change_hears w other u is = or-true (not (is_heard u))
