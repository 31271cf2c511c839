-- The requests of a run: each that goes out stays among its events, by one number no client asks both for a read and in a session, and
-- three kinds of datagrams are sent.
use Rattle.cx_inv_run.proofs.Common.{◌≡◌, ◌⊎◌, ℕ, Bool, true, false, not, ◌&&◌, ◌||◌, List, [], ◌∷◌, Some, inl, inr, ap, sym, subst, ◌∙◌}
use Rattle.cx_inv_run.proofs.Common.{refl, list_any, true≢false, and_from, Cluster, Command, Event, Happened, RoleId, Why, Token, Letter}
use Rattle.cx_inv_run.proofs.Common.{letter, was_asked, number_itself, Member, by_test, WasRead, WasSession, make_token, token_of}
use Rattle.cx_inv_run.proofs.Common.{same_request, same_token, is_past, floor_in, was_sent, is_stale, request, World, ask, change, run_from}
use Rattle.cx_inv_run.proofs.Common.{run, AllAllowed, Member-cases, Member-first, Member-second, Member-one, Member-any}
use Rattle.cx_base.specs.declared.event.Event.TheVariants as event
use Rattle.cx_base.specs.declared.why.Why.TheVariants as why
use Rattle.cx_letter.specs.declared.message.Msg.TheVariants as msg
use Rattle.cx_model.specs.World.{Change, step}
use Rattle.cx_inv_read.proofs.Rows.{Each}

abbrev happened : Event → Why → Happened
happened e y = record { event = e; why = y }

-- this request went out
abbrev pub WentOut : World → Event → Type 0
WentOut w e = Member (happened e why.Sent) w.events

-- what happened stays so
stays_step : (w : World) (e : Event) (h : Happened) → Member h w.events → Member h (step w e).events
unfolding step
stays_step w e h m = Member-first h w.events (happened e (change w e).why ∷ []) m

stays : (w : World) (es : List Event) (h : Happened) → Member h w.events → Member h (run_from w es).events
stays w [] h m = m
stays w (e ∷ es) h m = stays (step w e) es h (stays_step w e h m)

goes_out : (w : World) (e : Event) → (change w e).why ≡ why.Sent → WentOut (step w e) e
unfolding step
goes_out w e s =
    Member-second (happened e why.Sent) w.events (happened e (change w e).why ∷ []) (inl (ap (λ (y : Why). happened e y) (sym s)))

-- so each request that is allowed to go out is one of the run's at its end
pub all_went_out : (w : World) (es : List Event) → AllAllowed (λ n e. WentOut (run_from w es) e) w es
all_went_out w [] = tt
all_went_out w (e ∷ es) = (λ s. stays (step w e) es (happened e why.Sent) (goes_out w e s), all_went_out (step w e) es)

pub allowed_more : (A B : ℕ → Event → Type 0) → ((n : ℕ) (e : Event) → A n e → B n e) → (w : World) (es : List Event) → AllAllowed A w es
    → AllAllowed B w es
allowed_more A B more w [] h = tt
allowed_more A B more w (e ∷ es) h = (λ s. more _ e (h.0 s), allowed_more A B more (step w e) es h.1)

-- the requests of one client and number

abbrev pub IsReadFor : Token → Event → Type 0
IsReadFor t (event.Read client seq floor reader replica key) = make_token client seq ≡ t
IsReadFor t other = ⊥

abbrev pub IsSessionFor : Token → Event → Type 0
IsSessionFor t (event.Session client seq floor replica key) = make_token client seq ≡ t
IsSessionFor t other = ⊥

pub read_token : (t : Token) (e : Event) → IsReadFor t e → token_of e ≡ Some t
read_token t (event.Read client seq floor reader replica key) h = ap (λ (u : Token). Some u) h
read_token t other h = absurd h

pub session_token : (t : Token) (e : Event) → IsSessionFor t e → token_of e ≡ Some t
session_token t (event.Session client seq floor replica key) h = ap (λ (u : Token). Some u) h
session_token t other h = absurd h

pub was_asked_by : (t : Token) (w : World) (e : Event) → WentOut w e → token_of e ≡ Some t → was_asked t w.events ≡ true
was_asked_by t w e m own =
    Member-any (λ (x : Happened). was_sent x && same_token t (token_of x.event)) (happened e why.Sent) w.events m
    (and_from _ _ refl (ap (λ o. same_token t o) own ∙ and_from _ _ (number_itself t.client) (number_itself t.seq)))

-- if it is no read, or no session, no request of the run is one
pub no_read : (t : Token) (w : World) → ((key : List ℕ) → WasRead w.events t.client t.seq key → ⊥) → (e : Event) → WentOut w e
    → IsReadFor t e → ⊥
no_read t w none (event.Read client seq floor reader replica key) m h =
    none key (floor, reader, replica, subst (λ (u : Token). WentOut w (event.Read u.client u.seq floor reader replica key)) h m)
no_read t w none other m h = absurd h

pub no_session : (t : Token) (w : World) → ((key : List ℕ) → WasSession w.events t.client t.seq key → ⊥) → (e : Event) → WentOut w e
    → IsSessionFor t e → ⊥
no_session t w none (event.Session client seq floor replica key) m h =
    none key (floor, replica, subst (λ (u : Token). WentOut w (event.Session u.client u.seq floor replica key)) h m)
no_session t w none other m h = absurd h

-- a request doesn't go out after one of the same client and number that asks something else

stale_by : (t : Token) (e : Event) (events : List Happened) (h : Happened) → Member h events → was_sent h ≡ true
    → same_token t (token_of h.event) ≡ true → same_request e h.event ≡ false → is_stale t e events ≡ true
stale_by t e events h m sent same other =
    let first = Member-any (λ (x : Happened). was_sent x && same_token t (token_of x.event) && not (same_request e x.event)) h events m
    (and_from _ _ (and_from _ _ sent same) (ap not other)) in
    ap (λ (b : Bool). b || (not (list_any (λ (x : Happened). was_sent x && same_token t (token_of x.event)) events)
    && list_any (λ (x : Happened). was_sent x && is_past t (token_of x.event) (floor_in x.event)) events)) first

fresh_is : (w : World) (e : Event) (t : Token) → (ask w e (Some t)).why ≡ why.Sent → is_stale t e w.events ≡ false
fresh_is w e t h =
    by_test (λ (ch : Change). ch.why ≡ why.Sent → is_stale t e w.events ≡ false) (is_stale t e w.events) _ _ (λ s q. cc) (λ s q. s) h

not_after : (t : Token) (w : World) (e f : Event) → (ask w e (Some t)).why ≡ why.Sent → WentOut w f → token_of f ≡ Some t
    → same_request e f ≡ false → ⊥
not_after t w e f s m own other =
    let same = ap (λ o. same_token t o) own ∙ and_from _ _ (number_itself t.client) (number_itself t.seq) in
    true≢false (sym (stale_by t e w.events (happened f why.Sent) m refl same other) ∙ fresh_is w e t s)

abbrev AreApart : World → Type 0
AreApart w =
    (client seq f r p g q : ℕ) (key other : List ℕ)
    → WentOut w (event.Read client seq f r p key) → WentOut w (event.Session client seq g q other) → ⊥

one_event : (e f : Event) (x y : Why) → Member (happened f x) (happened e y ∷ []) → (e ≡ f) × (y ≡ x)
one_event e f x y (inl q) = (sym (ap (λ (h : Happened). h.event) q), sym (ap (λ (h : Happened). h.why) q))
one_event e f x y (inr m) = absurd m

apart_step : (w : World) (e : Event) → AreApart w → AreApart (step w e)
unfolding step
apart_step w e apart client seq f r p g q key other m n =
    go (Member-cases _ w.events (happened e (change w e).why ∷ []) m) (Member-cases _ w.events (happened e (change w e).why ∷ []) n)
  where
    goes : (a : Event) → Member (happened a why.Sent) (happened e (change w e).why ∷ []) → (change w a).why ≡ why.Sent
    goes a x = let is = one_event e a why.Sent (change w e).why x in subst (λ b. (change w b).why ≡ why.Sent) is.0 is.1

    differ : event.Read client seq f r p key ≡ event.Session client seq g q other → ⊥
    differ z = cc

    go : WentOut w (event.Read client seq f r p key)
        ⊎ Member (happened (event.Read client seq f r p key) why.Sent) (happened e (change w e).why ∷ [])
        → WentOut w (event.Session client seq g q other)
        ⊎ Member (happened (event.Session client seq g q other) why.Sent) (happened e (change w e).why ∷ []) → ⊥
    go (inl a) (inl b) = apart client seq f r p g q key other a b
    go (inl a) (inr b) = not_after (make_token client seq) w (event.Session client seq g q other) (event.Read client seq f r p key)
        (goes (event.Session client seq g q other) b) a refl refl
    go (inr a) (inl b) = not_after (make_token client seq) w (event.Read client seq f r p key) (event.Session client seq g q other)
        (goes (event.Read client seq f r p key) a) b refl refl
    go (inr a) (inr b) =
        let x = (one_event e (event.Read client seq f r p key) why.Sent (change w e).why a).0 in
        let y = (one_event e (event.Session client seq g q other) why.Sent (change w e).why b).0 in
        differ (sym x ∙ y)

apart_from : (w : World) → AreApart w → (es : List Event) → AreApart (run_from w es)
apart_from w h [] = h
apart_from w h (e ∷ es) = apart_from (step w e) (apart_step w e h) es

pub read_or_session : (c : Cluster) (es : List Event) (t : Token) (key other : List ℕ)
    → WasRead (run c es).events t.client t.seq key → WasSession (run c es).events t.client t.seq other → ⊥
read_or_session c es t key other m n =
    apart_from (run c []) (λ client seq f r p g q k o x y. absurd x) es t.client t.seq m.0 m.1 m.2 n.0 n.1 key other m.3 n.2

-- a request hands in a command, asks for a read, or asks a replica in a session
pub requested : (P : Letter → Type 0) → ((from to : RoleId) (command : Command) → P (letter from to (msg.Submit command)))
    → ((from to : RoleId) (seq replica : ℕ) (key : List ℕ) → P (letter from to (msg.ReadReq seq replica key)))
    → ((from to : RoleId) (seq n : ℕ) (key : List ℕ) → P (letter from to (msg.SessRead seq n key))) → (n : ℕ) (e : Event)
    → Each P (request n e)
requested P submit read session n (event.Write command batcher) = Member-one P _ (submit _ _ command)
requested P submit read session n (event.Read client seq floor reader replica key) = Member-one P _ (read _ _ seq replica key)
requested P submit read session n (event.Session client seq floor replica key) = Member-one P _ (session _ _ seq n key)
requested P submit read session n (event.Deliver k cut) = λ d m. absurd m
requested P submit read session n (event.Tick r) = λ d m. absurd m
requested P submit read session n (event.Order l order cut) = λ d m. absurd m
requested P submit read session n (event.Snap r cut) = λ d m. absurd m
requested P submit read session n (event.Replace x set cut) = λ d m. absurd m
requested P submit read session n (event.Offer p to s) = λ d m. absurd m
requested P submit read session n (event.Crash r) = λ d m. absurd m
requested P submit read session n (event.Restart r) = λ d m. absurd m
