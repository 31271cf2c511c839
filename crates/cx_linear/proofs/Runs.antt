-- The moments of a run: a beginning of its events is that of a run, and what a client heard was sent before.
use Rattle.cx_inv_run.proofs.Common.{◌≡◌, ℕ, List, [], ◌∷◌, ◌++◌, Option, None, Some, inl, inr, ap, sym}
use Rattle.cx_inv_run.proofs.Common.{subst, ◌∙◌, refl, slice_get, append_assoc, append-nil, Cluster, Cut}
use Rattle.cx_inv_run.proofs.Common.{Event, Happened, Why, Letter, Member}
use Rattle.cx_inv_run.proofs.Common.{Begins, World, change, come, run, run_from, start, run_append, Member-cases, Member-at}
use Rattle.cx_base.specs.declared.event.Event.TheVariants as event
use Rattle.cx_base.specs.declared.why.Why.TheVariants as why
use Rattle.cx_model.specs.World.{step}
use Rattle.cx_inv_list.proofs.Right.{get_front}

abbrev pub happens : Event → Why → Happened
happens e y = record { event = e; why = y }

abbrev events_from : World → List Event → List Happened
events_from w [] = []
events_from w (e ∷ es) = happens e (change w e).why ∷ events_from (step w e) es

events_are : (w : World) (es : List Event) → (run_from w es).events ≡ w.events ++ events_from w es
unfolding step
events_are w [] = sym (append-nil w.events)
events_are w (e ∷ es) =
    events_are (step w e) es ∙ append_assoc w.events (happens e (change w e).why ∷ []) (events_from (step w e) es)

cut_from : (a b : List Happened) (w : World) (es : List Event) → events_from w es ≡ a ++ b
    → (then : List Event) × (later : List Event) × (es ≡ then ++ later) × (events_from w then ≡ a)
cut_from [] b w es e = ([], es, refl, refl)
cut_from (h ∷ a) b w [] e = cc
cut_from (h ∷ a) b w (x ∷ es) e =
    let p : happens x (change w x).why ≡ h = cc in
    let q : events_from (step w x) es ≡ a ++ b = cc in
    let r = cut_from a b (step w x) es q in
    (x ∷ r.0, r.1, ap (λ l. x ∷ l) r.2, ap (λ l. happens x (change w x).why ∷ l) r.3 ∙ ap (λ u. u ∷ a) p)

pub record Moment (c : Cluster) (es : List Event) (events : List Happened) : Type 0 where
  pub then : List Event
  pub later : List Event
  pub split : es ≡ then ++ later
  pub events_are : (run c then).events ≡ events

pub cut_run : (c : Cluster) (es : List Event) (a b : List Happened) → (run c es).events ≡ a ++ b → Moment c es a
cut_run c es a b e =
    let r = cut_from a b (start c) es (sym (events_are (start c) es) ∙ e) in
    record { then = r.0; later = r.1; split = r.2; events_are = events_are (start c) r.0 ∙ r.3 }

-- what is sent stays so

step_sent : (w : World) (e : Event) → Begins w.sent (step w e).sent
unfolding step
step_sent w e = ((change w e).sends, refl)

from_sent : (w : World) (es : List Event) → Begins w.sent (run_from w es).sent
from_sent w [] = ([], sym (append-nil w.sent))
from_sent w (e ∷ es) =
    let a = step_sent w e in
    let b = from_sent (step w e) es in
    (a.0 ++ b.0, b.1 ∙ ap (λ l. l ++ b.0) a.1 ∙ append_assoc w.sent a.0 b.0)

pub sent_begins : (c : Cluster) (then later : List Event) → Begins (run c then).sent (run c (then ++ later)).sent
sent_begins c then later =
    subst (λ (w : World). Begins (run c then).sent w.sent) (sym (run_append c then later)) (from_sent (run c then) later)

-- what a client heard was sent

abbrev AllHeard : World → Type 0
AllHeard w = (n : ℕ) (cut : Cut) → Member (happens (event.Deliver n cut) why.Heard) w.events → (d : Letter) × (slice_get w.sent n ≡ Some d)

come_heard : (w : World) (cut : Cut) (o : Option Letter) → (come w cut o).why ≡ why.Heard → (d : Letter) × (o ≡ Some d)
come_heard w cut None h = cc
come_heard w cut (Some d) h = (d, refl)

heard_step : (w : World) (e : Event) → AllHeard w → AllHeard (step w e)
unfolding step
heard_step w e h n cut m = elim (Member-cases _ w.events (happens e (change w e).why ∷ []) m) [
  | inl p ↦ (let r = h n cut p in (r.0, get_front w.sent (change w e).sends n r.0 r.1))
  | inr p ↦ new p
]
  where
    new : Member (happens (event.Deliver n cut) why.Heard) (happens e (change w e).why ∷ [])
        → (d : Letter) × (slice_get (w.sent ++ (change w e).sends) n ≡ Some d)
    new (inl q) =
        let is : event.Deliver n cut ≡ e = ap (λ (u : Happened). u.event) q in
        let says : (change w e).why ≡ why.Heard = sym (ap (λ (u : Happened). u.why) q) in
        let r = come_heard w cut (slice_get w.sent n) (subst (λ u. (change w u).why ≡ why.Heard) (sym is) says) in
        (r.0, get_front w.sent (change w e).sends n r.0 r.1)
    new (inr q) = absurd q

from_heard : (w : World) → AllHeard w → (es : List Event) → AllHeard (run_from w es)
from_heard w h [] = h
from_heard w h (e ∷ es) = from_heard (step w e) (heard_step w e h) es

pub all_heard : (c : Cluster) (es : List Event) → AllHeard (run c es)
all_heard c es = from_heard (start c) (λ n cut m. absurd m) es

-- a datagram that is known later was there when a client heard it
pub heard_then : (c : Cluster) (then later : List Event) (n : ℕ) (cut : Cut) (d : Letter)
    → Member (happens (event.Deliver n cut) why.Heard) (run c then).events → slice_get (run c (then ++ later)).sent n ≡ Some d
    → Member d (run c then).sent
heard_then c then later n cut d m g =
    let r = all_heard c then n cut m in
    let b = sent_begins c then later in
    let there : slice_get (run c (then ++ later)).sent n ≡ Some r.0 =
    ap (λ l. slice_get l n) b.1 ∙ get_front (run c then).sent b.0 n r.0 r.1 in
    let same : Some r.0 ≡ Some d = sym there ∙ g in
    Member-at d (run c then).sent n (r.1 ∙ same)
