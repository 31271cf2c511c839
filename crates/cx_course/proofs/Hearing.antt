-- What a client has heard when one event more has happened, and where the datagrams of a run are from.
use Rattle.cx_role.proofs.Common.{◌≡◌, ◌<◌, ◌+◌, ℕ, zero, suc, Bool, true, false, List, [], ◌∷◌, ◌++◌, Option, None, Some, max, ap, sym}
use Rattle.cx_role.proofs.Common.{◌∙◌, subst, refl, inl, inr, arith, length, slice_get, if◌then◌else◌, true≢false, length-append, none-some}
use Rattle.cx_role.proofs.Common.{Cut, Event, Happened, RoleId, role, same_role, heard_at, heard_by, is_heard, told_to, bool_cases}
use Rattle.cx_role.proofs.Common.{same_role-true, Member, names_role, token_of, World, Change, change, come, world_after, Letter}
use Rattle.cx_base.specs.declared.event.Event.TheVariants as event
use Rattle.cx_base.specs.declared.role.Kind.TheVariants as kind
use Rattle.cx_inv_run.proofs.Members.{Member-cases}
use Rattle.cx_model.specs.Heard.{delivered_to}
use Rattle.cx_course.proofs.Asker.{IsTraced, SparesClient}

-- ---- what is delivered had been sent

-- if this is a delivery of which a client heard, its datagram is one of these
abbrev pub IsThere : List Letter → Happened → Type 0
IsThere sent h = (n : ℕ) (cut : Cut) → is_heard h.why ≡ true → h.event ≡ event.Deliver n cut → n < length sent

within : (sent : List Letter) (n : ℕ) (d : Letter) → slice_get sent n ≡ Some d → n < length sent
within [] n d is = absurd (none-some d is)
within (x ∷ sent) zero d is = omega arith
within (x ∷ sent) (suc n) d is = (let less = within sent n d is in omega (arith, less))

earlier : (sent more : List Letter) (n : ℕ) → n < length sent → slice_get (sent ++ more) n ≡ slice_get sent n
earlier [] more n below = absurd (omega (arith, below))
earlier (d ∷ sent) more zero below = refl
earlier (d ∷ sent) more (suc n) below = earlier sent more n (omega (arith, below))

-- no delivery of a datagram that isn't there is heard
pub is_there : (w : World) (e : Event) → IsThere w.sent (record { event = e; why = (change w e).why })
is_there w (event.Deliver k cut) n other heard is = subst (λ (i : ℕ). i < length w.sent) number (found (slice_get w.sent k) refl heard)
  where
    number : k ≡ n
    number = cc

    found : (o : Option Letter) → slice_get w.sent k ≡ o → is_heard (come w cut o).why ≡ true → k < length w.sent
    found None is heard = absurd (true≢false (sym heard))
    found (Some d) is heard = within w.sent k d is
is_there w (event.Write command batcher) n cut heard is = cc
is_there w other n cut heard is = cc

-- ---- what was heard

if_same : (client : ℕ) (sent more : List Letter) (b : Bool) (e : Event)
    → ((n : ℕ) (cut : Cut) → b ≡ true → e ≡ event.Deliver n cut → n < length sent)
    → ◌≡◌ {A = ℕ} (if b then delivered_to client (sent ++ more) e else 0) (if b then delivered_to client sent e else 0)
if_same client sent more false e there = refl
if_same client sent more true (event.Deliver n cut) there = ap (told_to client) (earlier sent more n (there n cut refl refl))
if_same client sent more true other there = refl

same_at : (client : ℕ) (sent more : List Letter) (h : Happened) → IsThere sent h → heard_at client (sent ++ more) h ≡ heard_at client sent h
same_at client sent more h there = if_same client sent more (is_heard h.why) h.event there

-- whatever is sent later changes nothing of it
same_heard : (client : ℕ) (sent more : List Letter) (events : List Happened) → ((h : Happened) → Member h events → IsThere sent h)
    → heard_by client (sent ++ more) events ≡ heard_by client sent events
same_heard client sent more [] there = refl
same_heard client sent more (h ∷ events) there =
    ap (λ n. max n (heard_by client (sent ++ more) events)) (same_at client sent more h (there h (inl refl)))
    ∙ ap (λ n. max (heard_at client sent h) n) (same_heard client sent more events (λ x m. there x (inr m)))

swapped : (a b c : ℕ) → max a (max b c) ≡ max b (max a c)
swapped a b c = omega arith

one_more : (client : ℕ) (sent : List Letter) (events : List Happened) (h : Happened)
    → heard_by client sent (events ++ h ∷ []) ≡ max (heard_at client sent h) (heard_by client sent events)
one_more client sent [] h = refl
one_more client sent (g ∷ events) h = ap (λ n. max (heard_at client sent g) n) (one_more client sent events h)
    ∙ swapped (heard_at client sent g) (heard_at client sent h) (heard_by client sent events)

-- ---- one event more

module _ (w : World) (e : Event) (ch : Change) (traced : IsTraced w) (there : IsThere w.sent (record { event = e; why = ch.why })) where
  abbrev New : Happened
  New = record { event = e; why = ch.why }

  all_there : (h : Happened) → Member h w.events → IsThere w.sent h
  all_there h m n cut heard is = traced.there h n cut m heard is

  -- a client has heard what the event tells it, and what it had heard
  pub heard_then : (client : ℕ) → heard_by client (world_after w e ch).sent (world_after w e ch).events
      ≡ max (heard_at client w.sent New) (heard_by client w.sent w.events)
  heard_then client =
      one_more client (w.sent ++ ch.sends) w.events New
      ∙ ap (λ n. max n (heard_by client (w.sent ++ ch.sends) w.events)) (same_at client w.sent ch.sends New there)
      ∙ ap (λ n. max (heard_at client w.sent New) n) (same_heard client w.sent ch.sends w.events all_there)

  -- an event that tells it nothing
  pub heard_still : (client : ℕ) → heard_at client w.sent New ≡ 0
      → heard_by client (world_after w e ch).sent (world_after w e ch).events ≡ heard_by client w.sent w.events
  heard_still client none =
      heard_then client ∙ ap (λ n. max n (heard_by client w.sent w.events)) none ∙ least (heard_by client w.sent w.events)
    where
      least : (n : ℕ) → max 0 n ≡ n
      least n = omega arith

  -- what it sends is from roles of the cluster
  pub traced_behind : ((d : Letter) → Member d ch.sends → names_role w.cluster d.from ≡ true) → IsTraced (world_after w e ch)
  traced_behind named = record {
    named = λ d m. elim (Member-cases d w.sent ch.sends m) [ inl old ↦ traced.named d old | inr new ↦ named d new ];
    there = λ h n cut m heard is. longer n (elim (Member-cases h w.events (New ∷ []) m) [
      | inl old ↦ traced.there h n cut old heard is
      | inr (inl new) ↦
          there n cut (ap (λ (x : Happened). is_heard x.why) (sym new) ∙ heard) (ap (λ (x : Happened). x.event) (sym new) ∙ is)
      | inr (inr never) ↦ absurd never
    ]);
  }
    where
      longer : (n : ℕ) → n < length w.sent → n < length (w.sent ++ ch.sends)
      longer n less = (let all : length (w.sent ++ ch.sends) ≡ length w.sent + length ch.sends = length-append w.sent ch.sends in
          omega (arith, less, all))

  -- an event that is no request, and tells a client nothing, changes nothing for it
  pub spares : (client : ℕ) → token_of e ≡ None → heard_at client w.sent New ≡ 0 → SparesClient w (world_after w e ch) client
  spares client none nothing = record {
    asked = λ h t m sent token mine. elim (Member-cases h w.events (New ∷ []) m) [
      | inl old ↦ old
      | inr (inl new) ↦ absurd (none-some t (sym none ∙ sym (ap (λ (x : Happened). token_of x.event) new) ∙ token))
      | inr (inr never) ↦ absurd never
    ];
    heard = heard_still client nothing;
  }

-- ---- events that tell a client nothing

unless_heard : (b : Bool) (n : ℕ) → n ≡ 0 → ◌≡◌ {A = ℕ} (if b then n else 0) 0
unless_heard true n is = is
unless_heard false n is = refl

-- what is delivered to a role of another name
pub told_other : (client : ℕ) (w : World) (h : Happened) (n : ℕ) (cut : Cut) (d : Letter) → h.event ≡ event.Deliver n cut
    → slice_get w.sent n ≡ Some d → same_role d.to (role kind.Client client) ≡ false → heard_at client w.sent h ≡ 0
told_other client w h n cut d is found other =
    unless_heard (is_heard h.why) (delivered_to client w.sent h.event)
    (ap (delivered_to client w.sent) is ∙ ap (told_to client) found ∙ rw other refl)

-- a role of another kind has another name
pub other_kind : (client : ℕ) (a : RoleId) → (a.kind ≡ kind.Client → ⊥) → same_role a (role kind.Client client) ≡ false
other_kind client a differs = elim (bool_cases (same_role a (role kind.Client client))) [
  | inl same ↦ absurd (differs (ap (λ (r : RoleId). r.kind) (same_role-true a (role kind.Client client) same)))
  | inr other ↦ other
]

-- what is no delivery
pub told_none : (client : ℕ) (w : World) (h : Happened) → delivered_to client w.sent h.event ≡ 0 → heard_at client w.sent h ≡ 0
told_none client w h is = unless_heard (is_heard h.why) (delivered_to client w.sent h.event) is
