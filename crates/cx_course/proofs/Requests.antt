-- Requests of a hosted client go out: each is an event of the model that sends exactly the client's datagram.
use Rattle.cx_inv_run.proofs.Common.{◌≡◌, ℕ, List, [], ◌∷◌, ◌++◌, Option, Some, map, ap, sym, ◌∙◌, subst, refl, inl, inr, append-nil}
use Rattle.cx_inv_run.proofs.Common.{append_assoc, true≢false, none-some, same_Some, Event, Happened, role, Token, Member-cases, heard_by}
use Rattle.cx_inv_run.proofs.Common.{Member, names_role, request, token_of, World, ask, change, world_after, run_from, Letter}
use Rattle.cx_base.specs.declared.event.Event.TheVariants as event
use Rattle.cx_base.specs.declared.role.Kind.TheVariants as kind
use Rattle.cx_base.specs.declared.why.Why.TheVariants as why
use Rattle.cx_client.specs.Asking.{shifted}
use Rattle.cx_client.specs.Client.{ClientState, left}
use Rattle.cx_client.specs.Window.{floor_for, request_letters, event_with_floor}
use Rattle.cx_client.proofs.Windows.{above, rise_above_floor}
use Rattle.cx_model.specs.World.{Change, step}
use Rattle.cx_course.proofs.Asker.{IsAsker, IsTold, IsTraced, SparesClient}
use Rattle.cx_course.proofs.Hearing.{heard_still, traced_behind}
use Rattle.cx_course.proofs.Scripts.{Mine, Out, dropped, its_token, not_stale, sent_as}

-- Some events of a client come to this: what is sent besides. No role acts, and nothing changes for another client.
pub record Sends (w after : World) (s : ClientState) (sends : List Letter) : Type 0 where
  pub cluster : after.cluster ≡ w.cluster
  pub roles : after.roles ≡ w.roles
  pub kept : after.kept ≡ w.kept
  pub sent : after.sent ≡ w.sent ++ sends
  pub others : (index : ℕ) → (index ≡ s.me.index → ⊥) → SparesClient w after index

pub step_is : (w : World) (e : Event) (ch : Change) → change w e ≡ ch → step w e ≡ world_after w e ch
unfolding step
step_is w e ch is = ap (world_after w e) is

-- a request of this client is from it, so from a role of the cluster
from_it : (n : ℕ) (e : Event) (t : Token) → token_of e ≡ Some t → (d : Letter) → Member d (request n e) → d.from ≡ role kind.Client t.client
from_it n (event.Write command batcher) t is d (inl new) =
    ap (λ (x : Letter). x.from) new ∙ ap (λ (u : Token). role kind.Client u.client) (same_Some _ _ is)
from_it n (event.Write command batcher) t is d (inr never) = absurd never
from_it n (event.Read client seq floor reader replica key) t is d (inl new) =
    ap (λ (x : Letter). x.from) new ∙ ap (λ (u : Token). role kind.Client u.client) (same_Some _ _ is)
from_it n (event.Read client seq floor reader replica key) t is d (inr never) = absurd never
from_it n (event.Session client seq floor replica key) t is d (inl new) =
    ap (λ (x : Letter). x.from) new ∙ ap (λ (u : Token). role kind.Client u.client) (same_Some _ _ is)
from_it n (event.Session client seq floor replica key) t is d (inr never) = absurd never
from_it n other t is d m = absurd m

-- a line that is left goes out
module _ (w : World) (s : ClientState) (is : IsAsker w s) (traced : IsTraced w) (o : Option ℕ) (e : Event) (here : Member e (left s)) where
  abbrev Request : Event
  Request = Out w s is o e here

  abbrev Goes : Change
  Goes = record {
    who = Some (role kind.Client s.me.index);
    why = why.Sent;
    roles = w.roles;
    kept = [];
    sends = request (heard_by s.me.index w.sent w.events) Request;
  }

  asks_so : ask w Request (token_of Request) ≡ Goes
  asks_so = rw (its_token w s is o e here, not_stale w s is o e here) refl

  -- only requests have tokens
  by_event : (x : Event) → ask w x (token_of x) ≡ Goes → token_of x ≡ Some (Mine w s is o e here) → change w x ≡ Goes
  by_event (event.Write command batcher) so token = so
  by_event (event.Read client seq floor reader replica key) so token = so
  by_event (event.Session client seq floor replica key) so token = so
  by_event other so token = absurd (none-some _ token)

  changes_so : change w Request ≡ Goes
  changes_so = by_event Request asks_so (its_token w s is o e here)

  abbrev Asked : World
  Asked = world_after w Request Goes

  abbrev New : Happened
  New = record { event = Request; why = why.Sent }

  heard_same : (index : ℕ) → heard_by index Asked.sent Asked.events ≡ heard_by index w.sent w.events
  heard_same index = heard_still w Request Goes traced (λ n cut never is. absurd (true≢false (sym never))) index refl

  told_so : IsTold s Request
  told_so = record {
    line = e;
    floor = floor_for (left s);
    shift = o;
    own = dropped s.done e s.script here;
    is = refl;
    below = λ l m. above (floor_for (left s)) (left s) (rise_above_floor (left s) is.client.script.rising) l m;
  }

  asker_behind : IsAsker Asked s
  asker_behind = record {
    client = is.client;
    cluster = is.cluster;
    named = is.named;
    lines = is.lines;
    one_line = is.one_line;
    asked = λ h t m sent token mine. elim (Member-cases h w.events (New ∷ []) m) [
      | inl old ↦ is.asked h t old sent token mine
      | inr (inl new) ↦ subst (λ (x : Happened). IsTold s x.event) (sym new) told_so
      | inr (inr never) ↦ absurd never
    ];
    heard = is.heard ∙ sym (heard_same s.me.index);
  }

  spared : (index : ℕ) → (index ≡ s.me.index → ⊥) → SparesClient w Asked index
  spared index differs = record {
    asked = λ h t m sent token mine. elim (Member-cases h w.events (New ∷ []) m) [
      | inl old ↦ old
      | inr (inl new) ↦ absurd (differs (other h t new token mine))
      | inr (inr never) ↦ absurd never
    ];
    heard = heard_same index;
  }
    where
      other : (h : Happened) (t : Token) → h ≡ New → token_of h.event ≡ Some t → t.client ≡ index → index ≡ s.me.index
      other h t new token mine =
          let same : t ≡ Mine w s is o e here =
          same_Some _ _ (sym token ∙ ap (λ (x : Happened). token_of x.event) new ∙ its_token w s is o e here) in
          sym mine ∙ ap (λ (x : Token). x.client) same

  traced_so : IsTraced Asked
  traced_so = traced_behind w Request Goes traced (λ n cut never is. absurd (true≢false (sym never)))
      (λ d m. ap (names_role w.cluster) (from_it (heard_by s.me.index w.sent w.events) Request (Mine w s is o e here)
      (its_token w s is o e here) d m ∙ sym is.client.me) ∙ is.named)

  pub goes_out : Sends w (step w Request) s (request s.heard Request) × IsAsker (step w Request) s × IsTraced (step w Request)
  goes_out =
      let behind = step_is w Request Goes changes_so in (
        subst (λ x. Sends w x s (request s.heard Request)) (sym behind) (record {
          cluster = refl;
          roles = refl;
          kept = append-nil w.kept;
          sent = ap (λ (n : ℕ). w.sent ++ request n Request) (sym is.heard);
          others = spared;
        }),
        subst (λ x. IsAsker x s) (sym behind) asker_behind,
        subst IsTraced (sym behind) traced_so,
      )

-- nothing happens
pub nothing_sends : (w : World) (s : ClientState) → Sends w w s []
nothing_sends w s = record {
  cluster = refl;
  roles = refl;
  kept = refl;
  sent = sym (append-nil w.sent);
  others = λ index differs. record { asked = λ h t m sent token mine. m; heard = refl };
}

-- one thing after another
pub sends_on : (w mid after : World) (s : ClientState) (sends rest : List Letter) → Sends w mid s sends → Sends mid after s rest
    → Sends w after s (sends ++ rest)
sends_on w mid after s sends rest one two = record {
  cluster = two.cluster ∙ one.cluster;
  roles = two.roles ∙ one.roles;
  kept = two.kept ∙ one.kept;
  sent = two.sent ∙ ap (λ l. l ++ rest) one.sent ∙ append_assoc w.sent sends rest;
  others = λ index differs.
      let p = one.others index differs in
      let q = two.others index differs in
      record {
        asked = λ h t m sent token mine. p.asked h t (q.asked h t m sent token mine) sent token mine;
        heard = q.heard ∙ p.heard;
      };
}

-- lines that are left go out, perhaps to others, one after the other
pub all_go_out : (w : World) (s : ClientState) → IsAsker w s → IsTraced w → (o : Option ℕ) (es : List Event)
    → ((e : Event) → Member e es → Member e (left s))
    → Sends w (run_from w (map (event_with_floor (floor_for (left s))) (map (shifted s.cluster o) es))) s
    (request_letters s.heard (floor_for (left s)) (map (shifted s.cluster o) es))
    × IsAsker (run_from w (map (event_with_floor (floor_for (left s))) (map (shifted s.cluster o) es))) s
    × IsTraced (run_from w (map (event_with_floor (floor_for (left s))) (map (shifted s.cluster o) es)))
all_go_out w s is traced o [] here = (nothing_sends w s, is, traced)
all_go_out w s is traced o (e ∷ es) here =
    let one = goes_out w s is traced o e (here e (inl refl)) in
    let first = sent_as s.cluster o (floor_for (left s)) e in
    let rest = all_go_out (step w first) s one.1 one.2 o es (λ x m. here x (inr m)) in
    let after = run_from w (map (event_with_floor (floor_for (left s))) (map (shifted s.cluster o) (e ∷ es))) in (
      sends_on w (step w first) after s (request s.heard first)
          (request_letters s.heard (floor_for (left s)) (map (shifted s.cluster o) es)) one.0 rest.0,
      rest.1,
      rest.2,
    )
