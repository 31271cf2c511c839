-- What an act at a role that runs does to the world, to that role and to each other.
use Rattle.cx_inv_run.proofs.Common.{◌≡◌, ℕ, true, false, List, [], Option, None, Some, option_map, ap, sym, ◌∙◌, subst, refl, Cluster}
use Rattle.cx_inv_run.proofs.Common.{Whole, Event, Kind, RoleId, Why, same_role, State, state_other, state_own, heard_at, Member}
use Rattle.cx_inv_run.proofs.Common.{names_role, Outcome, token_of, Rules, Turn, snap_turn, turn, turn_with, World, act_at, act_of, change}
use Rattle.cx_inv_run.proofs.Common.{changed, durable_part, kept_by, turned, world_after, Letter, Act, KeptRecord, Written, Record}
use Rattle.cx_base.specs.declared.why.Why.TheVariants as why
use Rattle.cx_model.specs.Rules.{Running}
use Rattle.cx_model.specs.World.{Change, step}
use Rattle.cx_letter.specs.declared.input.Written.TheVariants as written
use Rattle.cx_course.proofs.Alike.{IsRole, Moves, Spares}
use Rattle.cx_course.proofs.Asker.{IsTraced}
use Rattle.cx_course.proofs.Hearing.{IsThere, is_there, spares, traced_behind}

-- What a role that runs on does: its word, the volatile part that follows, the change of its store, and what it sends.
pub record Made (V : Type 0) : Type 0 where
  pub why : Why
  pub volatile : V
  pub what : Option Written
  pub sends : List Letter

abbrev pub turn_of : {V : Type 0} → Made V → Turn V
turn_of t = record { why = t.why; role = Some t.volatile; kept = t.what; sends = t.sends }

-- by a whole row
abbrev pub made_by : {V : Type 0} → Outcome V → Made V
made_by o = record { why = o.why; volatile = o.volatile; what = option_map written.Record o.kept; sends = o.sends }

-- by a whole snap
abbrev pub snap_word : Option ℕ → Why
snap_word None = why.Idle
snap_word (Some first) = why.Snapped

abbrev pub made_snap : {V : Type 0} → V → Option ℕ → Made V
made_snap v first = record { why = snap_word first; volatile = v; what = option_map written.Snap first; sends = [] }

pub whole_kept : {V : Type 0} (o : Outcome V) (k : Option Record) → turn_with Whole k o ≡ turn_of (made_by o)
whole_kept o None = refl
whole_kept o (Some r) = refl

pub whole_snap : {V : Type 0} (v : V) (first : Option ℕ) → snap_turn Whole v first ≡ turn_of (made_snap v first)
whole_snap v None = refl
whole_snap v (Some first) = refl

pub step_is : (w : World) (e : Event) (ch : Change) → change w e ≡ ch → step w e ≡ world_after w e ch
unfolding step
step_is w e ch is = ap (world_after w e) is

-- an event that is no request, and tells no client anything
pub record IsPlain (w : World) (e : Event) : Type 0 where
  pub no_request : token_of e ≡ None
  pub unheard : (client : ℕ) (u : Why) → heard_at client w.sent (record { event = e; why = u }) ≡ 0

module _ {D V : Type 0} (rules : Rules D V) (make : V → State) (get : State → Option V) (got : (v : V) → get (make v) ≡ Some v)
    (acts : (c : Cluster) (roles : RoleId → State) (kept : List KeptRecord) (act : Act) (me : RoleId)
    → act_of c roles kept act me rules.kind ≡ turned rules make c roles kept act me (get (roles me))) where
  abbrev Row : World → Running D V → Made V → Change
  Row w s t = changed make s.me w.roles (turn_of t)

  module _ (w : World) (traced : IsTraced w) (s : Running D V) (is : IsRole rules make w s) (act : Act) (t : Made V)
      (makes : turn rules s.cluster s.me s.durable act (Some s.volatile) ≡ turn_of t) where
    same_turn : turn rules w.cluster s.me (durable_part rules s.me w.kept) act (Some s.volatile) ≡ turn_of t
    same_turn =
        ap (λ (c : Cluster). turn rules c s.me (durable_part rules s.me w.kept) act (Some s.volatile)) (sym is.cluster)
        ∙ ap (λ (d : D). turn rules s.cluster s.me d act (Some s.volatile)) (sym is.durable)
        ∙ makes

    acted : act_at w act s.me ≡ Row w s t
    acted =
        ap (λ (j : Kind). act_of w.cluster w.roles w.kept act s.me j) is.kind_is
        ∙ acts w.cluster w.roles w.kept act s.me
        ∙ ap (λ (o : Option V). changed make s.me w.roles (turn rules w.cluster s.me (durable_part rules s.me w.kept) act o))
        (ap get is.volatile ∙ got s.volatile) ∙ ap (λ (u : Turn V). changed make s.me w.roles u) same_turn

    -- the world behind it
    abbrev Behind : Event → World
    Behind e = world_after w e (Row w s t)

    module _ (e : Event) (plain : IsPlain w e) (own : (d : Letter) → Member d t.sends → d.from ≡ s.me)
        (same : change w e ≡ act_at w act s.me) where
      there : IsThere w.sent (record { event = e; why = t.why })
      there = subst (λ (ch : Change). IsThere w.sent (record { event = e; why = ch.why })) (same ∙ acted) (is_there w e)

      spared : (a : RoleId) → same_role a s.me ≡ false → Spares w (Behind e) a
      spared a differs = record {
        state = state_other s.me a (make t.volatile) w.roles differs;
        client = λ is. spares w e (Row w s t) traced there a.index plain.no_request (plain.unheard a.index t.why);
      }

      named : (d : Letter) → Member d t.sends → names_role w.cluster d.from ≡ true
      named d m = ap (names_role w.cluster) (own d m) ∙ is.named

      moves_behind : Moves w (Behind e) s.me t.what t.sends
      moves_behind =
          record { cluster = refl; kept = refl; sent = refl; traced = traced_behind w e (Row w s t) traced there named; others = spared }

      -- an event that is this act does the same
      pub act_moves : Moves w (step w e) s.me t.what t.sends × ((step w e).roles s.me ≡ make t.volatile)
          × ((change w e).kept ≡ kept_by s.me t.what)
      act_moves =
          let behind = step_is w e (Row w s t) (same ∙ acted) in (
            subst (λ x. Moves w x s.me t.what t.sends) (sym behind) moves_behind,
            ap (λ (x : World). x.roles s.me) behind ∙ state_own s.me (make t.volatile) w.roles,
            ap (λ (ch : Change). ch.kept) (same ∙ acted),
          )
