-- What is promised of a leader that goes on with another grid without a first phase, in one run, that of the events `es` over the cluster
-- `c`. Nothing of it is proved here.
use Rattle.std.specs.Prelude.{◌≡◌, ℕ, ◌+◌, ◌<◌, ◌≤◌, List, [], ◌∷◌, ◌++◌, length, Some}
use Rattle.cx_model.specs.Prelude.{Cluster, Value, Event, RoleId, Round, change_after, Letter, Msg, IsProposed, finish_at, leader_rules}
use Rattle.cx_model.specs.Prelude.{round_of, Member, World, change, run, durable_part}
use Rattle.cx_base.specs.declared.role.Kind.TheVariants as kind
use Rattle.cx_base.specs.declared.why.Why.TheVariants as why
use Rattle.cx_letter.specs.declared.message.Msg.TheVariants as msg

-- the step of an event answers `bypassed`, which only a leader's row does, in this round
pub record Bypasses (w : World) (e : Event) (i : Round) : Type 0 where
  pub who : RoleId
  pub kind_is : who.kind ≡ kind.Leader
  pub at_it : (change w e).who ≡ Some who
  pub word : (change w e).why ≡ why.Bypassed
  pub round : round_of (durable_part leader_rules who w.kept).own ≡ i

-- a message that proposes in this round, or tells that it leads
abbrev pub IsOfRound : Round → Msg → Type 0
IsOfRound i (msg.Propose j g s cw v) = j ≡ i
IsOfRound i (msg.Leads j) = j ≡ i
IsOfRound i other = ⊥

-- What such a step does: it asks nobody for anything else than votes, and with it the leader finishes the round, which follows another of
-- its own.
pub record GoesOn (w : World) (e : Event) (i : Round) : Type 0 where
  pub asks_nobody : (d : Letter) → Member d (change w e).sends → IsOfRound i d.msg
  pub before : Round
  pub follows : change_after before ≡ Some i
  pub cw : ℕ
  pub end : ℕ
  pub finish : finish_at w e ≡ record { event = length w.events + 1; round = i; cw = cw; end = end } ∷ []
  -- all that was proposed in the round before lies before the end
  pub covers : (s : ℕ) (v : Value) → IsProposed w.sent before s v → s < end
  -- it proposes in each slot from the chosen watermark to the end what the round before proposed there, and nothing else
  pub proposes : (s : ℕ) → cw ≤ s → s < end → (v : Value) × IsProposed w.sent before s v × IsProposed (change w e).sends i s v
  pub only : (j : Round) (s : ℕ) (v : Value) → IsProposed (change w e).sends j s v
      → (j ≡ i) × (cw ≤ s) × (s < end) × IsProposed w.sent before s v

-- A round that bypasses the first phase asks no acceptor, and proposes in each slot from its chosen watermark on, up to its end, what the
-- round before proposed there; behind that the round before proposed nothing (phase 1 bypassing, JSys 2021).
abbrev pub BypassedRounds : Cluster → List Event → Type 0
BypassedRounds c es =
    (then later : List Event) (e : Event) → es ≡ then ++ e ∷ later → (i : Round) → Bypasses (run c then) e i → GoesOn (run c then) e i
