-- What is so of the values that a leader remembers, at a moment, while it leads and while it goes on with another grid.
use Rattle.std.specs.Prelude.{◌≡◌, ℕ, ◌-◌, ◌≤◌, true, map, List, Some}
use Rattle.cx_model.specs.Prelude.{Placed, RoleId, Round, numbers, change_after, Letter, KeptRecord, IsProposed, leader_rules, is_changed}
use Rattle.cx_model.specs.Prelude.{round_of, Member, State, LeaderIn}
use Rattle.cx_model.specs.declared.states.Mode.{Mode}
use Rattle.cx_model.specs.declared.states.Mode.TheVariants.{Matching, Leading}
use Rattle.cx_inv_run.specs.States.{durable_of}

-- the values fill the slots from the chosen watermark up to the next one, in order, and each was proposed in this round
pub record IsFull (sent : List Letter) (i : Round) (cw next : ℕ) (proposed : List Placed) : Type 0 where
  pub window : cw ≤ next
  pub slots : map (λ (p : Placed). p.slot) proposed ≡ numbers cw (next - cw)
  pub each : (p : Placed) → Member p proposed → IsProposed sent i p.slot p.value

-- in the leader's own round while it leads; in the round before while it goes on with another grid
abbrev pub FullIn : List Letter → Round → ℕ → ℕ → List Placed → Mode → Type 0
FullIn sent i cw next proposed Leading = IsFull sent i cw next proposed
FullIn sent i cw next proposed Matching =
    is_changed i ≡ true → (j : Round) × (change_after j ≡ Some i) × IsFull sent j cw next proposed
FullIn sent i cw next proposed other = Unit {0}

abbrev pub FullState : List KeptRecord → List Letter → RoleId → State → Type 0
FullState history sent me (LeaderIn v) = FullIn sent (round_of (durable_of leader_rules me history).own) v.cw v.next v.proposed v.mode
FullState history sent me other = Unit {0}

abbrev pub Full : List KeptRecord → List Letter → (RoleId → State) → Type 0
Full history sent states = (me : RoleId) → FullState history sent me (states me)
