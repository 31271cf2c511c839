-- The announcement that is promised of one run, that of the events `es` over the cluster `c`: in which step a proxy leader announces that a
-- value is chosen, and whom. Nothing of it is proved here.
use Rattle.std.specs.Prelude.{◌≡◌, ℕ, ◌<◌, true, map, List, [], ◌∷◌, ◌++◌}
use Rattle.cx_model.specs.Prelude.{Cluster, Value, Event, RoleId, Round, Shape, is_in, below, role, column_of, Letter, letter, Member}
use Rattle.cx_model.specs.Prelude.{DeliversOneOf, World, change, step, run}
use Rattle.cx_base.specs.declared.role.Kind.TheVariants as kind
use Rattle.cx_letter.specs.declared.message.Msg.TheVariants as msg
use Rattle.cx_model.specs.Promises.{Asks, KeepsAsking}

-- From a world on these events brought the proxy leader the votes of a whole column of the grid's members. (In a grid without empty places
-- each column is made of members.)
pub record HasColumn (w : World) (es : List Event) (proxy : RoleId) (i : Round) (g : Shape) (s : ℕ) : Type 0 where
  pub column : ℕ
  pub some_row : 0 < g.rows
  pub in_grid : column < g.cols
  pub votes : (a : ℕ) → Member a (column_of g column)
      → (is_in a g.members ≡ true) × DeliversOneOf w es (letter (role kind.Acceptor a) proxy (msg.Phase2B i s))

-- the value goes to every replica, and the leader of the round learns that the slot has one
abbrev pub announcement : Cluster → RoleId → Round → ℕ → Value → List Letter
announcement c proxy i s v =
    map (λ p. letter proxy (role kind.Replica p) (msg.Chosen s v)) (below c.replicas)
    ++ letter proxy (role kind.Leader i.id) (msg.ChosenIn i s) ∷ []

-- A proxy leader begins to ask for votes, and still asks after each of the events `since`. The event after these with which, for the first
-- time since it began, the votes of a whole column have reached it sends the announcement, and nothing else (VLDB 2021).
abbrev pub Announced : Cluster → List Event → Type 0
Announced c es =
    (then since later : List Event) (asking e : Event) → es ≡ (then ++ asking ∷ since) ++ e ∷ later
    → (proxy : RoleId) (i : Round) (g : Shape) (s : ℕ) (v : Value)
    → Asks (run c then) asking proxy i g s v → KeepsAsking (step (run c then) asking) since proxy i s
    → (HasColumn (step (run c then) asking) since proxy i g s → ⊥)
    → HasColumn (step (run c then) asking) (since ++ e ∷ []) proxy i g s
    → (change (run c (then ++ asking ∷ since)) e).sends ≡ announcement c proxy i s v
