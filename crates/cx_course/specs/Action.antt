-- What a node does, one action after another, and what of it others see.
use Rattle.std.specs.Prelude.{◌≡◌, ℕ, Bool, true, false, List, [], ◌∷◌, ◌++◌, map, Option, flat_map}
use Rattle.cx_letter.specs.Prelude.{Event, RoleId, Letter}
use Rattle.cx_course.specs.Changing.{StoreChange}

-- One action of a node: a role is bound to its port, a take of the link gives this, a role's store is changed, the link
-- is asked to send a datagram, a byte is printed. Of a node that records: a line was written for this event, a client took
-- this datagram as the answer to a request, a step is not made because its lines don't fit the record.
pub data Action : Type 0 where
  Bound : (role : RoleId) → Action
  Took : (what : Option (List ℕ)) → Action
  Kept : (kept : StoreChange) → Action
  Sent : (letter : Letter) → Action
  Printed : (byte : ℕ) → Action
  Noted : (event : Event) → Action
  Answered : (answer : Letter) → Action
  Filled : Action

abbrev pub bound_by : Action → List RoleId
bound_by (Bound role) = role ∷ []
bound_by other = []

abbrev pub taken_by : Action → List (Option (List ℕ))
taken_by (Took what) = what ∷ []
taken_by other = []

abbrev pub kept_as : Action → List StoreChange
kept_as (Kept kept) = kept ∷ []
kept_as other = []

abbrev pub sent_by : Action → List Letter
sent_by (Sent letter) = letter ∷ []
sent_by other = []

abbrev pub printed_by : Action → List ℕ
printed_by (Printed byte) = byte ∷ []
printed_by other = []

abbrev pub noted_by : Action → List Event
noted_by (Noted event) = event ∷ []
noted_by other = []

abbrev pub answered_by : Action → List Letter
answered_by (Answered answer) = answer ∷ []
answered_by other = []

-- whether it is a step that isn't made
abbrev pub is_filled : Action → Bool
is_filled Filled = true
is_filled other = false

-- the binds, takes, changes, datagrams, bytes, recorded events and answers among these actions
abbrev pub bound_in : List Action → List RoleId
bound_in actions = flat_map bound_by actions

abbrev pub taken_in : List Action → List (Option (List ℕ))
taken_in actions = flat_map taken_by actions

abbrev pub kept_in : List Action → List StoreChange
kept_in actions = flat_map kept_as actions

abbrev pub sent_in : List Action → List Letter
sent_in actions = flat_map sent_by actions

abbrev pub printed_in : List Action → List ℕ
printed_in actions = flat_map printed_by actions

abbrev pub noted_in : List Action → List Event
noted_in actions = flat_map noted_by actions

abbrev pub answered_in : List Action → List Letter
answered_in actions = flat_map answered_by actions

-- they bind nothing, and this is what their takes give
abbrev pub AreTakesOf : List (Option (List ℕ)) → List Action → Type 0
AreTakesOf takes actions = (bound_in actions ≡ []) × (taken_in actions ≡ takes)

-- the actions of one step of a role: its store is changed, then its datagrams are sent, then its text is printed; and what a
-- record has of it
abbrev pub step_actions : List StoreChange → List Letter → List ℕ → List Action → List Action
step_actions kept sends text noted = map Kept kept ++ (map Sent sends ++ (map Printed text ++ noted))
