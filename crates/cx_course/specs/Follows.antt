-- What a recording node's run is: at each moment between two steps, the model's run of what it recorded.
use Rattle.std.specs.Prelude.{◌≡◌, ◌≤◌, ◌^◌, ℕ, Bool, true, false, List, [], length, take, Option, None, Some, slice_get}
use Rattle.cx_model.specs.Prelude.{Cluster, Event, RoleId, Member, DeliversOneOf, change, kept_by, run, start, Letter, Written, Record}
use Rattle.cx_course.specs.Action.{Action, Filled, Kept, Took, answered_in, kept_in, noted_in, sent_in}
use Rattle.cx_course.specs.Changing.{StoreChange, change_for, changes_of, lists_after}
use Rattle.cx_inv_open.specs.Reopened.{stored_as}
use Rattle.cx_promises.specs.Lawful.{IsLawful}
use Rattle.cx_record.specs.Readable.{AreRead}

-- the list in a role's store after these actions, where it was empty at first
abbrev pub list_in : RoleId → List Action → List Record
list_in me actions = lists_after [] (changes_of me (kept_in actions))

-- What was done is what the run of the recorded events does: it sends the same datagrams in the same order, leaves the same list in each
-- store, and has delivered what clients took as answers; it is lawful; and the lines of a record are read as its events, where the
-- numbers of its datagrams have 64 bits.
pub record Follows (c : Cluster) (actions : List Action) : Type 0 where
  pub sends : (run c (noted_in actions)).sent ≡ sent_in actions
  pub stores : (me : RoleId) → stored_as me (run c (noted_in actions)).kept me.kind ≡ list_in me actions
  pub answers : (d : Letter) → Member d (answered_in actions) → DeliversOneOf (start c) (noted_in actions) d
  pub lawful : IsLawful c (noted_in actions)
  pub read : length (sent_in actions) ≤ 2 ^ 64 → AreRead c (noted_in actions)

-- whether no step is begun where this is the next action: none is next, or the change with which a step begins, a take, or a step that
-- isn't made
abbrev pub is_between : Option Action → Bool
is_between None = true
is_between (Some (Kept change)) = true
is_between (Some (Took what)) = true
is_between (Some Filled) = true
is_between other = false

-- at each moment between two steps, what was done by then follows
abbrev pub FollowsBetween : Cluster → List Action → Type 0
FollowsBetween c actions = (count : ℕ) → is_between (slice_get actions count) ≡ true → Follows c (take count actions)

-- a change of a store that is next after these actions is the one that a next event makes in the run
pub record IsNextOf (c : Cluster) (actions : List Action) (kept : StoreChange) : Type 0 where
  pub event : Event
  pub what : Written
  pub keeps : (change (run c (noted_in actions)) event).kept ≡ kept_by kept.role (Some what)
  pub change_is : kept.change ≡ change_for (list_in kept.role actions) what

abbrev pub EachKeptIsNext : Cluster → List Action → Type 0
EachKeptIsNext c actions =
    (count : ℕ) (kept : StoreChange) → slice_get actions count ≡ Some (Kept kept) → IsNextOf c (take count actions) kept
