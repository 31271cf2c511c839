-- What a part of a node's run did to its roles, its link and its output.
use Rattle.std.specs.Prelude.{◌≡◌, ℕ, false, List, ◌++◌, length, map, take, Option, Some, slice_get, slice_set}
use Rattle.cx_role.specs.Prelude.{Appends, list_any, Cluster, RoleId, Letter, KeeperChange, Renewal, Record}
use Rattle.cx_seat.specs.Prelude.{LinkHistory, Action, Filled, Kept, Took, bound_in, is_filled, kept_in, printed_in, sent_in, taken_in}
use Rattle.cx_seat.specs.Prelude.{StoreChange, Changing, HasChangeFailedIn, GuestGrows, Rests, hosted_in, keeper_of, who, Course, Moved}
use Rattle.cx_seat.specs.Prelude.{Recorded}
use Rattle.cx_base.specs.declared.role.Kind.TheVariants as kind
use Rattle.cx_seat.specs.declared.guest.Guest.{Guest}
use Rattle.cx_node.specs.declared.node.Stop.{Stop}
use Rattle.cx_node.specs.declared.node.Stop.TheVariants as stop
use Rattle.cx_node.specs.Ports.{bind_of, sendings}

-- the hosted roles, what is known of the record, where the node records, the history of the link, and what was printed
pub record Scene (K : Type 0) : Type 0 where
  pub guests : List (Guest K)
  pub recorded : Option Recorded
  pub link : Option LinkHistory
  pub out : Option (List ℕ)

abbrev pub scene : {K : Type 0} → List (Guest K) → Option Recorded → Option LinkHistory → Option (List ℕ) → Scene K
scene guests recorded link out = record { guests = guests; recorded = recorded; link = link; out = out }

-- the hosted roles with what is known of their record
abbrev pub course_in : {K : Type 0} → Scene K → Course
course_in s = record { hosted = hosted_in s.guests; recorded = s.recorded }

-- Where the link's history is still known, it has these datagrams besides, as sent.
abbrev pub HasLinkSent : Cluster → List Letter → Option LinkHistory → Option LinkHistory → Type 0
HasLinkSent c letters old new =
    (after : LinkHistory) → new ≡ Some after
    → (before : LinkHistory) × (old ≡ Some before)
    × (after ≡ record before { sent = before.sent ++ sendings c letters })

-- the same with the first of these datagrams
abbrev pub HasLinkSentPart : Cluster → List Letter → Option LinkHistory → Option LinkHistory → Type 0
HasLinkSentPart c letters old new = (count : ℕ) × HasLinkSent c (take count letters) old new

-- the history of a link after these actions
abbrev pub with_actions : Cluster → List Action → LinkHistory → LinkHistory
with_actions c actions h =
    record {
      binds = h.binds ++ map (bind_of c) (bound_in actions);
      taken = h.taken ++ taken_in actions;
      sent = h.sent ++ sendings c (sent_in actions);
    }

-- Where the link's history is still known, it has the binds, takes and sends among these actions besides.
abbrev pub Linked : Cluster → List Action → Option LinkHistory → Option LinkHistory → Type 0
Linked c actions old new =
    (after : LinkHistory) → new ≡ Some after
    → (before : LinkHistory) × (old ≡ Some before) × (after ≡ with_actions c actions before)

abbrev pub GuestsGrow : {K : Type 0} → Changing K → List StoreChange → List (Guest K) → List (Guest K) → Type 0
GuestsGrow {K} gives kept old new =
    (length new ≡ length old)
    × ((i : ℕ) (h after : Guest K) → slice_get old i ≡ Some h → slice_get new i ≡ Some after
    → GuestGrows gives kept h after)

-- These actions were done, and no others: the stores have their roles' changes, the link gave and was asked what
-- they say, and their bytes were printed; no step was left out. Each role is who it was.
pub record Did {K : Type 0} (gives : Changing K) (c : Cluster) (actions : List Action)
    (old new : Scene K) : Type 0 where
  pub names : map who new.guests ≡ map who old.guests
  pub kept : GuestsGrow gives (kept_in actions) old.guests new.guests
  pub link : Linked c actions old.link new.link
  pub printed : Appends old.out new.out (printed_in actions)
  pub made : list_any is_filled actions ≡ false

-- What is to be done was done whole, and each role is as it follows.
pub record Does {K : Type 0} (gives : Changing K) (c : Cluster) (m : Moved Course)
    (old new : Scene K) : Type 0 where
  pub course : course_in new ≡ m.next
  pub did : Did gives c m.actions old new

-- each role is who it was, and each keeper keeps what it kept
abbrev pub GuestsRest : {K : Type 0} → Changing K → List (Guest K) → List (Guest K) → Type 0
GuestsRest {K} gives old new =
    (length new ≡ length old)
    × ((i : ℕ) (h after : Guest K) → slice_get old i ≡ Some h → slice_get new i ≡ Some after
    → (who after ≡ who h) × Rests gives (keeper_of h) (keeper_of after))

-- this change failed, of the store of the role of this name, and only a replica puts its list anew; the other roles are
-- as they were
pub record GuestFails {K : Type 0} (gives : Changing K) (role : RoleId) (change : KeeperChange)
    (old new : List (Guest K)) : Type 0 where
  pub place : ℕ
  pub guest : Guest K
  pub after : Guest K
  pub here : slice_get old place ≡ Some guest
  pub others : new ≡ slice_set old place after
  pub name : who guest ≡ role
  pub same : who after ≡ who guest
  pub fails : HasChangeFailedIn gives (Some change) (keeper_of guest) (keeper_of after)
  pub renews : (records : List Record) → change ≡ Renewal records → role.kind ≡ kind.Replica

-- What stopped a run, by the action that was next: a take of the link failed, or the change of a role's store, which
-- may have been made all the same; a step's lines don't fit the record; or memory ran out, or the output failed.
abbrev pub StopsAt : {K : Type 0} → Changing K → Stop → Option Action → List (Guest K) → List (Guest K) → Type 0
StopsAt gives stop.NoMemory next old new = GuestsRest gives old new
StopsAt gives stop.WriteFault next old new = GuestsRest gives old new
StopsAt gives stop.LinkFault next old new =
    ((what : Option (List ℕ)) × (next ≡ Some (Took what))) × GuestsRest gives old new
StopsAt gives stop.RecordFull next old new = (next ≡ Some Filled) × GuestsRest gives old new
StopsAt gives (stop.StoreFault role) next old new =
    (change : KeeperChange) × (next ≡ Some (Kept (record { role = role; change = change }))) × GuestFails gives role change old new

-- The first of these actions were done, and no others, when this stopped the run.
pub record DidPart {K : Type 0} (gives : Changing K) (c : Cluster) (actions : List Action) (e : Stop)
    (old new : Scene K) : Type 0 where
  pub count : ℕ
  pub mid : List (Guest K)
  pub did : Did gives c (take count actions) old (scene mid new.recorded new.link new.out)
  pub stops : StopsAt gives e (slice_get actions count) mid new.guests
