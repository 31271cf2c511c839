-- What binding, running and giving back come to, after an input that was accepted.
use Rattle.std.specs.Prelude.{◌≡◌, ◌⊎◌, ℕ, suc, Bool, true, false, List, ◌++◌, Option, None, Some, is_some, Result, Ok, Err, IfOk, IfErr}
use Rattle.std.specs.Prelude.{IfSome, if◌then◌else◌, map, option_map, slice_get, take}
use Rattle.cx_role.specs.Prelude.{Cluster, Event, RoleId, Status, Rises, Append, KeeperChange, Renewal, Record}
use Rattle.cx_seat.specs.Prelude.{ClientOptions, LinkHistory, IsStoreChange, RecordStore, Changing, changing, Action, Bound, Filled}
use Rattle.cx_seat.specs.Prelude.{AreTakesOf, Kept, Printed, Took, TakeResults, node_run, Recorded, IsBadAs, IsFirstBad, IsFirstUsed}
use Rattle.cx_seat.specs.Prelude.{is_store_used}
use Rattle.cx_base.specs.declared.status.Status.TheVariants as status
use Rattle.cx_disk.specs.declared.disk.Disk.{Ghosts as DiskGhosts}
use Rattle.cx_edge.specs.Link.{Bind}
use Rattle.cx_seat.specs.declared.guest.Guest.{Guest}
use Rattle.cx_node.specs.declared.node.RunEnd.{RunEnd}
use Rattle.cx_node.specs.declared.node.RunEnd.TheVariants as end
use Rattle.cx_node.specs.declared.node.Stop.{Stop}
use Rattle.cx_node.specs.declared.node.Stop.TheVariants as stop
use Rattle.cx_seat.specs.declared.opening.OpenStop.{OpenStop}
use Rattle.cx_seat.specs.declared.opening.OpenStop.TheVariants as open_stop
use Rattle.cx_node.specs.Acts.{Failures}
use Rattle.cx_node.specs.Doing.{Did, DidPart, Scene, course_in}
use Rattle.cx_record.specs.Numbers.{blank}
use Rattle.cx_node.specs.Node.{IsEnd, IsUnderway, NodeState}
use Rattle.cx_node.specs.Ports.{bind_of}
use Rattle.cx_node.specs.Serving.{Did as DidOutside, Outside, Served, ServedPart, begun_with, whole_run}

-- ---- what is answered

-- where not all roles could be opened
abbrev pub unopened_status : OpenStop → Status
unopened_status open_stop.NoMemory = status.NoMemory
unopened_status (open_stop.StoreFault role) = status.StoreFault role
unopened_status (open_stop.BadStore role at) = status.BadStore role at
unopened_status (open_stop.NotFresh role) = status.NotFresh role

-- where the roles ran
abbrev pub ended_status : Result RunEnd Stop → Status
ended_status (Ok end.Done) = status.Done
ended_status (Ok end.Turns) = status.Turns
ended_status (Err stop.NoMemory) = status.NoMemory
ended_status (Err stop.WriteFault) = status.WriteFault
ended_status (Err stop.LinkFault) = status.LinkFault
ended_status (Err (stop.StoreFault role)) = status.StoreFault role
ended_status (Err stop.RecordFull) = status.RecordFull

-- ---- what is done

-- a history with these binds besides
abbrev pub with_binds : List Bind → LinkHistory → LinkHistory
with_binds binds h = record h { binds = h.binds ++ binds }

-- the same with these roles bound to their ports, where the history is known
abbrev pub with_bound : Cluster → List RoleId → Option LinkHistory → Option LinkHistory
with_bound c roles history = option_map (with_binds (map (bind_of c) roles)) history

-- what a change of a store over such disks may answer, and leave
abbrev pub store_gives : {D : Type 0} → DiskGhosts D → Changing (RecordStore D)
store_gives by_disk =
    changing (λ old r answer new. IsStoreChange by_disk old (Append r) answer new)
    (λ old records answer new. IsStoreChange by_disk old (Renewal records) answer new)

-- these hosted roles in this cluster, and what is known of their record
abbrev pub hosting : {K : Type 0} → Cluster → List (Guest K) → Option Recorded → NodeState K
hosting c guests recorded = record { cluster = c; guests = guests; recorded = recorded }

-- what a node knows of its record before it has one, where it is to record
abbrev pub known_first : Bool → Option Recorded
known_first recording = if recording then Some blank else None

-- a text was printed, and then the whole run was made
pub record RunsBehind {K : Type 0} (gives : Changing K) (tend : Option ℕ) (c : Cluster) (turns : ℕ) (text : List ℕ)
    (end : RunEnd) (old new : Scene K) : Type 0 where
  pub takes : TakeResults
  pub did : Did gives c (map Printed text ++ (node_run tend c takes (course_in old)).actions) old new
  pub is_end : IsEnd tend c turns (course_in old) takes end
  pub taken : AreTakesOf takes (node_run tend c takes (course_in old)).actions

-- the first of all that were done, when this stopped it
pub record RunsPartBehind {K : Type 0} (gives : Changing K) (tend : Option ℕ) (c : Cluster) (turns : ℕ) (text : List ℕ)
    (e : Stop) (old new : Scene K) : Type 0 where
  pub takes : TakeResults
  pub underway : IsUnderway tend c turns (course_in old) takes
  pub part : DidPart gives c (map Printed text ++ (node_run tend c takes (course_in old)).actions) e old new

-- Behind a text, hosted roles ran to this answer: the whole run was made, or the first of its actions were done, and what failed
-- has a cause.
pub record Ran {K : Type 0} (gives : Changing K) (tend : Option ℕ) (c : Cluster) (turns : ℕ) (text : List ℕ)
    (answer : Result RunEnd Stop) (old new : Scene K) (before after : Failures) : Type 0 where
  pub done : IfOk answer (λ e. RunsBehind gives tend c turns text e old new)
  pub part : IfErr answer (λ e. RunsPartBehind gives tend c turns text e old new)
  pub written : answer ≡ Err stop.WriteFault → Rises before.out after.out
  pub unwritten : (answer ≡ Err stop.WriteFault → ⊥) → after.out ≡ before.out
  pub linked : answer ≡ Err stop.LinkFault → Rises before.link after.link
  pub unlinked : (answer ≡ Err stop.LinkFault → ⊥) → after.link ≡ before.link

-- the whole run was made, to this end
abbrev pub HostEnds : List RoleId → Option ℕ → Option (List ℕ) → Cluster → ClientOptions → List Event → ℕ → RunEnd → Outside
    → Outside → Type 0
HostEnds roles tend header c options events turns e old new =
    (recovered : RoleId → List Record) × (takes : TakeResults) × Served roles tend header c options events recovered takes old new
    × IsEnd tend c turns (begun_with header c options events recovered roles) takes e

-- the first of its actions were done; this one was next, if that is known
abbrev pub HostEndsAt : Option Action → List RoleId → Option ℕ → Option (List ℕ) → Cluster → ClientOptions → List Event → ℕ → Outside
    → Outside → Type 0
HostEndsAt next roles tend header c options events turns old new =
    (recovered : RoleId → List Record) × (takes : TakeResults) × (count : ℕ)
    × ServedPart roles tend header c options events recovered takes count old new
    × IsUnderway tend c turns (begun_with header c options events recovered roles) takes
    × IfSome next (λ (action : Action). slice_get (whole_run tend header c options events recovered roles takes) count ≡ Some action)

abbrev pub HostEndsEarly : List RoleId → Option ℕ → Option (List ℕ) → Cluster → ClientOptions → List Event → ℕ → Outside → Outside → Type 0
HostEndsEarly roles tend header c options events turns old new = HostEndsAt None roles tend header c options events turns old new

-- only the first of its roles were bound
abbrev pub HostBinding : List RoleId → Cluster → Outside → Outside → Type 0
HostBinding roles c old new = (bound : ℕ) × DidOutside roles c (map Bound (take bound roles)) old new

-- all before a change of this role's store was done, and nothing after; the change itself was made or not
abbrev pub HostEndsAtChange : RoleId → List RoleId → Option ℕ → Option (List ℕ) → Cluster → ClientOptions → List Event → ℕ → Outside
    → Outside → Type 0
HostEndsAtChange role roles tend header c options events turns old new =
    (recovered : RoleId → List Record) × (takes : TakeResults) × (count : ℕ) × (change : KeeperChange)
    × (ServedPart roles tend header c options events recovered takes count old new
    ⊎ ServedPart roles tend header c options events recovered takes (suc count) old new)
    × IsUnderway tend c turns (begun_with header c options events recovered roles) takes
    × (slice_get (whole_run tend header c options events recovered roles takes) count
    ≡ Some (Kept (record { role = role; change = change })))

-- what was done, and why, for each answer; hosting reads nothing
abbrev pub HostDid : List RoleId → Option ℕ → Option (List ℕ) → Cluster → ClientOptions → List Event → ℕ → Outside → Outside
    → Status → Type 0
HostDid roles tend header c options events turns old new status.Done =
    HostEnds roles tend header c options events turns end.Done old new
HostDid roles tend header c options events turns old new status.Turns =
    HostEnds roles tend header c options events turns end.Turns old new
HostDid roles tend header c options events turns old new status.LinkFault =
    HostEndsEarly roles tend header c options events turns old new × Rises old.links new.links
    × (HostBinding roles c old new
    ⊎ ((what : Option (List ℕ)) × HostEndsAt (Some (Took what)) roles tend header c options events turns old new))
HostDid roles tend header c options events turns old new status.WriteFault =
    HostEndsEarly roles tend header c options events turns old new × Rises old.writes new.writes
HostDid roles tend header c options events turns old new (status.StoreFault role) =
    HostEndsEarly roles tend header c options events turns old new × Rises (old.stores role) (new.stores role)
    × (HostBinding roles c old new ⊎ HostEndsAtChange role roles tend header c options events turns old new)
HostDid roles tend header c options events turns old new (status.BadStore role at) =
    HostEndsEarly roles tend header c options events turns old new × (old.tells ≡ true → IsFirstBad roles c old.stored role at)
HostDid roles tend header c options events turns old new (status.NotFresh role) =
    HostEndsEarly roles tend header c options events turns old new × (is_some header ≡ true) × (new.out ≡ old.out)
    × (old.tells ≡ true → IsFirstUsed roles old.stored role)
HostDid roles tend header c options events turns old new status.RecordFull =
    HostEndsAt (Some Filled) roles tend header c options events turns old new × (is_some header ≡ true)
HostDid roles tend header c options events turns old new status.NoMemory =
    HostEndsEarly roles tend header c options events turns old new
HostDid roles tend header c options events turns old new other = ⊥

-- the roles ran
abbrev pub HasRun : Status → Type 0
HasRun status.Done = Unit {0}
HasRun status.Turns = Unit {0}
HasRun status.WriteFault = Unit {0}
HasRun status.RecordFull = Unit {0}
HasRun other = ⊥

-- all stores were opened: the roles ran, or one of a node that is to record has a record
abbrev pub HasOpened : Status → Type 0
HasOpened (status.NotFresh role) = Unit {0}
HasOpened other = HasRun other

-- what hosting answered; a failed write or take, and a store that failed, is always reported; each store that was opened is its
-- role's own, and roles of a node that records run only from stores without records
pub record HostAnswered (roles : List RoleId) (tend : Option ℕ) (header : Option (List ℕ)) (c : Cluster) (options : ClientOptions)
    (events : List Event) (turns : ℕ) (old new : Outside) (s : Status) : Type 0 where
  pub did : HostDid roles tend header c options events turns old new s
  pub written : (s ≡ status.WriteFault → ⊥) → new.writes ≡ old.writes
  pub linked : (s ≡ status.LinkFault → ⊥) → new.links ≡ old.links
  pub good : HasOpened s → old.tells ≡ true → (i : ℕ) (role : RoleId) (at : ℕ) → slice_get roles i ≡ Some role
      → IsBadAs c role (old.stored role) at role.kind → ⊥
  pub unused : HasRun s → is_some header ≡ true → old.tells ≡ true → (i : ℕ) (role : RoleId) → slice_get roles i ≡ Some role
      → is_store_used role (old.stored role) ≡ false
  pub stored : (role : RoleId) → (s ≡ status.StoreFault role → ⊥) → new.stores role ≡ old.stores role
