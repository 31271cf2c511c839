-- The result of serving.
use Rattle.std.specs.Prelude.{◌≡◌, ◌⊎◌, ◌<◌, ℕ, suc, Bool, true, false, List, [], ◌++◌, codes, is_some, length, map, take, Option, None}
use Rattle.std.specs.Prelude.{Some, IfSome, slice_get}
use Rattle.cx_model.specs.Prelude.{Appends, IsAtEnd, Cluster, Event, RoleId, Status, Rises, Record}
use Rattle.cx_seat.specs.Prelude.{ClientOptions, LinkHistory, Files, files_image, files_records, records_or_none, Action, Bound, Filled}
use Rattle.cx_seat.specs.Prelude.{AreTakesOf, Kept, Printed, Took, kept_in, printed_in, changes_of, lists_after, Hosted, TakeResults}
use Rattle.cx_seat.specs.Prelude.{IsBadAs, IsFirstBad, IsFirstUsed, is_durable, opened_as, Course, Moved, course_of, files_of, node_run}
use Rattle.cx_base.specs.declared.status.Status.TheVariants as status
use Rattle.cx_edge.specs.declared.depot.Depot.{Ghosts as DepotGhosts}
use Rattle.cx_edge.specs.declared.link.Link.{Ghosts as LinkGhosts}
use Rattle.cx_edge.specs.declared.sink.Sink.{Ghosts as SinkGhosts}
use Rattle.cx_edge.specs.declared.source.Source.{Ghosts as SourceGhosts}
use Rattle.cx_node.specs.declared.input.NodeInput.TheVariants.{Lines}
use Rattle.cx_node.specs.declared.input.Refusal.{Refusal}
use Rattle.cx_node.specs.declared.input.Refusal.TheVariants as refusal
use Rattle.cx_node.specs.declared.node.RunEnd.{RunEnd}
use Rattle.cx_node.specs.declared.node.RunEnd.TheVariants as end
use Rattle.cx_keep.specs.Keeper.{KeeperChange}
use Rattle.cx_node.specs.Doing.{Linked}
use Rattle.cx_node.specs.Input.{FailsRead, input_of, refused_of}
use Rattle.cx_node.specs.Node.{IsEnd, IsUnderway}
use Rattle.cx_course.specs.Follows.{FollowsBetween, EachKeptIsNext}

-- What a node has outside: what its source has left, the history of its link, what its output has taken, what its
-- depot holds in the stores of each role and whether that is known, and how often each role's have failed.
pub record Outside : Type 0 where
  pub left : Option (List ℕ)
  pub reads : ℕ
  pub link : Option LinkHistory
  pub links : ℕ
  pub out : Option (List ℕ)
  pub writes : ℕ
  pub tells : Bool
  pub stored : RoleId → Files
  pub stores : RoleId → ℕ

-- what is outside, where so much is left of a source, and so many of its reads have failed
abbrev pub outside_read : {L D S W : Type 0} → LinkGhosts L → DepotGhosts D S → SinkGhosts W → Option (List ℕ) → ℕ
    → L → D → W → Outside
outside_read by_link by_depot by_out left reads link depot out =
    record {
      left = left;
      reads = reads;
      link = by_link.history link;
      links = by_link.faults link;
      out = by_out.taken out;
      writes = by_out.faults out;
      tells = by_depot.tells depot;
      stored = files_of (by_depot.stored depot);
      stores = by_depot.faults depot;
    }

-- what is outside, as a source, a link, a depot and an output show it
abbrev pub outside : {I L D S W : Type 0} → SourceGhosts I → LinkGhosts L → DepotGhosts D S → SinkGhosts W
    → I → L → D → W → Outside
outside by_input by_link by_depot by_out input link depot out =
    outside_read by_link by_depot by_out (by_input.left input) (by_input.faults input) link depot out

-- the records of a store, as a role of its own kind opens it
abbrev pub records_in_files : (RoleId → Files) → RoleId → List Record
records_in_files stored me = records_or_none (files_image (Some me.kind) (stored me))

-- how hosted clients ask: they ask others where their node tends them
abbrev pub options_of : Option ℕ → ℕ → ClientOptions
options_of tend window = record { window = window; others = is_some tend }

-- the hosted roles as they are opened, each from these records
abbrev pub hosts : Cluster → ClientOptions → List Event → (RoleId → List Record) → List RoleId → List Hosted
hosts c options events recovered roles = map (λ (me : RoleId). opened_as c options events me (recovered me) me.kind) roles

-- these roles as a node begins with them; one that records has the header of its record
abbrev pub begun_with : Option (List ℕ) → Cluster → ClientOptions → List Event → (RoleId → List Record) → List RoleId → Course
begun_with header c options events recovered roles = course_of (is_some header) (hosts c options events recovered roles)

-- the run of these roles over what the takes of a link gave
abbrev pub run_of : Option ℕ → Option (List ℕ) → Cluster → ClientOptions → List Event → (RoleId → List Record) → List RoleId → TakeResults
    → Moved Course
run_of tend header c options events recovered roles takes = node_run tend c takes (begun_with header c options events recovered roles)

-- the header of the record of a node that records, where the input has this one
abbrev pub recorded_header : Bool → List ℕ → Option (List ℕ)
recorded_header true text = Some text
recorded_header false text = None

-- the input says this cluster and these requests, and is refused for nothing; a node that records has its header
pub record InputSays (recording : Bool) (roles : List RoleId) (left : Option (List ℕ)) (header : Option (List ℕ)) (c : Cluster)
    (events : List Event) : Type 0 where
  pub text : List ℕ
  pub header_is : header ≡ recorded_header recording text
  pub said : IfSome left (λ all. (input_of all ≡ Lines text c (record { events = events; bad = None }))
      × (refused_of recording roles (input_of all) ≡ None))

-- what the roles were opened from is what the depot holds, where that is known
abbrev pub AreDepotRecords : Outside → (RoleId → List Record) → Type 0
AreDepotRecords old recovered = old.tells ≡ true → (me : RoleId) → is_durable me.kind ≡ true → recovered me ≡ records_in_files old.stored me

-- what a record begins with: the header, and the line that ends it
abbrev pub record_head : Option (List ℕ) → List ℕ
record_head None = []
record_head (Some header) = header ++ codes "---\n"

-- All that is done to the end of a run: each role is bound to its port, a record is begun, and then come the actions of the run.
abbrev pub whole_run : Option ℕ → Option (List ℕ) → Cluster → ClientOptions → List Event → (RoleId → List Record) → List RoleId
    → TakeResults → List Action
whole_run tend header c options events recovered roles takes =
    map Bound roles ++ (map Printed (record_head header) ++ (run_of tend header c options events recovered roles takes).actions)

-- These actions were done, and no others: the link's history has their binds, takes and sends, their bytes are
-- printed, and each hosted role's store has the list that it had, after their changes of it. Of a role that isn't
-- hosted nothing was touched.
pub record Did (roles : List RoleId) (c : Cluster) (actions : List Action) (old new : Outside) : Type 0 where
  pub link : Linked c actions old.link new.link
  pub printed : Appends old.out new.out (printed_in actions)
  pub stores : old.tells ≡ true → (i : ℕ) (me : RoleId) → slice_get roles i ≡ Some me → is_durable me.kind ≡ true
      → files_records (Some (new.stored me))
      ≡ lists_after (files_records (Some (old.stored me))) (changes_of me (kept_in actions))
  pub others : (me : RoleId) → ((i : ℕ) → slice_get roles i ≡ Some me → ⊥)
      → (new.stored me ≡ old.stored me) × (new.stores me ≡ old.stores me)
  pub tells : new.tells ≡ old.tells

-- A recorded run: the stores were empty, and at each moment between two of these steps what was done is the model's run of the events
-- that were recorded by then.
pub record IsRecordedRun (roles : List RoleId) (c : Cluster) (recovered : RoleId → List Record) (actions : List Action) : Type 0 where
  pub fresh : (i : ℕ) (me : RoleId) → slice_get roles i ≡ Some me → is_durable me.kind ≡ true → recovered me ≡ []
  pub follows : FollowsBetween c actions
  pub in_flight : EachKeptIsNext c actions

-- A whole run was done: over what the takes of the link gave, and from the records that the stores had.
pub record Served (roles : List RoleId) (tend : Option ℕ) (header : Option (List ℕ)) (c : Cluster) (options : ClientOptions)
    (events : List Event) (recovered : RoleId → List Record) (takes : TakeResults) (old new : Outside) : Type 0 where
  pub recovered_is : AreDepotRecords old recovered
  pub told_whole : old.tells ≡ true → (i : ℕ) (me : RoleId) → slice_get roles i ≡ Some me → is_durable me.kind ≡ true
      → files_records (Some (old.stored me)) ≡ recovered me
  pub taken : AreTakesOf takes (run_of tend header c options events recovered roles takes).actions
  pub did : Did roles c (whole_run tend header c options events recovered roles takes) old new
  pub recorded : is_some header ≡ true → IsRecordedRun roles c recovered (run_of tend header c options events recovered roles takes).actions

-- The first actions of a run were done, one after the other, and no others. What the link gave is in them too, so
-- each rests on what was taken and kept before it; what the takes to come would give is free.
pub record ServedPart (roles : List RoleId) (tend : Option ℕ) (header : Option (List ℕ)) (c : Cluster) (options : ClientOptions)
    (events : List Event) (recovered : RoleId → List Record) (takes : TakeResults) (count : ℕ) (old new : Outside) : Type 0 where
  pub recovered_is : AreDepotRecords old recovered
  pub did : Did roles c (take count (whole_run tend header c options events recovered roles takes)) old new
  -- a record is begun once all stores are opened, and were empty
  pub recorded : is_some header ≡ true → length roles < count
      → IsRecordedRun roles c recovered (run_of tend header c options events recovered roles takes).actions

-- the input was read to its end, and no read failed
abbrev pub AllRead : Outside → Outside → Type 0
AllRead old new = IsAtEnd new.left × (new.reads ≡ old.reads)

-- the input was accepted, and the whole run was made, to this end
abbrev pub Ends : List RoleId → Option ℕ → ℕ → Bool → ℕ → RunEnd → Outside → Outside → Type 0
Ends roles tend window recording turns e old new =
    (header : Option (List ℕ)) × (c : Cluster) × (events : List Event) × (recovered : RoleId → List Record) × (takes : TakeResults)
    × InputSays recording roles old.left header c events × AllRead old new
    × Served roles tend header c (options_of tend window) events recovered takes old new
    × IsEnd tend c turns (begun_with header c (options_of tend window) events recovered roles) takes e

-- the input was accepted, and the first actions of its run were done; this one was next, if that is known
abbrev pub EndsAt : Option Action → List RoleId → Option ℕ → ℕ → Bool → ℕ → Outside → Outside → Type 0
EndsAt next roles tend window recording turns old new = (header : Option (List ℕ)) × (c : Cluster) × (events : List Event)
    × (recovered : RoleId → List Record) × (takes : TakeResults) × (count : ℕ)
    × InputSays recording roles old.left header c events × AllRead old new
    × ServedPart roles tend header c (options_of tend window) events recovered takes count old new
    × IsUnderway tend c turns (begun_with header c (options_of tend window) events recovered roles) takes × IfSome next
    (λ (action : Action). slice_get (whole_run tend header c (options_of tend window) events recovered roles takes) count ≡ Some action)

-- the input was accepted, and the first actions of its run were done
abbrev pub EndsEarly : List RoleId → Option ℕ → ℕ → Bool → ℕ → Outside → Outside → Type 0
EndsEarly roles tend window recording turns old new = EndsAt None roles tend window recording turns old new

-- the input was accepted, and only the first of its roles were bound
abbrev pub EndsBinding : List RoleId → Bool → Outside → Outside → Type 0
EndsBinding roles recording old new =
    (header : Option (List ℕ)) × (c : Cluster) × (events : List Event) × (bound : ℕ)
    × InputSays recording roles old.left header c events × AllRead old new × Did roles c (map Bound (take bound roles)) old new

-- The input was accepted, and all before a change of this role's store was done, and nothing after; the change itself was made or not.
abbrev pub EndsAtChange : RoleId → List RoleId → Option ℕ → ℕ → Bool → ℕ → Outside → Outside → Type 0
EndsAtChange role roles tend window recording turns old new = (header : Option (List ℕ)) × (c : Cluster) × (events : List Event)
    × (recovered : RoleId → List Record) × (takes : TakeResults) × (count : ℕ)
    × (change : KeeperChange) × InputSays recording roles old.left header c events × AllRead old new
    × (ServedPart roles tend header c (options_of tend window) events recovered takes count old new
    ⊎ ServedPart roles tend header c (options_of tend window) events recovered takes (suc count) old new)
    × IsUnderway tend c turns (begun_with header c (options_of tend window) events recovered roles) takes
    × (slice_get (whole_run tend header c (options_of tend window) events recovered roles takes) count
    ≡ Some (Kept (record { role = role; change = change })))

-- nothing but the source was used
pub record IsUntouched (old new : Outside) : Type 0 where
  pub link : new.link ≡ old.link
  pub links : new.links ≡ old.links
  pub out : new.out ≡ old.out
  pub writes : new.writes ≡ old.writes
  pub tells : new.tells ≡ old.tells
  pub stored : (me : RoleId) → new.stored me ≡ old.stored me
  pub stores : (me : RoleId) → new.stores me ≡ old.stores me

-- the status of an input that is refused
abbrev pub refused_status : Refusal → Status
refused_status refusal.NoMemory = status.NoMemory
refused_status refusal.ReadFault = status.ReadFault
refused_status (refusal.BadInput line) = status.BadInput line
refused_status refusal.BadWords = status.BadWords

-- the status of an input of which a read failed
abbrev pub AnswersPart : Bool → List RoleId → Option (List ℕ) → Option (List ℕ) → Status → Type 0
AnswersPart recording roles left left_after s =
    (why : Refusal) × (s ≡ refused_status why) × FailsRead recording roles left left_after why

-- What a node answered: what was done, and why.
pub record IsNodeAnswer (roles : List RoleId) (tend : Option ℕ) (window : ℕ) (recording : Bool) (turns : ℕ) (old new : Outside)
    (s : Status) : Type 0 where
  -- Done: all hosted clients have finished, or none is hosted and all turns were made; Turns: all were made, and a
  -- client hasn't finished.
  pub done : s ≡ status.Done → Ends roles tend window recording turns end.Done old new
  pub turns_ended : s ≡ status.Turns → Ends roles tend window recording turns end.Turns old new
  -- The input is refused by a role outside the cluster, or its first bad line, or a read failed; nothing else was done.
  pub bad_words : s ≡ status.BadWords
      → IfSome old.left (λ all. refused_of recording roles (input_of all) ≡ Some refusal.BadWords) × IsUntouched old new
  pub bad_input : (line : ℕ) → s ≡ status.BadInput line
      → IfSome old.left (λ all. refused_of recording roles (input_of all) ≡ Some (refusal.BadInput line)) × IsUntouched old new
  pub read_fault : s ≡ status.ReadFault → Rises old.reads new.reads × IsUntouched old new
  -- A failure after that: its count has risen, and the first actions of the run were done.
  pub link_fault : s ≡ status.LinkFault → Rises old.links new.links × EndsEarly roles tend window recording turns old new
  -- A bind failed, or a take, which was next.
  pub link_fault_at : s ≡ status.LinkFault → EndsBinding roles recording old new
      ⊎ ((what : Option (List ℕ)) × EndsAt (Some (Took what)) roles tend window recording turns old new)
  pub write_fault : s ≡ status.WriteFault → Rises old.writes new.writes × EndsEarly roles tend window recording turns old new
  pub store_fault : (role : RoleId) → s ≡ status.StoreFault role
      → Rises (old.stores role) (new.stores role) × EndsEarly roles tend window recording turns old new
  -- A store failed as it was opened, or at a change of it, which was next.
  pub store_fault_at : (role : RoleId) → s ≡ status.StoreFault role → EndsBinding roles recording old new
      ⊎ EndsAtChange role roles tend window recording turns old new
  -- The first store that isn't one of its role's is reported with the place of its first fault.
  pub bad_store : (role : RoleId) (at : ℕ) → s ≡ status.BadStore role at → EndsEarly roles tend window recording turns old new
  pub bad_place : (role : RoleId) (at : ℕ) → s ≡ status.BadStore role at → old.tells ≡ true
      → (header : Option (List ℕ)) × (c : Cluster) × (events : List Event) × InputSays recording roles old.left header c events
      × IsFirstBad roles c old.stored role at
  -- Of a node that is to record: the first store that has a record is reported, and nothing is printed.
  pub not_fresh : (role : RoleId) → s ≡ status.NotFresh role
      → (recording ≡ true) × EndsEarly roles tend window recording turns old new × (new.out ≡ old.out)
  pub used : (role : RoleId) → s ≡ status.NotFresh role → old.tells ≡ true → IsFirstUsed roles old.stored role
  -- The lines of the next step don't fit the record; all before it was done.
  pub record_full : s ≡ status.RecordFull → (recording ≡ true) × EndsAt (Some Filled) roles tend window recording turns old new
  pub no_memory : s ≡ status.NoMemory → IsUntouched old new ⊎ EndsEarly roles tend window recording turns old new
  -- A failed read is always reported, unless the whole lines before it are refused. A failed write or take, and a
  -- store that failed, is always reported.
  pub heard : (new.reads ≡ old.reads) ⊎ AnswersPart recording roles old.left new.left s
  pub written : (s ≡ status.WriteFault → ⊥) → new.writes ≡ old.writes
  pub linked : (s ≡ status.LinkFault → ⊥) → new.links ≡ old.links
  pub stored : (role : RoleId) → (s ≡ status.StoreFault role → ⊥) → new.stores role ≡ old.stores role

-- nothing outside has failed
pub record NoFault (old new : Outside) : Type 0 where
  pub reads : Rises old.reads new.reads → ⊥
  pub links : Rises old.links new.links → ⊥
  pub writes : Rises old.writes new.writes → ⊥
  pub stores : (role : RoleId) → Rises (old.stores role) (new.stores role) → ⊥

-- The whole input is known and refused for nothing, and the depot is known to hold for each hosted role a store of
-- its own.
pub record IsGood (recording : Bool) (roles : List RoleId) (old : Outside) : Type 0 where
  pub all : List ℕ
  pub left : old.left ≡ Some all
  pub accepted : refused_of recording roles (input_of all) ≡ None
  pub tells : old.tells ≡ true
  pub stores : (header : Option (List ℕ)) (c : Cluster) (events : List Event) (i : ℕ) (role : RoleId) (at : ℕ)
      → InputSays recording roles old.left header c events
      → slice_get roles i ≡ Some role → IsBadAs c role (old.stored role) at role.kind → ⊥

-- the run came to its end, or to the end of its record, or memory ran out; or a store has a record, of a node that is to record
abbrev pub EndsWell : Bool → Status → Type 0
EndsWell recording status.Done = Unit {0}
EndsWell recording status.Turns = Unit {0}
EndsWell recording status.NoMemory = Unit {0}
EndsWell recording status.RecordFull = recording ≡ true
EndsWell recording (status.NotFresh role) = recording ≡ true
EndsWell recording other = ⊥

-- Where all is good and nothing fails, the run comes to its end, or memory ran out.
abbrev pub NodeCompletes : Bool → List RoleId → Outside → Outside → Status → Type 0
NodeCompletes recording roles old new s = NoFault old new → IsGood recording roles old → EndsWell recording s

-- Where all is good and nothing fails, a node that is to record always reports a store that has a record, or memory ran out.
abbrev pub TellsUsed : Bool → List RoleId → Outside → Outside → Status → Type 0
TellsUsed recording roles old new s =
    NoFault old new → IsGood recording roles old → recording ≡ true → (role : RoleId) → IsFirstUsed roles old.stored role
    → (s ≡ status.NotFresh role) ⊎ (s ≡ status.NoMemory)

-- Where the whole input is known and accepted and nothing fails, a store that isn't one of its role's is always
-- reported, or memory ran out.
abbrev pub TellsBad : Bool → List RoleId → Outside → Outside → Status → Type 0
TellsBad recording roles old new s =
    NoFault old new → old.tells ≡ true → (all : List ℕ) → old.left ≡ Some all
    → (header : Option (List ℕ)) (c : Cluster) (events : List Event) (role : RoleId) (at : ℕ)
    → InputSays recording roles old.left header c events → IsFirstBad roles c old.stored role at
    → (s ≡ status.BadStore role at) ⊎ (s ≡ status.NoMemory)
