-- Hosted roles as they are opened, and the stores that are lent to them.
use Rattle.std.specs.Prelude.{◌≡◌, ◌<◌, ◌≤◌, ◌+◌, ◌++◌, ◌==◌, ℕ, Bool, true, false, not, ◌&&◌, List, length, [], ◌∷◌, Option, None, Some}
use Rattle.std.specs.Prelude.{Result, Ok, Err, IfOk, OnErr, OnOk, is_some, slice_get, if◌then◌else◌, flat_map}
use Rattle.cx_model.specs.Prelude.{list_any, Cluster, Event, Kind, RoleId, acceptor_rules, batcher_rules, leader_rules, matchmaker_rules}
use Rattle.cx_model.specs.Prelude.{proxy_rules, reader_rules, replacer_rules, replica_rules, opened, unbatcher_rules, Record}
use Rattle.cx_base.specs.declared.role.Kind.TheVariants as kind
use Rattle.cx_client.specs.declared.asking.ClientOptions.{ClientOptions}
use Rattle.cx_client.specs.Client.{client_opened}
use Rattle.cx_edge.specs.declared.depot.Depot.{Ghosts as DepotGhosts}
use Rattle.cx_inv_open.specs.Reopened.{refused_as}
use Rattle.cx_edge.specs.declared.shelf.Shelf.{Shelf}
use Rattle.cx_edge.specs.Shelf.{same_shelf, shelf}
use Rattle.cx_journal.specs.Files.{Files, files_image, files_records}
use Rattle.cx_journal.specs.State.{has_some, records_or_none}
use Rattle.cx_journal.specs.Store.{store_gates, store_told, store_whole}
use Rattle.cx_journal.specs.declared.store.RecordStore.{RecordStore}
use Rattle.cx_script.specs.Requests.{script_of}
use Rattle.cx_seat.specs.declared.guest.Guest.{Guest}
use Rattle.cx_seat.specs.declared.opening.OpenStop.{OpenStop}
use Rattle.cx_seat.specs.declared.opening.OpenStop.TheVariants as open_stop
use Rattle.cx_seat.specs.declared.waking.WakeStop.{WakeStop}
use Rattle.cx_seat.specs.declared.waking.WakeStop.TheVariants as wake_stop
use Rattle.cx_seat.specs.Guest.{hosted_of, keeper_of, who}
use Rattle.cx_course.specs.Hosted.{Hosted, ClientAt, BatcherAt, LeaderAt, ProxyAt, AcceptorAt, MatchmakerAt, ReplicaAt, UnbatcherAt}
use Rattle.cx_course.specs.Hosted.{ReaderAt, ReplacerAt}
use Rattle.cx_seat.specs.Stores.{Lent, NoneFailed, SameRecords, disks_of, files_of, has_second, is_two, places_of}
use Rattle.cx_seat.specs.Wake.{IsBadStore}

-- whether a role of this kind has records, and so a store
abbrev pub is_durable : Kind → Bool
is_durable kind.Client = false
is_durable kind.Batcher = false
is_durable kind.Proxy = false
is_durable kind.Unbatcher = false
is_durable other = true

-- A role of this kind as it is opened: a client with its requests among those of the input, another one from its
-- records.
abbrev pub opened_as : Cluster → ClientOptions → List Event → RoleId → List Record → Kind → Hosted
opened_as c options events me records kind.Client = ClientAt (client_opened c me (script_of me.index events) options)
opened_as c options events me records kind.Batcher = BatcherAt (opened batcher_rules c me [])
opened_as c options events me records kind.Leader = LeaderAt (opened leader_rules c me records)
opened_as c options events me records kind.Proxy = ProxyAt (opened proxy_rules c me [])
opened_as c options events me records kind.Acceptor = AcceptorAt (opened acceptor_rules c me records)
opened_as c options events me records kind.Matchmaker = MatchmakerAt (opened matchmaker_rules c me records)
opened_as c options events me records kind.Replica = ReplicaAt (opened replica_rules c me records)
opened_as c options events me records kind.Unbatcher = UnbatcherAt (opened unbatcher_rules c me [])
opened_as c options events me records kind.Reader = ReaderAt (opened reader_rules c me records)
opened_as c options events me records kind.Replacer = ReplacerAt (opened replacer_rules c me records)

-- the bytes are no store of a role of this kind, for the reason at this place
abbrev pub IsBadAs : Cluster → RoleId → Files → ℕ → Kind → Type 0
IsBadAs c me files at kind.Leader = IsBadStore leader_rules c me files at
IsBadAs c me files at kind.Acceptor = IsBadStore acceptor_rules c me files at
IsBadAs c me files at kind.Matchmaker = IsBadStore matchmaker_rules c me files at
IsBadAs c me files at kind.Replica = IsBadStore replica_rules c me files at
IsBadAs c me files at kind.Reader = IsBadStore reader_rules c me files at
IsBadAs c me files at kind.Replacer = IsBadStore replacer_rules c me files at
IsBadAs c me files at other = ⊥

-- whether the store of a role that has one has a record
abbrev pub is_store_used : RoleId → Files → Bool
is_store_used me files = is_durable me.kind && has_some (records_or_none (files_image (Some me.kind) files))

-- the first of these roles whose store is not one of its own, and the place of the first fault in it
pub record IsFirstBad (roles : List RoleId) (c : Cluster) (stored : RoleId → Files) (role : RoleId)
    (at : ℕ) : Type 0 where
  pub place : ℕ
  pub here : slice_get roles place ≡ Some role
  pub bad : IsBadAs c role (stored role) at role.kind
  pub first : (i : ℕ) (other : RoleId) (fault : ℕ) → i < place → slice_get roles i ≡ Some other
      → IsBadAs c other (stored other) fault other.kind → ⊥

-- the first of these roles whose store has a record
pub record IsFirstUsed (roles : List RoleId) (stored : RoleId → Files) (role : RoleId) : Type 0 where
  pub place : ℕ
  pub here : slice_get roles place ≡ Some role
  pub used : is_store_used role (stored role) ≡ true
  pub first : (i : ℕ) (other : RoleId) → i < place → slice_get roles i ≡ Some other → is_store_used other (stored other) ≡ false

-- a store, over two disks or one, has these records, as far as its disks' bytes are known, and nothing has failed
pub record HasRecords {D : Type 0} (seen : D → Option (List ℕ)) (disk_faults : D → ℕ) (tells second : Bool)
    (records : List Record) (store : RecordStore D) : Type 0 where
  pub whole : store_whole store ≡ true
  pub sides : is_two store ≡ second
  pub is_seen : tells ≡ true → is_some (store_told seen store) ≡ true
  pub kept : tells ≡ true → files_records (store_told seen store) ≡ records
  pub gates : length (store_gates store) ≡ length records + 1
  pub faultless : NoneFailed disk_faults store

abbrev pub HasStore : {D : Type 0} → (D → Option (List ℕ)) → (D → ℕ) → Bool → Bool → List Record → Bool
    → Option (RecordStore D) → Type 0
HasStore seen disk_faults tells second records true None = ⊥
HasStore seen disk_faults tells second records true (Some s) = HasRecords seen disk_faults tells second records s
HasStore seen disk_faults tells second records false None = Unit {0}
HasStore seen disk_faults tells second records false (Some s) = ⊥

-- A role was opened from the bytes of its store, if it has one: they have records none of which it refuses, and its
-- store has them.
pub record IsOpened {D : Type 0} (seen : D → Option (List ℕ)) (disk_faults : D → ℕ) (c : Cluster) (options : ClientOptions)
    (events : List Event) (tells : Bool) (files : Files) (me : RoleId) (guest : Guest (RecordStore D)) : Type 0 where
  pub records : List Record
  pub hosted : hosted_of guest ≡ opened_as c options events me records me.kind
  pub accepted : refused_as c me records me.kind ≡ None
  pub read : tells ≡ true → is_durable me.kind ≡ true → files_image (Some me.kind) files ≡ Ok records
  pub stored : HasStore seen disk_faults tells (has_second me.kind) records (is_durable me.kind) (keeper_of guest)

-- the first roles of a list were opened, each from what its store had
abbrev pub AreOpened : {D : Type 0} → (D → Option (List ℕ)) → (D → ℕ) → Cluster → ClientOptions → List Event → Bool
    → (RoleId → Files) → List RoleId → List (Guest (RecordStore D)) → Type 0
AreOpened {D} seen disk_faults c options events tells stored roles guests =
    (i : ℕ) (guest : Guest (RecordStore D)) → slice_get guests i ≡ Some guest
    → (me : RoleId) × (slice_get roles i ≡ Some me) × IsOpened seen disk_faults c options events tells (stored me) me guest

-- whether a role's store, if it has one, has a record: more gates than the closed one
abbrev pub holds_record : {D : Type 0} → Option (RecordStore D) → Bool
holds_record None = false
holds_record (Some store) = not (length (store_gates store) == 1)

-- the first of these roles whose store has a record, if one has
abbrev pub first_holding : {D : Type 0} → List (Guest (RecordStore D)) → Option RoleId
first_holding [] = None
first_holding (guest ∷ guests) = if holds_record (keeper_of guest) then Some (who guest) else first_holding guests

-- the disks of their stores, in their order
abbrev pub disks_in : {D : Type 0} → List (Guest (RecordStore D)) → List (Lent D)
disks_in guests = flat_map (λ g. disks_of (who g) (keeper_of g)) guests

-- the places of these
abbrev pub lent_to : {D : Type 0} → List (Guest (RecordStore D)) → List Shelf
lent_to guests = places_of (disks_in guests)

-- ---- what opening asks for, and leaves

-- no role is named twice
abbrev pub AreApart : List RoleId → Type 0
AreApart roles = (i j : ℕ) (me : RoleId) → slice_get roles i ≡ Some me → slice_get roles j ≡ Some me → i ≡ j

-- what a depot shows of a role stays
abbrev pub StaysFor : {D S : Type 0} → DepotGhosts D S → D → D → RoleId → Type 0
StaysFor by_depot old new who =
    ((side : ℕ) → by_depot.stored new (shelf who side) ≡ by_depot.stored old (shelf who side))
    × (by_depot.faults new who ≡ by_depot.faults old who)

-- no store of this role is out
abbrev pub NoneIsOut : RoleId → List Shelf → Type 0
NoneIsOut me out = (side : ℕ) → list_any (same_shelf (shelf me side)) out ≡ false

-- why a role wasn't opened, where it could not be woken
abbrev pub unwoken_stop : RoleId → WakeStop → OpenStop
unwoken_stop me wake_stop.Failed = open_stop.StoreFault me
unwoken_stop me (wake_stop.Bad at) = open_stop.BadStore me at
unwoken_stop me wake_stop.NoMemory = open_stop.NoMemory

-- What the opening of a role leaves of a depot. These places are out besides, and what is stored stays; or nothing more is
-- out, and each store holds the records that it had. A count rises only where the answer names its role, and what the
-- depot shows of other roles stays.
pub record LendsFor {D S X : Type 0} (by_depot : DepotGhosts D S) (me : RoleId) (result : Result X OpenStop)
    (lent : X → List Shelf) (old new : D) : Type 0 where
  pub out : IfOk result (λ x. by_depot.out new ≡ by_depot.out old ++ lent x)
  pub given_back : OnErr result (by_depot.out new ≡ by_depot.out old)
  pub tells_same : by_depot.tells new ≡ by_depot.tells old
  pub stays : OnOk result ((place : Shelf) → by_depot.stored new place ≡ by_depot.stored old place)
  pub stored : by_depot.tells old ≡ true → SameRecords (files_of (by_depot.stored old)) (files_of (by_depot.stored new))
  pub later : (who : RoleId) → by_depot.faults old who ≤ by_depot.faults new who
  pub others : (who : RoleId) → (result ≡ Err (open_stop.StoreFault who) → ⊥)
      → by_depot.faults new who ≡ by_depot.faults old who
  pub apart : (who : RoleId) → (who ≡ me → ⊥) → StaysFor by_depot old new who
