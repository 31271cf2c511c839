-- What contracts see of a hosted role, and what its keeper was given.
use Rattle.std.specs.Prelude.{◌≡◌, ℕ, List, [], ◌∷◌, map, Option, None, Some, Result, Ok, Err, slice_get, IsErrOf, IsTrue, OnErr, OnOk}
use Rattle.std.specs.Prelude.{true, option_map}
use Rattle.cx_role.specs.Prelude.{Cluster, RoleId, KeepFault, Failed, NoMemory, names_role, Outcome, Rules, Running, running_after, Letter}
use Rattle.cx_role.specs.Prelude.{Append, KeeperChange}
use Rattle.cx_course.specs.Changing.{StoreChange, changed_by, changes_of}
use Rattle.cx_course.specs.Alike.{AreDistinct}
use Rattle.cx_seat.specs.Changing.{Changing, Refuses}
use Rattle.cx_seat.specs.declared.guest.Guest.{Guest}
use Rattle.cx_seat.specs.declared.guest.Guest.TheVariants as guest
use Rattle.cx_course.specs.Hosted.{Hosted, ClientAt, BatcherAt, LeaderAt, ProxyAt, AcceptorAt, MatchmakerAt, ReplicaAt, UnbatcherAt}
use Rattle.cx_course.specs.Hosted.{ReaderAt, ReplacerAt, Step, is_live_role, kind_at, name_of}

-- the hosted role
abbrev pub hosted_of : {K : Type 0} → Guest K → Hosted
hosted_of (guest.Client role) = ClientAt role
hosted_of (guest.Batcher role) = BatcherAt role
hosted_of (guest.Leader role keeper) = LeaderAt role
hosted_of (guest.Proxy role) = ProxyAt role
hosted_of (guest.Acceptor role keeper) = AcceptorAt role
hosted_of (guest.Matchmaker role keeper) = MatchmakerAt role
hosted_of (guest.Replica role keeper) = ReplicaAt role
hosted_of (guest.Unbatcher role) = UnbatcherAt role
hosted_of (guest.Reader role keeper) = ReaderAt role
hosted_of (guest.Replacer role keeper) = ReplacerAt role

-- the keeper of its records, where it has any
abbrev pub keeper_of : {K : Type 0} → Guest K → Option K
keeper_of (guest.Leader role keeper) = Some keeper
keeper_of (guest.Acceptor role keeper) = Some keeper
keeper_of (guest.Matchmaker role keeper) = Some keeper
keeper_of (guest.Replica role keeper) = Some keeper
keeper_of (guest.Reader role keeper) = Some keeper
keeper_of (guest.Replacer role keeper) = Some keeper
keeper_of other = None

abbrev pub hosted_in : {K : Type 0} → List (Guest K) → List Hosted
hosted_in guests = map hosted_of guests

abbrev pub who : {K : Type 0} → Guest K → RoleId
who h = name_of (hosted_of h)

-- a role of the cluster, of the kind that its name says, that may take a step
pub record IsGuestReady {K : Type 0} (c : Cluster) (h : Guest K) : Type 0 where
  pub live : IsTrue (is_live_role (hosted_of h))
  pub named : IsTrue (names_role c (who h))
  pub kind : kind_at (hosted_of h) ≡ (who h).kind

-- roles of the cluster that may take steps, no two of one name
pub record AreReady {K : Type 0} (c : Cluster) (guests : List (Guest K)) : Type 0 where
  pub each : (i : ℕ) (h : Guest K) → slice_get guests i ≡ Some h → IsGuestReady c h
  pub distinct : AreDistinct (hosted_in guests)

-- ---- what a keeper was given

-- these changes were made, one after the other, and each was answered Ok
abbrev pub AreChangesMade : {K : Type 0} → Changing K → List KeeperChange → K → K → Type 0
AreChangesMade gives [] old new = new ≡ old
AreChangesMade {K} gives (change ∷ rest) old new = (mid : K) × gives old change (Ok tt) mid × AreChangesMade gives rest mid new

abbrev pub Grows : {K : Type 0} → Changing K → List KeeperChange → Option K → Option K → Type 0
Grows gives changes None None = Unit {0}
Grows gives changes None (Some new) = ⊥
Grows gives changes (Some old) None = ⊥
Grows gives changes (Some old) (Some new) = AreChangesMade gives changes old new

-- a role's store has had the role's changes among these
abbrev pub GuestGrows : {K : Type 0} → Changing K → List StoreChange → Guest K → Guest K → Type 0
GuestGrows gives kept old new = Grows gives (changes_of (who old) kept) (keeper_of old) (keeper_of new)

-- a keeper, if there is one, keeps what it kept: it is as it was, or ran out of memory in a change
abbrev pub Rests : {K : Type 0} → Changing K → Option K → Option K → Type 0
Rests gives None None = Unit {0}
Rests gives None (Some new) = ⊥
Rests gives (Some old) None = ⊥
Rests gives (Some old) (Some new) = Refuses gives old new

-- this change was answered Failed
abbrev pub HasChangeFailed : {K : Type 0} → Changing K → Option KeeperChange → K → K → Type 0
HasChangeFailed gives None old new = ⊥
HasChangeFailed gives (Some change) old new = gives old change (Err Failed) new

-- there is a keeper, and this change of it failed
abbrev pub HasChangeFailedIn : {K : Type 0} → Changing K → Option KeeperChange → Option K → Option K → Type 0
HasChangeFailedIn gives next None new = ⊥
HasChangeFailedIn gives next (Some old) None = ⊥
HasChangeFailedIn gives next (Some old) (Some new) = HasChangeFailed gives next old new

-- What a role does that is to make a step of this row, in the words of its seat: it makes it; or memory runs out, and
-- its keeper keeps what it kept; or the append of the row's record fails. A role that can take no step any more may
-- have another name.
pub record MakesRow {K D V : Type 0} (gives : Changing K) (rules : Rules D V) (before : Running D V) (row : Outcome V)
    (result : Result (Unit {0}) KeepFault) (after : Running D V) (old new : K) (sent : List Letter) : Type 0 where
  pub state : OnOk result (after ≡ running_after rules before row)
  pub kept : OnOk result (AreChangesMade gives (changes_of before.me (changed_by before.me (option_map Append row.kept))) old new)
  pub sends : OnOk result (sent ≡ row.sends)
  pub rests : IsErrOf result NoMemory → Refuses gives old new
  pub failed : IsErrOf result Failed → HasChangeFailed gives
      (slice_get (changes_of before.me (changed_by before.me (option_map Append row.kept))) 0) old new
  pub name : OnErr result (after.live ≡ true → after.me ≡ before.me)

-- the keeper of a role, if it has one, keeps what it kept
abbrev pub KeeperRests : {K : Type 0} → Changing K → Guest K → Guest K → Type 0
KeeperRests gives old new = Rests gives (keeper_of old) (keeper_of new)

-- the first of a role's changes among these failed
abbrev pub KeeperFails : {K : Type 0} → Changing K → List StoreChange → Guest K → Guest K → Type 0
KeeperFails gives kept old new = HasChangeFailedIn gives (slice_get (changes_of (who old) kept) 0) (keeper_of old) (keeper_of new)

-- What a hosted role does that is to make this step: it makes it, and may go on; or memory runs out, and its keeper
-- keeps what it kept; or the change of its store fails.
pub record Performs {K : Type 0} (gives : Changing K) (step : Step) (result : Result (Unit {0}) KeepFault)
    (old new : Guest K) (sent : List Letter) (printed : List ℕ) : Type 0 where
  pub role : OnOk result (hosted_of new ≡ step.next)
  pub kept : OnOk result (GuestGrows gives step.kept old new)
  pub sends : OnOk result (sent ≡ step.sends)
  pub text : OnOk result (printed ≡ step.text)
  pub live : OnOk result (IsTrue (is_live_role (hosted_of new)))
  pub rests : IsErrOf result NoMemory → KeeperRests gives old new
  pub failed : IsErrOf result Failed → KeeperFails gives step.kept old new
