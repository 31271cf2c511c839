-- A role with its records, running or not.
use Rattle.std.specs.Prelude.{◌≡◌, ℕ, Bool, true, false, IsTrue, List, [], Option, None, Some, slice_get, slice_index_or, slice_set}
use Rattle.std.specs.Option.{ForSome}
use Rattle.cx_model.specs.Prelude.{Cluster, Letter, Record, KeptRecord, Written, Kind, names_role, list_of, Act, Give, Snap, Stop, Wake}
use Rattle.cx_model.specs.Prelude.{Cut, Whole, Torn, Kept, RoleId, Why, Rules, Running, IsFit, folded, refused, Turn, turn}
use Rattle.cx_letter.specs.declared.input.Written.TheVariants as written
use Rattle.cx_model.specs.Lists.{list_with}
use Rattle.cx_base.specs.declared.why.Why.TheVariants as why
use Rattle.cx_world.specs.LastKeeper.{LastState, first_slot_of, list_kept}

-- the word of a step that was cut in the change of its store
abbrev pub why_of_cut : Cut → Why
why_of_cut Whole = why.Down
why_of_cut Torn = why.Torn
why_of_cut Kept = why.Kept

-- a role of the cluster, of its rules' kind
pub record IsRoleOfRules {D V : Type 0} (rules : Rules D V) (c : Cluster) (who : RoleId) : Type 0 where
  pub kind : who.kind ≡ rules.kind
  pub named : IsTrue (names_role c who)

-- a role of a cluster where it runs, and the records that its keeper keeps
pub record Seat (S : Type 0) : Type 0 where
  pub cluster : Cluster
  pub me : RoleId
  pub role : Option S
  pub records : List Record

-- whether an act asks a role to forget
abbrev pub is_snap : Act → Bool
is_snap (Give input cut) = false
is_snap (Snap cut) = true
is_snap Stop = false
is_snap Wake = false

-- such a role's list is never put anew
abbrev pub NeverSnaps : {D V : Type 0} → Rules D V → Type 0
NeverSnaps {D} {V} rules = (c : Cluster) (me : RoleId) (d : D) (v : V) → rules.snap c me d v ≡ None

-- a list that is put anew says from which slot on it has values
abbrev pub SaysFirst : {D V : Type 0} → Rules D V → Type 0
SaysFirst {D} {V} rules = (c : Cluster) (me : RoleId) (d : D) (v : V) (first : ℕ) → rules.snap c me d v ≡ Some first
    → first_slot_of (rules.renewed d first) ≡ first

-- the last change, where it failed, so that the role doesn't know it
abbrev pub unknown : Bool → Option Written → Option Written
unknown true last = None
unknown false last = last

-- A role can be opened, and is then as its list leaves it: as it is, with one record more, or from the list, which was put anew.
abbrev pub Opens : {D V : Type 0} → Rules D V → Running D V → List Record → Option Written → Type 0
Opens rules s rs None = (rules.whole s.durable ≡ true) × (s.durable ≡ folded rules rs)
Opens rules s rs (Some (written.Record r)) = IsFit rules s.cluster s.me s.durable (Some r) × (rules.after s.durable r ≡ folded rules rs)
Opens rules s rs (Some (written.Snap first)) = refused rules s.cluster s.me rs ≡ None

-- a role, running or stopped, as its store leaves it: it may not know the last change, which was cut
pub record StandsByStore {D V : Type 0} (rules : Rules D V) (c : Cluster) (who : RoleId) (store : LastState)
    (s : Running D V) : Type 0 where
  pub cluster : s.cluster ≡ c
  pub me : s.me ≡ who
  pub opens : Opens rules s (list_kept store) (unknown s.live store.last)

-- who runs is there, and is live
abbrev pub IsUp : {S D V : Type 0} → (S → Running D V) → Option S → Type 0
IsUp {S} state role = (s : S) × (role ≡ Some s) × ((state s).live ≡ true)

-- a seat's role, whether it runs, over its store
pub record Sits {S D V : Type 0} (rules : Rules D V) (state : S → Running D V) (c : Cluster) (who : RoleId) (store : LastState)
    (role : Option S) (runs : Bool) : Type 0 where
  pub place : IsRoleOfRules rules c who
  pub stands : ForSome role (λ s. StandsByStore rules c who store (state s))
  pub up : runs ≡ true → IsUp state role

-- the volatile part of the role, where it runs
abbrev pub volatile_of : {S D V : Type 0} → (S → Running D V) → Option S → Option V
volatile_of state None = None
volatile_of state (Some s) = Some ((state s).volatile)

abbrev pub seat_turn : {S D V : Type 0} → Rules D V → (S → Running D V) → Act → Seat S → Turn V
seat_turn rules state act seat = turn rules seat.cluster seat.me (folded rules seat.records) act (volatile_of state seat.role)

-- what an act did at a seat
pub record IsTurned {S D V : Type 0} (rules : Rules D V) (state : S → Running D V) (t : Turn V) (old new : Seat S) (w : Why)
    (r : Option Written) (sent : List Letter) : Type 0 where
  pub why : w ≡ t.why
  pub role : volatile_of state new.role ≡ t.role
  pub kept : r ≡ t.kept
  pub sends : sent ≡ t.sends
  pub records : new.records ≡ list_with rules old.records r
  pub cluster : new.cluster ≡ old.cluster
  pub me : new.me ≡ old.me

abbrev pub TurnsFound : {S D V : Type 0} → Rules D V → (S → Running D V) → Act → ℕ → Option (Seat S) → List (Seat S) → List (Seat S) → Why
    → Option Written → List Letter → Type 0
TurnsFound rules state act i None old new w r sent = (new ≡ old) × (w ≡ why.Down) × (r ≡ None) × (sent ≡ [])
TurnsFound rules state act i (Some seat) old new w r sent = (new ≡ slice_set old i (slice_index_or new i seat))
    × IsTurned rules state (seat_turn rules state act seat) seat (slice_index_or new i seat) w r sent

-- what an act did at one of several seats
abbrev pub TurnsAt : {S D V : Type 0} → Rules D V → (S → Running D V) → Act → ℕ → List (Seat S) → List (Seat S) → Why → Option Written
    → List Letter → Type 0
TurnsAt rules state act i old new w r sent = TurnsFound rules state act i (slice_get old i) old new w r sent

-- a seat of this role, with its list by the history
pub record IsSeat {S D V : Type 0} (rules : Rules D V) (c : Cluster) (who : RoleId) (kept : List KeptRecord) (seat : Seat S) : Type 0 where
  pub cluster : seat.cluster ≡ c
  pub me : seat.me ≡ who
  pub records : seat.records ≡ list_of rules who kept

abbrev pub AreSeats : {S D V : Type 0} → Rules D V → Cluster → Kind → List KeptRecord → List (Seat S) → Type 0
AreSeats {S} rules c k kept seats =
    (i : ℕ) (seat : Seat S) → slice_get seats i ≡ Some seat → IsSeat rules c (record { kind = k; index = i }) kept seat

-- each of them runs and was just opened, over an empty store
abbrev pub AreJustOpened : {S D V : Type 0} → Rules D V → (S → Running D V) → Cluster → List (Seat S) → Type 0
AreJustOpened {S} rules state c seats =
    (i : ℕ) (seat : Seat S) → slice_get seats i ≡ Some seat → volatile_of state seat.role ≡ Some (rules.fresh c rules.empty)
