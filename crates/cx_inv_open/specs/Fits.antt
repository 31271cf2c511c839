-- What is so of changes of stores at a moment, the newest first: each is one that its role could have made after the earlier ones. And what
-- datagrams and running roles must say for that.
use Rattle.std.specs.Prelude.{◌≡◌, ℕ, ◌+◌, ◌<◌, ◌≤◌, Bool, true, List, [], ◌∷◌, Option, None, Some}
use Rattle.cx_model.specs.Prelude.{list_all, Cluster, Command, Placed, Value, Kind, RoleId, floor_fits, commands_of, Vote, Letter}
use Rattle.cx_model.specs.Prelude.{KeptRecord, Written, Record, Msg, acceptor_rules, leader_rules, matchmaker_rules, Member, names_value}
use Rattle.cx_model.specs.Prelude.{reader_rules, replacer_rules, replica_rules, IsFit, refused, State, LeaderIn, ReplicaIn}
use Rattle.cx_base.specs.declared.role.Kind.TheVariants as kind
use Rattle.cx_letter.specs.declared.input.Written.TheVariants as written
use Rattle.cx_letter.specs.declared.message.Msg.TheVariants as msg
use Rattle.cx_inv_run.specs.States.{durable_of, log_in}

-- whether each command of these values tells a floor that fits its number
abbrev pub has_fitting_floors : List Value → Bool
has_fitting_floors values = list_all (λ (v : Value). list_all (λ (k : Command). floor_fits k.seq k.floor) (commands_of v)) values

-- A role of this kind, with these changes before, could have appended this record, and its list may end with it; or it opens from the
-- renewed list, a replica if the floors that it was told fit.
abbrev pub FitsAs : Cluster → RoleId → Written → List KeptRecord → Kind → Type 0
FitsAs c me (written.Record r) history kind.Leader = IsFit leader_rules c me (durable_of leader_rules me history) (Some r)
FitsAs c me (written.Record r) history kind.Acceptor = IsFit acceptor_rules c me (durable_of acceptor_rules me history) (Some r)
FitsAs c me (written.Record r) history kind.Matchmaker = IsFit matchmaker_rules c me (durable_of matchmaker_rules me history) (Some r)
FitsAs c me (written.Record r) history kind.Replica = IsFit replica_rules c me (durable_of replica_rules me history) (Some r)
FitsAs c me (written.Record r) history kind.Reader = IsFit reader_rules c me (durable_of reader_rules me history) (Some r)
FitsAs c me (written.Record r) history kind.Replacer = IsFit replacer_rules c me (durable_of replacer_rules me history) (Some r)
FitsAs c me (written.Snap first) history kind.Replica = has_fitting_floors (log_in history me.index) ≡ true
    → refused replica_rules c me (replica_rules.renewed (durable_of replica_rules me history) first) ≡ None
FitsAs c me (written.Snap first) history kind.Acceptor =
    refused acceptor_rules c me (acceptor_rules.renewed (durable_of acceptor_rules me history) first) ≡ None
FitsAs c me (written.Snap first) history kind.Reader =
    refused reader_rules c me (reader_rules.renewed (durable_of reader_rules me history) first) ≡ None
FitsAs c me what history other = ⊥

-- the same of a new record, if there is one, and of each change with the earlier ones
abbrev pub NewFits : Cluster → List KeptRecord → RoleId → Option Record → Type 0
NewFits c history me None = Unit {0}
NewFits c history me (Some r) = FitsAs c me (written.Record r) history me.kind

abbrev pub AllFit : Cluster → List KeptRecord → Type 0
AllFit c [] = Unit {0}
AllFit c (k ∷ ks) = FitsAs c k.role k.what ks k.role.kind × AllFit c ks

-- slots end at 2^40
abbrev pub IsSlot : ℕ → Type 0
IsSlot s = s < 1099511627776

-- what is asked or reported lies in the window of 32 slots from the chosen watermark that is sent with it
abbrev pub InWindow : Msg → Type 0
InWindow (msg.Propose i g s cw v) = (s < cw + 32) × IsSlot s
InWindow (msg.Phase2A i s cw v) = s < cw + 32
InWindow (msg.Phase1B i cw votes) = (u : Vote) → Member u votes → u.slot < cw + 32
InWindow other = Unit {0}

-- a leader's next slot, with its chosen watermark
abbrev pub IsNextSlot : ℕ → ℕ → Type 0
IsNextSlot next cw = (next ≤ cw + 32) × (next ≤ 1099511627776)

-- the values that wait at a replica name clients of the cluster
abbrev pub AreNamed : Cluster → List Placed → Type 0
AreNamed c early = (p : Placed) → Member p early → names_value c p.value ≡ true

abbrev pub InRange : Cluster → State → Type 0
InRange c (LeaderIn v) = IsNextSlot v.next v.cw
InRange c (ReplicaIn v) = AreNamed c v.early
InRange c other = Unit {0}

pub record Fitting (c : Cluster) (history : List KeptRecord) (sent : List Letter) (states : RoleId → State) : Type 0 where
  pub fit : AllFit c history
  pub says : (d : Letter) → Member d sent → InWindow d.msg
  pub running : (me : RoleId) → InRange c (states me)
