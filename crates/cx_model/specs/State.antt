-- What a role has taken since it was opened, whatever its kind, and the states of all roles by name.
use Rattle.std.specs.Prelude.{Option, None, Some, if◌then◌else◌}
use Rattle.cx_letter.specs.Prelude.{Cluster, Kind, RoleId, same_role}
use Rattle.cx_base.specs.declared.role.Kind.TheVariants as kind
use Rattle.cx_model.specs.Batcher.{BatcherVolatile, batcher_rules}
use Rattle.cx_model.specs.Leader.{LeaderVolatile, leader_rules}
use Rattle.cx_model.specs.Proxy.{ProxyVolatile, proxy_rules}
use Rattle.cx_model.specs.Reader.{ReaderVolatile, reader_rules}
use Rattle.cx_model.specs.Replacer.{ReplacerVolatile, replacer_rules}
use Rattle.cx_model.specs.Replica.{ReplicaVolatile, replica_rules}

-- the volatile part of a role; `Down` where it isn't running or isn't there, `Plain` where it has none
pub data State : Type 0 where
  Down : State
  Plain : State
  BatcherIn : BatcherVolatile → State
  LeaderIn : LeaderVolatile → State
  ProxyIn : ProxyVolatile → State
  ReplicaIn : ReplicaVolatile → State
  ReaderIn : ReaderVolatile → State
  ReplacerIn : ReplacerVolatile → State

-- an acceptor, a matchmaker, an unbatcher
abbrev pub plain : Unit {0} → State
plain v = Plain

abbrev pub state_of : {V : Type 0} → (V → State) → Option V → State
state_of make None = Down
state_of make (Some v) = make v

-- the volatile part of a role of each kind, where it runs
abbrev pub plain_volatile : State → Option (Unit {0})
plain_volatile Plain = Some tt
plain_volatile other = None

abbrev pub batcher_volatile : State → Option BatcherVolatile
batcher_volatile (BatcherIn v) = Some v
batcher_volatile other = None

abbrev pub leader_volatile : State → Option LeaderVolatile
leader_volatile (LeaderIn v) = Some v
leader_volatile other = None

abbrev pub proxy_volatile : State → Option ProxyVolatile
proxy_volatile (ProxyIn v) = Some v
proxy_volatile other = None

abbrev pub replica_volatile : State → Option ReplicaVolatile
replica_volatile (ReplicaIn v) = Some v
replica_volatile other = None

abbrev pub reader_volatile : State → Option ReaderVolatile
reader_volatile (ReaderIn v) = Some v
reader_volatile other = None

abbrev pub replacer_volatile : State → Option ReplacerVolatile
replacer_volatile (ReplacerIn v) = Some v
replacer_volatile other = None

-- a role that was just opened over an empty store
abbrev pub fresh_state : Cluster → Kind → State
fresh_state c kind.Client = Down
fresh_state c kind.Batcher = BatcherIn (batcher_rules.fresh c batcher_rules.empty)
fresh_state c kind.Leader = LeaderIn (leader_rules.fresh c leader_rules.empty)
fresh_state c kind.Proxy = ProxyIn (proxy_rules.fresh c proxy_rules.empty)
fresh_state c kind.Acceptor = Plain
fresh_state c kind.Matchmaker = Plain
fresh_state c kind.Replica = ReplicaIn (replica_rules.fresh c replica_rules.empty)
fresh_state c kind.Unbatcher = Plain
fresh_state c kind.Reader = ReaderIn (reader_rules.fresh c reader_rules.empty)
fresh_state c kind.Replacer = ReplacerIn (replacer_rules.fresh c replacer_rules.empty)

-- the states with another one of a role
unfoldable pub set_state : RoleId → State → (RoleId → State) → RoleId → State
set_state me s states a = if same_role a me then s else states a
