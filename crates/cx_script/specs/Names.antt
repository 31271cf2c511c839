-- Which names of an event lie in a cluster.
use Rattle.std.specs.Prelude.{ℕ, ◌+◌, ◌*◌, ◌==◌, Bool, true, false, ◌&&◌, not, nat_lt, nat_le, List, length}
use Rattle.cx_base.specs.Prelude.{list_all, count_of, Shape, is_rising, puts_anew}
use Rattle.cx_base.specs.declared.cluster.Cluster.{Cluster}
use Rattle.cx_base.specs.declared.event.Event.{Event}
use Rattle.cx_base.specs.declared.event.Event.TheVariants as event
use Rattle.cx_base.specs.declared.event.Event.TheVariants.{Write, Read, Session, Deliver, Tick, Snap, Crash, Restart}
use Rattle.cx_base.specs.declared.event.Order.{Order}
use Rattle.cx_base.specs.declared.event.Order.TheVariants.{Lead, Change, Collect, Replace, Offer}
use Rattle.cx_base.specs.declared.role.Kind.{Kind}
use Rattle.cx_base.specs.declared.role.Kind.TheVariants.{Client, Batcher, Leader, Proxy, Acceptor, Matchmaker, Replica, Unbatcher, Reader}
use Rattle.cx_base.specs.declared.role.Kind.TheVariants.{Replacer}
use Rattle.cx_base.specs.declared.role.RoleId.{RoleId}

abbrev pub is_client : Kind → Bool
is_client Client = true
is_client Batcher = false
is_client Leader = false
is_client Proxy = false
is_client Acceptor = false
is_client Matchmaker = false
is_client Replica = false
is_client Unbatcher = false
is_client Reader = false
is_client Replacer = false

-- whether it is a role of the cluster, and no client
abbrev pub names_server : Cluster → RoleId → Bool
names_server c role = not (is_client role.kind) && nat_lt role.index (count_of c role.kind)

-- whether it is a role of the cluster that puts its list anew
abbrev pub names_snap : Cluster → RoleId → Bool
names_snap c role = puts_anew role.kind && nat_lt role.index (count_of c role.kind)

-- whether each member of a grid is an acceptor of the cluster
abbrev pub names_members : Cluster → Shape → Bool
names_members c grid = list_all (λ id. nat_lt id c.acceptors) grid.members

-- whether it is a set of the cluster's matchmakers: 2f + 1 of them
abbrev pub names_set : Cluster → List ℕ → Bool
names_set c set = (length set == 2 * c.f + 1) && is_rising set && list_all (λ id. nat_lt id c.pool) set

-- whether it is an order that a leader of the cluster may be given: the members of its grid are acceptors of the cluster
abbrev pub names_order : Cluster → Order → Bool
names_order c (Lead grid) = names_members c grid
names_order c (Change grid) = names_members c grid
names_order c Collect = true
names_order c (Replace set) = false
names_order c (Offer to slot) = false

-- whether a replica of the cluster may be ordered to offer another one the values from this slot on
abbrev pub names_offer : Cluster → (replica to slot : ℕ) → Bool
names_offer c replica to slot =
    nat_lt replica c.replicas && nat_lt to c.replicas && not (to == replica) && nat_le slot 1099511627776

-- whether each name of an event lies in the cluster, each role that ticks, crashes or restarts is no client, each that snaps puts its list
-- anew, and each offer is to another replica, from a slot up to 2^40 on
abbrev pub names_event : Cluster → Event → Bool
names_event c (Write command batcher) = nat_lt command.client c.clients && nat_lt batcher c.batchers
names_event c (Read client seq floor reader replica key) = nat_lt client c.clients && nat_lt reader c.readers && nat_lt replica c.replicas
names_event c (Session client seq floor replica key) = nat_lt client c.clients && nat_lt replica c.replicas
names_event c (Deliver number cut) = true
names_event c (Tick role) = names_server c role
names_event c (event.Order leader order cut) = nat_lt leader c.leaders && names_order c order
names_event c (event.Replace replacer set cut) = nat_lt replacer c.replacers && names_set c set
names_event c (event.Offer replica to slot) = names_offer c replica to slot
names_event c (Snap role cut) = names_snap c role
names_event c (Crash role) = names_server c role
names_event c (Restart role) = names_server c role
