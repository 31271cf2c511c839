-- The port of each role, and what a link is asked to send.
use Rattle.std.specs.Prelude.{ℕ, ◌+◌, ◌%◌, List, map, Option, None, Some, filter}
use Rattle.cx_role.specs.Prelude.{Cluster, Kind, Client, Batcher, Leader, Proxy, Acceptor, Matchmaker, Replica, Unbatcher, Reader, Replacer}
use Rattle.cx_role.specs.Prelude.{RoleId, Letter, names_role}
use Rattle.cx_msg.specs.Datagrams.{spelling}
use Rattle.cx_edge.specs.Link.{Bind, Sending}

-- how many roles come before those of a kind, by the kinds' codes
abbrev pub roles_before : Cluster → Kind → ℕ
roles_before c Client = 0
roles_before c Batcher = c.clients
roles_before c Leader = c.clients + c.batchers
roles_before c Proxy = c.clients + c.batchers + c.leaders
roles_before c Acceptor = c.clients + c.batchers + c.leaders + c.proxies
roles_before c Matchmaker = c.clients + c.batchers + c.leaders + c.proxies + c.acceptors
roles_before c Replica = c.clients + c.batchers + c.leaders + c.proxies + c.acceptors + c.pool
roles_before c Unbatcher = c.clients + c.batchers + c.leaders + c.proxies + c.acceptors + c.pool + c.replicas
roles_before c Reader =
    c.clients + c.batchers + c.leaders + c.proxies + c.acceptors + c.pool + c.replicas + c.unbatchers
roles_before c Replacer =
    c.clients + c.batchers + c.leaders + c.proxies + c.acceptors + c.pool + c.replicas + c.unbatchers + c.readers

abbrev pub first_port : Option ℕ → ℕ
first_port None = 0
first_port (Some port) = port

-- the cluster's first port and a role's place among all roles, by kind and index; a port has 16 bits
unfoldable pub port_of : Cluster → RoleId → ℕ
port_of c r = (first_port c.base_port + roles_before c r.kind + r.index) % 65536

abbrev pub bind_of : Cluster → RoleId → Bind
bind_of c r = record { role = r; port = port_of c r }

abbrev pub sending_of : Cluster → Letter → Sending
sending_of c d = record { from = d.from; port = port_of c d.to; bytes = spelling d }

-- What the link is asked to send, each datagram as its bytes; a role outside the cluster has no port.
abbrev pub sendings : Cluster → List Letter → List Sending
sendings c letters = map (sending_of c) (filter (λ (d : Letter). names_role c d.to) letters)
