-- The roles of a cluster.
use Rattle.std.specs.Prelude.{ℕ}
use Rattle.cx_base.specs.declared.cluster.Cluster.{Cluster}
use Rattle.cx_base.specs.declared.role.Kind.{Kind}
use Rattle.cx_base.specs.declared.role.Kind.TheVariants.{Client, Batcher, Leader, Proxy, Acceptor, Matchmaker, Replica, Unbatcher, Reader}
use Rattle.cx_base.specs.declared.role.Kind.TheVariants.{Replacer}

-- how many roles of a kind there are
abbrev pub count_of : Cluster → Kind → ℕ
count_of c Client = c.clients
count_of c Batcher = c.batchers
count_of c Leader = c.leaders
count_of c Proxy = c.proxies
count_of c Acceptor = c.acceptors
count_of c Matchmaker = c.pool
count_of c Replica = c.replicas
count_of c Unbatcher = c.unbatchers
count_of c Reader = c.readers
count_of c Replacer = c.replacers
