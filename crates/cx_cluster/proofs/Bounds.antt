-- Two clusters with the same counts are the same: a bound has one proof.
use Rattle.std.proofs.Common.{◌≡◌, ◌≤◌, ◌+◌, ◌*◌, ℕ, Bool, Option, ap}
use Rattle.std.proofs.Math.Bridge.{le_prop}
use Rattle.cx_base.specs.declared.cluster.Cluster.{Cluster}

pub record Counts : Type 0 where
  pub f : ℕ
  pub leaders : ℕ
  pub proxies : ℕ
  pub acceptors : ℕ
  pub replicas : ℕ
  pub batchers : ℕ
  pub unbatchers : ℕ
  pub readers : ℕ
  pub clients : ℕ
  pub batch : ℕ
  pub base_port : Option ℕ
  pub pool : ℕ
  pub replacers : ℕ
  pub one_entry_a_grid : Bool
  pub own_proxies : Bool
  pub keep_sets : Bool

pub record Bounds (c : Counts) : Type 0 where
  pub f_fits : c.f ≤ 3
  pub some_leader : 1 ≤ c.leaders
  pub leaders_fit : c.leaders ≤ 8
  pub some_proxy : 1 ≤ c.proxies
  pub proxies_fit : c.proxies ≤ 16
  pub some_acceptor : 1 ≤ c.acceptors
  pub acceptors_fit : c.acceptors ≤ 64
  pub some_replicas : c.f + 1 ≤ c.replicas
  pub replicas_fit : c.replicas ≤ 8
  pub some_batcher : 1 ≤ c.batchers
  pub batchers_fit : c.batchers ≤ 8
  pub some_unbatcher : 1 ≤ c.unbatchers
  pub unbatchers_fit : c.unbatchers ≤ 8
  pub some_reader : 1 ≤ c.readers
  pub readers_fit : c.readers ≤ 8
  pub some_client : 1 ≤ c.clients
  pub clients_fit : c.clients ≤ 64
  pub some_batch : 1 ≤ c.batch
  pub batch_fits : c.batch ≤ 8
  pub some_pool : 2 * c.f + 1 ≤ c.pool
  pub pool_fits : c.pool ≤ 64
  pub replacers_fit : c.replacers ≤ 4

abbrev pub cluster : (c : Counts) → Bounds c → Cluster
cluster c b = record {
  f = c.f;
  leaders = c.leaders;
  proxies = c.proxies;
  acceptors = c.acceptors;
  replicas = c.replicas;
  batchers = c.batchers;
  unbatchers = c.unbatchers;
  readers = c.readers;
  clients = c.clients;
  batch = c.batch;
  base_port = c.base_port;
  pool = c.pool;
  replacers = c.replacers;
  one_entry_a_grid = c.one_entry_a_grid;
  own_proxies = c.own_proxies;
  keep_sets = c.keep_sets;
  f_fits = b.f_fits;
  some_leader = b.some_leader;
  leaders_fit = b.leaders_fit;
  some_proxy = b.some_proxy;
  proxies_fit = b.proxies_fit;
  some_acceptor = b.some_acceptor;
  acceptors_fit = b.acceptors_fit;
  some_replicas = b.some_replicas;
  replicas_fit = b.replicas_fit;
  some_batcher = b.some_batcher;
  batchers_fit = b.batchers_fit;
  some_unbatcher = b.some_unbatcher;
  unbatchers_fit = b.unbatchers_fit;
  some_reader = b.some_reader;
  readers_fit = b.readers_fit;
  some_client = b.some_client;
  clients_fit = b.clients_fit;
  some_batch = b.some_batch;
  batch_fits = b.batch_fits;
  some_pool = b.some_pool;
  pool_fits = b.pool_fits;
  replacers_fit = b.replacers_fit;
}

Bounds-prop : (c : Counts) → IsProp (Bounds c)
Bounds-prop c = hlevel le_prop

pub same_cluster : (c : Counts) (a b : Bounds c) → cluster c a ≡ cluster c b
same_cluster c a b = ap (cluster c) (Bounds-prop c a b)
