use Rattle.std.proofs.Common.{Ok, ap}
use Rattle.cx_cluster.proofs.Bounds.{same_cluster}
use Rattle.cx_cluster.specs.Reading.{cluster_at}
use Rattle.cx_cluster.proofs.header.cluster_of.Goals as goal

pub returns : goal.returns
unfolding cluster_at
returns c = rw (
  c.in_ok-f.ensures.2,
  c.in_ok-leaders.ensures.2,
  c.in_ok-proxies.ensures.2,
  c.in_ok-acceptors.ensures.2,
  c.in_ok-replicas.ensures.2,
  c.in_ok-batchers.ensures.2,
  c.in_ok-unbatchers.ensures.2,
  c.in_ok-readers.ensures.2,
  c.in_ok-clients.ensures.2,
  c.in_ok-batch.ensures.2,
  ← c.in_ok-base_port.ensures,
  c.in_ok-pool.ensures.2,
  c.in_ok-replacers.ensures.2,
  c.in_ok-one_entry_a_grid.ensures.2,
  c.in_ok-own_proxies.ensures.2,
  c.in_ok-keep_sets.ensures.2,
) (ap Ok (same_cluster _ _ _))
