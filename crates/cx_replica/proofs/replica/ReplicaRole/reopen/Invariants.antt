use Rattle.cx_model.specs.Prelude.{◌≡◌, false, [], drop, replica_rules, folded_from, refused_from}
use Rattle.cx_replica.proofs.replica.ReplicaRole.reopen.Given as goal

abbrev pub invariant-loop-index : goal.invariant-loop-index
invariant-loop-index l = record {
  cluster : l.replica.cluster ≡ l.fn.self.cluster;
  me : l.replica.me ≡ l.fn.self.me;
  live : l.replica.live ≡ false;
  none_early : l.replica.volatile.early ≡ [];
  none_deferred : l.replica.volatile.deferred ≡ [];
  none_fetched : l.replica.volatile.fetched ≡ 0;
  folded : folded_from replica_rules l.replica.durable (drop l.index l.records)
      ≡ folded_from replica_rules l.fn.self.durable l.records;
  refused : refused_from replica_rules l.fn.self.cluster l.fn.self.me l.replica.durable l.index (drop l.index l.records)
      ≡ refused_from replica_rules l.fn.self.cluster l.fn.self.me l.fn.self.durable 0 l.records;
}
