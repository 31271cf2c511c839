use Rattle.cx_model.specs.Prelude.{[], refl, acceptor_rules, batcher_rules, leader_rules, matchmaker_rules, proxy_rules, reader_rules}
use Rattle.cx_model.specs.Prelude.{replacer_rules, replica_rules, unbatcher_rules, BatcherIn, LeaderIn, ProxyIn, ReplicaIn, ReaderIn}
use Rattle.cx_model.specs.Prelude.{ReplacerIn, plain, start}
use Rattle.cx_base.specs.declared.role.Kind.TheVariants as kind
use Rattle.cx_world.specs.World.{HasKind, SeatLists}
use Rattle.cx_world.proofs.ByKind.{by_kind}
use Rattle.cx_world.proofs.Open.{no_client, opened_kind}
use Rattle.cx_world.proofs.world.open_seats.Goals as goal

pub returns : goal.returns
returns c =
    let cluster = c.args.cluster.now in
    let batchers = c.in_ok-open_all in
    let leaders = c.in_ok-open_all-2 in
    let proxies = c.in_ok-open_all-3 in
    let acceptors = c.in_ok-open_all-4 in
    let matchmakers = c.in_ok-open_all-5 in
    let replicas = c.in_ok-open_all-6 in
    let unbatchers = c.in_ok-open_all-7 in
    let readers = c.in_ok-open_all-8 in
    let replacers = c.in_ok-open_all-9 in
    let lists : SeatLists = record {
      batchers = batchers.field-0.items;
      leaders = leaders.field-0.items;
      proxies = proxies.field-0.items;
      acceptors = acceptors.field-0.items;
      matchmakers = matchmakers.field-0.items;
      replicas = replicas.field-0.items;
      unbatchers = unbatchers.field-0.items;
      readers = readers.field-0.items;
      replacers = replacers.field-0.items;
    } in
    record {
      each = by_kind (λ k. HasKind cluster (start cluster).roles [] lists k) (no_client cluster) (opened_kind batcher_rules BatcherIn
          cluster kind.Batcher batchers.field-0.items refl batchers.ensures.count batchers.ensures.fresh batchers.ensures.seats)
          (opened_kind leader_rules LeaderIn cluster kind.Leader leaders.field-0.items refl leaders.ensures.count leaders.ensures.fresh
          leaders.ensures.seats)
          (opened_kind proxy_rules ProxyIn cluster kind.Proxy proxies.field-0.items refl proxies.ensures.count proxies.ensures.fresh
          proxies.ensures.seats)
          (opened_kind acceptor_rules plain cluster kind.Acceptor acceptors.field-0.items refl acceptors.ensures.count
          acceptors.ensures.fresh acceptors.ensures.seats)
          (opened_kind matchmaker_rules plain cluster kind.Matchmaker matchmakers.field-0.items refl matchmakers.ensures.count
          matchmakers.ensures.fresh matchmakers.ensures.seats)
          (opened_kind replica_rules ReplicaIn cluster kind.Replica replicas.field-0.items refl replicas.ensures.count
          replicas.ensures.fresh replicas.ensures.seats)
          (opened_kind unbatcher_rules plain cluster kind.Unbatcher unbatchers.field-0.items refl unbatchers.ensures.count
          unbatchers.ensures.fresh unbatchers.ensures.seats)
          (opened_kind reader_rules ReaderIn cluster kind.Reader readers.field-0.items refl readers.ensures.count readers.ensures.fresh
          readers.ensures.seats)
          (opened_kind replacer_rules ReplacerIn cluster kind.Replacer replacers.field-0.items refl replacers.ensures.count
          replacers.ensures.fresh replacers.ensures.seats);
    }
