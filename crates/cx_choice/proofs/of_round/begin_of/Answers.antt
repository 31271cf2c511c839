use Rattle.cx_base.proofs.Common.{rules, IsPartitionPoint-from_clause, is_before}
use Rattle.cx_choice.proofs.Grouped.{begin_parted}
use Rattle.cx_choice.proofs.of_round.begin_of.Goals as goal

pub returns : goal.returns
returns g c =
    let parted = begin_parted c.args.round.now c.args.list.now c.requires in
    let point = IsPartitionPoint-from_clause (λ one. is_before one.round c.args.round.now) c.args.list.now
    _ c.partition_point.ensures.partitioned parted (λ a r q k. search rules) in
    record { inside = c.partition_point.ensures.bound; before = point.0; behind = point.1 }
