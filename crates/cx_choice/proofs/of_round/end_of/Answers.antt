use Rattle.cx_base.proofs.Common.{not, rules, IsPartitionPoint-from_clause, is_before}
use Rattle.cx_choice.proofs.Grouped.{end_parted, is_end}
use Rattle.cx_choice.proofs.of_round.end_of.Goals as goal

pub returns : goal.returns
returns g c =
    let parted = end_parted c.args.round.now c.args.list.now c.requires in
    let point = IsPartitionPoint-from_clause (λ one. not (is_before c.args.round.now one.round)) c.args.list.now
    _ c.partition_point.ensures.partitioned parted (λ a r q k. search rules) in
    is_end c.args.round.now c.args.list.now c.partition_point.result c.partition_point.ensures.bound point.0 point.1
