use Rattle.cx_base.proofs.Common.{rules, nat_lt, IsPartitionPoint-from_clause}
use Rattle.cx_table.proofs.Notes.{parted}
use Rattle.cx_table.proofs.entry.place_of.Goals as goal

pub returns-clause-place : goal.returns-clause-place
returns-clause-place c = IsPartitionPoint-from_clause (λ a. nat_lt a.seq c.args.seq) c.args.notes.now c.partition_point.result
    c.partition_point.ensures.partitioned (parted c.args.seq c.args.notes.now c.requires) (λ a r f k. search rules)
