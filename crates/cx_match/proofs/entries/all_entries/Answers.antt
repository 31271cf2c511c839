use Rattle.cx_role.proofs.Common.{arith, rules}
use Rattle.cx_match.proofs.EntryLaws.{at_most_255}
use Rattle.cx_match.proofs.entries.all_entries.Goals as goal

pub from_vec-requires : goal.from_vec-requires
from_vec-requires c =
    let few = rw (← c.in_ok-copy_all.ensures) at (at_most_255 c.args.entries.now c.requires) in
    (search rules, (omega arith, omega (arith, few, c.in_ok-copy_all.field-0.ok.0)))
