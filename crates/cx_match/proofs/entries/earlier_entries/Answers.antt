use Rattle.cx_role.proofs.Common.{◌≡◌, arith, rules, is_before, Entry}
use Rattle.cx_field.proofs.ListLaws.{entries_filter}
use Rattle.cx_model.specs.Matchmaker.{entries_before}
use Rattle.cx_match.proofs.EntryLaws.{at_most_255}
use Rattle.cx_match.proofs.entries.earlier_entries.Goals as goal

pub from_vec-requires : goal.from_vec-requires
from_vec-requires c =
    let fit = entries_filter (λ (e : Entry). is_before e.round c.args.round) c.args.entries.now c.requires in
    let list : c.in_ok-list.list.items ≡ entries_before c.args.round c.args.entries.now = search rules in
    let few = rw (← list) at (at_most_255 (entries_before c.args.round c.args.entries.now) fit) in
    (search rules, (omega arith, omega (arith, few, c.in_ok-list.list.ok.0)))

pub returns-clause-fit : goal.returns-clause-fit
returns-clause-fit c =
    let fit = entries_filter (λ (e : Entry). is_before e.round c.args.round) c.args.entries.now c.requires in
    let list : c.in_ok-list.list.items ≡ entries_before c.args.round c.args.entries.now = search rules in
    rw (c.from_vec.ensures, list) fit
