use Rattle.cx_base.proofs.Common.{◌≡◌, ◌==◌, ◌<◌, length, arith, false, sym, nat_tests, option_copied}
use Rattle.cx_script.proofs.Schedules.{line_first}
use Rattle.cx_explain.proofs.lines.next_line.Goals as goal

pub returns-clause-some : goal.returns-clause-some
returns-clause-some c =
    let bytes = c.args.bytes.now in
    let empty : (length bytes == 0) ≡ false = sym c.if-is_empty.ensures in
    let some : 0 < length bytes = grind (arith, nat_tests) in
    rw (c.without_return.ensures, c.or_empty.ensures)
    (line_first bytes c.first_part.result.0.now (option_copied c.first_part.result.1) some c.first_part.ensures.parts)
