use Rattle.cx_base.proofs.Common.{◌==◌, ◌+◌, sym, take_rest}
use Rattle.cx_script.proofs.Cuts.{split_none, split_some}
use Rattle.cx_explain.proofs.lines.first_part.Goals as goal

pub returns-in-Some-clause-parts : goal.returns-in-Some-clause-parts
returns-in-Some-clause-parts c = rw (take_rest c.args.bytes.now (c.in-Some.place + 1))
    (split_some (λ b. b == 10) c.args.bytes.now c.in-Some.place (sym c.in-Some.ensures))

pub returns-in-None-clause-parts : goal.returns-in-None-clause-parts
returns-in-None-clause-parts c = split_none (λ b. b == 10) c.args.bytes.now (sym c.in-None.ensures)
