use Rattle.cx_base.proofs.Common.{not, get_or, get_or-drop, add-zero, arith, sym, not-true, take_rest, length-drop, position-Some}
use Rattle.cx_script.proofs.Splitting.{from_start, of_blanks}
use Rattle.cx_script.specs.Words.{is_blank}
use Rattle.cx_script.proofs.split.trimmed.Goals as goal

pub returns-in_err-start-clause-none : goal.returns-in_err-start-clause-none
returns-in_err-start-clause-none c = rw c.from_residual.ensures (of_blanks c.args.line.now (sym c.in_err-start.ensures))

pub returns-clause-same : goal.returns-clause-same
returns-clause-same c =
    rw (take_rest c.args.line.now c.in_ok-start.start) (from_start c.args.line.now c.in_ok-start.start (sym c.in_ok-start.ensures))

pub returns-clause-letter : goal.returns-clause-letter
returns-clause-letter c =
    let line = c.args.line.now in
    let start = c.in_ok-start.start in
    let found = position-Some (λ b. not (is_blank b)) line start 0 (sym c.in_ok-start.ensures) in
    rw (take_rest line start, get_or-drop start line 0 0, add-zero start) (not-true (is_blank (get_or line start 0)) found.1)

pub returns-clause-some : goal.returns-clause-some
returns-clause-some c =
    let line = c.args.line.now in
    let start = c.in_ok-start.start in
    let found = position-Some (λ b. not (is_blank b)) line start 0 (sym c.in_ok-start.ensures) in
    rw (take_rest line start) (omega (arith, length-drop start line, found.0))
