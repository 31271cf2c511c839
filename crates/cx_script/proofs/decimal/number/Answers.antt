use Rattle.cx_base.proofs.Common.{◌≡◌, ◌==◌, ◌∙◌, ◌+◌, ◌<◌, length, drop, get_or, arith, sym, ap, false, nat_tests, drop_more, drop_all}
use Rattle.cx_script.proofs.Digits.{after, all_digits, stopped, ended}
use Rattle.cx_script.proofs.decimal.number.Goals as goal

pub returns-in_err-number : goal.returns-in_err-number
returns-in_err-number c =
    let word = c.args.word.now in
    let i = c.loop-byte.byte-index in
    let here : i < length word = omega arith in
    let some : 0 < length word = omega arith in
    rw c.from_residual.ensures (sym (all_digits word some ∙ sym c.loop-byte.invariant.decided ∙ ap (after c.loop-byte.number)
    (drop_more word i 0 here) ∙ stopped c.loop-byte.number (get_or word i 0) (drop (i + 1) word) c.in_err-number.ensures))

pub returns : goal.returns
returns c =
    let word = c.args.word.now in
    let i = c.loop-byte.byte-index in
    let empty : (length word == 0) ≡ false = sym c.if-is_empty.ensures in
    let some : 0 < length word = grind (arith, nat_tests) in
    sym (all_digits word some ∙ sym c.loop-byte.invariant.decided ∙ ap (after c.loop-byte.number) (drop_all i word c.loop-byte-test.false)
    ∙ ended c.loop-byte.number c.loop-byte.invariant.fits)
