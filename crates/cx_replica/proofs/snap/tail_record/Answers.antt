use Rattle.cx_role.proofs.Common.{◌≡◌, ◌+◌, ◌-◌, ◌≤◌, ◌∙◌, length, take, drop, ap, arith, subst, sym, true, List, length-drop, min, Value}
use Rattle.cx_role.proofs.Common.{value}
use Rattle.cx_letter.specs.declared.kept.Record.TheVariants as kept
use Rattle.cx_letter.specs.Records.{fits as record_fits}
use Rattle.cx_replica.proofs.Snapping.{all_later, next_tail_fit, take_least}
use Rattle.cx_replica.proofs.snap.tail_record.Goals as goal

next : (c : goal.After-from_vec) → c.in_ok-values.values.items ≡ take 32 (drop (c.args.slot - c.args.log.now.first) c.args.log.now.list)
next c =
    let list = c.args.log.now.list in
    let place = c.args.slot - c.args.log.now.first in
    let left = drop place list in
    let so_many : c.held.result - c.args.slot ≡ length left =
    omega (arith, c.held.ensures.held, length-drop place list, c.requires.first, c.requires.within) in
    let only : c.args.slot + c.min.result - c.args.slot ≡ c.min.result = omega arith in
    let count : c.args.slot + c.min.result - c.args.slot ≡ min 32 (length left) = only ∙ c.min.ensures ∙ ap (λ k. min 32 k) so_many in
    c.in_ok-values.ensures.items ∙ ap (λ k. take k left) count ∙ take_least 32 left

pub returns-clause-is : goal.returns-clause-is
returns-clause-is c = ap (λ (vs : List Value). kept.Tail vs) (c.from_vec.ensures ∙ next c)

pub returns-clause-fits : goal.returns-clause-fits
returns-clause-fits c =
    let list = c.args.log.now.list in
    let place = c.args.slot - c.args.log.now.first in
    let left = drop place list in
    let some : 1 ≤ length left = omega (arith, length-drop place list, c.requires.first, c.requires.within) in
    subst (λ (vs : List Value). record_fits (kept.Tail vs) ≡ true) (sym (c.from_vec.ensures ∙ next c))
    (next_tail_fit left some (all_later (λ (v : Value). value.fits v) place list c.requires.fit))
