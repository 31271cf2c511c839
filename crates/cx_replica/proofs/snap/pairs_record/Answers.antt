use Rattle.cx_role.proofs.Common.{◌≡◌, ◌+◌, ◌-◌, ◌≤◌, ◌∙◌, length, take, drop, ap, arith, subst, sym, true, List, length-drop, min, Pair}
use Rattle.cx_letter.specs.declared.kept.Record.TheVariants as kept
use Rattle.cx_letter.specs.Records.{fits as record_fits}
use Rattle.cx_replica.specs.Sound.{are_pairs}
use Rattle.cx_replica.proofs.Snapping.{next_pairs_fit, take_least}
use Rattle.cx_replica.proofs.snap.pairs_record.Goals as goal

next : (c : goal.After-from_vec) → c.in_ok-pairs.pairs.items ≡ take 255 (drop c.args.from c.args.machine.now.left.map)
next c =
    let left = drop c.args.from c.args.machine.now.left.map in
    let so_many : c.keys.result - c.args.from ≡ length left =
    omega (arith, c.keys.ensures.len, length-drop c.args.from c.args.machine.now.left.map) in
    let only : c.args.from + c.min.result - c.args.from ≡ c.min.result = omega arith in
    let count : c.args.from + c.min.result - c.args.from ≡ min 255 (length left) = only ∙ c.min.ensures ∙ ap (λ k. min 255 k) so_many in
    c.in_ok-pairs.ensures.items ∙ ap (λ k. take k left) count ∙ take_least 255 left

pub returns-clause-is : goal.returns-clause-is
returns-clause-is c = ap (λ (ps : List Pair). kept.Pairs ps) (c.from_vec.ensures ∙ next c)

pub returns-clause-fits : goal.returns-clause-fits
returns-clause-fits c =
    let left = drop c.args.from c.args.machine.now.left.map in
    let some : 1 ≤ length left = omega (arith, length-drop c.args.from c.args.machine.now.left.map, c.requires) in
    let fit : are_pairs (take 255 left) ≡ true = subst (λ (ps : List Pair). are_pairs ps ≡ true) (next c) c.in_ok-pairs.ensures.fit in
    subst (λ (ps : List Pair). record_fits (kept.Pairs ps) ≡ true) (sym (c.from_vec.ensures ∙ next c)) (next_pairs_fit left some fit)
