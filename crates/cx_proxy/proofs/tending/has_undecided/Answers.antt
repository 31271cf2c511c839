use Rattle.cx_role.proofs.Common.{◌≡◌, ℕ, ◌+◌, ◌-◌, ◌<◌, Bool, true, false, List, Pending, numbers, sym, ap, ◌∙◌, arith, ◌||◌, list_any}
use Rattle.cx_role.proofs.Common.{pending_at}
use Rattle.cx_grid.proofs.Crossing.{numbers_more}
use Rattle.cx_proxy.specs.Tending.{is_undecided}
use Rattle.cx_proxy.proofs.tending.has_undecided.Goals as goal

abbrev waits : List Pending → ℕ → Bool
waits ps s = is_undecided (pending_at s ps)

-- one of the numbers from i on passes where the first does, or one of the others
first_or_other : (p : ℕ → Bool) (i n : ℕ) (b : Bool) → i < n → p i ≡ b
    → list_any p (numbers i (n - i)) ≡ (b || list_any p (numbers (i + 1) (n - (i + 1))))
first_or_other p i n b l is =
    ap (list_any p) (numbers_more i n l) ∙ ap (λ (x : Bool). x || list_any p (numbers (i + 1) (n - (i + 1)))) is

pub loop-slot-init : goal.loop-slot-init
loop-slot-init c =
    let first = c.first-first.result in
    let count : first + 32 - first ≡ 32 = omega arith in
    ap (λ (n : ℕ). list_any (waits c.args.pendings.now.items) (numbers first n)) count

pub returns-then-is_undecided : goal.returns-then-is_undecided
returns-then-is_undecided c =
    let p = waits c.args.pendings.now.items in
    let first = c.first-first.result in
    let here = sym c.is_undecided.ensures ∙ c.if-is_undecided.true in
    let found = first_or_other p c.loop-slot.slot (first + 32) true c.loop-slot-test.true here in
    sym (ap (λ (f : ℕ). list_any p (numbers f 32)) (sym c.first-first.ensures.first) ∙ sym c.loop-slot.invariant ∙ found)

pub loop-slot-preserved : goal.loop-slot-preserved
loop-slot-preserved c =
    let p = waits c.args.pendings.now.items in
    let first = c.first-first.result in
    let here = sym c.is_undecided.ensures ∙ c.if-is_undecided.false in
    sym (first_or_other p c.loop-slot.slot (first + 32) false c.loop-slot-test.true here) ∙ c.loop-slot.invariant
