use Rattle.cx_base.proofs.Common.{◌≡◌, ◌+◌, ◌-◌, ◌<◌, ℕ, List, ◌++◌, length, map, take, drop, ap, sym, subst, ◌∙◌, arith, vec_len}
use Rattle.cx_base.proofs.Common.{length-map}
use Rattle.cx_base.specs.declared.command.Pair.{Pair}
use Rattle.cx_kv.specs.Picked.{AreBelow, picked, renamed}
use Rattle.cx_kv.proofs.Picking.{below_removed, gap_inside, picked_is, picked_removed, written}
use Rattle.cx_kv.proofs.pairs.remove_at.Goals as goal
use Rattle.cx_kv.proofs.pairs.remove_at.Goals.{After-remove-gap, After-rename}

here : (c : After-remove-gap) → c.args.place < length c.args.order.now.items
here c = omega (arith, c.args.order.now.ok.0, c.requires.inside)

within : (c : After-remove-gap) → c.remove-gap.result < length c.args.list.now.items
within c = gap_inside (length c.args.list.now.items) c.args.order.now.items c.args.place c.remove-gap.result c.remove-gap.ensures.value
    c.requires.ordered.below (here c)

after : (c : After-rename)
    → c.rename.new.order ≡ map (renamed (c.len-last.result - 1) c.remove-gap.result) c.remove-gap.new.self.items
after c = c.rename.ensures ∙ ap (λ (l : List ℕ). map (renamed (c.len-last.result - 1) c.remove-gap.result) l) c.deref_mut.ensures.value

pub swap_remove-requires : goal.swap_remove-requires
swap_remove-requires c = rw c.args.list.now.ok.0 (within (goal.at.swap_remove-requires c).After-remove-gap)

pub returns-clause-text : goal.returns-clause-text
returns-clause-text c = λ d.
    let at = (goal.at.returns-clause-text c).After-remove-gap in
    ap (λ (p : Pair). p.text) (picked_is c.args.list.now.items c.args.order.now.items c.args.place c.remove-gap.result c.remove-gap.result
    c.swap_remove.result d c.remove-gap.ensures.value (within at) (here at) c.swap_remove.ensures.value)

back : (c : After-rename)
    → take c.remove-gap.new.self.len
    (c.rename.new.order ++ drop (length c.rename.new.order) c.remove-gap.new.self.items) ≡ c.rename.new.order
back c =
    let rest = c.remove-gap.new.self.items in
    let same : length c.rename.new.order ≡ length rest =
    ap (λ (l : List ℕ). length l) (after c) ∙ length-map rest (renamed (c.len-last.result - 1) c.remove-gap.result) in
    written c.remove-gap.new.self.len c.rename.new.order rest same c.remove-gap.new.self.ok.0

last : (c : After-rename) → c.remove-gap.result < length c.args.list.now.items
    → c.len-last.result - 1 + 1 ≡ vec_len c.args.list.now
last c some = omega (arith, c.len-last.ensures, c.args.list.now.ok.0, some)

pub returns-clause-pairs : goal.returns-clause-pairs
returns-clause-pairs c =
    let at = (goal.at.returns-clause-pairs c).After-remove-gap in
    let then' = (goal.at.returns-clause-pairs c).After-rename in
    let moved = c.swap_remove.ensures.by_index in
    ap (λ (order : List ℕ). picked c.swap_remove.new.self.items order) (back then') ∙ picked_removed c.args.list.now.items
    c.swap_remove.new.self.items c.args.order.now.items c.remove-gap.new.self.items c.rename.new.order c.args.place c.remove-gap.result
    (c.len-last.result - 1) (vec_len c.args.list.now) c.requires.ordered (here at) c.remove-gap.ensures.value c.remove-gap.ensures.items
    (after then') c.args.list.now.ok.0 (last then' (within at)) moved.0 moved.1

pub returns-clause-below : goal.returns-clause-below
returns-clause-below c =
    let at = (goal.at.returns-clause-below c).After-remove-gap in
    let then' = (goal.at.returns-clause-below c).After-rename in
    let short : length c.swap_remove.new.self.items ≡ c.len-last.result - 1 =
    omega (arith, c.swap_remove.ensures.len, c.len-last.ensures, c.swap_remove.new.self.ok.0) in
    subst (λ (order : List ℕ). AreBelow (length c.swap_remove.new.self.items) order) (sym (back then')) (below_removed c.args.list.now.items
    c.swap_remove.new.self.items c.args.order.now.items c.remove-gap.new.self.items c.rename.new.order c.args.place c.remove-gap.result
    (c.len-last.result - 1) (vec_len c.args.list.now) c.requires.ordered (here at) c.remove-gap.ensures.value c.remove-gap.ensures.items
    (after then') c.args.list.now.ok.0 (last then' (within at)) short)
