use Rattle.cx_base.proofs.Common.{◌≡◌, ◌≤◌, ◌/◌, ℕ, min, take, arith, ap, ◌∙◌, make_grid}
use Rattle.cx_course.specs.Run.{first_grid}
use Rattle.cx_node.proofs.Grids.{even_grid, firsts, is_grid, odd_grid}
use Rattle.cx_node.proofs.turning.first_grid.Goals as goal

some_of : (n a : ℕ) → n ≡ min a 16 → 1 ≤ a → 1 ≤ n
some_of n a e some = grind (arith, e, some)

most_of : (n a : ℕ) → n ≡ min a 16 → n ≤ 16
most_of n a e = grind (arith, e)

pub from_parts-requires : goal.from_parts-requires
from_parts-requires c =
    let n = c.min-count.result in
    let some = some_of n c.args.cluster.now.acceptors c.min-count.ensures c.args.cluster.now.some_acceptor in
    let most = most_of n c.args.cluster.now.acceptors c.min-count.ensures in
    is_grid n (make_grid 2 (n / 2) (take n firsts)) (even_grid n c.if-count-eq0.true some most) some most

pub returns-then-count-eq0 : goal.returns-then-count-eq0
returns-then-count-eq0 c =
    let n = c.min-count.result in
    let some = some_of n c.args.cluster.now.acceptors c.min-count.ensures c.args.cluster.now.some_acceptor in
    let most = most_of n c.args.cluster.now.acceptors c.min-count.ensures in
    c.from_parts.ensures ∙ even_grid n c.if-count-eq0.true some most ∙ ap first_grid c.min-count.ensures

pub from_parts-requires-2 : goal.from_parts-requires-2
from_parts-requires-2 c =
    let n = c.min-count.result in
    let some = some_of n c.args.cluster.now.acceptors c.min-count.ensures c.args.cluster.now.some_acceptor in
    let most = most_of n c.args.cluster.now.acceptors c.min-count.ensures in
    is_grid n (make_grid 1 n (take n firsts)) (odd_grid n c.if-count-eq0.false some most) some most

pub returns : goal.returns
returns c =
    let n = c.min-count.result in
    let some = some_of n c.args.cluster.now.acceptors c.min-count.ensures c.args.cluster.now.some_acceptor in
    let most = most_of n c.args.cluster.now.acceptors c.min-count.ensures in
    c.from_parts-2.ensures ∙ odd_grid n c.if-count-eq0.false some most ∙ ap first_grid c.min-count.ensures
