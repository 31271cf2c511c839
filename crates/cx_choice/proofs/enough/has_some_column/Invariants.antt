use Rattle.cx_model.specs.Prelude.{◌≡◌, ◌-◌, list_all, list_any, numbers, below, column_of, has_vote}
use Rattle.cx_choice.specs.Sorted.{casts_in}
use Rattle.cx_choice.proofs.enough.has_some_column.Given as goal

abbrev pub invariant-loop-col : goal.invariant-loop-col
invariant-loop-col l = list_any (λ b. list_all (λ a. has_vote (casts_in l.votes) a l.of l.at l.wanted) (column_of l.grid b))
    (numbers l.col (l.grid.cols - l.col))
    ≡ list_any (λ b. list_all (λ a. has_vote (casts_in l.votes) a l.of l.at l.wanted) (column_of l.grid b)) (below l.grid.cols)
