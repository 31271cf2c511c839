use Rattle.cx_model.specs.Prelude.{◌≡◌, ◌-◌, map, list_all, numbers, member_at, column_of, has_vote}
use Rattle.cx_choice.specs.Sorted.{casts_in}
use Rattle.cx_choice.proofs.enough.has_column.Given as goal

abbrev pub invariant-loop-row : goal.invariant-loop-row
invariant-loop-row l = list_all (λ a. has_vote (casts_in l.votes) a l.of l.at l.wanted) (map (λ a. member_at l.grid a l.col)
    (numbers l.row (l.grid.rows - l.row))) ≡ list_all (λ a. has_vote (casts_in l.votes) a l.of l.at l.wanted) (column_of l.grid l.col)
