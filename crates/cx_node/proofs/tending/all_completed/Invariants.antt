use Rattle.std.specs.List.{sum_by}
use Rattle.cx_node.proofs.Common.{◌≡◌, min, take, Guest, hosted_of, completed}
use Rattle.cx_node.proofs.tending.all_completed.Given as goal

abbrev pub invariant-loop-seat : goal.invariant-loop-seat
invariant-loop-seat g l =
    l.total ≡ min (sum_by (λ (guest : Guest g.row.K.Denot). completed (hosted_of guest)) (take l.seat-index l.seats)) 18446744073709551615
