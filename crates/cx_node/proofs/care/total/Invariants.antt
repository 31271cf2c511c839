use Rattle.std.proofs.Common.{◌≡◌, min, take}
use Rattle.std.specs.List.{sum}
use Rattle.cx_node.proofs.care.total.Given as goal

abbrev pub invariant-loop-number : goal.invariant-loop-number
invariant-loop-number l = l.total ≡ min (sum (take l.number-index l.numbers)) 18446744073709551615
