use Rattle.std.proofs.Common.{◌≡◌, ◌++◌, drop, take, length}
use Rattle.cx_kv.specs.Printed.{map_text}
use Rattle.cx_kv.proofs.store.print_pairs.Given as goal

abbrev pub invariant-loop-place : goal.invariant-loop-place
invariant-loop-place l =
    (l.out.items ++ map_text (drop l.place l.map.pairs) ≡ l.initial.out.items ++ map_text l.map.pairs)
    × (take (length l.initial.out.items) l.out.items ≡ l.initial.out.items)
