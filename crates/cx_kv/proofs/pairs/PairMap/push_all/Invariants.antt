use Rattle.std.proofs.Common.{◌≡◌, ◌+◌, ◌≤◌, ◌++◌, drop, length}
use Rattle.cx_kv.proofs.pairs.PairMap.push_all.Given as goal

abbrev pub invariant-loop-pair : goal.invariant-loop-pair
invariant-loop-pair l = record {
  pairs : l.self.pairs ++ drop l.pair-index l.pairs ≡ l.initial.self.pairs ++ l.pairs;
  room : length l.pairs ≤ l.self.spare + l.pair-index;
}
