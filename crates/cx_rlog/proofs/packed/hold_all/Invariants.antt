use Rattle.std.proofs.Common.{◌≡◌, ◌+◌, ◌++◌, ◌≤◌, length, vec_capacity, vec_len}
use Rattle.cx_rlog.proofs.packed.hold_all.Given as goal

abbrev pub invariant-loop-value : goal.invariant-loop-value
invariant-loop-value l = record {
  can : goal.iterator-loop-value.can_next l.value-iterator;
  ends : goal.iterator-loop-value.is_finite l.value-iterator;
  whole : l.list.items ++ l.value-iterator.rest.items ≡ l.fn.list.items ++ l.fn.values.items;
  capacity : vec_capacity l.list ≡ vec_capacity l.fn.list;
  room : vec_len l.list + length l.value-iterator.rest.items ≤ vec_capacity l.list;
}
