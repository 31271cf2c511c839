use Rattle.std.proofs.Common.{◌≡◌, ◌++◌, drop, length, take}
use Rattle.cx_trace.specs.Trace.{datagrams_text}
use Rattle.cx_replay.proofs.sending.lines_into.Given as goal

abbrev pub invariant-loop-number : goal.invariant-loop-number
invariant-loop-number l = record {
  text : l.text.items ++ datagrams_text l.number (drop l.number l.sent) ≡ l.fn.text.items ++ datagrams_text l.first (drop l.first l.sent);
  begins : take (length l.fn.text.items) l.text.items ≡ l.fn.text.items;
}
