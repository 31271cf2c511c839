use Rattle.cx_letter.specs.Prelude.{◌≡◌, ◌++◌, List, drop, Letter}
use Rattle.cx_history.proofs.sent.Sent.append.Given as goal

abbrev pub invariant-loop-datagram : goal.invariant-loop-datagram
invariant-loop-datagram l = record {
  so_far : l.self ++ drop l.datagram-index l.datagrams ≡ l.fn.self ++ l.datagrams;
  begins : (more : List Letter) × (l.self ≡ l.fn.self ++ more);
}
