use Rattle.std.proofs.Common.{◌≡◌, ◌++◌, true, drop}
use Rattle.cx_reader.specs.Running.{are_apart, are_once}
use Rattle.cx_reader.proofs.reads.AskedReads.add_all.Given as goal

abbrev pub invariant-loop-place : goal.invariant-loop-place
invariant-loop-place l = record {
  list : l.self ++ drop l.place l.more ≡ l.fn.self ++ l.more;
  apart : are_apart l.self (drop l.place l.more) ≡ true;
  once : are_once (drop l.place l.more) ≡ true;
}
