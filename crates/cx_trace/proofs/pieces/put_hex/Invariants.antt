use Rattle.std.proofs.Common.{◌≡◌, ◌++◌, drop, length, take}
use Rattle.cx_trace.specs.Put.{hex}
use Rattle.cx_trace.proofs.pieces.put_hex.Given as goal

abbrev pub invariant-loop-byte : goal.invariant-loop-byte
invariant-loop-byte l = record {
  text : l.text.items ++ hex (drop l.byte-index l.bytes) ≡ l.fn.text.items ++ hex l.bytes;
  begins : take (length l.fn.text.items) l.text.items ≡ l.fn.text.items;
}
