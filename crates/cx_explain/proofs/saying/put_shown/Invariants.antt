use Rattle.cx_base.proofs.Common.{◌≡◌, ◌++◌, map, drop}
use Rattle.cx_explain.specs.Saying.{shown_byte}
use Rattle.cx_explain.proofs.saying.put_shown.Given as goal

abbrev pub invariant-loop-byte : goal.invariant-loop-byte
invariant-loop-byte l = l.text.items ++ map shown_byte (drop l.byte-index l.word) ≡ l.fn.text.items ++ map shown_byte l.word
