use Rattle.std.proofs.Common.{◌≡◌, ◌<◌, ◌^◌, drop}
use Rattle.cx_script.proofs.Digits.{after}
use Rattle.cx_script.proofs.decimal.number.Given as goal

abbrev pub invariant-loop-byte : goal.invariant-loop-byte
invariant-loop-byte l = record {
  decided : after l.number (drop l.byte-index l.word) ≡ after 0 l.word;
  fits : l.number < 2 ^ 64;
}
