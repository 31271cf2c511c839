use Rattle.std.proofs.Common.{◌≡◌, ◌<◌, ◌+◌, ℕ, [], ◌∷◌, arith, refl}
use Rattle.std.specs.Prelude.{decimal}
use Rattle.std.proofs.lemmas.Fmt.{decimal_digit}
use Rattle.cx_record.proofs.examples.worked.Goals as goal

pub returns : goal.returns
unfolding Rattle.cx_record.specs.Lines.line_text Rattle.cx_trace.specs.Trace.seq_text
returns c =
    let digit : (n : ℕ) → n < 10 → decimal n ≡ (48 + n) ∷ [] = decimal_digit in
    let zero = digit 0 (omega arith) in
    let one = digit 1 (omega arith) in
    let two = digit 2 (omega arith) in
    let three = digit 3 (omega arith) in
    let four = digit 4 (omega arith) in
    let five = digit 5 (omega arith) in
    let seven = digit 7 (omega arith) in
    record {
      write = rw (zero, one) refl;
      floor = rw (one, two, three, seven) refl;
      session = rw (one, two, five) refl;
      lead = rw (zero, one, two, three) refl;
      change = rw (zero, one, two, four, five) refl;
      collect = rw zero refl;
      replace = rw (one, three, four, five) refl;
      offer = rw (zero, two, five) refl;
      snap = rw one refl;
      snap_of_acceptor = rw two refl;
    }
