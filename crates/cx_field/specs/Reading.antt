-- What a reader of the code answers, against what a format reads.
use Rattle.std.specs.Prelude.{◌≡◌, ℕ, List, Result, Ok, Err}
use Rattle.cx_wire.specs.Format.{Format, Miss, bad, short_field}
use Rattle.cx_field.specs.declared.fault.ReadFault.{ReadFault}
use Rattle.cx_field.specs.declared.fault.ReadFault.TheVariants as faults

-- a reading that did not come to its end: memory ran out, or it met this fault
abbrev pub Fails : {Y : Type 0} → ReadFault → Result Y Miss → Type 0
Fails faults.NoMemory read = Unit {0}
Fails (faults.Bad left) read = read ≡ Err (bad left)
Fails (faults.Cut left need) read = read ≡ Err (short_field left need)

-- What was answered, seen by view, is what reading gives, and the bytes after it are left; unless memory ran out.
abbrev pub Gives : {X Y : Type 0} → (X → Y) → Result X ReadFault → Result (Y × List ℕ) Miss → List ℕ → Type 0
Gives view (Ok x) read rest = read ≡ Ok (view x, rest)
Gives view (Err e) read rest = Fails e read

-- a field is read from the start of old, and new is left
abbrev pub Reads : {X : Type 0} → Format X → List ℕ → Result X ReadFault → List ℕ → Type 0
Reads f old result new = Gives (λ x. x) result (f.read old) new
