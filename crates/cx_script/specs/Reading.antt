-- What a call that reads from the words of a line says.
use Rattle.std.specs.Prelude.{◌≡◌, ℕ, List, Result, Ok, Err}
use Rattle.cx_script.specs.declared.fault.LineFault.{LineFault}
use Rattle.cx_script.specs.Grammar.{Part}

-- the value and the words that are left, or the fault, are what is defined
abbrev pub ReadsWords : {A : Type 0} → Result A LineFault → List (List ℕ) → Part A → Type 0
ReadsWords (Ok value) left part = part ≡ Ok (value, left)
ReadsWords (Err fault) left part = part ≡ Err fault
