-- What a reader of bytes answers, where memory may run out.
use Rattle.std.specs.Prelude.{◌≡◌, Result, Ok, Err}
use Rattle.cx_msg.specs.declared.fault.WireFault.{WireFault}
use Rattle.cx_msg.specs.declared.fault.WireFault.TheVariants as faults

-- what was answered is this fault, unless memory ran out
abbrev pub IsDecodeFault : {X : Type 0} → WireFault → Result X WireFault → Type 0
IsDecodeFault faults.NoMemory is = Unit {0}
IsDecodeFault e is = is ≡ Err e

-- what was answered is this, unless memory ran out
abbrev pub Decodes : {X : Type 0} → Result X WireFault → Result X WireFault → Type 0
Decodes (Ok x) is = is ≡ Ok x
Decodes (Err e) is = IsDecodeFault e is
