-- A list that meets a fault in the value that comes next.
use Rattle.std.proofs.Common.{◌≡◌, ℕ, ◌-◌, ◌<◌, List, Result}
use Rattle.cx_wire.specs.Format.{Format, Miss, bad, short_field, each_read}
use Rattle.cx_wire.proofs.Loops.{with_front, ends}
use Rattle.cx_field.specs.declared.fault.ReadFault.{ReadFault}
use Rattle.cx_field.specs.declared.fault.ReadFault.TheVariants as faults
use Rattle.cx_field.specs.Reading.{Fails}

pub list_ends : {A : Type 0} (f : List A → Format A) (e : ReadFault) (front : List A) (count i : ℕ) (bytes : List ℕ)
    (total : Result (List A × List ℕ) Miss) → i < count → Fails e ((f front).read bytes)
    → with_front front (each_read f front (count - i) bytes) ≡ total → Fails e total
list_ends f faults.NoMemory front count i bytes total lt h so_far = tt
list_ends f (faults.Bad left) front count i bytes total lt h so_far = ends f (bad left) front count i bytes total lt h so_far
list_ends f (faults.Cut left need) front count i bytes total lt h so_far =
    ends f (short_field left need) front count i bytes total lt h so_far
