-- What was not synced may have stayed as it was.
use Rattle.cx_base.proofs.Common.{ℕ, List, length, arith, refl, take_all}
use Rattle.cx_disk.specs.Disk.{Torn, TornCut}

pub torn_not : (at n : ℕ) (file : List ℕ) → Torn at n file file
torn_not at n file = record { before = refl; after = refl; no_shorter = omega arith; no_longer = omega arith }

pub cut_not : (at : ℕ) (file : List ℕ) → TornCut at file file
cut_not at file = record { no_shorter = omega arith; front = take_all (length file) file (omega arith) }
