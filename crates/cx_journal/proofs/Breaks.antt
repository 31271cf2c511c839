-- What a break further on says of the whole.
use Rattle.cx_journal.proofs.Common.{◌≡◌, ℕ, List, [], Result, ◌∙◌, ap, Record, Image, with_first}
use Rattle.cx_journal.specs.Found.{Breaks, IsStopAt}
use Rattle.cx_journal.specs.declared.split.ImageFault.{ImageFault}
use Rattle.cx_journal.specs.declared.split.ImageFault.TheVariants as stop
use Rattle.cx_journal.proofs.Reading.{with_all, with_all-Err}

pub read_stops : (whole : Image) (records : List Record) (at : ℕ) (read : Result Record ℕ) (more : Image) (s : ImageFault)
    → whole ≡ with_all records (with_first at read more) → IsStopAt at read s → Breaks whole s
read_stops whole records at read more (stop.Break place) is stops = is ∙ ap (with_all records) (stops more) ∙ with_all-Err records place
read_stops whole records at read more stop.NoMemory is stops = tt

-- what stops after records that were read stops the whole
pub breaks_so : (records : List Record) (whole more : Image) (s : ImageFault) → whole ≡ with_all records more → Breaks more s
    → Breaks whole s
breaks_so records whole more (stop.Break place) is stops = is ∙ ap (with_all records) stops ∙ with_all-Err records place
breaks_so records whole more stop.NoMemory is stops = tt

-- the same image breaks there
pub breaks_also : (whole more : Image) (s : ImageFault) → whole ≡ more → Breaks more s → Breaks whole s
breaks_also whole more s is stops = breaks_so [] whole more s is stops
