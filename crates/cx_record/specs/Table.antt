-- The table in which a recorder finds the number of a datagram by its bytes.
use Rattle.std.specs.Prelude.{◌≡◌, ℕ, Vec, List, Option, option_map, bytes_eq}
use Rattle.std.specs.Global.{Global}
use Rattle.std.specs.Map.{lookup}
use Rattle.cx_letter.specs.Letter.{Letter}
use Rattle.cx_record.specs.Numbers.{Numbered, last_sent}

-- the number that stands beside these bytes
abbrev pub datagram_number : List ℕ → List (Vec ℕ Global × ℕ) → Option ℕ
datagram_number bytes entries = lookup (λ (key : Vec ℕ Global). bytes_eq bytes key.items) entries

-- beside all bytes that were sent stands the number of the last datagram with them, and no others are there
abbrev pub AreNumbers : List (Vec ℕ Global × ℕ) → List Letter → Type 0
AreNumbers entries sent =
    (bytes : List ℕ) → datagram_number bytes entries ≡ option_map (λ (found : Numbered). found.number) (last_sent bytes sent)
