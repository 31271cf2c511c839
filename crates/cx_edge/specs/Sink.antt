-- What a write takes.
use Rattle.std.specs.Prelude.{◌⊎◌, ◌≡◌, ◌≤◌, ◌<◌, ℕ, Bool, true, false, List, length, take, Option, ⊤}
use Rattle.std.specs.Io.KnownBytes.{Keeps, Appends}
use Rattle.cx_base.specs.Faults.{Rises}
use Rattle.cx_edge.specs.declared.sink.WriteEnd.{WriteEnd}
use Rattle.cx_edge.specs.declared.sink.WriteEnd.TheVariants.{Took, Failed}

-- the sink has taken the first bytes of a piece, of one that is not empty at least one
pub record SinkTakes (old new : Option (List ℕ)) (count : ℕ) (piece : List ℕ) : Type 0 where
  pub fits : count ≤ length piece
  pub some : 0 < length piece → 0 < count
  pub bytes : Appends old new (take count piece)

-- a write takes bytes, or fails and takes none
abbrev pub Writes : Option (List ℕ) → Option (List ℕ) → WriteEnd → List ℕ → Type 0
Writes old new (Took count) piece = SinkTakes old new count piece
Writes old new Failed piece = Keeps old new

-- the count of faults stays where the write did not fail
abbrev pub WriteKeepsCount : WriteEnd → ℕ → ℕ → Type 0
WriteKeepsCount (Took count) old new = new ≡ old
WriteKeepsCount Failed old new = ⊤

-- a prefix of these bytes was taken
abbrev pub AppendsPart : Option (List ℕ) → Option (List ℕ) → List ℕ → Type 0
AppendsPart old new bytes = (count : ℕ) × Appends old new (take count bytes)

-- all bytes were taken, or a prefix of them
abbrev pub WritesAll : Option (List ℕ) → Option (List ℕ) → Bool → List ℕ → Type 0
WritesAll old new true bytes = Appends old new bytes
WritesAll old new false bytes = AppendsPart old new bytes

-- a text was written, or the sink has failed and a part of it was
abbrev pub SaysText : Option (List ℕ) → Option (List ℕ) → ℕ → ℕ → List ℕ → Type 0
SaysText old new faults faults_after text = Appends old new text ⊎ (AppendsPart old new text × Rises faults faults_after)
