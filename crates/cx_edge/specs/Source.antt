-- What a read gives, and what a whole reading comes to.
use Rattle.std.specs.Prelude.{◌≡◌, ◌≤◌, ◌<◌, ℕ, List, length, take, Option, IfSome, ⊤}
use Rattle.cx_base.specs.Prelude.{Keeps, Consumes, IsAtEnd, Rises}
use Rattle.cx_edge.specs.declared.source.ReadEnd.{ReadEnd}
use Rattle.cx_edge.specs.declared.source.ReadEnd.TheVariants as end
use Rattle.cx_edge.specs.declared.source.ReadAll.{ReadAll}
use Rattle.cx_edge.specs.declared.source.ReadAll.TheVariants.{Whole, TooLong, Failed, NoMemory}

-- the next bytes are the first of the buffer; none, where there was room, is the end
pub record Gets (old new : Option (List ℕ)) (count : ℕ) (buffer : List ℕ) : Type 0 where
  pub fits : count ≤ length buffer
  pub bytes : Consumes old new (take count buffer)
  pub at_end : count ≡ 0 → 0 < length buffer → IsAtEnd new

-- a read gives the next bytes, or fails and leaves them
abbrev pub ReadsBytes : Option (List ℕ) → Option (List ℕ) → ReadEnd → List ℕ → Type 0
ReadsBytes old new (end.Got count) buffer = Gets old new count buffer
ReadsBytes old new end.Failed buffer = Keeps old new

-- the count of faults stays where the read did not fail
abbrev pub ReadKeepsCount : ReadEnd → ℕ → ℕ → Type 0
ReadKeepsCount (end.Got count) old new = new ≡ old
ReadKeepsCount end.Failed old new = ⊤

-- all bytes that were left have come, at most the limit, and the source is at its end
pub record GetsAll (limit : ℕ) (old new : Option (List ℕ)) (bytes : List ℕ) : Type 0 where
  pub fits : length bytes ≤ limit
  pub all : IfSome old (λ left. left ≡ bytes)
  pub consumed : Consumes old new bytes
  pub at_end : IsAtEnd new

-- a prefix of the bytes that were left is gone
abbrev pub ConsumesSome : Option (List ℕ) → Option (List ℕ) → Type 0
ConsumesSome old new = (bytes : List ℕ) × Consumes old new bytes

-- the result of a whole reading; too long are more bytes than the limit
abbrev pub ReadsAll : ℕ → Option (List ℕ) → Option (List ℕ) → ReadAll → Type 0
ReadsAll limit old new (Whole bytes) = GetsAll limit old new bytes.items
ReadsAll limit old new (TooLong bytes) = (limit < length bytes.items) × Consumes old new bytes.items
ReadsAll limit old new (Failed bytes) = Consumes old new bytes.items
ReadsAll limit old new NoMemory = ConsumesSome old new

-- the count of faults has risen where a read failed
abbrev pub ReadAllTellsFault : ReadAll → ℕ → ℕ → Type 0
ReadAllTellsFault (Whole bytes) old new = ⊤
ReadAllTellsFault (TooLong bytes) old new = ⊤
ReadAllTellsFault (Failed bytes) old new = Rises old new
ReadAllTellsFault NoMemory old new = ⊤

-- it stays where none did
abbrev pub ReadAllKeepsCount : ReadAll → ℕ → ℕ → Type 0
ReadAllKeepsCount (Whole bytes) old new = new ≡ old
ReadAllKeepsCount (TooLong bytes) old new = new ≡ old
ReadAllKeepsCount (Failed bytes) old new = ⊤
ReadAllKeepsCount NoMemory old new = new ≡ old
