-- The generation of a disk, and which of two disks is live.
use Rattle.std.specs.Prelude.{◌≡◌, ◌⊎◌, ◌<◌, ℕ, ◌+◌, ◌%◌, ◌==◌, nat_lt, Bool, true, false, if◌then◌else◌, List, [], ◌∷◌, Option, Some, None}
use Rattle.std.specs.Prelude.{Result, Ok, Err}

-- the generation of a disk of at least three bytes that begins with 4: its second byte
abbrev pub generation : List ℕ → Option ℕ
generation [] = None
generation (a ∷ []) = None
generation (a ∷ b ∷ []) = None
generation (a ∷ b ∷ c ∷ rest) = if a == 4 then Some b else None

-- the generation that a renewal gives, beside a live disk of this one
abbrev pub next_generation : Option ℕ → ℕ
next_generation None = 1
next_generation (Some g) = (g + 1) % 3

-- which disk is live, the second one or not; or the byte of a generation above 2, or of two that are equal
abbrev pub second_is_live : Option ℕ → Option ℕ → Result Bool ℕ
second_is_live None None = Ok false
second_is_live (Some g) None = if nat_lt g 3 then Ok false else Err g
second_is_live None (Some h) = if nat_lt h 3 then Ok true else Err h
second_is_live (Some g) (Some h) =
    if nat_lt g 3 then (if nat_lt h 3 then (if g == h then Err h else Ok (h == (g + 1) % 3)) else Err h) else Err g

-- a generation, if there is one, is one of the three
abbrev pub IsGeneration : Option ℕ → Type 0
IsGeneration None = Unit {0}
IsGeneration (Some g) = g < 3

-- Beside a live disk of this generation a disk of that one is not live: it is plain, or of the generation before.
abbrev pub IsBehind : Option ℕ → Option ℕ → Type 0
IsBehind live None = Unit {0}
IsBehind live (Some g) = (g < 3) × (live ≡ Some ((g + 1) % 3))

-- a disk that is not live beside one of this generation, or one with these bytes after its first, 4
abbrev pub IsOldOrNew : Option ℕ → List ℕ → List ℕ → Type 0
IsOldOrNew live bytes file = IsBehind live (generation file) ⊎ (file ≡ 4 ∷ bytes)
