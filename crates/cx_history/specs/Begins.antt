-- A list that was added to.
use Rattle.std.specs.Prelude.{◌≡◌, List, length, take}

-- the long list begins with the short one
abbrev pub IsPrefix : {A : Type 0} → List A → List A → Type 0
IsPrefix short long = take (length short) long ≡ short
