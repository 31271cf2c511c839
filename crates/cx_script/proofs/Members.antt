-- The members of a grid, one by one.
use Rattle.std.proofs.Common.{◌+◌, ℕ, List, Option, Some, None, length}

-- more than the length of what is left
abbrev pub size : Option (List ℕ) → ℕ
size None = 0
size (Some rest) = length rest + 1
