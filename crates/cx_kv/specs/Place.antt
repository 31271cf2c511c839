-- Where a key is in a map, or would be.
use Rattle.std.specs.Prelude.{◌≡◌, ℕ, ◌<◌, ◌≤◌, true, false, List, length, drop, slice_index_or, bytes_eq}
use Rattle.cx_base.specs.Prelude.{AllWithin, is_less}
use Rattle.cx_base.specs.declared.command.Pair.{Pair}
use Rattle.cx_kv.specs.Rising.{IsBeforeAll}

-- the keys before the place come before the key, and those from it on do not
pub record IsPlace (key : List ℕ) (map : List Pair) (place : ℕ) : Type 0 where
  pub inside : place ≤ length map
  pub before : AllWithin (λ p. is_less p.key key ≡ true) map 0 place
  pub behind : AllWithin (λ p. is_less p.key key ≡ false) map place (length map)

-- the key is at the place
pub record IsHeldAt (key : List ℕ) (map : List Pair) (place : ℕ) : Type 0 where
  pub inside : place < length map
  pub before : AllWithin (λ p. is_less p.key key ≡ true) map 0 place
  pub same : (p : Pair) → bytes_eq (slice_index_or map place p).key key ≡ true

-- the key is nowhere, and belongs before the place
pub record IsFreeAt (key : List ℕ) (map : List Pair) (place : ℕ) : Type 0 where
  pub inside : place ≤ length map
  pub before : AllWithin (λ p. is_less p.key key ≡ true) map 0 place
  pub behind : IsBeforeAll key (drop place map)
