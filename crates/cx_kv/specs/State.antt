-- A map as contracts see it, with the room that it has.
use Rattle.std.specs.Prelude.{ℕ, ◌+◌, ◌^◌, ◌≤◌, List}
use Rattle.cx_base.specs.declared.command.Pair.{Pair}

-- the pairs in the rising order of their keys, and for how many more keys there is room
pub record MapState : Type 0 where
  pub pairs : List Pair
  pub spare : ℕ

-- two lists have room for this many more, and the first stays within 2^32
pub record HasRoomForPairs (pairs capacity places places_capacity spare : ℕ) : Type 0 where
  pub pairs_fit : pairs + spare ≤ capacity
  pub places_fit : places + spare ≤ places_capacity
  pub short : pairs + spare ≤ 2 ^ 32
