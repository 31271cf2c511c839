-- What a step sends.
use Rattle.std.specs.Prelude.{ℕ, List}
use Rattle.cx_letter.specs.Letter.{Letter}

-- what is sent, in order, and how many more can be without taking memory
pub record Outgoing : Type 0 where
  pub list : List Letter
  pub spare : ℕ
