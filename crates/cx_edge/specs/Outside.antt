-- What contracts see of a reader or a writer with a count of its faults.
use Rattle.std.specs.Prelude.{ℕ}

pub record CountedAdapter (T : Type 0) : Type 0 where
  pub inner : T
  pub faults : ℕ
