-- What is found of an input that is read.
use Rattle.std.specs.Prelude.{◌≡◌, Bool, List, ℕ, Option, None, Result, Ok, Err}
use Rattle.cx_base.specs.Prelude.{Consumes, IsAtEnd}
use Rattle.cx_explain.specs.declared.judging.Unjudged.{Unjudged}
use Rattle.cx_explain.specs.Finding.{FindingState, found_of}

-- This was found of the bytes that were read: nothing only of a whole input.
abbrev pub ReadsFinding : Bool → Option (List ℕ) → Option (List ℕ) → Result (Option FindingState) Unjudged → Type 0
ReadsFinding node left left_after (Ok found) =
    (bytes : List ℕ) × Consumes left left_after bytes × (found_of node bytes ≡ found) × (found ≡ None → IsAtEnd left_after)
ReadsFinding node left left_after (Err why) = Unit {0}
