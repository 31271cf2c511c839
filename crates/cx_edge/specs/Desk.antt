-- How often roles were failed, and which stores are out.
use Rattle.std.specs.Prelude.{ℕ, ◌+◌, min, max, Bool, if◌then◌else◌, List, [], ◌∷◌}
use Rattle.cx_base.specs.declared.role.RoleId.{RoleId}
use Rattle.cx_base.specs.Role.{same_role}
use Rattle.cx_edge.specs.declared.rows.CountRow.{CountRow}
use Rattle.cx_edge.specs.declared.shelf.Shelf.{Shelf}

-- the count of each role that is known, the stores that are out, and room for how many others
pub record DeskState : Type 0 where
  pub counts : List CountRow
  pub out : List Shelf
  pub room : ℕ

-- the sum of two counts, or the end of their type
abbrev pub plus : ℕ → ℕ → ℕ
plus a b = max a (min (a + b) 18446744073709551615)

abbrev pub of_role : RoleId → CountRow → Bool
of_role role row = same_role role row.role

abbrev pub no_faults : RoleId → CountRow
no_faults role = record { role = role; count = 0 }

-- How often a role was failed. One that isn't known is failed each time, and its count is at the end of its type.
abbrev pub fault_count_of : RoleId → List CountRow → ℕ
fault_count_of role [] = 18446744073709551615
fault_count_of role (row ∷ rest) = if of_role role row then row.count else fault_count_of role rest

-- the counts with these further faults of a role
abbrev pub with_faults : RoleId → ℕ → List CountRow → List CountRow
with_faults role faults [] = []
with_faults role faults (row ∷ rest) =
    if of_role role row then record row { count = plus row.count faults } ∷ rest else row ∷ with_faults role faults rest
