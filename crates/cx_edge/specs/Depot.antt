-- The stores that are out.
use Rattle.std.specs.Prelude.{◌≡◌, ℕ, List, [], ◌∷◌, true, if◌then◌else◌}
use Rattle.cx_base.specs.Prelude.{list_any, same_role}
use Rattle.cx_base.specs.declared.role.RoleId.{RoleId}
use Rattle.cx_edge.specs.declared.shelf.Shelf.{Shelf}
use Rattle.cx_edge.specs.Shelf.{same_shelf}

abbrev pub IsOut : Shelf → List Shelf → Type 0
IsOut place out = list_any (same_shelf place) out ≡ true

-- the list without a store's first place in it
abbrev pub without : Shelf → List Shelf → List Shelf
without place [] = []
without place (p ∷ rest) = if same_shelf place p then rest else p ∷ without place rest

-- How often a role was failed at the start: never, or without end where the depot has no store for it.
abbrev pub first_faults : RoleId → List RoleId → ℕ
first_faults role roles = if list_any (same_role role) roles then 0 else 18446744073709551615
