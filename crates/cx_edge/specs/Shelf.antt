-- Places of stores in a depot.
use Rattle.std.specs.Prelude.{ℕ, Bool, ◌==◌, ◌&&◌}
use Rattle.cx_base.specs.declared.role.RoleId.{RoleId}
use Rattle.cx_base.specs.Role.{same_role}
use Rattle.cx_edge.specs.declared.shelf.Shelf.{Shelf}

abbrev pub shelf : RoleId → ℕ → Shelf
shelf role side = record { role = role; side = side }

abbrev pub same_shelf : Shelf → Shelf → Bool
same_shelf one other = same_role one.role other.role && (one.side == other.side)
