-- A depot of files: what contracts see of it.
use Rattle.std.specs.Prelude.{ℕ, ◌==◌, if◌then◌else◌, List, ◌++◌, codes, decimal}
use Rattle.cx_base.specs.declared.role.RoleId.{RoleId}
use Rattle.cx_base.specs.Role.{kind_text}
use Rattle.cx_edge.specs.declared.rows.CountRow.{CountRow}
use Rattle.cx_edge.specs.declared.shelf.Shelf.{Shelf}
use Rattle.cx_edge.specs.Desk.{fault_count_of}

-- how often each role was failed, and the stores that are out
pub record FilesState : Type 0 where
  pub counts : List CountRow
  pub out : List Shelf

abbrev pub files_out : FilesState → List Shelf
files_out depot = depot.out

abbrev pub files_faults : FilesState → RoleId → ℕ
files_faults depot role = fault_count_of role depot.counts

-- how the name of a role's first or only file ends, and how that of its second one
abbrev pub file_extension : ℕ → List ℕ
file_extension side = if side == 0 then codes "journal" else codes "other"

-- the name of a store's file
abbrev pub file_name : Shelf → List ℕ
file_name place =
    codes "compax-" ++ kind_text place.role.kind ++ codes "-" ++ decimal place.role.index ++ codes "." ++ file_extension place.side
