-- A depot in memory: what contracts see of it.
use Rattle.std.specs.Prelude.{◌≡◌, ℕ, true, List}
use Rattle.cx_base.specs.declared.role.RoleId.{RoleId}
use Rattle.cx_edge.specs.declared.rows.CountRow.{CountRow}
use Rattle.cx_edge.specs.declared.shelf.Shelf.{Shelf}
use Rattle.cx_edge.specs.Depot.{IsOut}
use Rattle.cx_edge.specs.Desk.{fault_count_of}
use Rattle.cx_edge.specs.Held.{ShelfContent, shelf_bytes, has_store}

-- what each store holds, or held when it was handed out, how often each role was failed, and the stores that are out
pub record DepotState : Type 0 where
  pub stores : List ShelfContent
  pub counts : List CountRow
  pub out : List Shelf

abbrev pub depot_held : DepotState → Shelf → List ℕ
depot_held depot place = shelf_bytes depot.stores place

abbrev pub depot_out : DepotState → List Shelf
depot_out depot = depot.out

abbrev pub depot_faults : DepotState → RoleId → ℕ
depot_faults depot role = fault_count_of role depot.counts

-- each store that is out has its place
abbrev pub OutHaveStores : List Shelf → List ShelfContent → Type 0
OutHaveStores out stores = (place : Shelf) → IsOut place out → has_store place stores ≡ true
