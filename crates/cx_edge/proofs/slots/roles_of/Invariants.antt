use Rattle.std.proofs.Common.{◌≡◌, ◌++◌, drop, map}
use Rattle.cx_edge.specs.Held.{shelf_role}
use Rattle.cx_edge.proofs.slots.roles_of.Given as goal

abbrev pub invariant-loop-store : goal.invariant-loop-store
invariant-loop-store l = l.roles.items ++ map shelf_role (drop l.store-index l.stores) ≡ map shelf_role l.stores
