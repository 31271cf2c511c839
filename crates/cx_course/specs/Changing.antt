-- The changes of the stores of hosted roles.
use Rattle.std.specs.Prelude.{List, [], ◌∷◌, Option, None, Some, if◌then◌else◌}
use Rattle.cx_role.specs.Prelude.{RoleId, same_role, KeeperChange, Append, Renewal, list_after, replica_renewed, replica_rules, folded}
use Rattle.cx_role.specs.Prelude.{Written, Record}
use Rattle.cx_letter.specs.declared.input.Written.TheVariants as written

-- a change of the store of a role
pub record StoreChange : Type 0 where
  pub role : RoleId
  pub change : KeeperChange

-- what a role's step changes, if it changes anything
abbrev pub changed_by : RoleId → Option KeeperChange → List StoreChange
changed_by me None = []
changed_by me (Some change) = record { role = me; change = change } ∷ []

-- the changes of one role's store among these, in order
abbrev pub changes_of : RoleId → List StoreChange → List KeeperChange
changes_of me [] = []
changes_of me (c ∷ rest) = if same_role me c.role then c.change ∷ changes_of me rest else changes_of me rest

-- a list after these changes, one after the other
abbrev pub lists_after : List Record → List KeeperChange → List Record
lists_after list [] = list
lists_after list (change ∷ rest) = lists_after (list_after list change) rest

-- what the store with this list is asked to do, so that it keeps what the history then has
abbrev pub change_for : List Record → Written → KeeperChange
change_for list (written.Record r) = Append r
change_for list (written.Snap first) = Renewal (replica_renewed (folded replica_rules list) first)
