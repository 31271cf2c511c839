-- What a client table says of commands in their order.
use Rattle.std.specs.Prelude.{◌≡◌, ℕ, true, List}
use Rattle.cx_base.specs.Prelude.{list_any, overtakes, Table, are_rising, is_used}
use Rattle.cx_base.specs.declared.command.Command.{Command}

-- the table, whose floors rise, decides for each number whether the list overtakes it
pub record IsDecidingTable (t : Table) (list : List Command) : Type 0 where
  pub rising : are_rising 0 t.floors ≡ true
  pub used : (client seq : ℕ) → list_any (overtakes client seq) list ≡ is_used client seq t
