-- A batcher and the commands that it holds.
use Rattle.std.specs.Prelude.{◌≡◌, ◌<◌, ℕ, Bool, List, length, IsTrue}
use Rattle.cx_role.specs.Prelude.{list_all, Cluster, Command, RoleId, Round, Running, Batcher, command, BatcherVolatile}

-- a batcher, and fewer commands than a batch, each in its ranges
pub record CanWait (batch : ℕ) (me : RoleId) (waiting : List Command) : Type 0 where
  pub kind : me.kind ≡ Batcher
  pub room : length waiting < batch
  pub fit : IsTrue (list_all (λ (k : Command). command.fits k) waiting)

-- which state it is in
abbrev pub batcher_view : Cluster → RoleId → Bool → List Command → Round → Running (Unit {0}) BatcherVolatile
batcher_view c me live waiting round = record {
  cluster = c;
  me = me;
  live = live;
  durable = tt;
  volatile = record { waiting = waiting; round = round };
}
