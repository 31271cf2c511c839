-- A replica as contracts see it, and what it does with a value.
use Rattle.std.specs.Prelude.{ℕ, Bool, List}
use Rattle.cx_role.specs.Prelude.{Cluster, Value, RoleId, ready_values, Deferred, Outcome, Machine, ReplicaDurable, ReplicaVolatile, held}
use Rattle.cx_role.specs.Prelude.{Running}
use Rattle.cx_model.specs.Replica.{apply, chosen_row}
use Rattle.cx_replica.specs.declared.wanted.Wanted.{Wanted}
use Rattle.cx_rlog.specs.State.{LogState}

-- what a replica's records left
abbrev pub replica_durable : LogState → Machine → Wanted → ReplicaDurable
replica_durable log machine wanted =
    record {
      first = log.first;
      log = log.list;
      machine = machine;
      begun = wanted.begun;
      pairs = wanted.pairs;
      clients = wanted.clients;
      values = wanted.values;
    }

-- what its records left is durable; the values and the reads that wait, and the greatest slot that was asked for, are
-- not
abbrev pub replica_view : Cluster → RoleId → Bool → LogState → Machine → Wanted → List Deferred → ℕ
    → Running ReplicaDurable ReplicaVolatile
replica_view c me live log machine wanted reads fetched =
    record {
      cluster = c;
      me = me;
      live = live;
      durable = replica_durable log machine wanted;
      volatile = record { early = log.early; deferred = reads; fetched = fetched };
    }

-- the row of a value that was chosen for a slot
abbrev pub chosen_row_in : Running ReplicaDurable ReplicaVolatile → ℕ → Value → Outcome ReplicaVolatile
chosen_row_in r slot value = chosen_row r.cluster r.me r.durable r.volatile slot value

-- the row that applies the next slot's value, with those that wait after it
abbrev pub applied_in : Running ReplicaDurable ReplicaVolatile → Value → Outcome ReplicaVolatile
applied_in r value =
    apply r.cluster r.me r.durable r.volatile (ready_values (held r.durable) r.volatile.early value)
