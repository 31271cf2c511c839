-- What is so of every replica, and of what it executes.
use Rattle.std.specs.Prelude.{◌≡◌, ℕ, ◌+◌, ◌<◌, ◌≤◌, ◌^◌, ◌==◌, Bool, true, false, ◌&&◌, nat_lt, List, [], length, map, IsTrue}
use Rattle.cx_role.specs.Prelude.{list_all, list_any, Cluster, Answered, Command, Floor, Note, Placed, Value, Replica, RoleId, Pair}
use Rattle.cx_role.specs.Prelude.{answered, command, value, token, Deferred, names_value, Table, IsOrdered, Machine, answer_of}
use Rattle.cx_field.specs.Fields.{pair}
use Rattle.cx_model.specs.Renewed.{is_near}
use Rattle.cx_replica.specs.declared.wanted.Wanted.{Wanted}
use Rattle.cx_rlog.specs.State.{LogState, held as held_in}

-- whether a value's fields are in their ranges, and its clients in the cluster
abbrev pub is_cluster_value : Cluster → Value → Bool
is_cluster_value c v = value.fits v && names_value c v

abbrev pub are_own : Cluster → List Value → Bool
are_own c vs = list_all (λ (v : Value). is_cluster_value c v) vs

abbrev pub are_own_early : Cluster → List Placed → Bool
are_own_early c early = list_all (λ (p : Placed). is_cluster_value c p.value) early

-- whether the reads that wait are in their ranges, or commands, or values, or pairs, or answers
abbrev pub are_reads : List Deferred → Bool
are_reads reads = list_all (λ (r : Deferred). token.fits r.token) reads

abbrev pub are_commands : List Command → Bool
are_commands commands = list_all (λ (c : Command). command.fits c) commands

abbrev pub are_values : List Value → Bool
are_values values = list_all (λ (v : Value). value.fits v) values

abbrev pub are_pairs : List Pair → Bool
are_pairs pairs = list_all (λ (p : Pair). pair.fits p) pairs

abbrev pub are_answers : List Answered → Bool
are_answers answers = list_all (λ (a : Answered). answered.fits a) answers

-- whether the clients of floors are below a count
abbrev pub are_clients_below : ℕ → List Floor → Bool
are_clients_below count floors = list_all (λ (f : Floor). nat_lt f.client count) floors

-- whether notes are in their ranges, as answers to a client
abbrev pub are_notes : ℕ → List Note → Bool
are_notes client notes = are_answers (map (answer_of client) notes)

-- What the client table of values of the cluster has, beside its order: each answer is at most 64 above its client's
-- floor, and each client that told a floor is the cluster's and has an answer.
pub record IsTableOfCluster (c : Cluster) (t : Table) : Type 0 where
  pub near : IsTrue (list_all (λ (a : Answered). is_near t.floors a) t.notes)
  pub clients : IsTrue (are_clients_below c.clients t.floors)
  pub some : IsTrue (list_all (λ (f : Floor). list_any (λ (a : Answered). a.client == f.client) t.notes) t.floors)

-- A replica of the cluster: the values that it has and those that wait are the cluster's, and so is what its client
-- table has; at most 64 reads wait; slots end at 2^40. Before its first record it has nothing, and it lives once its
-- list is whole.
pub record IsSound (c : Cluster) (me : RoleId) (live : Bool) (log : LogState) (m : Machine) (wanted : Wanted)
    (deferred : List Deferred) : Type 0 where
  pub kind : me.kind ≡ Replica
  pub place : me.index < c.replicas
  pub own : IsTrue (are_own c log.list)
  pub waiting : IsTrue (are_own_early c log.early)
  pub reads : IsTrue (are_reads deferred)
  pub few : length deferred ≤ 64
  pub ordered : IsOrdered m.table
  pub noted : IsTableOfCluster c m.table
  pub short : held_in log + wanted.values ≤ 2 ^ 40
  pub fresh : wanted.begun ≡ false → (log.first ≡ 0) × (log.list ≡ [])
  pub whole : live ≡ true → (wanted.pairs ≡ 0) × (wanted.clients ≡ 0) × (wanted.values ≡ 0)
