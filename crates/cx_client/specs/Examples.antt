-- Worked steps of a client with the requests 1, 3, 64, 65 and 66 and a window of 4, of one whose sessions are 1 and 3, one outstanding at a
-- time, and of clients that ask others or don't, in a cluster with 2 batchers, 2 readers and 3 replicas. What is expected was worked out by
-- hand.
use Rattle.std.specs.Prelude.{◌≡◌, ℕ, ◌-◌, false, true, List, [], ◌∷◌, map, None, flat_map}
use Rattle.std.proofs.Common.{lit≤}
use Rattle.cx_letter.specs.Prelude.{Del, Event, Absent, Cluster, Batcher, Client, Reader, Replica, Unbatcher, RoleId, role, Letter, letter}
use Rattle.cx_model.specs.Prelude.{one_of_each, Msg}
use Rattle.cx_base.specs.declared.event.Event.TheVariants as event
use Rattle.cx_letter.specs.declared.message.Msg.TheVariants as msg
use Rattle.cx_client.specs.declared.asking.ClientOptions.{ClientOptions}
use Rattle.cx_client.specs.Client.{ClientState, client_hears, client_opened, client_start, client_takes, client_ticks}

-- the request of a number
abbrev write : ℕ → Event
write seq = event.Write (record { client = 0; seq = seq; floor = seq - 1; op = Del (97 ∷ []) }) 0

abbrev client : ClientState
client = client_opened one_of_each (role Client 0) (map write (1 ∷ 3 ∷ 64 ∷ 65 ∷ 66 ∷ [])) (record { window = 4; others = false })

-- the client after answers to these numbers, one after the other
abbrev after : List ℕ → ClientState → ClientState
after [] s = s
after (n ∷ ns) s = after ns (client_hears s n).state

-- the number and the floor of a command
abbrev numbers_in : Msg → List (ℕ × ℕ)
numbers_in (msg.Submit command) = (command.seq, command.floor) ∷ []
numbers_in other = []

abbrev told : List Letter → List (ℕ × ℕ)
told ds = flat_map (λ (d : Letter). numbers_in d.msg) ds

abbrev session : ℕ → Event
session seq = event.Session 0 seq (seq - 1) 0 (97 ∷ [])

abbrev reader : ClientState
reader = client_opened one_of_each (role Client 0) (map session (1 ∷ 3 ∷ [])) (record { window = 1; others = false })

-- an answer to a command that isn't outstanding
abbrev answer : ℕ → Letter
answer client = letter (role Unbatcher 0) (role Client client) (msg.Answer 9 5 Absent)

-- the client after it
abbrev reader_told : ClientState
reader_told = (client_takes reader (answer 0)).state

-- the number and the mark of a session
abbrev marks_in : Msg → List (ℕ × ℕ)
marks_in (msg.SessRead seq n key) = (seq, n) ∷ []
marks_in other = []

abbrev marked : List Letter → List (ℕ × ℕ)
marked ds = flat_map (λ (d : Letter). marks_in d.msg) ds

abbrev spread : Cluster
spread =
    record one_of_each {
      replicas = 3;
      batchers = 2;
      readers = 2;
      some_replicas = lit≤ tt;
      replicas_fit = lit≤ tt;
      some_batcher = lit≤ tt;
      batchers_fit = lit≤ tt;
      some_reader = lit≤ tt;
      readers_fit = lit≤ tt;
    }

-- a command to batcher 1, a read of reader 1 and replica 2, and a session with replica 2
abbrev asking : ClientOptions → ClientState
asking how = client_opened spread (role Client 0) (event.Write (record { client = 0; seq = 1; floor = 0; op = Del (97 ∷ []) }) 1
    ∷ event.Read 0 2 1 1 2 (97 ∷ []) ∷ event.Session 0 3 2 2 (97 ∷ []) ∷ []) how

-- all three outstanding at a time, and one of them
abbrev all_asked : ClientState
all_asked = asking (record { window = 3; others = true })

abbrev one_asked : ClientState
one_asked = asking (record { window = 1; others = true })

-- no others are asked
abbrev alone : ClientState
alone = asking (record { window = 3; others = false })

abbrev ticked : ClientState → ClientState
ticked s = (client_ticks s).state

-- whom a datagram goes to, and the replica that a read names
abbrev replica_in : Msg → List ℕ
replica_in (msg.ReadReq seq replica key) = replica ∷ []
replica_in other = []

abbrev whom : List Letter → List (RoleId × List ℕ)
whom ds = map (λ (d : Letter). (d.to, replica_in d.msg)) ds

pub record Worked : Type 0 where
  pub start : told (client_start client) ≡ (1, 0) ∷ (3, 0) ∷ (64, 0) ∷ []
  -- 65 is above 1 + 63
  pub answered : told (client_hears client 3).sends ≡ []
  -- 66 isn't outstanding
  pub unasked : (client_hears (after (3 ∷ []) client) 66).completes ≡ false
  pub tick : told (client_ticks (after (3 ∷ 66 ∷ []) client)).sends ≡ (1, 0) ∷ (64, 0) ∷ []
  pub first : told (client_hears (after (3 ∷ 66 ∷ []) client) 1).sends ≡ (65, 63) ∷ (66, 63) ∷ []
  pub middle : told (client_hears (after (3 ∷ 66 ∷ 1 ∷ []) client) 65).sends ≡ []
  pub later_tick : told (client_ticks (after (3 ∷ 66 ∷ 1 ∷ 65 ∷ []) client)).sends ≡ (64, 63) ∷ (66, 63) ∷ []
  pub session : marked (client_start reader) ≡ (1, 0) ∷ []
  -- what completes nothing is heard
  pub session_again : marked (client_ticks reader_told).sends ≡ (1, 5) ∷ []
  -- 2 isn't the greatest
  pub session_next : marked (client_takes reader_told (letter (role Replica 0) (role Client 0) (msg.ReadAnswer 1 2 None))).sends
      ≡ (3, 5) ∷ []
  -- a stranger's
  pub stranger : (client_takes reader (answer 1)).state.heard ≡ 0
  -- first those of the lines
  pub own : whom (client_start all_asked) ≡ (role Batcher 1, []) ∷ (role Reader 1, 2 ∷ []) ∷ (role Replica 2, []) ∷ []
  -- behind the last one comes the first
  pub others : whom (client_ticks all_asked).sends ≡ (role Batcher 0, []) ∷ (role Reader 0, 0 ∷ []) ∷ (role Replica 0, []) ∷ []
  pub others_again : whom (client_ticks (ticked all_asked)).sends
      ≡ (role Batcher 1, []) ∷ (role Reader 1, 1 ∷ []) ∷ (role Replica 1, []) ∷ []
  -- an answer to what isn't outstanding sets nothing back
  pub unanswered : whom (client_ticks (client_hears (ticked all_asked) 9).state).sends
      ≡ (role Batcher 1, []) ∷ (role Reader 1, 1 ∷ []) ∷ (role Replica 1, []) ∷ []
  -- what becomes outstanding goes to those of its line, and a tick then asks the next ones
  pub next_request : whom (client_hears (ticked (ticked one_asked)) 1).sends ≡ (role Reader 1, 2 ∷ []) ∷ []
  pub next_others : whom (client_ticks (client_hears (ticked (ticked one_asked)) 1).state).sends ≡ (role Reader 0, 0 ∷ []) ∷ []
  -- so do those that stay outstanding
  pub set_back : whom (client_ticks (client_hears (ticked (ticked all_asked)) 1).state).sends
      ≡ (role Reader 0, 0 ∷ []) ∷ (role Replica 0, []) ∷ []
  pub no_others : whom (client_ticks (ticked alone)).sends ≡ (role Batcher 1, []) ∷ (role Reader 1, 2 ∷ []) ∷ (role Replica 2, []) ∷ []
