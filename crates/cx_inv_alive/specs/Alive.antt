-- NO DEAD ENDS. From each world that any list of events reaches, while room is left, further events bring an answer to each command that
-- was submitted. Nothing of it is proved here.
use Rattle.std.specs.Prelude.{◌≡◌, ℕ, ◌+◌, ◌==◌, ◌&&◌, ◌||◌, not, Bool, true, false, nat_lt, nat_le, filter, is_none, List, [], ◌∷◌}
use Rattle.std.specs.Prelude.{length, Option, None, Some}
use Rattle.cx_model.specs.Prelude.{list_all, Cluster, Command, Reply, Value, Event, Lead, Shape, RoleId, commands_of, IsGrid, below}
use Rattle.cx_model.specs.Prelude.{floor_of}
use Rattle.cx_model.specs.Prelude.{is_done, role, Entry, Vote, Letter, letter, AcceptorDurable, acceptor_rules, LeaderDurable, leader_rules}
use Rattle.cx_model.specs.Prelude.{round_of, enough, first_set, MatchmakerDurable, matchmaker_rules, is_stopped, Member, ReplicaDurable}
use Rattle.cx_model.specs.Prelude.{held, replica_rules, World, run, run_from, durable_part}
use Rattle.cx_base.specs.declared.event.Event.TheVariants as event
use Rattle.cx_base.specs.declared.event.Order.{Order}
use Rattle.cx_base.specs.declared.event.Order.TheVariants.{Change}
use Rattle.cx_base.specs.declared.role.Kind.TheVariants as kind
use Rattle.cx_base.specs.Grid.{grid_fault, make_grid}
use Rattle.cx_letter.specs.declared.message.Msg.TheVariants as msg
use Rattle.cx_model.specs.Matchmaker.{has_place}

-- the client's command was submitted to this batcher
abbrev pub submitted : Command → ℕ → Letter
submitted command batcher = letter (role kind.Client command.client) (role kind.Batcher batcher) (msg.Submit command)

-- an answer to the command's number was sent to its client
pub record IsAnswered (command : Command) (w : World) : Type 0 where
  pub from : RoleId
  pub at : ℕ
  pub reply : Reply
  pub answered : Member (letter from (role kind.Client command.client) (msg.Answer command.seq at reply)) w.sent

-- What may help: roles crash and are opened again, tick and get datagrams, and leaders are ordered to lead over grids that the program's
-- type of a grid takes. No client asks anew, no replica snaps, and no other order is given.
abbrev pub may_help : Event → Bool
may_help (event.Crash r) = true
may_help (event.Restart r) = true
may_help (event.Tick r) = true
may_help (event.Deliver number cut) = true
may_help (event.Order leader (Lead g) cut) = is_none (grid_fault g.rows g.cols g.members)
may_help other = false

-- so it is after some further events of these kinds
abbrev pub CanBeAnswered : World → Command → Type 0
CanBeAnswered w command = (more : List Event) × (list_all may_help more ≡ true) × IsAnswered command (run_from w more)

-- what the stores of a world say

abbrev pub leader_store : World → ℕ → LeaderDurable
leader_store w l = durable_part leader_rules (role kind.Leader l) w.kept

abbrev pub acceptor_store : World → ℕ → AcceptorDurable
acceptor_store w a = durable_part acceptor_rules (role kind.Acceptor a) w.kept

abbrev pub matchmaker_store : World → ℕ → MatchmakerDurable
matchmaker_store w m = durable_part matchmaker_rules (role kind.Matchmaker m) w.kept

abbrev pub replica_store : World → ℕ → ReplicaDurable
replica_store w p = durable_part replica_rules (role kind.Replica p) w.kept

-- THE CONDITIONS, of stores alone: whatever else a role knows goes when it is opened again.

-- A matchmaker that hasn't stopped has room for a round over acceptor 0 alone: it has fewer than 16, or, where the cluster has one entry a
-- grid, one of them with that grid.
abbrev pub takes_a_round : Cluster → MatchmakerDurable → Bool
takes_a_round c d = not (is_stopped d) && has_place c (make_grid 1 1 (0 ∷ [])) d.entries

-- each grid that one recorded has rows, of which a first phase asks; the program's type of a grid says so
abbrev pub HasGrids : Cluster → World → Type 0
HasGrids c w = (m : ℕ) (e : Entry) → Member m (first_set c) → Member e (matchmaker_store w m).entries → IsGrid e.grid

-- The grid of an order to a leader.
abbrev pub grid_in : Order → Option Shape
grid_in (Lead g) = Some g
grid_in (Change g) = Some g
grid_in other = None

abbrev pub ordered_grid : Event → Option Shape
ordered_grid (event.Order leader order cut) = grid_in order
ordered_grid other = None

-- the grids of all orders have rows
abbrev pub OrdersHaveGrids : List Event → Type 0
OrdersHaveGrids es = (e : Event) (g : Shape) → Member e es → ordered_grid e ≡ Some g → IsGrid g

-- Then those that were recorded have: each one was ordered.
abbrev pub GridsComeFromOrders : Type 0
GridsComeFromOrders = (c : Cluster) (es : List Event) → OrdersHaveGrids es → HasGrids c (run c es)

-- All rounds in the stores are below this one, which isn't past the last, 2^32 - 1: a leader begins it.
pub record RoundsLeft (c : Cluster) (w : World) (r : ℕ) : Type 0 where
  pub reachable : nat_le r 4294967295 ≡ true
  pub leaders : list_all (λ l. nat_lt (round_of (leader_store w l).own).r r) (below c.leaders) ≡ true
  pub acceptors : list_all (λ a. nat_lt (acceptor_store w a).promise.r r) (below c.acceptors) ≡ true
  pub watermarks : list_all (λ m. nat_lt (matchmaker_store w m).watermark.r r) (first_set c) ≡ true
  pub entries : list_all (λ m. list_all (λ (e : Entry). nat_lt e.round.r r) (matchmaker_store w m).entries) (first_set c) ≡ true

-- A slot, of 2^40, is left above all that are held or were voted in: the command takes it.
pub record SlotsLeft (c : Cluster) (w : World) : Type 0 where
  pub replicas : list_all (λ p. nat_lt (held (replica_store w p)) 1099511627776) (below c.replicas) ≡ true
  pub votes : list_all (λ a. list_all (λ (v : Vote). nat_lt (v.slot + 1) 1099511627776) (acceptor_store w a).votes) (below c.acceptors)
      ≡ true

-- a command of another client, or one that tells a floor below this number
abbrev pub tells_less : ℕ → ℕ → Command → Bool
tells_less client seq x = not (x.client == client) || nat_lt x.floor seq

abbrev pub tell_less : ℕ → ℕ → Value → Bool
tell_less client seq v = list_all (tells_less client seq) (commands_of v)

-- No replica, and no vote, knows that the client is done with the number: one that said so gets no answer.
pub record StillWaits (c : Cluster) (w : World) (command : Command) : Type 0 where
  pub replicas : list_all (λ p. not (is_done command.seq (floor_of command.client (replica_store w p).machine.table.floors)))
      (below c.replicas) ≡ true
  pub votes : list_all (λ a. list_all (λ (v : Vote). tell_less command.client command.seq v.value) (acceptor_store w a).votes)
      (below c.acceptors) ≡ true

-- Room is left: f + 1 of the first set of matchmakers, for which a leader waits, record a round more, and rounds and slots are left.
pub record IsRoomy (c : Cluster) (w : World) (command : Command) : Type 0 where
  pub matchmakers : nat_le (enough c) (length (filter (λ m. takes_a_round c (matchmaker_store w m)) (first_set c))) ≡ true
  pub grids : HasGrids c w
  pub round : ℕ
  pub rounds : RoundsLeft c w round
  pub slots : SlotsLeft c w
  pub waits : StillWaits c w command

-- THE THEOREM: each command that was submitted to a batcher can be answered, while room is left.
abbrev pub NoDeadEnds : Cluster → List Event → Type 0
NoDeadEnds c es =
    (command : Command) (batcher : ℕ) → nat_lt command.client c.clients ≡ true → nat_lt batcher c.batchers ≡ true
    → Member (submitted command batcher) (run c es).sent
    → IsRoomy c (run c es) command → CanBeAnswered (run c es) command
