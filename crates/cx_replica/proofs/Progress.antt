-- How far commands have been executed.
use Rattle.cx_role.proofs.Common.{◌≡◌, ℕ, ◌+◌, ◌<◌, ◌≤◌, List, ◌++◌, length, drop, get_or, append_assoc, arith, IsTrue, Answered, Command}
use Rattle.cx_role.proofs.Common.{Cluster, Value, RoleId, command_list, commands_of, Letter, Machine, execute, execute_all, machine_from}
use Rattle.cx_model.specs.Replica.{execute_value, results_at, results_from}
use Rattle.cx_replica.specs.Room.{HasRoom, LeavesRoom, MachineState}
use Rattle.cx_replica.specs.Sound.{are_answers}
use Rattle.cx_replica.proofs.Roomy.{next_one}
use Rattle.cx_role.specs.Outbox.{Outgoing}

-- a machine, the answers so far, and the commands that are left, on the way from a machine and all commands
pub record IsOnWay (n : ℕ) (first : Machine) (all : List Command) (now : Machine) (answers : List Answered)
    (left : List Command) : Type 0 where
  pub machine : (execute_all n now left).machine ≡ (execute_all n first all).machine
  pub answers_are : answers ++ (execute_all n now left).answers ≡ (execute_all n first all).answers
  pub fit : IsTrue (are_answers answers)

-- one command further
pub way_on : (n : ℕ) (first now next : Machine) (answers more : List Answered) (cs : List Command) (i : ℕ) (c : Command)
    → i < length cs → c ≡ get_or cs i c → IsOnWay n first cs now answers (drop i cs)
    → next ≡ (execute n now c).machine → more ≡ answers ++ (execute n now c).answers → IsTrue (are_answers more)
    → IsOnWay n first cs next more (drop (i + 1) cs)
way_on n first now next answers more cs i c l e way machine is fit =
    let here = rw (next_one cs i c l e) at way in
    record {
      machine = rw machine here.machine;
      answers_are = rw (is, machine, append_assoc) here.answers_are;
      fit = fit;
    }

-- room for the answers of the commands after the first ones
abbrev pub AnswersFit : ℕ → ℕ → ℕ → ℕ → Type 0
AnswersFit commands index capacity held = held + commands ≤ capacity + index

-- a machine on the way from a first machine over all values, of which some are left, with room for these
pub record IsAmong (slot : ℕ) (first : Machine) (all : List Value) (now : MachineState) (index : ℕ) : Type 0 where
  pub machine : machine_from (slot + index) now.left (drop index all) ≡ machine_from slot first all
  pub room : HasRoom now (command_list (drop index all))

-- the same, with what was sent on the way
pub record HasSent (c : Cluster) (me : RoleId) (slot : ℕ) (first : Machine) (all : List Value) (before : Outgoing)
    (now : MachineState) (vacant : ℕ) (out : Outgoing) (index : ℕ) : Type 0 where
  pub among : IsAmong slot first all now index
  pub sends : out.list ++ results_from c me (slot + index) now.left (drop index all)
      ≡ before.list ++ results_from c me slot first all
  pub rooms : length all ≤ vacant + index
  pub spare : length all ≤ out.spare + index
  pub grown : before.spare ≤ out.spare + index

-- one value further
module _ (slot : ℕ) (values : List Value) (i : ℕ) (v : Value) (l : i < length values) (e : v ≡ get_or values i v) where
  further : (slot + i) + 1 ≡ slot + (i + 1)
  further = omega arith

  pub among_on : (first : Machine) (now next : MachineState) → next.left ≡ (execute_value (slot + i) now.left v).machine
      → LeavesRoom now (commands_of v) next → IsAmong slot first values now i → IsAmong slot first values next (i + 1)
  among_on first now next ran leaves so_far = record {
    machine = rw (ran, ← further) (rw (next_one values i v l e) at so_far.machine);
    room = leaves (command_list (drop (i + 1) values)) (rw (next_one values i v l e) at so_far.room);
  }

  pub sends_on : (c : Cluster) (me : RoleId) (now next : Machine) (sent more all : List Letter)
      (answers : List Answered)
      → next ≡ (execute_value (slot + i) now v).machine → answers ≡ (execute_value (slot + i) now v).answers
      → more ≡ sent ++ results_at c me (slot + i) answers
      → sent ++ results_from c me (slot + i) now (drop i values) ≡ all
      → more ++ results_from c me (slot + (i + 1)) next (drop (i + 1) values) ≡ all
  sends_on c me now next sent more all answers ran given is so_far =
      rw (is, given, ran, ← further, append_assoc) (rw (next_one values i v l e) at so_far)
