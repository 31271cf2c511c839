-- Room for commands, of which some are executed.
use Rattle.std.proofs.Common.{add-one, drop-cons}
use Rattle.cx_role.proofs.Common.{◌≡◌, ◌⊎◌, ℕ, suc, ◌+◌, ◌*◌, ◌<◌, ◌≤◌, Bool, true, false, List, [], ◌∷◌, ◌++◌, length, inl, inr, ap, sym}
use Rattle.cx_role.proofs.Common.{subst, ◌∙◌, refl, arith, append-nil, drop, get_or, take, ◌==◌, if◌then◌else◌, cases_Bool, eqb-true}
use Rattle.cx_role.proofs.Common.{append_assoc, length-append, take_more, command_list, commands_of, Command, Value}
use Rattle.cx_table.specs.State.{KeepsRoom, Room, room_for}
use Rattle.cx_replica.specs.Room.{HasRoom, IsRoomFor, MachineState, command_count_of}

count-append : (client : ℕ) (cs ds : List Command)
    → command_count_of client (cs ++ ds) ≡ command_count_of client cs + command_count_of client ds
count-append client [] ds = omega arith
count-append client (c ∷ cs) ds = go (c.client == client) (command_count_of client (cs ++ ds)) (command_count_of client cs)
    (command_count_of client ds) (count-append client cs ds)
  where
    go : (b : Bool) (all n m : ℕ) → all ≡ n + m → (if b then all + 1 else all) ≡ (if b then n + 1 else n) + m
    go true all n m e = omega arith
    go false all n m e = e

-- room for commands, before others
pub front_room : (m : MachineState) (cs ds : List Command) → HasRoom m (cs ++ ds) → HasRoom m cs
front_room m cs ds room = record {
  keys = (let all = room.keys in omega (arith, length-append cs ds));
  answers = λ client. (let all = room.answers client in omega (arith, count-append client cs ds));
}

-- room for one command more of a client
room_more : (old new : List Room) (cs : List Command) (c : Command) → IsRoomFor old cs → KeepsRoom old new
    → command_count_of c.client cs + 1 ≤ room_for c.client new → IsRoomFor new (cs ++ c ∷ [])
room_more old new cs c room room_stays enough client =
    rw (count-append client cs (c ∷ [])) (go (cases_Bool (c.client == client)))
  where
    go : ((c.client == client) ≡ true) ⊎ ((c.client == client) ≡ false)
        → command_count_of client cs + command_count_of client (c ∷ []) ≤ room_for client new
    go (inl t) =
        let own : command_count_of client cs + 1 ≤ room_for client new =
        subst (λ (k : ℕ). command_count_of k cs + 1 ≤ room_for k new) (eqb-true c.client client t) enough in
        rw t (omega arith)
    go (inr t) = (let before = room client in let after = room_stays client in rw t (omega arith))

commands_behind : (vs : List Value) (v : Value) → command_list (vs ++ v ∷ []) ≡ command_list vs ++ commands_of v
commands_behind [] v = append-nil (commands_of v)
commands_behind (w ∷ vs) v =
    ap (λ (cs : List Command). commands_of w ++ cs) (commands_behind vs v)
    ∙ sym (append_assoc (commands_of w) (command_list vs) (commands_of v))

-- an element is the first of those that are left, and the last of those that are done once it is
module _ {A : Type 0} (list : List A) (i : ℕ) (x : A) (l : i < length list) (e : x ≡ get_or list i x) where
  pub next_one : drop i list ≡ x ∷ drop (i + 1) list
  next_one = rw add-one (drop-cons list i x l ∙ ap (λ y. y ∷ drop (suc i) list) (sym e))

  one_taken : take (i + 1) list ≡ take i list ++ x ∷ []
  one_taken = take_more list i x l ∙ ap (λ y. take i list ++ y ∷ []) (sym e)

-- one command further
module _ (cs : List Command) (i : ℕ) (c : Command) (l : i < length cs) (e : c ≡ get_or cs i c) where
  -- room for it beside those of values
  pub room_on : (old new : List Room) (values : List Value) → IsRoomFor old (command_list values ++ take i cs)
      → KeepsRoom old new → (before one : ℕ) → before ≡ command_count_of c.client (command_list values)
      → one ≡ command_count_of c.client (take i cs) → before + one + 1 ≤ room_for c.client new
      → IsRoomFor new (command_list values ++ take (i + 1) cs)
  room_on old new values room room_stays before one is here enough =
      let both : command_count_of c.client (command_list values ++ take i cs) ≡ before + one =
      count-append c.client (command_list values) (take i cs) ∙ rw (is, here) refl in
      rw (one_taken cs i c l e, ← append_assoc (command_list values) (take i cs) (c ∷ []))
      (room_more old new (command_list values ++ take i cs) c room room_stays (rw both enough))

  pub command_room : (m : MachineState) → HasRoom m (drop i cs ++ []) → HasRoom m (c ∷ [])
  command_room m room = front_room m (c ∷ []) (drop (i + 1) cs ++ []) (rw (next_one cs i c l e) at room)

-- one value further
module _ (values : List Value) (i : ℕ) (v : Value) (l : i < length values) (e : v ≡ get_or values i v) where
  pub counted_on : (client count n all : ℕ) → n ≡ command_count_of client (commands_of v)
      → count + command_count_of client (command_list (drop i values)) ≡ all
      → (count + n) + command_count_of client (command_list (drop (i + 1) values)) ≡ all
  counted_on client count n all is so_far =
      let rest : command_count_of client (command_list (drop i values))
      ≡ command_count_of client (commands_of v) + command_count_of client (command_list (drop (i + 1) values)) =
      rw (next_one values i v l e) (count-append client (commands_of v) (command_list (drop (i + 1) values))) in
      omega arith

  pub room_for_more : (rooms : List Room) (cs : List Command) → cs ≡ commands_of v
      → IsRoomFor rooms (command_list (take i values) ++ cs) → IsRoomFor rooms (command_list (take (i + 1) values))
  room_for_more rooms cs is room = rw (one_taken values i v l e, commands_behind (take i values) v, ← is) room

  pub few_on : (cs : List Command) → cs ≡ commands_of v → length cs ≤ 8
      → length (command_list (take i values)) ≤ 8 * i → length (command_list (take (i + 1) values)) ≤ 8 * (i + 1)
  few_on cs is few all =
      rw (one_taken values i v l e, commands_behind (take i values) v, ← is)
      (omega (arith, length-append (command_list (take i values)) cs))

  pub value_room : (m : MachineState) → HasRoom m (command_list (drop i values)) → HasRoom m (commands_of v)
  value_room m room =
      front_room m (commands_of v) (command_list (drop (i + 1) values)) (rw (next_one values i v l e) at room)
