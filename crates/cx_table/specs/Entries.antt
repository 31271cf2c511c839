-- What is held of each client, and how it is the table that contracts see.
use Rattle.std.specs.Prelude.{◌≡◌, ℕ, ◌-◌, ◌≤◌, ◌==◌, Bool, true, false, List, [], ◌∷◌, Option, None, Some, max, nat_eq, nat_lt, filter}
use Rattle.std.specs.Prelude.{slice_get, vec_capacity, vec_len}
use Rattle.std.specs.List.Sorted.{IsPartitionPoint}
use Rattle.cx_base.specs.Prelude.{list_all, lookup, rises, Table, are_rising, comes_before, floor_of}
use Rattle.cx_base.specs.declared.command.Answered.{Answered}
use Rattle.cx_base.specs.declared.command.Note.{Note}
use Rattle.cx_table.specs.State.{Room}
use Rattle.cx_table.specs.declared.entry.ClientEntry.{ClientEntry}

-- the answers of a client
abbrev pub of_client : ℕ → List Answered → List Answered
of_client client notes = filter (λ (a : Answered). a.client == client) notes

-- whether all answers are a client's
abbrev pub are_of : ℕ → List Answered → Bool
are_of client notes = list_all (λ (a : Answered). a.client == client) notes

-- the answer to a client's number
abbrev pub answer_of : ℕ → Note → Answered
answer_of client n = record { client = client; seq = n.seq; at = n.at; reply = n.reply }

-- whether a note is of a lower number than another
abbrev pub has_lower : Note → Note → Bool
has_lower n later = nat_lt n.seq later.seq

-- whether all notes are of numbers above a floor
abbrev pub are_notes_above : ℕ → List Note → Bool
are_notes_above floor notes = list_all (λ (n : Note). nat_lt floor n.seq) notes

-- whether an answer is to a lower number than another
abbrev pub is_lower : Answered → Answered → Bool
is_lower a b = nat_lt a.seq b.seq

-- the answers to numbers above a floor
abbrev pub above : ℕ → List Answered → List Answered
above floor notes = filter (λ (a : Answered). nat_lt floor a.seq) notes

-- the answers before a place are to numbers below this one, and no other is
abbrev pub IsPlace : ℕ → List Answered → ℕ → Type 0
IsPlace seq notes place =
    IsPartitionPoint (λ (a : Answered). nat_lt a.seq seq ≡ true)
    (λ (a : Answered). nat_lt a.seq seq ≡ false) notes place

-- whether a client told a floor, and its number is above that
abbrev pub is_above_floor : ℕ → Option ℕ → Bool
is_above_floor seq None = false
is_above_floor seq (Some floor) = nat_lt floor seq

-- whether each answer lies above its client's floor
abbrev pub are_above : Table → Bool
are_above t = list_all (λ (a : Answered). is_above_floor a.seq (floor_of a.client t.floors)) t.notes

-- the greater one of a client's floor and another
abbrev pub max_floor : Option ℕ → ℕ → ℕ
max_floor None told = told
max_floor (Some floor) told = max floor told

-- the floor, the answers and the room that an entry has
abbrev pub floor_of_entry : Option ClientEntry → Option ℕ
floor_of_entry None = None
floor_of_entry (Some e) = e.floor

abbrev pub notes_in : Option ClientEntry → List Answered
notes_in None = []
notes_in (Some e) = e.notes.items

abbrev pub room_in : Option ClientEntry → ℕ
room_in None = 0
room_in (Some e) = vec_capacity e.notes - vec_len e.notes

abbrev pub rooms_in : List (ℕ × ClientEntry) → List Room
rooms_in [] = []
rooms_in (e ∷ es) = record { client = e.0; count = room_in (Some e.1) } ∷ rooms_in es

-- at this place is a client's entry
pub record IsEntryAt (client : ℕ) (entries : List (ℕ × ClientEntry)) (place : ℕ) : Type 0 where
  pub entry : ClientEntry
  pub there : slice_get entries place ≡ Some (client, entry)
  pub found : lookup (nat_eq client) entries ≡ Some entry

-- and it has room for so many more answers
pub record IsRoomAt (client count : ℕ) (entries : List (ℕ × ClientEntry)) (place : ℕ) : Type 0 where
  pub at : IsEntryAt client entries place
  pub room : count ≤ room_in (Some at.entry)

-- each client's entry holds what the table has of the client; the table rises, and its answers lie above their clients'
-- floors
pub record AreClientEntries (t : Table) (entries : List (ℕ × ClientEntry)) : Type 0 where
  pub floors_rise : are_rising 0 t.floors ≡ true
  pub notes_rise : rises comes_before t.notes ≡ true
  pub above : are_above t ≡ true
  pub floors : (client : ℕ) → floor_of_entry (lookup (nat_eq client) entries) ≡ floor_of client t.floors
  pub notes : (client : ℕ) → notes_in (lookup (nat_eq client) entries) ≡ of_client client t.notes
