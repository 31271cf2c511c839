-- What is noted of the requests that were sent.
use Rattle.std.specs.Prelude.{◌≡◌, ◌<◌, ◌==◌, ◌&&◌, ◌||◌, ◌++◌, not, max, nat_eq, ℕ, Bool, false, true, if◌then◌else◌, List, Option, None}
use Rattle.std.specs.Prelude.{Some, is_some, length, slice_get, bytes_eq}
use Rattle.std.specs.Map.{lookup}
use Rattle.cx_model.specs.Prelude.{list_any, is_done, Event, Happened, Token, floor_in, same_read}
use Rattle.cx_history.specs.Requests.{asked, asks_another, has_token, has_floor_past}
use Rattle.cx_history.specs.declared.requests.Asked.{Asked}
use Rattle.cx_history.specs.declared.requests.Asked.TheVariants.{One, Several}
use Rattle.cx_history.specs.declared.requests.Number.{Number}

-- of each client's number what was asked with it, the pieces of bytes that say this, and of each client the greatest floor
pub record RequestsState : Type 0 where
  pub asked : List (Number × Asked)
  pub pieces : List (List ℕ)
  pub floors : List (ℕ × ℕ)

abbrev pub token_number : Token → Number
token_number t = record { client = t.client; seq = t.seq }

abbrev pub is_equal_number : Number → Number → Bool
is_equal_number a b = (a.client == b.client) && (a.seq == b.seq)

-- what was asked with a client's number, none where nothing was
abbrev pub asked_with : Token → List (Number × Asked) → Option Asked
asked_with t entries = lookup (is_equal_number (token_number t)) entries

-- the greatest floor that a client told, none where it sent nothing
abbrev pub floor_told : ℕ → List (ℕ × ℕ) → Option ℕ
floor_told client floors = lookup (nat_eq client) floors

-- the greatest floor of a client once it tells one more
abbrev pub max_floor : Option ℕ → ℕ → ℕ
max_floor None floor = floor
max_floor (Some told) floor = max told floor

-- whether something else was asked than this, with a number or in the piece that says it
abbrev pub is_unlike : List ℕ → Option (List ℕ) → Bool
is_unlike asks None = true
is_unlike asks (Some others) = not (bytes_eq asks others)

abbrev pub asks_other : List (List ℕ) → Option Asked → List ℕ → Bool
asks_other pieces None asks = false
asks_other pieces (Some (One piece)) asks = is_unlike asks (slice_get pieces piece)
asks_other pieces (Some Several) asks = true

-- the piece that says what was asked is there
abbrev pub IsPiecePlace : List (List ℕ) → Option Asked → Type 0
IsPiecePlace pieces None = Unit {0}
IsPiecePlace pieces (Some (One piece)) = piece < length pieces
IsPiecePlace pieces (Some Several) = Unit {0}

abbrev pub ArePlaces : List (List ℕ) → List (Number × Asked) → Type 0
ArePlaces pieces entries = (t : Token) → IsPiecePlace pieces (asked_with t entries)

-- one request more: what was asked with its number, and its client's greatest floor
pub record IsRequestNoted (u : Token) (floor : ℕ) (asks : List ℕ) (old new : RequestsState) : Type 0 where
  pub one : Asked
  pub more : List (List ℕ)
  pub pieces : new.pieces ≡ old.pieces ++ more
  pub place : IsPiecePlace new.pieces (Some one)
  pub others : (other : List ℕ)
      → asks_other new.pieces (Some one) other ≡ (asks_other old.pieces (asked_with u old.asked) other || not (bytes_eq other asks))
  pub numbers : (t : Token) → asked_with t new.asked ≡ (if same_read u t then Some one else asked_with t old.asked)
  pub floors : (client : ℕ) → floor_told client new.floors
      ≡ (if u.client == client then Some (max_floor (floor_told u.client old.floors) floor) else floor_told client old.floors)

-- a request that was sent is noted, and nothing else is
abbrev pub NotesRequest : Option Token → Event → RequestsState → RequestsState → Type 0
NotesRequest None e old new = new ≡ old
NotesRequest (Some u) e old new = IsRequestNoted u (floor_in e) (asked e) old new

-- what is noted answers the tests of `is_stale` over all events
pub record IsRequestsStateOf (events : List Happened) (requests : RequestsState) : Type 0 where
  pub places : ArePlaces requests.pieces requests.asked
  pub numbers : (t : Token) → list_any (has_token t) events ≡ is_some (asked_with t requests.asked)
  pub others : (t : Token) (e : Event)
      → list_any (asks_another t e) events ≡ asks_other requests.pieces (asked_with t requests.asked) (asked e)
  pub floors : (t : Token) → list_any (has_floor_past t) events ≡ is_done t.seq (floor_told t.client requests.floors)

-- `is_stale` of the model, by what is noted
abbrev pub is_stale_by : Token → List ℕ → RequestsState → Bool
is_stale_by t asks requests = asks_other requests.pieces (asked_with t requests.asked) asks
    || (not (is_some (asked_with t requests.asked)) && is_done t.seq (floor_told t.client requests.floors))

-- how many events there are, and what is noted of the requests among them that were sent
pub record IsEventsSummary (events : List Happened) (count : ℕ) (requests : RequestsState) : Type 0 where
  pub count_is : count ≡ length events
  pub tells : IsRequestsStateOf events requests
