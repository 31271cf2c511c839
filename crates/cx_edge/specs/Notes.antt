-- Datagrams that are noted in one list of bytes.
use Rattle.std.specs.Prelude.{◌≡◌, ◌≤◌, ◌+◌, ℕ, Bool, if◌then◌else◌, List, [], ◌∷◌, ◌++◌, length, take, slice_range, map, Option, None}
use Rattle.std.specs.Prelude.{Some, option_map, IfSome, All}
use Rattle.cx_edge.specs.declared.link.TakeEnd.{TakeEnd}
use Rattle.cx_edge.specs.declared.link.TakeEnd.TheVariants.{Got, Nothing, Failed}
use Rattle.cx_edge.specs.declared.pieces.Piece.{Piece}
use Rattle.cx_edge.specs.declared.pieces.SentRow.{SentRow}
use Rattle.cx_edge.specs.declared.pieces.FrontRow.{FrontRow}
use Rattle.cx_edge.specs.Link.{Sending}

-- what was taken and sent, in order of time, and what waits to be taken
pub record NotesState : Type 0 where
  pub taken : List (Option (List ℕ))
  pub sent : List Sending
  pub waiting : List (List ℕ)

abbrev pub bytes_at : List ℕ → Piece → List ℕ
bytes_at bytes piece = slice_range bytes piece.start (piece.start + piece.len)

abbrev pub told_taken : List ℕ → Option Piece → Option (List ℕ)
told_taken bytes piece = option_map (bytes_at bytes) piece

abbrev pub told_sent : List ℕ → SentRow → Sending
told_sent bytes row = record { from = row.from; port = row.port; bytes = bytes_at bytes row.piece }

-- what the places say
abbrev pub notes_state : List ℕ → List (Option Piece) → List SentRow → List Piece → NotesState
notes_state bytes takes sends queue =
    record { taken = map (told_taken bytes) takes; sent = map (told_sent bytes) sends; waiting = map (bytes_at bytes) queue }

-- the place lies in n bytes
abbrev pub Fits : ℕ → Piece → Type 0
Fits n piece = piece.start + piece.len ≤ n

abbrev pub TakenFits : ℕ → Option Piece → Type 0
TakenFits n piece = IfSome piece (Fits n)

abbrev pub SentFits : ℕ → SentRow → Type 0
SentFits n row = Fits n row.piece

abbrev pub FrontFits : ℕ → FrontRow → Type 0
FrontFits n row = Fits n row.piece

-- all places lie in n bytes
pub record NotesFit (n : ℕ) (takes : List (Option Piece)) (sends : List SentRow) (queue : List Piece) (rows : List FrontRow) : Type 0 where
  pub taken : All (TakenFits n) takes
  pub sent : All (SentFits n) sends
  pub waiting : All (Fits n) queue
  pub fronts : All (FrontFits n) rows

-- a list with one more at its end, unless that is lost
abbrev pub keeping : {T : Type 0} → Bool → List T → T → List T
keeping is_lost list one = if is_lost then list else list ++ one ∷ []

-- what was sent is noted, and waits unless it is lost
abbrev pub with_sending : Bool → Sending → NotesState → NotesState
with_sending is_lost sending n = record n { sent = n.sent ++ sending ∷ []; waiting = keeping is_lost n.waiting sending.bytes }

-- The first that waits is taken, cut to the buffer, and noted. Without room for noting nothing is taken.
abbrev pub NotesTake : NotesState → NotesState → List ℕ → TakeEnd → Type 0
NotesTake old new buffer (Got count) = (first : List ℕ) × (rest : List (List ℕ)) × (old.waiting ≡ first ∷ rest) × (count ≤ length buffer)
    × (take count buffer ≡ take (length buffer) first)
    × (new ≡ record { taken = old.taken ++ Some (take count buffer) ∷ []; sent = old.sent; waiting = rest })
NotesTake old new buffer Nothing = (old.waiting ≡ []) × (new ≡ record old { taken = old.taken ++ None ∷ [] })
NotesTake old new buffer Failed = new ≡ old
