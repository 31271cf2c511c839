-- The datagrams that were sent, as they are held.
use Rattle.std.specs.Prelude.{◌≡◌, ℕ, List, map, All}
use Rattle.cx_letter.specs.Letter.{Letter}
use Rattle.cx_msg.specs.Spelled.{IsShort, letter_of}
use Rattle.cx_history.specs.Answers.{answers_in, read_answers_in}

-- the datagrams that pieces of bytes hold
abbrev pub letters_of : List (List ℕ) → List Letter
letters_of pieces = map (λ (piece : List ℕ). letter_of piece) pieces

-- each piece holds a datagram, and of them this many answer a command, and this many a read or a session read
pub record AreSentPieces (pieces : List (List ℕ)) (answers reads : ℕ) : Type 0 where
  pub are_short : All IsShort pieces
  pub answers_are : answers ≡ answers_in (letters_of pieces)
  pub reads_are : reads ≡ read_answers_in (letters_of pieces)
