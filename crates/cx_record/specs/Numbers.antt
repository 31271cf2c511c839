-- The numbers of the datagrams that a recording node has sent, and the room that its record has.
use Rattle.std.specs.Prelude.{ℕ, ◌+◌, Bool, nat_le, List, [], ◌∷◌, ◌++◌, bytes_eq, Option, None, Some, if◌then◌else◌}
use Rattle.cx_letter.specs.Letter.{Letter}
use Rattle.cx_msg.specs.Datagrams.{spelling}

-- What a recording node knows of its record: the datagrams that its roles have sent, in the order of sending, and how many lines it has.
pub record Recorded : Type 0 where
  pub sent : List Letter
  pub lines : ℕ

-- nothing was sent, and no line was written
abbrev pub blank : Recorded
blank = record { sent = []; lines = 0 }

-- a datagram that was sent, with its number: datagrams are numbered from 0, in the order of sending
pub record Numbered : Type 0 where
  pub number : ℕ
  pub letter : Letter

abbrev pub numbered : ℕ → Letter → Numbered
numbered n d = record { number = n; letter = d }

abbrev pub or_else : {A : Type 0} → Option A → Option A → Option A
or_else None other = other
or_else (Some x) other = Some x

-- the last one with these bytes among datagrams that are numbered from n on
abbrev pub last_from : ℕ → List ℕ → List Letter → Option Numbered
last_from n bytes [] = None
last_from n bytes (d ∷ ds) = or_else (last_from (n + 1) bytes ds) (if bytes_eq (spelling d) bytes then Some (numbered n d) else None)

-- the last datagram with these bytes that was sent
unfoldable pub last_sent : List ℕ → List Letter → Option Numbered
last_sent bytes sent = last_from 0 bytes sent

-- the most lines that a record has, as a schedule may have
abbrev pub most_lines : ℕ
most_lines = 65535

-- whether a record has room for so many lines more
abbrev pub has_room : ℕ → Recorded → Bool
has_room more r = nat_le (r.lines + more) most_lines

-- so many lines more, and these datagrams
abbrev pub with_step : ℕ → List Letter → Recorded → Recorded
with_step more sends r = record { sent = r.sent ++ sends; lines = r.lines + more }
