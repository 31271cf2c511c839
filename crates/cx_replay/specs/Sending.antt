-- The line of one datagram among those that were sent.
use Rattle.std.specs.Prelude.{ℕ, List, [], Option, None, Some}
use Rattle.cx_letter.specs.Letter.{Letter}
use Rattle.cx_trace.specs.Trace.{datagram_text}

-- the line of the datagram of a number, and nothing where it wasn't sent
abbrev pub sent_line_text : ℕ → Option Letter → List ℕ
sent_line_text n None = []
sent_line_text n (Some d) = datagram_text n d
