-- Sources and sinks in memory: what contracts see of them, and what a call does.
use Rattle.std.specs.Prelude.{ℕ, ◌+◌, min, nat_lt, Bool, ◌||◌, if◌then◌else◌, List, ◌++◌, length, drop, Option, Some}
use Rattle.cx_base.specs.Prelude.{one_more, is_in}
use Rattle.cx_edge.specs.declared.source.ReadEnd.{ReadEnd}
use Rattle.cx_edge.specs.declared.source.ReadEnd.TheVariants as read
use Rattle.cx_edge.specs.declared.sink.WriteEnd.{WriteEnd}
use Rattle.cx_edge.specs.declared.sink.WriteEnd.TheVariants as write

-- the bytes that are left, the number of the next call, the numbers of those that fail, and the count of faults
pub record SourceState : Type 0 where
  pub left : List ℕ
  pub call : ℕ
  pub failing : List ℕ
  pub faults : ℕ

abbrev pub source_left : SourceState → Option (List ℕ)
source_left s = Some s.left

abbrev pub source_faults : SourceState → ℕ
source_faults s = s.faults

-- a read into so much room gives as many bytes as it can, unless the call fails
abbrev pub source_read : SourceState → ℕ → ReadEnd
source_read s room = if is_in s.call s.failing then read.Failed else read.Got (min room (length s.left))

abbrev pub source_after : SourceState → ℕ → SourceState
source_after s room =
    if is_in s.call s.failing
    then record s { call = one_more s.call; faults = one_more s.faults }
    else record s { call = one_more s.call; left = drop (min room (length s.left)) s.left }

-- the bytes that were taken, how many there may be, the number of the next call, the numbers of those that fail, and the count of faults
pub record SinkState : Type 0 where
  pub taken : List ℕ
  pub room : ℕ
  pub call : ℕ
  pub failing : List ℕ
  pub faults : ℕ

abbrev pub sink_taken : SinkState → Option (List ℕ)
sink_taken s = Some s.taken

abbrev pub sink_faults : SinkState → ℕ
sink_faults s = s.faults

-- whether the next call fails: it is one of those, or the piece is too long for the room
abbrev pub write_fails : SinkState → List ℕ → Bool
write_fails s piece = is_in s.call s.failing || nat_lt s.room (length s.taken + length piece)

-- a write takes the whole piece, unless the call fails
abbrev pub sink_write : SinkState → List ℕ → WriteEnd
sink_write s piece = if write_fails s piece then write.Failed else write.Took (length piece)

abbrev pub sink_after : SinkState → List ℕ → SinkState
sink_after s piece =
    if write_fails s piece
    then record s { call = one_more s.call; faults = one_more s.faults }
    else record s { call = one_more s.call; taken = s.taken ++ piece }
