-- The formats of records.
use Rattle.std.specs.Prelude.{ℕ, Bool, List, [], ◌∷◌}
use Rattle.cx_base.specs.Grid.{Shape as GridShape}
use Rattle.cx_base.specs.declared.round.Round.{Round}
use Rattle.cx_base.specs.declared.command.Value.{Value}
use Rattle.cx_base.specs.declared.command.Note.{Note}
use Rattle.cx_wire.specs.Format.{Format, u8, u16, u32, u64, then_by, ◌▷◌, TaggedBytes, shape, Case, case, tagged}
use Rattle.cx_field.specs.Fields.{slot, mark, seq, round, round0, grid, value, values, pairs, notes, joined, set, votes}
use Rattle.cx_field.specs.declared.parts.Entry.{Entry}
use Rattle.cx_field.specs.declared.parts.Vote.{Vote}
use Rattle.cx_letter.specs.declared.kept.Record.{Record}
use Rattle.cx_letter.specs.declared.kept.Record.TheVariants as kept

-- a vote: a round, a slot, the number of slots below the window, and a value
abbrev pub vote : Format (Round × (ℕ × (ℕ × Value)))
vote = round ▷ slot ▷ mark ▷ value

-- a round and a number of slots
abbrev pub round_mark : Format (Round × ℕ)
round_mark = round ▷ mark

-- a round and its grid
abbrev pub round_grid : Format (Round × GridShape)
round_grid = round ▷ grid

-- the first slot and the number of slots of a list that begins anew, and how many pairs and clients follow
abbrev pub base : Format (ℕ × (ℕ × (ℕ × ℕ)))
base = mark ▷ mark ▷ u32 ▷ u8

-- a client, its floor, and its notes
abbrev pub client_notes : Format (ℕ × (ℕ × List Note))
client_notes = u16 ▷ u64 ▷ notes

-- a round and a set
abbrev pub round_set : Format (Round × List ℕ)
round_set = round ▷ set

-- a set, a watermark and entries
abbrev pub boot : Format (List ℕ × (Round × List Entry))
boot = set ▷ round0 ▷ joined

-- a promise, one more than the greatest slot voted at, the chosen watermark, and the votes from there on
abbrev pub voted : Format (Round × (ℕ × (ℕ × List Vote)))
voted = round ▷ mark ▷ then_by mark votes

-- a record's tag and its fields
abbrev pub record_shape : Record → TaggedBytes
record_shape (kept.Promise r) = shape 1 round r
record_shape (kept.Vote r s cw v) = shape 2 vote (r, (s, (cw, v)))
record_shape (kept.Water r n) = shape 3 round_mark (r, n)
record_shape (kept.Match r g) = shape 4 round_grid (r, g)
record_shape (kept.Garbage r g) = shape 5 round_grid (r, g)
record_shape (kept.Round r g) = shape 6 round_grid (r, g)
record_shape (kept.Log vs) = shape 7 values vs
record_shape (kept.Base f h p c) = shape 8 base (f, (h, (p, c)))
record_shape (kept.Pairs ps) = shape 9 pairs ps
record_shape (kept.Notes c f ns) = shape 10 client_notes (c, (f, ns))
record_shape (kept.Tail vs) = shape 11 values vs
record_shape (kept.Ballot r) = shape 12 round r
record_shape (kept.Stop r) = shape 13 round r
record_shape (kept.Next r s) = shape 14 round_set (r, s)
record_shape (kept.Boot s w es) = shape 15 boot (s, (w, es))
record_shape (kept.Turn n) = shape 16 seq n
record_shape (kept.Voted r top cw vs) = shape 17 voted (r, (top, (cw, vs)))
record_shape (kept.Known s) = shape 18 set s

-- how each tag's fields are read
unfoldable pub record_cases : List (Case Record)
record_cases =
    case 1 round (λ x. kept.Promise x) ∷
    case 2 vote (λ x. kept.Vote x.0 x.1.0 x.1.1.0 x.1.1.1) ∷
    case 3 round_mark (λ x. kept.Water x.0 x.1) ∷
    case 4 round_grid (λ x. kept.Match x.0 x.1) ∷
    case 5 round_grid (λ x. kept.Garbage x.0 x.1) ∷
    case 6 round_grid (λ x. kept.Round x.0 x.1) ∷
    case 7 values (λ x. kept.Log x) ∷
    case 8 base (λ x. kept.Base x.0 x.1.0 x.1.1.0 x.1.1.1) ∷
    case 9 pairs (λ x. kept.Pairs x) ∷
    case 10 client_notes (λ x. kept.Notes x.0 x.1.0 x.1.1) ∷
    case 11 values (λ x. kept.Tail x) ∷
    case 12 round (λ x. kept.Ballot x) ∷
    case 13 round (λ x. kept.Stop x) ∷
    case 14 round_set (λ x. kept.Next x.0 x.1) ∷
    case 15 boot (λ x. kept.Boot x.0 x.1.0 x.1.1) ∷
    case 16 seq (λ x. kept.Turn x) ∷
    case 17 voted (λ x. kept.Voted x.0 x.1.0 x.1.1.0 x.1.1.1) ∷
    case 18 set (λ x. kept.Known x) ∷ []

-- a record: its tag in one byte, and its fields
unfoldable pub kept_record : Format Record
kept_record = tagged record_shape record_cases

-- whether each field of a record is in its range
abbrev pub fits : Record → Bool
fits r = (record_shape r).fits
