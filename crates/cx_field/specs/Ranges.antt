-- The ranges of parts that types do not give, in plain form.
use Rattle.std.specs.Prelude.{ℕ, Bool, true, ◌&&◌, nat_lt, nat_le, List}
use Rattle.cx_base.specs.Prelude.{rises, is_before}
use Rattle.cx_base.specs.declared.command.Op.{Op}
use Rattle.cx_base.specs.declared.command.Op.TheVariants.{Put, Del, App}
use Rattle.cx_base.specs.declared.command.Reply.{Reply}
use Rattle.cx_base.specs.declared.command.Reply.TheVariants.{Okay, Was, Absent, Len, Full}
use Rattle.cx_field.specs.Fields.{round, grid, slot, name, value, in_window}
use Rattle.cx_field.specs.declared.parts.Entry.{Entry}
use Rattle.cx_field.specs.declared.parts.Vote.{Vote}

-- whether the key and the text of an operation are in their ranges
abbrev pub op_in_range : Op → Bool
op_in_range (Put key text) = (name 32).fits key && (name 64).fits text
op_in_range (Del key) = (name 32).fits key
op_in_range (App key text) = (name 32).fits key && (name 64).fits text

-- whether a length in a reply is that of a text
abbrev pub is_text_len : Reply → Bool
is_text_len (Len n) = nat_le 1 n && nat_le n 64
is_text_len Okay = true
is_text_len (Was text) = true
is_text_len Absent = true
is_text_len Full = true

-- whether an entry's round and grid are in their ranges
abbrev pub entry_in_range : Entry → Bool
entry_in_range e = round.fits e.round && grid.fits e.grid

-- whether each entry's round is before those of all later ones
abbrev pub rounds_rise : List Entry → Bool
rounds_rise es = rises (λ (e : Entry) (later : Entry). is_before e.round later.round) es

-- whether a vote's parts are in their ranges, and its slot in the window that begins at cw
abbrev pub vote_in_range : ℕ → Vote → Bool
vote_in_range cw v = round.fits v.round && (slot.fits v.slot && in_window cw v.slot && value.fits v.value)

-- whether each vote's slot is below those of all later ones
abbrev pub slots_rise : List Vote → Bool
slots_rise vs = rises (λ (v : Vote) (later : Vote). nat_lt v.slot later.slot) vs
