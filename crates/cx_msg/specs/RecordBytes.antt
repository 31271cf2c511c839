-- Records as bytes, and the tests of these bytes in their order.
use Rattle.std.specs.Prelude.{ℕ, ◌-◌, Bool, ◌&&◌, not, nat_le, nat_lt, if◌then◌else◌, List, [], ◌∷◌, length, Result, Ok, Err}
use Rattle.cx_wire.specs.Format.{Miss, u8, by_tag}
use Rattle.cx_letter.specs.Records.{record_cases, kept_record}
use Rattle.cx_letter.specs.declared.kept.Record.{Record}
use Rattle.cx_msg.specs.declared.fault.WireFault.{WireFault}
use Rattle.cx_msg.specs.declared.fault.WireFault.TheVariants as faults

-- the bytes of a record
abbrev pub spelling : Record → List ℕ
spelling r = kept_record.spell r

-- whether a tag is one
abbrev pub is_tag : ℕ → Bool
is_tag tag = nat_le 1 tag && nat_le tag 18

-- the record, once its fields are read, of this many bytes in all
unfoldable pub record_at_end : ℕ → ℕ → Result (Record × List ℕ) Miss → Result Record WireFault
record_at_end all tag (Err miss) = Err (faults.Field tag (all - miss.left))
record_at_end all tag (Ok (r, [])) = Ok r
record_at_end all tag (Ok (r, b ∷ bytes)) = Err (faults.Trailing (all - length (b ∷ bytes)))

-- the test of the tag, and the fields after it
unfoldable pub with_tag : ℕ → Result (ℕ × List ℕ) Miss → Result Record WireFault
with_tag all (Err miss) = Err (faults.Short 1 0)
with_tag all (Ok (tag, body)) =
    if not (is_tag tag) then Err (faults.Kind tag) else record_at_end all tag (by_tag record_cases tag (length body) body)

-- the record that bytes spell, or the first test that they fail
abbrev pub record_of_bytes : List ℕ → Result Record WireFault
record_of_bytes bytes = with_tag (length bytes) (u8.read bytes)

-- Where the first bytes of a record break at a bad field, of `said` bytes of which `have` are there: a field that is only cut, and
-- would end within what is said, breaks where the bytes end; any other at its first byte.
unfoldable pub break_place : ℕ → ℕ → Miss → ℕ
break_place said have miss = if nat_lt miss.left miss.need && nat_le miss.need (said - (have - miss.left)) then have else have - miss.left

-- the same, once the fields are read: bytes that are left break at the first of them, and where none are left the bytes end
unfoldable pub part_ended : ℕ → ℕ → Result (Record × List ℕ) Miss → ℕ
part_ended said have (Err miss) = break_place said have miss
part_ended said have (Ok (r, rest)) = have - length rest

-- the test of the tag, and the fields after it
unfoldable pub part_with_tag : ℕ → ℕ → Result (ℕ × List ℕ) Miss → ℕ
part_with_tag said have (Err miss) = have
part_with_tag said have (Ok (tag, body)) = if not (is_tag tag) then 0 else part_ended said have (by_tag record_cases tag (length body) body)

-- where the first bytes of a record that is said to have more break
abbrev pub break_of_part : ℕ → List ℕ → ℕ
break_of_part said bytes = part_with_tag said (length bytes) (u8.read bytes)
