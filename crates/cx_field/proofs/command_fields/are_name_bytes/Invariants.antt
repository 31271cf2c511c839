use Rattle.cx_base.proofs.Common.{◌≡◌, ◌&&◌, drop, list_all, is_name_byte}
use Rattle.cx_field.proofs.command_fields.are_name_bytes.Given as goal

abbrev pub invariant-loop-byte : goal.invariant-loop-byte
invariant-loop-byte l = (l.all && list_all is_name_byte (drop l.byte-index l.bytes)) ≡ list_all is_name_byte l.bytes
