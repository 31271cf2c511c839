use Rattle.cx_base.proofs.Common.{[], ◌≡◌, ◌-◌, ◌≤◌, length, take, drop, IsTrue, list_all, is_name_byte}
use Rattle.cx_wire.specs.Format.{each_read}
use Rattle.cx_wire.proofs.Loops.{with_front}
use Rattle.cx_field.specs.Fields.{name_byte}
use Rattle.cx_field.proofs.command_fields.name_bytes_from.Given as goal

abbrev pub invariant-loop : goal.invariant-loop
invariant-loop l = record {
  all : l.bytes ≡ l.fn.reader;
  within : l.counter ≤ length l.bytes;
  place : l.reader ≡ drop l.counter l.bytes;
  names : IsTrue (list_all is_name_byte (take l.counter l.bytes));
  so_far : with_front (take l.counter l.bytes) (each_read (λ _. name_byte) (take l.counter l.bytes) (l.count - l.counter) l.reader)
      ≡ each_read (λ _. name_byte) [] l.count l.fn.reader;
}
