use Rattle.std.proofs.Common.{◌*◌, arith, []}
use Rattle.cx_field.proofs.FieldLaws.{members_new}
use Rattle.cx_field.proofs.fields.grid_from.Goals as goal

pub from_parts-requires : goal.from_parts-requires
from_parts-requires c =
    let n = c.in_ok-rows.rows * c.in_ok-cols.cols in
    record {
      some_row = omega arith;
      some_col = omega arith;
      room = omega arith;
      count = rw c.deref.ensures.value (omega (arith, c.in_ok-members.ensures.len, c.in_ok-members.members.ok));
      once = rw c.deref.ensures.value
          (members_new n [] c.u8-2.new.self (c.in_ok-members.members.items, c.items_from.new.reader) c.in_ok-members.ensures.read);
    }
