use Rattle.std.proofs.Common.{[], ◌≡◌, ◌-◌, length}
use Rattle.cx_wire.specs.Format.{each_read}
use Rattle.cx_wire.proofs.Loops.{with_front}
use Rattle.cx_field.proofs.items.items_from.Given as goal

abbrev pub invariant-loop : goal.invariant-loop
invariant-loop g l =
    let f = g.I.Items.format l.items in
    record {
      so_far : with_front l.list.items (each_read f l.list.items (l.count - l.counter) l.reader) ≡ each_read f [] l.count l.fn.reader;
      len : length l.list.items ≡ l.counter;
    }
