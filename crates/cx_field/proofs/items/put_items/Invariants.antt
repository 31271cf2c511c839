use Rattle.std.proofs.Common.{[], ◌≡◌, ◌≤◌, ◌+◌, ◌*◌, ◌++◌, length, take, drop}
use Rattle.cx_wire.specs.Format.{each_spell}
use Rattle.cx_field.proofs.items.put_items.Given as goal

abbrev pub invariant-loop-item : goal.invariant-loop-item
invariant-loop-item g l =
    let f = g.I.Items.format l.items in
    record {
      bytes : l.out.items ++ each_spell f (take l.item-index l.list) (drop l.item-index l.list) ≡ l.fn.out.items ++ each_spell f [] l.list;
      room : length l.out.items ≤ length l.fn.out.items + l.item-index * g.I.Items.most;
    }
