use Rattle.std.proofs.Common.{◌++◌, [], arith}
use Rattle.std.proofs.Math.Nat.{add-mul}
use Rattle.cx_wire.specs.Format.{each_spell}
use Rattle.cx_wire.proofs.Loops.{puts_next, put_all}
use Rattle.cx_field.proofs.items.put_items.Goals as goal

pub loop-item-preserved : goal.loop-item-preserved
loop-item-preserved g c =
    let f = g.I.Items.format c.args.items.now in
    record {
      bytes = puts_next f c.args.list.now c.loop-item.item-index c.item-item.result c.loop-item.out.items c.put_next.new.out.items
          (c.args.out.now.items ++ each_spell f [] c.args.list.now) c.loop-item-test.true c.item-item.is c.in_ok-put_next.ensures.bytes
          c.loop-item.invariant.bytes;
      room = omega (arith, c.in_ok-put_next.ensures.room, c.loop-item.invariant.room, add-mul c.loop-item.item-index 1 g.I.Items.most);
    }

pub returns-clause-bytes : goal.returns-clause-bytes
returns-clause-bytes g c =
    let f = g.I.Items.format c.args.items.now in
    put_all f c.args.list.now c.loop-item.item-index c.loop-item.out.items (c.args.out.now.items ++ each_spell f [] c.args.list.now)
    c.loop-item-test.false c.loop-item.invariant.bytes
