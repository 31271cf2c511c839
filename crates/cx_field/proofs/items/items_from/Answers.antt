use Rattle.cx_base.proofs.Common.{◌≡◌, [], Ok, arith, err_from_is_err_and}
use Rattle.cx_wire.specs.Format.{each_read}
use Rattle.cx_wire.proofs.Loops.{goes_on, is_done}
use Rattle.cx_field.specs.Reading.{Fails}
use Rattle.cx_field.proofs.Exits.{list_ends}
use Rattle.cx_field.proofs.items.items_from.Goals as goal

pub returns-in_err-item-clause-read : goal.returns-in_err-item-clause-read
returns-in_err-item-clause-read g c =
    let f = g.I.Items.format c.args.items.now in
    let p = err_from_is_err_and c.from_residual-in_err-item.result c.from_residual-in_err-item.ensures.1 in
    let here : Fails c.in_err-item.field-0.0 ((f c.loop.list.items).read c.loop.reader) =
    rw (← c.as_slice.ensures.value) c.in_err-item.ensures in
    rw (p.1, p.2) (list_ends f c.in_err-item.field-0.0 c.loop.list.items c.args.count c.loop.counter c.loop.reader
    (each_read f [] c.args.count c.args.reader.now) c.loop-test.true here c.loop.invariant.so_far)

pub loop-preserved : goal.loop-preserved
loop-preserved g c =
    let f = g.I.Items.format c.args.items.now in
    let here : (f c.loop.list.items).read c.loop.reader ≡ Ok (c.in_ok-item.item, c.next_from.new.reader) =
    rw (← c.as_slice.ensures.value) c.in_ok-item.ensures in
    record {
      so_far = rw c.in_ok-push.ensures.items (goes_on f c.loop.list.items c.args.count c.loop.counter c.loop.reader c.in_ok-item.item
          c.next_from.new.reader (each_read f [] c.args.count c.args.reader.now) c.loop-test.true here c.loop.invariant.so_far);
      len = omega (arith, c.in_ok-push.ensures.len);
    }

pub returns-clause-read : goal.returns-clause-read
returns-clause-read g c =
    let f = g.I.Items.format c.args.items.now in
    is_done f c.loop.list.items c.args.count c.loop.counter c.loop.reader (each_read f [] c.args.count c.args.reader.now) c.loop-test.false
    c.loop.invariant.so_far
