use Rattle.std.proofs.Common.{List, ℕ, set, get_or, ap, ◌∙◌}
use Rattle.cx_kv.proofs.Picking.{below_inserted, text_inserted, text_set}
use Rattle.cx_kv.proofs.pairs.set_in.Goals as goal

pub returns-in-Ok-clause-pairs : goal.returns-in-Ok-clause-pairs
returns-in-Ok-clause-pairs c = text_set c.args.key.now c.args.text.now c.args.list.now.items c.set_at.new.list.items c.args.order.now.items
    c.in-Ok.place c.requires.ordered (rw (c.deref.ensures.value, c.deref-2.ensures.value) at c.in-Ok.ensures.placed)
    (c.set_at.ensures.items ∙ ap (λ (order : List ℕ). set c.args.list.now.items (get_or order c.in-Ok.place 0)
    (record { key = c.args.key.now; text = c.args.text.now })) c.deref-in-Ok.ensures.value)

pub returns-in-Err-clause-pairs : goal.returns-in-Err-clause-pairs
returns-in-Err-clause-pairs c = text_inserted c.args.key.now c.args.text.now c.args.list.now.items c.insert_at.new.list.items
    c.args.order.now.items c.insert_at.new.order.items c.in-Err.place _ c.requires.ordered
    (rw (c.deref.ensures.value, c.deref-2.ensures.value) at c.in-Err.ensures.free) c.insert_at.ensures.list c.insert_at.ensures.order
    c.args.list.now.ok.0

pub returns-in-Err-clause-below : goal.returns-in-Err-clause-below
returns-in-Err-clause-below c = below_inserted c.args.list.now.items c.insert_at.new.list.items c.args.order.now.items
    c.insert_at.new.order.items c.in-Err.place _ _ c.requires.ordered.below
    c.insert_at.ensures.list c.insert_at.ensures.order c.args.list.now.ok.0
