use Rattle.std.proofs.Common.{sym, ap, ◌∙◌, List, [], ℕ, Some}
use Rattle.cx_base.specs.declared.command.Pair.{Pair}
use Rattle.cx_kv.specs.Picked.{picked}
use Rattle.cx_kv.proofs.Maps.{text_at-held, text_at-free, without_key-held, without_key-free}
use Rattle.cx_kv.proofs.pairs.remove_from.Goals as goal

abbrev none : Pair
none = record { key = []; text = [] }

pub returns-in-Ok-clause-text : goal.returns-in-Ok-clause-text
returns-in-Ok-clause-text c =
    let placed = rw (c.deref.ensures.value, c.deref-2.ensures.value) at c.in-Ok.ensures.placed in
    ap (λ (text : List ℕ). Some text) (sym (c.remove_at.ensures.text none)) ∙ sym (text_at-held c.args.key.now
    (picked c.args.list.now.items c.args.order.now.items) c.in-Ok.place none placed.before placed.inside (placed.same none))

pub returns-in-Ok-clause-pairs : goal.returns-in-Ok-clause-pairs
returns-in-Ok-clause-pairs c =
    let placed = rw (c.deref.ensures.value, c.deref-2.ensures.value) at c.in-Ok.ensures.placed in
    c.remove_at.ensures.pairs ∙ sym (without_key-held c.args.key.now (picked c.args.list.now.items c.args.order.now.items) c.in-Ok.place
    none placed.before placed.inside (placed.same none))

pub returns-in-Err-clause-text : goal.returns-in-Err-clause-text
returns-in-Err-clause-text c =
    let free = rw (c.deref.ensures.value, c.deref-2.ensures.value) at c.in-Err.ensures.free in
    sym (text_at-free c.args.key.now (picked c.args.list.now.items c.args.order.now.items) c.in-Err.field-0 free.before free.inside
    free.behind)

pub returns-in-Err-clause-pairs : goal.returns-in-Err-clause-pairs
returns-in-Err-clause-pairs c =
    let free = rw (c.deref.ensures.value, c.deref-2.ensures.value) at c.in-Err.ensures.free in
    sym (without_key-free c.args.key.now (picked c.args.list.now.items c.args.order.now.items) c.in-Err.field-0 free.before free.inside
    free.behind)
