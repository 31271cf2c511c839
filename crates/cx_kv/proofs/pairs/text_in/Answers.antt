use Rattle.std.proofs.Common.{sym, ap, ◌∙◌, Some}
use Rattle.cx_base.specs.declared.command.Pair.{Pair}
use Rattle.cx_kv.specs.Picked.{picked}
use Rattle.cx_kv.proofs.Maps.{text_at-held, text_at-free}
use Rattle.cx_kv.proofs.pairs.text_in.Goals as goal

pub returns-in-Ok : goal.returns-in-Ok
returns-in-Ok c =
    let placed = c.in-Ok.ensures.placed in
    let p = c.pair_at.result.now in
    ap (λ (q : Pair). Some q.text) (sym (c.pair_at.ensures p)) ∙ sym (text_at-held c.args.key.now (picked c.args.list.now c.args.order.now)
    c.in-Ok.place p placed.before placed.inside (placed.same p))

pub returns-in-Err : goal.returns-in-Err
returns-in-Err c =
    let free = c.in-Err.ensures.free in
    sym (text_at-free c.args.key.now (picked c.args.list.now c.args.order.now) c.in-Err.field-0 free.before free.inside free.behind)
