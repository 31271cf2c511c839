use Rattle.cx_base.proofs.Common.{◌≡◌, rules, ap, ◌∙◌, None, value_for}
use Rattle.cx_base.specs.declared.command.Placed.{Placed}
use Rattle.cx_ring.specs.Ring.{RingState, with_value}
use Rattle.cx_rlog.proofs.Standing.{waits}
use Rattle.cx_rlog.proofs.early.wait.Goals as goal

pub returns-clause-ok : goal.returns-clause-ok
returns-clause-ok c =
    let none : value_for c.args.slot c.args.early.now.items ≡ None = search rules in
    let value : c.in_ok-value.value ≡ c.args.value.now = c.in_ok-value.ensures in
    ap (λ (r : RingState Placed). r.items) c.put.ensures.items ∙ ap (λ (r : RingState Placed).
    with_value (λ (p : Placed). p.slot) (record { slot = c.args.slot; value = c.in_ok-value.value }) r.items) c.in_ok-make_room.ensures.ok
    ∙ rw value (waits (record { slot = c.args.slot; value = c.args.value.now }) c.args.early.now.items none)
