use Rattle.cx_role.proofs.Common.{◌≡◌, Err, ap, ◌∙◌, err_from_is_err_and, outcome_of, Take}
use Rattle.cx_letter.specs.declared.input.Input.TheVariants.{Order}
use Rattle.cx_seat.proofs.Ends.{step_ends}
use Rattle.cx_seat.proofs.seat.step.Goals as goal

pub returns-in_err-take-in-Take : goal.returns-in_err-take-in-Take
returns-in_err-take-in-Take g c =
    let p = err_from_is_err_and c.from_residual.result c.from_residual.ensures.1 in
    let is : c.from_residual.result ≡ Err c.in_err-take-in-Take.field-0.0 = p.1 ∙ ap Err p.2 in
    rw (is, c.in-Take.is)
    (step_ends g.K.Keeper.append_gives g.K.Renew.renew_gives g.K.Keeper.tells c.args.keeper.now c.take.new.keeper
    c.take.new.out.list g.R.Role.rules (g.R.Role.state c.args.role.now) (g.R.Role.state c.take.new.self)
    (outcome_of g.R.Role.rules (g.R.Role.state c.args.role.now) (Take c.in-Take.datagram))
    c.in_err-take-in-Take.field-0.0 c.in_err-take-in-Take.ensures.step)

pub returns-in_err-order-in-Order : goal.returns-in_err-order-in-Order
returns-in_err-order-in-Order g c =
    let p = err_from_is_err_and c.from_residual-in_err-order-in-Order.result
    c.from_residual-in_err-order-in-Order.ensures.1 in
    let is : c.from_residual-in_err-order-in-Order.result ≡ Err c.in_err-order-in-Order.field-0.0 = p.1 ∙ ap Err p.2 in
    rw (is, c.in-Order.is)
    (step_ends g.K.Keeper.append_gives g.K.Renew.renew_gives g.K.Keeper.tells c.args.keeper.now c.order.new.keeper
    c.order.new.out.list g.R.Role.rules (g.R.Role.state c.args.role.now) (g.R.Role.state c.order.new.self)
    (outcome_of g.R.Role.rules (g.R.Role.state c.args.role.now) (Order c.in-Order.order))
    c.in_err-order-in-Order.field-0.0 c.in_err-order-in-Order.ensures.step)
