use Rattle.cx_role.proofs.Common.{rules, ◌≡◌, true, Some, slice_get, is_heard, told_to}
use Rattle.cx_world.specs.Heard.{Raised, delivered}
use Rattle.cx_world.proofs.Hearing.{hear_one}
use Rattle.cx_world.proofs.heard.hear.Goals as goal

pub returns-in_ok-take-in-Some-2 : goal.returns-in_ok-take-in-Some-2
returns-in_ok-take-in-Some-2 c =
    let is : is_heard c.args.why ≡ true = search rules in
    let some : delivered c.args.event.now ≡ Some c.in-Some.number = search rules in
    let there : slice_get c.args.sent.now c.in-Some.number ≡ Some c.in-Some-2.datagram = search rules in
    let told : Raised c.args.heard.now c.take.new.self (λ client. told_to client (Some c.in-Some-2.datagram)) = search rules in
    hear_one c.args.heard.now c.take.new.self c.args.sent.now (record { event = c.args.event.now; why = c.args.why }) c.in-Some.number
    c.in-Some-2.datagram is some there told
