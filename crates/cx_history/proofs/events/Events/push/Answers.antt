use Rattle.cx_base.proofs.Common.{arith, length_push}
use Rattle.cx_history.proofs.Asking.{tells_more}
use Rattle.cx_history.proofs.events.Events.push.Goals as goal

pub invariant_of-self-2 : goal.invariant_of-self-2
invariant_of-self-2 c =
    let inside = c.self.inside in
    let happened = c.args.happened.now in
    rw c.of.ensures (record {
      count_is = omega (arith, c.in_ok-count.ensures, c.self.invariant.count_is, length_push inside.events.items happened);
      tells = tells_more inside.events.items happened inside.requests c.push.new.self c.in_ok-push.ensures.ok c.self.invariant.tells;
    })
