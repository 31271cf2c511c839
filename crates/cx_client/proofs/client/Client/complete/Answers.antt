use Rattle.cx_base.proofs.Common.{◌<◌, arith, length, subst, sym, length-drop}
use Rattle.cx_client.specs.Client.{ClientState, left}
use Rattle.cx_client.proofs.Steps.{completed_client, completed_state}
use Rattle.cx_client.proofs.client.Client.complete.Goals as goal

pub bring_forward-requires : goal.bring_forward-requires
bring_forward-requires c =
    let inside = subst (λ (s : ClientState). c.args.place < length (left s)) (sym c.self.view_is) c.requires in
    let long = length-drop c.self.inside.done c.self.inside.script.items in
    omega (arith, inside, long)

pub invariant_of-self : goal.invariant_of-self
invariant_of-self c =
    let inside = subst (λ (s : ClientState). c.args.place < length (left s)) (sym c.self.view_is) c.requires in
    completed_client _ c.args.place _ _ c.self.invariant inside c.set_back-self-inside.ensures c.bring_forward.ensures

pub returns : goal.returns
returns c = λ d. rw (← c.self.view_is)
    (let inside = subst (λ (s : ClientState). c.args.place < length (left s)) (sym c.self.view_is) c.requires in
    completed_state _ c.args.place d _ _ c.self.invariant inside c.set_back-self-inside.ensures (c.bring_forward.ensures d))
