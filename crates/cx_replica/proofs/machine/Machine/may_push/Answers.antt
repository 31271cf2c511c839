use Rattle.cx_base.proofs.Common.{◌≡◌, ◌++◌, ◌-◌, ◌∙◌, subst, arith, rises}
use Rattle.cx_kv.specs.Rising.{has_lower_key}
use Rattle.cx_replica.specs.Room.{MachineState}
use Rattle.cx_replica.proofs.Rises.{keys_last}
use Rattle.cx_replica.proofs.machine.Machine.may_push.Goals as goal

pub returns : goal.returns
returns c =
    let map = c.self.inside.store.pairs in
    subst (λ (m : MachineState). c.rise_behind.result ≡ rises has_lower_key (m.left.map ++ c.args.pairs.now)) c.self.view_is
    (c.rise_behind.ensures ∙ keys_last map c.args.pairs.now c.at.result.now c.len-count.ensures.rises (c.len-count.result - 1)
    (omega (arith, c.len-count.ensures.len, c.if-count-eq0.false)) c.at.ensures)
