use Rattle.cx_model.specs.Prelude.{◌+◌, end_told}
use Rattle.cx_phase1.proofs.PlanLaws.{end_from}
use Rattle.cx_phase1.proofs.Walks.{carried}
use Rattle.cx_phase1.proofs.planning.end_of.Goals as goal

pub loop-vote-preserved : goal.loop-vote-preserved
loop-vote-preserved c =
    let loop = c.loop-vote in
    let v = c.vote-item.result in
    carried (end_told loop.end) (end_told c.max-end.result) c.args.votes.now loop.vote-index v _ c.loop-vote-test.true c.vote-item.is
    (λ rest. rw c.max-end.ensures (end_from loop.end (v.slot + 1) rest)) loop.invariant
