use Rattle.std.proofs.Common.{◌-◌, arith}
use Rattle.cx_choice.proofs.Chained.{more_votes}
use Rattle.cx_choice.proofs.chains.votes_by_slot.Goals as goal

pub loop-number-preserved : goal.loop-number-preserved
loop-number-preserved c =
    let from = c.loop-number.number in
    record {
      within = omega (arith, c.loop-number.invariant.within);
      votes = more_votes c.loop-number.votes c.put.new.votes c.args.kept.now from (from - 1) c.in_ok-at.field-0
          (omega (arith, c.loop-number-test.true)) c.in_ok-at.ensures c.loop-number.invariant.votes c.in_ok-put.ensures;
    }
