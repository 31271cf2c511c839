use Rattle.cx_role.proofs.Common.{ap, arith, sym, ◌∙◌, and_parts, and_from, all_fit, ◌==◌, common_steps}
use Rattle.cx_field.specs.Fields as field
use Rattle.cx_letter.specs.Records.{kept_record}
use Rattle.cx_phase1.proofs.Walks.{next_left}
use Rattle.cx_leader.proofs.opening.last_begun.Goals as goal

pub loop-index-preserved : goal.loop-index-preserved
unfolding kept_record
loop-index-preserved c = record {
  folded = grind (arith, common_steps);
  refused = grind (arith, common_steps);
  own = and_from (field.round.fits c.in-Round.round) (c.in-Round.round.id == c.args.me.index) (grind (arith, common_steps))
      (and_parts _ _ (and_parts _ _ (sym c.may_begin.ensures ∙ c.if-not-may_begin.false)).0).1;
  rest = (and_parts _ _ (ap all_fit (sym (next_left c.args.records.now c.loop-index.index c.index-records-index.result
      c.loop-index-test.true c.index-records-index.is)) ∙ c.loop-index.invariant.rest)).1;
}
