use Rattle.cx_choice.proofs.Numbered.{rounds_next}
use Rattle.cx_choice.proofs.rounds.rounds_kept.Goals as goal

pub loop-number-preserved : goal.loop-number-preserved
loop-number-preserved c = rounds_next c.args.kept.now c.loop-number.rounds.items c.add_round.new.rounds.items c.loop-number.number
    c.in_ok-at.field-0 c.in_ok-at.ensures c.in_ok-add_round.ensures c.loop-number.invariant
