use Rattle.cx_role.specs.Prelude.{◌≡◌, true, Answered, answered}
use Rattle.cx_replica.proofs.Executing.{answer_fits, answer_to, noted_fit, one_more_fits}
use Rattle.cx_replica.proofs.machine.Machine.act.Goals as goal
use Rattle.cx_replica.proofs.machine.Machine.act.Goals.{After-push_reserved}

abbrev answer : After-push_reserved → Answered
answer c = answer_to c.args.command.now.client c.args.command.now.seq c.args.at c.apply-reply.result

fits : (c : After-push_reserved) → answered.fits (answer c) ≡ true
fits c =
    answer_fits c.args.at c.args.command.now c.apply-reply.result c.requires.at c.requires.command c.reply_fits.ensures

pub invariant_of-self : goal.invariant_of-self
invariant_of-self c =
    let after = (goal.at.invariant_of-self c).After-push_reserved in
    noted_fit (answer after) c.args.command.now.floor c.self.inside.table.table c.note-noted.new.self.table
    c.in-Ok.ensures.ok (fits after) c.self.invariant

pub returns-clause-fit : goal.returns-clause-fit
returns-clause-fit c =
    let after = (goal.at.returns-clause-fit c).After-push_reserved in
    one_more_fits (answer after) c.args.answers.now.items c.push_reserved.new.self.items c.push_reserved.ensures.items
    (fits after) c.requires.fit
