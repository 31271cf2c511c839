use Rattle.std.proofs.Common.{sym, ◌++◌, ap, ◌∙◌}
use Rattle.cx_model.specs.Replica.{Executed}
use Rattle.cx_replica.proofs.Executing.{answer_to, last_fits, last_tells, one_more_fits, told_fit}
use Rattle.cx_replica.proofs.machine.Machine.execute.Goals as goal

pub invariant_of-self : goal.invariant_of-self
invariant_of-self c =
    told_fit c.args.command.now.client c.args.command.now.floor c.self.inside.table.table c.tell.new.self.table
    c.tell.ensures.table c.self.invariant

pub invariant_of-self-in-Past : goal.invariant_of-self-in-Past
invariant_of-self-in-Past c =
    let told = c.tell-in-Past in
    told_fit c.args.command.now.client c.args.command.now.floor c.self.inside.table.table told.new.self.table
    told.ensures.table c.self.invariant

pub returns-in-Last-clause-answers : goal.returns-in-Last-clause-answers
returns-in-Last-clause-answers c =
    let again = last_tells c.args.at c.args.self.now.left c.args.command.now c.in-Last.at c.in-Last.reply
    (rw (← c.self.view_is) (sym c.in-Last.ensures.judge)) in
    c.push_reserved.ensures.items ∙ ap (λ (e : Executed). c.args.answers.now.items ++ e.answers) (sym again)

pub returns-in-Last-clause-fit : goal.returns-in-Last-clause-fit
returns-in-Last-clause-fit c =
    let last = c.in-Last in
    let client = c.args.command.now.client in
    let seq = c.args.command.now.seq in
    one_more_fits (answer_to client seq last.at last.reply) c.args.answers.now.items c.push_reserved.new.self.items
    c.push_reserved.ensures.items
    (last_fits c.self.inside.table.table client seq last.at last.reply (sym last.ensures.judge) c.self.invariant)
    c.requires.fit
