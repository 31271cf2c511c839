use Rattle.cx_base.proofs.Common.{◌≡◌, ap, sym, subst, ◌∙◌, List, acts}
use Rattle.cx_base.specs.declared.command.Command.{Command}
use Rattle.cx_table.specs.Judged.{is_new, judge_of}
use Rattle.cx_kv.proofs.Used.{acts_new}
use Rattle.cx_kv.proofs.acting.ExecutedCommands.acts.Goals as goal
use Rattle.cx_kv.proofs.acting.ExecutedCommands.acts.Goals.{After-judge}

judged : (c : After-judge) → is_new c.judge.result ≡ acts c.args.self.now c.args.command.now
judged c =
    ap is_new c.judge.ensures.judge
    ∙ subst (λ (list : List Command). is_new (judge_of c.self.inside.table.table c.args.command.now.client c.args.command.now.seq)
    ≡ acts list c.args.command.now) c.self.view_is
    (acts_new c.self.inside.table.table c.self.inside.commands.items c.args.command.now c.self.invariant)

pub returns-in-New : goal.returns-in-New
returns-in-New c = ap is_new (sym c.in-New.is) ∙ judged (goal.at.returns-in-New c).After-judge

pub returns-in-Last : goal.returns-in-Last
returns-in-Last c = ap is_new (sym c.in-Last.is) ∙ judged (goal.at.returns-in-Last c).After-judge
