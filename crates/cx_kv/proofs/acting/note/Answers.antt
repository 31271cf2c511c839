use Rattle.std.proofs.Common.{◌∙◌, ap, sym}
use Rattle.cx_base.specs.declared.command.Reply.TheVariants.{Okay}
use Rattle.cx_table.specs.Judged.{is_new}
use Rattle.cx_kv.proofs.Used.{decides_noted, decides_told}
use Rattle.cx_kv.proofs.acting.note.Goals as goal

pub returns-in_ok-note-in-New-clause-ok : goal.returns-in_ok-note-in-New-clause-ok
returns-in_ok-note-in-New-clause-ok c =
    λ list is. rw c.in_ok-note-in-New.ensures.ok (decides_noted c.args.table.now.table list c.args.command.now is 0 Okay)

pub returns-in-Last-clause-ok : goal.returns-in-Last-clause-ok
returns-in-Last-clause-ok c = λ list is. rw c.tell.ensures.table
    (decides_told c.args.table.now.table list c.args.command.now is (ap is_new (sym c.judge.ensures.judge ∙ c.in-Last.is)))

pub returns-in-Past-clause-ok : goal.returns-in-Past-clause-ok
returns-in-Past-clause-ok c = λ list is. rw c.tell-in-Past.ensures.table
    (decides_told c.args.table.now.table list c.args.command.now is (ap is_new (sym c.judge.ensures.judge ∙ c.in-Past.is)))
