use Rattle.cx_table.proofs.Pushing.{is_new_there, pushed_on}
use Rattle.cx_table.proofs.table.Table.push.Goals as goal

pub note-requires : goal.note-requires
note-requires c =
    let loop = c.loop-note in
    record {
      new = is_new_there c.args.client c.args.floor c.args.self.now.table c.args.notes.now loop.note-index c.note-item.result
          c.loop-note-test.true c.note-item.is c.requires.behind c.notes-rising.ensures.above c.requires.rise c.requires.above
          loop.self.table loop.invariant;
    }

pub loop-note-preserved : goal.loop-note-preserved
loop-note-preserved c =
    let loop = c.loop-note in
    pushed_on c.args.client c.args.floor c.args.self.now.table c.args.notes.now loop.note-index c.note-item.result
    c.loop-note-test.true c.note-item.is c.requires.behind c.notes-rising.ensures.above c.requires.rise c.requires.above
    loop.self.table c.note.new.self.table loop.invariant c.in_ok-note.ensures.ok
