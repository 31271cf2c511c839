use Rattle.std.proofs.Common.{sym, ◌∙◌, subst}
use Rattle.cx_disk.specs.MemDisk.{notes_of_calls}
use Rattle.cx_disk.specs.MemDiskViews.{IsCrashImage}
use Rattle.cx_disk.specs.MemDiskLaws.{seen_is_left}
use Rattle.cx_disk.proofs.Notes.{lost_left, filled_left, ok_has}
use Rattle.cx_disk.proofs.memory.MemDisk.crash_image.Goals as goal

pub returns-in-Kept-clause-left : goal.returns-in-Kept-clause-left
returns-in-Kept-clause-left c =
    let m = c.args.self.now in
    ok_has (IsCrashImage m) c.deref.result.now c.copy_in.result c.copy_in.ensures (subst (IsCrashImage m)
    (sym (c.deref.ensures.value ∙ m.tells)) (seen_is_left m.first.items (notes_of_calls m.written.items m.calls.items)))

pub returns-in-Lost-clause-left : goal.returns-in-Lost-clause-left
returns-in-Lost-clause-left c =
    let m = c.args.self.now in
    ok_has (IsCrashImage m) c.deref-in-Lost.result.now c.copy_in-in-Lost.result c.copy_in-in-Lost.ensures (subst (IsCrashImage m)
    (sym c.deref-in-Lost.ensures.value) (lost_left m.first.items m.written.items m.synced.items m.calls.items m.keeps))

pub returns-in-Filled-clause-left : goal.returns-in-Filled-clause-left
returns-in-Filled-clause-left c =
    let m = c.args.self.now in
    ok_has (IsCrashImage m) _ c.filled.result c.filled.ensures (rw (c.deref-in-Filled.ensures.value, c.deref-in-Filled-2.ensures.value)
    (filled_left m.first.items m.written.items m.synced.items m.calls.items m.keeps m.within))
