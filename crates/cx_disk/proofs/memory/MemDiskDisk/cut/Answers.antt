use Rattle.std.proofs.Common.{refl}
use Rattle.cx_disk.specs.MemDiskLaws.{cut-same, cut_noted, elapses_noted}
use Rattle.cx_disk.proofs.memory.MemDiskDisk.cut.Goals as goal

pub returns-then-is_stopped-clause-crash : goal.returns-then-is_stopped-clause-crash
returns-then-is_stopped-clause-crash c = λ file left. (file, left, cut-same c.args.at file)

pub returns-then-fails-clause-crash : goal.returns-then-fails-clause-crash
returns-then-fails-clause-crash c =
    rw (← c.deref-then-fails.ensures.value) (cut_noted _ _ _ _ c.note.result c.note.ensures.added c.note.ensures.same _ _ refl)

pub returns-then-fails-clause-time : goal.returns-then-fails-clause-time
returns-then-fails-clause-time c =
    rw (← c.deref-then-fails.ensures.value) (elapses_noted _ _ _ _ c.note.result c.note.ensures.added c.note.ensures.same)

pub returns-then-not-note-clause-crash : goal.returns-then-not-note-clause-crash
returns-then-not-note-clause-crash c =
    rw (← c.deref-2.ensures.value) (cut_noted _ _ _ _ c.note-2.result c.note-2.ensures.added c.note-2.ensures.same _ _ refl)

pub returns-clause-crash : goal.returns-clause-crash
returns-clause-crash c =
    rw (← c.deref-2.ensures.value) (cut_noted _ _ _ _ c.note-2.result c.note-2.ensures.added c.note-2.ensures.same _ _ refl)

pub returns-clause-time : goal.returns-clause-time
returns-clause-time c = rw (← c.deref-2.ensures.value) (elapses_noted _ _ _ _ c.note-2.result c.note-2.ensures.added c.note-2.ensures.same)
