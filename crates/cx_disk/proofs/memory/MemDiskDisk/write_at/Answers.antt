use Rattle.std.proofs.Common.{length, refl}
use Rattle.cx_disk.specs.MemDiskLaws.{torn-same, torn_noted, write_noted, elapses_noted}
use Rattle.cx_disk.proofs.memory.MemDiskDisk.write_at.Goals as goal

pub returns-then-is_stopped-clause-crash : goal.returns-then-is_stopped-clause-crash
returns-then-is_stopped-clause-crash c = λ file left. (file, left, torn-same c.args.at (length c.args.bytes.now) file)

pub returns-then-fails-clause-crash : goal.returns-then-fails-clause-crash
returns-then-fails-clause-crash c =
    rw (← c.deref-then-fails.ensures.value) (torn_noted _ _ _ _ c.note.result c.note.ensures.added c.note.ensures.same _ _ _ refl)

pub returns-then-fails-clause-time : goal.returns-then-fails-clause-time
returns-then-fails-clause-time c =
    rw (← c.deref-then-fails.ensures.value) (elapses_noted _ _ _ _ c.note.result c.note.ensures.added c.note.ensures.same)

pub returns-then-capacity-place-clause-crash : goal.returns-then-capacity-place-clause-crash
returns-then-capacity-place-clause-crash c = λ file left. (file, left, torn-same c.args.at (length c.args.bytes.now) file)

pub returns-then-not-note_write-clause-crash : goal.returns-then-not-note_write-clause-crash
returns-then-not-note_write-clause-crash c =
    write_noted _ _ _ _ c.note_write.result c.note_write.ensures.added c.note_write.ensures.same _ _ refl

pub returns-clause-crash : goal.returns-clause-crash
returns-clause-crash c = write_noted _ _ _ _ c.note_write.result c.note_write.ensures.added c.note_write.ensures.same _ _ refl

pub returns-clause-time : goal.returns-clause-time
returns-clause-time c = elapses_noted _ _ _ _ c.note_write.result c.note_write.ensures.added c.note_write.ensures.same
