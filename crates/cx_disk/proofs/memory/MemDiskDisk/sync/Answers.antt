use Rattle.std.proofs.Common.{refl}
use Rattle.cx_disk.specs.MemDiskLaws.{sync_noted, elapses_noted}
use Rattle.cx_disk.proofs.memory.MemDiskDisk.sync.Goals as goal

pub returns-clause-crash : goal.returns-clause-crash
returns-clause-crash c =
    rw (← c.deref-2.ensures.value) (sync_noted _ _ _ _ c.note_sync.result c.note_sync.ensures.added c.note_sync.ensures.same refl)

pub returns-clause-time : goal.returns-clause-time
returns-clause-time c =
    rw (← c.deref-2.ensures.value) (elapses_noted _ _ _ _ c.note_sync.result c.note_sync.ensures.added c.note_sync.ensures.same)
