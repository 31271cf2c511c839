-- What a disk in memory shows to those who make one.
use Rattle.std.specs.Prelude.{ℕ, List}
use Rattle.cx_disk.specs.declared.memory.MemDisk.{MemDisk}
use Rattle.cx_disk.specs.MemDisk.{MayLeave, state_after, notes_of_calls, filled}

-- what a read gives
abbrev pub mem_disk_bytes : MemDisk → List ℕ
mem_disk_bytes disk = disk.bytes.items

-- what a crash may leave
abbrev pub IsCrashImage : MemDisk → List ℕ → Type 0
IsCrashImage disk = MayLeave (state_after disk.first.items (notes_of_calls disk.written.items disk.calls.items))

-- what the last sync left, the bytes from the start where there was none
abbrev pub synced_by : MemDisk → List ℕ
synced_by disk = disk.synced.items

-- the same with 0xff in each range that was written since
abbrev pub filled_by : MemDisk → List ℕ
filled_by disk = filled disk.synced.items disk.calls.items

-- how many calls have failed
abbrev pub failed_of : MemDisk → ℕ
failed_of disk = disk.faults
