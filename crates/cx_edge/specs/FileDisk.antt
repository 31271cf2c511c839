-- What a disk over a file shows to those who open one.
use Rattle.std.specs.Prelude.{ℕ}
use Rattle.cx_edge.specs.declared.file_disk.FileDisk.{FileDisk}

-- how many calls have failed
abbrev pub faults_of : FileDisk → ℕ
faults_of disk = disk.faults
