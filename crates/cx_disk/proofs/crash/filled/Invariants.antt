use Rattle.std.proofs.Common.{◌≡◌, drop, fold}
use Rattle.cx_disk.specs.MemDisk.{fill_after, filled}
use Rattle.cx_disk.proofs.crash.filled.Given as goal

abbrev pub invariant-loop-call : goal.invariant-loop-call
invariant-loop-call l = fold (fill_after l.fn.synced) l.file.items (drop l.call-index l.fn.calls) ≡ filled l.fn.synced l.fn.calls
