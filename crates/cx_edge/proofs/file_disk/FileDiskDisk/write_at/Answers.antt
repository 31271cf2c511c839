use Rattle.cx_edge.proofs.FileLaws.{torn_not}
use Rattle.cx_edge.proofs.file_disk.FileDiskDisk.write_at.Goals as goal

pub returns-then-end-ge-TOO_LONG-clause-crash : goal.returns-then-end-ge-TOO_LONG-clause-crash
returns-then-end-ge-TOO_LONG-clause-crash c = λ file left. (file, tt, torn_not c.args.at _ file)

pub returns-in-Ok-clause-crash : goal.returns-in-Ok-clause-crash
returns-in-Ok-clause-crash c = λ file left. (file, tt, torn_not c.args.at _ file)

pub returns-in-Err-clause-crash : goal.returns-in-Err-clause-crash
returns-in-Err-clause-crash c = λ file left. (file, tt, torn_not c.args.at _ file)
