use Rattle.cx_edge.proofs.FileLaws.{cut_not}
use Rattle.cx_edge.proofs.file_disk.FileDiskDisk.cut.Goals as goal

pub returns-in-Ok-clause-crash : goal.returns-in-Ok-clause-crash
returns-in-Ok-clause-crash c = λ file left. (file, tt, cut_not c.args.at file)

pub returns-in-Err-clause-crash : goal.returns-in-Err-clause-crash
returns-in-Err-clause-crash c = λ file left. (file, tt, cut_not c.args.at file)
