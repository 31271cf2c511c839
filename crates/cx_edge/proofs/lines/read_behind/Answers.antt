use Rattle.std.proofs.Common.{rules}
use Rattle.cx_edge.proofs.LineLaws.{reads_behind}
use Rattle.cx_edge.proofs.lines.read_behind.Goals as goal

pub returns-clause-bytes : goal.returns-clause-bytes
returns-clause-bytes g c = reads_behind (g.S.Source.left c.args.source.now) (g.S.Source.left c.read.new.self) c.args.buffered
    c.args.bytes.now c.read.new.buffer c.read.result c.requires (search rules) c.read.ensures.bytes
