use Rattle.std.proofs.Common.{refl}
use Rattle.cx_edge.proofs.LineLaws.{hands_none}
use Rattle.cx_edge.proofs.lines.Lines.next.Goals as goal

pub loop-self-init : goal.loop-self-init
loop-self-init g c = record { hands = hands_none (g.S.Source.left c.args.source.now) c.args.self.now.buffered; still = refl }
