use Rattle.std.proofs.Common.{◌≡◌, ◌-◌, [], length}
use Rattle.cx_edge.specs.Lines.{Hands}
use Rattle.cx_edge.proofs.lines.Lines.next.Given as goal

abbrev pub invariant-loop-self : goal.invariant-loop-self
invariant-loop-self g l = record {
  hands : Hands (g.S.Source.left l.fn.source) (g.S.Source.left l.source) l.fn.self.buffered l.self.buffered [];
  still : g.S.Source.faults l.source ≡ g.S.Source.faults l.fn.source;
}

abbrev pub decreases-loop-self : goal.decreases-loop-self
decreases-loop-self g l = 20480 - length l.self.buffered
