use Rattle.std.specs.List.{concat}
use Rattle.cx_base.proofs.Common.{◌≡◌, map, take, Appends}
use Rattle.compax.proofs.line.write_parts.Given as goal

abbrev pub invariant-loop-part : goal.invariant-loop-part
invariant-loop-part g l = record {
  bytes : Appends (g.E.Sink.taken l.fn.err) (g.E.Sink.taken l.err) (concat (map (λ part. part.now) (take l.part-index l.parts)));
  still : g.E.Sink.faults l.err ≡ g.E.Sink.faults l.fn.err;
}
