use Rattle.std.proofs.KnownBytes.{Consumes-trans}
use Rattle.cx_edge.proofs.source.read_all.Goals as goal

pub returns-in-Err-clause-bytes : goal.returns-in-Err-clause-bytes
returns-in-Err-clause-bytes g c = (_, Consumes-trans _ _ _ _ _ c.loop-piece.invariant.bytes c.in-Got.ensures.bytes.bytes)
