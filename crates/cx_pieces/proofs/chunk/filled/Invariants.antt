use Rattle.std.proofs.Common.{◌≡◌, ◌++◌, drop}
use Rattle.cx_pieces.proofs.chunk.filled.Given as goal

abbrev pub invariant-loop-piece : goal.invariant-loop-piece
invariant-loop-piece l = l.filling ++ drop l.piece-index l.pieces ≡ l.pieces
