use Rattle.std.proofs.Common.{◌≡◌, ◌++◌, drop}
use Rattle.cx_keeper.specs.Pieces.{ArePieces, records_at}
use Rattle.cx_keeper.proofs.records.read_pieces.Given as goal

abbrev pub invariant-loop-piece : goal.invariant-loop-piece
invariant-loop-piece l = record {
  so_far : l.list.items ++ records_at l.bytes (drop l.piece-index l.pieces) ≡ records_at l.bytes l.pieces;
  left : ArePieces l.bytes (drop l.piece-index l.pieces);
}
