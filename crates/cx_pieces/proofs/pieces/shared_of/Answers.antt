use Rattle.cx_base.proofs.Common.{◌≡◌, ◌/◌, Some, None, sym, slice_get}
use Rattle.cx_pieces.proofs.Places.{piece_nowhere, piece_there}
use Rattle.cx_pieces.proofs.pieces.shared_of.Goals as goal

pub returns-in-None : goal.returns-in-None
returns-in-None c =
    let nowhere : slice_get c.args.chunks.now (c.args.number / 256) ≡ None = rw c.in-None.is at (sym c.chunk_at.ensures) in
    sym (piece_nowhere c.args.chunks.now c.args.number c.requires nowhere)

pub returns-in-Some : goal.returns-in-Some
returns-in-Some c =
    let there : slice_get c.args.chunks.now (c.args.number / 256) ≡ Some c.in-Some.chunk.now =
    rw c.in-Some.is at (sym c.chunk_at.ensures) in
    rw (piece_there c.args.chunks.now c.args.number c.in-Some.chunk.now c.requires there) c.shared.ensures
