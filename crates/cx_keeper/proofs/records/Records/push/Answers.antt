use Rattle.std.proofs.Common.{◌≡◌, ◌++◌, ◌∷◌, [], ap, ◌∙◌}
use Rattle.cx_keeper.specs.Pieces.{records_at}
use Rattle.cx_keeper.proofs.Pieces.{records_more, pieces_more}
use Rattle.cx_keeper.proofs.records.Records.push.Goals as goal

pub invariant_of-self-2 : goal.invariant_of-self-2
invariant_of-self-2 c =
    let old = c.self.inside in
    let pieces : c.push_reserved.new.self.items ≡ old.pieces.items ++ c.in_ok-piece.piece ∷ [] =
    c.push_reserved.ensures.items ∙ ap (λ ps. ps ++ c.in_ok-piece.piece ∷ []) c.in_ok-reserve.ensures.items in
    rw pieces (pieces_more c.args.what.now old.bytes.items c.put_piece.new.bytes.items old.pieces.items c.in_ok-piece.piece c.self.invariant
    c.in_ok-piece.ensures.ok)

pub returns-clause-ok : goal.returns-clause-ok
returns-clause-ok c =
    let old = c.self.inside in
    let pieces : c.push_reserved.new.self.items ≡ old.pieces.items ++ c.in_ok-piece.piece ∷ [] =
    c.push_reserved.ensures.items ∙ ap (λ ps. ps ++ c.in_ok-piece.piece ∷ []) c.in_ok-reserve.ensures.items in
    rw (← c.self.view_is) (ap (records_at c.put_piece.new.bytes.items) pieces ∙ records_more c.args.what.now old.bytes.items
    c.put_piece.new.bytes.items old.pieces.items c.in_ok-piece.piece c.self.invariant c.in_ok-piece.ensures.ok)
