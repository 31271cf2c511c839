use Rattle.std.proofs.lemmas.Option.{slice_get-map}
use Rattle.cx_base.proofs.Common.{◌≡◌, Some, None, ap, sym, ◌∙◌, slice_get, option_map}
use Rattle.cx_letter.specs.declared.kept.Record.{Record}
use Rattle.cx_keeper.specs.Pieces.{record_at}
use Rattle.cx_keeper.specs.declared.records.Piece.{Piece}
use Rattle.cx_keeper.proofs.Pieces.{piece_at}
use Rattle.cx_keeper.proofs.records.Records.get.Goals as goal

pub read_piece-requires : goal.read_piece-requires
read_piece-requires c =
    let here : slice_get c.self.inside.pieces.items c.args.number ≡ Some c.in-Some.piece =
    ap (λ ps. slice_get ps c.args.number) (sym c.deref.ensures.value) ∙ sym c.piece_of.ensures ∙ c.in-Some.is in
    rw c.deref-in-Some.ensures.value
    (piece_at c.self.inside.bytes.items c.self.inside.pieces.items c.args.number c.in-Some.piece c.self.invariant here)

pub returns-in-None : goal.returns-in-None
returns-in-None c =
    let at : Piece → Record = λ p. record_at c.self.inside.bytes.items p in
    let none : slice_get c.self.inside.pieces.items c.args.number ≡ None =
    ap (λ ps. slice_get ps c.args.number) (sym c.deref.ensures.value) ∙ sym c.piece_of.ensures ∙ c.in-None.is in
    rw (← c.self.view_is) (sym (slice_get-map at c.self.inside.pieces.items c.args.number ∙ ap (option_map at) none))

pub returns-in_ok-read_piece-in-Some : goal.returns-in_ok-read_piece-in-Some
returns-in_ok-read_piece-in-Some c =
    let at : Piece → Record = λ p. record_at c.self.inside.bytes.items p in
    let here : slice_get c.self.inside.pieces.items c.args.number ≡ Some c.in-Some.piece =
    ap (λ ps. slice_get ps c.args.number) (sym c.deref.ensures.value) ∙ sym c.piece_of.ensures ∙ c.in-Some.is in
    let read : c.in_ok-read_piece-in-Some.field-0 ≡ at c.in-Some.piece =
    rw (← c.deref-in-Some.ensures.value) c.in_ok-read_piece-in-Some.ensures in
    rw (← c.self.view_is) (ap Some read ∙ sym (slice_get-map at c.self.inside.pieces.items c.args.number ∙ ap (option_map at) here))
