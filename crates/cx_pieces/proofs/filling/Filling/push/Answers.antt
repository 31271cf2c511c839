use Rattle.std.proofs.Common.{◌≡◌, ◌+◌, ◌++◌, ◌∷◌, ◌∙◌, [], length, length-append, ap, sym, arith}
use Rattle.cx_pieces.proofs.Cuts.{cut_more, ends_more}
use Rattle.cx_pieces.proofs.filling.Filling.push.Goals as goal

pub invariant_of-self-2 : goal.invariant_of-self-2
invariant_of-self-2 c =
    let old = c.self.inside in
    let ends : c.push_reserved.new.self.items ≡ old.ends.items ++ c.in_ok-end.end ∷ [] =
    c.push_reserved.ensures.items ∙ ap (λ es. es ++ c.in_ok-end.end ∷ []) c.in_ok-reserve.ensures.items in
    let end : c.in_ok-end.end ≡ length old.bytes.items + length c.args.piece.now =
    c.in_ok-end.ensures ∙ ap (λ n. n + length c.args.piece.now) (c.len.ensures ∙ old.bytes.ok.0) in
    let all : length c.extend_from_slice.new.self.items ≡ c.in_ok-end.end =
    ap length c.in_ok-extend_from_slice.ensures.items ∙ length-append old.bytes.items c.args.piece.now ∙ sym end in
    rw (ends, all) (ends_more 0 old.ends.items (length old.bytes.items) c.in_ok-end.end c.self.invariant (omega (arith, end)))

pub returns-clause-ok : goal.returns-clause-ok
returns-clause-ok c =
    let old = c.self.inside in
    let ends : c.push_reserved.new.self.items ≡ old.ends.items ++ c.in_ok-end.end ∷ [] =
    c.push_reserved.ensures.items ∙ ap (λ es. es ++ c.in_ok-end.end ∷ []) c.in_ok-reserve.ensures.items in
    let end : c.in_ok-end.end ≡ length old.bytes.items + length c.args.piece.now =
    c.in_ok-end.ensures ∙ ap (λ n. n + length c.args.piece.now) (c.len.ensures ∙ old.bytes.ok.0) in
    rw (← c.self.view_is) (rw (ends, c.in_ok-extend_from_slice.ensures.items)
    (cut_more 0 old.ends.items old.bytes.items c.args.piece.now c.in_ok-end.end c.self.invariant end))
