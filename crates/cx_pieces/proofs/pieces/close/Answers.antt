use Rattle.cx_base.proofs.Common.{◌≡◌, ◌++◌, ◌∷◌, ◌∙◌, [], List, ℕ, length, ap, arith, append-nil}
use Rattle.cx_pieces.specs.Chunks.{all_of}
use Rattle.cx_pieces.proofs.Places.{all_more, full_more}
use Rattle.cx_pieces.proofs.pieces.close.Goals as goal

pub returns-clause-same : goal.returns-clause-same
returns-clause-same c =
    let old = c.args.chunks.now.items in
    let chunk : c.in_ok-chunk.chunk ≡ c.args.last.now.items = c.in_ok-chunk.ensures ∙ c.deref.ensures.value in
    rw (c.clear.ensures.items, c.in_ok-push.ensures.items) (append-nil (all_of (old ++ c.in_ok-chunk.chunk ∷ []))
    ∙ all_more old c.in_ok-chunk.chunk ∙ ap (λ (l : List (List ℕ)). all_of old ++ l) chunk)

pub returns-clause-full : goal.returns-clause-full
returns-clause-full c full =
    let chunk : c.in_ok-chunk.chunk ≡ c.args.last.now.items = c.in_ok-chunk.ensures ∙ c.deref.ensures.value in
    let size : length c.in_ok-chunk.chunk ≡ 256 =
    omega (arith, ap (λ (l : List (List ℕ)). length l) chunk, c.len.ensures, c.if-len-ne-SIZE.false, c.args.last.now.ok.0) in
    rw c.in_ok-push.ensures.items (full_more 256 c.args.chunks.now.items c.in_ok-chunk.chunk full size)
