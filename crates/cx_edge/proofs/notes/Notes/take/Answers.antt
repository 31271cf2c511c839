use Rattle.cx_base.proofs.Common.{◌≡◌, ◌+◌, ℕ, List, slice_range, ap, ◌∷◌, ◌⊎◌, ◌≤◌, length, vec_len, inl, inr, arith, subst, ◌∙◌, All}
use Rattle.cx_base.proofs.Common.{cases_lt, All-head, All-tail, All-push}
use Rattle.cx_edge.specs.Notes.{Fits, TakenFits}
use Rattle.cx_edge.proofs.NotesLaws.{take_noted}
use Rattle.cx_edge.proofs.notes.Notes.take.Goals as goal

pub invariant_of-self-2 : goal.invariant_of-self-2
invariant_of-self-2 c =
    let old = c.self.inside in
    let first : old.waiting.items ≡ c.in-Some.piece ∷ c.pop_front.new.self.items = c.in-Some.ensures.items in
    let all = subst (All (Fits (vec_len old.bytes))) first c.self.invariant.waiting in
    let fits = All-head (Fits (vec_len old.bytes)) c.in-Some.piece c.pop_front.new.self.items all in
    let short : c.min-count.result ≤ c.in-Some.piece.len = omega (arith, c.min-count.ensures) in
    record {
      taken = rw c.push_reserved-2.ensures.items
          (All-push (TakenFits (vec_len old.bytes)) old.taken.items _ c.self.invariant.taken (omega (arith, fits, short)));
      sent = c.self.invariant.sent;
      waiting = All-tail (Fits (vec_len old.bytes)) c.in-Some.piece c.pop_front.new.self.items all;
      fronts = c.self.invariant.fronts;
    }

pub returns : goal.returns
returns c =
    let old = c.self.inside in
    let bytes = old.bytes.items in
    let count = c.min-count.result in
    let buffer = c.args.buffer.now in
    let piece = c.in-Some.piece in
    let first : old.waiting.items ≡ piece ∷ c.pop_front.new.self.items = c.in-Some.ensures.items in
    let all = subst (All (Fits (vec_len old.bytes))) first c.self.invariant.waiting in
    let fits = subst (λ n. Fits n piece) old.bytes.ok.0 (All-head (Fits (vec_len old.bytes)) piece c.pop_front.new.self.items all) in
    let which : (count ≡ piece.len) ⊎ (count ≡ length buffer) = elim (cases_lt piece.len (length
    buffer)) [ inl less ↦ inl (omega (arith, c.min-count.ensures, less)) | inr more ↦ inr (omega (arith, c.min-count.ensures, more)) ] in
    rw (c.push_reserved-2.ensures.items, ← c.self.view_is) (take_noted bytes old.taken.items old.sent.items old.waiting.items
    c.pop_front.new.self.items piece count buffer c.copy_from_slice.new.self
    first fits (omega (arith, c.min-count.ensures)) (omega (arith, c.min-count.ensures)) which
    (c.copy_from_slice.ensures.after ∙ ap (λ (b : List ℕ). slice_range b piece.start (piece.start + count)) c.deref.ensures.value))
