use Rattle.std.proofs.Common.{◌≤◌, ◌+◌, ◌-◌, ◌∙◌, ℕ, List, length, take, drop, arith, sym, subst, length-take}
use Rattle.cx_edge.specs.Lines.{LinesState, CutsLine, IsFirstLine}
use Rattle.cx_edge.proofs.LineLaws.{drop_between, take_between}
use Rattle.cx_edge.proofs.lines.Lines.cut.Goals as goal

cuts : (max : ℕ) (bytes text : List ℕ) (start end len size : ℕ) → end ≤ length bytes → start ≤ end
    → IsFirstLine max (take (end - start) (drop start bytes)) len size
    → CutsLine max (record { buffered = take (end - start) (drop start bytes); text = text })
    (record { buffered = take (end - (start + size)) (drop (start + size) bytes); text = take (start + len - start) (drop start bytes) })
cuts max bytes text start end len size inside order first =
    let buffered = take (end - start) (drop start bytes) in
    let room : start + size ≤ end = omega (arith, inside, order, first.inside, length-take (end - start) (drop start bytes)) in
    record {
      part = first.part;
      free = first.free;
      fits = first.fits;
      text = sym (take_between bytes start end len (omega (arith, first.shorter, room))) ∙ first.text;
      whole = rw (drop_between bytes start end size room) at first.whole;
    }

pub returns-in-Line : goal.returns-in-Line
returns-in-Line c =
    let s = c.self.inside in
    let first : IsFirstLine c.args.max (take (s.end - s.start) (drop s.start s.bytes.items)) c.in-Line.len c.in-Line.size =
    rw c.deref.ensures.value at c.in-Line.ensures in
    let inside : s.end ≤ length s.bytes.items =
    rw c.deref.ensures.value at (subst (λ n. s.end ≤ n) (sym c.deref.ensures.len) c.self.invariant.1) in
    let new : LinesState = record {
      buffered = take (s.end - (s.start + c.in-Line.size)) (drop (s.start + c.in-Line.size) s.bytes.items);
      text = take (s.start + c.in-Line.len - s.start) (drop s.start s.bytes.items);
    } in
    subst (λ (old : LinesState). CutsLine c.args.max old new) c.self.view_is
    (cuts c.args.max s.bytes.items (take (s.text_end - s.text_start) (drop s.text_start s.bytes.items)) s.start s.end c.in-Line.len
    c.in-Line.size inside c.self.invariant.0 first)
