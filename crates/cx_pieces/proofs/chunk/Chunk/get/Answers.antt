use Rattle.cx_base.proofs.Common.{◌≡◌, ◌∙◌, Some, None, length, sym, slice_get}
use Rattle.cx_pieces.proofs.Cuts.{cut_nowhere, cut_there, lies}
use Rattle.cx_pieces.proofs.chunk.Chunk.get.Goals as goal

pub between-requires-clause-order : goal.between-requires-clause-order
between-requires-clause-order c =
    let inside = c.self.inside in
    let there : slice_get inside.ends.items c.args.number ≡ Some c.in-Some.end =
    rw (← c.deref.ensures.value) (sym c.end_of.ensures ∙ c.in-Some.is) in
    rw (c.begin_of.ensures, c.deref-in-Some.ensures.value)
    (lies 0 inside.ends.items (length inside.bytes) c.args.number c.in-Some.end c.self.invariant there).0

pub between-requires-clause-within : goal.between-requires-clause-within
between-requires-clause-within c =
    let inside = c.self.inside in
    let there : slice_get inside.ends.items c.args.number ≡ Some c.in-Some.end =
    rw (← c.deref.ensures.value) (sym c.end_of.ensures ∙ c.in-Some.is) in
    rw c.as_slice.ensures (lies 0 inside.ends.items (length inside.bytes) c.args.number c.in-Some.end c.self.invariant there).1

pub returns-in-None : goal.returns-in-None
returns-in-None c =
    let inside = c.self.inside in
    let nowhere : slice_get inside.ends.items c.args.number ≡ None = rw (← c.deref.ensures.value) (sym c.end_of.ensures ∙ c.in-None.is) in
    rw (← c.self.view_is) (sym (cut_nowhere 0 inside.ends.items inside.bytes c.args.number nowhere))

pub returns-in-Some : goal.returns-in-Some
returns-in-Some c =
    let inside = c.self.inside in
    let there : slice_get inside.ends.items c.args.number ≡ Some c.in-Some.end =
    rw (← c.deref.ensures.value) (sym c.end_of.ensures ∙ c.in-Some.is) in
    rw (← c.self.view_is, c.between.ensures, c.begin_of.ensures, c.deref-in-Some.ensures.value, c.as_slice.ensures)
    (sym (cut_there 0 inside.ends.items inside.bytes c.args.number c.in-Some.end there))
