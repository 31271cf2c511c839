use Rattle.cx_base.proofs.Common.{◌≡◌, ◌∙◌, Some, None, length, sym, slice_get}
use Rattle.cx_pieces.proofs.Cuts.{cut_nowhere, cut_there, lies}
use Rattle.cx_pieces.proofs.chunk.Chunk.shared.Goals as goal

pub shared_between-requires-clause-order : goal.shared_between-requires-clause-order
shared_between-requires-clause-order c =
    let inside = c.self.inside in
    let there : slice_get inside.ends.items c.args.number ≡ Some c.in-Some.end =
    rw (← c.deref.ensures.value) (sym c.end_of.ensures ∙ c.in-Some.is) in
    rw (c.begin_of-begin.ensures, c.deref-in-Some.ensures.value)
    (lies 0 inside.ends.items (length inside.bytes) c.args.number c.in-Some.end c.self.invariant there).0

pub shared_between-requires-clause-within : goal.shared_between-requires-clause-within
shared_between-requires-clause-within c =
    let inside = c.self.inside in
    let there : slice_get inside.ends.items c.args.number ≡ Some c.in-Some.end =
    rw (← c.deref.ensures.value) (sym c.end_of.ensures ∙ c.in-Some.is) in
    (lies 0 inside.ends.items (length inside.bytes) c.args.number c.in-Some.end c.self.invariant there).1

pub returns-in-None : goal.returns-in-None
returns-in-None c =
    let inside = c.self.inside in
    let nowhere : slice_get inside.ends.items c.args.number ≡ None = rw (← c.deref.ensures.value) (sym c.end_of.ensures ∙ c.in-None.is) in
    rw (← c.self.view_is) (sym (cut_nowhere 0 inside.ends.items inside.bytes c.args.number nowhere))

pub returns-in_ok-shared_between-in-Some : goal.returns-in_ok-shared_between-in-Some
returns-in_ok-shared_between-in-Some c =
    let inside = c.self.inside in
    let there : slice_get inside.ends.items c.args.number ≡ Some c.in-Some.end =
    rw (← c.deref.ensures.value) (sym c.end_of.ensures ∙ c.in-Some.is) in
    rw (← c.self.view_is, c.in_ok-shared_between-in-Some.ensures, c.begin_of-begin.ensures, c.deref-in-Some.ensures.value)
    (sym (cut_there 0 inside.ends.items inside.bytes c.args.number c.in-Some.end there))
