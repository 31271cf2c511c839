use Rattle.cx_base.proofs.Common.{◌≡◌, ◌∙◌, false, List, sym, subst, IfSome, list_any}
use Rattle.cx_edge.specs.declared.mem_link.BindRow.{BindRow}
use Rattle.cx_edge.specs.Link.{IsUnbound, binds_either}
use Rattle.cx_edge.specs.MemLink.{LinkState, bind_of}
use Rattle.cx_edge.proofs.BindLaws.{told_unbound}
use Rattle.cx_edge.proofs.mem_link.MemLinkLink.bind.Goals as goal

pub returns-clause-once : goal.returns-clause-once
returns-clause-once c =
    let binds : List BindRow → Type 0 =
    λ rows. list_any (λ (row : BindRow). binds_either c.args.role c.args.port (bind_of row)) rows ≡ false in
    let none : binds c.self.inside.binds.items = subst binds c.deref-2.ensures.value (sym c.is_bound.ensures ∙ c.if-is_bound.false) in
    subst (λ (s : LinkState). IfSome s.history (IsUnbound c.args.role c.args.port)) c.self.view_is
    (told_unbound c.args.role c.args.port c.self.inside.is_silent c.self.inside.binds.items c.self.inside.notes none)
