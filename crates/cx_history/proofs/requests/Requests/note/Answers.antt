use Rattle.std.proofs.Common.{◌≡◌, ◌∙◌, ap, subst, sym}
use Rattle.cx_history.specs.Held.{ArePlaces, IsPiecePlace, asked_with}
use Rattle.cx_history.proofs.requests.Requests.note.Goals as goal

pub ask-requires : goal.ask-requires
ask-requires c =
    let inside = c.self.inside in
    let earlier : c.asked_with-earlier.result ≡ asked_with c.args.token inside.asked.entries =
    c.asked_with-earlier.ensures ∙ ap (asked_with c.args.token) c.in_ok-reserve.ensures.entries in
    subst (IsPiecePlace inside.pieces) (sym earlier) (subst (λ s. ArePlaces s.pieces s.asked) (sym c.self.view_is) c.requires c.args.token)
