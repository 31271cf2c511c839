use Rattle.std.proofs.Common.{◌∙◌, sym}
use Rattle.cx_history.proofs.Asking.{told_stale}
use Rattle.cx_history.proofs.events.Events.is_stale.Goals as goal

pub returns : goal.returns
returns c =
    let inside = c.self.inside in
    rw (← c.self.view_is)
    (c.is_stale.ensures ∙ sym (told_stale inside.events.items inside.requests c.args.token c.args.event.now c.self.invariant.tells))
