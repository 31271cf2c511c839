use Rattle.std.proofs.Common.{◌≡◌, ◌∙◌, ap, map, subst, sym}
use Rattle.cx_client.specs.Asking.{shifted}
use Rattle.cx_client.specs.Client.{ClientState, IsClient, left}
use Rattle.cx_client.specs.Window.{floor_for, outstanding, request_letters}
use Rattle.cx_client.proofs.Steps.{sent_all, ticks_again}
use Rattle.cx_client.proofs.client.Client.tick.Goals as goal

pub returns-clause-ok : goal.returns-clause-ok
returns-clause-ok c =
    let after = c.ask_again.new.self in
    let shift = ap (λ (s : ClientState). s.shift) c.self-2.view_is in
    let sent = sent_all after c.self-2.inside.shift _ _ (subst IsClient c.self-2.view_is c.self-2.invariant)
    (c.in_ok-room.ensures.list ∙ c.requires.empty) c.send_above.ensures in
    ticks_again c.args.self.now after _ (subst IsClient c.self.view_is c.self.invariant) (sym c.if-finished.ensures) c.ask_again.ensures
    (subst (λ o. c.send_above.new.out.list ≡ request_letters after.heard (floor_for (left after))
    (map (shifted after.cluster o) (outstanding after.window (left after)))) shift sent)
