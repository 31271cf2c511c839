use Rattle.cx_inv_run.proofs.Common.{◌≡◌, ◌≤◌, ◌-◌, ◌∙◌, ap, arith, length, subst, sym, true, list_all, is_valid_event, Event}
use Rattle.cx_client.specs.Window.{floor_for, outstanding, event_with_floor}
use Rattle.cx_client.proofs.Windows.{all_valid, at_most}
use Rattle.cx_client.proofs.sending.send_outstanding.Goals as goal

pub send_above-requires-clause-room : goal.send_above-requires-clause-room
send_above-requires-clause-room c =
    let most : length (outstanding c.args.window c.args.left.now) ≤ c.args.window = at_most c.args.window c.args.left.now in
    let room = c.requires.room in
    rw c.outstanding.ensures (omega (arith, most, room))

pub send_above-requires-clause-taken : goal.send_above-requires-clause-taken
send_above-requires-clause-taken c =
    let floor : c.saturating_sub-floor.result ≡ floor_for c.args.left.now =
    c.saturating_sub-floor.ensures ∙ ap (λ n. n - 1) c.first_of.ensures in
    subst (λ n. list_all (λ (e : Event). is_valid_event (event_with_floor n e)) c.outstanding.result.now ≡ true) (sym floor)
    (rw c.outstanding.ensures (all_valid c.args.window c.args.left.now c.requires.rising))
