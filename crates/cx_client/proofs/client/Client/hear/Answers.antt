use Rattle.cx_role.proofs.Common.{◌≡◌, ◌∙◌, ap, arith, get_or, subst, sym, List, position, Event}
use Rattle.cx_client.specs.Client.{ClientState, IsClient, after_completion, hearing, left}
use Rattle.cx_client.specs.Window.{has_number, outstanding}
use Rattle.cx_script.specs.Requests.{number_of}
use Rattle.cx_client.proofs.Steps.{hearing_is_client, hears_none, hears_one}
use Rattle.cx_client.proofs.Windows.{found_at, last_is, last_or}
use Rattle.cx_client.proofs.client.Client.hear.Goals as goal

pub returns-in_default-clause-ok : goal.returns-in_default-clause-ok
returns-in_default-clause-ok c =
    hears_none (hearing c.args.at c.args.self.now) c.args.number _ _ c.raise.ensures (ap (position (has_number c.args.number))
    (sym c.outstanding-outstanding.ensures) ∙ sym c.request_place.ensures ∙ c.in_default.is) c.requires.empty

pub complete-requires : goal.complete-requires
complete-requires c =
    let is = subst IsClient c.self.view_is c.self.invariant in
    let here =
    ap (position (has_number c.args.number)) (sym c.outstanding-outstanding.ensures) ∙ sym c.request_place.ensures ∙ c.in-Some.is in
    rw c.raise-2.ensures (found_at c.args.self.now.window c.args.number (left c.args.self.now) is.script.rising c.in-Some.place here).2

pub send_above-requires : goal.send_above-requires
send_above-requires c =
    let is = subst IsClient c.self.view_is c.self.invariant in
    let here =
    ap (position (has_number c.args.number)) (sym c.outstanding-outstanding.ensures) ∙ sym c.request_place.ensures ∙ c.in-Some.is in
    let d = (found_at c.args.self.now.window c.args.number (left c.args.self.now) is.script.rising c.in-Some.place here).0 in
    let same : c.complete.new.self.window ≡ c.args.self.now.window =
    ap (λ (s : ClientState). s.window) (c.complete.ensures d) ∙ ap (λ (s : ClientState). s.window) c.raise-2.ensures in
    let own : c.self.inside.window ≡ c.args.self.now.window = ap (λ (s : ClientState). s.window) c.self.view_is in
    let room = c.in_ok-room.ensures.spare in
    record { room = omega (arith, same, own, room) }

pub returns-clause-ok : goal.returns-clause-ok
returns-clause-ok c =
    let s = c.args.self.now in
    let is = subst IsClient c.self.view_is c.self.invariant in
    let here =
    ap (position (has_number c.args.number)) (sym c.outstanding-outstanding.ensures) ∙ sym c.request_place.ensures ∙ c.in-Some.is in
    let found = found_at s.window c.args.number (left s) is.script.rising c.in-Some.place here in
    let t = hearing c.args.at s in
    let state : c.complete.new.self ≡ after_completion c.args.number t =
    subst (λ (r : ClientState). c.complete.new.self ≡ after_completion c.args.number r) c.raise-2.ensures
    (c.complete.ensures found.0 ∙ ap (λ n. after_completion n c.raise-2.new.self)
    (subst (λ (r : ClientState). number_of (get_or (left r) c.in-Some.place found.0) ≡ c.args.number) (sym c.raise-2.ensures) found.3)) in
    let last : c.last_number-sent.result ≡ last_or 0 (outstanding s.window (left s)) =
    subst (λ (es : List Event). c.last_number-sent.result ≡ last_or 0 es) c.outstanding-outstanding.ensures (last_is 0
    c.outstanding-outstanding.result.now c.last_number-sent.result c.last_number-sent.ensures.last c.last_number-sent.ensures.none) in
    hears_one t c.args.number c.last_number-sent.result _ _ _ (hearing_is_client s c.args.at c.requires.at is) found.1 state last
    (c.in_ok-room.ensures.list ∙ c.requires.empty) c.send_above.ensures
