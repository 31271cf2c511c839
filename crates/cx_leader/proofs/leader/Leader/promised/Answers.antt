use Rattle.cx_model.specs.Prelude.{lead_with, plan}
use Rattle.cx_role.proofs.Common.{◌≡◌, ◌++◌, ◌∷◌, [], ap, refl, rules, subst, sym, ◌∙◌, Outcome, IsReply, LeaderVolatile, leader_rules}
use Rattle.cx_model.specs.declared.states.Promised.{Promised}
use Rattle.cx_phase1.specs.Counting.{count_promise, counted_by}
use Rattle.cx_phase1.specs.declared.told.Told.TheVariants as told
use Rattle.cx_leader.specs.Promising.{counting, told_row}
use Rattle.cx_leader.proofs.PromiseLaws.{counted_whole}
use Rattle.cx_leader.proofs.leader.Leader.promised.Goals as goal

pub returns-in_ok-plan-in-Whole : goal.returns-in_ok-plan-in-Whole
returns-in_ok-plan-in-Whole c =
    let s = c.args.self.now in
    let v = s.volatile in
    let p : Promised = record { acceptor = c.args.acceptor; cw = c.args.cw; votes = c.args.votes.now } in
    let whole : count_promise (counting v) p ≡ told.Whole = search rules in
    let same : c.in_ok-phase1.phase1 ≡ counting v = search rules in
    let counted = c.in_ok-answer.ensures.counted ∙ ap (λ k. counted_by k p) same ∙ counted_whole (counting v) p whole in
    let cw : c.cw.result ≡ v.cw = rw (← c.self.view_is) c.cw.ensures.cw in
    let planned : c.in_ok-plan-in-Whole.plan ≡ plan v.cw (v.promises ++ p ∷ []) =
    c.in_ok-plan-in-Whole.ensures.plan ∙ rw (cw, counted) refl in
    let row = ap (lead_with s.cluster s.me c.args.own.now v) planned ∙ ap (told_row s.cluster s.me c.args.own.now v p) (sym whole) in
    let Is = λ (o : Outcome LeaderVolatile). IsReply leader_rules s o c.lead_with.result c.lead_with.new.self c.lead_with.new.out.list in
    subst Is row c.lead_with.ensures
