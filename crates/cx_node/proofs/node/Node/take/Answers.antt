use Rattle.cx_node.proofs.Common.{◌≡◌, Ok, Err, Option, refl, ap, ◌∙◌, subst, err_from_is_err_and, scene_of, changing, NodeState}
use Rattle.cx_node.specs.declared.come.Come.{Come}
use Rattle.cx_node.specs.declared.come.Come.TheVariants as come
use Rattle.cx_node.specs.Acts.{Receives}
use Rattle.cx_node.proofs.Parts.{take_none, take_some, take_stops}
use Rattle.cx_record.specs.Numbers.{Recorded}
use Rattle.cx_node.proofs.node.Node.take.Goals as goal

pub returns-in_err-come-clause-acts : goal.returns-in_err-come-clause-acts
returns-in_err-come-clause-acts g c =
    let gs = c.args.self.now.guests in
    let same : c.self.inside.seats.items ≡ gs = ap (λ (s : NodeState g.row.K.Denot). s.guests) c.self.view_is in
    let known = c.args.self.now.recorded in
    let same_known : c.self.inside.recorder ≡ known = ap (λ (s : NodeState g.row.K.Denot). s.recorded) c.self.view_is in
    let link = g.L.Link.history c.args.link.now in
    let mid = g.L.Link.history c.receive.new.link in
    let out = g.W.Sink.taken c.args.out.now in
    let p = err_from_is_err_and c.from_residual.result c.from_residual.ensures.1 in
    let is : c.from_residual.result ≡ Err c.in_err-come.field-0.0 = p.1 ∙ ap Err p.2 in
    rw (is, same, same_known) (take_stops (changing g.K.Keeper.append_gives g.K.Renew.renew_gives)
    c.args.self.now.cluster gs known link mid out c.in_err-come.field-0.0 c.requires.ready
    (subst (λ (k : Option Recorded). Receives k link mid (Err c.in_err-come.field-0.0)) same_known c.in_err-come.ensures.receives))

pub returns-in-Letter-clause-acts : goal.returns-in-Letter-clause-acts
returns-in-Letter-clause-acts g c =
    let gs = c.args.self.now.guests in
    let same : c.self.inside.seats.items ≡ gs = ap (λ (s : NodeState g.row.K.Denot). s.guests) c.self.view_is in
    let known = c.args.self.now.recorded in
    let same_known : c.self.inside.recorder ≡ known = ap (λ (s : NodeState g.row.K.Denot). s.recorded) c.self.view_is in
    let link = g.L.Link.history c.args.link.now in
    let mid = g.L.Link.history c.receive.new.link in
    let out = g.W.Sink.taken c.args.out.now in
    let same_cluster : c.self.inside.cluster ≡ c.args.self.now.cluster = ap
    (λ (s : NodeState g.row.K.Denot). s.cluster) c.self.view_is in
    let got : Receives known link mid (Ok (come.Letter c.in-Letter.number c.in-Letter.datagram)) = subst
    (λ (o : Come). Receives known link mid (Ok o)) c.in-Letter.is (rw same_known at c.in_ok-come.ensures.receives) in
    take_some (changing g.K.Keeper.append_gives g.K.Renew.renew_gives) c.args.self.now.cluster c.in-Letter.number c.in-Letter.datagram gs
    known link mid out c.act_named.result
    (scene_of g.L.Link g.W.Sink c.act_named.new.self c.act_named.new.link c.act_named.new.out) c.requires.ready got
    (rw (same, same_known, same_cluster, c.to-to.ensures.to) at c.act_named.ensures.acts)

pub returns-in-Nothing-clause-acts : goal.returns-in-Nothing-clause-acts
returns-in-Nothing-clause-acts g c =
    let gs = c.args.self.now.guests in
    let same : c.self.inside.seats.items ≡ gs = ap (λ (s : NodeState g.row.K.Denot). s.guests) c.self.view_is in
    let known = c.args.self.now.recorded in
    let same_known : c.self.inside.recorder ≡ known = ap (λ (s : NodeState g.row.K.Denot). s.recorded) c.self.view_is in
    let link = g.L.Link.history c.args.link.now in
    let mid = g.L.Link.history c.receive.new.link in
    let out = g.W.Sink.taken c.args.out.now in
    rw (same, same_known)
    (take_none (changing g.K.Keeper.append_gives g.K.Renew.renew_gives) c.args.self.now.cluster come.Nothing gs known link mid out refl
    c.requires.ready (subst (λ (o : Come). Receives known link mid (Ok o)) c.in-Nothing.is
    (rw same_known at c.in_ok-come.ensures.receives)))

pub returns-in-Foreign-clause-acts : goal.returns-in-Foreign-clause-acts
returns-in-Foreign-clause-acts g c =
    let gs = c.args.self.now.guests in
    let same : c.self.inside.seats.items ≡ gs = ap (λ (s : NodeState g.row.K.Denot). s.guests) c.self.view_is in
    let known = c.args.self.now.recorded in
    let same_known : c.self.inside.recorder ≡ known = ap (λ (s : NodeState g.row.K.Denot). s.recorded) c.self.view_is in
    let link = g.L.Link.history c.args.link.now in
    let mid = g.L.Link.history c.receive.new.link in
    let out = g.W.Sink.taken c.args.out.now in
    rw (same, same_known)
    (take_none (changing g.K.Keeper.append_gives g.K.Renew.renew_gives) c.args.self.now.cluster come.Foreign gs known link mid out refl
    c.requires.ready (subst (λ (o : Come). Receives known link mid (Ok o)) c.in-Foreign.is
    (rw same_known at c.in_ok-come.ensures.receives)))
