use Rattle.cx_node.proofs.Common.{◌≡◌, length, get_or, option_map, Some, Err, slice_get, refl, ap, ◌∙◌, slice_get_read, err_from_is_err_and}
use Rattle.cx_node.proofs.Common.{changing, NodeState}
use Rattle.cx_node.specs.declared.node.Stop.TheVariants as stop
use Rattle.cx_seat.specs.Noting.{with_more_lines, noting, shown}
use Rattle.cx_node.proofs.SeatedActs.{acts_seated, acts_unasked, acts_unsent, acts_unspelled, acts_unwritten, fits_still}
use Rattle.cx_node.proofs.node.Node.act.Goals as goal

pub returns-in_err-ask_if-clause-acts : goal.returns-in_err-ask_if-clause-acts
returns-in_err-ask_if-clause-acts g c =
    let cl = c.args.self.now.cluster in
    let gs = c.args.self.now.guests in
    let r = c.args.self.now.recorded in
    let same : c.self.inside.seats.items ≡ gs = ap (λ (s : NodeState g.row.K.Denot). s.guests) c.self.view_is in
    let same_cluster : c.self.inside.cluster ≡ cl = ap (λ (s : NodeState g.row.K.Denot). s.cluster) c.self.view_is in
    let same_recorded : c.self.inside.recorder ≡ r = ap (λ (s : NodeState g.row.K.Denot). s.recorded) c.self.view_is in
    let h = c.index_mut.result.now in
    let i = c.args.place in
    let here : slice_get gs i ≡ Some h = slice_get_read gs (length gs) i h refl c.requires.place
    (c.index_mut.ensures.value ∙ ap (λ xs. get_or xs i h) same) in
    let p = err_from_is_err_and c.from_residual.result c.from_residual.ensures.1 in
    let is : c.from_residual.result ≡ Err c.in_err-ask_if.field-0.0 = p.1 ∙ ap Err p.2 in
    rw (is, same)
    (acts_unasked (changing g.K.Keeper.append_gives g.K.Renew.renew_gives) cl gs i c.args.what.now h c.ask_if.new.seat here
    c.requires.ready c.in_err-ask_if.ensures.name
    r c.self.inside.recorder (g.L.Link.history c.args.link.now) (g.W.Sink.taken c.args.out.now) c.in_err-ask_if.field-0.0
    (λ e. c.in_err-ask_if.ensures.rests (ap Err e))
    (λ e. rw same_recorded at (c.in_err-ask_if.ensures.full (ap Err e)))
    (λ role e. (
      rw same_recorded at (c.in_err-ask_if.ensures.room role (ap Err e)),
      (c.in_err-ask_if.ensures.failed role (ap Err e)).0,
      (c.in_err-ask_if.ensures.failed role (ap Err e)).1,
    ))
    (λ e. c.in_err-ask_if.ensures.no_write (ap Err e)) (λ e. c.in_err-ask_if.ensures.no_link (ap Err e)))

pub returns-in_err-send_all-clause-acts : goal.returns-in_err-send_all-clause-acts
returns-in_err-send_all-clause-acts g c =
    let cl = c.args.self.now.cluster in
    let gs = c.args.self.now.guests in
    let r = c.args.self.now.recorded in
    let same : c.self.inside.seats.items ≡ gs = ap (λ (s : NodeState g.row.K.Denot). s.guests) c.self.view_is in
    let same_cluster : c.self.inside.cluster ≡ cl = ap (λ (s : NodeState g.row.K.Denot). s.cluster) c.self.view_is in
    let same_recorded : c.self.inside.recorder ≡ r = ap (λ (s : NodeState g.row.K.Denot). s.recorded) c.self.view_is in
    let h = c.index_mut.result.now in
    let i = c.args.place in
    let here : slice_get gs i ≡ Some h = slice_get_read gs (length gs) i h refl c.requires.place
    (c.index_mut.ensures.value ∙ ap (λ xs. get_or xs i h) same) in
    let p = err_from_is_err_and c.from_residual-in_err-send_all.result c.from_residual-in_err-send_all.ensures.1 in
    let is : c.from_residual-in_err-send_all.result ≡ Err stop.NoMemory = p.1 ∙ ap Err p.2 in
    rw (is, same) (acts_unsent (changing g.K.Keeper.append_gives g.K.Renew.renew_gives) cl gs i c.args.what.now h c.ask_if.new.seat here
    c.requires.ready c.in_ok-ask_if.ensures.name
    r c.send_all.new.recorder (g.L.Link.history c.args.link.now) (g.L.Link.history c.send_all.new.link) (g.W.Sink.taken c.args.out.now)
    c.ask_if.new.events.items (rw same_recorded at c.in_ok-ask_if.ensures.events) (rw same_recorded at c.in_ok-ask_if.ensures.fits)
    c.in_ok-ask_if.ensures.kept
    (rw (same_cluster, c.as_slice.ensures, c.in_ok-ask_if.ensures.sends) at c.in_err-send_all.ensures.part))

pub take_down-requires : goal.take_down-requires
take_down-requires g c =
    rw (c.in_ok-send_all.ensures.noted, c.as_slice.ensures, c.deref.ensures.value)
    (fits_still c.self.inside.recorder c.ask_if.new.outbox.list c.ask_if.new.events.items c.in_ok-ask_if.ensures.fits)

pub returns-in_err-take_down-clause-acts : goal.returns-in_err-take_down-clause-acts
returns-in_err-take_down-clause-acts g c =
    let cl = c.args.self.now.cluster in
    let gs = c.args.self.now.guests in
    let r = c.args.self.now.recorded in
    let same : c.self.inside.seats.items ≡ gs = ap (λ (s : NodeState g.row.K.Denot). s.guests) c.self.view_is in
    let same_cluster : c.self.inside.cluster ≡ cl = ap (λ (s : NodeState g.row.K.Denot). s.cluster) c.self.view_is in
    let same_recorded : c.self.inside.recorder ≡ r = ap (λ (s : NodeState g.row.K.Denot). s.recorded) c.self.view_is in
    let h = c.index_mut.result.now in
    let i = c.args.place in
    let here : slice_get gs i ≡ Some h = slice_get_read gs (length gs) i h refl c.requires.place
    (c.index_mut.ensures.value ∙ ap (λ xs. get_or xs i h) same) in
    let p = err_from_is_err_and c.from_residual-in_err-take_down.result c.from_residual-in_err-take_down.ensures.1 in
    let is : c.from_residual-in_err-take_down.result ≡ Err stop.NoMemory = p.1 ∙ ap Err p.2 in
    rw (is, same) (acts_unspelled (changing g.K.Keeper.append_gives g.K.Renew.renew_gives) cl gs i c.args.what.now h c.ask_if.new.seat here
    c.requires.ready c.in_ok-ask_if.ensures.name
    r c.take_down.new.recorder (g.L.Link.history c.args.link.now) (g.L.Link.history c.send_all.new.link) (g.W.Sink.taken c.args.out.now)
    c.ask_if.new.events.items (rw same_recorded at c.in_ok-ask_if.ensures.events) (rw same_recorded at c.in_ok-ask_if.ensures.fits)
    c.in_ok-ask_if.ensures.kept
    (rw (same_cluster, c.as_slice.ensures, c.in_ok-ask_if.ensures.sends) at c.in_ok-send_all.ensures.sent))

pub returns-then-not-write_all-clause-acts : goal.returns-then-not-write_all-clause-acts
returns-then-not-write_all-clause-acts g c =
    let cl = c.args.self.now.cluster in
    let gs = c.args.self.now.guests in
    let r = c.args.self.now.recorded in
    let same : c.self.inside.seats.items ≡ gs = ap (λ (s : NodeState g.row.K.Denot). s.guests) c.self.view_is in
    let same_cluster : c.self.inside.cluster ≡ cl = ap (λ (s : NodeState g.row.K.Denot). s.cluster) c.self.view_is in
    let same_recorded : c.self.inside.recorder ≡ r = ap (λ (s : NodeState g.row.K.Denot). s.recorded) c.self.view_is in
    let h = c.index_mut.result.now in
    let i = c.args.place in
    let here : slice_get gs i ≡ Some h = slice_get_read gs (length gs) i h refl c.requires.place
    (c.index_mut.ensures.value ∙ ap (λ xs. get_or xs i h) same) in
    let text_is : c.take_down.new.text.items ≡ shown (option_map (noting c.ask_if.new.outbox.list) r) c.ask_if.new.events.items
    c.ask_if.new.text.items =
    rw (c.in_ok-send_all.ensures.noted, c.as_slice.ensures, same_recorded, c.deref.ensures.value) at c.in_ok-take_down.ensures.text in
    rw same (acts_unwritten (changing g.K.Keeper.append_gives g.K.Renew.renew_gives) cl gs i c.args.what.now h c.ask_if.new.seat here
    c.requires.ready c.in_ok-ask_if.ensures.name
    r c.take_down.new.recorder (g.L.Link.history c.args.link.now) (g.L.Link.history c.send_all.new.link) (g.W.Sink.taken c.args.out.now)
    (g.W.Sink.taken c.write_all.new.sink) c.ask_if.new.outbox.list c.ask_if.new.events.items c.ask_if.new.text.items
    c.take_down.new.text.items c.in_ok-ask_if.ensures.kept c.in_ok-ask_if.ensures.sends c.in_ok-ask_if.ensures.text
    (rw same_recorded at c.in_ok-ask_if.ensures.events) (rw same_recorded at c.in_ok-ask_if.ensures.fits) text_is
    (rw (same_cluster, c.as_slice.ensures) at c.in_ok-send_all.ensures.sent)
    (rw c.deref-2.ensures.value at c.if-not-write_all.ensures.bytes))

pub returns-clause-acts : goal.returns-clause-acts
returns-clause-acts g c =
    let cl = c.args.self.now.cluster in
    let gs = c.args.self.now.guests in
    let r = c.args.self.now.recorded in
    let same : c.self.inside.seats.items ≡ gs = ap (λ (s : NodeState g.row.K.Denot). s.guests) c.self.view_is in
    let same_cluster : c.self.inside.cluster ≡ cl = ap (λ (s : NodeState g.row.K.Denot). s.cluster) c.self.view_is in
    let same_recorded : c.self.inside.recorder ≡ r = ap (λ (s : NodeState g.row.K.Denot). s.recorded) c.self.view_is in
    let h = c.index_mut.result.now in
    let i = c.args.place in
    let here : slice_get gs i ≡ Some h = slice_get_read gs (length gs) i h refl c.requires.place
    (c.index_mut.ensures.value ∙ ap (λ xs. get_or xs i h) same) in
    let text_is : c.take_down.new.text.items ≡ shown (option_map (noting c.ask_if.new.outbox.list) r) c.ask_if.new.events.items
    c.ask_if.new.text.items =
    rw (c.in_ok-send_all.ensures.noted, c.as_slice.ensures, same_recorded, c.deref.ensures.value) at c.in_ok-take_down.ensures.text in
    let counted : c.take_down.new.recorder
    ≡ option_map (with_more_lines (length c.ask_if.new.events.items)) (option_map (noting c.ask_if.new.outbox.list) r) =
    rw (c.in_ok-send_all.ensures.noted, c.as_slice.ensures, same_recorded, c.deref.ensures.value) at c.in_ok-take_down.ensures.counted in
    rw same (acts_seated (changing g.K.Keeper.append_gives g.K.Renew.renew_gives) cl gs i c.args.what.now h c.ask_if.new.seat here
    c.requires.ready c.in_ok-ask_if.ensures.name
    r c.take_down.new.recorder (g.L.Link.history c.args.link.now) (g.L.Link.history c.send_all.new.link) (g.W.Sink.taken c.args.out.now)
    (g.W.Sink.taken c.write_all.new.sink) c.ask_if.new.outbox.list c.ask_if.new.events.items c.ask_if.new.text.items
    c.take_down.new.text.items c.in_ok-ask_if.ensures.role c.in_ok-ask_if.ensures.kept c.in_ok-ask_if.ensures.live
    c.in_ok-ask_if.ensures.sends c.in_ok-ask_if.ensures.text
    (rw same_recorded at c.in_ok-ask_if.ensures.events) (rw same_recorded at c.in_ok-ask_if.ensures.fits) text_is counted
    (rw (same_cluster, c.as_slice.ensures) at c.in_ok-send_all.ensures.sent)
    (rw c.deref-2.ensures.value at c.if-not-write_all.ensures.bytes))
