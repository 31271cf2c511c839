use Rattle.std.proofs.Common.{◌≤◌, refl, sym, subst}
use Rattle.cx_client.specs.declared.asking.ClientOptions.{ClientOptions}
use Rattle.cx_node.specs.Serving.{InputSays, outside, recorded_header}
use Rattle.cx_node.proofs.Answering.{answered_so, completes_so, err_is, refused_so, refused_tells_bad, refused_tells_used, says_heard}
use Rattle.cx_node.proofs.Answering.{tells_bad_so, tells_used_so}
use Rattle.cx_node.proofs.serving.serve.Goals as goal

pub host-requires-clause-some_window : goal.host-requires-clause-some_window
host-requires-clause-some_window g c = subst (λ (a : ClientOptions). 1 ≤ a.window) (sym c.options_of.ensures) c.requires.some_window

pub host-requires-clause-window : goal.host-requires-clause-window
host-requires-clause-window g c = subst (λ (a : ClientOptions). a.window ≤ 64) (sym c.options_of.ensures) c.requires.window

pub returns-in-Ok-clause-answered : goal.returns-in-Ok-clause-answered
returns-in-Ok-clause-answered g c =
    let depot = g.D.Depot in
    let heard = c.in-Ok.ensures in
    let old = outside g.S.Source g.L.Link g.D.Depot g.W.Sink c.args.input.now c.args.link.now c.args.depot.now
    c.args.out.now in
    let new = outside g.S.Source g.L.Link g.D.Depot g.W.Sink c.listen.new.source c.host.new.link c.host.new.depot
    c.host.new.out in
    let says = subst (λ events. InputSays c.args.recording c.args.roles.now (g.S.Source.left c.args.input.now)
    (recorded_header c.args.recording c.in-Ok.accepted.header) c.in-Ok.accepted.cluster events)
    (sym c.events.ensures) (says_heard c.args.recording c.args.roles.now (g.S.Source.left c.args.input.now) c.in-Ok.accepted.header
    c.in-Ok.accepted.cluster c.in-Ok.accepted.schedule heard.heard heard.taken heard.hosts) in
    let host = c.host.ensures.answered (g.S.Source.left c.args.input.now) (g.S.Source.left c.listen.new.source)
    (g.S.Source.faults c.args.input.now) (g.S.Source.faults c.listen.new.source) in
    answered_so c.args.recording c.args.roles.now c.args.tend (recorded_header c.args.recording c.in-Ok.accepted.header)
    c.in-Ok.accepted.cluster c.args.window c.events.result.now c.args.turns old new c.host.result says (heard.at_end, heard.all_read)
    (rw (c.as_bytes.ensures, c.options_of.ensures) at host)

pub returns-in-Ok-clause-complete : goal.returns-in-Ok-clause-complete
returns-in-Ok-clause-complete g c = completes_so _ _ _ _ _ _ _ _ (returns-in-Ok-clause-answered g c)

pub returns-in-Ok-clause-tells_used : goal.returns-in-Ok-clause-tells_used
returns-in-Ok-clause-tells_used g c =
    let heard = c.in-Ok.ensures in
    let says = subst (λ events. InputSays c.args.recording c.args.roles.now (g.S.Source.left c.args.input.now)
    (recorded_header c.args.recording c.in-Ok.accepted.header) c.in-Ok.accepted.cluster events)
    (sym c.events.ensures) (says_heard c.args.recording c.args.roles.now (g.S.Source.left c.args.input.now) c.in-Ok.accepted.header
    c.in-Ok.accepted.cluster c.in-Ok.accepted.schedule heard.heard heard.taken heard.hosts) in
    let host = c.host.ensures.answered (g.S.Source.left c.args.input.now) (g.S.Source.left c.listen.new.source)
    (g.S.Source.faults c.args.input.now) (g.S.Source.faults c.listen.new.source) in
    tells_used_so c.args.recording c.args.roles.now c.args.tend (recorded_header c.args.recording c.in-Ok.accepted.header)
    c.in-Ok.accepted.cluster
    c.args.window c.events.result.now c.args.turns _ _ c.host.result says (rw (c.as_bytes.ensures, c.options_of.ensures) at host)

pub returns-in-Ok-clause-tells_bad : goal.returns-in-Ok-clause-tells_bad
returns-in-Ok-clause-tells_bad g c =
    let heard = c.in-Ok.ensures in
    let says = subst (λ events. InputSays c.args.recording c.args.roles.now (g.S.Source.left c.args.input.now)
    (recorded_header c.args.recording c.in-Ok.accepted.header) c.in-Ok.accepted.cluster events)
    (sym c.events.ensures) (says_heard c.args.recording c.args.roles.now (g.S.Source.left c.args.input.now) c.in-Ok.accepted.header
    c.in-Ok.accepted.cluster c.in-Ok.accepted.schedule heard.heard heard.taken heard.hosts) in
    let host = c.host.ensures.answered (g.S.Source.left c.args.input.now) (g.S.Source.left c.listen.new.source)
    (g.S.Source.faults c.args.input.now) (g.S.Source.faults c.listen.new.source) in
    tells_bad_so c.args.recording c.args.roles.now c.args.tend (recorded_header c.args.recording c.in-Ok.accepted.header)
    c.in-Ok.accepted.cluster
    c.args.window c.events.result.now c.args.turns _ _ c.host.result says (rw (c.as_bytes.ensures, c.options_of.ensures) at host)

pub returns-in-Err-clause-answered : goal.returns-in-Err-clause-answered
returns-in-Err-clause-answered g c =
    let heard = c.in-Err.ensures in
    refused_so c.args.recording c.args.roles.now c.args.tend c.args.window c.args.turns _ _ c.in-Err.refusal c.refused.result
    c.refused.ensures
    (record {
      link = refl;
      links = refl;
      out = refl;
      writes = refl;
      tells = refl;
      stored = λ me. refl;
      stores = λ me.
          refl;
    })
    (λ e. heard.bad_words (err_is e)) (λ line e. heard.bad_input line (err_is e))
    (λ e. heard.read_fault (err_is e)) heard.read_failed

pub returns-in-Err-clause-complete : goal.returns-in-Err-clause-complete
returns-in-Err-clause-complete g c = completes_so _ _ _ _ _ _ _ _ (returns-in-Err-clause-answered g c)

pub returns-in-Err-clause-tells_used : goal.returns-in-Err-clause-tells_used
returns-in-Err-clause-tells_used g c =
    refused_tells_used c.args.recording c.args.roles.now c.args.tend c.args.window c.args.turns _ _ c.in-Err.refusal c.refused.result
    c.refused.ensures (returns-in-Err-clause-answered g c)

pub returns-in-Err-clause-tells_bad : goal.returns-in-Err-clause-tells_bad
returns-in-Err-clause-tells_bad g c =
    refused_tells_bad c.args.recording c.args.roles.now c.args.tend c.args.window c.args.turns _ _ c.in-Err.refusal c.refused.result
    c.refused.ensures (returns-in-Err-clause-answered g c)
