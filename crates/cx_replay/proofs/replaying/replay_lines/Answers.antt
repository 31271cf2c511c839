use Rattle.std.proofs.Common.{◌≡◌, Ok, None, rules, subst}
use Rattle.cx_cluster.specs.Reading.{header_cluster}
use Rattle.cx_replay.specs.Replay.{Replayed}
use Rattle.cx_replay.specs.Streamed.{HeaderSays}
use Rattle.cx_replay.proofs.Along.{sums_replayed}
use Rattle.cx_replay.proofs.Headed.{alone_refused, alone_taken, header_refused, header_taken, no_header, refused}
use Rattle.cx_replay.proofs.replaying.replay_lines.Goals as goal

pub returns-in-Ok-Some-clause-replayed : goal.returns-in-Ok-Some-clause-replayed
returns-in-Ok-Some-clause-replayed g c =
    let left = g.S.Source.left c.args.input.now in
    let cluster = c.in-Ok-Some.cluster in
    let read : g.S.Source.faults c.read_header.new.input ≡ g.S.Source.faults c.args.input.now = search rules in
    let says : header_cluster c.read_header.new.text.items ≡ Ok cluster = subst (λ t. header_cluster t ≡ Ok cluster) c.deref.ensures.value
    (subst (λ o. HeaderSays o (header_cluster c.deref.result.now)) c.in-Ok-Some.field-0-is c.in-Ok-Some.ensures) in
    subst (λ k. Replayed left (g.S.Source.left c.run_lines.new.input) k (g.S.Source.faults c.run_lines.new.input)
    (g.W.Sink.taken c.args.out.now) (g.W.Sink.taken c.run_lines.new.out)
    (g.W.Sink.faults c.args.out.now) (g.W.Sink.faults c.run_lines.new.out) c.run_lines.result) read
    (c.run_lines.ensures.replayed left (header_taken left (g.S.Source.left c.read_header.new.input) c.read_header.new.lines.buffered
    c.read_header.new.text.items cluster c.in-Whole.ensures.reads says))

pub returns-in-Ok-None-clause-replayed : goal.returns-in-Ok-None-clause-replayed
returns-in-Ok-None-clause-replayed g c =
    let left = g.S.Source.left c.args.input.now in
    let now = g.S.Source.left c.read_header.new.input in
    let read : g.S.Source.faults c.read_header.new.input ≡ g.S.Source.faults c.args.input.now = search rules in
    let says : HeaderSays None (header_cluster c.read_header.new.text.items) = subst (λ t. HeaderSays None (header_cluster t))
    c.deref.ensures.value (subst (λ o. HeaderSays o (header_cluster c.deref.result.now)) c.in-Ok-None.field-0-is c.in-Ok-None.ensures) in
    refused left now (g.S.Source.faults c.args.input.now) (g.S.Source.faults c.read_header.new.input) (g.W.Sink.taken c.args.out.now)
    (g.W.Sink.faults c.args.out.now)
    (header_refused left now c.read_header.new.lines.buffered c.read_header.new.text.items c.in-Whole.ensures.reads says) read

pub returns-in-Ok-Some-said-clause-replayed : goal.returns-in-Ok-Some-said-clause-replayed
returns-in-Ok-Some-said-clause-replayed g c =
    let left = g.S.Source.left c.args.input.now in
    let cluster = c.in-Ok-Some-said.cluster in
    let read : g.S.Source.faults c.read_header.new.input ≡ g.S.Source.faults c.args.input.now = search rules in
    let says : header_cluster c.read_header.new.text.items ≡ Ok cluster =
    subst (λ t. header_cluster t ≡ Ok cluster) c.deref-in-Alone.ensures.value
    (subst (λ o. HeaderSays o (header_cluster c.deref-in-Alone.result.now)) c.in-Ok-Some-said.field-0-is c.in-Ok-Some-said.ensures) in
    sums_replayed cluster left (g.S.Source.left c.read_header.new.input) _ (g.W.Sink.taken c.args.out.now) (g.W.Sink.taken c.args.out.now)
    (g.W.Sink.taken c.run_none.new.out) _ _ _ _ read
    (alone_taken left (g.S.Source.left c.read_header.new.input) (g.W.Sink.taken c.args.out.now) c.read_header.new.text.items cluster
    c.in-Alone.ensures.reads says) c.run_none.result c.run_none.ensures

pub returns-in-Ok-None-said-clause-replayed : goal.returns-in-Ok-None-said-clause-replayed
returns-in-Ok-None-said-clause-replayed g c =
    let left = g.S.Source.left c.args.input.now in
    let now = g.S.Source.left c.read_header.new.input in
    let read : g.S.Source.faults c.read_header.new.input ≡ g.S.Source.faults c.args.input.now = search rules in
    let says : HeaderSays None (header_cluster c.read_header.new.text.items) =
    subst (λ t. HeaderSays None (header_cluster t)) c.deref-in-Alone.ensures.value
    (subst (λ o. HeaderSays o (header_cluster c.deref-in-Alone.result.now)) c.in-Ok-None-said.field-0-is c.in-Ok-None-said.ensures) in
    refused left now (g.S.Source.faults c.args.input.now) (g.S.Source.faults c.read_header.new.input) (g.W.Sink.taken c.args.out.now)
    (g.W.Sink.faults c.args.out.now) (alone_refused left now c.read_header.new.text.items c.in-Alone.ensures.reads says) read

pub returns-in-Bad-clause-replayed : goal.returns-in-Bad-clause-replayed
returns-in-Bad-clause-replayed g c =
    let left = g.S.Source.left c.args.input.now in
    let read : g.S.Source.faults c.read_header.new.input ≡ g.S.Source.faults c.args.input.now = search rules in
    refused left (g.S.Source.left c.read_header.new.input) (g.S.Source.faults c.args.input.now) (g.S.Source.faults c.read_header.new.input)
    (g.W.Sink.taken c.args.out.now) (g.W.Sink.faults c.args.out.now) (no_header left c.in-Bad.ensures.reads) read
