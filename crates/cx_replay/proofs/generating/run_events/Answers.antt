use Rattle.std.proofs.Common.{◌∙◌, ap, sym, arith}
use Rattle.cx_model.specs.Prelude.{◌≡◌, length, Event, World, run, step}
use Rattle.cx_script.specs.Generator.{GeneratorState, gen_cluster, next_event, next_state}
use Rattle.cx_world.specs.World.{world_of}
use Rattle.cx_world.specs.declared.counts.Counts.{Counts}
use Rattle.cx_replay.specs.Generated.{gen_state, gen_events}
use Rattle.cx_replay.proofs.GenRuns.{gen_state_more, made_is, gen_run_more}
use Rattle.cx_replay.proofs.generating.run_events.Goals as goal

pub next-event-requires : goal.next-event-requires
next-event-requires c =
    let made : c.loop-made.generator.made ≡ c.loop-made.made =
    ap (λ (g : GeneratorState). g.made) c.loop-made.invariant.generator ∙ made_is c.args.seed c.loop-made.made in
    omega (arith, made, c.loop-made-test.true, c.ranges.count)

pub loop-made-preserved : goal.loop-made-preserved
loop-made-preserved c =
    let seed = c.args.seed in
    let made = c.loop-made.made in
    let w = world_of c.loop-made.world in
    let before : World = run gen_cluster (gen_events seed made) in
    let event : Event = next_event (gen_state seed made) (length before.sent) in
    let sent : c.counts-sent.result.datagrams ≡ length before.sent =
    ap (λ (n : Counts). n.datagrams) c.counts-sent.ensures ∙ ap (λ (w : World). length w.sent) c.loop-made.invariant.world in
    let event_is : c.next-event.result ≡ event = c.next-event.ensures.event
    ∙ ap (λ g. next_event g c.counts-sent.result.datagrams) c.loop-made.invariant.generator ∙ ap (next_event (gen_state seed made)) sent in
    record {
      generator = c.next-event.ensures.state ∙ ap next_state c.loop-made.invariant.generator ∙ sym (gen_state_more seed made);
      world = c.in_ok-step.ensures.ok ∙ ap (step w) event_is ∙ ap (λ v. step v event) c.loop-made.invariant.world
          ∙ sym (gen_run_more seed made);
      running = c.in_ok-step.ensures.unspent;
    }
