use Rattle.std.proofs.Common.{subst}
use Rattle.cx_model.specs.Prelude.{◌≡◌, ◌++◌, [], List, ℕ, OnOk, length, map, below, Value, World}
use Rattle.cx_replay.specs.Replay.{summary}
use Rattle.cx_trace.specs.Summary.{chosen_text, replicas_text, slots_text}
use Rattle.cx_world.specs.Folded.{folded_of}
use Rattle.cx_world.specs.World.{world_of}
use Rattle.cx_replay.proofs.Pieces.{Writing, summary_parts, writing_begins, writing_goes, writing_last, writing_stops}
use Rattle.cx_replay.proofs.summing.write_summary.Goals as goal

pub returns-in-Err-write_put : goal.returns-in-Err-write_put
returns-in-Err-write_put g c =
    let w : World = world_of c.args.world.now in
    let chosen : List Value = c.in-Ok.chosen in
    let first : List ℕ = chosen_text (length chosen) in
    let rest : List ℕ = slots_text 0 [] chosen ++ replicas_text 0 (map (λ p. folded_of p w.kept) (below w.cluster.replicas)) in
    let line : OnOk c.chosen_into-put.result (c.deref.result.now ≡ first) =
    rw (c.deref.ensures.value, ← c.len.ensures) (rw c.new-text.ensures.items at c.chosen_into-put.ensures.ok) in
    let begins : Writing (summary w) (first ++ rest) (g.W.Sink.taken c.args.out.now) (g.W.Sink.taken c.args.out.now)
    (g.W.Sink.faults c.args.out.now) (g.W.Sink.faults c.args.out.now) =
    subst (λ (text : List ℕ). Writing (summary w) text (g.W.Sink.taken c.args.out.now) (g.W.Sink.taken c.args.out.now)
    (g.W.Sink.faults c.args.out.now) (g.W.Sink.faults c.args.out.now))
    (summary_parts w chosen c.in-Ok.ensures.prefix)
    (writing_begins (summary w) (g.W.Sink.taken c.args.out.now) (g.W.Sink.faults c.args.out.now)) in
    writing_stops _ _ (g.W.Sink.taken c.args.out.now) _ _ (g.W.Sink.faults c.args.out.now) _ first rest c.in-Err-write_put.status begins
    (c.in-Err-write_put.ensures.written first line)

pub returns-in-Err-write_slots : goal.returns-in-Err-write_slots
returns-in-Err-write_slots g c =
    let w : World = world_of c.args.world.now in
    let chosen : List Value = c.in-Ok.chosen in
    let first : List ℕ = chosen_text (length chosen) in
    let last : List ℕ = replicas_text 0 (map (λ p. folded_of p w.kept) (below w.cluster.replicas)) in
    let rest : List ℕ = slots_text 0 [] chosen ++ last in
    let line : OnOk c.chosen_into-put.result (c.deref.result.now ≡ first) =
    rw (c.deref.ensures.value, ← c.len.ensures) (rw c.new-text.ensures.items at c.chosen_into-put.ensures.ok) in
    let begins : Writing (summary w) (first ++ rest) (g.W.Sink.taken c.args.out.now) (g.W.Sink.taken c.args.out.now)
    (g.W.Sink.faults c.args.out.now) (g.W.Sink.faults c.args.out.now) =
    subst (λ (text : List ℕ). Writing (summary w) text (g.W.Sink.taken c.args.out.now) (g.W.Sink.taken c.args.out.now)
    (g.W.Sink.faults c.args.out.now) (g.W.Sink.faults c.args.out.now))
    (summary_parts w chosen c.in-Ok.ensures.prefix)
    (writing_begins (summary w) (g.W.Sink.taken c.args.out.now) (g.W.Sink.faults c.args.out.now)) in
    let went = writing_goes (summary w) (g.W.Sink.taken c.args.out.now) (g.W.Sink.taken c.args.out.now) (g.W.Sink.taken c.write_put.new.out)
    (g.W.Sink.faults c.args.out.now) (g.W.Sink.faults c.args.out.now) (g.W.Sink.faults c.write_put.new.out)
    first rest c.in_default.field-0 begins (c.in_default.ensures.written first line) in
    writing_stops _ _ (g.W.Sink.taken c.write_put.new.out) _ _ (g.W.Sink.faults c.write_put.new.out) _ (slots_text 0 [] chosen) last
    c.in-Err-write_slots.status went c.in-Err-write_slots.ensures

pub returns : goal.returns
returns g c =
    let w : World = world_of c.args.world.now in
    let chosen : List Value = c.in-Ok.chosen in
    let first : List ℕ = chosen_text (length chosen) in
    let last : List ℕ = replicas_text 0 (map (λ p. folded_of p w.kept) (below w.cluster.replicas)) in
    let rest : List ℕ = slots_text 0 [] chosen ++ last in
    let line : OnOk c.chosen_into-put.result (c.deref.result.now ≡ first) =
    rw (c.deref.ensures.value, ← c.len.ensures) (rw c.new-text.ensures.items at c.chosen_into-put.ensures.ok) in
    let begins : Writing (summary w) (first ++ rest) (g.W.Sink.taken c.args.out.now) (g.W.Sink.taken c.args.out.now)
    (g.W.Sink.faults c.args.out.now) (g.W.Sink.faults c.args.out.now) =
    subst (λ (text : List ℕ). Writing (summary w) text (g.W.Sink.taken c.args.out.now) (g.W.Sink.taken c.args.out.now)
    (g.W.Sink.faults c.args.out.now) (g.W.Sink.faults c.args.out.now))
    (summary_parts w chosen c.in-Ok.ensures.prefix)
    (writing_begins (summary w) (g.W.Sink.taken c.args.out.now) (g.W.Sink.faults c.args.out.now)) in
    let went = writing_goes (summary w) (g.W.Sink.taken c.args.out.now) (g.W.Sink.taken c.args.out.now) (g.W.Sink.taken c.write_put.new.out)
    (g.W.Sink.faults c.args.out.now) (g.W.Sink.faults c.args.out.now) (g.W.Sink.faults c.write_put.new.out)
    first rest c.in_default.field-0 begins (c.in_default.ensures.written first line) in
    let on = writing_goes (summary w) (g.W.Sink.taken c.args.out.now) (g.W.Sink.taken c.write_put.new.out) (g.W.Sink.taken
    c.write_slots.new.out) (g.W.Sink.faults c.args.out.now) (g.W.Sink.faults c.write_put.new.out) (g.W.Sink.faults c.write_slots.new.out)
    (slots_text 0 [] chosen) last c.in_default-write_slots.field-0 went c.in_default-write_slots.ensures in
    writing_last (summary w) _ (g.W.Sink.taken c.write_slots.new.out) _ _ (g.W.Sink.faults c.write_slots.new.out) _ last
    c.write_replicas.result on c.write_replicas.ensures
