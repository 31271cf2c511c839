use Rattle.std.proofs.Common.{subst}
use Rattle.cx_letter.specs.Prelude.{◌≡◌, ◌+◌, ◌++◌, [], List, ℕ, OnOk, drop, commands_of, Command, Value}
use Rattle.cx_trace.specs.Summary.{slot_text, slots_text}
use Rattle.cx_replay.proofs.Pieces.{Writing, at_slot, where_ok, writing_goes, writing_stops}
use Rattle.cx_replay.proofs.summing.write_slots.Goals as goal

pub returns-in-Err : goal.returns-in-Err
returns-in-Err g c =
    let chosen : List Value = c.args.chosen.now in
    let slot : ℕ = c.loop-slot.slot in
    let before : List Command = c.loop-slot.before in
    let here = at_slot chosen slot (rw c.len-slot-end.ensures at c.loop-slot-test.true) in
    let rest : List ℕ = slots_text (slot + 1) (before ++ commands_of here.0) (drop (slot + 1) chosen) in
    let lines : OnOk c.slot_lines-put.result (c.deref.result.now ≡ slot_text slot before here.0) =
    rw c.deref.ensures.value (c.slot_lines-put.ensures.text here.0 here.1) in
    writing_stops _ _ (g.W.Sink.taken c.loop-slot.out) _ _ (g.W.Sink.faults c.loop-slot.out) _ (slot_text slot before here.0) rest
    c.in-Err.status
    (subst (λ (values : List Value). Writing (slots_text 0 [] chosen) (slots_text slot before values) (g.W.Sink.taken c.args.out.now)
    (g.W.Sink.taken c.loop-slot.out) (g.W.Sink.faults c.args.out.now) (g.W.Sink.faults c.loop-slot.out)) here.2 c.loop-slot.invariant)
    (c.in-Err.ensures.written (slot_text slot before here.0) lines)

pub loop-slot-preserved : goal.loop-slot-preserved
loop-slot-preserved g c =
    let chosen : List Value = c.args.chosen.now in
    let slot : ℕ = c.loop-slot.slot in
    let before : List Command = c.loop-slot.before in
    let here = at_slot chosen slot (rw c.len-slot-end.ensures at c.loop-slot-test.true) in
    let rest : List ℕ = slots_text (slot + 1) (before ++ commands_of here.0) (drop (slot + 1) chosen) in
    let lines : OnOk c.slot_lines-put.result (c.deref.result.now ≡ slot_text slot before here.0) =
    rw c.deref.ensures.value (c.slot_lines-put.ensures.text here.0 here.1) in
    let grown : c.slot_lines-put.new.before ≡ before ++ commands_of here.0 =
    where_ok c.slot_lines-put.result c.in_default.ensures.put (c.slot_lines-put.ensures.before here.0 here.1) in
    rw grown (writing_goes _ _ (g.W.Sink.taken c.loop-slot.out) _ _ (g.W.Sink.faults c.loop-slot.out) _ (slot_text slot before here.0) rest
    c.in_default.field-0
    (subst (λ (values : List Value). Writing (slots_text 0 [] chosen) (slots_text slot before values) (g.W.Sink.taken c.args.out.now)
    (g.W.Sink.taken c.loop-slot.out) (g.W.Sink.faults c.args.out.now) (g.W.Sink.faults c.loop-slot.out)) here.2 c.loop-slot.invariant)
    (c.in_default.ensures.written (slot_text slot before here.0) lines))
