use Rattle.std.proofs.Math.Seq.{take-add}
use Rattle.cx_base.proofs.Common.{◌≡◌, ◌-◌, arith, length, take, drop, length-drop, ◌∙◌, common_steps, Appends-trans}
use Rattle.cx_edge.proofs.sink.write_all.Goals as goal

pub loop-done-preserved : goal.loop-done-preserved
loop-done-preserved g c =
    let bytes = c.args.bytes.now in
    let done = c.loop-done.done in
    let took = c.in-Took.ensures.bytes in
    let rest : take (length bytes - done) (drop done bytes) ≡ drop done bytes = grind (arith, common_steps) in
    record {
      bytes = rw (take-add done c.in-Took.count bytes) (Appends-trans _ _ _ _ _ c.loop-done.invariant.bytes (rw rest at took.bytes));
      fits = omega (arith, rw rest at took.fits, length-drop done bytes);
      still = c.in-Took.ensures.still ∙ c.loop-done.invariant.still;
    }
