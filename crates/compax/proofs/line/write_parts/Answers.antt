use Rattle.std.proofs.Common.{◌∙◌, refl, arith}
use Rattle.compax.proofs.Saying.{parts_end, parts_more}
use Rattle.compax.proofs.line.write_parts.Goals as goal

pub returns-then-not-write_all : goal.returns-then-not-write_all
returns-then-not-write_all g c = parts_end (λ part. part.now) _ _ _ _ _ _ c.args.parts.now c.loop-part.part-index _ (omega arith)
    c.loop-part.invariant.bytes c.loop-part.invariant.still c.if-not-write_all.ensures.bytes (c.if-not-write_all.ensures.cause refl)

pub loop-part-preserved : goal.loop-part-preserved
loop-part-preserved g c = record {
  bytes = parts_more (λ part. part.now) _ _ _ c.args.parts.now c.loop-part.part-index _ (omega arith) c.loop-part.invariant.bytes
      c.if-not-write_all.ensures.bytes;
  still = c.if-not-write_all.ensures.still refl ∙ c.loop-part.invariant.still;
}
