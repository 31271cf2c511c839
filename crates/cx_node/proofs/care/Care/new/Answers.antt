use Rattle.std.proofs.Common.{◌≡◌, ◌∙◌, ℕ, List, ap, ap₂, replicate, rules, sym}
use Rattle.std.proofs.lemmas.Simd.{splat_is_map}
use Rattle.cx_base.specs.Lists.{below}
use Rattle.cx_course.specs.Tending.{no_care}
use Rattle.cx_node.proofs.care.Care.new.Goals as goal

pub returns : goal.returns
returns c hs same =
    let zeros : c.in-Ok.counts.items ≡ replicate c.args.roles 0 = search rules in
    ap₂ (λ (counts queue : List ℕ). record (no_care hs) { counts = counts; queue = queue })
    (zeros ∙ splat_is_map hs c.args.roles 0 same) (c.in_ok-queue.ensures ∙ ap below (sym same))
