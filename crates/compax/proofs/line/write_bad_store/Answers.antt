use Rattle.cx_node.proofs.Common.{◌∙◌, ◌++◌, codes, decimal, List, ℕ, subst, kind_text, SaysText}
use Rattle.compax.proofs.Saying.{place_parts}
use Rattle.compax.proofs.line.write_bad_store.Goals as goal

pub returns : goal.returns
returns g c = subst (λ (more : List ℕ). SaysText (g.E.Sink.taken c.args.err.now) (g.E.Sink.taken c.write_parts.new.err)
    (g.E.Sink.faults c.args.err.now) (g.E.Sink.faults c.write_parts.new.err) (codes "bad store: " ++ more))
    (place_parts (kind_text c.args.role.kind) (codes ":") (decimal c.args.role.index) (codes " at ") (decimal c.args.at) (codes "\n")) (rw (
      c.as_bytes-kind.ensures.value ∙ c.text.ensures,
      c.as_bytes-index.ensures.value ∙ c.format.ensures.text,
      c.as_bytes-at.ensures.value ∙ c.format-2.ensures.text,
    ) at c.write_parts.ensures)
