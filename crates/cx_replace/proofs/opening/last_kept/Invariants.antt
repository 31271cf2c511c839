use Rattle.cx_model.specs.Prelude.{◌≡◌, drop, folded_from, refused_from, replacer_rules}
use Rattle.cx_replace.proofs.opening.last_kept.Given as goal

abbrev pub invariant-loop-index : goal.invariant-loop-index
invariant-loop-index l = record {
  folded : folded_from replacer_rules (record { own = l.ballot; known = l.set }) (drop l.index l.records)
      ≡ folded_from replacer_rules (record { own = l.fn.own; known = l.fn.known }) l.records;
  refused : refused_from replacer_rules l.cluster l.me (record { own = l.ballot; known = l.set }) l.index (drop l.index l.records)
      ≡ refused_from replacer_rules l.cluster l.me (record { own = l.fn.own; known = l.fn.known }) 0 l.records;
}
