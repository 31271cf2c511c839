use Rattle.std.proofs.Common.{◌==◌, ◌∙◌, take, drop, sym, append-nil}
use Rattle.cx_script.proofs.Cuts.{split_none}
use Rattle.cx_script.proofs.WholeLines.{next_feed}
use Rattle.cx_script.proofs.unended.whole_length.Goals as goal

pub loop-place-preserved : goal.loop-place-preserved
loop-place-preserved c =
    let next = next_feed c.args.bytes.now c.loop-place.start c.in-Some.place c.loop-place.invariant.within (sym c.in-Some.ensures) in
    record {
      within = next.within;
      whole = next.whole ∙ c.loop-place.invariant.whole;
      last = next.last ∙ c.loop-place.invariant.last;
    }

pub returns-clause-whole : goal.returns-clause-whole
returns-clause-whole c =
    let none = split_none (λ b. b == 10) (drop c.loop-place.start c.args.bytes.now) (sym c.in_default.ensures) in
    sym (append-nil (take c.loop-place.start c.args.bytes.now)) ∙ (rw none at c.loop-place.invariant.whole)

pub returns-clause-last : goal.returns-clause-last
returns-clause-last c =
    let none = split_none (λ b. b == 10) (drop c.loop-place.start c.args.bytes.now) (sym c.in_default.ensures) in
    rw none at c.loop-place.invariant.last
