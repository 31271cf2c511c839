use Rattle.std.proofs.Common.{◌≡◌, true, sym, subst, ◌∙◌}
use Rattle.cx_collect.specs.Collecting.{CollectorState, counts_forgotten}
use Rattle.cx_collect.proofs.Forgetting.{forgotten_enough, forgotten_more, one_more}
use Rattle.cx_collect.proofs.collector.Collector.garbage_b.Goals as goal

pub invariant_of-self-2 : goal.invariant_of-self-2
invariant_of-self-2 c =
    let s = c.self.inside in
    let k : CollectorState =
    record { grid = s.grid; f = s.f; collection = record { stage = s.stage; mark = s.mark; counted = s.counted } } in
    let counts : counts_forgotten c.args.id k ≡ true = subst (λ k. counts_forgotten c.args.id k ≡ true) (sym c.self.view_is)
    (sym c.counts_forgotten.ensures ∙ c.if-not-counts_forgotten.false) in
    rw c.add.ensures.marks (one_more k c.args.id s.forgotten c.self.invariant counts c.if-self.false)

pub returns-then-self-clause-counted : goal.returns-then-self-clause-counted
returns-then-self-clause-counted c =
    let s = c.self.inside in
    let k : CollectorState =
    record { grid = s.grid; f = s.f; collection = record { stage = s.stage; mark = s.mark; counted = s.counted } } in
    let counts : counts_forgotten c.args.id k ≡ true = subst (λ k. counts_forgotten c.args.id k ≡ true) (sym c.self.view_is)
    (sym c.counts_forgotten.ensures ∙ c.if-not-counts_forgotten.false) in
    rw (c.add.ensures.marks, ← c.self.view_is) (sym (forgotten_enough k c.args.id s.forgotten c.self.invariant counts c.if-self.true))

pub returns-clause-counted : goal.returns-clause-counted
returns-clause-counted c =
    let s = c.self.inside in
    let k : CollectorState =
    record { grid = s.grid; f = s.f; collection = record { stage = s.stage; mark = s.mark; counted = s.counted } } in
    let counts : counts_forgotten c.args.id k ≡ true = subst (λ k. counts_forgotten c.args.id k ≡ true) (sym c.self.view_is)
    (sym c.counts_forgotten.ensures ∙ c.if-not-counts_forgotten.false) in
    rw (c.add.ensures.marks, ← c.self.view_is) (sym (forgotten_more k c.args.id s.forgotten c.self.invariant counts c.if-self.false))
