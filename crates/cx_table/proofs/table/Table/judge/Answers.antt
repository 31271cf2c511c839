use Rattle.std.specs.Prelude.{IsSome}
use Rattle.cx_base.proofs.Common.{◌≡◌, ◌∙◌, false, sym, subst, ap, floor_of}
use Rattle.cx_table.specs.Judged.{is_new, judge_of}
use Rattle.cx_table.specs.State.{TableState}
use Rattle.cx_table.specs.declared.judge.Judge.TheVariants as judge
use Rattle.cx_table.proofs.Telling.{entry_judge, entry_own, entry_rise, judge_none, judged_told}
use Rattle.cx_table.proofs.table.Table.judge.Goals as goal
use Rattle.cx_table.proofs.table.Table.judge.Goals.{After-judge}

judged : (c : After-judge) → c.judge.result ≡ judge_of c.args.self.now.table c.args.client c.args.seq
judged c =
    subst (λ (s : TableState). c.judge.result ≡ judge_of s.table c.args.client c.args.seq) c.self.view_is
    (c.judge.ensures ∙ entry_judge _ c.self.inside.entries.entries c.self.invariant c.args.client c.in-Some.entry.now
    (sym c.in-Some.ensures.value) c.args.seq)

pub judge-requires-clause-own : goal.judge-requires-clause-own
judge-requires-clause-own c =
    entry_own _ c.self.inside.entries.entries c.self.invariant c.args.client c.in-Some.entry.now (sym c.in-Some.ensures.value)

pub judge-requires-clause-rise : goal.judge-requires-clause-rise
judge-requires-clause-rise c =
    entry_rise _ c.self.inside.entries.entries c.self.invariant c.args.client c.in-Some.entry.now (sym c.in-Some.ensures.value)

pub returns-in-Some-clause-judge : goal.returns-in-Some-clause-judge
returns-in-Some-clause-judge c = judged (goal.at.returns-in-Some-clause-judge c).After-judge

pub returns-in-Some-clause-told : goal.returns-in-Some-clause-told
returns-in-Some-clause-told c =
    let is = judged (goal.at.returns-in-Some-clause-told c).After-judge in
    λ old. subst (λ (s : TableState).
    is_new (judge_of s.table c.args.client c.args.seq) ≡ false → IsSome (floor_of c.args.client s.table.floors)) c.self.view_is
    (judged_told _ c.self.invariant.above c.args.client c.args.seq) (ap is_new (sym is) ∙ old)

pub returns-in-None-clause-judge : goal.returns-in-None-clause-judge
returns-in-None-clause-judge c =
    subst (λ (s : TableState). judge.New ≡ judge_of s.table c.args.client c.args.seq) c.self.view_is
    (judge_none _ c.self.inside.entries.entries c.self.invariant c.args.client c.args.seq (sym c.in-None.ensures.value))
