use Rattle.cx_base.proofs.Common.{◌≡◌, ◌<◌, ◌++◌, ◌∷◌, [], length, true, false, sym, ap, ◌∙◌, subst, rules, strip_carriage_return}
use Rattle.cx_script.specs.Header.{is_rule}
use Rattle.cx_replay.specs.Streamed.{HasHeader}
use Rattle.cx_replay.proofs.HeaderLines.{goes_header, rule_header, rule_alone, long_header, long_line, ended_header, ended_last}
use Rattle.cx_replay.proofs.HeaderLines.{fails_header}
use Rattle.cx_replay.proofs.header.read_header.Goals as goal

pub returns-in-Rule-clause-reads : goal.returns-in-Rule-clause-reads
returns-in-Rule-clause-reads g c =
    let gives = c.in-Line.ensures.gives in
    let line : c.text.result.now ≡ strip_carriage_return gives.part = c.text.ensures ∙ gives.text in
    subst (HasHeader (g.S.Source.left c.args.input.now) (g.S.Source.left c.next.new.source) c.next.new.self.buffered)
    (sym c.in-Rule.ensures.1)
    (rule_header _ _ _ _ c.loop-text.invariant.header _ _ gives.part gives.free gives.hands
    (subst (λ l. is_rule l ≡ true) line c.in-Rule.ensures.0))

pub returns-in-Long-join-clause-reads : goal.returns-in-Long-join-clause-reads
returns-in-Long-join-clause-reads g c =
    let gives = c.in-Line.ensures.gives in
    let line : c.text.result.now ≡ strip_carriage_return gives.part = c.text.ensures ∙ gives.text in
    long_header _ _ _ _ c.loop-text.invariant.header _ _ gives.part gives.free gives.hands (subst (λ l. is_rule l ≡ false) line
    c.in-Long-join.ensures.0) (subst (λ l. 16384 < length (c.loop-text.text.items ++ (l ++ 10 ∷ []))) line c.in-Long-join.ensures.1)

pub loop-text-preserved : goal.loop-text-preserved
loop-text-preserved g c =
    let gives = c.in-Line.ensures.gives in
    let line : c.text.result.now ≡ strip_carriage_return gives.part = c.text.ensures ∙ gives.text in
    record {
      header = goes_header _ _ _ _ c.loop-text.invariant.header _ _ gives.part c.join.new.text.items gives.free gives.hands
          (subst (λ l. is_rule l ≡ false) line c.in-Line-join.ensures.0)
          (c.in-Line-join.ensures.1 ∙ ap (λ l. c.loop-text.text.items ++ (l ++ 10 ∷ [])) line) c.in-Line-join.ensures.2;
      still = search rules;
    }

pub returns-then-is_rule-clause-reads : goal.returns-then-is_rule-clause-reads
returns-then-is_rule-clause-reads g c =
    let gives = c.in-Last.ensures.gives in
    rule_alone _ _ _ _ c.loop-text.invariant.header _ gives.part gives.free gives.hands gives.at_end
    (sym (ap is_rule (c.text-last.ensures ∙ gives.text)) ∙ sym c.is_rule.ensures ∙ c.if-is_rule.true)

pub returns-in-Last-clause-reads : goal.returns-in-Last-clause-reads
returns-in-Last-clause-reads g c =
    let gives = c.in-Last.ensures.gives in
    ended_last _ _ _ _ c.loop-text.invariant.header _ gives.part gives.free gives.hands gives.at_end
    (sym (ap is_rule (c.text-last.ensures ∙ gives.text)) ∙ sym c.is_rule.ensures ∙ c.if-is_rule.false)

pub returns-in-End-clause-reads : goal.returns-in-End-clause-reads
returns-in-End-clause-reads g c = ended_header _ _ _ _ c.loop-text.invariant.header _ c.in-End.ensures.gives.0 c.in-End.ensures.gives.2

pub returns-in-Long-clause-reads : goal.returns-in-Long-clause-reads
returns-in-Long-clause-reads g c =
    long_line _ _ _ _ c.loop-text.invariant.header _ c.next.new.self.buffered c.in-Long.ensures.gives.0 c.in-Long.ensures.gives.1

pub returns-in-Failed-clause-reads : goal.returns-in-Failed-clause-reads
returns-in-Failed-clause-reads g c =
    fails_header _ _ _ _ c.loop-text.invariant.header _ c.next.new.self.buffered c.in-Failed.ensures.gives.0 c.in-Failed.ensures.gives.1
