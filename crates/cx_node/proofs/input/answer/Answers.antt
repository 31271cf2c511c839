use Rattle.std.proofs.Common.{◌∙◌, ap, sym, subst, Err}
use Rattle.cx_node.specs.Input.{IsInputAnswer, refused_of}
use Rattle.cx_node.proofs.Refuses.{refused_answer}
use Rattle.cx_node.proofs.input.answer.Goals as goal

pub returns-in-Some : goal.returns-in-Some
returns-in-Some c =
    subst (λ heard. IsInputAnswer c.args.ended c.args.recording c.args.roles.now heard (Err c.in-Some.why)) (sym c.in-Lines.is)
    (refused_answer c.args.ended c.args.recording c.args.roles.now c.in-Lines.header c.in-Lines.cluster c.in-Lines.schedule c.in-Some.why
    (sym (c.refused.ensures c.in-Lines.header) ∙ c.in-Some.is))

pub returns-in-None : goal.returns-in-None
returns-in-None c = (
  c.in-Lines.is,
  ap (refused_of c.args.recording c.args.roles.now) c.in-Lines.is ∙ sym (c.refused.ensures c.in-Lines.header) ∙ c.in-None.is,
  c.if-ended.true,
)

pub returns-in-None-2 : goal.returns-in-None-2
returns-in-None-2 c = (
  ap (refused_of c.args.recording c.args.roles.now) c.in-Lines.is ∙ sym (c.refused.ensures c.in-Lines.header) ∙ c.in-None-2.is,
  c.if-ended.false,
)
