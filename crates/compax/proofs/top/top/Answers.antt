use Rattle.std.specs.Prelude.{map, string_bytes}
use Rattle.compax.specs.Words.{said}
use Rattle.compax.proofs.Promised.{lawful_answer}
use Rattle.compax.proofs.top.top.Goals as goal

pub returns-clause-lawful : goal.returns-clause-lawful
returns-clause-lawful g c =
    lawful_answer (said (map string_bytes c.args.words.now)) (g.S.Source.left c.args.input.now) (g.S.Source.left c.answer-status.new.input)

pub returns-clause-answered : goal.returns-clause-answered
returns-clause-answered g c = c.answer-status.ensures.answered
