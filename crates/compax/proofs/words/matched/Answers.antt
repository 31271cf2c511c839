use Rattle.std.proofs.Common.{◌∙◌}
use Rattle.compax.proofs.Matching.{matched-ok, matched-err}
use Rattle.compax.proofs.words.matched.Goals as goal

pub returns-in-Ok : goal.returns-in-Ok
returns-in-Ok c = matched-ok _ _ c.in-Ok.matches c.in_ok-command.ensures c.in-Ok.ensures.matches c.in-Ok.ensures.kinds

pub returns : goal.returns
returns c = matched-err _ _ c.in-Err.error c.in_ok-command.ensures (λ memory. c.in_default.not-OutOfMemory (c.kind.ensures ∙ memory))
    c.in-Err.ensures.kinds
