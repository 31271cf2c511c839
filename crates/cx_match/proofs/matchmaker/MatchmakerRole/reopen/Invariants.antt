use Rattle.cx_model.specs.Prelude.{drop, matchmaker_rules}
use Rattle.cx_role.proofs.Reopening.{IsReopening}
use Rattle.cx_match.proofs.matchmaker.MatchmakerRole.reopen.Given as goal

abbrev pub invariant-loop-index : goal.invariant-loop-index
invariant-loop-index l =
    IsReopening matchmaker_rules l.fn.self l.matchmaker l.index (drop l.index l.records) l.records
