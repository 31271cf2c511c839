use Rattle.std.proofs.Common.{◌≡◌, map, string_bytes, subst, IfOk, Option}
use Rattle.compax.proofs.Matching.{said-fault, said-met, said-missing}
use Rattle.compax.specs.declared.words.Invocation.{Invocation}
use Rattle.compax.proofs.words.said.Goals as goal

pub returns-in_default : goal.returns-in_default
returns-in_default c = said-fault (map string_bytes c.args.words.now) (rw c.in_default.is at c.in_ok-matches.ensures)

pub returns-in-Some-subcommand : goal.returns-in-Some-subcommand
returns-in-Some-subcommand c =
    let matched = rw c.in-Some.is at c.in_ok-matches.ensures in
    subst (λ (asked : Option Invocation). IfOk c.asked_by.result (λ invocation. invocation ≡ asked)) (said-met (map string_bytes
    c.args.words.now) c.in-Some.matches _ _ matched c.in-Some-subcommand.ensures.name c.in-Some-subcommand.ensures.rows) c.asked_by.ensures

pub returns : goal.returns
returns c =
    let matched = rw c.in-Some.is at c.in_ok-matches.ensures in
    said-missing (map string_bytes c.args.words.now) c.in-Some.matches matched c.in-None.ensures.variant
