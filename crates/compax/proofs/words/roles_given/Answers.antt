use Rattle.std.proofs.Common.{◌≡◌, ◌∙◌, ap, subst, codes, IfOk, List, ℕ, Option, option_and_then}
use Rattle.clap.proofs.WalkLemmas.{raw_values-rows}
use Rattle.clap.specs.Words.{found_of}
use Rattle.compax.specs.Roles.{roles_of}
use Rattle.compax.proofs.words.roles_given.Goals as goal

pub returns-in-Some : goal.returns-in-Some
returns-in-Some c =
    subst (λ (words : Option (List (List ℕ))). IfOk c.named.result (λ roles. roles ≡ option_and_then roles_of words))
    (c.in-Some.ensures ∙ raw_values-rows (found_of c.args.matches.now) (codes "ROLE")) c.named.ensures

pub returns-in-None : goal.returns-in-None
returns-in-None c = ap (option_and_then roles_of) (c.in-None.ensures ∙ raw_values-rows (found_of c.args.matches.now) (codes "ROLE"))
