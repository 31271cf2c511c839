use Rattle.std.proofs.Common.{◌≡◌, drop, map}
use Rattle.compax.specs.Roles.{all_roles}
use Rattle.compax.proofs.Naming.{onto}
use Rattle.compax.proofs.roles.all_roles.Given as goal

abbrev pub invariant-loop-word : goal.invariant-loop-word
invariant-loop-word l =
    onto l.roles.items (all_roles (map (λ word. word.now) (drop l.word-index l.words))) ≡ all_roles (map (λ word. word.now) l.words)
