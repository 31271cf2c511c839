use Rattle.cx_role.proofs.Common.{◌≡◌, List, ap, subst, true, ◌∙◌, Happened, event_list}
use Rattle.cx_promises.proofs.Lawful.{lawful}
use Rattle.cx_world.specs.World.{WorldState, are_taken}
use Rattle.cx_world.proofs.world.World.law.Goals as goal

pub returns-clause-lawful : goal.returns-clause-lawful
returns-clause-lawful c = lawful c.args.self.now.cluster (event_list c.args.self.now.events)

pub returns-clause-all_taken : goal.returns-clause-all_taken
returns-clause-all_taken c =
    let holds = c.self.invariant (ap (λ (x : WorldState). x.spent) c.self.view_is ∙ c.requires) in
    subst (λ (l : List Happened). are_taken l ≡ true) (ap (λ (x : WorldState). x.events) c.self.view_is) holds.taken
