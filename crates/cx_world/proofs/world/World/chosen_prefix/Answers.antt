use Rattle.cx_role.proofs.Common.{List, ap, subst, ◌∙◌, IfOk, Value, World}
use Rattle.cx_promises.specs.Lawful.{IsCommandList}
use Rattle.cx_world.specs.World.{WorldState, seat_roles, lists_of}
use Rattle.cx_world.proofs.Answered.{ok_then}
use Rattle.cx_world.proofs.Promised.{list_of_run}
use Rattle.cx_world.proofs.world.World.chosen_prefix.Goals as goal

pub returns-clause-agreed : goal.returns-clause-agreed
returns-clause-agreed c =
    let fields = c.self.inside in
    let w : World = record {
      cluster = fields.cluster;
      roles = seat_roles (lists_of fields.seats);
      events = fields.events;
      kept = fields.kept;
      sent = fields.sent;
    } in
    λ fresh.
    let holds = c.self.invariant (ap (λ (x : WorldState). x.spent) c.self.view_is ∙ fresh) in
    subst (λ (x : WorldState). IfOk c.chosen_prefix.result (λ (values : List Value). IsCommandList x.cluster x.kept values)) c.self.view_is
    (ok_then _ (λ (values : List Value). IsCommandList w.cluster w.kept values) c.chosen_prefix.result
    (λ values is. list_of_run w holds.ran values is) c.chosen_prefix.ensures)
