use Rattle.cx_role.proofs.Common.{◌≡◌, true, sym, ◌∙◌, replica_rules, MayKeep}
use Rattle.cx_model.specs.Replica.{is_renewal_whole}
use Rattle.cx_replica.specs.Rows.{chosen_row_in}
use Rattle.cx_replica.proofs.Executing.{slot_below}
use Rattle.cx_replica.proofs.Rows.{chosen_fits, next_below, wants_nothing}
use Rattle.cx_replica.proofs.replica.Replica.chosen.Given.{Over}
use Rattle.cx_replica.proofs.replica.Replica.chosen.Goals as goal
use Rattle.cx_replica.proofs.replica.Replica.chosen.Goals.{After-take}

whole : (g : Over) (c : After-take g) → is_renewal_whole c.args.self.now.durable ≡ true
whole g c =
    let wanted = c.self.inside.wanted in
    rw (← c.self.view_is)
    (wants_nothing wanted.pairs wanted.clients wanted.values (c.self.invariant.whole (rw (← c.self.view_is) at c.requires.live)))

fits : (g : Over) (c : After-take g)
    → MayKeep replica_rules c.args.self.now (chosen_row_in c.args.self.now c.args.slot c.args.value.now)
fits g c =
    chosen_fits c.args.self.now c.args.slot c.args.value.now (slot_below c.args.slot c.requires.slot) (whole g c) c.requires.value
    (rw (← c.self.view_is) c.self.invariant.waiting)

pub take-requires : goal.take-requires
take-requires g c = slot_below c.args.slot c.requires.slot

pub returns-in_err-take-clause-fits : goal.returns-in_err-take-clause-fits
returns-in_err-take-clause-fits g c = fits g (goal.at.returns-in_err-take-clause-fits g c).After-take

pub apply-requires-clause-slot : goal.apply-requires-clause-slot
apply-requires-clause-slot g c =
    next_below c.self.inside.log c.take.new.self _ c.args.slot (sym c.in-Next.is ∙ c.in_ok-take.ensures.answer)
    c.in_ok-take.ensures.early (slot_below c.args.slot c.requires.slot)

pub returns-in-Next-clause-fits : goal.returns-in-Next-clause-fits
returns-in-Next-clause-fits g c = fits g (goal.at.returns-in-Next-clause-fits g c).After-take
