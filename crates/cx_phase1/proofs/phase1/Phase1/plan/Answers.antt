use Rattle.std.proofs.Common.{◌≡◌, Result, Ok, Err, IfOk, sym, subst}
use Rattle.cx_base.specs.declared.memory.NoMemory.{NoMemory}
use Rattle.cx_model.specs.declared.states.Plan.{Plan}
use Rattle.cx_model.specs.Plan.{plan}
use Rattle.cx_phase1.specs.Planned.{IsPlan}
use Rattle.cx_phase1.proofs.BestLaws.{plan_same}
use Rattle.cx_phase1.proofs.BoundLaws.{planned}
use Rattle.cx_phase1.proofs.phase1.Phase1.plan.Goals as goal
use Rattle.cx_phase1.proofs.phase1.Phase1.plan.Goals.{After-plan}

-- the plan that is found is the one of the promises
found : (c : After-plan) → IfOk c.plan.result (λ found. found ≡ plan c.args.low c.self.inside.told.items)
found c = subst (λ (p : Plan). IfOk c.plan.result (λ found. found ≡ p))
    (plan_same c.args.low c.self.inside.told.items c.self.inside.best c.self.inside.end c.self.invariant.best) c.plan.ensures

ranges : (r : Result Plan NoMemory) (p : Plan) → IfOk r (λ found. found ≡ p) → IsPlan p → IfOk r IsPlan
ranges (Ok x) p same is = subst IsPlan (sym same) is
ranges (Err e) p same is = tt

pub returns-clause-plan : goal.returns-clause-plan
returns-clause-plan c = rw (← c.self.view_is) (found c)

pub returns-clause-ranges : goal.returns-clause-ranges
returns-clause-ranges c = ranges c.plan.result _ (found c) (planned c.args.low c.self.inside.told.items c.requires c.self.invariant.told)
