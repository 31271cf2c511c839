use Rattle.cx_base.proofs.Common.{◌≡◌, true, subst, rises}
use Rattle.cx_kv.specs.Rising.{has_lower_key}
use Rattle.cx_kv.specs.State.{MapState}
use Rattle.cx_kv.proofs.Pushing.{all_rise}
use Rattle.cx_kv.proofs.pairs.PairMap.len.Goals as goal

pub returns-clause-rises : goal.returns-clause-rises
returns-clause-rises c =
    subst (λ (s : MapState). rises has_lower_key s.pairs ≡ true) c.self.view_is (all_rise _ c.self.invariant.0.rising)
