-- The chosen prefix of a world that is a run is the one command list.
use Rattle.cx_inv_run.proofs.Common.{◌≡◌, List, ap, sym, subst, Value, chosen_prefix, World, run}
use Rattle.cx_model.specs.World.{event_list}
use Rattle.cx_promises.specs.Lawful.{IsCommandList}
use Rattle.cx_promises.proofs.Lawful.{prefix_is_the_list}

pub list_of_run : (w : World) → w ≡ run w.cluster (event_list w.events) → (values : List Value) → values ≡ chosen_prefix w.kept
    → IsCommandList w.cluster w.kept values
list_of_run w ran values is =
    subst (λ vs. IsCommandList w.cluster w.kept vs) (sym is) (subst (λ ks. IsCommandList w.cluster ks (chosen_prefix ks))
    (sym (ap (λ (x : World). x.kept) ran)) (prefix_is_the_list w.cluster (event_list w.events)))
