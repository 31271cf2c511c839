-- What a batcher is not asked for.
use Rattle.cx_model.specs.Prelude.{◌≡◌, refl, Cluster, Command, RoleId, Round, Msg, only_word, BatcherVolatile, batcher_takes}
use Rattle.cx_role.proofs.Common.msg
use Rattle.cx_base.specs.declared.why.Why.TheVariants.{Stranger}

-- what is neither a command nor a round
pub other_takes : (c : Cluster) (me : RoleId) (v : BatcherVolatile) (m : Msg)
    → ((k : Command) → m ≡ msg.Submit k → ⊥) → ((i : Round) → m ≡ msg.Leads i → ⊥)
    → batcher_takes c me v m ≡ only_word Stranger v
other_takes c me v (msg.Submit k) submit leads = absurd (submit k refl)
other_takes c me v (msg.Leads i) submit leads = absurd (leads i refl)
other_takes c me v other submit leads = refl
