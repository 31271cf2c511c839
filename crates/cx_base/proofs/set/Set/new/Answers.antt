use Rattle.cx_base.proofs.Padded.{set_padded}
use Rattle.cx_base.proofs.set.Set.new.Goals as goal

pub invariant_of-result : goal.invariant_of-result
invariant_of-result c =
    set_padded c.copy_from_slice.new.self c.args.ids.now c.copy_from_slice.ensures.after c.requires.room c.requires.rising
