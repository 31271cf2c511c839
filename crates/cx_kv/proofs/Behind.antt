-- The map after two lists of commands, one after the other.
use Rattle.std.proofs.Common.{◌≡◌, ◌++◌, ◌∷◌, [], List, refl, ap, ◌∙◌, append-nil, append_assoc, if◌then◌else◌}
use Rattle.cx_base.specs.Fold.{acts, map_after, map_behind}
use Rattle.cx_base.specs.declared.command.Command.{Command}
use Rattle.cx_base.specs.declared.command.Pair.{Pair}

pub behind_both : (before : List Command) (map : List Pair) (cs ds : List Command)
    → map_behind before map (cs ++ ds) ≡ map_behind (before ++ cs) (map_behind before map cs) ds
behind_both before map [] ds = rw (append-nil before) refl
behind_both before map (c ∷ cs) ds =
    let next = if acts before c then map_after map c.op else map in
    behind_both (before ++ c ∷ []) next cs ds
    ∙ ap (λ (list : List Command). map_behind list (map_behind (before ++ c ∷ []) next cs) ds) (append_assoc before (c ∷ []) cs)
