use Rattle.std.proofs.Common.{drop}
use Rattle.cx_role.specs.Prelude.{◌≡◌, ◌++◌, ◌∷◌, [], entries_told, entries_since, answers_of, sorted_into}
use Rattle.cx_replace.proofs.join.join.Given as goal

abbrev pub invariant-loop-halt : goal.invariant-loop-halt
invariant-loop-halt l =
    sorted_into l.list.items (entries_since l.watermark (entries_told (answers_of (drop l.halt-index l.halts ++ l.last ∷ []))))
    ≡ sorted_into [] (entries_since l.watermark (entries_told (answers_of (l.halts ++ l.last ∷ []))))
