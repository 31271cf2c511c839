-- A leader's first phase as contracts see it.
use Rattle.std.specs.Prelude.{Bool, not, nat_lt, if◌then◌else◌, List, [], ◌∷◌, ◌++◌}
use Rattle.cx_model.specs.Prelude.{list_all, Entry, is_member_of, rows_whole, promised_by, has_promised}
use Rattle.cx_model.specs.declared.states.Promised.{Promised}
use Rattle.cx_phase1.specs.declared.told.Told.{Told}
use Rattle.cx_phase1.specs.declared.told.Told.TheVariants.{Whole, Counted, Same, Unasked}

-- the entries of earlier rounds that aren't retired, and the acceptors that were counted, with what they reported
pub record Phase1State : Type 0 where
  pub live : List Entry
  pub promises : List Promised

-- whether all members of these grids are below 64
abbrev pub are_ids : List Entry → Bool
are_ids live = list_all (λ (e : Entry). list_all (λ id. nat_lt id 64) e.grid.members) live

-- the result of one more answer
abbrev pub count_promise : Phase1State → Promised → Told
count_promise k p =
    if not (is_member_of k.live p.acceptor) then Unasked
    else if has_promised p.acceptor k.promises then Same
    else if rows_whole k.live (promised_by (k.promises ++ p ∷ [])) then Whole
    else Counted

-- and what it leaves
abbrev pub counted_by : Phase1State → Promised → Phase1State
counted_by k p =
    if not (is_member_of k.live p.acceptor) then k
    else if has_promised p.acceptor k.promises then k
    else record k { promises = k.promises ++ p ∷ [] }
