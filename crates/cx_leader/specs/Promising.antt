-- What a leader knows of its first phase.
use Rattle.std.specs.Prelude.{◌∷◌, ◌++◌, List, [], Option, map, option_map}
use Rattle.cx_role.specs.Prelude.{Cluster, RoleId, Entry, MatchAnswer, Promised, live_entries, members_of, Outcome, only_word, replied}
use Rattle.cx_role.specs.Prelude.{option_map_or, LeaderVolatile, phase1a_to}
use Rattle.cx_role.specs.Prelude.why
use Rattle.cx_role.specs.Prelude.mode
use Rattle.cx_model.specs.Leader.{finish}
use Rattle.cx_phase1.specs.Counting.{Phase1State, count_promise}
use Rattle.cx_phase1.specs.declared.told.Told.{Told}
use Rattle.cx_phase1.specs.declared.told.Told.TheVariants as told

-- one more matchmaker has answered
abbrev pub leader_with_answer : MatchAnswer → LeaderVolatile → LeaderVolatile
leader_with_answer a v = record v { told = v.told ++ a ∷ [] }

-- the acceptors of the live grids are asked
abbrev pub ask_row : Cluster → RoleId → Entry → LeaderVolatile → List Entry → Outcome LeaderVolatile
ask_row c me own v live =
    replied why.Phase1 (record v { mode = mode.Phase1 }) (map (phase1a_to me own.round) (members_of c live))

-- the acceptors that were counted, if somebody was asked
abbrev pub promises_of : Option Phase1State → List Promised
promises_of phase1 = option_map_or (λ (k : Phase1State). k.promises) phase1 []

-- the entries whose acceptors are asked
abbrev pub asked_entries : Option Phase1State → Option (List Entry)
asked_entries phase1 = option_map (λ (k : Phase1State). k.live) phase1

-- what it counts of its first phase
abbrev pub counting : LeaderVolatile → Phase1State
counting v = record { live = live_entries v.told; promises = v.promises }

-- one more acceptor has promised
abbrev pub leader_with_promise : Promised → LeaderVolatile → LeaderVolatile
leader_with_promise p v = record v { promises = v.promises ++ p ∷ [] }

-- the row of an acceptor's answer, by how the answer counts
abbrev pub told_row : Cluster → RoleId → Entry → LeaderVolatile → Promised → Told → Outcome LeaderVolatile
told_row c me own v p told.Unasked = only_word why.Unasked v
told_row c me own v p told.Same = only_word why.Same v
told_row c me own v p told.Counted = only_word why.Counted (leader_with_promise p v)
told_row c me own v p told.Whole = finish c me own (leader_with_promise p v)

abbrev pub promised_row : Cluster → RoleId → Entry → LeaderVolatile → Promised → Outcome LeaderVolatile
promised_row c me own v p = told_row c me own v p (count_promise (counting v) p)
