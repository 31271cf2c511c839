-- Of the votes at a slot the one that counts.
use Rattle.std.specs.Prelude.{ℕ, ◌-◌, Bool, true, ◌&&◌, max, nat_le, map, if◌then◌else◌, List, [], ◌∷◌, Option, None, Some}
use Rattle.cx_model.specs.Prelude.{numbers, is_before, Vote, greater_vote, voted_value}
use Rattle.cx_ring.specs.Ring.{RingState, value_at, with_value}
use Rattle.cx_model.specs.declared.states.Plan.{Plan}

-- of the best of earlier votes and the best of later ones the one of the greater round, and of one round the first
abbrev pub better : Option Vote → Option Vote → Option Vote
better None later = later
better (Some v) later = Some (greater_vote v later)

abbrev pub slot_of : Vote → ℕ
slot_of v = v.slot

-- whether a vote goes into the place of the best one so far: there is none, or it is of a greater round
abbrev pub replaces : Vote → Option Vote → Bool
replaces v None = true
replaces v (Some first) = is_before first.round v.round

-- the best vote of each slot of the window, with one more reported
abbrev pub best_with_vote : Vote → RingState Vote → RingState Vote
best_with_vote v best = if nat_le best.first v.slot && replaces v (value_at slot_of v.slot best.items)
    then record best { items = with_value slot_of v best.items } else best

abbrev pub with_votes : List Vote → RingState Vote → RingState Vote
with_votes [] best = best
with_votes (v ∷ votes) best = with_votes votes (best_with_vote v best)

-- the slots between two, each with the value of its best vote
abbrev pub values_between : ℕ → ℕ → RingState Vote → Plan
values_between cw end best =
    record { cw = cw; end = end; values = map (λ s. voted_value (value_at slot_of s best.items)) (numbers cw (end - cw)) }

-- from the window's beginning, and at least this slot, to this end
abbrev pub plan_of : ℕ → RingState Vote → ℕ → Plan
plan_of low best end = values_between (max low best.first) (max (max low best.first) end) best
