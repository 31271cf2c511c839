-- Why a proxy leader does not ask for a value, and does not count a vote.
use Rattle.std.specs.Prelude.{◌&&◌, if◌then◌else◌, ℕ, not, nat_lt, max, Option, None, Some}
use Rattle.cx_role.specs.Prelude.{Why, Round, is_in, is_before, same_round, Pending, pending_at}
use Rattle.cx_base.specs.declared.why.Why.TheVariants.{Done, Old, Past, Same, Unasked}
use Rattle.cx_ring.specs.Ring.{RingState}

-- a value of a greater round, or of its own, is pending at its slot
abbrev pub declined_over : Pending → Option Pending → Option Why
declined_over p None = None
declined_over p (Some old) =
    if is_before p.round old.round then Some Old
    else if same_round old.round p.round then Some Same
    else None

-- the same, or its slot lies below the greatest chosen watermark that is known
abbrev pub declined : RingState Pending → Pending → Option Why
declined ring p =
    if nat_lt p.slot (max ring.first p.cw) then Some Past else declined_over p (pending_at p.slot ring.items)

-- Why a vote for a pending value does not count: it is of another round or no member's, all is done, or it was counted.
abbrev pub uncounted : ℕ → Round → Pending → Option Why
uncounted acceptor i p =
    if not (same_round p.round i && is_in acceptor p.grid.members) then Some Unasked
    else if p.done then Some Done
    else if is_in acceptor p.marks then Some Same
    else None
