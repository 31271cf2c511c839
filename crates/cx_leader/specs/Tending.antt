-- What a node that tends its roles asks of a leader.
use Rattle.std.specs.Prelude.{◌&&◌, Bool, not, nat_lt, nat_le, filter, length, is_some}
use Rattle.cx_model.specs.Prelude.{Cluster, is_off, is_retired, LeaderDurable, LeaderVolatile, is_leading, is_settled, enough}
use Rattle.cx_model.specs.Leader.{are_known}

-- whether it never began a round
abbrev pub is_new_leader : LeaderDurable → Bool
is_new_leader d = not (is_some d.own)

-- whether as many replicas as keep a slot for good have reported to it that they hold some
abbrev pub has_heard : Cluster → LeaderVolatile → Bool
has_heard c v = nat_le (enough c) (length (filter (λ n. nat_lt 0 n) v.held))

-- whether an order to collect would begin: it leads, hasn't begun in this round, and all that it proposed at first is
-- known to be chosen
abbrev pub can_collect : LeaderVolatile → Bool
can_collect v = is_leading v.mode && is_off v.collection.stage && is_settled v

-- whether it gave away a slot that too few replicas hold
abbrev pub has_open : LeaderVolatile → Bool
has_open v = nat_lt v.cw v.next

-- Whether its ticks can do no more for its open slots, of which there is one: it leads, has retired the earlier rounds,
-- and knows each of these slots to be chosen.
abbrev pub is_spent : LeaderVolatile → Bool
is_spent v =
    is_leading v.mode && is_retired v.collection.stage && has_open v && are_known v.chosen v.cw v.next
