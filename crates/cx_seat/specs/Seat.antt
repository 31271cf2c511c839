-- A hosted role under the name of its seat.
use Rattle.std.specs.Prelude.{◌≡◌, ◌+◌, ℕ, min, Bool, false, IsTrue, Option, None, Some, if◌then◌else◌}
use Rattle.cx_role.specs.Prelude.{option_map_or, RoleId, LeaderDurable, LeaderVolatile, Running}
use Rattle.cx_seat.specs.declared.guest.Guest.{Guest}
use Rattle.cx_seat.specs.declared.guest.Guest.TheVariants as guest
use Rattle.cx_seat.specs.Guest.{hosted_of, who}
use Rattle.cx_client.specs.Client.{is_finished, left}
use Rattle.cx_client.specs.Window.{floor_for}
use Rattle.cx_course.specs.Hosted.{Hosted, ClientAt, is_live_role}

-- the role by this name: what a failed append leaves of a role has no name of its own
abbrev pub named : {K : Type 0} → RoleId → Guest K → Guest K
named me (guest.Client role) = guest.Client (record role { me = me })
named me (guest.Batcher role) = guest.Batcher (record role { me = me })
named me (guest.Leader role keeper) = guest.Leader (record role { me = me }) keeper
named me (guest.Proxy role) = guest.Proxy (record role { me = me })
named me (guest.Acceptor role keeper) = guest.Acceptor (record role { me = me }) keeper
named me (guest.Matchmaker role keeper) = guest.Matchmaker (record role { me = me }) keeper
named me (guest.Replica role keeper) = guest.Replica (record role { me = me }) keeper
named me (guest.Unbatcher role) = guest.Unbatcher (record role { me = me })
named me (guest.Reader role keeper) = guest.Reader (record role { me = me }) keeper
named me (guest.Replacer role keeper) = guest.Replacer (record role { me = me }) keeper

-- a role that may take a step has this name
abbrev pub IsNamed : {K : Type 0} → RoleId → Guest K → Type 0
IsNamed me h = IsTrue (is_live_role (hosted_of h)) → me ≡ who h

-- a test of a leader, which another role doesn't pass
abbrev pub is_leader_so : (Running LeaderDurable LeaderVolatile → Bool)
    → Option (Running LeaderDurable LeaderVolatile) → Bool
is_leader_so test l = option_map_or test l false

-- the number of a client's first request that isn't completed, where there is one: the next one after its floor
abbrev pub unanswered : Hosted → Option ℕ
unanswered (ClientAt s) = if is_finished s then None else Some (min (floor_for (left s) + 1) 18446744073709551615)
unanswered other = None
