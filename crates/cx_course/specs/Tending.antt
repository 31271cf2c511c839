-- The turns of a node that tends its roles, and the run of a node with and without tending. A tended node has the roles tick, and gives its
-- leader orders, by what it has counted, and not by the numbers of its turns.
use Rattle.std.specs.Prelude.{ℕ, ◌+◌, ◌*◌, ◌/◌, ◌%◌, ◌==◌, min, nat_lt, nat_le, Bool, false, not, ◌&&◌, ◌||◌, List, [], ◌∷◌, ◌++◌, filter}
use Rattle.std.specs.Prelude.{map, length, sum, count_by, is_some, Option, None, Some, slice_get, if◌then◌else◌}
use Rattle.cx_role.specs.Prelude.{option_map_or, Cluster, Order, Kind, RoleId, below, role, same_role, LeaderDurable, LeaderVolatile}
use Rattle.cx_role.specs.Prelude.{is_idle, held, Running}
use Rattle.cx_base.specs.declared.event.Order.TheVariants as order
use Rattle.cx_base.specs.declared.role.Kind.TheVariants as kind
use Rattle.cx_leader.specs.Tending.{can_collect, has_heard, has_open, is_new_leader, is_spent}
use Rattle.cx_proxy.specs.Tending.{awaits_votes}
use Rattle.cx_letter.specs.declared.input.Input.TheVariants as input
use Rattle.cx_course.specs.declared.doing.Doing.TheVariants.{Begin, Give}
use Rattle.cx_course.specs.declared.standing.Standing.{Standing}
use Rattle.cx_course.specs.Hosted.{Hosted, ClientAt, LeaderAt, ProxyAt, ReplicaAt, name_of}
use Rattle.cx_course.specs.Course.{Course, Moved, does_at, is_a, stays, then_do, took}
use Rattle.cx_course.specs.Run.{all_do, at_place, brought, grid_of, is_client, ordered, hosted_place, snaps, TakeResults, node_turn}
use Rattle.cx_course.specs.Run.{turns_from, untended_run}
use Rattle.cx_record.specs.Numbers.{Numbered}

-- What a tended node has counted. Counts of turns and beats stop at 2 ^ 32 - 1.
pub record Care : Type 0 where
  -- the turns since the last beat; of their takes, those that gave nothing after one that gave nothing; whether the last take gave
  -- something; and how many takes in a row up to the last one gave nothing
  pub turns : ℕ
  pub empty : ℕ
  pub came : Bool
  pub calm : ℕ
  -- how many requests the hosted clients had completed at the last beat, and for how many beats they have completed none
  pub done : ℕ
  pub still : ℕ
  -- how many requests each hosted role had completed when the last pass began, 0 for one that is no client; and the places of all in the
  -- order in which clients ask at its end
  pub counts : List ℕ
  pub queue : List ℕ
  -- the leader's chosen watermark at the last beat, and for how many beats it has not risen while a slot was open
  pub cw : ℕ
  pub stuck : ℕ

-- the hosted roles and their record, and what their node has counted
pub record Tended : Type 0 where
  pub care : Care
  pub course : Course

-- nothing is counted yet
abbrev pub no_care : List Hosted → Care
no_care hs = record {
  turns = 0;
  empty = 0;
  came = false;
  calm = 0;
  done = 0;
  still = 0;
  counts = map (λ (h : Hosted). 0) hs;
  queue = below (length hs);
  cw = 0;
  stuck = 0;
}

-- one more turn or beat
abbrev pub one_more : ℕ → ℕ
one_more n = min (n + 1) 4294967295

-- what the hosted roles did, beside these counts
abbrev pub with_care : Care → Moved Course → Moved Tended
with_care k m = record { next = record { care = k; course = m.next }; actions = m.actions }

-- what the hosted roles did alone
abbrev pub without_care : Moved Tended → Moved Course
without_care m = record { next = m.next.course; actions = m.actions }

-- the hosted roles do something, and nothing is counted
abbrev pub within : (Course → Moved Course) → Tended → Moved Tended
within f t = with_care t.care (f t.course)

-- ---- what is asked of hosted roles

abbrev pub at_or_none : Option ℕ → List Hosted → Option Hosted
at_or_none None hs = None
at_or_none (Some i) hs = slice_get hs i

-- the hosted role of this name
abbrev pub hosted_as : RoleId → List Hosted → Option Hosted
hosted_as who hs = at_or_none (hosted_place who hs) hs

abbrev pub leader_of : Hosted → Option (Running LeaderDurable LeaderVolatile)
leader_of (LeaderAt s) = Some s
leader_of other = None

abbrev pub leader_in : Option Hosted → Option (Running LeaderDurable LeaderVolatile)
leader_in None = None
leader_in (Some h) = leader_of h

-- leader 0, where it is hosted
unfoldable pub first_leader : List Hosted → Option (Running LeaderDurable LeaderVolatile)
first_leader hs = leader_in (hosted_as (role kind.Leader 0) hs)

-- whether a proxy leader waits for votes
abbrev pub awaits_votes_at : Hosted → Bool
awaits_votes_at (ProxyAt s) = awaits_votes s.volatile
awaits_votes_at other = false

-- how many slots a replica holds
abbrev pub held_of : Hosted → ℕ
held_of (ReplicaAt s) = held s.durable
held_of other = 0

unfoldable pub held_by_role : RoleId → List Hosted → ℕ
held_by_role who hs = option_map_or held_of (hosted_as who hs) 0

-- how many requests a client has completed
abbrev pub completed : Hosted → ℕ
completed (ClientAt s) = s.done
completed other = 0

abbrev pub completed_by : List Hosted → List ℕ
completed_by hs = map completed hs

-- how many requests all hosted clients have completed, counted to 2 ^ 64 - 1
abbrev pub all_completed : List Hosted → ℕ
all_completed hs = min (sum (completed_by hs)) 18446744073709551615

-- ---- what hosted roles are given

abbrev pub is_so : (Hosted → Bool) → Option Hosted → Bool
is_so test None = false
is_so test (Some h) = test h

-- the hosted role at a place ticks, if there is one of which this is so; what is asked may regard the place
abbrev pub ticks_if : (ℕ → Hosted → Bool) → ℕ → Course → Moved Course
ticks_if test i s = if is_so (test i) (slice_get s.hosted i) then does_at i (Give 0 input.Tick) s else stays s

-- of the hosted roles at these places those tick of which this is so, one after the other
abbrev pub in_turn : (ℕ → Hosted → Bool) → List ℕ → Course → Moved Course
in_turn test [] s = stays s
in_turn test (i ∷ places) s = then_do (ticks_if test i s) (λ after. in_turn test places after)

-- of all those, in their order
abbrev pub those_tick : (ℕ → Hosted → Bool) → Course → Moved Course
those_tick test s = in_turn test (below (length s.hosted)) s

abbrev pub is_of_kind : Kind → Hosted → Bool
is_of_kind k h = same_role (name_of h) (role k (name_of h).index)

-- all of a kind tick
unfoldable pub kind_ticks : Kind → Course → Moved Course
kind_ticks k s = those_tick (λ i h. is_of_kind k h) s

-- leader 0 gets an order, if there is one
abbrev pub gets : Option Order → Course → Moved Course
gets None s = stays s
gets (Some o) s = at_place (hosted_place (role kind.Leader 0) s.hosted) (Give 0 (input.Order o)) s

-- ---- the parts of a turn

-- leader 0 is ordered to lead as in a node that doesn't tend, but at turn 1 only where it never began a round
unfoldable pub tend_ordered : Cluster → ℕ → Course → Moved Course
tend_ordered c n s =
    if (n == 1) && not (option_map_or (λ (l : Running LeaderDurable LeaderVolatile). is_new_leader l.durable) (first_leader s.hosted) false)
    then stays s else ordered c n s

-- the first part of the n-th turn
unfoldable pub tend_prepared : Cluster → ℕ → Course → Moved Course
tend_prepared c n s = then_do (tend_ordered c n s) (λ led. snaps n led)

-- Whether a replica that held this many slots, and now holds so many, ticks behind a datagram of this role: where its log has come to a
-- further multiple of 8 slots, of which it tells leaders; and where another replica sent the value that it lacked, so that it asks for the
-- next one at once, and not at a beat.
abbrev pub ticks_behind : RoleId → ℕ → ℕ → Bool
ticks_behind from before now = nat_lt (before / 8) (now / 8) || (is_a kind.Replica from && nat_lt before now)

unfoldable pub reported : RoleId → RoleId → ℕ → Course → Moved Course
reported from who before s =
    if ticks_behind from before (held_by_role who s.hosted) then at_place (hosted_place who s.hosted) (Give 0 input.Tick) s else stays s

-- leader 0 is ordered to collect, where that would begin
unfoldable pub collected : Course → Moved Course
collected s = gets (if option_map_or (λ (l : Running LeaderDurable LeaderVolatile). can_collect l.volatile) (first_leader s.hosted) false
    then Some order.Collect else None) s

-- a role takes a datagram; a replica may then tick, and leader 0 collect
unfoldable pub heeded : Numbered → Course → Moved Course
heeded x s =
    then_do (at_place (hosted_place x.letter.to s.hosted) (Give x.number (input.Take x.letter)) s) (λ after.
    then_do (reported x.letter.from x.letter.to (held_by_role x.letter.to s.hosted) after) (λ last.
    if same_role x.letter.to (role kind.Leader 0) then collected last else stays last))

abbrev pub brings_heeded : Option Numbered → Course → Moved Course
brings_heeded None s = stays s
brings_heeded (Some x) s = heeded x s

-- what a take gave comes to its role; bytes that bring no datagram change no role
unfoldable pub tend_comes : Option (List ℕ) → Course → Moved Course
tend_comes None s = took None (stays s)
tend_comes (Some bytes) s = took (Some bytes) (brings_heeded (brought s.recorded bytes) s)

-- What is done in a pause: batchers tick at the first take that gives nothing; proxy leaders that wait for votes at the 8th in a row, so
-- that a slot whose column has an acceptor that is down waits for no beat.
unfoldable pub paused : Care → Bool → Course → Moved Course
paused k came s =
    if k.came && not came then kind_ticks kind.Batcher s
    else if (k.calm == 7) && not came then those_tick (λ i h. awaits_votes_at h) s
    else stays s

-- a turn is counted; bytes that are no datagram are something that came
unfoldable pub care_after_turn : Bool → Care → Care
care_after_turn came k =
    record k {
      turns = one_more k.turns;
      empty = if came || k.came then k.empty else one_more k.empty;
      came = came;
      calm = if came then 0 else one_more k.calm;
    }

-- a turn ends with a beat where 64 takes gave nothing after one that gave nothing, and at the m-th turn since the last one
unfoldable pub is_beat : ℕ → Care → Bool
is_beat m k = nat_le 64 k.empty || nat_le m k.turns

abbrev pub beat_over : Care → Care
beat_over k = record k { turns = 0; empty = 0 }

-- ---- a beat: all but clients tick, then the leader is tended, then the clients

unfoldable pub others_tick : Course → Moved Course
others_tick s = those_tick (λ i h. not (is_client h)) s

-- where the leader's chosen watermark is, and whether a slot is open
unfoldable pub leader_noted : ℕ → Bool → Care → Care
leader_noted cw opened k = if nat_lt k.cw cw || not opened then record k { cw = cw; stuck = 0 } else record k { stuck = one_more k.stuck }

-- a leader that is idle, and has heard enough replicas, may lead
abbrev pub may_lead : Running LeaderDurable LeaderVolatile → Bool
may_lead l = is_idle l.volatile.mode && has_heard l.cluster l.volatile

-- what a beat asks of a leader
abbrev pub standing_of : Running LeaderDurable LeaderVolatile → Standing
standing_of l =
    record {
      may_lead = may_lead l;
      cw = l.volatile.cw;
      has_open = has_open l.volatile;
      is_spent = is_spent l.volatile;
      can_collect = can_collect l.volatile;
    }

abbrev pub leader_cared : Standing → Care → Care
leader_cared l k = if l.may_lead then k else leader_noted l.cw l.has_open k

-- whether a spent leader changes after this many beats: 16, 32, 64, 128, 256, 512 or a multiple of 1,024
unfoldable pub is_time : ℕ → Bool
is_time n = (n == 16) || (n == 32) || (n == 64) || (n == 128) || (n == 256) || (n == 512) || (nat_le 1024 n && (n % 1024 == 0))

-- The order that the leader gets, by what is noted: to lead, where it may; to go on in its next round with the same grid, where it has
-- been stuck for long and is spent; or to collect, where that would begin.
unfoldable pub leader_asked : Cluster → Standing → Care → Option Order
leader_asked c l k =
    if l.may_lead then Some (order.Lead (grid_of c))
    else if is_time k.stuck && l.is_spent then Some (order.Change (grid_of c))
    else if l.can_collect then Some order.Collect
    else None

abbrev pub leader_tended : Cluster → Option (Running LeaderDurable LeaderVolatile) → Tended → Moved Tended
leader_tended c None t = stays t
leader_tended c (Some l) t =
    let k = leader_cared (standing_of l) t.care in
    with_care k (gets (leader_asked c (standing_of l) k) t.course)

-- how many beats the clients have completed no request
unfoldable pub clients_noted : ℕ → Care → Care
clients_noted done k = if nat_lt k.done done then record k { done = done; still = 0 } else record k { still = one_more k.still }

-- whether all clients ask again after this many beats without an answer: 1, 2, 4, 8 or a multiple of 16
unfoldable pub asks_again : ℕ → Bool
asks_again n = (n == 1) || (n == 2) || (n == 4) || (n == 8) || (nat_le 16 n && (n % 16 == 0))

-- a pass ends when more than two requests a client were completed in it
unfoldable pub passes : ℕ → ℕ → Care → Bool
passes clients done k = nat_lt (sum k.counts + 2 * clients) done

abbrev pub had_completed : List ℕ → ℕ → ℕ → Bool
had_completed counts i done = option_map_or (λ n. n == done) (slice_get counts i) false

-- a client that has completed none since the pass began
abbrev pub is_overtaken : List ℕ → ℕ → Hosted → Bool
is_overtaken counts i h = is_client h && had_completed counts i (completed h)

-- whether the role at this place has completed as many by now as before
abbrev pub is_still : List ℕ → List ℕ → ℕ → Bool
is_still before now i = option_map_or (had_completed before i) (slice_get now i) false

-- The order of the next pass: who completed none in this one stays in front, and the others go behind. So nobody comes to be in front of
-- one that waits longer, and whoever waits comes to be the first. By their places the last would be asked last at each pass, and where more
-- is asked than the leader's window has room for, they would wait for ever longer.
abbrev pub requeued : List ℕ → List ℕ → List ℕ → List ℕ
requeued before now queue = filter (is_still before now) queue ++ filter (λ i. not (is_still before now i)) queue

-- a pass begins, when each hosted role has completed this many
abbrev pub pass_begun : List ℕ → Care → Care
pass_begun now k = record k { counts = now; queue = requeued k.counts now k.queue }

-- who was overtaken asks again, in the order of the queue, and the next pass begins
abbrev pub next_pass : Tended → Moved Tended
next_pass t =
    let m = in_turn (is_overtaken t.care.counts) t.care.queue t.course in
    with_care (pass_begun (completed_by m.next.hosted) t.care) m

-- The clients: all ask again where none was answered for some beats; else, where a pass ends, those that were overtaken.
unfoldable pub clients_tended : Tended → Moved Tended
clients_tended t =
    let k = clients_noted (all_completed t.course.hosted) t.care in
    let noted : Tended = record { care = k; course = t.course } in
    if asks_again k.still then within (kind_ticks kind.Client) noted
    else if passes (count_by is_client t.course.hosted) (all_completed t.course.hosted) k then next_pass noted
    else stays noted

unfoldable pub beat : Cluster → Tended → Moved Tended
beat c t = then_do (within others_tick t)
    (λ after. then_do (leader_tended c (first_leader after.course.hosted) after) (λ last. clients_tended last))

-- a turn was made, and ends with a beat where it is time
unfoldable pub turn_ended : Cluster → ℕ → Bool → Tended → Moved Tended
turn_ended c m came t =
    let k = care_after_turn came t.care in
    if is_beat m k then beat c (record { care = beat_over k; course = t.course }) else stays (record { care = k; course = t.course })

-- ---- the turn and the run

-- the n-th turn of a tended node, in which a take of the link gave this; there are at most m turns from beat to beat
unfoldable pub tended_turn : Cluster → ℕ → ℕ → Option (List ℕ) → Tended → Moved Tended
tended_turn c m n what t =
    then_do (within (tend_prepared c n) t) (λ a.
    then_do (within (tend_comes what) a) (λ b.
    then_do (within (paused b.care (is_some what)) b) (λ d.
    turn_ended c m (is_some what) d)))

abbrev pub untended : Course → Tended
untended s = record { care = no_care s.hosted; course = s }

-- the run of a tended node
abbrev pub tended_run : Cluster → ℕ → TakeResults → Course → Moved Tended
tended_run c m takes s = then_do (within (all_do Begin) (untended s)) (λ after. turns_from (tended_turn c m) 1 takes after)

-- The run of a node, tended with a limit of turns from beat to beat, or not tended.
unfoldable pub node_run : Option ℕ → Cluster → TakeResults → Course → Moved Course
node_run None c takes s = untended_run c takes s
node_run (Some m) c takes s = without_care (tended_run c m takes s)

-- one turn of either
abbrev pub any_turn : Option ℕ → Cluster → ℕ → Option (List ℕ) → Tended → Moved Tended
any_turn None c n what t = within (node_turn c n what) t
any_turn (Some m) c n what t = tended_turn c m n what t

-- what is counted before the first turn: a node that isn't tended counts nothing
abbrev pub first_care : Option ℕ → List Hosted → Care
first_care None hs = no_care []
first_care (Some m) hs = no_care hs
