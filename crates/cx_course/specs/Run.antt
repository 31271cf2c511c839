-- The turns of a node that doesn't tend its roles, and its run: a function of its cluster, its hosted roles as they
-- were opened, and what each take of its link gave.
use Rattle.std.specs.Prelude.{ℕ, zero, suc, ◌+◌, ◌/◌, ◌%◌, ◌==◌, min, Bool, true, false, ◌&&◌, ◌||◌, List, [], ◌∷◌, length, Option, None}
use Rattle.std.specs.Prelude.{Some, Result, Ok, Err, option_map, slice_get, if◌then◌else◌}
use Rattle.cx_letter.specs.Prelude.{list_all, list_any, Cluster, RoleId, Shape, numbers, role, same_role, Letter}
use Rattle.cx_base.specs.declared.event.Order.TheVariants as order
use Rattle.cx_base.specs.declared.role.Kind.TheVariants as kind
use Rattle.cx_client.specs.Client.{is_finished}
use Rattle.cx_msg.specs.Decoding.{decoded}
use Rattle.cx_msg.specs.declared.fault.WireFault.{WireFault}
use Rattle.cx_letter.specs.declared.input.Input.TheVariants as input
use Rattle.cx_course.specs.declared.doing.Doing.{Doing}
use Rattle.cx_course.specs.declared.doing.Doing.TheVariants.{Begin, Give, Snap}
use Rattle.cx_course.specs.Course.{Course, Moved, does_at, is_a, stays, then_do, took}
use Rattle.cx_course.specs.Hosted.{Hosted, ClientAt, is_idle_leader, name_of}
use Rattle.cx_record.specs.Numbers.{Numbered, Recorded, last_sent, numbered}

-- the first n hosted roles do it, in order
abbrev pub first_do : ℕ → Doing → Course → Moved Course
first_do zero what s = stays s
first_do (suc n) what s = then_do (first_do n what s) (λ after. does_at n what after)

abbrev pub all_do : Doing → Course → Moved Course
all_do what s = first_do (length s.hosted) what s

-- the place of a hosted role
abbrev pub hosted_place : RoleId → List Hosted → Option ℕ
hosted_place who [] = None
hosted_place who (h ∷ hs) = if same_role who (name_of h) then Some 0 else option_map (λ i. i + 1) (hosted_place who hs)

-- the hosted role of this name does something, if there is one
abbrev pub at_place : Option ℕ → Doing → Course → Moved Course
at_place None what s = stays s
at_place (Some i) what s = does_at i what s

-- ---- the three parts of a turn

-- the grid that leader 0 is ordered to lead: the first acceptors, at most 16, in two rows where their number is even,
-- else in one
abbrev pub first_grid : ℕ → Shape
first_grid n =
    if n % 2 == 0
    then record { rows = 2; cols = n / 2; members = numbers 0 n }
    else record { rows = 1; cols = n; members = numbers 0 n }

abbrev pub grid_of : Cluster → Shape
grid_of c = first_grid (min c.acceptors 16)

abbrev pub idle_at : Option Hosted → Bool
idle_at None = false
idle_at (Some h) = is_idle_leader h

abbrev pub lead_at : Cluster → Option ℕ → Course → Moved Course
lead_at c None s = stays s
lead_at c (Some i) s =
    if idle_at (slice_get s.hosted i) then does_at i (Give 0 (input.Order (order.Lead (grid_of c)))) s else stays s

-- a hosted leader 0 that is idle is ordered to lead, at turn 1 and at each that 4,096 divides
unfoldable pub ordered : Cluster → ℕ → Course → Moved Course
ordered c n s = if (n == 1) || (n % 4096 == 0) then lead_at c (hosted_place (role kind.Leader 0) s.hosted) s else stays s

-- all replicas snap, at each turn that 4,096 divides
unfoldable pub snaps : ℕ → Course → Moved Course
snaps n s = if n % 4096 == 0 then all_do Snap s else stays s

-- the first part of the n-th turn
unfoldable pub prepared : Cluster → ℕ → Course → Moved Course
prepared c n s = then_do (ordered c n s) (λ led. snaps n led)

-- the datagram that bytes spell, if they spell one
abbrev pub spelled : Result Letter WireFault → Option Numbered
spelled (Err fault) = None
spelled (Ok d) = Some (numbered 0 d)

-- What bytes that a take gave bring: the datagram that they spell. Where the node records it is one that the node sent, the last one
-- with these bytes, and bytes that it never sent bring nothing.
abbrev pub brought : Option Recorded → List ℕ → Option Numbered
brought None bytes = spelled (decoded bytes)
brought (Some r) bytes = last_sent bytes r.sent

-- a datagram to a role that isn't hosted changes nothing
abbrev pub brings : Option Numbered → Course → Moved Course
brings None s = stays s
brings (Some x) s = at_place (hosted_place x.letter.to s.hosted) (Give x.number (input.Take x.letter)) s

-- what a take gave comes to its role
unfoldable pub comes : Option (List ℕ) → Course → Moved Course
comes None s = took None (stays s)
comes (Some bytes) s = took (Some bytes) (brings (brought s.recorded bytes) s)

-- all roles tick, at each turn that 64 divides
unfoldable pub ticked : ℕ → Course → Moved Course
ticked n s = if n % 64 == 0 then all_do (Give 0 input.Tick) s else stays s

-- the n-th turn, in which a take of the link gave this
unfoldable pub node_turn : Cluster → ℕ → Option (List ℕ) → Course → Moved Course
node_turn c n what s = then_do (prepared c n s) (λ after. then_do (comes what after) (λ last. ticked n last))

-- what each take of a link gave: bytes, or nothing was there
abbrev pub TakeResults : Type 0
TakeResults = List (Option (List ℕ))

-- the turns from the n-th on, each of this kind
abbrev pub turns_from : {S : Type 0} → (ℕ → Option (List ℕ) → S → Moved S) → ℕ → TakeResults → S → Moved S
turns_from step n [] s = stays s
turns_from step n (what ∷ rest) s = then_do (step n what s) (λ after. turns_from step (n + 1) rest after)

-- The whole run: clients send their outstanding requests, and then come the turns.
abbrev pub untended_run : Cluster → TakeResults → Course → Moved Course
untended_run c takes s = then_do (all_do Begin s) (λ after. turns_from (node_turn c) 1 takes after)

-- ---- when it ends

abbrev pub is_client : Hosted → Bool
is_client h = is_a kind.Client (name_of h)

-- a client has no line that isn't answered; other roles have none anyway
abbrev pub has_finished : Hosted → Bool
has_finished (ClientAt s) = is_finished s
has_finished other = true

-- a client is hosted, and all hosted ones have finished
unfoldable pub all_finished : List Hosted → Bool
all_finished hs = list_any is_client hs && list_all has_finished hs
