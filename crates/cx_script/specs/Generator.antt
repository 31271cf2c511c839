-- The generator of events: a linear congruential sequence, four draws an event.
use Rattle.std.specs.Prelude.{ℕ, ◌+◌, ◌-◌, ◌*◌, ◌/◌, ◌%◌, ◌^◌, min, ◌==◌, nat_le, List, [], ◌∷◌, map, flat_map, get_or, None, if◌then◌else◌}
use Rattle.std.proofs.Common.{lit≤}
use Rattle.cx_base.specs.Prelude.{false, Shape, make_grid, below, role, count_of}
use Rattle.cx_base.specs.declared.cluster.Cluster.{Cluster}
use Rattle.cx_base.specs.declared.command.Op.{Op}
use Rattle.cx_base.specs.declared.command.Op.TheVariants.{Put, Del, App}
use Rattle.cx_base.specs.declared.event.Cut.{Cut}
use Rattle.cx_base.specs.declared.event.Cut.TheVariants.{Whole, Torn, Kept}
use Rattle.cx_base.specs.declared.event.Event.{Event}
use Rattle.cx_base.specs.declared.event.Event.TheVariants.{Write, Read, Deliver, Tick, Order, Crash, Restart}
use Rattle.cx_base.specs.declared.event.Order.TheVariants.{Lead, Change, Collect}
use Rattle.cx_base.specs.declared.role.Kind.TheVariants.{Batcher}
use Rattle.cx_base.specs.declared.role.RoleId.{RoleId}
use Rattle.cx_script.specs.Places.{server_kinds}

-- the cluster of generated events
abbrev pub gen_cluster : Cluster
gen_cluster =
    record {
      f = 1;
      leaders = 2;
      proxies = 2;
      acceptors = 6;
      replicas = 2;
      batchers = 1;
      unbatchers = 1;
      readers = 1;
      clients = 4;
      batch = 2;
      base_port = None;
      pool = 3;
      replacers = 0;
      one_entry_a_grid = false;
      own_proxies = false;
      keep_sets = false;
      f_fits = lit≤ tt;
      some_leader = lit≤ tt;
      leaders_fit = lit≤ tt;
      some_proxy = lit≤ tt;
      proxies_fit = lit≤ tt;
      some_acceptor = lit≤ tt;
      acceptors_fit = lit≤ tt;
      some_replicas = lit≤ tt;
      replicas_fit = lit≤ tt;
      some_batcher = lit≤ tt;
      batchers_fit = lit≤ tt;
      some_unbatcher = lit≤ tt;
      unbatchers_fit = lit≤ tt;
      some_reader = lit≤ tt;
      readers_fit = lit≤ tt;
      some_client = lit≤ tt;
      clients_fit = lit≤ tt;
      some_batch = lit≤ tt;
      batch_fits = lit≤ tt;
      some_pool = lit≤ tt;
      pool_fits = lit≤ tt;
      replacers_fit = lit≤ tt;
    }

-- its roles that are no clients, by kind, then index
abbrev pub gen_servers : List RoleId
gen_servers = flat_map (λ kind. map (role kind) (below (count_of gen_cluster kind))) server_kinds

abbrev pub gen_server : ℕ → RoleId
gen_server b = get_or gen_servers (b % 18) (role Batcher 0)

-- its grids
abbrev pub gen_first_grid : Shape
gen_first_grid = make_grid 2 2 (0 ∷ 1 ∷ 2 ∷ 3 ∷ [])

abbrev pub gen_grid : ℕ → Shape
gen_grid c =
    if c % 3 == 0 then gen_first_grid
    else if c % 3 == 1 then make_grid 2 2 (2 ∷ 3 ∷ 4 ∷ 5 ∷ [])
    else make_grid 1 3 (0 ∷ 2 ∷ 4 ∷ [])

-- one of the last 24 datagrams that were sent
abbrev pub gen_number : ℕ → ℕ → ℕ
gen_number sent b = if sent == 0 then 0 else sent - 1 - b % min sent 24

abbrev pub gen_cut : ℕ → Cut
gen_cut c = if c % 64 == 0 then Torn else if c % 64 == 1 then Kept else Whole

-- k and a digit, v and a digit
abbrev pub gen_key : ℕ → List ℕ
gen_key c = 107 ∷ (48 + c % 8) ∷ []

abbrev pub gen_value : ℕ → List ℕ
gen_value d = 118 ∷ (48 + d / 3 % 10) ∷ []

abbrev pub gen_op : ℕ → ℕ → Op
gen_op c d =
    if d % 3 == 0 then Put (gen_key c) (gen_value d)
    else if d % 3 == 1 then Del (gen_key c)
    else App (gen_key c) (gen_value d)

-- an event after the first, by what is left of the first draw over 100; a request's floor is the number before its own
abbrev pub later_event : ℕ → ℕ → ℕ → ℕ → ℕ → ℕ → Event
later_event made sent a b c d =
    if nat_le a 64 then Deliver (gen_number sent b) (gen_cut c)
    else if nat_le a 76 then Write (record { client = b % 4; seq = made + 1; floor = made; op = gen_op c d }) 0
    else if nat_le a 81 then Read (b % 4) (made + 1) made 0 (d % 2) (gen_key c)
    else if nat_le a 90 then Tick (gen_server b)
    else if nat_le a 91 then Order (b % 2) (Lead (gen_grid c)) Whole
    else if nat_le a 92 then Order (b % 2) (Change (gen_grid c)) Whole
    else if nat_le a 93 then Order (b % 2) Collect Whole
    else if nat_le a 94 then Crash (gen_server b)
    else Restart (gen_server b)

-- the event after `made` others, when `sent` datagrams were sent, by its four draws
unfoldable pub gen_event : ℕ → ℕ → ℕ → ℕ → ℕ → ℕ → Event
gen_event made sent a b c d = if made == 0 then Order 0 (Lead gen_first_grid) Whole else later_event made sent (a % 100) b c d

-- a generator: its number, and how many events it made
pub record GeneratorState : Type 0 where
  pub x : ℕ
  pub made : ℕ

-- the number after a draw, and what the draw gives: its top 32 bits
unfoldable pub next_number : ℕ → ℕ
next_number x = (x * 6364136223846793005 + 1442695040888963407) % 2 ^ 64

unfoldable pub drawn : ℕ → ℕ
drawn x = next_number x / 2 ^ 32

-- the numbers of the four draws of the next event
abbrev pub second_draw : ℕ → ℕ
second_draw x = next_number x

abbrev pub third_draw : ℕ → ℕ
third_draw x = next_number (second_draw x)

abbrev pub fourth_draw : ℕ → ℕ
fourth_draw x = next_number (third_draw x)

-- the next event, and the generator after it
unfoldable pub next_event : GeneratorState → ℕ → Event
next_event g sent = gen_event g.made sent (drawn g.x) (drawn (second_draw g.x)) (drawn (third_draw g.x)) (drawn (fourth_draw g.x))

unfoldable pub next_state : GeneratorState → GeneratorState
next_state g = record { x = next_number (fourth_draw g.x); made = g.made + 1 }
