-- Worked parts of a tended turn.
use Rattle.std.specs.Prelude.{◌≡◌, ℕ, zero, suc, true, false, List, [], ◌∷◌, None, replicate}
use Rattle.std.proofs.Common.{lit≤}
use Rattle.cx_model.specs.Prelude.{Cluster, Noop, Acceptor, RoleId, role, one_of_each, pending_of, replica_rules, Letter, letter}
use Rattle.cx_role.specs.Prelude.{Client, Reader, Replica, Leader, Proxy, make_grid, Pending}
use Rattle.cx_seat.specs.Prelude.{sent_in, Hosted, Course, Moved, course_of, stays, Care, Tended, asks_again, collected, care_after_turn}
use Rattle.cx_seat.specs.Prelude.{first_leader, heeded, is_beat, is_time, leader_tended, next_pass, no_care, paused, reported, numbered}
use Rattle.cx_base.specs.declared.event.Event.TheVariants as event
use Rattle.cx_letter.specs.declared.message.Msg.TheVariants as msg
use Rattle.cx_course.specs.Hosted.{ClientAt, ProxyAt, ReplicaAt}
use Rattle.cx_course.specs.Tending.{tend_ordered, untended}

-- n takes gave nothing
abbrev pub quiet : ℕ → Care → Care
quiet zero k = k
quiet (suc n) k = care_after_turn false (quiet n k)

-- each of n takes gave something
abbrev pub busy : ℕ → Care → Care
busy zero k = k
busy (suc n) k = care_after_turn true (busy n k)

abbrev pub fresh : Care
fresh = no_care []

-- 64 takes that gave nothing make a beat, and 63 none; the first after one that gave something doesn't count; and as many turns as the
-- limit make one
pub record Beats : Type 0 where
  pub quiet_64 : is_beat 1024 (quiet 64 fresh) ≡ true
  pub quiet_63 : is_beat 1024 (quiet 63 fresh) ≡ false
  pub quiet_64_behind : is_beat 1024 (quiet 64 (care_after_turn true fresh)) ≡ false
  pub quiet_65_behind : is_beat 1024 (quiet 65 (care_after_turn true fresh)) ≡ true
  pub busy_80 : is_beat 80 (busy 80 fresh) ≡ true
  pub busy_79 : is_beat 80 (busy 79 fresh) ≡ false

-- replica 0 of a cluster with one role of each kind, with n slots
abbrev pub replica_with : ℕ → Hosted
replica_with n = ReplicaAt (record {
  cluster = one_of_each;
  me = role Replica 0;
  live = true;
  durable = record (replica_rules.empty) { log = replicate n Noop };
  volatile = replica_rules.fresh one_of_each replica_rules.empty;
})

-- it alone, in a node that doesn't record
abbrev pub alone_with : ℕ → Course
alone_with n = course_of false (replica_with n ∷ [])

-- a replica reports each further multiple of 8 slots
pub record Reports : Type 0 where
  pub at_8 : sent_in ((reported (role Proxy 0) (role Replica 0) 7 (alone_with 8)).actions)
      ≡ letter (role Replica 0) (role Leader 0) (msg.Held 8) ∷ []
  pub at_15 : sent_in ((reported (role Proxy 0) (role Replica 0) 8 (alone_with 15)).actions) ≡ []
  pub at_17 : sent_in ((reported (role Proxy 0) (role Replica 0) 15 (alone_with 17)).actions)
      ≡ letter (role Replica 0) (role Leader 0) (msg.Held 17) ∷ []

-- three replicas
abbrev pub three_replicas : Cluster
three_replicas = record one_of_each { replicas = 3; some_replicas = lit≤ tt; replicas_fit = lit≤ tt }

-- replica 0 of three, alone in its node, which holds 3 slots and missed those that followed
abbrev pub lagging_replica : Course
lagging_replica =
    course_of false
    (ReplicaAt
    (record {
      cluster = three_replicas;
      me = role Replica 0;
      live = true;
      durable = record (replica_rules.empty) { log = replicate 3 Noop };
      volatile = replica_rules.fresh three_replicas replica_rules.empty;
    })
    ∷ [])

-- what it sends when it takes a value of this slot from this role
abbrev pub sent_behind : RoleId → ℕ → List Letter
sent_behind from slot = sent_in ((heeded (numbered 9 (letter from (role Replica 0) (msg.Chosen slot Noop))) lagging_replica).actions)

-- A replica that another one sent the value that it lacked reports what it holds, and asks for the next one at once. It doesn't where it
-- holds no more than before, nor behind a proxy leader's value.
pub record CatchesUp : Type 0 where
  pub lacked : sent_behind (role Replica 1) 3
      ≡ letter (role Replica 0) (role Leader 0) (msg.Held 4) ∷ letter (role Replica 0) (role Replica 1) (msg.Fetch 4) ∷ []
  pub known : sent_behind (role Replica 1) 2 ≡ []
  pub later : sent_behind (role Replica 1) 4 ≡ []
  pub proxied : sent_behind (role Proxy 0) 3 ≡ []

-- a value for slot 0 that waits for the vote of acceptor 0
abbrev pub unvoted : Pending
unvoted = pending_of (record { r = 1; id = 0; s = 0 }) (make_grid 1 1 (0 ∷ [])) 0 0 Noop

-- a proxy leader with it, alone in its node
abbrev pub waiting_proxy : Course
waiting_proxy =
    course_of false (ProxyAt (record {
      cluster = one_of_each;
      me = role Proxy 0;
      live = true;
      durable = tt;
      volatile = record { known = 0; pending = unvoted ∷ [] };
    }) ∷ [])

-- the same once the value is known to be chosen
abbrev pub announced_proxy : Course
announced_proxy =
    course_of false
    (ProxyAt
    (record {
      cluster = one_of_each;
      me = role Proxy 0;
      live = true;
      durable = tt;
      volatile = record { known = 0; pending = record unvoted { marks = 0 ∷ []; done = true } ∷ [] };
    })
    ∷ [])

-- the vote is asked for again
abbrev pub vote_asked_again : List Letter
vote_asked_again = letter (role Proxy 0) (role Acceptor 0) (msg.Phase2A unvoted.round 0 0 Noop) ∷ []

-- A proxy leader that waits for votes asks again at the 8th take in a row that gives nothing, and at none before or behind; one that gives
-- something begins anew. Who knows its value to be chosen doesn't announce it again, and nobody else ticks.
pub record Pauses : Type 0 where
  pub first : sent_in ((paused (quiet 0 fresh) false waiting_proxy).actions) ≡ []
  pub seventh : sent_in ((paused (quiet 6 fresh) false waiting_proxy).actions) ≡ []
  pub eighth : sent_in ((paused (quiet 7 fresh) false waiting_proxy).actions) ≡ vote_asked_again
  pub ninth : sent_in ((paused (quiet 8 fresh) false waiting_proxy).actions) ≡ []
  pub something : paused (quiet 7 fresh) true waiting_proxy ≡ stays waiting_proxy
  pub anew : sent_in ((paused (quiet 7 (care_after_turn true (quiet 5 fresh))) false waiting_proxy).actions) ≡ vote_asked_again
  pub chosen : paused (quiet 7 fresh) false announced_proxy ≡ stays announced_proxy
  pub others : paused (quiet 7 fresh) false (alone_with 8) ≡ stays (alone_with 8)

-- where leader 0 isn't hosted it gets no order
pub record NoLeader : Type 0 where
  pub ordered : tend_ordered one_of_each 1 (alone_with 8) ≡ stays (alone_with 8)
  pub collected : collected (alone_with 8) ≡ stays (alone_with 8)
  pub tended : leader_tended one_of_each (first_leader ((alone_with 8).hosted)) (untended (alone_with 8)) ≡ stays (untended (alone_with 8))

-- when clients ask again, and when a spent leader changes
pub record Waits : Type 0 where
  pub asks_8 : asks_again 8 ≡ true
  pub asks_9 : asks_again 9 ≡ false
  pub asks_16 : asks_again 16 ≡ true
  pub asks_48 : asks_again 48 ≡ true
  pub asks_0 : asks_again 0 ≡ false
  pub time_15 : is_time 15 ≡ false
  pub time_16 : is_time 16 ≡ true
  pub time_48 : is_time 48 ≡ false
  pub time_3072 : is_time 3072 ≡ true

-- a client that has completed n requests, and waits for the answer to a read
abbrev pub client_with : ℕ → ℕ → Hosted
client_with index n = ClientAt (record {
  cluster = one_of_each;
  me = role Client index;
  script = replicate (suc n) (event.Read index 1 0 0 0 []);
  done = n;
  window = 1;
  heard = 0;
  shift = None;
})

-- the read that it sends
abbrev pub read_sent_by : ℕ → Letter
read_sent_by index = letter (role Client index) (role Reader 0) (msg.ReadReq 1 0 [])

-- three clients that have completed so many
abbrev pub three_with : ℕ → ℕ → ℕ → List Hosted
three_with a b d = client_with 0 a ∷ client_with 1 b ∷ client_with 2 d ∷ []

-- a pass ends when they have
abbrev pub ends_with : List Hosted → Care → Moved Tended
ends_with hs k = next_pass (record { care = k; course = course_of false hs })

-- three passes, in each of which one client alone is answered, each time another one
abbrev pub first_end : Moved Tended
first_end = ends_with (three_with 7 0 0) (no_care (three_with 0 0 0))

abbrev pub second_end : Moved Tended
second_end = ends_with (three_with 7 7 0) first_end.next.care

abbrev pub third_end : Moved Tended
third_end = ends_with (three_with 7 7 7) second_end.next.care

-- who waits asks again, and who waits longest asks first: at the end of the second pass client 2 before client 0
pub record Queues : Type 0 where
  pub first : sent_in first_end.actions ≡ read_sent_by 1 ∷ read_sent_by 2 ∷ []
  pub second : sent_in second_end.actions ≡ read_sent_by 2 ∷ read_sent_by 0 ∷ []
  pub third : sent_in third_end.actions ≡ read_sent_by 0 ∷ read_sent_by 1 ∷ []
  pub order : third_end.next.care.queue ≡ 0 ∷ 1 ∷ 2 ∷ []
