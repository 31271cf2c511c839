-- The replica's rows: it keeps the chosen values in order, executes their commands, and answers commands and reads (VLDB 2021; deferred
-- reads are this project's own).
use Rattle.std.specs.Prelude.{◌≡◌, ◌≤◌, ℕ, zero, suc, ◌+◌, ◌-◌, ◌%◌, ◌==◌, Bool, true, false, ◌&&◌, ◌||◌, not, nat_lt, nat_le, min, max}
use Rattle.std.specs.Prelude.{map, filter, if◌then◌else◌, List, [], ◌∷◌, ◌++◌, length, take, drop, slice_get, Option, None, Some}
use Rattle.cx_letter.specs.Prelude.{list_all, list_any, Cluster, Answered, Command, Floor, Note, Pair, Placed, Value, RoleId, Client}
use Rattle.cx_letter.specs.Prelude.{Leader, Replica, Unbatcher, Full, Idle, Past, Resent, Same, Stranger, floor_fits, commands_of, is_less}
use Rattle.cx_letter.specs.Prelude.{map_after, reply_of, text_at, below, rises, value_for, ready_values, still_early, Table, are_rising}
use Rattle.cx_letter.specs.Prelude.{floor_of, is_done, noted_for, with_told, with_answer, same_role, role, Letter, letter}
use Rattle.cx_base.specs.declared.why.Why.TheVariants.{Answered as AnsweredWord, Applied, Deferred as DeferredWord, Early, Fetched, Window}
use Rattle.cx_base.specs.Noted.{new_table}
use Rattle.cx_base.specs.declared.event.Order.{Order as OrderOf}
use Rattle.cx_base.specs.declared.event.Order.TheVariants.{Offer}
use Rattle.cx_letter.specs.declared.input.Input.{Input}
use Rattle.cx_letter.specs.declared.input.Input.TheVariants.{Take, Tick, Order}
use Rattle.cx_letter.specs.declared.message.Msg.{Msg}
use Rattle.cx_letter.specs.declared.message.Msg.TheVariants as msg
use Rattle.cx_letter.specs.declared.kept.Record.{Record}
use Rattle.cx_letter.specs.declared.kept.Record.TheVariants as kept
use Rattle.cx_model.specs.declared.states.Deferred.{Deferred}
use Rattle.cx_model.specs.Names.{names, names_value}
use Rattle.cx_model.specs.Outcome.{Outcome, only_word, replied}
use Rattle.cx_model.specs.Request.{same_read}
use Rattle.cx_model.specs.Rules.{Rules}

-- what executing leaves: the map, and the client table
pub record Machine : Type 0 where
  pub map : List Pair
  pub table : Table

-- What a replica's records leave: the chosen values that it has, in slot order, the first of them at slot `first`; what all
-- values that it kept leave; whether a record was read; and how many pairs, clients and values a renewed list still wants.
pub record ReplicaDurable : Type 0 where
  pub first : ℕ
  pub log : List Value
  pub machine : Machine
  pub begun : Bool
  pub pairs : ℕ
  pub clients : ℕ
  pub values : ℕ

-- how many slots it holds
abbrev pub held : ReplicaDurable → ℕ
held d = d.first + length d.log

-- whether a renewed list has all that it began to say
abbrev pub is_renewal_whole : ReplicaDurable → Bool
is_renewal_whole d = d.pairs == 0 && d.clients == 0 && d.values == 0

-- The values that came before their turn, and the reads that wait for values, in the order in which they came; and the greatest
-- slot that the replica before this one asked for.
pub record ReplicaVolatile : Type 0 where
  pub early : List Placed
  pub deferred : List Deferred
  pub fetched : ℕ

-- a machine with the answers that it gave on the way
pub record Executed : Type 0 where
  pub machine : Machine
  pub answers : List Answered

-- a command acts: its client isn't done with its number, which has no answer yet
abbrev pub acting : ℕ → Machine → Command → Executed
acting at m c =
    let answer : Answered = record { client = c.client; seq = c.seq; at = at; reply = reply_of m.map c.op } in
    record { machine = record { map = map_after m.map c.op; table = with_answer answer c.floor m.table }; answers = answer ∷ [] }

-- a command doesn't act, and tells its floor; it has the answer that was noted for its number, if one was
abbrev pub not_acting : Machine → Command → List Answered → Executed
not_acting m c answers = record { machine = record m { table = with_told c.client c.floor m.table }; answers = answers }

-- A command whose number has an answer has that one again; one whose number has none acts.
abbrev pub execute_noted : ℕ → Machine → Command → Option Answered → Executed
execute_noted at m c None = acting at m c
execute_noted at m c (Some a) = not_acting m c (a ∷ [])

-- where its client is done with its number, a command doesn't act and has no answer
abbrev pub execute : ℕ → Machine → Command → Executed
execute at m c =
    if is_done c.seq (floor_of c.client m.table.floors) then not_acting m c []
    else execute_noted at m c (noted_for c.client c.seq m.table.notes)

abbrev pub with_answers : List Answered → Executed → Executed
with_answers before e = record e { answers = before ++ e.answers }

-- commands in order; `at` is one more than their slot
abbrev pub execute_all : ℕ → Machine → List Command → Executed
execute_all at m [] = record { machine = m; answers = [] }
execute_all at m (c ∷ cs) = with_answers (execute at m c).answers (execute_all at (execute at m c).machine cs)

-- the value of a slot
abbrev pub execute_value : ℕ → Machine → Value → Executed
execute_value slot m v = execute_all (slot + 1) m (commands_of v)

-- what values from a slot on leave
abbrev pub machine_from : ℕ → Machine → List Value → Machine
machine_from slot m [] = m
machine_from slot m (v ∷ vs) = machine_from (slot + 1) (execute_value slot m v).machine vs

abbrev pub new_machine : Machine
new_machine = record { map = []; table = new_table }

-- what a log leaves
abbrev pub machine_of : List Value → Machine
machine_of log = machine_from 0 new_machine log

-- one replica for each slot sends the answers, if there are any, to one unbatcher for each slot
abbrev pub results_at : Cluster → RoleId → ℕ → List Answered → List Letter
results_at c me slot answers =
    if (slot % c.replicas == me.index) && nat_lt 0 (length answers)
    then letter me (role Unbatcher (slot % c.unbatchers)) (msg.Results slot answers) ∷ []
    else []

abbrev pub results_from : Cluster → RoleId → ℕ → Machine → List Value → List Letter
results_from c me slot m [] = []
results_from c me slot m (v ∷ vs) =
    results_at c me slot (execute_value slot m v).answers ++ results_from c me (slot + 1) (execute_value slot m v).machine vs

-- a value before its turn waits; the first for a slot stays
abbrev pub with_early : ℕ → Value → List Placed → Option Value → List Placed
with_early s v early None = early ++ record { slot = s; value = v } ∷ []
with_early s v early (Some first) = early

-- a read is answered with the key's text in the map that the first n values leave
abbrev pub read_answer_to : RoleId → ℕ → Machine → Deferred → Letter
read_answer_to me n machine r =
    letter me (role Client r.token.client) (msg.ReadAnswer r.token.seq n (text_at r.key machine.map))

-- the answers to the reads that waited for no more than n values
abbrev pub read_answers : RoleId → ℕ → Machine → List Deferred → List Letter
read_answers me n machine rs = map (read_answer_to me n machine) (filter (λ (r : Deferred). nat_le r.mark n) rs)

abbrev pub still_deferred : ℕ → List Deferred → List Deferred
still_deferred held rs = filter (λ (r : Deferred). nat_lt held r.mark) rs

abbrev pub apply : Cluster → RoleId → ReplicaDurable → ReplicaVolatile → List Value → Outcome ReplicaVolatile
apply c me d v values =
    record {
      why = Applied;
      kept = Some (kept.Log values);
      volatile = record v {
        early = still_early (held d + length values) v.early;
        deferred = still_deferred (held d + length values) v.deferred;
      };
      sends = results_from c me (held d) d.machine values
          ++ read_answers me (held d + length values) (machine_from (held d) d.machine values) v.deferred;
    }

-- a proxy leader, or another replica, sends a chosen value
abbrev pub chosen_row : Cluster → RoleId → ReplicaDurable → ReplicaVolatile → ℕ → Value → Outcome ReplicaVolatile
chosen_row c me d v s value =
    if nat_lt s (held d) then only_word Past v
    else if nat_le (held d + 32) s then only_word Window v
    else if nat_lt (held d) s then only_word Early (record v { early = with_early s value v.early (value_for s v.early) })
    else apply c me d v (ready_values (held d) v.early value)

-- a reader, or a client in a session, asks for a key's text, once this many slots are held; at most 64 of them wait
abbrev pub read_row : RoleId → ReplicaDurable → ReplicaVolatile → Deferred → Outcome ReplicaVolatile
read_row me d v r =
    if nat_le r.mark (held d) then replied AnsweredWord v (read_answer_to me (held d) d.machine r ∷ [])
    else if list_any (λ (other : Deferred). same_read r.token other.token) v.deferred then only_word Same v
    else if nat_le 64 (length v.deferred) then only_word Full v
    else only_word DeferredWord (record v { deferred = v.deferred ++ r ∷ [] })

abbrev pub fetch_found : RoleId → ReplicaVolatile → RoleId → ℕ → Option Value → Outcome ReplicaVolatile
fetch_found me v from s None = only_word Idle v
fetch_found me v from s (Some value) = replied Fetched v (letter me from (msg.Chosen s value) ∷ [])

-- the replica that asks this one for values
abbrev pub before : Cluster → RoleId → ℕ
before c me = (me.index + c.replicas - 1) % c.replicas

-- the replica before this one asked for the value of a slot
abbrev pub fetched_by : Cluster → RoleId → ReplicaVolatile → RoleId → ℕ → ReplicaVolatile
fetched_by c me v from s = if from.index == before c me then record v { fetched = max v.fetched s } else v

-- another replica asks for the value of a slot, which may be forgotten (this project's own)
abbrev pub fetch_row : Cluster → RoleId → ReplicaDurable → ReplicaVolatile → RoleId → ℕ → Outcome ReplicaVolatile
fetch_row c me d v from s =
    if nat_lt s d.first then only_word Past (fetched_by c me v from s)
    else fetch_found me (fetched_by c me v from s) from s (slice_get d.log (s - d.first))

abbrev pub replica_takes : Cluster → RoleId → ReplicaDurable → ReplicaVolatile → RoleId → Msg → Outcome ReplicaVolatile
replica_takes c me d v from (msg.Chosen s value) = chosen_row c me d v s value
replica_takes c me d v from (msg.Read t n key) = read_row me d v (record { token = t; mark = n; key = key })
replica_takes c me d v from (msg.SessRead seq n key) =
    read_row me d v (record { token = record { client = from.index; seq = seq }; mark = n; key = key })
replica_takes c me d v from (msg.Fetch s) = fetch_row c me d v from s
replica_takes c me d v from other = only_word Stranger v

abbrev pub held_to : RoleId → ℕ → ℕ → Letter
held_to me held leader = letter me (role Leader leader) (msg.Held held)

-- the next replica is asked for values that it may have
abbrev pub fetch_to : Cluster → RoleId → ℕ → List Letter
fetch_to c me held = if nat_lt 1 c.replicas then letter me (role Replica ((me.index + 1) % c.replicas)) (msg.Fetch held) ∷ [] else []

abbrev pub replica_tick : Cluster → RoleId → ReplicaDurable → ReplicaVolatile → Outcome ReplicaVolatile
replica_tick c me d v = replied Resent v (map (held_to me (held d)) (below c.leaders) ++ fetch_to c me (held d))

-- the value that it keeps of a slot
abbrev pub value_kept : ReplicaDurable → ℕ → Option Value
value_kept d s = if nat_lt s d.first then None else slice_get d.log (s - d.first)

abbrev pub offer_of : RoleId → RoleId → ℕ → Option Value → List Letter
offer_of me to s None = []
offer_of me to s (Some value) = letter me to (msg.Chosen s value) ∷ []

-- the values that it keeps of n slots from `s` on, the greatest slot first
unfoldable pub offers : RoleId → RoleId → ReplicaDurable → ℕ → ℕ → List Letter
offers me to d s zero = []
offers me to d s (suc n) = offer_of me to (s + n) (value_kept d (s + n)) ++ offers me to d s n

abbrev pub offered : ReplicaVolatile → List Letter → Outcome ReplicaVolatile
offered v [] = only_word Idle v
offered v (first ∷ rest) = replied Fetched v (first ∷ rest)

-- the order to send another replica what it keeps of 32 slots from this one on (this project's own)
abbrev pub offer_row : Cluster → RoleId → ReplicaDurable → ReplicaVolatile → ℕ → ℕ → Outcome ReplicaVolatile
offer_row c me d v to s =
    if not (nat_lt to c.replicas) || (to == me.index) then only_word Stranger v
    else offered v (offers me (role Replica to) d s 32)

abbrev pub replica_orders : Cluster → RoleId → ReplicaDurable → ReplicaVolatile → OrderOf → Outcome ReplicaVolatile
replica_orders c me d v (Offer to s) = offer_row c me d v to s
replica_orders c me d v other = only_word Stranger v

abbrev pub replica_row : Cluster → RoleId → ReplicaDurable → ReplicaVolatile → Input → Outcome ReplicaVolatile
replica_row c me d v (Take letter) =
    if same_role letter.to me && names c letter then replica_takes c me d v letter.from letter.msg else only_word Stranger v
replica_row c me d v Tick = replica_tick c me d v
replica_row c me d v (Order order) = replica_orders c me d v order

-- the answer that is noted of a client
abbrev pub answer_of : ℕ → Note → Answered
answer_of client n = record { client = client; seq = n.seq; at = n.at; reply = n.reply }

-- the table with a client more, behind the others, its floor, and the answers to its numbers
abbrev pub with_client : ℕ → ℕ → List Note → Table → Table
with_client client floor notes t =
    record {
      floors = t.floors ++ record { client = client; floor = floor } ∷ [];
      notes = t.notes ++ map (answer_of client) notes;
    }

-- the durable part after a record
abbrev pub replica_after : ReplicaDurable → Record → ReplicaDurable
replica_after d (kept.Log vs) = record d { log = d.log ++ vs; machine = machine_from (held d) d.machine vs; begun = true }
replica_after d (kept.Base first n pairs clients) =
    record d { first = first; begun = true; pairs = pairs; clients = clients; values = n - first }
replica_after d (kept.Pairs ps) =
    record d { machine = record d.machine { map = d.machine.map ++ ps }; begun = true; pairs = d.pairs - length ps }
replica_after d (kept.Notes client floor notes) = record d {
  machine = record d.machine { table = with_client client floor notes d.machine.table };
  begun = true;
  clients = d.clients - 1;
}
replica_after d (kept.Tail vs) = record d { log = d.log ++ vs; begun = true; values = d.values - length vs }
replica_after d other = d

-- whether the key of a pair comes before that of another
abbrev pub key_before : Pair → Pair → Bool
key_before p q = is_less p.key q.key

-- whether notes are those of a client with this floor: their numbers rise, and it may tell the floor with each
abbrev pub are_client_notes : ℕ → List Note → Bool
are_client_notes floor notes =
    rises (λ (n : Note) (later : Note). nat_lt n.seq later.seq) notes && list_all (λ (n : Note). floor_fits n.seq floor) notes

-- Whether the replica could have appended this record, or a renewal have it in this place: slots end at 2^40; a renewed list
-- begins with its base, and then has all pairs, their keys rising, all clients, rising, and all values, in records that are
-- filled in order. Values are appended to a whole list alone.
abbrev pub replica_fits : Cluster → RoleId → ReplicaDurable → Record → Bool
replica_fits c me d (kept.Log vs) =
    is_renewal_whole d && list_all (λ (v : Value). names_value c v) vs && nat_le (held d + length vs) 1099511627776
replica_fits c me d (kept.Base first n pairs clients) = not d.begun && nat_le first n
replica_fits c me d (kept.Pairs ps) = length ps == min 255 d.pairs && rises key_before (d.machine.map ++ ps)
replica_fits c me d (kept.Notes client floor notes) =
    d.pairs == 0 && nat_lt 0 d.clients && nat_lt client c.clients
    && are_rising 0 (with_client client floor notes d.machine.table).floors && are_client_notes floor notes
replica_fits c me d (kept.Tail vs) =
    d.pairs == 0 && d.clients == 0 && list_all (λ (v : Value). names_value c v) vs && length vs == min 32 d.values
replica_fits c me d other = false

-- a list in pieces of so many, the last of which may be shorter
unfoldable pub pieces_of : {A : Type 0} → ℕ → ℕ → List A → List (List A)
pieces_of zero size xs = []
pieces_of (suc fuel) size [] = []
pieces_of (suc fuel) size (x ∷ xs) = take size (x ∷ xs) ∷ pieces_of fuel size (drop size (x ∷ xs))

abbrev pub pieces : {A : Type 0} → ℕ → List A → List (List A)
pieces size xs = pieces_of (length xs) size xs

abbrev pub note_of : Answered → Note
note_of a = record { seq = a.seq; at = a.at; reply = a.reply }

-- what is noted of a client
abbrev pub notes_of : Table → Floor → Record
notes_of t f = kept.Notes f.client f.floor (map note_of (filter (λ (a : Answered). a.client == f.client) t.notes))

-- the list without the values below a slot: how far it goes, the map, the client table, and the values from that slot on
abbrev pub replica_renewed : ReplicaDurable → ℕ → List Record
replica_renewed d first =
    (kept.Base first (held d) (length d.machine.map) (length d.machine.table.floors) ∷ [])
    ++ map (λ ps. kept.Pairs ps) (pieces 255 d.machine.map)
    ++ map (notes_of d.machine.table) d.machine.table.floors
    ++ map (λ vs. kept.Tail vs) (pieces 32 (drop (first - d.first) d.log))

-- no other replica asks for values below this slot: the only one holds all, else the one before this has asked for it
abbrev pub snap_limit : Cluster → ReplicaDurable → ReplicaVolatile → ℕ
snap_limit c d v = if c.replicas == 1 then held d else min (held d) v.fetched

-- below which slot the replica may forget values, if it may: a map of 2^32 keys isn't written anew
abbrev pub replica_snap : Cluster → RoleId → ReplicaDurable → ReplicaVolatile → Option ℕ
replica_snap c me d v =
    if nat_le (snap_limit c d v) d.first || nat_le 4294967296 (length d.machine.map) then None else Some (snap_limit c d v)

abbrev pub replica_rules : Rules ReplicaDurable ReplicaVolatile
replica_rules = record {
  kind = Replica;
  empty = record { first = 0; log = []; machine = new_machine; begun = false; pairs = 0; clients = 0; values = 0 };
  after = replica_after;
  fits = replica_fits;
  whole = is_renewal_whole;
  fresh = λ c d. record { early = []; deferred = []; fetched = 0 };
  row = replica_row;
  snap = replica_snap;
  renewed = replica_renewed;
}

-- A durable part is what these values leave: all of them went through its machine, it has those from its first slot on, and
-- wants nothing more.
pub record IsTied (d : ReplicaDurable) (values : List Value) : Type 0 where
  pub within : d.first ≤ length values
  pub log : d.log ≡ drop d.first values
  pub machine : d.machine ≡ machine_of values
  pub whole : is_renewal_whole d ≡ true
