-- The world takes each event that a line or a schedule spells, and its names lie in the cluster.
use Rattle.cx_base.proofs.Common.{◌≡◌, ◌&&◌, ◌+◌, ℕ, Bool, true, false, nat_lt, List, [], ◌∷◌, length, codes, Option, None, Some, Result}
use Rattle.cx_base.proofs.Common.{Ok, Err, IfOk, IfSome, refl, subst, if◌then◌else◌, list_all, bytes_eq, is_valid_event, Shape}
use Rattle.cx_base.specs.declared.cluster.Cluster.{Cluster}
use Rattle.cx_base.specs.declared.event.Event.{Event}
use Rattle.cx_base.specs.declared.event.Event.TheVariants as event
use Rattle.cx_base.specs.declared.event.Event.TheVariants.{Write, Read, Session}
use Rattle.cx_base.specs.declared.event.Order.TheVariants.{Collect}
use Rattle.cx_base.specs.declared.event.Cut.{Cut}
use Rattle.cx_base.specs.declared.event.Cut.TheVariants.{Whole}
use Rattle.cx_base.specs.declared.role.Kind.TheVariants.{Client, Batcher, Leader, Replica, Reader, Replacer}
use Rattle.cx_script.specs.declared.fault.LineFault.{LineFault}
use Rattle.cx_script.specs.declared.fault.LineFault.TheVariants.{Long}
use Rattle.cx_script.specs.Grammar.{◌>>=◌, next_word, op_at, cut_at, grid_at, write_event, read_event, session_event, deliver_event}
use Rattle.cx_script.specs.Grammar.{grid_order_of, collect_event, snap_event, replace_event, offer_event, server_of, event_of, is_comment}
use Rattle.cx_script.specs.Grammar.{event_in, line_event}
use Rattle.cx_script.specs.Lines.{ParsedLines, with_line, spelled_from, lines_of, schedule_of}
use Rattle.cx_script.specs.Names.{names_event, names_members, names_server, names_set}
use Rattle.cx_script.specs.Places.{seq_word, number_word, key_word, index_word, server_word, renewing_word, set_word, other_word, slot_word}
use Rattle.cx_script.specs.Words.{words_of}
use Rattle.cx_script.proofs.Parts.{then_ok, either_ok, next_ok, ended_ok, whatever, seq_ok, index_ok, server_ok, snap_ok, grid_ok, set_ok}
use Rattle.cx_script.proofs.Parts.{other_ok, slot_ok}

-- the world takes the event, and its names lie in the cluster
pub record IsGood (c : Cluster) (e : Event) : Type 0 where
  pub taken : is_valid_event e ≡ true
  pub named : names_event c e ≡ true

all_three : (a b d : Bool) → a ≡ true → b ≡ true → d ≡ true → (a && b && d) ≡ true
all_three a b d h k l = rw (h, k, l) refl

write_ok : (c : Cluster) (words : List (List ℕ)) → IfOk (write_event c words) (IsGood c)
unfolding write_event
write_ok c words = then_ok _ (IsGood c) (next_word (index_word c Client) words) _ (next_ok _ (index_word c Client) (index_ok c Client)
    words) (λ (client, words) h. then_ok _ (IsGood c) (next_word seq_word words) _ (next_ok _ seq_word seq_ok words) (λ (numbers, words) k.
    then_ok _ (IsGood c) (next_word (index_word c Batcher) words) _ (next_ok _ (index_word c Batcher) (index_ok c Batcher) words)
    (λ (batcher, words) l. then_ok _ (IsGood c) (op_at words) _ (whatever (op_at words)) (λ (op, words) m.
    ended_ok (IsGood c) (Write (record { client = client; seq = numbers.0; floor = numbers.1; op = op }) batcher) words
    (record { taken = k; named = rw (h, l) refl })))))

read_ok : (c : Cluster) (words : List (List ℕ)) → IfOk (read_event c words) (IsGood c)
unfolding read_event
read_ok c words = then_ok _ (IsGood c) (next_word (index_word c Client) words) _ (next_ok _ (index_word c Client) (index_ok c Client) words)
    (λ (client, words) h. then_ok _ (IsGood c) (next_word seq_word words) _ (next_ok _ seq_word seq_ok words) (λ (numbers, words) k.
    then_ok _ (IsGood c) (next_word (index_word c Reader) words) _ (next_ok _ (index_word c Reader) (index_ok c Reader) words)
    (λ (reader, words) l.
    then_ok _ (IsGood c) (next_word (index_word c Replica) words) _ (next_ok _ (index_word c Replica) (index_ok c Replica) words)
    (λ (replica, words) m. then_ok _ (IsGood c) (next_word key_word words) _ (whatever (next_word key_word words)) (λ (key, words) n.
    ended_ok (IsGood c) (Read client numbers.0 numbers.1 reader replica key) words (record { taken = k; named = rw (h, l, m) refl }))))))

session_ok : (c : Cluster) (words : List (List ℕ)) → IfOk (session_event c words) (IsGood c)
unfolding session_event
session_ok c words = then_ok _ (IsGood c) (next_word (index_word c Client) words) _ (next_ok _ (index_word c Client) (index_ok c Client)
    words) (λ (client, words) h. then_ok _ (IsGood c) (next_word seq_word words) _ (next_ok _ seq_word seq_ok words) (λ (numbers, words) k.
    then_ok _ (IsGood c) (next_word (index_word c Replica) words) _ (next_ok _ (index_word c Replica) (index_ok c Replica) words)
    (λ (replica, words) l. then_ok _ (IsGood c) (next_word key_word words) _ (whatever (next_word key_word words)) (λ (key, words) m.
    ended_ok (IsGood c) (Session client numbers.0 numbers.1 replica key) words (record { taken = k; named = rw (h, l) refl })))))

deliver_ok : (c : Cluster) (words : List (List ℕ)) → IfOk (deliver_event words) (IsGood c)
unfolding deliver_event
deliver_ok c words =
    then_ok _ (IsGood c) (next_word number_word words) _ (whatever (next_word number_word words)) (λ (number, words) h.
    then_ok _ (IsGood c) (cut_at words) _ (whatever (cut_at words)) (λ cut k. record { taken = refl; named = refl }))

-- a leader and a grid of the cluster
abbrev IsNamed : Cluster → ℕ × Shape × Cut → Type 0
IsNamed c (leader, grid, cut) = (nat_lt leader c.leaders && names_members c grid) ≡ true

round_ok : (c : Cluster) (words : List (List ℕ)) → IfOk (grid_order_of c words) (IsNamed c)
unfolding grid_order_of
round_ok c words = then_ok _ (IsNamed c) (next_word (index_word c Leader) words) _ (next_ok _ (index_word c Leader) (index_ok c Leader)
    words) (λ (leader, words) h. then_ok _ (IsNamed c) (grid_at c words) _ (grid_ok c words) (λ (grid, words) k.
    then_ok _ (IsNamed c) (cut_at words) _ (whatever (cut_at words)) (λ cut l. rw (h, k) refl)))

collect_ok : (c : Cluster) (words : List (List ℕ)) → IfOk (collect_event c words) (IsGood c)
unfolding collect_event
collect_ok c words = then_ok _ (IsGood c) (next_word (index_word c Leader) words) _ (next_ok _ (index_word c Leader) (index_ok c Leader)
    words) (λ (leader, words) h. ended_ok (IsGood c) (event.Order leader Collect Whole) words (record { taken = refl; named = rw h refl }))

snaps_ok : (c : Cluster) (words : List (List ℕ)) → IfOk (snap_event c words) (IsGood c)
unfolding snap_event
snaps_ok c words = then_ok _ (IsGood c) (next_word (renewing_word c) words)
    _ (next_ok _ (renewing_word c) (snap_ok c) words) (λ (role, words) h.
    then_ok _ (IsGood c) (cut_at words) _ (whatever (cut_at words)) (λ cut k. record { taken = refl; named = h }))

replace_ok : (c : Cluster) (words : List (List ℕ)) → IfOk (replace_event c words) (IsGood c)
unfolding replace_event
replace_ok c words = then_ok _ (IsGood c) (next_word (index_word c Replacer) words)
    _ (next_ok _ (index_word c Replacer) (index_ok c Replacer) words) (λ (replacer, words) h.
    then_ok _ (IsGood c) (next_word (set_word c) words) _ (next_ok (λ s. names_set c s ≡ true) (set_word c) (set_ok c) words)
    (λ (set, words) k.
    then_ok _ (IsGood c) (cut_at words) _ (whatever (cut_at words)) (λ cut l. record { taken = refl; named = rw (h, k) refl })))

offer_ok : (c : Cluster) (words : List (List ℕ)) → IfOk (offer_event c words) (IsGood c)
unfolding offer_event
offer_ok c words = then_ok _ (IsGood c) (next_word (index_word c Replica) words)
    _ (next_ok _ (index_word c Replica) (index_ok c Replica) words) (λ (replica, words) h.
    then_ok _ (IsGood c) (next_word (other_word c Replica replica) words)
    _ (next_ok _ (other_word c Replica replica) (other_ok c Replica replica) words) (λ (to, words) k.
    then_ok _ (IsGood c) (next_word slot_word words) _ (next_ok _ slot_word slot_ok words) (λ (slot, words) l.
    ended_ok (IsGood c) (event.Offer replica to slot) words (record { taken = refl; named = rw (h, k.0, k.1, l) refl }))))

servers_ok : (c : Cluster) (words : List (List ℕ)) → IfOk (server_of c words) (λ role. names_server c role ≡ true)
unfolding server_of
servers_ok c words = then_ok _ (λ role. names_server c role ≡ true) (next_word (server_word c) words)
    _ (next_ok _ (server_word c) (server_ok c) words) (λ (role, words) h. ended_ok (λ r. names_server c r ≡ true) role words h)

event_ok : (c : Cluster) (verb : List ℕ) (words : List (List ℕ)) → IfOk (event_of c verb words) (IsGood c)
unfolding event_of
event_ok c verb words =
    let server = servers_ok c words in
    let round = round_ok c words in
    let or_else : (b : Bool) (r s : Result Event LineFault) → IfOk r (IsGood c) → IfOk s (IsGood c) → IfOk (if b then r else s) (IsGood c) =
    λ b r s. either_ok (IsGood c) b r s in
    or_else (bytes_eq verb (codes "write")) _ _ (write_ok c words) (
    or_else (bytes_eq verb (codes "read")) _ _ (read_ok c words) (
    or_else (bytes_eq verb (codes "session")) _ _ (session_ok c words) (
    or_else (bytes_eq verb (codes "deliver")) _ _ (deliver_ok c words) (
    or_else (bytes_eq verb (codes "tick"))
    _ _ (then_ok _ (IsGood c) (server_of c words) _ server (λ role h. record { taken = refl; named = h })) (
    or_else (bytes_eq verb (codes "lead"))
    _ _ (then_ok _ (IsGood c) (grid_order_of c words) _ round (λ (leader, grid, cut) h. record { taken = refl; named = h })) (
    or_else (bytes_eq verb (codes "change"))
    _ _ (then_ok _ (IsGood c) (grid_order_of c words) _ round (λ (leader, grid, cut) h. record { taken = refl; named = h })) (
    or_else (bytes_eq verb (codes "collect")) _ _ (collect_ok c words) (
    or_else (bytes_eq verb (codes "snap")) _ _ (snaps_ok c words) (
    or_else (bytes_eq verb (codes "replace")) _ _ (replace_ok c words) (
    or_else (bytes_eq verb (codes "offer")) _ _ (offer_ok c words) (
    or_else (bytes_eq verb (codes "crash"))
    _ _ (then_ok _ (IsGood c) (server_of c words) _ server (λ role h. record { taken = refl; named = h })) (
    or_else (bytes_eq verb (codes "restart")) _ _ (then_ok _ (IsGood c) (server_of c words) _ server (λ role h. record {
      taken = refl;
      named = h;
    })) tt))))))))))))

-- the event of a line, if it has one
abbrev IsGoodLine : Cluster → Option Event → Type 0
IsGoodLine c event = IfSome event (IsGood c)

words_ok : (c : Cluster) (words : List (List ℕ)) → IfOk (event_in c words) (IsGoodLine c)
words_ok c [] = tt
words_ok c (verb ∷ words) =
    either_ok (IsGoodLine c) (is_comment verb) (Ok None) (event_of c verb words >>= (λ event. Ok (Some event))) tt
    (then_ok (IsGood c) (IsGoodLine c) (event_of c verb words) (λ event. Ok (Some event)) (event_ok c verb words) (λ event h. h))

line_ok : (c : Cluster) (line : List ℕ) → IfOk (line_event c line) (IsGoodLine c)
unfolding line_event
line_ok c line =
    either_ok (IsGoodLine c) (nat_lt 1024 (length line)) (Err Long) (event_in c (words_of line)) tt (words_ok c (words_of line))

pub spelled_is_good : (c : Cluster) (line : List ℕ) (event : Event) → line_event c line ≡ Ok (Some event) → IsGood c event
spelled_is_good c line event is = subst (λ (r : Result (Option Event) LineFault). IfOk r (IsGoodLine c)) is (line_ok c line)

-- a test that each event of a line passes
with_good : (test : Event → Bool) (n : ℕ) (r : Result (Option Event) LineFault) (later : ParsedLines)
    → IfOk r (λ o. IfSome o (λ e. test e ≡ true)) → list_all test later.events ≡ true → list_all test (with_line n r later).events ≡ true
with_good test n (Err fault) later h rest = refl
with_good test n (Ok None) later h rest = rest
with_good test n (Ok (Some e)) later h rest = rw (h, rest) refl

-- passes each event of a schedule
where_good : (test : Event → Bool) (b : Bool) (n : ℕ) (later : ParsedLines) → list_all test later.events ≡ true
    → list_all test (if b then record { events = []; bad = Some n } else later).events ≡ true
where_good test true n later h = refl
where_good test false n later h = h

all_good : (c : Cluster) (test : Event → Bool) → ((line : List ℕ) → IfOk (line_event c line) (λ o. IfSome o (λ e. test e ≡ true)))
    → (n : ℕ) (lines : List (List ℕ)) → list_all test (spelled_from c n lines).events ≡ true
all_good c test each n [] = refl
all_good c test each n (line ∷ lines) =
    where_good test (nat_lt 65535 n) n (with_line n (line_event c line) (spelled_from c (n + 1) lines))
    (with_good test n (line_event c line) (spelled_from c (n + 1) lines) (each line) (all_good c test each (n + 1) lines))

-- a part of what is true of a line's event
weaker : (c : Cluster) (test : Event → Bool) (r : Result (Option Event) LineFault) → ((e : Event) → IsGood c e → test e ≡ true)
    → IfOk r (IsGoodLine c) → IfOk r (λ o. IfSome o (λ e. test e ≡ true))
weaker c test (Err fault) part h = tt
weaker c test (Ok None) part h = tt
weaker c test (Ok (Some e)) part h = part e h

pub schedule_is_good : (c : Cluster) (test : Event → Bool) → ((e : Event) → IsGood c e → test e ≡ true) → (bytes : List ℕ)
    → list_all test (schedule_of c bytes).events ≡ true
unfolding schedule_of
schedule_is_good c test part bytes = all_good c test (λ line. weaker c test (line_event c line) part (line_ok c line)) 1 (lines_of bytes)
