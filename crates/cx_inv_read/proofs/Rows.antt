-- What the rows of the roles that take part in reads send: what is true of their other datagrams, and of each step of a read, is true of
-- all.
use Rattle.cx_inv_run.proofs.Common.{◌≡◌, ℕ, ◌+◌, ◌-◌, ◌≤◌, true, false, not, ◌&&◌, max, map, filter, ◌⊎◌, List, [], ◌∷◌, ◌++◌, length}
use Rattle.cx_inv_run.proofs.Common.{Option, None, Some, inl, inr, sym, subst, refl, ◌==◌, ◌%◌, nat_lt, nat_le, bytes_eq, slice_get}
use Rattle.cx_inv_run.proofs.Common.{if◌then◌else◌, list_any, leb-true, Cluster, Answered, Value, RoleId, Round, Why, Sent, is_in, below}
use Rattle.cx_inv_run.proofs.Common.{role, same_role, names, Input, ready_values, is_above, is_before, same_round, Asking, Entry, Letter}
use Rattle.cx_inv_run.proofs.Common.{letter, Msg, Deferred, AcceptorDurable, is_of_round, vote_at, acceptor_takes, is_counted}
use Rattle.cx_inv_run.proofs.Common.{greatest_watermark, live_entries, is_member_of, members_of, rows_whole, MatchmakerDurable, at_work}
use Rattle.cx_inv_run.proofs.Common.{boot_in, garbage_a_row, has_round, in_set, is_booted, is_stopped, match_a_row, match_read_row}
use Rattle.cx_inv_run.proofs.Common.{matchmaker_takes, next_a_row, set_of, stop_a_row, Member, Outcome, only_word, either_way, by_test}
use Rattle.cx_inv_run.proofs.Common.{Asked, ReaderDurable, ReaderVolatile, acked_by, ask_acceptors, ask_matchmakers, ask_replicas}
use Rattle.cx_inv_run.proofs.Common.{asked_anew, asked_for, begin, begin_if, greatest_mark, has_acked, is_among, is_first, is_matched}
use Rattle.cx_inv_run.proofs.Common.{is_of_batch, last_turn, match_ack_row, match_read_to, matched, pre_read_ack_row, pre_read_to, read_to}
use Rattle.cx_inv_run.proofs.Common.{reader_row, reader_takes, reader_tick, request_over, request_row, make_token, asking_of}
use Rattle.cx_inv_run.proofs.Common.{ReplicaDurable, ReplicaVolatile, Machine, held, execute_value, machine_from, results_at, results_from}
use Rattle.cx_inv_run.proofs.Common.{read_answer_to, read_answers, fetched_by, fetch_found, read_row, replica_takes, held_to, fetch_to}
use Rattle.cx_inv_run.proofs.Common.{replica_tick, same_read, IsSender, Member-both, Member-one, Member-map, Member-filter}
use Rattle.cx_base.specs.declared.event.Order.{Order as OrderOf}
use Rattle.cx_base.specs.declared.role.Kind.TheVariants as kind
use Rattle.cx_base.specs.declared.why.Why.TheVariants.{Stopped}
use Rattle.cx_letter.specs.declared.input.Input.TheVariants as input
use Rattle.cx_letter.specs.declared.message.Msg.TheVariants as msg
use Rattle.cx_model.specs.Reader.{Batch, finish}
use Rattle.cx_model.specs.Matchmaker.{has_place}
use Rattle.cx_model.specs.Replica.{replica_orders}
use Rattle.cx_inv_run.proofs.Opening.{by_order, offers_say}

-- a message that is of no read
abbrev pub IsPlain : Msg → Type 0
IsPlain (msg.ReadReq seq replica key) = ⊥
IsPlain (msg.MatchRead t) = ⊥
IsPlain (msg.MatchReadAck t w entries) = ⊥
IsPlain (msg.PreRead t w) = ⊥
IsPlain (msg.PreReadAck t w n) = ⊥
IsPlain (msg.Read t n key) = ⊥
IsPlain (msg.ReadAnswer seq n found) = ⊥
IsPlain (msg.SessRead seq n key) = ⊥
IsPlain other = Unit {0}

-- what is true of all datagrams of a list
abbrev pub Each : (Letter → Type 0) → List Letter → Type 0
Each P ds = (d : Letter) → Member d ds → P d

none : (P : Letter → Type 0) → Each P []
none P d m = absurd m

pub each_mapped : {X : Type 0} (P : Letter → Type 0) (make : X → Letter) (xs : List X) → ((x : X) → Member x xs → P (make x))
    → Each P (map make xs)
each_mapped P make xs h d m = let r = Member-map make d xs m in subst P (sym r.2) (h r.0 r.1)

-- an acceptor

module _ (P : Letter → Type 0) (me : RoleId) (plain : (to : RoleId) (m : Msg) → IsPlain m → P (letter me to m)) (d : AcceptorDurable)
    (from : RoleId) where
  abbrev AcceptorTells : Outcome (Unit {0}) → Type 0
  AcceptorTells o = Each P o.sends

  acceptor_one : (to : RoleId) (m : Msg) → IsPlain m → Each P (letter me to m ∷ [])
  acceptor_one to m h = Member-one P (letter me to m) (plain to m h)

  pub acceptor_tells : (m : Msg) → ((u : Asking) (w : Round) → m ≡ msg.PreRead u w
      → P (letter me from (msg.PreReadAck u w (max d.cw d.top)))) → AcceptorTells (acceptor_takes me d from m)
  acceptor_tells (msg.Phase1A i) ack =
      either_way AcceptorTells (is_before i d.promise) _ _ (acceptor_one _ _ tt)
      (either_way AcceptorTells (same_round i d.promise) _ _ (acceptor_one _ _ tt) (acceptor_one _ _ tt))
  acceptor_tells (msg.Phase2A i s cw v) ack =
      either_way AcceptorTells (is_before i d.promise) _ _ (acceptor_one _ _ tt)
      (either_way AcceptorTells (nat_lt s d.cw) _ _ (none P)
      (either_way AcceptorTells (is_of_round i (vote_at s d.votes)) _ _ (acceptor_one _ _ tt) (acceptor_one _ _ tt)))
  acceptor_tells (msg.Inform i cw) ack =
      either_way AcceptorTells (is_before i d.promise) _ _ (acceptor_one _ _ tt)
      (either_way AcceptorTells (same_round i d.promise && nat_le cw d.cw) _ _ (acceptor_one _ _ tt) (acceptor_one _ _ tt))
  acceptor_tells (msg.PreRead u w) ack = Member-one P _ (ack u w refl)
  acceptor_tells other ack = none P

-- a matchmaker

module _ (P : Letter → Type 0) (c : Cluster) (me : RoleId) (plain : (to : RoleId) (m : Msg) → IsPlain m → P (letter me to m))
    (d : MatchmakerDurable) (from : RoleId) where
  abbrev MatchmakerTells : Outcome (Unit {0}) → Type 0
  MatchmakerTells o = Each P o.sends

  matchmaker_one : (to : RoleId) (m : Msg) → IsPlain m → Each P (letter me to m ∷ [])
  matchmaker_one to m h = Member-one P (letter me to m) (plain to m h)

  in_set_tells : (o : Outcome (Unit {0})) → (is_booted c me d ≡ true → MatchmakerTells o) → MatchmakerTells (in_set c me d o)
  in_set_tells o h = by_test MatchmakerTells (is_booted c me d) _ _ h (λ f. none P)

  at_work_tells : (o : Outcome (Unit {0})) → (is_booted c me d ≡ true → is_stopped d ≡ false → MatchmakerTells o)
      → MatchmakerTells (at_work c me d o)
  at_work_tells o h = in_set_tells (if is_stopped d then only_word Stopped tt else o)
      (λ b. by_test MatchmakerTells (is_stopped d) _ _ (λ t. none P) (λ f. h b f))

  boot_tells : (s : List ℕ) (w : Round) (es : List Entry) (o : Option (List ℕ)) → MatchmakerTells (boot_in me from s w es o)
  boot_tells s w es None = matchmaker_one _ _ tt
  boot_tells s w es (Some t) = either_way MatchmakerTells (bytes_eq s t) _ _ (matchmaker_one _ _ tt) (none P)

  pub matchmaker_tells : (m : Msg) → ((u : Asking) → m ≡ msg.MatchRead u → is_booted c me d ≡ true → is_stopped d ≡ false
      → P (letter me from (msg.MatchReadAck u d.watermark d.entries))) → MatchmakerTells (matchmaker_takes c me d from m)
  matchmaker_tells (msg.MatchA i g) ack =
      at_work_tells (match_a_row c me d from i g)
      (λ b f. either_way MatchmakerTells (is_before i d.watermark) _ _ (matchmaker_one _ _ tt)
      (either_way MatchmakerTells (list_any (λ (e : Entry). is_before i e.round) d.entries) _ _ (matchmaker_one _ _ tt)
      (either_way MatchmakerTells (has_round i d.entries) _ _ (matchmaker_one _ _ tt)
      (either_way MatchmakerTells (not (has_place c g d.entries)) _ _ (matchmaker_one _ _ tt) (matchmaker_one _ _ tt)))))
  matchmaker_tells (msg.GarbageA i g) ack =
      at_work_tells (garbage_a_row me d from i g) (λ b f. either_way MatchmakerTells (is_before d.watermark i) _ _ (matchmaker_one _ _ tt)
      (matchmaker_one _ _ tt))
  matchmaker_tells (msg.MatchRead u) ack = at_work_tells (match_read_row me d from u) (λ b f. Member-one P _ (ack u refl b f))
  matchmaker_tells (msg.StopA b) ack =
      in_set_tells (stop_a_row me d from b)
      (λ y. either_way MatchmakerTells (is_before b d.ballot) _ _ (matchmaker_one _ _ tt)
      (either_way MatchmakerTells (same_round b d.ballot) _ _ (matchmaker_one _ _ tt) (matchmaker_one _ _ tt)))
  matchmaker_tells (msg.NextA b s) ack =
      in_set_tells (next_a_row me d from b s)
      (λ y. either_way MatchmakerTells (is_before b d.ballot) _ _ (matchmaker_one _ _ tt)
      (either_way MatchmakerTells (same_round b d.accepted) _ _ (matchmaker_one _ _ tt) (matchmaker_one _ _ tt)))
  matchmaker_tells (msg.BootA s w es) ack =
      either_way MatchmakerTells (is_in me.index s) _ _ (boot_tells s w es (set_of c me d.booted)) (none P)
  matchmaker_tells other ack = none P

-- a replica

-- the question to a replica, by a reader or by the client itself
abbrev pub IsQuestion : RoleId → Msg → Deferred → Type 0
IsQuestion from m r = (m ≡ msg.Read r.token r.mark r.key) ⊎ ((from.index ≡ r.token.client) × (m ≡ msg.SessRead r.token.seq r.mark r.key))

module _ (P : Letter → Type 0) (c : Cluster) (me : RoleId) (plain : (to : RoleId) (m : Msg) → IsPlain m → P (letter me to m)) where
  abbrev ReplicaTells : Outcome ReplicaVolatile → Type 0
  ReplicaTells o = Each P o.sends

  replica_one : (to : RoleId) (m : Msg) → IsPlain m → Each P (letter me to m ∷ [])
  replica_one to m h = Member-one P (letter me to m) (plain to m h)

  results_one : (slot : ℕ) (answers : List Answered) → Each P (results_at c me slot answers)
  results_one slot answers =
      either_way (Each P) ((slot % c.replicas == me.index) && nat_lt 0 (length answers)) _ _ (replica_one _ _ tt) (none P)

  results_all : (slot : ℕ) (machine : Machine) (values : List Value) → Each P (results_from c me slot machine values)
  results_all slot machine [] = none P
  results_all slot machine (v ∷ values) =
      let e = execute_value slot machine v in
      Member-both P (results_at c me slot e.answers) (results_from c me (slot + 1) e.machine values) (results_one slot e.answers)
      (results_all (slot + 1) e.machine values)

  answers_all : (n : ℕ) (machine : Machine) (rs : List Deferred)
      → ((r : Deferred) → Member r rs → r.mark ≤ n → P (read_answer_to me n machine r)) → Each P (read_answers me n machine rs)
  answers_all n machine rs h =
      each_mapped P (read_answer_to me n machine) (filter (λ (r : Deferred). nat_le r.mark n) rs)
      (λ r m. let q = Member-filter (λ (r : Deferred). nat_le r.mark n) r rs m in h r q.0 (leb-true r.mark n q.1))

  fetched : (v : ReplicaVolatile) (from : RoleId) (s : ℕ) (o : Option Value) → ReplicaTells (fetch_found me v from s o)
  fetched v from s None = none P
  fetched v from s (Some value) = replica_one _ _ tt

  read_tells : (d : ReplicaDurable) (v : ReplicaVolatile) (r : Deferred) → (r.mark ≤ held d → P (read_answer_to me (held d) d.machine r))
      → ReplicaTells (read_row me d v r)
  read_tells d v r now = by_test ReplicaTells (nat_le r.mark (held d))
      _ _ (λ t. Member-one P (read_answer_to me (held d) d.machine r) (now (leb-true r.mark (held d) t)))
      (λ f. either_way ReplicaTells (list_any (λ (other : Deferred). same_read r.token other.token) v.deferred) _ _ (none P)
      (either_way ReplicaTells (nat_le 64 (length v.deferred)) _ _ (none P) (none P)))

  pub replica_tells : (d : ReplicaDurable) (v : ReplicaVolatile) (from : RoleId)
      → ((n : ℕ) (machine : Machine) (r : Deferred) → Member r v.deferred → r.mark ≤ n → P (read_answer_to me n machine r))
      → (m : Msg) → ((r : Deferred) → IsQuestion from m r → r.mark ≤ held d → P (read_answer_to me (held d) d.machine r))
      → ReplicaTells (replica_takes c me d v from m)
  replica_tells d v from waiting (msg.Chosen s value) now =
      either_way ReplicaTells (nat_lt s (held d)) _ _ (none P)
      (either_way ReplicaTells (nat_le (held d + 32) s) _ _ (none P)
      (either_way ReplicaTells (nat_lt (held d) s) _ _ (none P)
      (let values = ready_values (held d) v.early value in
      let n = held d + length values in
      let after = machine_from (held d) d.machine values in
      Member-both P (results_from c me (held d) d.machine values) (read_answers me n after v.deferred)
      (results_all (held d) d.machine values) (answers_all n after v.deferred (waiting n after)))))
  replica_tells d v from waiting (msg.Read t n key) now =
      let r : Deferred = record { token = t; mark = n; key = key } in read_tells d v r (now r (inl refl))
  replica_tells d v from waiting (msg.SessRead seq n key) now =
      let r : Deferred = record { token = make_token from.index seq; mark = n; key = key } in read_tells d v r (now r (inr (refl, refl)))
  replica_tells d v from waiting (msg.Fetch s) now =
      let asked = fetched_by c me v from s in
      either_way ReplicaTells (nat_lt s d.first) _ _ (none P) (fetched asked from s (slice_get d.log (s - d.first)))
  replica_tells d v from waiting other now = none P

  pub replica_ticks : (d : ReplicaDurable) (v : ReplicaVolatile) → ReplicaTells (replica_tick c me d v)
  replica_ticks d v =
      Member-both P (map (held_to me (held d)) (below c.leaders)) (fetch_to c me (held d))
      (each_mapped P (held_to me (held d)) (below c.leaders) (λ l m. plain _ _ tt))
      (either_way (Each P) (nat_lt 1 c.replicas) _ _ (replica_one _ _ tt) (none P))

  pub replica_offers : (d : ReplicaDurable) (v : ReplicaVolatile) (o : OrderOf) → ReplicaTells (replica_orders c me d v o)
  replica_offers d v o = by_order ReplicaTells c me d v (none P) (none P) (offers_say P me d (λ to s value e. plain _ _ tt)) o

-- a reader

-- What is true of what a reader asks under its next turn and under its batch's, and of the reads of its batch, is true of all that it
-- sends.
module _ (P : Letter → Type 0) (c : Cluster) (me : RoleId) (d : ReaderDurable) (v : ReaderVolatile)
    (next : (m : ℕ) → P (match_read_to me (asking_of me (d.turn + 1)) m))
    (first : (b : Batch) → v.running ≡ Some b → (m : ℕ) → P (match_read_to me (asking_of me b.turn) m)) (second : (b : Batch)
    → v.running ≡ Some b → (w : Round) (a : ℕ) → P (letter me (role kind.Acceptor a) (msg.PreRead (asking_of me b.turn) w)))
    (last : (b : Batch) → v.running ≡ Some b → (r : Asked) → Member r b.reads → (n : ℕ) → P (read_to me n r)) where
  abbrev ReaderTells : Outcome ReaderVolatile → Type 0
  ReaderTells o = Each P o.sends

  begun : (w : Why) (ds : List Letter) (rs : List Asked) → Each P ds → ReaderTells (begin me d v w ds rs)
  begun w ds rs told = Member-both P ds (ask_matchmakers me v.set (d.turn + 1)) told
      (each_mapped P (match_read_to me (asking_of me (d.turn + 1))) v.set (λ m k. next m))

  begun_if : (w : Why) (rs : List Asked) → ReaderTells (begin_if me d v w rs)
  begun_if w rs = either_way ReaderTells (d.turn == last_turn) _ _ (none P) (begun w [] rs (none P))

  requested : (one : Asked) → ReaderTells (request_row me d v one)
  requested one = either_way ReaderTells (is_among one.read v.waiting) _ _ (none P) (over v.running)
    where
      over : (o : Option Batch) → ReaderTells (request_over me d v one o)
      over None = either_way ReaderTells (nat_le 64 (length v.waiting)) _ _ (none P) (begun_if _ _)
      over (Some b) =
          either_way ReaderTells (is_first one.read b.reads) _ _ (begun_if _ _) (either_way ReaderTells (is_among one.read b.reads)
          _ _ (none P) (either_way ReaderTells (nat_le 64 (length v.waiting + length b.reads)) _ _ (none P) (none P)))

  module _ (b : Batch) (is : v.running ≡ Some b) where
    finished : (next : Batch) → next.reads ≡ b.reads → (n : ℕ) → ReaderTells (finish me d v next n)
    finished next same n =
        let told : Each P (ask_replicas me next n) =
        each_mapped P (read_to me n) next.reads (λ r m. last b is r (subst (λ l. Member r l) same m) n) in
        either_way ReaderTells (nat_lt 0 (length v.waiting) && not (d.turn == last_turn))
        _ _ (begun Sent (ask_replicas me next n) v.waiting told) told

    matched_on : (next : Batch) → next.reads ≡ b.reads → next.turn ≡ b.turn → (es : List Entry) → ReaderTells (matched c me d v next es)
    matched_on next same turn [] = finished next same 0
    matched_on next same turn (e ∷ es) =
        each_mapped P (pre_read_to me next) (members_of c (e ∷ es))
        (λ a m. subst (λ n. P (letter me (role kind.Acceptor a) (msg.PreRead (asking_of me n) (greatest_watermark next.told)))) (sym turn)
        (second b is (greatest_watermark next.told) a))

  told : (from : RoleId) (u : Asking) (w : Round) (es : List Entry) (o : Option Batch) → v.running ≡ o
      → ReaderTells (match_ack_row c me d v from u w es o)
  told from u w es None is = none P
  told from u w es (Some b) is =
      let one : Batch = record b { told = b.told ++ record { matchmaker = from.index; watermark = w; entries = es } ∷ [] } in
      either_way ReaderTells (not (is_of_batch me b u && not (is_matched c b) && is_in from.index v.set)) _ _ (none P)
      (either_way ReaderTells (is_counted from.index b.told) _ _ (none P)
      (either_way ReaderTells (is_matched c one) _ _ (matched_on b is one refl refl (live_entries one.told)) (none P)))

  acked : (from : RoleId) (u : Asking) (w : Round) (n : ℕ) (o : Option Batch) → v.running ≡ o
      → ReaderTells (pre_read_ack_row c me d v from u w n o)
  acked from u w n None is = none P
  acked from u w n (Some b) is =
      let one : Batch = record b { acks = b.acks ++ record { acceptor = from.index; mark = n } ∷ [] } in
      either_way ReaderTells (not (is_of_batch me b u && is_matched c b && is_member_of (live_entries b.told) from.index)) _ _ (none P)
      (either_way ReaderTells (not (same_round w (greatest_watermark b.told))) _ _ (none P)
      (either_way ReaderTells (has_acked from.index b.acks) _ _ (none P) (either_way ReaderTells
      (rows_whole (live_entries one.told) (acked_by one.acks)) _ _ (finished b is one refl (greatest_mark one.acks)) (none P))))

  -- another set took over
  anew : (s : List ℕ) (o : Option Batch) → v.running ≡ o → ReaderTells (asked_anew c me (record v { set = s }) o)
  anew s None is = none P
  anew s (Some b) is =
      either_way ReaderTells (is_matched c b) _ _ (none P) (each_mapped P (match_read_to me (asking_of me b.turn)) s (λ m k. first b is m))

  took : (from : RoleId) (m : Msg) → ReaderTells (reader_takes c me d v from m)
  took from (msg.ReadReq seq replica key) = requested (asked_for (make_token from.index seq) replica key)
  took from (msg.MatchReadAck u w es) = told from u w es v.running refl
  took from (msg.PreReadAck u w n) = acked from u w n v.running refl
  took from (msg.Sets s) = either_way ReaderTells (is_above s v.set) _ _ (anew s v.running refl) (none P)
  took from other = none P

  ticked : (o : Option Batch) → v.running ≡ o → ReaderTells (reader_tick c me v o)
  ticked None is = none P
  ticked (Some b) is =
      either_way (Each P) (is_matched c b) (ask_acceptors c me b) (ask_matchmakers me v.set b.turn)
      (each_mapped P (pre_read_to me b) (members_of c (live_entries b.told)) (λ a m. second b is (greatest_watermark b.told) a))
      (each_mapped P (match_read_to me (asking_of me b.turn)) v.set (λ m k. first b is m))

  pub reader_tells : (i : Input) → Each P (reader_row c me d v i).sends
  reader_tells (input.Take l) = either_way ReaderTells (same_role l.to me && names c l) _ _ (took l.from l.msg) (none P)
  reader_tells input.Tick = ticked v.running refl
  reader_tells (input.Order order) = none P

-- a replacer

pub replacer_sends : (P : Msg → Type 0) → ((b : Round) → P (msg.StopA b)) → ((b : Round) (s : List ℕ) → P (msg.NextA b s))
    → ((s : List ℕ) (w : Round) (es : List Entry) → P (msg.BootA s w es))
    → ((s : List ℕ) → P (msg.Sets s)) → (m : Msg) → IsSender kind.Replacer m → P m
replacer_sends P stop_a next_a boot_a sets (msg.StopA b) s = stop_a b
replacer_sends P stop_a next_a boot_a sets (msg.NextA b t) s = next_a b t
replacer_sends P stop_a next_a boot_a sets (msg.BootA t w es) s = boot_a t w es
replacer_sends P stop_a next_a boot_a sets (msg.Sets t) s = sets t
replacer_sends P stop_a next_a boot_a sets (msg.Chosen t v) (inl e) = cc
replacer_sends P stop_a next_a boot_a sets (msg.Chosen t v) (inr e) = cc
replacer_sends P stop_a next_a boot_a sets other s = cc
