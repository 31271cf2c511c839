-- An answer reports no more values than some replica kept.
use Rattle.cx_inv_run.proofs.Common.{◌≡◌, ◌⊎◌, ℕ, ◌+◌, ◌-◌, ◌≤◌, true, false, ◌&&◌, not, List, [], ◌∷◌, ◌++◌, map, filter, length, inl, inr}
use Rattle.cx_inv_run.proofs.Common.{ap, sym, subst, refl, arith, ◌==◌, ◌%◌, nat_lt, nat_le, slice_get, Option, None, Some, list_any}
use Rattle.cx_inv_run.proofs.Common.{cases_Bool, length-append, same_Some, Cluster, Answered, Command, Value, Event, RoleId, commands_of}
use Rattle.cx_inv_run.proofs.Common.{below, ready_values, comes_before, floor_of, is_answer_of, is_done, noted_for, with_note, role}
use Rattle.cx_inv_run.proofs.Common.{same_role, Letter, letter, Input, KeptRecord, Record, Msg, Deferred, acceptor_rules, leader_rules}
use Rattle.cx_inv_run.proofs.Common.{matchmaker_rules, Member, replacer_rules, names, Outcome, either_way, reader_rules, make_token, IsTied}
use Rattle.cx_inv_run.proofs.Common.{ReplicaDurable, ReplicaVolatile, Machine, Executed, held, new_machine, execute_noted, execute}
use Rattle.cx_inv_run.proofs.Common.{execute_all, execute_value, machine_from, machine_of, results_at, results_from, read_answer_to}
use Rattle.cx_inv_run.proofs.Common.{read_answers, apply, fetched_by, fetch_found, read_row, held_to, fetch_to, replica_rules}
use Rattle.cx_inv_run.proofs.Common.{replica_takes, replica_tick, replica_row, same_read, request, answer_to, unbatcher_row, run, values_in}
use Rattle.cx_inv_run.proofs.Common.{Lands, Laws, State, Given, entry_by, snap_by, with_record, durable_of, log_in, HoldsIn, Ties}
use Rattle.cx_inv_run.proofs.Common.{log_other, log_own, log_snap, same_role-true, Member-both, Member-filter, Member-map, Member-one}
use Rattle.cx_inv_run.proofs.Common.{batcher_kinds, proxy_kinds, acceptor_kinds, matchmaker_kinds, reader_kinds, leader_kinds}
use Rattle.cx_inv_run.proofs.Common.{replacer_kinds, batcher_sends, leader_sends, proxy_sends, sends_only, along, run_keeps, all_allowed}
use Rattle.cx_inv_run.proofs.Common.{ties_hold, held_is}
use Rattle.cx_base.specs.declared.role.Kind.TheVariants as kind
use Rattle.cx_base.specs.Noted.{is_answer_done, still_noted}
use Rattle.cx_letter.specs.declared.input.Input.TheVariants as input
use Rattle.cx_letter.specs.declared.input.Written.TheVariants as written
use Rattle.cx_letter.specs.declared.kept.Record.TheVariants as kept
use Rattle.cx_letter.specs.declared.message.Msg.TheVariants as msg
use Rattle.cx_model.specs.Replica.{acting}
use Rattle.cx_model.specs.Unbatcher.{unbatcher_takes}
use Rattle.cx_inv_run.proofs.Opening.{by_order, offers_say}
use Rattle.cx_inv_run.proofs.Sends.{acceptor_sends, matchmaker_sends, reader_sends}
use Rattle.cx_inv_read.specs.Reads.{IsWithin, TellsWithin, Within}
use Rattle.cx_inv_read.proofs.Requests.{requested}
use Rattle.cx_inv_read.proofs.Rows.{Each, replacer_sends}
use Rattle.cx_inv_read.proofs.Says.{told_lands}

-- a replica's values only grow

log_longer : (me : RoleId) (r : Record) (history : List KeptRecord) (p : ℕ)
    → length (log_in history p) ≤ length (log_in (entry_by me r ∷ history) p)
log_longer me r history p = go (cases_Bool (same_role (role kind.Replica p) me))
  where
    go : (same_role (role kind.Replica p) me ≡ true) ⊎ (same_role (role kind.Replica p) me ≡ false)
        → length (log_in history p) ≤ length (log_in (entry_by me r ∷ history) p)
    go (inl t) =
        subst (λ a. length (log_in history p) ≤ length (log_in (entry_by a r ∷ history) p)) (same_role-true (role kind.Replica p) me t)
        (omega (arith, ap length (log_own p r history), length-append (log_in history p) (values_in (written.Record r))))
    go (inr f) = omega (arith, ap length (log_other me p r history f))

-- so what is said by them stays so
module _ (history longer : List KeptRecord) (more : (p : ℕ) → length (log_in history p) ≤ length (log_in longer p)) where
  still_within : (n : ℕ) → IsWithin history n → IsWithin longer n
  still_within n h = let l = more h.0 in let k = h.1 in (h.0, omega arith)

  still_tells : (m : Msg) → TellsWithin history m → TellsWithin longer m
  still_tells (msg.Results s answers) h = λ a m. still_within a.at (h a m)
  still_tells (msg.Answer seq at reply) h = still_within at h
  still_tells (msg.ReadAnswer seq n found) h = still_within n h
  still_tells other h = tt

-- what executing answers and notes lies within the values executed

abbrev UpTo : ℕ → List Answered → Type 0
UpTo n answers = (a : Answered) → Member a answers → a.at ≤ n

noted_there : (client seq : ℕ) (notes : List Answered) (a : Answered) → noted_for client seq notes ≡ Some a → Member a notes
noted_there client seq [] a e = cc
noted_there client seq (x ∷ notes) a e = either_way (λ (o : Option Answered). o ≡ Some a → Member a (x ∷ notes)) (is_answer_of client seq x)
    (Some x) (noted_for client seq notes) (λ q. inl (sym (same_Some x a q))) (λ q. inr (noted_there client seq notes a q)) e

up_more : (n k : ℕ) (answers : List Answered) → n ≤ k → UpTo n answers → UpTo k answers
up_more n k answers l h a m = let p = h a m in omega arith

abbrev IsUpTo : ℕ → Executed → Type 0
IsUpTo n e = UpTo n e.machine.table.notes × UpTo n e.answers

-- what is still noted was noted
still_up : (n client floor : ℕ) (notes : List Answered) → UpTo n notes → UpTo n (still_noted client floor notes)
still_up n client floor notes h a k = h a (Member-filter (λ (x : Answered). not (is_answer_done client floor x)) a notes k).0

one_up : (at : ℕ) (one : Answered) → one.at ≡ at → UpTo at (one ∷ [])
one_up at one p a k = elim k [ inl e ↦ (let q : a.at ≡ one.at = ap (λ (x : Answered). x.at) e in omega arith) | inr q ↦ absurd q ]

-- an answer more is noted
note_up : (n : ℕ) (a : Answered) (notes : List Answered) → UpTo n notes → a.at ≤ n → UpTo n (with_note a notes)
note_up n a [] h l b (inl e) = subst (λ (x : Answered). x.at ≤ n) (sym e) l
note_up n a [] h l b (inr m) = absurd m
note_up n a (x ∷ notes) h l b m =
    either_way (λ (list : List Answered). Member b list → b.at ≤ n) (comes_before a x) (a ∷ x ∷ notes) (x ∷ with_note a notes)
    (λ k. elim k [ inl e ↦ subst (λ (y : Answered). y.at ≤ n) (sym e) l | inr j ↦ h b j ])
    (λ k. elim k [ inl e ↦ h b (inl e) | inr j ↦ note_up n a notes (λ y i. h y (inr i)) l b j ]) m

acting_up : (at : ℕ) (m : Machine) (c : Command) → UpTo at m.table.notes → IsUpTo at (acting at m c)
acting_up at m c h = (
  still_up at c.client c.floor _ (note_up at _ m.table.notes h (omega arith)),
  one_up at _ refl,
)

noted_up : (at : ℕ) (m : Machine) (c : Command) (o : Option Answered) → noted_for c.client c.seq m.table.notes ≡ o → UpTo at m.table.notes
    → IsUpTo at (execute_noted at m c o)
noted_up at m c None e h = acting_up at m c h
noted_up at m c (Some last) e h = (
  still_up at c.client c.floor m.table.notes h,
  λ a k. elim k [
    | inl q ↦ h a (subst (λ x. Member x m.table.notes) (sym q) (noted_there c.client c.seq m.table.notes last e))
    | inr q ↦ absurd q
  ],
)

behind_up : (at : ℕ) (m : Machine) (c : Command) → UpTo at m.table.notes → IsUpTo at (execute at m c)
behind_up at m c h = either_way (IsUpTo at) (is_done c.seq (floor_of c.client m.table.floors))
    _ _ (still_up at c.client c.floor m.table.notes h, λ a k. absurd k) (noted_up at m c (noted_for c.client c.seq m.table.notes) refl h)

all_up : (at : ℕ) (m : Machine) (cs : List Command) → UpTo at m.table.notes → IsUpTo at (execute_all at m cs)
all_up at m [] h = (h, λ a k. absurd k)
all_up at m (c ∷ cs) h =
    let one = behind_up at m c h in
    let rest = all_up at (execute at m c).machine cs one.0 in (
      rest.0,
      Member-both (λ (a : Answered). a.at ≤ at) (execute at m c).answers (execute_all at (execute at m c).machine cs).answers one.1 rest.1,
    )

value_up : (slot : ℕ) (m : Machine) (v : Value) → UpTo slot m.table.notes → IsUpTo (slot + 1) (execute_value slot m v)
value_up slot m v h = all_up (slot + 1) m (commands_of v) (up_more slot (slot + 1) m.table.notes (omega arith) h)

machine_up : (vs : List Value) (slot : ℕ) (m : Machine) → UpTo slot m.table.notes
    → UpTo (slot + length vs) (machine_from slot m vs).table.notes
machine_up [] slot m h = up_more slot (slot + 0) m.table.notes (omega arith) h
machine_up (v ∷ vs) slot m h =
    let rest = machine_up vs (slot + 1) (execute_value slot m v).machine (value_up slot m v h).0 in
    λ a k. let p = rest a k in omega arith

log_up : (log : List Value) → UpTo (length log) (machine_of log).table.notes
log_up log = let h = machine_up log 0 new_machine (λ a k. absurd k) in λ a k. let p = h a k in omega arith

results_up : (P : Letter → Type 0) (c : Cluster) (me : RoleId) (n : ℕ)
    → ((to : RoleId) (slot : ℕ) (answers : List Answered) → UpTo n answers → P (letter me to (msg.Results slot answers)))
    → (vs : List Value) (slot : ℕ) (m : Machine) → slot + length vs ≤ n → UpTo slot m.table.notes → Each P (results_from c me slot m vs)
results_up P c me n says [] slot m l h = λ d k. absurd k
results_up P c me n says (v ∷ vs) slot m l h =
    let one = value_up slot m v h in
    Member-both P (results_at c me slot (execute_value slot m v).answers) (results_from c me (slot + 1) (execute_value slot m v).machine vs)
    (either_way (Each P) ((slot % c.replicas == me.index) && nat_lt 0 (length (execute_value slot m v).answers)) _ _
    (Member-one P _ (says _ slot (execute_value slot m v).answers (up_more (slot + 1) n (execute_value slot m v).answers (omega arith)
    one.1))) (λ d k. absurd k)) (results_up P c me n says vs (slot + 1) (execute_value slot m v).machine (omega arith) one.0)

-- the rows of each role

abbrev Says : List KeptRecord → Letter → Type 0
Says history d = TellsWithin history d.msg

-- whatever record is kept, a row's datagrams say what is so by then
abbrev Good : {V : Type 0} → List KeptRecord → RoleId → Outcome V → Type 0
Good history me o = Each (Says (with_record me o.kept history)) o.sends

-- a replica, whose durable part is tied to all values that it kept
module _ (c : Cluster) (history : List KeptRecord) (p : ℕ)
    (tied : IsTied (durable_of replica_rules (role kind.Replica p) history) (log_in history p)) where
  abbrev self : RoleId
  self = role kind.Replica p

  abbrev d : ReplicaDurable
  d = durable_of replica_rules (role kind.Replica p) history

  abbrev log : List Value
  log = log_in history p

  count : held d ≡ length log
  count = held_is d log tied

  kept_within : (values : List Value) (n : ℕ) → n ≤ length (log ++ values) → IsWithin (entry_by self (kept.Log values) ∷ history) n
  kept_within values n l = (p, subst (λ x. n ≤ length x) (sym (log_own p (kept.Log values) history)) l)

  applied : (v : ReplicaVolatile) (values : List Value) → Good history self (apply c self d v values)
  applied v values =
      let n = held d + length values in
      let after = machine_from (held d) d.machine values in
      let says = Says (entry_by self (kept.Log values) ∷ history) in
      let all : n ≡ length (log ++ values) = omega (arith, count, length-append log values) in
      let noted : UpTo (held d) d.machine.table.notes = subst (λ k. UpTo k d.machine.table.notes) (sym count)
      (subst (λ (m : Machine). UpTo (length log) m.table.notes) (sym tied.machine) (log_up log)) in
      Member-both says (results_from c self (held d) d.machine values) (read_answers self n after v.deferred)
      (results_up says c self n (λ to slot answers h a k. kept_within values a.at (let l = h a k in omega (arith, all, l))) values (held d)
      d.machine (omega arith) noted)
      (λ x k. let r = Member-map (read_answer_to self n after) x (filter (λ (r : Deferred). nat_le r.mark n) v.deferred) k in
      subst says (sym r.2) (kept_within values n (omega (arith, all))))

  fetched : (v : ReplicaVolatile) (from : RoleId) (s : ℕ) (o : Option Value) → Good history self (fetch_found self v from s o)
  fetched v from s None = λ x k. absurd k
  fetched v from s (Some value) = Member-one (Says history) _ tt

  read_took : (v : ReplicaVolatile) (r : Deferred) → Good history self (read_row self d v r)
  read_took v r =
      either_way (Good history self) (nat_le r.mark (held d)) _ _ (Member-one (Says history) _ (p, omega (arith, count)))
      (either_way (Good history self) (list_any (λ (other : Deferred). same_read r.token other.token) v.deferred) _ _ (λ x k. absurd k)
      (either_way (Good history self) (nat_le 64 (length v.deferred)) _ _ (λ x k. absurd k) (λ x k. absurd k)))

  replica_took : (v : ReplicaVolatile) (from : RoleId) (m : Msg) → Good history self (replica_takes c self d v from m)
  replica_took v from (msg.Chosen s value) =
      either_way (Good history self) (nat_lt s (held d)) _ _ (λ x k. absurd k)
      (either_way (Good history self) (nat_le (held d + 32) s) _ _ (λ x k. absurd k)
      (either_way (Good history self) (nat_lt (held d) s) _ _ (λ x k. absurd k) (applied v (ready_values (held d) v.early value))))
  replica_took v from (msg.Read t n key) = read_took v (record { token = t; mark = n; key = key })
  replica_took v from (msg.SessRead seq n key) = read_took v (record { token = make_token from.index seq; mark = n; key = key })
  replica_took v from (msg.Fetch s) =
      let asked = fetched_by c self v from s in
      either_way (Good history self) (nat_lt s d.first) _ _ (λ x k. absurd k) (fetched asked from s (slice_get d.log (s - d.first)))
  replica_took v from other = λ x k. absurd k

  ticked : (v : ReplicaVolatile) → Good history self (replica_tick c self d v)
  ticked v =
      Member-both (Says history) (map (held_to self (held d)) (below c.leaders)) (fetch_to c self (held d))
      (λ x k. let r = Member-map (held_to self (held d)) x (below c.leaders) k in subst (Says history) (sym r.2) tt)
      (either_way (Each (Says history)) (nat_lt 1 c.replicas) _ _ (Member-one (Says history) _ tt) (λ x k. absurd k))

  replica_good : (v : ReplicaVolatile) (i : Input) → Good history self (replica_row c self d v i)
  replica_good v (input.Take l) =
      either_way (Good history self) (same_role l.to self && names c l) _ _ (replica_took v l.from l.msg) (λ x k. absurd k)
  replica_good v input.Tick = ticked v
  replica_good v (input.Order order) =
      by_order (λ o. Good history self o) c self d v (λ x k. absurd k) (λ x k. absurd k)
      (λ to s n. offers_say (Says history) self d (λ to s value e. tt) to s n) order

module _ (c : Cluster) (history : List KeptRecord) (me : RoleId) where
  unbatcher_took : (m : Msg) → TellsWithin history m → Good history me (unbatcher_takes me m)
  unbatcher_took (msg.Results s answers) says =
      λ x k. let r = Member-map (answer_to me) x answers k in subst (Says history) (sym r.2) (says r.0 r.1)
  unbatcher_took other says = λ x k. absurd k

  unbatcher_good : (sent : List Letter) → Each (Says history) sent → (i : Input) → Given sent me i
      → Good history me (unbatcher_row c me tt tt i)
  unbatcher_good sent told (input.Take l) given =
      either_way (Good history me) (same_role l.to me && names c l) _ _ (unbatcher_took l.msg (told l given.1)) (λ x k. absurd k)
  unbatcher_good sent told input.Tick given = λ x k. absurd k
  unbatcher_good sent told (input.Order order) given = λ x k. absurd k

lands : {V : Type 0} (history : List KeptRecord) (sent : List Letter) (states : RoleId → State) → Within history sent states
    → (me : RoleId) (make : V → State) (o : Outcome V) → Good history me o → Lands Within history sent states me make o
lands history sent states told me make o good =
    told_lands Says (λ a r h d x. still_tells h (entry_by a r ∷ h) (log_longer a r h) d.msg x) history sent states told me make o good

within_laws : (c : Cluster) → Laws c (λ n e. Unit {0}) Ties Within
within_laws c = record {
  same = λ history sent states others e h. h;
  start = λ states h d m. absurd m;
  stop = λ history sent states me h. h;
  wake = λ history sent states me h down. h;
  ask = λ history sent states n e allowed known h.
      Member-both (Says history) sent (request n e) h
      (requested (Says history) (λ from to command. tt) (λ from to seq replica key. tt) (λ from to seq k key. tt) n e);
  batcher = λ history sent states b v i known h up given.
      lands history sent states h (role kind.Batcher b) _ _ (sends_only _ (role kind.Batcher b)
      _ (batcher_kinds c (role kind.Batcher b) refl v i) (λ to. batcher_sends (TellsWithin _) (λ commands. tt)));
  leader = λ history sent states l v i known h up given.
      lands history sent states h (role kind.Leader l) _ _ (sends_only _ (role kind.Leader l)
      _ (leader_kinds c (role kind.Leader l) refl (durable_of leader_rules (role kind.Leader l) history) v i)
      (λ to. leader_sends (TellsWithin _) (λ j. tt) (λ j g. tt) (λ j. tt) (λ j g s cw u. tt) (λ j cw. tt) (λ j g. tt)));
  proxy = λ history sent states p v i known h up given.
      lands history sent states h (role kind.Proxy p) _ _ (sends_only _ (role kind.Proxy p) _ (proxy_kinds c (role kind.Proxy p) refl v i)
      (λ to. proxy_sends (TellsWithin _) (λ j s cw u. tt) (λ s u. tt) (λ j s. tt)));
  acceptor = λ history sent states a i known h up given.
      lands history sent states h (role kind.Acceptor a) _ _ (sends_only _ (role kind.Acceptor a)
      _ (acceptor_kinds c (role kind.Acceptor a) refl (durable_of acceptor_rules (role kind.Acceptor a) history) i)
      (λ to. acceptor_sends (TellsWithin _) (λ j cw votes. tt) (λ j promise. tt) (λ j s. tt) (λ j cw. tt) (λ t w n. tt)));
  matchmaker = λ history sent states m i known h up given.
      lands history sent states h (role kind.Matchmaker m) _ _ (sends_only _ (role kind.Matchmaker m)
      _ (matchmaker_kinds c (role kind.Matchmaker m) refl (durable_of matchmaker_rules (role kind.Matchmaker m) history) i)
      (λ to. matchmaker_sends (TellsWithin _) (λ j w entries. tt) (λ j reason other. tt) (λ j. tt) (λ t w entries. tt)
      (λ b w entries a s. tt) (λ b other. tt) (λ b. tt) (λ s. tt)));
  replica = λ history sent states p v i known h up given.
      lands history sent states h (role kind.Replica p) _ _ (replica_good c history p (known.tied p) v i);
  snap = λ history sent states p v first known h up e d m.
      let me = role kind.Replica p in
      still_tells history (snap_by me first ∷ history) (λ q. omega (arith, ap length (log_snap me q first history))) d.msg (h d m);
  acceptor_anew = λ history sent states p first known h up e d m.
      let me = role kind.Acceptor p in
      still_tells history (snap_by me first ∷ history) (λ q. omega (arith, ap length (log_snap me q first history))) d.msg (h d m);
  reader_anew = λ history sent states p first v known h up e d m.
      let me = role kind.Reader p in
      still_tells history (snap_by me first ∷ history) (λ q. omega (arith, ap length (log_snap me q first history))) d.msg (h d m);
  unbatcher = λ history sent states u i known h up given.
      lands history sent states h (role kind.Unbatcher u) _ _ (unbatcher_good c history (role kind.Unbatcher u) sent h i given);
  reader = λ history sent states r v i known h up given.
      lands history sent states h (role kind.Reader r) _ _
      (sends_only _ (role kind.Reader r) _ (reader_kinds c (role kind.Reader r) refl (durable_of reader_rules (role kind.Reader r) history)
      v i) (λ to. reader_sends (TellsWithin _) (λ t. tt) (λ t w. tt) (λ t n key. tt)));
  replacer = λ history sent states x v i known h up given.
      lands history sent states h (role kind.Replacer x) _ _ (sends_only _ (role kind.Replacer x)
      _ (replacer_kinds c (role kind.Replacer x) refl (durable_of replacer_rules (role kind.Replacer x) history) v i)
      (λ to. replacer_sends (TellsWithin _) (λ b. tt) (λ b s. tt) (λ s w es. tt) (λ s. tt)));
}

pub within_holds : (c : Cluster) (es : List Event) → HoldsIn Within (run c es)
within_holds c es =
    run_keeps c (λ n e. Unit {0}) Ties Within (within_laws c) es (along c Ties (ties_hold c) [] es) (all_allowed (run c []) es)
