-- What is so of replicas' stores, in every run: how many slots a list holds, and that the replica before has what was forgotten.
use Rattle.std.proofs.lemmas.List.{reverse-reverse}
use Rattle.cx_model.specs.Prelude.{machine_ordered, IsOrdered, renewed_folds}
use Rattle.cx_inv_run.proofs.Common.{◌≡◌, ◌⊎◌, ℕ, ◌+◌, ◌-◌, ◌%◌, ◌==◌, ◌&&◌, ◌<◌, ◌≤◌, true, false, nat_lt, nat_le, min, max, map, drop}
use Rattle.cx_inv_run.proofs.Common.{List, [], ◌∷◌, ◌++◌, length, slice_get, Option, None, Some, refl, list_any, ap, sym, ◌∙◌, subst, inl}
use Rattle.cx_inv_run.proofs.Common.{inr, arith, length-append, reverse, eqb-true, reverse-append, Cluster, Floor, Pair, Value, Event, Kind}
use Rattle.cx_inv_run.proofs.Common.{RoleId, role, same_role, Letter, Input, KeptRecord, Written, Record, Msg, Deferred, acceptor_rules}
use Rattle.cx_inv_run.proofs.Common.{leader_rules, matchmaker_rules, list_own, list_other, Member, names, Outcome, by_test, either_way}
use Rattle.cx_inv_run.proofs.Common.{held_in, reader_rules, replacer_rules, IsTied, Machine, ReplicaDurable, ReplicaVolatile, before}
use Rattle.cx_inv_run.proofs.Common.{chosen_row, fetch_found, fetch_row, fetched_by, held, read_row, replica_after, replica_renewed}
use Rattle.cx_inv_run.proofs.Common.{replica_row, replica_rules, replica_takes, same_read, folded, list_after, list_of, log_of, run}
use Rattle.cx_inv_run.proofs.Common.{IsKeeper, IsKept, OfKind, Lands, Laws, State, Down, BatcherIn, LeaderIn, ProxyIn, ReplicaIn, ReaderIn}
use Rattle.cx_inv_run.proofs.Common.{ReplacerIn, plain, fresh_state, opened_state, set_state, entry_by, snap_by, with_record, durable_of}
use Rattle.cx_inv_run.proofs.Common.{log_in, Given, HoldsIn, Ties, by_role, durable_by_time, durable_else, durable_other, durable_own}
use Rattle.cx_inv_run.proofs.Common.{log_by_time, log_other, log_own, log_snap, set_running, acceptor_kinds, batcher_kinds}
use Rattle.cx_inv_run.proofs.Common.{matchmaker_kinds, proxy_kinds, reader_kinds, replica_kinds, unbatcher_kinds, leader_kinds}
use Rattle.cx_inv_run.proofs.Common.{replacer_kinds, always, ties_hold, held_is}
use Rattle.cx_base.specs.declared.role.Kind.TheVariants as kind
use Rattle.cx_base.specs.Noted.{Table}
use Rattle.cx_letter.specs.declared.input.Input.TheVariants as input
use Rattle.cx_letter.specs.declared.input.Written.TheVariants as written
use Rattle.cx_letter.specs.declared.kept.Record.TheVariants as kept
use Rattle.cx_letter.specs.declared.message.Msg.TheVariants as msg
use Rattle.cx_model.specs.Promises.{appended}
use Rattle.cx_model.specs.Replica.{notes_of, pieces, snap_limit}
use Rattle.cx_inv_run.specs.States.{Property}
use Rattle.cx_inv_run.proofs.Histories.{durable_none, durable_snap, log_none}
use Rattle.cx_inv_run.proofs.Opening.{by_order}
use Rattle.cx_inv_run.proofs.Sends.{keeps_only, replica_keeps}
use Rattle.cx_inv_run.proofs.TieLaws.{by_replica}
use Rattle.cx_inv_run.proofs.Tying.{snap_is}
use Rattle.cx_inv_held.specs.Held.{IsFetched, LowFacts, SaysLow, Stores, slots_held}
use Rattle.cx_inv_held.proofs.Grow.{Lengthens, lengthens}

-- how many slots a list holds

appended_both : (rs qs : List Record) → appended (rs ++ qs) ≡ appended rs + appended qs
appended_both [] qs = omega arith
appended_both (r ∷ rs) qs = omega (arith, appended_both rs qs)

held_more : (rs : List Record) (vs : List Value) → held_in (rs ++ kept.Log vs ∷ []) ≡ held_in rs + length vs
held_more [] vs = omega arith
held_more (kept.Base first n pairs clients ∷ rs) vs = omega (arith, appended_both rs (kept.Log vs ∷ []))
held_more (r ∷ rs) vs = omega (arith, appended_both (r ∷ rs) (kept.Log vs ∷ []))

no_pairs : (xs : List (List Pair)) → appended (map (λ ps. kept.Pairs ps) xs) ≡ 0
no_pairs [] = refl
no_pairs (x ∷ xs) = omega (arith, no_pairs xs)

no_notes : (t : Table) (fs : List Floor) → appended (map (notes_of t) fs) ≡ 0
no_notes t [] = refl
no_notes t (f ∷ fs) = omega (arith, no_notes t fs)

no_tail : (xs : List (List Value)) → appended (map (λ vs. kept.Tail vs) xs) ≡ 0
no_tail [] = refl
no_tail (x ∷ xs) = omega (arith, no_tail xs)

held_renewed : (d : ReplicaDurable) (first : ℕ) → held_in (replica_renewed d first) ≡ held d
held_renewed d first =
    let ps = map (λ x. kept.Pairs x) (pieces 255 d.machine.map) in
    let ns = map (notes_of d.machine.table) d.machine.table.floors in
    let ts = map (λ vs. kept.Tail vs) (pieces 32 (drop (first - d.first) d.log)) in
    omega (
      arith,
      appended_both (ps ++ ns) ts,
      appended_both ps ns,
      no_pairs (pieces 255 d.machine.map),
      no_notes d.machine.table d.machine.table.floors,
      no_tail (pieces 32 (drop (first - d.first) d.log)),
    )

-- the list of a store after one change more, of its own role or of another

abbrev change_by : RoleId → Written → KeptRecord
change_by me w = record { role = me; what = w }

list_mine : (me : RoleId) (w : Written) (ks : List KeptRecord)
    → list_of replica_rules me (reverse (change_by me w ∷ ks)) ≡ list_after replica_rules (list_of replica_rules me (reverse ks)) w
list_mine me w ks = ap (λ (l : List KeptRecord). list_of replica_rules me l) (reverse-append (change_by me w ∷ []) ks)
    ∙ list_own replica_rules me (reverse ks) (Some w)

list_others : (a me : RoleId) (w : Written) (ks : List KeptRecord) → same_role a me ≡ false
    → list_of replica_rules a (reverse (change_by me w ∷ ks)) ≡ list_of replica_rules a (reverse ks)
list_others a me w ks e = ap (λ (l : List KeptRecord). list_of replica_rules a l) (reverse-append (change_by me w ∷ []) ks)
    ∙ list_other replica_rules a me (reverse ks) (Some w) e

turned : (me : RoleId) (ks : List KeptRecord)
    → folded replica_rules (list_of replica_rules me (reverse ks)) ≡ durable_of replica_rules me ks
turned me ks =
    durable_by_time replica_rules me (reverse ks) ∙ ap (λ (l : List KeptRecord). durable_of replica_rules me l) (reverse-reverse ks)

-- a record that a role keeps leaves the first slot

first_kept : (d : ReplicaDurable) (k : Kind) (r : Record) → IsKeeper k r → (replica_after d r).first ≡ d.first
first_kept d k (kept.Base first n pairs clients) e = cc
first_kept d k other e = refl

-- the only replica is the one before itself
alone : (c : Cluster) (p : ℕ) → (c.replicas == 1) ≡ true → p < c.replicas → before c (role kind.Replica p) ≡ p
alone c p one within =
    let is : c.replicas ≡ 1 = eqb-true c.replicas 1 one in
    let none : p ≡ 0 = omega (arith, is, within) in
    ap (λ (n : ℕ). (p + n - 1) % n) is ∙ ap (λ (k : ℕ). (k + 1 - 1) % 1) none ∙ sym none

-- a row of a replica raises the number that it was asked for to what the replica before it has
module _ (c : Cluster) (history : List KeptRecord) (me : RoleId) (d : ReplicaDurable) (v : ReplicaVolatile) (n : ℕ) (few : v.fetched ≤ n)
    (known : slots_held history (before c me) ≡ n) where
  abbrev IsFew : Outcome ReplicaVolatile → Type 0
  IsFew o = o.volatile.fetched ≤ n

  chosen_few : (s : ℕ) (value : Value) → IsFew (chosen_row c me d v s value)
  chosen_few s value = either_way IsFew (nat_lt s (held d)) _ _ few
      (either_way IsFew (nat_le (held d + 32) s) _ _ few (either_way IsFew (nat_lt (held d) s) _ _ few few))

  read_few : (r : Deferred) → IsFew (read_row me d v r)
  read_few r =
      either_way IsFew (nat_le r.mark (held d)) _ _ few (either_way IsFew (list_any (λ (other : Deferred). same_read r.token other.token)
      v.deferred) _ _ few (either_way IsFew (nat_le 64 (length v.deferred)) _ _ few few))

  found_few : (x : ReplicaVolatile) → x.fetched ≤ n → (from : RoleId) (s : ℕ) (o : Option Value) → IsFew (fetch_found me x from s o)
  found_few x l from s None = l
  found_few x l from s (Some value) = l

  by_few : (from : RoleId) (s : ℕ) → s ≤ slots_held history from.index → (fetched_by c me v from s).fetched ≤ n
  by_few from s says =
      by_test (λ (x : ReplicaVolatile). x.fetched ≤ n) (from.index == before c me) (record v { fetched = max v.fetched s }) v
      (λ t. let own : s ≤ slots_held history (before c me) =
      subst (λ (k : ℕ). s ≤ slots_held history k) (eqb-true from.index (before c me) t) says in
      grind (arith, own, known, few))
      (λ f. few)

  fetch_few : (from : RoleId) (s : ℕ) → s ≤ slots_held history from.index → IsFew (fetch_row c me d v from s)
  fetch_few from s says = either_way IsFew (nat_lt s d.first) _ _ (by_few from s says)
      (found_few (fetched_by c me v from s) (by_few from s says) from s (slice_get d.log (s - d.first)))

  takes_few : (from : RoleId) (m : Msg) → SaysLow c history from m → IsFew (replica_takes c me d v from m)
  takes_few from (msg.Chosen s value) says = chosen_few s value
  takes_few from (msg.Read t k key) says = read_few (record { token = t; mark = k; key = key })
  takes_few from (msg.SessRead seq k key) says =
      read_few (record { token = record { client = from.index; seq = seq }; mark = k; key = key })
  takes_few from (msg.Fetch s) says = fetch_few from s says
  takes_few from other says = few

  row_few : (sent : List Letter) → ((x : Letter) → Member x sent → SaysLow c history x.from x.msg) → (i : Input) → Given sent me i
      → IsFew (replica_row c me d v i)
  row_few sent says (input.Take x) given =
      either_way IsFew (same_role x.to me && names c x) _ _ (takes_few x.from x.msg (says x given.1)) few
  row_few sent says input.Tick given = few
  row_few sent says (input.Order order) given =
      by_order IsFew c me d v few few (λ to s n. few) order

module _ (c : Cluster) (history : List KeptRecord) (sent : List Letter) (states : RoleId → State) (h : Stores c history sent states) where
  abbrev IsListedIn : List KeptRecord → ℕ → Type 0
  IsListedIn after p = held_in (list_of replica_rules (role kind.Replica p) (reverse after)) ≡ slots_held after p

  other_listed : (me : RoleId) (p : ℕ) (r : Record) → same_role (role kind.Replica p) me ≡ false → IsListedIn (entry_by me r ∷ history) p
  other_listed me p r e = ap (λ l. held_in l) (list_others (role kind.Replica p) me (written.Record r) history e) ∙ h.lists p
      ∙ sym (ap (λ l. length l) (log_other me p r history e))

  own_listed : (p : ℕ) (r : Record) → IsKeeper kind.Replica r → IsListedIn (entry_by (role kind.Replica p) r ∷ history) p
  own_listed p = replica_keeps (λ r. IsListedIn (entry_by (role kind.Replica p) r ∷ history) p)
      (λ vs. ap (λ l. held_in l) (list_mine (role kind.Replica p) (written.Record (kept.Log vs)) history)
      ∙ held_more (list_of replica_rules (role kind.Replica p) (reverse history)) vs
      ∙ ap (λ n. n + length vs) (h.lists p)
      ∙ sym (ap (λ l. length l) (log_own p (kept.Log vs) history) ∙ length-append (log_in history p) vs))

  replica_listed : (p : ℕ) (r : Record) → IsKeeper kind.Replica r → (q : ℕ) → IsListedIn (entry_by (role kind.Replica p) r ∷ history) q
  replica_listed p r k q =
      by_replica (IsListedIn (entry_by (role kind.Replica p) r ∷ history)) p q (own_listed p r k) (other_listed (role kind.Replica p) q r)

  still_fetched : (longer : List KeptRecord) → Lengthens history longer → (q : ℕ) (s : State) → IsFetched c history q s
      → IsFetched c longer q s
  still_fetched longer more q (ReplicaIn v) l = (let k = more (before c (role kind.Replica q)) in omega arith)
  still_fetched longer more q other l = tt

  abbrev first_of : List KeptRecord → RoleId → ℕ
  first_of after a = (durable_of replica_rules a after).first

  -- a history that isn't shorter, a new state of one role, and any datagrams
  after : (longer : List KeptRecord) → Lengthens history longer → ((p : ℕ) → IsListedIn longer p)
      → ((a : RoleId) → first_of longer a ≡ first_of history a)
      → (me : RoleId) (s : State) → ((p : ℕ) → me ≡ role kind.Replica p → p < c.replicas → IsFetched c history p s)
      → (ds : List Letter) → Stores c longer ds (set_state me s states)
  after longer more listed firsts me s own ds = record {
    lists = listed;
    fetched = λ p l.
        set_running (λ a x. (q : ℕ) → a ≡ role kind.Replica q → q < c.replicas → IsFetched c longer q x) me s states
        (λ q is k. still_fetched longer more q s (own q is k)) (λ a e q is k. still_fetched longer more q (states a)
        (subst (λ (x : RoleId). IsFetched c history q (states x)) (sym is) (h.fetched q k))) (role kind.Replica p) p refl l;
    forgotten = λ p l.
        let same = firsts (role kind.Replica p) in
        let old = h.forgotten p l in
        let k = more (before c (role kind.Replica p)) in
        omega (arith, same, old, k);
  }

  record_listed : (me : RoleId) (o : Option Record) → ((r : Record) → o ≡ Some r → (p : ℕ) → IsListedIn (entry_by me r ∷ history) p)
      → (p : ℕ) → IsListedIn (with_record me o history) p
  record_listed me None new p = h.lists p
  record_listed me (Some r) new p = new r refl p

  one_first : (me : RoleId) (r : Record) → IsKeeper me.kind r → (a : RoleId) → first_of (entry_by me r ∷ history) a ≡ first_of history a
  one_first me r k =
      by_role (λ a. first_of (entry_by me r ∷ history) a ≡ first_of history a) me (ap (λ (d : ReplicaDurable). d.first)
      (durable_own replica_rules me r history) ∙ first_kept (durable_of replica_rules me history) me.kind r k)
      (λ a e. ap (λ (d : ReplicaDurable). d.first) (durable_other replica_rules me a r history e))

  record_first : (me : RoleId) (o : Option Record) → IsKept me.kind o → (a : RoleId)
      → first_of (with_record me o history) a ≡ first_of history a
  record_first me None k a = refl
  record_first me (Some r) k a = one_first me r k a

  record_longer : (me : RoleId) (o : Option Record) → Lengthens history (with_record me o history)
  record_longer me None p = omega arith
  record_longer me (Some r) p = lengthens history (entry_by me r) p

  landed : {V : Type 0} (me : RoleId) (make : V → State) (o : Outcome V) → OfKind me o
      → ((r : Record) → o.kept ≡ Some r → (p : ℕ) → IsListedIn (entry_by me r ∷ history) p)
      → ((p : ℕ) → me ≡ role kind.Replica p → p < c.replicas → IsFetched c history p (make o.volatile))
      → Lands (Stores c) history sent states me make o
  landed me make o kinds listed own = record {
    whole = after (with_record me o.kept history) (record_longer me o.kept) (record_listed me o.kept listed)
        (record_first me o.kept kinds.keeps) me (make o.volatile) own (sent ++ o.sends);
    cut = λ r e. after (entry_by me r ∷ history) (lengthens history (entry_by me r)) (listed r e)
        (one_first me r (keeps_only me o r kinds e)) me Down (λ p is l. tt) sent;
  }

  -- a row of another role
  elsewhere : {V : Type 0} (me : RoleId) (make : V → State) (o : Outcome V) → OfKind me o
      → ((p : ℕ) → same_role (role kind.Replica p) me ≡ false)
      → ((p : ℕ) → IsFetched c history p (make o.volatile)) → Lands (Stores c) history sent states me make o
  elsewhere me make o kinds others none = landed me make o kinds (λ r e p. other_listed me p r (others p)) (λ p is l. none p)

  replica_landed : LowFacts c history sent states → (p : ℕ) (v : ReplicaVolatile) (i : Input) → states (role kind.Replica p) ≡ ReplicaIn v
      → Given sent (role kind.Replica p) i
      → Lands (Stores c) history sent states (role kind.Replica p) ReplicaIn
      (replica_row c (role kind.Replica p) (durable_of replica_rules (role kind.Replica p) history) v i)
  replica_landed lows p v i is given =
      let me = role kind.Replica p in
      let d = durable_of replica_rules me history in
      landed me ReplicaIn (replica_row c me d v i) (replica_kinds c me refl d v i)
      (λ r e. replica_listed p r (keeps_only me (replica_row c me d v i) r (replica_kinds c me refl d v i) e))
      (λ q same l.
      let one : p ≡ q = ap (λ (a : RoleId). a.index) same in
      let within : p < c.replicas = subst (λ (k : ℕ). k < c.replicas) (sym one) l in
      let few : v.fetched ≤ slots_held history (before c me) = subst (λ s. IsFetched c history p s) is (h.fetched p within) in
      subst (λ (k : ℕ). (replica_row c me d v i).volatile.fetched ≤ slots_held history (before c (role kind.Replica k))) one
      (row_few c history me d v (slots_held history (before c me)) few refl sent lows.says i given))

  -- a replica forgets values
  snap_listed : Ties history sent states → (p first q : ℕ) → IsListedIn (snap_by (role kind.Replica p) first ∷ history) q
  snap_listed ties p first q =
      let me = role kind.Replica p in
      by_replica (IsListedIn (snap_by me first ∷ history)) p q
      (ap (λ l. held_in l) (list_mine me (written.Snap first) history)
      ∙ held_renewed (folded replica_rules (list_of replica_rules me (reverse history))) first
      ∙ ap (λ (d : ReplicaDurable). held d) (turned me history)
      ∙ held_is (durable_of replica_rules me history) (log_in history p) (ties.tied p)
      ∙ sym (ap (λ l. length l) (log_snap me p first history))) (λ f. ap (λ l. held_in l) (list_others (role kind.Replica q) me
      (written.Snap first) history f) ∙ h.lists q ∙ sym (ap (λ l. length l) (log_snap me q first history)))

  limit_known : (p : ℕ) (d : ReplicaDurable) (v : ReplicaVolatile) → p < c.replicas → held d ≡ slots_held history p → v.fetched
      ≤ slots_held history (before c (role kind.Replica p)) → snap_limit c d v ≤ slots_held history (before c (role kind.Replica p))
  limit_known p d v within is few =
      by_test (λ (n : ℕ). n ≤ slots_held history (before c (role kind.Replica p))) (c.replicas == 1) (held d) (min (held d) v.fetched)
      (λ t. subst (λ (k : ℕ). held d ≤ slots_held history k) (sym (alone c p t within)) (omega (arith, is)))
      (λ f. grind (arith, few))

  snap_first : (p first : ℕ) → (d : ReplicaDurable) → durable_of replica_rules (role kind.Replica p) history ≡ d → IsTied d
      (log_in history p) → d.first ≤ first → first_of (snap_by (role kind.Replica p) first ∷ history) (role kind.Replica p) ≡ first
  snap_first p first d is tied from =
      let me = role kind.Replica p in
      let ordered : IsOrdered d.machine.table =
      subst (λ (m : Machine). IsOrdered m.table) (sym tied.machine) (machine_ordered (log_in history p)) in
      ap (λ (x : ReplicaDurable). x.first) (durable_snap replica_rules me first history
      ∙ ap (λ (x : ReplicaDurable). folded replica_rules (replica_renewed x first)) is ∙ renewed_folds d first from ordered)

  module _ (ties : Ties history sent states) (p : ℕ) (v : ReplicaVolatile) (first : ℕ) (up : states (role kind.Replica p) ≡ ReplicaIn v)
      (e : replica_rules.snap c (role kind.Replica p) (durable_of replica_rules (role kind.Replica p) history) v ≡ Some first) where
    abbrev me : RoleId
    me = role kind.Replica p

    abbrev d : ReplicaDurable
    d = durable_of replica_rules me history

    abbrev longer : List KeptRecord
    longer = snap_by me first ∷ history

    more : Lengthens history longer
    more = lengthens history (snap_by me first)

    own : p < c.replicas → first_of longer me ≤ slots_held longer (before c me)
    own within =
        let is = snap_is c me d v first e in
        let above = is.1 in
        let from : d.first ≤ first = omega (arith, above) in
        let few : v.fetched ≤ slots_held history (before c me) = subst (λ s. IsFetched c history p s) up (h.fetched p within) in
        let limit : snap_limit c d v ≤ slots_held history (before c me) =
        limit_known p d v within (held_is d (log_in history p) (ties.tied p)) few in
        let l = more (before c me) in
        let same : first_of longer me ≡ first = snap_first p first d refl (ties.tied p) from in
        let at = is.0 in
        omega (arith, limit, l, same, at)

    others : (q : ℕ) → same_role (role kind.Replica q) me ≡ false → q < c.replicas
        → first_of longer (role kind.Replica q) ≤ slots_held longer (before c (role kind.Replica q))
    others q f within =
        let same = ap (λ (x : ReplicaDurable). x.first) (durable_else replica_rules me (role kind.Replica q) first history f) in
        let old = h.forgotten q within in
        let l = more (before c (role kind.Replica q)) in
        omega (arith, same, old, l)

    snapped : Stores c longer sent states
    snapped = record {
      lists = snap_listed ties p first;
      fetched = λ q l. still_fetched longer more q (states (role kind.Replica q)) (h.fetched q l);
      forgotten = λ q. by_replica (λ k.
          k < c.replicas → first_of longer (role kind.Replica k) ≤ slots_held longer (before c (role kind.Replica k))) p q own (others q);
    }

-- a role that is no replica puts its list anew
anew_stores : (c : Cluster) (history : List KeptRecord) (sent : List Letter) (states : RoleId → State) → Stores c history sent states
    → (me : RoleId) (first : ℕ) → ((p : ℕ) → same_role (role kind.Replica p) me ≡ false)
    → Stores c (snap_by me first ∷ history) sent states
anew_stores c history sent states h who first e =
    let longer = snap_by who first ∷ history in
    let more = lengthens history (snap_by who first) in
    record {
      lists = λ q. ap (λ l. held_in l) (list_others (role kind.Replica q) who (written.Snap first) history (e q)) ∙ h.lists q
          ∙ sym (ap (λ l. length l) (log_snap who q first history));
      fetched = λ q l. still_fetched c history sent states h longer more q (states (role kind.Replica q)) (h.fetched q l);
      forgotten = λ q within.
          let same = ap (λ (x : ReplicaDurable). x.first) (durable_else replica_rules who (role kind.Replica q) first history (e q)) in
          let old = h.forgotten q within in
          let l = more (before c (role kind.Replica q)) in
          omega (arith, same, old, l);
    }

-- nothing has happened, and a role that was just opened

fresh_fetched : (c : Cluster) (history : List KeptRecord) (p : ℕ) (k : Kind) → IsFetched c history p (fresh_state c k)
fresh_fetched c history p kind.Replica = omega arith
fresh_fetched c history p other = tt

opened_fetched : (c : Cluster) (a : RoleId) (history : List KeptRecord) (p : ℕ) (k : Kind)
    → IsFetched c history p (opened_state c a history k)
opened_fetched c a history p kind.Replacer = tt
opened_fetched c a history p other = fresh_fetched c history p other

start_fetched : (c : Cluster) (p : ℕ) (k : Kind) (s : State) → (s ≡ Down) ⊎ (s ≡ fresh_state c k) → IsFetched c [] p s
start_fetched c p k s (inl e) = subst (λ x. IsFetched c [] p x) (sym e) tt
start_fetched c p k s (inr e) = subst (λ x. IsFetched c [] p x) (sym e) (fresh_fetched c [] p k)

none_forgotten : (p : ℕ) → (durable_of replica_rules (role kind.Replica p) []).first ≡ 0
none_forgotten p = ap (λ (d : ReplicaDurable). d.first) (durable_none replica_rules (role kind.Replica p))

-- a role stops, or is opened
set_stores : (c : Cluster) (history : List KeptRecord) (sent : List Letter) (states : RoleId → State) → Stores c history sent states
    → (me : RoleId) (s : State) → ((p : ℕ) → IsFetched c history p s) → Stores c history sent (set_state me s states)
set_stores c history sent states h me s own =
    after c history sent states h history (λ p. omega arith) h.lists (λ a. refl) me s (λ p is l. own p) sent

abbrev Known : Cluster → Property
Known c history sent states = Ties history sent states × LowFacts c history sent states

stores_laws : (c : Cluster) → Laws c (λ n e. Unit {0}) (Known c) (Stores c)
stores_laws c = record {
  same = λ history sent states others e h. record {
    lists = h.lists;
    fetched = λ p l. subst (λ s. IsFetched c history p s) (e (role kind.Replica p)) (h.fetched p l);
    forgotten = h.forgotten;
  };
  start = λ states fresh. record {
    lists = λ p. sym (ap (λ l. length l) (log_none p));
    fetched = λ p l. start_fetched c p kind.Replica (states (role kind.Replica p)) (fresh (role kind.Replica p));
    forgotten = λ p l. omega (arith, none_forgotten p);
  };
  stop = λ history sent states me h. set_stores c history sent states h me Down (λ p. tt);
  wake = λ history sent states me h down.
      set_stores c history sent states h me (opened_state c me history me.kind) (λ p. opened_fetched c me history p me.kind);
  ask = λ history sent states n e allowed known h. record { lists = h.lists; fetched = h.fetched; forgotten = h.forgotten };
  batcher = λ history sent states b v i known h is given. elsewhere c history sent states h (role kind.Batcher b) BatcherIn
      _ (batcher_kinds c (role kind.Batcher b) refl v i) (λ p. refl) (λ p. tt);
  leader = λ history sent states l v i known h is given. elsewhere c history sent states h (role kind.Leader l) LeaderIn
      _ (leader_kinds c (role kind.Leader l) refl (durable_of leader_rules (role kind.Leader l) history) v i) (λ p. refl) (λ p. tt);
  proxy = λ history sent states p v i known h is given.
      elsewhere c history sent states h (role kind.Proxy p) ProxyIn _ (proxy_kinds c (role kind.Proxy p) refl v i) (λ q. refl) (λ q. tt);
  acceptor = λ history sent states a i known h is given. elsewhere c history sent states h (role kind.Acceptor a) plain
      _ (acceptor_kinds c (role kind.Acceptor a) refl (durable_of acceptor_rules (role kind.Acceptor a) history) i) (λ p. refl) (λ p. tt);
  matchmaker = λ history sent states m i known h is given.
      elsewhere c history sent states h (role kind.Matchmaker m) plain _ (matchmaker_kinds c (role kind.Matchmaker m) refl
      (durable_of matchmaker_rules (role kind.Matchmaker m) history) i) (λ p. refl) (λ p. tt);
  replica = λ history sent states p v i known h is given. replica_landed c history sent states h known.1 p v i is given;
  snap = λ history sent states p v first known h is e. snapped c history sent states h known.0 p v first is e;
  acceptor_anew = λ history sent states a first known h is e.
      anew_stores c history sent states h (role kind.Acceptor a) first (λ p. refl);
  reader_anew = λ history sent states r first v known h is e. anew_stores c history sent states h (role kind.Reader r) first (λ p. refl);
  unbatcher = λ history sent states u i known h is given. elsewhere c history sent states h (role kind.Unbatcher u) plain
      _ (unbatcher_kinds c (role kind.Unbatcher u) refl i) (λ p. refl) (λ p. tt);
  reader = λ history sent states r v i known h is given. elsewhere c history sent states h (role kind.Reader r) ReaderIn
      _ (reader_kinds c (role kind.Reader r) refl (durable_of reader_rules (role kind.Reader r) history) v i) (λ p. refl) (λ p. tt);
  replacer = λ history sent states x v i known h is given. elsewhere c history sent states h (role kind.Replacer x) ReplacerIn
      _ (replacer_kinds c (role kind.Replacer x) refl (durable_of replacer_rules (role kind.Replacer x) history) v i) (λ p. refl) (λ p. tt);
}

module _ (low_facts : (c : Cluster) (es : List Event) → HoldsIn (LowFacts c) (run c es)) where
  pub stores_hold : (c : Cluster) (es : List Event) → HoldsIn (Stores c) (run c es)
  stores_hold c es = always c (Known c) (Stores c) (stores_laws c) (λ more. (ties_hold c more, low_facts c more)) es

  -- by time
  pub lists_hold : (c : Cluster) (es : List Event) (p : ℕ)
      → held_in (list_of replica_rules (role kind.Replica p) (run c es).kept) ≡ length (log_of p (run c es).kept)
  lists_hold c es p =
      ap (λ (l : List KeptRecord). held_in (list_of replica_rules (role kind.Replica p) l)) (sym (reverse-reverse (run c es).kept))
      ∙ (stores_hold c es).lists p ∙ sym (ap (λ l. length l) (log_by_time p (run c es).kept))
