-- Which kinds of datagrams and records each kind of role sends and keeps: one walk over all rows, and what it gives of every run.
use Rattle.std.proofs.Common.{sym, subst, inl, inr}
use Rattle.cx_model.specs.Prelude.{◌≡◌, ℕ, Bool, List, [], ◌∷◌, ◌++◌, map, filter, Option, None, Some, refl, ◌+◌, ◌-◌, ◌%◌, not, ◌==◌, ◌&&◌}
use Rattle.cx_model.specs.Prelude.{nat_lt, nat_le, length, bytes_eq, if◌then◌else◌, slice_get, list_any, is_above, Cluster, Answered, Value}
use Rattle.cx_model.specs.Prelude.{RoleId, Round, Why, is_in, below, numbers, ready_values, same_role, role, is_before, same_round, Asking}
use Rattle.cx_model.specs.Prelude.{Entry, column_whole, with_mark, Letter, letter, Input, Take, Tick, Order, Record, Msg, AcceptorDurable}
use Rattle.cx_model.specs.Prelude.{is_of_round, vote_at, acceptor_takes, acceptor_row, BatcherVolatile, batcher_takes, batcher_row}
use Rattle.cx_model.specs.Prelude.{is_counted, greatest_watermark, live_entries, is_member_of, members_of, rows_whole, MatchmakerDurable}
use Rattle.cx_model.specs.Prelude.{has_round, is_booted, is_stopped, set_of, in_set, at_work, boot_in, matchmaker_takes, matchmaker_row}
use Rattle.cx_model.specs.Prelude.{Member, names, Outcome, only_word, replied, ProxyVolatile, raised_to, pending_of, pending_at, phase2a_to}
use Rattle.cx_model.specs.Prelude.{column_for, members_for, chosen_to, chosen_in_to, announcement, ask, propose_over, vote_for, proxy_takes}
use Rattle.cx_model.specs.Prelude.{again_for, again_at, proxy_tick, proxy_row, Asked, Batch, ReaderDurable, ReaderVolatile, acked_by}
use Rattle.cx_model.specs.Prelude.{ask_acceptors, ask_matchmakers, ask_replicas, asked_anew, asked_for, asking_of, begin, begin_if, finish}
use Rattle.cx_model.specs.Prelude.{greatest_mark, has_acked, is_among, is_first, is_matched, is_of_batch, last_turn, match_ack_counted}
use Rattle.cx_model.specs.Prelude.{match_ack_row, match_read_to, pre_read_ack_row, pre_read_counted, pre_read_to, read_to, reader_row}
use Rattle.cx_model.specs.Prelude.{reader_takes, reader_tick, request_over, make_token, ReplicaDurable, ReplicaVolatile, Machine, held}
use Rattle.cx_model.specs.Prelude.{execute_value, machine_from, results_at, results_from, read_answer_to, read_answers, apply, read_row}
use Rattle.cx_model.specs.Prelude.{fetched_by, fetch_found, held_to, fetch_to, replica_takes, replica_tick, replica_row, same_read, ◌||◌}
use Rattle.cx_model.specs.Prelude.{zero, suc}
use Rattle.cx_model.specs.Prelude.{answer_to, unbatcher_takes, unbatcher_row}
use Rattle.cx_base.specs.declared.event.Order.{Order as OrderOf}
use Rattle.cx_base.specs.declared.event.Order.TheVariants as order
use Rattle.cx_base.specs.declared.role.Kind.TheVariants as kind
use Rattle.cx_letter.specs.declared.message.Msg.TheVariants as msg
use Rattle.cx_model.specs.declared.states.Deferred.{Deferred}
use Rattle.cx_model.specs.declared.states.Pending.{Pending}
use Rattle.cx_model.specs.Outcome.{either_way}
use Rattle.cx_model.specs.Reader.{matched as batch_matched}
use Rattle.cx_model.specs.Replica.{offer_of, offered, offers, replica_orders, value_kept}
use Rattle.cx_model.specs.Matchmaker.{has_place}
use Rattle.cx_inv_run.specs.Kinds.{IsSender, IsKeeper, OfKind}
use Rattle.cx_inv_run.proofs.Members.{Member-both, Member-map, Member-one}

-- datagrams of one role, each of its kind
abbrev pub AreOwn : RoleId → List Letter → Type 0
AreOwn me ds = (d : Letter) → Member d ds → (d.from ≡ me) × IsSender me.kind d.msg

pub none : (me : RoleId) → AreOwn me []
none me d m = absurd m

pub one : (me to : RoleId) (x : Msg) → IsSender me.kind x → AreOwn me (letter me to x ∷ [])
one me to x s = Member-one (λ d. (d.from ≡ me) × IsSender me.kind d.msg) (letter me to x) (refl, s)

pub both : (me : RoleId) (ds es : List Letter) → AreOwn me ds → AreOwn me es → AreOwn me (ds ++ es)
both me ds es = Member-both (λ d. (d.from ≡ me) × IsSender me.kind d.msg) ds es

pub mapped : {X : Type 0} (me : RoleId) (f : X → Letter) (xs : List X) → ((x : X) → ((f x).from ≡ me) × IsSender me.kind (f x).msg)
    → AreOwn me (map f xs)
mapped me f xs h d m =
    let r = Member-map f d xs m in
    subst (λ (e : Letter). (e.from ≡ me) × IsSender me.kind e.msg) (sym r.2) (h r.0)

-- outcomes of one role
module _ {V : Type 0} (me : RoleId) where
  pub quiet : (w : Why) (v : V) → OfKind me (only_word w v)
  quiet w v = record { sends = none me; keeps = tt }

  pub replying : (w : Why) (v : V) (ds : List Letter) → AreOwn me ds → OfKind me (replied w v ds)
  replying w v ds own = record { sends = own; keeps = tt }

  pub keeping : (w : Why) (r : Record) (v : V) (ds : List Letter) → IsKeeper me.kind r → AreOwn me ds
      → OfKind {V = V} me (record { why = w; kept = Some r; volatile = v; sends = ds })
  keeping w r v ds keeper own = record { sends = own; keeps = keeper }

  -- a choice between two outcomes
  pub pick : (b : Bool) (o p : Outcome V) → OfKind me o → OfKind me p → OfKind me (if b then o else p)
  pick b o p = either_way (λ (x : Outcome V). OfKind me x) b o p

-- the acceptor's rows
module _ (c : Cluster) (me : RoleId) (is : me.kind ≡ kind.Acceptor) (d : AcceptorDurable) where
  acceptor_took : (from : RoleId) (m : Msg) → OfKind me (acceptor_takes me d from m)
  acceptor_took from (msg.Phase1A i) =
      pick me (is_before i d.promise) _ _ (replying me _ tt _ (one me _ _ is))
      (pick me (same_round i d.promise) _ _ (replying me _ tt _ (one me _ _ is)) (keeping me _ _ tt _ is (one me _ _ is)))
  acceptor_took from (msg.Phase2A i s cw v) =
      pick me (is_before i d.promise) _ _ (replying me _ tt _ (one me _ _ is))
      (pick me (nat_lt s d.cw) _ _ (quiet me _ tt)
      (pick me (is_of_round i (vote_at s d.votes)) _ _ (replying me _ tt _ (one me _ _ is)) (keeping me _ _ tt _ is (one me _ _ is))))
  acceptor_took from (msg.Inform i cw) =
      pick me (is_before i d.promise) _ _ (replying me _ tt _ (one me _ _ is))
      (pick me (same_round i d.promise && nat_le cw d.cw) _ _ (replying me _ tt _ (one me _ _ is)) (keeping me _ _ tt _ is (one me _ _ is)))
  acceptor_took from (msg.PreRead t w) = replying me _ tt _ (one me _ _ is)
  acceptor_took from other = quiet me _ tt

  pub acceptor_kinds : (i : Input) → OfKind me (acceptor_row c me d tt i)
  acceptor_kinds (Take letter) =
      pick me (same_role letter.to me && names c letter) _ _ (acceptor_took letter.from letter.msg) (quiet me _ tt)
  acceptor_kinds Tick = quiet me _ tt
  acceptor_kinds (Order order) = quiet me _ tt

-- the matchmaker's rows
module _ (c : Cluster) (me : RoleId) (is : me.kind ≡ kind.Matchmaker) (d : MatchmakerDurable) where
  member : (o : Outcome (Unit {0})) → OfKind me o → OfKind me (in_set c me d o)
  member o h = pick me (is_booted c me d) _ _ h (quiet me _ tt)

  worker : (o : Outcome (Unit {0})) → OfKind me o → OfKind me (at_work c me d o)
  worker o h = member _ (pick me (is_stopped d) _ _ (quiet me _ tt) h)

  booted : (from : RoleId) (s : List ℕ) (w : Round) (es : List Entry) (o : Option (List ℕ)) → OfKind me (boot_in me from s w es o)
  booted from s w es None = keeping me _ _ tt _ is (one me _ _ is)
  booted from s w es (Some t) = pick me (bytes_eq s t) _ _ (replying me _ tt _ (one me _ _ is)) (quiet me _ tt)

  matchmaker_took : (from : RoleId) (m : Msg) → OfKind me (matchmaker_takes c me d from m)
  matchmaker_took from (msg.MatchA i g) =
      worker _ (pick me (is_before i d.watermark) _ _ (replying me _ tt _ (one me _ _ is))
      (pick me (list_any (λ (e : Entry). is_before i e.round) d.entries) _ _ (replying me _ tt _ (one me _ _ is))
      (pick me (has_round i d.entries) _ _ (replying me _ tt _ (one me _ _ is))
      (pick me (not (has_place c g d.entries)) _ _ (replying me _ tt _ (one me _ _ is)) (keeping me _ _ tt _ is (one me _ _ is))))))
  matchmaker_took from (msg.GarbageA i g) =
      worker _ (pick me (is_before d.watermark i) _ _ (keeping me _ _ tt _ is (one me _ _ is)) (replying me _ tt _ (one me _ _ is)))
  matchmaker_took from (msg.MatchRead t) = worker _ (replying me _ tt _ (one me _ _ is))
  matchmaker_took from (msg.StopA b) =
      member _ (pick me (is_before b d.ballot) _ _ (replying me _ tt _ (one me _ _ is))
      (pick me (same_round b d.ballot) _ _ (replying me _ tt _ (one me _ _ is)) (keeping me _ _ tt _ is (one me _ _ is))))
  matchmaker_took from (msg.NextA b s) =
      member _ (pick me (is_before b d.ballot) _ _ (replying me _ tt _ (one me _ _ is))
      (pick me (same_round b d.accepted) _ _ (replying me _ tt _ (one me _ _ is)) (keeping me _ _ tt _ is (one me _ _ is))))
  matchmaker_took from (msg.BootA s w es) = pick me (is_in me.index s) _ _ (booted from s w es (set_of c me d.booted)) (quiet me _ tt)
  matchmaker_took from other = quiet me _ tt

  pub matchmaker_kinds : (i : Input) → OfKind me (matchmaker_row c me d tt i)
  matchmaker_kinds (Take letter) =
      pick me (same_role letter.to me && names c letter) _ _ (matchmaker_took letter.from letter.msg) (quiet me _ tt)
  matchmaker_kinds Tick = quiet me _ tt
  matchmaker_kinds (Order order) = quiet me _ tt

-- the batcher's rows
module _ (c : Cluster) (me : RoleId) (is : me.kind ≡ kind.Batcher) (v : BatcherVolatile) where
  batcher_took : (m : Msg) → OfKind me (batcher_takes c me v m)
  batcher_took (msg.Submit command) =
      pick me (nat_le c.batch (length (v.waiting ++ command ∷ []))) _ _ (replying me _ _ _ (one me _ _ is)) (quiet me _ _)
  batcher_took (msg.Leads i) = pick me (is_before v.round i) _ _ (quiet me _ _) (quiet me _ _)
  batcher_took other = quiet me _ _

  pub batcher_kinds : (i : Input) → OfKind me (batcher_row c me tt v i)
  batcher_kinds (Take letter) = pick me (same_role letter.to me && names c letter) _ _ (batcher_took letter.msg) (quiet me _ v)
  batcher_kinds Tick = pick me (nat_lt 0 (length v.waiting)) _ _ (replying me _ _ _ (one me _ _ is)) (quiet me _ _)
  batcher_kinds (Order order) = quiet me _ _

-- the unbatcher's rows
module _ (c : Cluster) (me : RoleId) (is : me.kind ≡ kind.Unbatcher) where
  unbatcher_took : (m : Msg) → OfKind me (unbatcher_takes me m)
  unbatcher_took (msg.Results s answers) = replying me _ tt _ (mapped me (answer_to me) answers (λ a. (refl, is)))
  unbatcher_took other = quiet me _ tt

  pub unbatcher_kinds : (i : Input) → OfKind me (unbatcher_row c me tt tt i)
  unbatcher_kinds (Take letter) = pick me (same_role letter.to me && names c letter) _ _ (unbatcher_took letter.msg) (quiet me _ tt)
  unbatcher_kinds Tick = quiet me _ tt
  unbatcher_kinds (Order order) = quiet me _ tt

-- the proxy leader's rows
module _ (c : Cluster) (me : RoleId) (is : me.kind ≡ kind.Proxy) where
  announced : (p : Pending) → AreOwn me (announcement c me p)
  announced p = both me (map (chosen_to me p) (below c.replicas)) (chosen_in_to me p ∷ [])
      (mapped me (chosen_to me p) (below c.replicas) (λ r. (refl, inl is))) (one me _ _ is)

  asked : (v : ProxyVolatile) (p : Pending) → OfKind me (ask c me v p)
  asked v p = replying me _ _ _ (mapped me (phase2a_to me p) (column_for c p) (λ a. (refl, is)))

  proposed_over : (v : ProxyVolatile) (p : Pending) (o : Option Pending) → OfKind me (propose_over c me v p o)
  proposed_over v p None = asked v p
  proposed_over v p (Some old) =
      pick me (is_before p.round old.round) _ _ (quiet me _ v) (pick me (same_round old.round p.round) _ _ (quiet me _ v) (asked v p))

  voted_for : (v : ProxyVolatile) (acceptor : ℕ) (i : Round) (o : Option Pending) → OfKind me (vote_for c me v acceptor i o)
  voted_for v acceptor i None = quiet me _ v
  voted_for v acceptor i (Some p) =
      pick me (not (same_round p.round i && is_in acceptor p.grid.members)) _ _ (quiet me _ v)
      (pick me p.done _ _ (quiet me _ v)
      (pick me (is_in acceptor p.marks) _ _ (quiet me _ v) (pick me (column_whole p.grid (with_mark acceptor p.marks))
      _ _ (replying me _ _ _ (announced (record p { marks = with_mark acceptor p.marks }))) (quiet me _ _))))

  proxy_took : (v : ProxyVolatile) (from : RoleId) (m : Msg) → OfKind me (proxy_takes c me v from m)
  proxy_took v from (msg.Propose i g s cw value) =
      let raised = raised_to cw v in
      let p = pending_of i g s cw value in
      pick me (nat_lt s raised.known) _ _ (quiet me _ raised) (proposed_over raised p (pending_at s raised.pending))
  proxy_took v from (msg.Phase2B i s) = voted_for v from.index i (pending_at s v.pending)
  proxy_took v from other = quiet me _ v

  again_one : (o : Option Pending) → AreOwn me (again_for c me o)
  again_one None = none me
  again_one (Some p) = either_way (AreOwn me) p.done _ _ (announced p) (mapped me (phase2a_to me p) (members_for c p) (λ a. (refl, is)))

  again_all : (ps : List Pending) (slots : List ℕ) → AreOwn me (again_at c me ps slots)
  again_all ps [] = none me
  again_all ps (s ∷ slots) =
      both me (again_for c me (pending_at s ps)) (again_at c me ps slots) (again_one (pending_at s ps)) (again_all ps slots)

  ticked : (v : ProxyVolatile) (ps : List Pending) → OfKind me (proxy_tick c me v ps)
  ticked v [] = quiet me _ v
  ticked v (p ∷ ps) = replying me _ v _ (again_all v.pending (numbers v.known 32))

  pub proxy_kinds : (v : ProxyVolatile) (i : Input) → OfKind me (proxy_row c me tt v i)
  proxy_kinds v (Take letter) = pick me (same_role letter.to me && names c letter) _ _ (proxy_took v letter.from letter.msg) (quiet me _ v)
  proxy_kinds v Tick = ticked v v.pending
  proxy_kinds v (Order order) = quiet me _ v

-- the replica's rows
module _ (c : Cluster) (me : RoleId) (is : me.kind ≡ kind.Replica) (d : ReplicaDurable) where
  results_one : (slot : ℕ) (answers : List Answered) → AreOwn me (results_at c me slot answers)
  results_one slot answers =
      either_way (AreOwn me) ((slot % c.replicas == me.index) && nat_lt 0 (length answers)) _ _ (one me _ _ is) (none me)

  results_all : (slot : ℕ) (machine : Machine) (values : List Value) → AreOwn me (results_from c me slot machine values)
  results_all slot machine [] = none me
  results_all slot machine (v ∷ values) =
      let e = execute_value slot machine v in
      both me (results_at c me slot e.answers) (results_from c me (slot + 1) e.machine values) (results_one slot e.answers)
      (results_all (slot + 1) e.machine values)

  read_all : (n : ℕ) (machine : Machine) (rs : List Deferred) → AreOwn me (read_answers me n machine rs)
  read_all n machine rs = mapped me (read_answer_to me n machine) (filter (λ (r : Deferred). nat_le r.mark n) rs) (λ r. (refl, is))

  applied : (v : ReplicaVolatile) (values : List Value) → OfKind me (apply c me d v values)
  applied v values =
      let n = held d + length values in
      let after = machine_from (held d) d.machine values in
      keeping me _ _ _ _ is
      (both me (results_from c me (held d) d.machine values) (read_answers me n after v.deferred)
      (results_all (held d) d.machine values) (read_all n after v.deferred))

  fetched : (v : ReplicaVolatile) (from : RoleId) (s : ℕ) (o : Option Value) → OfKind me (fetch_found me v from s o)
  fetched v from s None = quiet me _ v
  fetched v from s (Some value) = replying me _ v _ (one me _ _ (inr is))

  read_took : (v : ReplicaVolatile) (r : Deferred) → OfKind me (read_row me d v r)
  read_took v r =
      pick me (nat_le r.mark (held d)) _ _ (replying me _ v _ (one me _ _ is))
      (pick me (list_any (λ (other : Deferred). same_read r.token other.token) v.deferred) _ _ (quiet me _ v)
      (pick me (nat_le 64 (length v.deferred)) _ _ (quiet me _ v) (quiet me _ _)))

  replica_took : (v : ReplicaVolatile) (from : RoleId) (m : Msg) → OfKind me (replica_takes c me d v from m)
  replica_took v from (msg.Chosen s value) =
      pick me (nat_lt s (held d)) _ _ (quiet me _ v)
      (pick me (nat_le (held d + 32) s) _ _ (quiet me _ v)
      (pick me (nat_lt (held d) s) _ _ (quiet me _ _) (applied v (ready_values (held d) v.early value))))
  replica_took v from (msg.Read t n key) = read_took v (record { token = t; mark = n; key = key })
  replica_took v from (msg.SessRead seq n key) =
      read_took v (record { token = record { client = from.index; seq = seq }; mark = n; key = key })
  replica_took v from (msg.Fetch s) =
      let asked = fetched_by c me v from s in
      pick me (nat_lt s d.first) _ _ (quiet me _ asked) (fetched asked from s (slice_get d.log (s - d.first)))
  replica_took v from other = quiet me _ v

  replica_ticked : (v : ReplicaVolatile) → OfKind me (replica_tick c me d v)
  replica_ticked v =
      replying me _ v _
      (both me (map (held_to me (held d)) (below c.leaders)) (fetch_to c me (held d))
      (mapped me (held_to me (held d)) (below c.leaders) (λ l. (refl, is)))
      (either_way (AreOwn me) (nat_lt 1 c.replicas) _ _ (one me _ _ is) (none me)))

  offer_one : (to : RoleId) (s : ℕ) (o : Option Value) → AreOwn me (offer_of me to s o)
  offer_one to s None = none me
  offer_one to s (Some value) = one me to _ (inr is)

  offer_all : (to : RoleId) (s n : ℕ) → AreOwn me (offers me to d s n)
  unfolding offers
  offer_all to s zero = none me
  offer_all to s (suc n) =
      both me (offer_of me to (s + n) (value_kept d (s + n))) (offers me to d s n) (offer_one to (s + n) (value_kept d (s + n)))
      (offer_all to s n)

  all_offered : (v : ReplicaVolatile) (ds : List Letter) → AreOwn me ds → OfKind me (offered v ds)
  all_offered v [] own = quiet me _ v
  all_offered v (first ∷ rest) own = replying me _ v _ own

  replica_ordered : (v : ReplicaVolatile) (o : OrderOf) → OfKind me (replica_orders c me d v o)
  replica_ordered v (order.Offer to s) =
      pick me (not (nat_lt to c.replicas) || (to == me.index)) _ _ (quiet me _ v)
      (all_offered v (offers me (role kind.Replica to) d s 32) (offer_all (role kind.Replica to) s 32))
  replica_ordered v (order.Lead g) = quiet me _ v
  replica_ordered v (order.Change g) = quiet me _ v
  replica_ordered v order.Collect = quiet me _ v
  replica_ordered v (order.Replace s) = quiet me _ v

  pub replica_kinds : (v : ReplicaVolatile) (i : Input) → OfKind me (replica_row c me d v i)
  replica_kinds v (Take letter) =
      pick me (same_role letter.to me && names c letter) _ _ (replica_took v letter.from letter.msg) (quiet me _ v)
  replica_kinds v Tick = replica_ticked v
  replica_kinds v (Order order) = replica_ordered v order

-- the reader's rows
module _ (c : Cluster) (me : RoleId) (is : me.kind ≡ kind.Reader) (d : ReaderDurable) where
  matchmakers_asked : (set : List ℕ) (turn : ℕ) → AreOwn me (ask_matchmakers me set turn)
  matchmakers_asked set turn = mapped me (match_read_to me (asking_of me turn)) set (λ m. (refl, is))

  batch_begun : (v : ReaderVolatile) (w : Why) (first : List Letter) (rs : List Asked) → AreOwn me first
      → OfKind me (begin me d v w first rs)
  batch_begun v w first rs own =
      keeping me _ _ _ _ is (both me first (ask_matchmakers me v.set (d.turn + 1)) own (matchmakers_asked v.set (d.turn + 1)))

  begun_if : (v : ReaderVolatile) (w : Why) (rs : List Asked) → OfKind me (begin_if me d v w rs)
  begun_if v w rs = pick me (d.turn == last_turn) _ _ (quiet me _ v) (batch_begun v w [] rs (none me))

  requested : (v : ReaderVolatile) (r : Asked) (o : Option Batch) → OfKind me (request_over me d v r o)
  requested v r None = pick me (nat_le 64 (length v.waiting)) _ _ (quiet me _ v) (begun_if v _ _)
  requested v r (Some b) =
      pick me (is_first r.read b.reads) _ _ (begun_if v _ _)
      (pick me (is_among r.read b.reads) _ _ (quiet me _ v)
      (pick me (nat_le 64 (length v.waiting + length b.reads)) _ _ (quiet me _ v) (quiet me _ _)))

  reads_sent : (v : ReaderVolatile) (b : Batch) (n : ℕ) → OfKind me (finish me d v b n)
  reads_sent v b n =
      let own : AreOwn me (ask_replicas me b n) = mapped me (read_to me n) b.reads (λ r. (refl, is)) in
      pick me (nat_lt 0 (length v.waiting) && not (d.turn == last_turn)) _ _ (batch_begun v _ (ask_replicas me b n) v.waiting own)
      (replying me _ _ _ own)

  matched_read : (v : ReaderVolatile) (b : Batch) (es : List Entry) → OfKind me (batch_matched c me d v b es)
  matched_read v b [] = reads_sent v b 0
  matched_read v b (e ∷ es) = replying me _ _ _ (mapped me (pre_read_to me b) (members_of c (e ∷ es)) (λ a. (refl, is)))

  told_counted : (v : ReaderVolatile) (b : Batch) → OfKind me (match_ack_counted c me d v b)
  told_counted v b = pick me (is_matched c b) _ _ (matched_read v b (live_entries b.told)) (quiet me _ _)

  told_row : (v : ReaderVolatile) (from : RoleId) (u : Asking) (w : Round) (es : List Entry) (o : Option Batch)
      → OfKind me (match_ack_row c me d v from u w es o)
  told_row v from u w es None = quiet me _ v
  told_row v from u w es (Some b) =
      pick me (not (is_of_batch me b u && not (is_matched c b) && is_in from.index v.set)) _ _ (quiet me _ v)
      (pick me (is_counted from.index b.told) _ _ (quiet me _ v)
      (told_counted v (record b { told = b.told ++ record { matchmaker = from.index; watermark = w; entries = es } ∷ [] })))

  acks_counted : (v : ReaderVolatile) (b : Batch) → OfKind me (pre_read_counted c me d v b)
  acks_counted v b = pick me (rows_whole (live_entries b.told) (acked_by b.acks)) _ _ (reads_sent v b (greatest_mark b.acks)) (quiet me _ _)

  acked_row : (v : ReaderVolatile) (from : RoleId) (u : Asking) (w : Round) (n : ℕ) (o : Option Batch)
      → OfKind me (pre_read_ack_row c me d v from u w n o)
  acked_row v from u w n None = quiet me _ v
  acked_row v from u w n (Some b) =
      pick me (not (is_of_batch me b u && is_matched c b && is_member_of (live_entries b.told) from.index)) _ _ (quiet me _ v)
      (pick me (not (same_round w (greatest_watermark b.told))) _ _ (quiet me _ v)
      (pick me (has_acked from.index b.acks) _ _ (quiet me _ v)
      (acks_counted v (record b { acks = b.acks ++ record { acceptor = from.index; mark = n } ∷ [] }))))

  -- another set of matchmakers is asked
  batch_anew : (v : ReaderVolatile) (o : Option Batch) → OfKind me (asked_anew c me v o)
  batch_anew v None = quiet me _ v
  batch_anew v (Some b) = pick me (is_matched c b) _ _ (quiet me _ v) (replying me _ _ _ (matchmakers_asked v.set b.turn))

  reader_took : (v : ReaderVolatile) (from : RoleId) (m : Msg) → OfKind me (reader_takes c me d v from m)
  reader_took v from (msg.ReadReq seq replica key) = (let r = asked_for (make_token from.index seq) replica key in pick me
      (is_among r.read v.waiting) _ _ (quiet me _ _) (requested v r v.running))
  reader_took v from (msg.MatchReadAck u w es) = told_row v from u w es v.running
  reader_took v from (msg.PreReadAck u w n) = acked_row v from u w n v.running
  reader_took v from (msg.Sets s) = pick me (is_above s v.set) _ _ (batch_anew (record v { set = s }) v.running) (quiet me _ v)
  reader_took v from other = quiet me _ v

  reader_ticked : (v : ReaderVolatile) (o : Option Batch) → OfKind me (reader_tick c me v o)
  reader_ticked v None = quiet me _ v
  reader_ticked v (Some b) =
      replying me _ v _ (either_way (AreOwn me) (is_matched c b) (ask_acceptors c me b) (ask_matchmakers me v.set b.turn)
      (mapped me (pre_read_to me b) (members_of c (live_entries b.told)) (λ a. (refl, is))) (matchmakers_asked v.set b.turn))

  pub reader_kinds : (v : ReaderVolatile) (i : Input) → OfKind me (reader_row c me d v i)
  reader_kinds v (Take letter) =
      pick me (same_role letter.to me && names c letter) _ _ (reader_took v letter.from letter.msg) (quiet me _ v)
  reader_kinds v Tick = reader_ticked v v.running
  reader_kinds v (Order order) = quiet me _ v
