-- A reader asks for the key that it was asked for; a replica answers commands and reads by its own values.
use Rattle.cx_inv_run.proofs.Common.{◌≡◌, ℕ, ◌+◌, ◌-◌, ◌≤◌, not, ◌&&◌, List, [], ◌∷◌, ◌++◌, map, filter, take, length, inl, inr, ap, sym}
use Rattle.cx_inv_run.proofs.Common.{subst, ◌∙◌, ⊎_elim, refl, arith, append-nil, ◌==◌, max, nat_lt, nat_le, slice_get, Option, None, Some}
use Rattle.cx_inv_run.proofs.Common.{list_any, length-append, take_all, Cluster, Value, RoleId, Round, Why, fold, text_at, below}
use Rattle.cx_inv_run.proofs.Common.{ready_values, role, same_role, is_in, same_round, is_above, Asking, Entry, Letter, Input, Take, Tick}
use Rattle.cx_inv_run.proofs.Common.{Order, KeptRecord, Msg, Deferred, IsRight, is_counted, greatest_watermark, is_member_of, members_of}
use Rattle.cx_inv_run.proofs.Common.{live_entries, rows_whole, Member, names, Outcome, by_test, either_way, Asked, ReaderDurable}
use Rattle.cx_inv_run.proofs.Common.{ReaderVolatile, make_token, IsTied, Machine, ReplicaDurable, ReplicaVolatile, held, machine_from}
use Rattle.cx_inv_run.proofs.Common.{machine_of, replica_after, replica_rules, same_read, ReplicaIn, ReaderIn, entry_by, durable_of, log_in}
use Rattle.cx_inv_run.proofs.Common.{log_own, Member-both, Member-one, Member-filter, held_is}
use Rattle.cx_base.specs.declared.role.Kind.TheVariants as kind
use Rattle.cx_letter.specs.declared.kept.Record.TheVariants as kept
use Rattle.cx_letter.specs.declared.message.Msg.TheVariants as msg
use Rattle.cx_model.specs.Reader as reader
use Rattle.cx_model.specs.Reader.{Batch}
use Rattle.cx_model.specs.Replica as replica
use Rattle.cx_inv_run.proofs.Opening.{by_order, offers_say}
use Rattle.cx_inv_run.proofs.Tying.{tied_more}
use Rattle.cx_inv_vote.proofs.Replicas.{kept_at}
use Rattle.cx_inv_list.specs.Told.{AreWanted, BatchWanted, RequestPredicates, Wants, IsAnswerToRead, ListSays, InList, IsListed}
use Rattle.cx_inv_list.proofs.Listed.{Sends, Heard, listed_if, listed_answered, listed_replied, one_send, each_send, both_send}
use Rattle.cx_inv_list.proofs.Right.{are_at, log_right, results_right, map_is_fold}

-- a reader

module _ (q : RequestPredicates) (c : Cluster) (history : List KeptRecord) (me : RoleId) where
  abbrev ReaderListed : Outcome ReaderVolatile → Type 0
  ReaderListed o = IsListed q history me ReaderIn o

  abbrev IsWanted : Asked → Type 0
  IsWanted r = q.wanted r.read r.key

  both_wanted : (rs more : List Asked) → AreWanted q rs → AreWanted q more → AreWanted q (rs ++ more)
  both_wanted rs more h k = Member-both IsWanted rs more h k

  with_wanted : (one : Asked) → IsWanted one → (rs : List Asked) → AreWanted q rs → AreWanted q (reader.with_asked one rs)
  with_wanted one new [] h = λ r m. absurd m
  with_wanted one new (x ∷ rs) h =
      either_way (λ (l : List Asked). AreWanted q l) (same_read one.read x.read) (one ∷ rs) (x ∷ reader.with_asked one rs)
      (λ r m. ⊎_elim (λ e. subst (λ (y : Asked). IsWanted y) (sym e) new) (λ k. h r (inr k)) m)
      (λ r m. ⊎_elim (λ e. h r (inl e)) (with_wanted one new rs (λ y k. h y (inr k)) r) m)

  asks_listed : (longer : List KeptRecord) (set : List ℕ) (turn : ℕ) → Sends q longer (reader.ask_matchmakers me set turn)
  asks_listed longer set turn = each_send q longer (reader.match_read_to me (reader.asking_of me turn)) set (λ m k. tt)

  batch_listed : (longer : List KeptRecord) (b : Batch) (n : ℕ) → AreWanted q b.reads → Sends q longer (reader.ask_replicas me b n)
  batch_listed longer b n h = each_send q longer (reader.read_to me n) b.reads (λ r m. h r m)

  module _ (d : ReaderDurable) (v : ReaderVolatile) (waiting : AreWanted q v.waiting) where
    begin_listed : (w : Why) (first : List Letter) (rs : List Asked) → ((longer : List KeptRecord) → Sends q longer first) → AreWanted q rs
        → ReaderListed (reader.begin me d v w first rs)
    begin_listed w first rs says h =
        let longer : List KeptRecord = entry_by me (kept.Turn (d.turn + 1)) ∷ history in
        record {
          state = ((λ r m. absurd m), h);
          keeps = tt;
          sends =
              both_send q longer first (reader.ask_matchmakers me v.set (d.turn + 1)) (says longer) (asks_listed longer v.set (d.turn + 1));
        }

    begin_if_listed : BatchWanted q v.running → (w : Why) (rs : List Asked) → AreWanted q rs → ReaderListed (reader.begin_if me d v w rs)
    begin_if_listed batch w rs h = listed_if (d.turn == reader.last_turn) _ _ (listed_answered ReaderIn _ _ (waiting, batch))
        (begin_listed w [] rs (λ longer x m. absurd m) h)

    request_listed : BatchWanted q v.running → (one : Asked) → IsWanted one → ReaderListed (reader.request_row me d v one)
    request_listed batch one new = listed_if (reader.is_among one.read v.waiting)
        _ _ (listed_answered ReaderIn _ _ (with_wanted one new v.waiting waiting, batch)) (over v.running batch)
      where
        later : AreWanted q (v.waiting ++ one ∷ [])
        later = both_wanted v.waiting (one ∷ []) waiting (Member-one IsWanted one new)

        over : (o : Option Batch) → BatchWanted q o → ReaderListed (reader.request_over me d v one o)
        over None h =
            listed_if (nat_le 64 (length v.waiting)) _ _ (listed_answered ReaderIn _ _ (waiting, batch)) (begin_if_listed batch _ _ later)
        over (Some b) h = listed_if (reader.is_first one.read b.reads)
            _ _ (begin_if_listed batch _ _ (both_wanted (reader.with_asked one b.reads) v.waiting (with_wanted one new b.reads h) waiting))
            (listed_if (reader.is_among one.read b.reads) _ _ (listed_answered ReaderIn _ _ (waiting, batch))
            (listed_if (nat_le 64 (length v.waiting + length b.reads)) _ _ (listed_answered ReaderIn _ _ (waiting, batch))
            (listed_answered ReaderIn _ _ (later, batch))))

    finish_listed : (b : Batch) → AreWanted q b.reads → (n : ℕ) → ReaderListed (reader.finish me d v b n)
    finish_listed b h n = listed_if (nat_lt 0 (length v.waiting) && not (d.turn == reader.last_turn))
        _ _ (begin_listed _ (reader.ask_replicas me b n) v.waiting (λ longer. batch_listed longer b n h) waiting)
        (listed_replied ReaderIn _ _ _ (waiting, tt) (batch_listed history b n h))

    matched_listed : (b : Batch) → AreWanted q b.reads → (es : List Entry) → ReaderListed (reader.matched c me d v b es)
    matched_listed b h [] = finish_listed b h 0
    matched_listed b h (e ∷ es) =
        listed_replied ReaderIn _ _ _ (waiting, h) (each_send q history (reader.pre_read_to me b) (members_of c (e ∷ es)) (λ a m. tt))

    match_ack_listed : BatchWanted q v.running → (from : RoleId) (u : Asking) (w : Round) (es : List Entry) (o : Option Batch)
        → BatchWanted q o → ReaderListed (reader.match_ack_row c me d v from u w es o)
    match_ack_listed batch from u w es None h = listed_answered ReaderIn _ _ (waiting, batch)
    match_ack_listed batch from u w es (Some b) h =
        let one : Batch = record b { told = b.told ++ record { matchmaker = from.index; watermark = w; entries = es } ∷ [] } in
        listed_if (not (reader.is_of_batch me b u && not (reader.is_matched c b) && is_in from.index v.set)) _ _ (listed_answered ReaderIn
        _ _ (waiting, batch)) (listed_if (is_counted from.index b.told) _ _ (listed_answered ReaderIn _ _ (waiting, batch))
        (listed_if (reader.is_matched c one) _ _ (matched_listed one h (live_entries one.told))
        (listed_answered ReaderIn _ _ (waiting, h))))

    pre_read_listed : BatchWanted q v.running → (from : RoleId) (u : Asking) (w : Round) (n : ℕ) (o : Option Batch) → BatchWanted q o
        → ReaderListed (reader.pre_read_ack_row c me d v from u w n o)
    pre_read_listed batch from u w n None h = listed_answered ReaderIn _ _ (waiting, batch)
    pre_read_listed batch from u w n (Some b) h =
        let one : Batch = record b { acks = b.acks ++ record { acceptor = from.index; mark = n } ∷ [] } in
        listed_if (not (reader.is_of_batch me b u && reader.is_matched c b && is_member_of (live_entries b.told) from.index))
        _ _ (listed_answered ReaderIn _ _ (waiting, batch))
        (listed_if (not (same_round w (greatest_watermark b.told))) _ _ (listed_answered ReaderIn _ _ (waiting, batch))
        (listed_if (reader.has_acked from.index b.acks) _ _ (listed_answered ReaderIn _ _ (waiting, batch))
        (listed_if (rows_whole (live_entries one.told) (reader.acked_by one.acks)) _ _ (finish_listed one h (reader.greatest_mark one.acks))
        (listed_answered ReaderIn _ _ (waiting, h)))))

    takes_listed : BatchWanted q v.running → (from to : RoleId) (m : Msg) → ListSays q history from to m
        → ReaderListed (reader.reader_takes c me d v from m)
    takes_listed batch from to (msg.ReadReq seq r key) says = request_listed batch (reader.asked_for (make_token from.index seq) r key) says
    takes_listed batch from to (msg.MatchReadAck u w es) says = match_ack_listed batch from u w es v.running batch
    takes_listed batch from to (msg.PreReadAck u w n) says = pre_read_listed batch from u w n v.running batch
    takes_listed batch from to (msg.Sets s) says =
        listed_if (is_above s v.set) _ _ (anew_listed v.running batch) (listed_answered ReaderIn _ _ (waiting, batch))
      where
        anew_listed : (o : Option Batch) → BatchWanted q o → ReaderListed (reader.asked_anew c me (record v { set = s }) o)
        anew_listed None h = listed_answered ReaderIn _ _ (waiting, batch)
        anew_listed (Some b) h = listed_if (reader.is_matched c b) _ _ (listed_answered ReaderIn _ _ (waiting, batch))
            (listed_replied ReaderIn _ _ _ (waiting, h) (asks_listed history s b.turn))
    takes_listed batch from to other says = listed_answered ReaderIn _ _ (waiting, batch)

    tick_listed : BatchWanted q v.running → (o : Option Batch) → ReaderListed (reader.reader_tick c me v o)
    tick_listed batch None = listed_answered ReaderIn _ _ (waiting, batch)
    tick_listed batch (Some b) =
        listed_replied ReaderIn _ _ _ (waiting, batch)
        (either_way (Sends q history) (reader.is_matched c b) (reader.ask_acceptors c me b) (reader.ask_matchmakers me v.set b.turn)
        (each_send q history (reader.pre_read_to me b) (members_of c (live_entries b.told)) (λ a m. tt)) (asks_listed history v.set b.turn))

  pub reader_listed : (d : ReaderDurable) (v : ReaderVolatile) → InList q (ReaderIn v) → (i : Input) → Heard q history i
      → IsListed q history me ReaderIn (reader.reader_row c me d v i)
  reader_listed d v h (Take l) says =
      listed_if (same_role l.to me && names c l) _ _ (takes_listed d v h.0 h.1 l.from l.to l.msg says) (listed_answered ReaderIn _ _ h)
  reader_listed d v h Tick says = tick_listed d v h.0 h.1 v.running
  reader_listed d v h (Order order) says = listed_answered ReaderIn _ _ h

-- what a replica with these values answers to a read
told_now : (q : RequestPredicates) (history : List KeptRecord) (p : ℕ) (log : List Value) → log_in history p ≡ log → (n : ℕ) (m : Machine)
    → n ≡ length log → m ≡ machine_of log
    → (r : Deferred) → Wants q r.token r.key → IsAnswerToRead q history p r.token n (text_at r.key m.map)
told_now q history p log e n m count machine r h = record {
  key = r.key;
  wanted = h;
  within = subst (λ vs. n ≤ length vs) (sym e) (omega (arith, count));
  found_is =
      ap (λ (x : Machine). text_at r.key x.map) machine
      ∙ ap (λ map. text_at r.key map) (map_is_fold log)
      ∙ ap (λ vs. text_at r.key (fold vs)) (sym (ap (λ vs. take n vs) e ∙ take_all n log (omega (arith, count))));
}

-- a replica, whose durable part is tied to all values that it kept

module _ (q : RequestPredicates) (c : Cluster) (history : List KeptRecord) (p : ℕ)
    (tied : IsTied (durable_of replica_rules (role kind.Replica p) history) (log_in history p)) where
  abbrev me : RoleId
  me = role kind.Replica p

  abbrev own : ReplicaDurable
  own = durable_of replica_rules (role kind.Replica p) history

  abbrev log : List Value
  log = log_in history p

  abbrev ReplicaListed : Outcome ReplicaVolatile → Type 0
  ReplicaListed o = IsListed q history (role kind.Replica p) ReplicaIn o

  abbrev AreDeferred : List Deferred → Type 0
  AreDeferred rs = (r : Deferred) → Member r rs → Wants q r.token r.key

  count : held own ≡ length log
  count = held_is own log tied

  module _ (v : ReplicaVolatile) (h : (r : Deferred) → Member r v.deferred → Wants q r.token r.key) where
    module _ (values : List Value) where
      abbrev longer : List KeptRecord
      longer = entry_by (role kind.Replica p) (kept.Log values) ∷ history

      log_is : log_in longer p ≡ log ++ values
      log_is = log_own p (kept.Log values) history

      results_listed : Sends q longer (replica.results_from c me (held own) own.machine values)
      results_listed =
          subst (λ n. Sends q longer (replica.results_from c me n own.machine values)) (sym count)
          (subst (λ m. Sends q longer (replica.results_from c me (length log) m values)) (sym tied.machine)
          (results_right (log ++ values) (λ (d : Letter). ListSays q longer d.from d.to d.msg) c me
          (λ u slot answers right. λ a m. subst (λ vs. IsRight vs a.client a.seq a.at a.reply) (sym log_is) (right a m))
          values (length log) (machine_of log)
          (are_at (log ++ values) log values [] (length log) (ap (λ vs. log ++ vs) (sym (append-nil values))) refl)
          (log_right log values)))

      abbrev held_after : ℕ
      held_after = held own + length values

      abbrev machine_after : Machine
      machine_after = machine_from (held own) own.machine values

      reads_listed : Sends q longer (replica.read_answers me held_after machine_after v.deferred)
      reads_listed =
          let more : IsTied (replica_after own (kept.Log values)) (log ++ values) = tied_more own log values tied in
          let sum : held_after ≡ length (log ++ values) = omega (arith, count, length-append log values) in
          each_send q longer (replica.read_answer_to me held_after machine_after)
          (filter (λ (r : Deferred). nat_le r.mark held_after) v.deferred)
          (λ r m. told_now q longer p (log ++ values) log_is held_after machine_after sum more.machine r
          (h r (Member-filter (λ (x : Deferred). nat_le x.mark held_after) r v.deferred m).0))

      apply_listed : ReplicaListed (replica.apply c me own v values)
      apply_listed = record {
        state = λ r m. h r (Member-filter (λ (x : Deferred). nat_lt held_after x.mark) r v.deferred m).0;
        keeps = tt;
        sends = both_send q longer (replica.results_from c me (held own) own.machine values)
            (replica.read_answers me held_after machine_after v.deferred) results_listed reads_listed;
      }

    chosen_listed : (s : ℕ) (value : Value) → ReplicaListed (replica.chosen_row c me own v s value)
    chosen_listed s value =
        listed_if (nat_lt s (held own)) _ _ (listed_answered ReplicaIn _ _ h)
        (listed_if (nat_le (held own + 32) s) _ _ (listed_answered ReplicaIn _ _ h)
        (listed_if (nat_lt (held own) s) _ _ (listed_answered ReplicaIn _ _ h)
        (apply_listed (ready_values (held own) v.early value))))

    read_listed : (r : Deferred) → Wants q r.token r.key → ReplicaListed (replica.read_row me own v r)
    read_listed r new = listed_if (nat_le r.mark (held own)) _ _ (listed_replied ReplicaIn _ _ _ h
        (one_send q history me _ _ (told_now q history p log refl (held own) own.machine count tied.machine r new)))
        (listed_if (list_any (λ (other : Deferred). same_read r.token other.token) v.deferred) _ _ (listed_answered ReplicaIn _ _ h)
        (listed_if (nat_le 64 (length v.deferred)) _ _ (listed_answered ReplicaIn _ _ h) (listed_answered ReplicaIn _ _ (Member-both
        (λ (x : Deferred). Wants q x.token x.key) v.deferred (r ∷ []) h (Member-one (λ (x : Deferred). Wants q x.token x.key) r new)))))

    abbrev asked_by : RoleId → ℕ → ReplicaVolatile
    asked_by from s = replica.fetched_by c me v from s

    still_deferred : (from : RoleId) (s : ℕ) → AreDeferred (asked_by from s).deferred
    still_deferred from s = either_way (λ (x : ReplicaVolatile). AreDeferred x.deferred) (from.index == replica.before c me)
        (record v { fetched = max v.fetched s }) v h h

    fetch_listed : (from : RoleId) (s : ℕ) (o : Option Value) → ((value : Value) → o ≡ Some value → slice_get log s ≡ Some value)
        → ReplicaListed (replica.fetch_found me (asked_by from s) from s o)
    fetch_listed from s None there = listed_answered ReplicaIn _ _ (still_deferred from s)
    fetch_listed from s (Some value) there =
        listed_replied ReplicaIn _ _ _ (still_deferred from s) (one_send q history me _ _ (λ is. there value refl))

    replica_takes_listed : (from to : RoleId) (m : Msg) → ListSays q history from to m
        → ReplicaListed (replica.replica_takes c me own v from m)
    replica_takes_listed from to (msg.Chosen s value) says = chosen_listed s value
    replica_takes_listed from to (msg.Read t n key) says = read_listed (record { token = t; mark = n; key = key }) (inl says)
    replica_takes_listed from to (msg.SessRead seq n key) says =
        read_listed (record { token = make_token from.index seq; mark = n; key = key }) (inr says)
    replica_takes_listed from to (msg.Fetch s) says =
        by_test ReplicaListed (nat_lt s own.first) _ _ (λ t. listed_answered ReplicaIn _ _ (still_deferred from s))
        (λ f. fetch_listed from s (slice_get own.log (s - own.first)) (λ value e. kept_at own log tied s value f e))
    replica_takes_listed from to other says = listed_answered ReplicaIn _ _ h

    fetches_listed : (held : ℕ) → Sends q history (replica.fetch_to c me held)
    fetches_listed held =
        either_way (Sends q history) (nat_lt 1 c.replicas) _ [] (one_send q history me _ _ tt) (λ d m. absurd m)

    replica_tick_listed : ReplicaListed (replica.replica_tick c me own v)
    replica_tick_listed =
        listed_replied ReplicaIn _ _ _ h
        (both_send q history (map (replica.held_to me (held own)) (below c.leaders)) (replica.fetch_to c me (held own))
        (each_send q history (replica.held_to me (held own)) (below c.leaders) (λ l m. tt)) (fetches_listed (held own)))

    offered_at : (s : ℕ) (value : Value) → replica.value_kept own s ≡ Some value → slice_get log s ≡ Some value
    offered_at s value e =
        by_test (λ (o : Option Value). o ≡ Some value → slice_get log s ≡ Some value) (nat_lt s own.first) None
        (slice_get own.log (s - own.first)) (λ t n. cc) (λ f x. kept_at own log tied s value f x) e

    pub replica_listed : (i : Input) → Heard q history i → IsListed q history (role kind.Replica p) ReplicaIn
        (replica.replica_row c (role kind.Replica p) (durable_of replica_rules (role kind.Replica p) history) v i)
    replica_listed (Take l) says =
        listed_if (same_role l.to me && names c l) _ _ (replica_takes_listed l.from l.to l.msg says) (listed_answered ReplicaIn _ _ h)
    replica_listed Tick says = replica_tick_listed
    replica_listed (Order order) says =
        by_order ReplicaListed c me own v (listed_answered ReplicaIn _ _ h) (listed_answered ReplicaIn _ _ h)
        (λ to s n. listed_replied ReplicaIn _ _ _ h (offers_say (λ (d : Letter). ListSays q history d.from d.to d.msg) me own
        (λ to s value e is. offered_at s value e) to s n)) order
