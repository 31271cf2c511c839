-- In every run each turn under which something is asked or answered was kept.
use Rattle.cx_inv_run.proofs.Common.{◌≡◌, ℕ, ◌+◌, ◌≤◌, false, not, ◌&&◌, List, [], ◌∷◌, ◌++◌, length, Option, None, Some, inl, inr, sym}
use Rattle.cx_inv_run.proofs.Common.{subst, refl, arith, ◌==◌, nat_lt, nat_le, cases_Bool, none-some, same_Some, Cluster, Event, Kind}
use Rattle.cx_inv_run.proofs.Common.{RoleId, Round, Why, Sent, is_in, role, same_role, same_round, is_above, Asking, Entry, Letter, Input}
use Rattle.cx_inv_run.proofs.Common.{KeptRecord, Written, Record, Msg, AcceptorDurable, acceptor_rules, acceptor_row, leader_rules}
use Rattle.cx_inv_run.proofs.Common.{is_counted, is_member_of, greatest_watermark, live_entries, members_of, rows_whole, MatchmakerDurable}
use Rattle.cx_inv_run.proofs.Common.{matchmaker_rules, matchmaker_row, Member, names, Outcome, only_word, either_way, HasKept, HasTurn}
use Rattle.cx_inv_run.proofs.Common.{Asked, ReaderDurable, ReaderVolatile, acked_by, ask_acceptors, ask_matchmakers, ask_replicas}
use Rattle.cx_inv_run.proofs.Common.{asked_anew, asked_for, begin, begin_if, greatest_mark, has_acked, is_among, is_first, is_matched}
use Rattle.cx_inv_run.proofs.Common.{is_of_batch, last_turn, match_ack_counted, match_ack_row, match_read_to, matched, pre_read_ack_row}
use Rattle.cx_inv_run.proofs.Common.{pre_read_counted, pre_read_to, read_to, reader_row, reader_rules, reader_takes, reader_tick}
use Rattle.cx_inv_run.proofs.Common.{request_over, request_row, make_token, asking_of, replacer_rules, replica_rules, request, run, Lands}
use Rattle.cx_inv_run.proofs.Common.{Laws, anything, State, Down, BatcherIn, LeaderIn, ProxyIn, ReplicaIn, ReaderIn, ReplacerIn, plain}
use Rattle.cx_inv_run.proofs.Common.{Given, durable_of, entry_by, snap_by, fresh_state, opened_state, with_record, HoldsIn, durable_else}
use Rattle.cx_inv_run.proofs.Common.{durable_other, durable_own, kept_cases, kept_longer, kept_other, no_snap, same_role-true, set_running}
use Rattle.cx_inv_run.proofs.Common.{Member-both, batcher_kinds, proxy_kinds, replica_kinds, unbatcher_kinds, leader_kinds, replacer_kinds}
use Rattle.cx_inv_run.proofs.Common.{batcher_sends, leader_sends, proxy_sends, replica_sends, unbatcher_sends, sends_only, run_keeps}
use Rattle.cx_inv_run.proofs.Common.{all_allowed, reader_same}
use Rattle.cx_base.specs.declared.role.Kind.TheVariants as kind
use Rattle.cx_letter.specs.declared.input.Input.TheVariants as input
use Rattle.cx_letter.specs.declared.input.Written.TheVariants as written
use Rattle.cx_letter.specs.declared.kept.Record.TheVariants as kept
use Rattle.cx_letter.specs.declared.message.Msg.TheVariants as msg
use Rattle.cx_model.specs.Reader.{Batch, finish, new_batch, reader_after}
use Rattle.cx_inv_run.specs.Kinds.{IsWriter}
use Rattle.cx_inv_run.proofs.Steps.{along_anything}
use Rattle.cx_inv_read.specs.Reads.{Has, IsNew, TurnSays, BatchIsKept, TurnsKept}
use Rattle.cx_inv_read.proofs.Requests.{requested}
use Rattle.cx_inv_read.proofs.Rows.{IsPlain, Each, acceptor_tells, matchmaker_tells, replacer_sends, each_mapped}

-- ---- no turn that was kept is above the last one

after_more : (d : ReaderDurable) (r : Record) (n : ℕ) → n ≤ d.turn → n ≤ (reader_after d r).turn
after_more d (kept.Turn k) n l = omega (arith, l)
after_more d other n l = l

abbrev reader : ℕ → RoleId
reader r = role kind.Reader r

-- one more change is of its role's kind; a reader that puts its list anew forgets no turn

abbrev IsBounded : ℕ → List KeptRecord → ℕ → Type 0
IsBounded r history n = n ≤ (durable_of reader_rules (reader r) history).turn

own_turn : (r : ℕ) (a : RoleId) (w : Written) (history : List KeptRecord) (n : ℕ)
    → (HasKept history (reader r) (kept.Turn n) → IsBounded r history n)
    → IsWriter a.kind w → HasKept (record { role = a; what = w } ∷ history) (reader r) (kept.Turn n) → reader r ≡ a
    → IsBounded r (record { role = a; what = w } ∷ history) n
own_turn r a (written.Record s) history n rest writer m mine =
    subst (λ (x : RoleId). IsBounded r (entry_by x s ∷ history) n) mine
    (subst (λ (d : ReaderDurable). n ≤ d.turn) (sym (durable_own reader_rules (reader r) s history))
    (elim (kept_cases a (reader r) s (kept.Turn n) history m) [
      | inl p ↦ subst (λ (x : Record). n ≤ (reader_after (durable_of reader_rules (reader r) history) x).turn) p.1 (omega arith)
      | inr x ↦ after_more (durable_of reader_rules (reader r) history) s n (rest x)
    ]))
own_turn r a (written.Snap first) history n rest writer m mine =
    subst (λ (d : ReaderDurable). n ≤ d.turn) (sym (reader_same a first history (reader r)))
    (rest (no_snap a (reader r) first (kept.Turn n) history m))

other_turn : (r : ℕ) (a : RoleId) (w : Written) (history : List KeptRecord) (n : ℕ)
    → (HasKept history (reader r) (kept.Turn n) → IsBounded r history n)
    → HasKept (record { role = a; what = w } ∷ history) (reader r) (kept.Turn n) → same_role (reader r) a ≡ false
    → IsBounded r (record { role = a; what = w } ∷ history) n
other_turn r a (written.Record s) history n rest m f =
    subst (λ (d : ReaderDurable). n ≤ d.turn) (sym (durable_other reader_rules a (reader r) s history f))
    (rest (kept_other a (reader r) s (kept.Turn n) history f m))
other_turn r a (written.Snap first) history n rest m f =
    subst (λ (d : ReaderDurable). n ≤ d.turn) (sym (durable_else reader_rules a (reader r) first history f))
    (rest (no_snap a (reader r) first (kept.Turn n) history m))

turn_bound : (r : ℕ) (history : List KeptRecord) → ((k : KeptRecord) → Member k history → IsWriter k.role.kind k.what) → (n : ℕ)
    → HasKept history (reader r) (kept.Turn n) → IsBounded r history n
turn_bound r [] writers n m = absurd m
turn_bound r (k ∷ history) writers n m =
    let rest = turn_bound r history (λ x i. writers x (inr i)) n in
    elim (cases_Bool (same_role (reader r) k.role)) [
      | inl t ↦ own_turn r k.role k.what history n rest (writers k (inl refl)) m (same_role-true (reader r) k.role t)
      | inr f ↦ other_turn r k.role k.what history n rest m f
    ]

-- so the next one was kept at no earlier moment
pub next_is_new : (r : ℕ) (history asked : List KeptRecord) → ((k : KeptRecord) → Member k history → IsWriter k.role.kind k.what)
    → Has history asked → IsNew asked (asking_of (reader r) ((durable_of reader_rules (reader r) history).turn + 1))
next_is_new r history asked writers has x =
    let p = turn_bound r history writers ((durable_of reader_rules (reader r) history).turn + 1) (has _ x) in omega (arith, p)

-- ---- turns were kept

module _ (history longer : List KeptRecord) (has : Has longer history) where
  says_longer : (m : Msg) → TurnSays history m → TurnSays longer m
  says_longer (msg.MatchRead u) h = has _ h
  says_longer (msg.MatchReadAck u w es) h = has _ h
  says_longer (msg.PreRead u w) h = has _ h
  says_longer (msg.PreReadAck u w n) h = has _ h
  says_longer other h = tt

  kept_longer_too : (a : RoleId) (s : State) → BatchIsKept history a s → BatchIsKept longer a s
  kept_longer_too a (ReaderIn v) h = λ b e. has _ (h b e)
  kept_longer_too a other h = tt

plain_turn : (history : List KeptRecord) (m : Msg) → IsPlain m → TurnSays history m
plain_turn history (msg.MatchRead u) h = absurd h
plain_turn history (msg.MatchReadAck u w es) h = absurd h
plain_turn history (msg.PreRead u w) h = absurd h
plain_turn history (msg.PreReadAck u w n) h = absurd h
plain_turn history other h = tt

-- a reader
module _ (r : ℕ) (history : List KeptRecord) (d : ReaderDurable) (v : ReaderVolatile) (c : Cluster)
    (kept_so : (b : Batch) → v.running ≡ Some b → HasTurn history (asking_of (reader r) b.turn)) where
  abbrev pub mine : RoleId
  mine = reader r

  abbrev pub Later : Outcome ReaderVolatile → List KeptRecord
  Later o = with_record mine o.kept history

  pub record Good (o : Outcome ReaderVolatile) : Type 0 where
    pub says : Each (λ l. TurnSays (Later o) l.msg) o.sends
    pub runs : (b : Batch) → o.volatile.running ≡ Some b → HasTurn (Later o) (asking_of mine b.turn)

  same : (w : Why) → Good (only_word w v)
  same w = record { says = λ l m. absurd m; runs = kept_so }

  waits : (w : Why) (rs : List Asked) → Good (only_word w (record v { waiting = rs }))
  waits w rs = record { says = λ l m. absurd m; runs = kept_so }

  abbrev Next : List KeptRecord
  Next = entry_by mine (kept.Turn (d.turn + 1)) ∷ history

  begins : (w : Why) (first : List Letter) (rs : List Asked) → Each (λ l. TurnSays Next l.msg) first → Good (begin mine d v w first rs)
  begins w first rs told = record {
    says = Member-both (λ l. TurnSays Next l.msg) first (ask_matchmakers mine v.set (d.turn + 1)) told
        (each_mapped (λ l. TurnSays Next l.msg) (match_read_to mine (asking_of mine (d.turn + 1))) v.set (λ m k. inl refl));
    runs = λ b e. subst (λ (x : Batch). HasTurn Next (asking_of mine x.turn)) (same_Some (new_batch (d.turn + 1) rs) b e) (inl refl);
  }

  begins_if : (w : Why) (rs : List Asked) → Good (begin_if mine d v w rs)
  begins_if w rs = either_way Good (d.turn == last_turn) _ _ (same _) (begins w [] rs (λ l m. absurd m))

  request_good : (one : Asked) → Good (request_row mine d v one)
  request_good one = either_way Good (is_among one.read v.waiting) _ _ (waits _ _) (over v.running)
    where
      over : (o : Option Batch) → Good (request_over mine d v one o)
      over None = either_way Good (nat_le 64 (length v.waiting)) _ _ (same _) (begins_if _ _)
      over (Some b) =
          either_way Good (is_first one.read b.reads) _ _ (begins_if _ _)
          (either_way Good (is_among one.read b.reads) _ _ (same _)
          (either_way Good (nat_le 64 (length v.waiting + length b.reads)) _ _ (same _) (waits _ _)))

  finishes : (b : Batch) (n : ℕ) → Good (finish mine d v b n)
  finishes b n =
      either_way Good (nat_lt 0 (length v.waiting) && not (d.turn == last_turn)) _ _
      (begins Sent (ask_replicas mine b n) v.waiting (each_mapped (λ l. TurnSays Next l.msg) (read_to mine n) b.reads (λ x m. tt)))
      (record {
        says = each_mapped (λ l. TurnSays history l.msg) (read_to mine n) b.reads (λ x m. tt);
        runs = λ x e. absurd (none-some x e);
      })

  -- a batch with the turn of the running one
  module _ (b : Batch) (has : HasTurn history (asking_of mine b.turn)) where
    goes_on : (x : Batch) → ◌≡◌ {A = Option Batch} (Some b) (Some x) → HasTurn history (asking_of mine x.turn)
    goes_on x e = subst (λ (y : Batch). HasTurn history (asking_of mine y.turn)) (same_Some b x e) has

    matched_good : (es : List Entry) → Good (matched c mine d v b es)
    matched_good [] = finishes b 0
    matched_good (e ∷ es) = record {
      says = each_mapped (λ l. TurnSays history l.msg) (pre_read_to mine b) (members_of c (e ∷ es)) (λ a m. has);
      runs = goes_on;
    }

    match_counted : Good (match_ack_counted c mine d v b)
    match_counted =
        either_way Good (is_matched c b) _ _ (matched_good (live_entries b.told)) (record { says = λ l m. absurd m; runs = goes_on })

    ack_counted : Good (pre_read_counted c mine d v b)
    ack_counted = either_way Good (rows_whole (live_entries b.told) (acked_by b.acks)) _ _ (finishes b (greatest_mark b.acks))
        (record { says = λ l m. absurd m; runs = goes_on })

  match_good : (from : RoleId) (u : Asking) (w : Round) (es : List Entry) (o : Option Batch) → v.running ≡ o
      → Good (match_ack_row c mine d v from u w es o)
  match_good from u w es None is = same _
  match_good from u w es (Some b) is =
      either_way Good (not (is_of_batch mine b u && not (is_matched c b) && is_in from.index v.set)) _ _ (same _)
      (either_way Good (is_counted from.index b.told) _ _ (same _)
      (match_counted (record b { told = b.told ++ record { matchmaker = from.index; watermark = w; entries = es } ∷ [] }) (kept_so b is)))

  ack_good : (from : RoleId) (u : Asking) (w : Round) (n : ℕ) (o : Option Batch) → v.running ≡ o
      → Good (pre_read_ack_row c mine d v from u w n o)
  ack_good from u w n None is = same _
  ack_good from u w n (Some b) is =
      either_way Good (not (is_of_batch mine b u && is_matched c b && is_member_of (live_entries b.told) from.index)) _ _ (same _)
      (either_way Good (not (same_round w (greatest_watermark b.told))) _ _ (same _)
      (either_way Good (has_acked from.index b.acks) _ _ (same _)
      (ack_counted (record b { acks = b.acks ++ record { acceptor = from.index; mark = n } ∷ [] }) (kept_so b is))))

  -- another set took over: a batch in its first stage is asked anew, under its turn
  anew_good : (s : List ℕ) (o : Option Batch) → v.running ≡ o → Good (asked_anew c mine (record v { set = s }) o)
  anew_good s None is = record { says = λ l m. absurd m; runs = kept_so }
  anew_good s (Some b) is =
      either_way Good (is_matched c b) _ _ (record { says = λ l m. absurd m; runs = kept_so })
      (record {
        says = each_mapped (λ l. TurnSays history l.msg) (match_read_to mine (asking_of mine b.turn)) s (λ m k. kept_so b is);
        runs = goes_on (record b { told = [] }) (kept_so b is);
      })

  takes_good : (from : RoleId) (m : Msg) → Good (reader_takes c mine d v from m)
  takes_good from (msg.ReadReq seq replica key) = request_good (asked_for (make_token from.index seq) replica key)
  takes_good from (msg.MatchReadAck u w es) = match_good from u w es v.running refl
  takes_good from (msg.PreReadAck u w n) = ack_good from u w n v.running refl
  takes_good from (msg.Sets s) = either_way Good (is_above s v.set) _ _ (anew_good s v.running refl) (same _)
  takes_good from other = same _

  ticks_good : (o : Option Batch) → v.running ≡ o → Good (reader_tick c mine v o)
  ticks_good None is = same _
  ticks_good (Some b) is = record {
    says = either_way (Each (λ l. TurnSays history l.msg)) (is_matched c b) (ask_acceptors c mine b) (ask_matchmakers mine v.set b.turn)
        (each_mapped (λ l. TurnSays history l.msg) (pre_read_to mine b) (members_of c (live_entries b.told)) (λ a m. kept_so b is))
        (each_mapped (λ l. TurnSays history l.msg) (match_read_to mine (asking_of mine b.turn)) v.set (λ m k. kept_so b is));
    runs = kept_so;
  }

  pub turns_good : (i : Input) → Good (reader_row c mine d v i)
  turns_good (input.Take l) = either_way Good (same_role l.to mine && names c l) _ _ (takes_good l.from l.msg) (same _)
  turns_good input.Tick = ticks_good v.running refl
  turns_good (input.Order order) = same _

-- ---- in every run

fresh_kept : (c : Cluster) (history : List KeptRecord) (a : RoleId) (k : Kind) → BatchIsKept history a (fresh_state c k)
fresh_kept c history a kind.Client = tt
fresh_kept c history a kind.Batcher = tt
fresh_kept c history a kind.Leader = tt
fresh_kept c history a kind.Proxy = tt
fresh_kept c history a kind.Acceptor = tt
fresh_kept c history a kind.Matchmaker = tt
fresh_kept c history a kind.Replica = tt
fresh_kept c history a kind.Unbatcher = tt
fresh_kept c history a kind.Reader = λ b e. absurd (none-some b e)
fresh_kept c history a kind.Replacer = tt

opened_kept : (c : Cluster) (history : List KeptRecord) (a : RoleId) (k : Kind) → BatchIsKept history a (opened_state c a history k)
opened_kept c history a kind.Replacer = tt
opened_kept c history a other = fresh_kept c history a other

module _ (history : List KeptRecord) (sent : List Letter) (states : RoleId → State) (h : TurnsKept history sent states) where
  lands : {V : Type 0} (me : RoleId) (make : V → State) (o : Outcome V) → Each (λ d. TurnSays (with_record me o.kept history) d.msg) o.sends
      → BatchIsKept (with_record me o.kept history) me (make o.volatile) → Lands TurnsKept history sent states me make o
  lands me make o says state = record {
    whole = record {
      says = Member-both (λ (d : Letter). TurnSays (with_record me o.kept history) d.msg) sent o.sends
          (λ d m. says_longer history (with_record me o.kept history) (kept_longer me o.kept history) d.msg (h.says d m)) says;
      running = set_running (λ a s. BatchIsKept (with_record me o.kept history) a s) me (make o.volatile) states state
          (λ a e. kept_longer_too history (with_record me o.kept history) (kept_longer me o.kept history) a (states a) (h.running a));
    };
    cut = λ r e. record {
      says = λ d m. says_longer history (entry_by me r ∷ history) (λ k x. inr x) d.msg (h.says d m);
      running = set_running (λ a s. BatchIsKept (entry_by me r ∷ history) a s) me Down states tt
          (λ a q. kept_longer_too history (entry_by me r ∷ history) (λ k x. inr x) a (states a) (h.running a));
    };
  }

  -- a role whose datagrams are of no turn, or of one that was answered
  plainly : {V : Type 0} (me : RoleId) (make : V → State) (o : Outcome V) → Each (λ d. TurnSays history d.msg) o.sends
      → BatchIsKept (with_record me o.kept history) me (make o.volatile) → Lands TurnsKept history sent states me make o
  plainly me make o says state =
      lands me make o (λ d m. says_longer history (with_record me o.kept history) (kept_longer me o.kept history) d.msg (says d m)) state

  acceptor_says : (c : Cluster) (me : RoleId) (d : AcceptorDurable) (i : Input) → Given sent me i
      → Each (λ x. TurnSays history x.msg) (acceptor_row c me d tt i).sends
  acceptor_says c me d (input.Take l) given =
      either_way (λ (o : Outcome (Unit {0})). Each (λ x. TurnSays history x.msg) o.sends) (same_role l.to me && names c l) _ _
      (acceptor_tells (λ x. TurnSays history x.msg) me (λ to m p. plain_turn history m p) d l.from l.msg
      (λ u w e. subst (λ m. TurnSays history m) e (h.says l given.1))) (λ x m. absurd m)
  acceptor_says c me d input.Tick given = λ x m. absurd m
  acceptor_says c me d (input.Order order) given = λ x m. absurd m

  matchmaker_says : (c : Cluster) (me : RoleId) (d : MatchmakerDurable) (i : Input) → Given sent me i
      → Each (λ x. TurnSays history x.msg) (matchmaker_row c me d tt i).sends
  matchmaker_says c me d (input.Take l) given =
      either_way (λ (o : Outcome (Unit {0})). Each (λ x. TurnSays history x.msg) o.sends) (same_role l.to me && names c l) _ _
      (matchmaker_tells (λ x. TurnSays history x.msg) c me (λ to m p. plain_turn history m p) d l.from l.msg
      (λ u e b f. subst (λ m. TurnSays history m) e (h.says l given.1))) (λ x m. absurd m)
  matchmaker_says c me d input.Tick given = λ x m. absurd m
  matchmaker_says c me d (input.Order order) given = λ x m. absurd m

pub turns_laws : (c : Cluster) → Laws c (λ n e. Unit {0}) anything TurnsKept
turns_laws c = record {
  same =
      λ history sent states others e h. record { says = h.says; running = λ a. subst (λ s. BatchIsKept history a s) (e a) (h.running a) };
  start = λ states is. record {
    says = λ d m. absurd m;
    running = λ a. elim (is a) [
      | inl e ↦ subst (λ s. BatchIsKept [] a s) (sym e) tt
      | inr e ↦ subst (λ s. BatchIsKept [] a s) (sym e) (fresh_kept c [] a a.kind)
    ];
  };
  stop = λ history sent states me h.
      record { says = h.says; running = set_running (λ a s. BatchIsKept history a s) me Down states tt (λ a e. h.running a) };
  wake = λ history sent states me h down. record {
    says = h.says;
    running = set_running (λ a s. BatchIsKept history a s) me (opened_state c me history me.kind) states
        (opened_kept c history me me.kind) (λ a e. h.running a);
  };
  ask = λ history sent states n e allowed known h. record {
    says = Member-both (λ (d : Letter). TurnSays history d.msg) sent (request n e) h.says
        (requested (λ d. TurnSays history d.msg) (λ from to command. tt) (λ from to seq replica key. tt) (λ from to seq k key. tt) n e);
    running = h.running;
  };
  batcher = λ history sent states b v i known h up given.
      plainly history sent states h (role kind.Batcher b) BatcherIn _ (sends_only (λ d. TurnSays history d.msg) (role kind.Batcher b)
      _ (batcher_kinds c (role kind.Batcher b) refl v i) (λ to. batcher_sends (λ m. TurnSays history m) (λ commands. tt))) tt;
  leader = λ history sent states l v i known h up given.
      plainly history sent states h (role kind.Leader l) LeaderIn _ (sends_only (λ d. TurnSays history d.msg) (role kind.Leader l)
      _ (leader_kinds c (role kind.Leader l) refl (durable_of leader_rules (role kind.Leader l) history) v i)
      (λ to. leader_sends (λ m. TurnSays history m) (λ j. tt) (λ j g. tt) (λ j. tt) (λ j g s cw u. tt) (λ j cw. tt) (λ j g. tt))) tt;
  proxy = λ history sent states p v i known h up given.
      plainly history sent states h (role kind.Proxy p) ProxyIn _
      (sends_only (λ d. TurnSays history d.msg) (role kind.Proxy p) _ (proxy_kinds c (role kind.Proxy p) refl v i)
      (λ to. proxy_sends (λ m. TurnSays history m) (λ j s cw u. tt) (λ s u. tt) (λ j s. tt))) tt;
  acceptor = λ history sent states a i known h up given. plainly history sent states h (role kind.Acceptor a) plain _ (acceptor_says history
      sent states h c (role kind.Acceptor a) (durable_of acceptor_rules (role kind.Acceptor a) history) i given) tt;
  matchmaker = λ history sent states m i known h up given.
      plainly history sent states h (role kind.Matchmaker m) plain _ (matchmaker_says history sent states h c (role kind.Matchmaker m)
      (durable_of matchmaker_rules (role kind.Matchmaker m) history) i given) tt;
  replica = λ history sent states p v i known h up given.
      plainly history sent states h (role kind.Replica p) ReplicaIn _ (sends_only (λ d. TurnSays history d.msg) (role kind.Replica p)
      _ (replica_kinds c (role kind.Replica p) refl (durable_of replica_rules (role kind.Replica p) history) v i)
      (λ to. replica_sends (λ m. TurnSays history m) (λ s u. tt) (λ s answers. tt) (λ n. tt) (λ s. tt) (λ seq n found. tt))) tt;
  snap = λ history sent states p v first known h up e. record {
    says = λ d m. says_longer history (snap_by (role kind.Replica p) first ∷ history) (λ k x. inr x) d.msg (h.says d m);
    running = λ a. kept_longer_too history (snap_by (role kind.Replica p) first ∷ history) (λ k x. inr x) a (states a) (h.running a);
  };
  acceptor_anew = λ history sent states p first known h up e. record {
    says = λ d m. says_longer history (snap_by (role kind.Acceptor p) first ∷ history) (λ k x. inr x) d.msg (h.says d m);
    running = λ a. kept_longer_too history (snap_by (role kind.Acceptor p) first ∷ history) (λ k x. inr x) a (states a) (h.running a);
  };
  reader_anew = λ history sent states p first v known h up e. record {
    says = λ d m. says_longer history (snap_by (role kind.Reader p) first ∷ history) (λ k x. inr x) d.msg (h.says d m);
    running = λ a. kept_longer_too history (snap_by (role kind.Reader p) first ∷ history) (λ k x. inr x) a (states a) (h.running a);
  };
  unbatcher = λ history sent states u i known h up given.
      plainly history sent states h (role kind.Unbatcher u) plain _ (sends_only (λ d. TurnSays history d.msg) (role kind.Unbatcher u)
      _ (unbatcher_kinds c (role kind.Unbatcher u) refl i) (λ to. unbatcher_sends (λ m. TurnSays history m) (λ seq at reply. tt))) tt;
  reader = λ history sent states r v i known h up given.
      let good = turns_good r history (durable_of reader_rules (reader r) history) v c
      (subst (λ s. BatchIsKept history (reader r) s) up (h.running (reader r))) i in
      lands history sent states h (reader r) ReaderIn _ good.says good.runs;
  replacer = λ history sent states x v i known h up given.
      plainly history sent states h (role kind.Replacer x) ReplacerIn _ (sends_only (λ d. TurnSays history d.msg) (role kind.Replacer x)
      _ (replacer_kinds c (role kind.Replacer x) refl (durable_of replacer_rules (role kind.Replacer x) history) v i)
      (λ to. replacer_sends (λ m. TurnSays history m) (λ b. tt) (λ b s. tt) (λ s w es. tt) (λ s. tt))) tt;
}

pub turns_hold : (c : Cluster) (es : List Event) → HoldsIn TurnsKept (run c es)
turns_hold c es =
    run_keeps c (λ n e. Unit {0}) anything TurnsKept (turns_laws c) es (along_anything (run c []) es) (all_allowed (run c []) es)
