-- Each set that a replacer tells, keeps or comes to know was decided, but for the first.
use Rattle.cx_inv_run.proofs.Common.{◌≡◌, ◌⊎◌, ◌<◌, ◌+◌, ◌*◌, ℕ, true, not, ◌&&◌, ◌||◌, nat_lt, bytes_eq, map, List, [], ◌∷◌, ◌++◌, length}
use Rattle.cx_inv_run.proofs.Common.{Option, Some, None, inl, inr, ap, sym, ◌∙◌, subst, refl, arith, same_Some, and_parts, not-false}
use Rattle.cx_inv_run.proofs.Common.{Cluster, Event, Kind, RoleId, Round, Why, Entry, Letter, Input, Take, Tick, Order, KeptRecord, Record}
use Rattle.cx_inv_run.proofs.Common.{Msg}
use Rattle.cx_inv_run.proofs.Common.{Lead, Collect, Offer, Replace, role, same_role, same_round, is_in, is_above, with_mark, lead_after}
use Rattle.cx_inv_run.proofs.Common.{below}
use Rattle.cx_inv_run.proofs.Common.{Member, HasKept, OfEveryRun, Outcome, only_word, replied, by_test, either_way, names, names_set}
use Rattle.cx_inv_run.proofs.Common.{enough}
use Rattle.cx_inv_run.proofs.Common.{Replacing, Stopping, Deciding, Booting, ReplacerDurable, ReplacerVolatile, replacer_rules, is_stopping}
use Rattle.cx_inv_run.proofs.Common.{is_deciding, is_booting, is_resting, has_halted, joined_entries, to_decide, decide, halt_counted}
use Rattle.cx_inv_run.proofs.Common.{first_set, replacer_takes, replacer_orders, replacer_row, request, run, run_append, run_keeps}
use Rattle.cx_inv_run.proofs.Common.{all_allowed, append_assoc, HoldsAlong, HoldsIn, Laws, Lands, OfKind, IsSender, IsKept, State, Down}
use Rattle.cx_inv_run.proofs.Common.{BatcherIn, LeaderIn, ProxyIn, ReplicaIn, ReaderIn, ReplacerIn, plain, fresh_state, opened_state}
use Rattle.cx_inv_run.proofs.Common.{opened_set, Given, set_state, set_running, snap_by, with_record, durable_of, kept_cases, no_snap}
use Rattle.cx_inv_run.proofs.Common.{Member-both, Member-cases, Member-one, Member-reverse, Member-below, acceptor_kinds, batcher_kinds}
use Rattle.cx_inv_run.proofs.Common.{leader_kinds, matchmaker_kinds, proxy_kinds, reader_kinds, replica_kinds, unbatcher_kinds}
use Rattle.cx_inv_run.proofs.Common.{acceptor_rules, leader_rules, matchmaker_rules, reader_rules, replica_rules}
use Rattle.cx_base.specs.declared.event.Event.TheVariants as event
use Rattle.cx_base.specs.declared.event.Order.{Order as OrderOf}
use Rattle.cx_base.specs.declared.event.Order.TheVariants.{Change}
use Rattle.cx_base.specs.declared.role.Kind.TheVariants as kind
use Rattle.cx_base.specs.declared.why.Why.TheVariants as why
use Rattle.cx_letter.specs.declared.kept.Record.TheVariants as kept
use Rattle.cx_letter.specs.declared.message.Msg.TheVariants as msg
use Rattle.cx_model.specs.declared.states.Replacing.TheVariants.{Idle}
use Rattle.cx_model.specs.Promises.{KeptSetsAreDecided}
use Rattle.cx_model.specs.Replacer.{begin_in, boot_a_to, boot_b_row, known_record, known_set, next_a_to, next_b_row, others}
use Rattle.cx_model.specs.Replacer.{sets_row, sets_to, sets_to_all, stop_a_to, stop_b_row, stop_nack_row, tick_in, with_seen}
use Rattle.cx_inv_match.proofs.Chains.{above_at}
use Rattle.cx_inv_vote.proofs.Leading.{each}
use Rattle.cx_inv_vote.proofs.OneSet.{IsOfChain, all_decided, decided_more, start_decided}
use Rattle.cx_inv_vote.proofs.Replacers.{booting-mode}

module _ (P : List ℕ → Type 0) (c : Cluster) where
  abbrev IsFirstOr : List ℕ → Type 0
  IsFirstOr s = (s ≡ first_set c) ⊎ P s

  -- the set that a replacer knows
  abbrev Knows : State → Type 0
  Knows (ReplacerIn v) = IsFirstOr v.set
  Knows other = Unit {0}

  abbrev Tells : List Letter → Type 0
  Tells ds = (d : Letter) → Member d ds → (t : List ℕ) → msg.Sets t ≡ d.msg → P t

  record AreSuch (history : List KeptRecord) (sent : List Letter) (states : RoleId → State) : Type 0 where
    told : Tells sent
    kept_sets : (who : RoleId) (t : List ℕ) → HasKept history who (kept.Known t) → P t
    known : (a : RoleId) → Knows (states a)

  -- which is known: the sets that replacers let begin are such
  abbrev BeginSuch : List KeptRecord → List Letter → (RoleId → State) → Type 0
  BeginSuch history sent states =
      (x : ℕ) (v : ReplacerVolatile) → states (role kind.Replacer x) ≡ ReplacerIn v → v.mode ≡ Booting → P v.next

  -- THE ROWS OF A REPLACER

  record RowIs (o : Outcome ReplacerVolatile) : Type 0 where
    tells : Tells o.sends
    keeps : (t : List ℕ) → o.kept ≡ Some (kept.Known t) → P t
    set : IsFirstOr (o.volatile).set

  -- a set above the first isn't the first
  above_first : (s : List ℕ) → IsFirstOr s → is_above s (first_set c) ≡ true → P s
  above_first s (inr p) t = p
  above_first s (inl e) t =
      let least : Member 0 (first_set c) = Member-below 0 (2 * c.f + 1) (omega arith) in
      let low : 0 < 0 = above_at (first_set c) (first_set c) (subst (λ y. is_above y (first_set c) ≡ true) e t) 0 0 least least in
      absurd (omega arith)

  module _ (me : RoleId) (d : ReplacerDurable) (v : ReplacerVolatile) (known : IsFirstOr v.set) (begins : v.mode ≡ Booting → P v.next) where
    quiet : (w : Why) (u : ReplacerVolatile) → IsFirstOr u.set → RowIs (only_word w u)
    quiet w u k = record { tells = λ x m. absurd m; keeps = λ t e. cc; set = k }

    same : (w : Why) → RowIs (only_word w v)
    same w = quiet w v known

    sending : (w : Why) (u : ReplacerVolatile) (ds : List Letter) → IsFirstOr u.set → Tells ds → RowIs (replied w u ds)
    sending w u ds k tells = record { tells = tells; keeps = λ t e. cc; set = k }

    tells_none : (make : ℕ → Letter) (ns : List ℕ) → ((n : ℕ) (t : List ℕ) → msg.Sets t ≡ (make n).msg → P t) → Tells (map make ns)
    tells_none make ns h = each (λ (x : Letter). (t : List ℕ) → msg.Sets t ≡ x.msg → P t) make ns h

    tells_set : (s : List ℕ) → P s → (to : RoleId) (t : List ℕ) → msg.Sets t ≡ (sets_to me s to).msg → P t
    tells_set s p to t e = (let q : s ≡ t = cc in subst P q p)

    tells_all : (s : List ℕ) → P s → Tells (sets_to_all c me s)
    tells_all s p =
        Member-both (λ (x : Letter). (t : List ℕ) → msg.Sets t ≡ x.msg → P t)
        (map (λ l. sets_to me s (role kind.Leader l)) (below c.leaders) ++ map (λ r. sets_to me s (role kind.Reader r)) (below c.readers))
        (map (λ y. sets_to me s (role kind.Replacer y)) (others c me))
        (Member-both (λ (x : Letter). (t : List ℕ) → msg.Sets t ≡ x.msg → P t)
        (map (λ l. sets_to me s (role kind.Leader l)) (below c.leaders)) (map (λ r. sets_to me s (role kind.Reader r)) (below c.readers))
        (tells_none (λ l. sets_to me s (role kind.Leader l)) (below c.leaders) (λ n. tells_set s p (role kind.Leader n)))
        (tells_none (λ r. sets_to me s (role kind.Reader r)) (below c.readers) (λ n. tells_set s p (role kind.Reader n))))
        (tells_none (λ y. sets_to me s (role kind.Replacer y)) (others c me) (λ n. tells_set s p (role kind.Replacer n)))

    keeps_such : (s : List ℕ) → P s → (t : List ℕ) → known_record c d s ≡ Some (kept.Known t) → P t
    keeps_such s p t =
        either_way (λ (o : Option Record). o ≡ Some (kept.Known t) → P t) (c.keep_sets && is_above s (known_set c d))
        (Some (kept.Known s)) None
        (λ e. let r : kept.Known s ≡ kept.Known t = same_Some (kept.Known s) (kept.Known t) e in
        let q : s ≡ t = cc in
        subst P q p)
        (λ e. cc)

    begin_is : (s : List ℕ) (next : Option Round) → RowIs (begin_in me v s next)
    begin_is s None = same why.End
    begin_is s (Some b) = record { tells = tells_none (stop_a_to me b) v.set (λ n t e. cc); keeps = λ t e. cc; set = known }

    order_is : (order : OrderOf) → RowIs (replacer_orders c me d v order)
    order_is (Replace s) =
        either_way RowIs (not (names_set c s)) _ _ (same why.Stranger)
        (either_way RowIs (not (is_above s v.set)) _ _ (same why.Old) (begin_is s (lead_after d.own v.seen me.index)))
    order_is (Lead g) = same why.Stranger
    order_is (Change g) = same why.Stranger
    order_is Collect = same why.Stranger
    order_is (Offer to s) = same why.Stranger

    tick_is : (mode : Replacing) → RowIs (tick_in c me d v mode)
    tick_is Idle =
        by_test RowIs (is_above v.set (first_set c)) _ _
        (λ t. sending why.Resent v (sets_to_all c me v.set) known (tells_all v.set (above_first v.set known t)))
        (λ f. same why.Idle)
    tick_is Stopping = sending why.Resent v (map (stop_a_to me d.own) v.set) known (tells_none (stop_a_to me d.own) v.set (λ n t e. cc))
    tick_is Deciding =
        sending why.Resent v (map (next_a_to me d.own v.next) v.set) known (tells_none (next_a_to me d.own v.next) v.set (λ n t e. cc))
    tick_is Booting =
        sending why.Resent v (map (boot_a_to me v.next v.watermark v.entries) v.next) known
        (tells_none (boot_a_to me v.next v.watermark v.entries) v.next (λ n t e. cc))

    decide_is : (u : ReplacerVolatile) → u.set ≡ v.set → (es : List Entry) (s : List ℕ) → RowIs (decide me d u es s)
    decide_is u e es s =
        either_way RowIs (nat_lt 254 (length es)) _ _ (quiet why.Full _ (subst IsFirstOr (sym e) known))
        (sending why.Asking _ (map (next_a_to me d.own s) u.set) (subst IsFirstOr (sym e) known)
        (tells_none (next_a_to me d.own s) u.set (λ n t q. cc)))

    halt_is : (u : ReplacerVolatile) → u.set ≡ v.set → RowIs (halt_counted c me d u)
    halt_is u e =
        either_way RowIs (nat_lt (length u.halts) (enough c)) _ _ (quiet why.Counted u (subst IsFirstOr (sym e) known))
        (decide_is u e (joined_entries u.halts) (to_decide u.next u.halts))

    stop_b_is : (from : RoleId) (b w : Round) (es : List Entry) (a : Round) (s : List ℕ) → RowIs (stop_b_row c me d v from b w es a s)
    stop_b_is from b w es a s =
        either_way RowIs (not (is_stopping v.mode && same_round b d.own && is_in from.index v.set)) _ _ (same why.Old)
        (either_way RowIs (has_halted from.index v.halts) _ _ (same why.Same) (halt_is _ refl))

    next_b_is : (from : RoleId) (b : Round) → RowIs (next_b_row c me d v from b)
    next_b_is from b =
        either_way RowIs (not (is_deciding v.mode && same_round b d.own)) _ _ (same why.Old)
        (either_way RowIs (is_in from.index v.counted) _ _ (same why.Same)
        (either_way RowIs (nat_lt (length (with_mark from.index v.counted)) (enough c)) _ _ (quiet why.Counted _ known)
        (sending why.Decided _ (map (boot_a_to me v.next v.watermark v.entries) v.next) known
        (tells_none (boot_a_to me v.next v.watermark v.entries) v.next (λ n t e. cc)))))

    -- it comes to know the set that it let begin
    boot_b_is : (from : RoleId) (s : List ℕ) → RowIs (boot_b_row c me d v from s)
    boot_b_is from s =
        by_test RowIs (not (is_booting v.mode && bytes_eq s v.next)) _ _
        (λ t. same why.Old)
        (λ f. let p = begins (booting-mode v.mode (and_parts (is_booting v.mode) (bytes_eq s v.next) (not-false _ f)).0) in
        either_way RowIs (is_in from.index v.counted) _ _ (same why.Same)
        (either_way RowIs (nat_lt (length (with_mark from.index v.counted)) (enough c)) _ _ (quiet why.Counted _ known)
        (record { tells = tells_all v.next p; keeps = keeps_such v.next p; set = inr p })))

    stop_nack_is : (b other : Round) → RowIs (stop_nack_row d v b other)
    stop_nack_is b other =
        either_way RowIs (not (same_round b d.own) || is_resting v.mode || is_booting v.mode) _ _ (quiet why.Old (with_seen other v) known)
        (quiet why.Nacked (record (with_seen other v) { mode = Idle }) known)

    -- another one tells it
    sets_is : (s : List ℕ) → P s → RowIs (sets_row c d v s)
    sets_is s p =
        either_way RowIs (is_above s v.set) _ _ (record { tells = λ x m. absurd m; keeps = keeps_such s p; set = inr p }) (same why.Old)

    takes_is : (from : RoleId) (m : Msg) → ((t : List ℕ) → msg.Sets t ≡ m → P t) → RowIs (replacer_takes c me d v from m)
    takes_is from (msg.StopB b w es a s) told = stop_b_is from b w es a s
    takes_is from (msg.NextB b) told = next_b_is from b
    takes_is from (msg.BootB s) told = boot_b_is from s
    takes_is from (msg.StopNack b other) told = stop_nack_is b other
    takes_is from (msg.Sets s) told = sets_is s (told s refl)
    takes_is from other told = same why.Stranger

    row_is : (sent : List Letter) → Tells sent → (i : Input) → ((x : Letter) → i ≡ Take x → Member x sent) → RowIs (replacer_row c me d v i)
    row_is sent told (Take x) given =
        either_way RowIs (same_role x.to me && names c x) _ _ (takes_is x.from x.msg (told x (given x refl))) (same why.Stranger)
    row_is sent told Tick given = tick_is v.mode
    row_is sent told (Order order) given = order_is order

  -- EACH STEP

  fresh_knows : (k : Kind) → Knows (fresh_state c k)
  fresh_knows kind.Client = tt
  fresh_knows kind.Batcher = tt
  fresh_knows kind.Leader = tt
  fresh_knows kind.Proxy = tt
  fresh_knows kind.Acceptor = tt
  fresh_knows kind.Matchmaker = tt
  fresh_knows kind.Replica = tt
  fresh_knows kind.Unbatcher = tt
  fresh_knows kind.Reader = tt
  fresh_knows kind.Replacer = inl refl

  requested : (n : ℕ) (e : Event) → Tells (request n e)
  requested n (event.Write command batcher) = Member-one (λ (d : Letter). (t : List ℕ) → msg.Sets t ≡ d.msg → P t) _ (λ t e. cc)
  requested n (event.Read client seq floor reader replica key) =
      Member-one (λ (d : Letter). (t : List ℕ) → msg.Sets t ≡ d.msg → P t) _ (λ t e. cc)
  requested n (event.Session client seq floor replica key) =
      Member-one (λ (d : Letter). (t : List ℕ) → msg.Sets t ≡ d.msg → P t) _ (λ t e. cc)
  requested n (event.Deliver number cut) = λ d m. absurd m
  requested n (event.Tick r) = λ d m. absurd m
  requested n (event.Order leader order cut) = λ d m. absurd m
  requested n (event.Replace replacer set cut) = λ d m. absurd m
  requested n (event.Offer replica to slot) = λ d m. absurd m
  requested n (event.Snap r cut) = λ d m. absurd m
  requested n (event.Crash r) = λ d m. absurd m
  requested n (event.Restart r) = λ d m. absurd m

  module _ (history : List KeptRecord) (sent : List Letter) (states : RoleId → State) (h : AreSuch history sent states) where
    opened_knows : (me : RoleId) (k : Kind) → Knows (opened_state c me history k)
    opened_knows me kind.Replacer = opened_set IsFirstOr c me history (inl refl) (λ s k. inr (h.kept_sets me s k))
    opened_knows me other = fresh_knows other

    -- a role's state
    with_state : (me : RoleId) (s : State) → Knows s → AreSuch history sent (set_state me s states)
    with_state me s k = record {
      told = h.told;
      kept_sets = h.kept_sets;
      known = set_running (λ a x. Knows x) me s states k (λ a e. h.known a);
    }

    told_more : (ds : List Letter) → Tells ds → Tells (sent ++ ds)
    told_more ds tells d m = elim (Member-cases d sent ds m) [ inl k ↦ h.told d k | inr k ↦ tells d k ]

    kept_more : (me : RoleId) (r : Option Record) → ((t : List ℕ) → r ≡ Some (kept.Known t) → P t) → (who : RoleId) (t : List ℕ)
        → HasKept (with_record me r history) who (kept.Known t) → P t
    kept_more me None keeps who t x = h.kept_sets who t x
    kept_more me (Some r) keeps who t x = elim (kept_cases me who r (kept.Known t) history x) [
      | inl q ↦ keeps t (ap (λ y. Some y) (sym q.1))
      | inr o ↦ h.kept_sets who t o
    ]

    landed : {V : Type 0} (me : RoleId) (make : V → State) (o : Outcome V) → Tells o.sends
        → ((t : List ℕ) → o.kept ≡ Some (kept.Known t) → P t) → Knows (make o.volatile) → Lands AreSuch history sent states me make o
    landed me make o tells keeps k = record {
      whole = record {
        told = told_more o.sends tells;
        kept_sets = kept_more me o.kept keeps;
        known = set_running (λ a x. Knows x) me (make o.volatile) states k (λ a e. h.known a);
      };
      cut = λ r e. record {
        told = h.told;
        kept_sets = kept_more me (Some r) (λ t q. keeps t (e ∙ q));
        known = set_running (λ a x. Knows x) me Down states tt (λ a q. h.known a);
      };
    }

    -- a role that is no replacer
    calm : {V : Type 0} (me : RoleId) (make : V → State) (o : Outcome V) → (me.kind ≡ kind.Replacer → ⊥) → OfKind me o
        → Knows (make o.volatile) → Lands AreSuch history sent states me make o
    calm me make o other kinds k =
        landed me make o (λ d m t e. absurd (other (subst (λ x. IsSender me.kind x) (sym e) (kinds.sends d m).1)))
        (λ t e. absurd (other (subst (λ x. IsKept me.kind x) e kinds.keeps))) k

    renewed : (me : RoleId) (first : ℕ) → AreSuch (snap_by me first ∷ history) sent states
    renewed me first = record {
      told = h.told;
      kept_sets = λ who t x. h.kept_sets who t (no_snap me who first (kept.Known t) history x);
      known = h.known;
    }

  such_laws : Laws c (λ n e. Unit {0}) BeginSuch AreSuch
  such_laws = record {
    same = λ history sent states others e h.
        record { told = h.told; kept_sets = h.kept_sets; known = λ a. subst (λ s. Knows s) (e a) (h.known a) };
    start = λ states starts. record {
      told = λ d m. absurd m;
      kept_sets = λ who t x. absurd x;
      known = λ a. elim (starts a) [
        | inl e ↦ subst (λ s. Knows s) (sym e) tt
        | inr e ↦ subst (λ s. Knows s) (sym e) (fresh_knows a.kind)
      ];
    };
    stop = λ history sent states me h. with_state history sent states h me Down tt;
    wake = λ history sent states me h down.
        with_state history sent states h me (opened_state c me history me.kind) (opened_knows history sent states h me me.kind);
    ask = λ history sent states n e allowed known h. record {
      told = told_more history sent states h (request n e) (requested n e);
      kept_sets = h.kept_sets;
      known = h.known;
    };
    batcher = λ history sent states b v i known h is given.
        calm history sent states h (role kind.Batcher b) BatcherIn _ (λ p. cc) (batcher_kinds c (role kind.Batcher b) refl v i) tt;
    leader = λ history sent states l v i known h is given. calm history sent states h (role kind.Leader l) LeaderIn
        _ (λ p. cc) (leader_kinds c (role kind.Leader l) refl (durable_of leader_rules (role kind.Leader l) history) v i) tt;
    proxy = λ history sent states p v i known h is given.
        calm history sent states h (role kind.Proxy p) ProxyIn _ (λ q. cc) (proxy_kinds c (role kind.Proxy p) refl v i) tt;
    acceptor = λ history sent states a i known h is given. calm history sent states h (role kind.Acceptor a) plain
        _ (λ p. cc) (acceptor_kinds c (role kind.Acceptor a) refl (durable_of acceptor_rules (role kind.Acceptor a) history) i) tt;
    matchmaker = λ history sent states m i known h is given. calm history sent states h (role kind.Matchmaker m) plain
        _ (λ p. cc) (matchmaker_kinds c (role kind.Matchmaker m) refl (durable_of matchmaker_rules (role kind.Matchmaker m) history) i) tt;
    replica = λ history sent states p v i known h is given. calm history sent states h (role kind.Replica p) ReplicaIn
        _ (λ q. cc) (replica_kinds c (role kind.Replica p) refl (durable_of replica_rules (role kind.Replica p) history) v i) tt;
    snap = λ history sent states p v first known h is e. renewed history sent states h (role kind.Replica p) first;
    acceptor_anew = λ history sent states a first known h is e. renewed history sent states h (role kind.Acceptor a) first;
    reader_anew = λ history sent states r first v known h is e. renewed history sent states h (role kind.Reader r) first;
    unbatcher = λ history sent states u i known h is given.
        calm history sent states h (role kind.Unbatcher u) plain _ (λ p. cc) (unbatcher_kinds c (role kind.Unbatcher u) refl i) tt;
    reader = λ history sent states r v i known h is given. calm history sent states h (role kind.Reader r) ReaderIn
        _ (λ p. cc) (reader_kinds c (role kind.Reader r) refl (durable_of reader_rules (role kind.Reader r) history) v i) tt;
    replacer = λ history sent states x v i known h is given.
        let me = role kind.Replacer x in
        let row = row_is me (durable_of replacer_rules me history) v (subst (λ s. Knows s) is (h.known me)) (known x v is) sent h.told i
        (λ d e. (subst (λ y. Given sent me y) e given).1) in
        landed history sent states h me ReplacerIn (replacer_row c me (durable_of replacer_rules me history) v i)
        row.tells row.keeps row.set;
  }

-- THE RUN

module _ (c : Cluster) (es : List Event) where
  -- what replacers let begin at each of its moments was decided by one of its events
  begin_now : (then later : List Event) → then ++ later ≡ es → HoldsIn (BeginSuch (IsOfChain c es) c) (run c then)
  begin_now then later q x v e m =
      let d = (all_decided c [] then (start_decided c)).boots x v e m in
      subst (λ l. IsOfChain c l v.next) q (d.0, decided_more c then later d.0 v.next d.1)

  begin_along : (then later : List Event) → then ++ later ≡ es → HoldsAlong (BeginSuch (IsOfChain c es) c) (run c then) later
  begin_along then [] q = begin_now then [] q
  begin_along then (e ∷ later) q = (
    begin_now then (e ∷ later) q,
    subst (λ w. HoldsAlong (BeginSuch (IsOfChain c es) c) w later) (run_append c then (e ∷ []))
        (begin_along (then ++ e ∷ []) later (append_assoc then (e ∷ []) later ∙ q)),
  )

  all_such : HoldsIn (AreSuch (IsOfChain c es) c) (run c es)
  all_such =
      run_keeps c (λ n e. Unit {0}) (BeginSuch (IsOfChain c es) c) (AreSuch (IsOfChain c es) c) (such_laws (IsOfChain c es) c) es
      (begin_along [] es refl) (all_allowed (run c []) es)

pub kept_sets_are_decided : OfEveryRun KeptSetsAreDecided
kept_sets_are_decided c es who t m = (all_such c es).kept_sets who t (Member-reverse _ (run c es).kept m)
