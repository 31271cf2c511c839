-- Each step leaves what a role notes with the datagram that it came in; so it is in every run, and datagrams and records are in this order.
use Rattle.cx_inv_run.proofs.Common.{◌≡◌, ℕ, true, false, List, [], ◌∷◌, ◌++◌, reverse, Option, None, Some, ap, sym, subst, refl, inl, inr}
use Rattle.cx_inv_run.proofs.Common.{Cluster, Event, Kind, RoleId, Round, Shape, role, same_role, same_round, Entry, Letter, Input}
use Rattle.cx_inv_run.proofs.Common.{KeptRecord, Record, HasRound, LeaderDurable, LeaderVolatile, leader_rules, leader_row, round_of, entry}
use Rattle.cx_inv_run.proofs.Common.{Member, Outcome, HasKept, IsConfig, ProxyVolatile, proxy_row, request, World, run, records_of, Lands}
use Rattle.cx_inv_run.proofs.Common.{Laws, State, Down, BatcherIn, LeaderIn, ProxyIn, ReplicaIn, ReaderIn, ReplacerIn, plain, fresh_state}
use Rattle.cx_inv_run.proofs.Common.{opened_state, set_state, snap_by, with_record, durable_of, Given, HoldsIn, durable_by_time}
use Rattle.cx_inv_run.proofs.Common.{durable_other, set_running, kinds_hold, Member-first, any-Member, same_round-true, snap_same, always}
use Rattle.cx_inv_run.proofs.Common.{acceptor_snap_same, reader_snap_same}
use Rattle.cx_base.specs.declared.role.Kind.TheVariants as kind
use Rattle.cx_letter.specs.declared.kept.Record.TheVariants as kept
use Rattle.cx_model.specs.Facts.{has_recorded, is_round_in}
use Rattle.cx_inv_match.specs.Facts.{Facts, InState}
use Rattle.cx_inv_vote.proofs.Steps.{facts_hold}
use Rattle.cx_inv_facts.specs.Ended.{Known}
use Rattle.cx_inv_facts.specs.Laws.{SourcesHold, OrderHolds}
use Rattle.cx_inv_facts.specs.Sources.{IsNamedByRefusal, LeaderNotes, ProxyNotes, SourceFacts, OrderFacts}
use Rattle.cx_inv_facts.proofs.Done.{retires_after}
use Rattle.cx_inv_facts.proofs.Moments.{to_turned, of_records}
use Rattle.cx_inv_facts.proofs.NotedRows.{notes_on, proxy_notes}

module _ (c : Cluster) where
  abbrev NotedState : List KeptRecord → List Letter → RoleId → State → Type 0
  NotedState history sent me (LeaderIn v) = LeaderNotes c sent me (round_of (durable_of leader_rules me history).own) v
  NotedState history sent me (ProxyIn v) = ProxyNotes sent me v
  NotedState history sent me other = Unit {0}

  abbrev AreNoted : List KeptRecord → List Letter → (RoleId → State) → Type 0
  AreNoted history sent states = (me : RoleId) → NotedState history sent me (states me)

  -- with more datagrams

  module _ (sent more : List Letter) (has : (d : Letter) → Member d sent → Member d more) (me : RoleId) where
    leader_more : (i : Round) (v : LeaderVolatile) → LeaderNotes c sent me i v → LeaderNotes c more me i v
    leader_more i v h = record {
      seen = elim h.seen [ inl e ↦ inl e | inr n ↦ inr (named n) ];
      proposed = λ p m. elim (h.proposed p m) [
        | inl e ↦ inl e
        | inr k ↦ (elim k [
          | inl r ↦ inr (inl record {
            round = r.round;
            cw = r.cw;
            votes = r.votes;
            came = (r.came.0, has _ r.came.1);
            vote = r.vote;
            member = r.member;
            slot = r.slot;
            value = r.value;
          })
          | inr b ↦ inr (inr (b.0, b.1, (b.2.0, has _ b.2.1)))
        ])
      ];
      cw = elim h.cw [
        | inl e ↦ inl e
        | inr k ↦ (elim k [ inl p ↦ inr (inl (p.0, p.1, (p.2.0, has _ p.2.1))) | inr l ↦ inr (inr l) ])
      ];
      once = h.once;
      retired = λ t. let r = h.retired t in (r.0, λ m k. has _ (r.1 m k));
    }
      where
        named : IsNamedByRefusal sent me v.seen → IsNamedByRefusal more me v.seen
        named (inl n) = inl (n.0, (n.1.0, has _ n.1.1))
        named (inr n) = inr (n.0, n.1, (n.2.0, has _ n.2.1))

    proxy_more : (v : ProxyVolatile) → ProxyNotes sent me v → ProxyNotes more me v
    proxy_more v (inl e) = inl e
    proxy_more v (inr k) = inr (k.0, k.1, k.2, k.3, (k.4.0, has _ k.4.1))

    state_more : (history longer : List KeptRecord) → durable_of leader_rules me longer ≡ durable_of leader_rules me history → (s : State)
        → NotedState history sent me s → NotedState longer more me s
    state_more history longer same (LeaderIn v) h = subst (λ (d : LeaderDurable). LeaderNotes c more me (round_of d.own) v) (sym same)
        (leader_more (round_of (durable_of leader_rules me history).own) v h)
    state_more history longer same (ProxyIn v) h = proxy_more v h
    state_more history longer same s h = tt

  -- after a step of one role

  others_keep : (me : RoleId) (o : Option Record) (history : List KeptRecord) (a : RoleId) → same_role a me ≡ false
      → durable_of leader_rules a (with_record me o history) ≡ durable_of leader_rules a history
  others_keep me None history a e = refl
  others_keep me (Some r) history a e = durable_other leader_rules me a r history e

  noted_after : (history : List KeptRecord) (sent more : List Letter) (has : (d : Letter) → Member d sent → Member d more)
      (states : RoleId → State)
      → AreNoted history sent states → (me : RoleId) (o : Option Record) (s : State) → NotedState (with_record me o history) more me s
      → AreNoted (with_record me o history) more (set_state me s states)
  noted_after history sent more has states h me o s own =
      set_running (λ a x. NotedState (with_record me o history) more a x) me s states own
      (λ a e. state_more sent more has a history (with_record me o history) (others_keep me o history a e) (states a) (h a))

  landed : {V : Type 0} (history : List KeptRecord) (sent : List Letter) (states : RoleId → State) → AreNoted history sent states
      → (me : RoleId) (make : V → State) (o : Outcome V) → NotedState (with_record me o.kept history) (sent ++ o.sends) me (make o.volatile)
      → Lands AreNoted history sent states me make o
  landed history sent states h me make o own = record {
    whole = noted_after history sent (sent ++ o.sends) (λ d m. Member-first d sent o.sends m) states h me o.kept (make o.volatile) own;
    cut = λ r e. noted_after history sent sent (λ d m. m) states h me (Some r) Down tt;
  }

  -- a leader

  module _ (history : List KeptRecord) (sent : List Letter) (states : RoleId → State) (known : Known c [] history sent states)
      (h : AreNoted history sent states)
      (l : ℕ) (v : LeaderVolatile) (j : Input) (at : states (role kind.Leader l) ≡ LeaderIn v)
      (given : Given sent (role kind.Leader l) j) where
    abbrev me : RoleId
    me = role kind.Leader l

    abbrev o : Outcome LeaderVolatile
    o = leader_row c me (durable_of leader_rules me history) v j

    leader_noted : Lands AreNoted history sent states me LeaderIn o
    leader_noted =
        landed history sent states h me LeaderIn o (leader_more sent (sent ++ o.sends) (λ d m. Member-first d sent o.sends m) me
        (round_of (durable_of leader_rules me (with_record me o.kept history)).own) o.volatile
        ((notes_on c history sent states known.kinds me (durable_of leader_rules me history) v
        (subst (λ (s : State). InState c history sent me s) at (known.facts.running me)).0
        (subst (λ (s : State). NotedState history sent me s) at (h me)) j given).after
        (round_of (durable_of leader_rules me (with_record me o.kept history)).own)
        (λ none. ap (λ (r : Option Record). round_of (durable_of leader_rules me (with_record me r history)).own) none)))

  proxy_noted : (history : List KeptRecord) (sent : List Letter) (states : RoleId → State) → AreNoted history sent states
      → (p : ℕ) (v : ProxyVolatile) (j : Input) → states (role kind.Proxy p) ≡ ProxyIn v → Given sent (role kind.Proxy p) j
      → Lands AreNoted history sent states (role kind.Proxy p) ProxyIn (proxy_row c (role kind.Proxy p) tt v j)
  proxy_noted history sent states h p v j at given =
      let o = proxy_row c (role kind.Proxy p) tt v j in
      landed history sent states h (role kind.Proxy p) ProxyIn o
      (proxy_more sent (sent ++ o.sends) (λ d m. Member-first d sent o.sends m) (role kind.Proxy p) o.volatile (proxy_notes c sent
      (role kind.Proxy p) v (subst (λ (s : State). NotedState history sent (role kind.Proxy p) s) at (h (role kind.Proxy p))) j given))

  fresh_noted : (history : List KeptRecord) (sent : List Letter) (me : RoleId) (k : Kind) → NotedState history sent me (fresh_state c k)
  fresh_noted history sent me kind.Leader =
      record { seen = inl refl; proposed = λ p m. absurd m; cw = inl refl; once = tt; retired = λ t. cc }
  fresh_noted history sent me kind.Proxy = inl refl
  fresh_noted history sent me other = tt

  opened_noted : (history : List KeptRecord) (sent : List Letter) (me : RoleId) (k : Kind)
      → NotedState history sent me (opened_state c me history k)
  opened_noted history sent a kind.Replacer = tt
  opened_noted history sent a other = fresh_noted history sent a other

  noted_laws : Laws c (λ n e. Unit {0}) (Known c []) AreNoted
  noted_laws = record {
    same = λ history sent states others same h me. subst (λ (s : State). NotedState history sent me s) (same me) (h me);
    start = λ states starts me. elim (starts me) [
      | inl e ↦ subst (λ (s : State). NotedState [] [] me s) (sym e) tt
      | inr e ↦ subst (λ (s : State). NotedState [] [] me s) (sym e) (fresh_noted [] [] me me.kind)
    ];
    stop = λ history sent states me h. noted_after history sent sent (λ d m. m) states h me None Down tt;
    wake = λ history sent states me h down.
        noted_after history sent sent (λ d m. m) states h me None (opened_state c me history me.kind)
        (opened_noted history sent me me.kind);
    ask = λ history sent states n e allowed known h me.
        state_more sent (sent ++ request n e) (λ d m. Member-first d sent (request n e) m) me history history refl (states me) (h me);
    batcher = λ history sent states b v j known h at given. landed history sent states h (role kind.Batcher b) BatcherIn _ tt;
    leader = λ history sent states l v j known h at given. leader_noted history sent states known h l v j at given;
    proxy = λ history sent states p v j known h at given. proxy_noted history sent states h p v j at given;
    acceptor = λ history sent states a j known h at given. landed history sent states h (role kind.Acceptor a) plain _ tt;
    matchmaker = λ history sent states m j known h at given. landed history sent states h (role kind.Matchmaker m) plain _ tt;
    replica = λ history sent states p v j known h at given. landed history sent states h (role kind.Replica p) ReplicaIn _ tt;
    snap = λ history sent states p v first known h at e me.
        state_more sent sent (λ d m. m) me history (snap_by (role kind.Replica p) first ∷ history)
        ((snap_same history known.kinds.keepers p first).leaders me) (states me) (h me);
    acceptor_anew = λ history sent states p first known h at e me.
        state_more sent sent (λ d m. m) me history (snap_by (role kind.Acceptor p) first ∷ history)
        ((acceptor_snap_same history known.kinds.keepers p first).leaders me) (states me) (h me);
    reader_anew = λ history sent states p first v known h at e me.
        state_more sent sent (λ d m. m) me history (snap_by (role kind.Reader p) first ∷ history)
        ((reader_snap_same history known.kinds.keepers p first).leaders me) (states me) (h me);
    unbatcher = λ history sent states u j known h at given. landed history sent states h (role kind.Unbatcher u) plain _ tt;
    reader = λ history sent states r v j known h at given. landed history sent states h (role kind.Reader r) ReaderIn _ tt;
    replacer = λ history sent states x v j known h at given. landed history sent states h (role kind.Replacer x) ReplacerIn _ tt;
  }

  all_noted : (es : List Event) → HoldsIn AreNoted (run c es)
  all_noted =
      always c (Known c []) AreNoted noted_laws (λ es. record { kinds = kinds_hold c es; facts = facts_hold c es; has = λ k m. absurd m })

module _ (c : Cluster) (es : List Event) where
  abbrev w : World
  w = run c es

  abbrev history : List KeptRecord
  history = w.kept

  pub source_facts : SourceFacts c w
  source_facts = record {
    leaders = λ l v e.
        subst (λ (d : LeaderDurable). LeaderNotes c w.sent (role kind.Leader l) (round_of d.own) v)
        (sym (durable_by_time leader_rules (role kind.Leader l) w.kept))
        (subst (λ (s : State). NotedState c (reverse w.kept) w.sent (role kind.Leader l) s) e
        (all_noted c es (role kind.Leader l)));
    proxies = λ p v e.
        subst (λ (s : State). NotedState c (reverse w.kept) w.sent (role kind.Proxy p) s) e
        (all_noted c es (role kind.Proxy p));
  }

  facts : HoldsIn (Facts c) w
  facts = facts_hold c es

  -- by a record that gives a round a matchmaker has it
  has_by : (m : ℕ) (i : Round) (r : Record) → is_round_in i r ≡ true → HasKept history (role kind.Matchmaker m) r
      → (g : Shape) × HasRound history (role kind.Matchmaker m) i g
  has_by m i (kept.Match j g) t x =
      (g, inl (subst (λ k. HasKept history (role kind.Matchmaker m) (kept.Match k g)) (same_round-true j i t) x))
  has_by m i (kept.Boot s v es) t x =
      let y = any-Member (λ (z : Entry). same_round z.round i) es t in
      ((y.0).grid, inr (s, v, es, x, subst (λ (k : Round). Member (entry k (y.0).grid) es) (same_round-true (y.0).round i y.2) y.1))
  has_by m i r t x = cc

  -- and each round that it has was begun with that grid
  had_config : (who : RoleId) (i : Round) (g : Shape) → HasRound history who i g → IsConfig (reverse history) i g
  had_config who i g (inl x) = facts.asked who i g (to_turned history who (kept.Match i g) x)
  had_config who i g (inr x) =
      ((facts.sets.booted who x.0 x.1 x.2 (to_turned history who (kept.Boot x.0 x.1 x.2) x.3)).1.join.only (entry i g) x.4).0

  recorded_own : (m : ℕ) (i : Round) (g : Shape) → has_recorded history m i ≡ true → IsConfig history i g
      → HasRound history (role kind.Matchmaker m) i g
  recorded_own m i g recorded config =
      let who = role kind.Matchmaker m in
      let r = any-Member (λ x. is_round_in i x) (records_of who history) recorded in
      let x = has_by m i r.0 r.2 (of_records who history r.0 r.1) in
      let same : x.0 ≡ g =
      facts.one_grid i x.0 g (had_config who i x.0 x.1) (config.0, to_turned history config.0 (kept.Round i g) config.1) in
      subst (λ k. HasRound history who i k) same x.1

  pub order_facts : OrderFacts c es
  order_facts = record { own_grid = recorded_own; finished_before = λ e from to i g m. retires_after c es e _ m i g refl }

pub sources_hold : SourcesHold
sources_hold = source_facts

pub order_holds : OrderHolds
order_holds = order_facts
