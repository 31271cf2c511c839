-- Each step keeps the windows of all leaders full.
use Rattle.cx_inv_run.proofs.Common.{◌≡◌, ℕ, false, ◌⊎◌, List, [], ◌∷◌, ◌++◌, Option, None, Some, sym, subst, inl, inr, append-nil, Cluster}
use Rattle.cx_inv_run.proofs.Common.{Event, Kind, RoleId, role, same_role, Letter, KeptRecord, Record, LeaderDurable, LeaderVolatile}
use Rattle.cx_inv_run.proofs.Common.{leader_rules, leader_row, round_of, Outcome, request, run, Lands, Laws, anything, State, Down, Plain}
use Rattle.cx_inv_run.proofs.Common.{BatcherIn, LeaderIn, ProxyIn, ReplicaIn, ReaderIn, ReplacerIn, plain, fresh_state, opened_state}
use Rattle.cx_inv_run.proofs.Common.{set_state, snap_by}
use Rattle.cx_inv_run.proofs.Common.{with_record, durable_of, HoldsIn, by_role, durable_own, durable_other, durable_else, set_running}
use Rattle.cx_inv_run.proofs.Common.{always}
use Rattle.cx_base.specs.declared.role.Kind.TheVariants as kind
use Rattle.cx_inv_bypass.specs.Full.{FullIn, FullState, Full}
use Rattle.cx_inv_bypass.proofs.Rows.{still_full, round_after, leader_full}

-- more datagrams
sent_more : (history : List KeptRecord) (sent ds : List Letter) (me : RoleId) (s : State) → FullState history sent me s
    → FullState history (sent ++ ds) me s
sent_more history sent ds me (LeaderIn v) h = still_full sent ds _ v.cw v.next v.proposed v.mode h
sent_more history sent ds me Down h = tt
sent_more history sent ds me Plain h = tt
sent_more history sent ds me (BatcherIn v) h = tt
sent_more history sent ds me (ProxyIn v) h = tt
sent_more history sent ds me (ReplicaIn v) h = tt
sent_more history sent ds me (ReaderIn v) h = tt
sent_more history sent ds me (ReplacerIn v) h = tt

-- another role's record
kept_more : (history : List KeptRecord) (sent : List Letter) (me a : RoleId) (r : Option Record) (s : State) → same_role a me ≡ false
    → FullState history sent a s → FullState (with_record me r history) sent a s
kept_more history sent me a None s e h = h
kept_more history sent me a (Some r) (LeaderIn v) e h =
    subst (λ (d : LeaderDurable). FullIn sent (round_of d.own) v.cw v.next v.proposed v.mode)
    (sym (durable_other leader_rules me a r history e)) h
kept_more history sent me a (Some r) Down e h = tt
kept_more history sent me a (Some r) Plain e h = tt
kept_more history sent me a (Some r) (BatcherIn v) e h = tt
kept_more history sent me a (Some r) (ProxyIn v) e h = tt
kept_more history sent me a (Some r) (ReplicaIn v) e h = tt
kept_more history sent me a (Some r) (ReaderIn v) e h = tt
kept_more history sent me a (Some r) (ReplacerIn v) e h = tt

-- a renewal of another role's list
snap_more : (history : List KeptRecord) (sent : List Letter) (me a : RoleId) (first : ℕ) (s : State) → same_role a me ≡ false
    → FullState history sent a s → FullState (snap_by me first ∷ history) sent a s
snap_more history sent me a first (LeaderIn v) e h =
    subst (λ (d : LeaderDurable). FullIn sent (round_of d.own) v.cw v.next v.proposed v.mode)
    (sym (durable_else leader_rules me a first history e)) h
snap_more history sent me a first Down e h = tt
snap_more history sent me a first Plain e h = tt
snap_more history sent me a first (BatcherIn v) e h = tt
snap_more history sent me a first (ProxyIn v) e h = tt
snap_more history sent me a first (ReplicaIn v) e h = tt
snap_more history sent me a first (ReaderIn v) e h = tt
snap_more history sent me a first (ReplacerIn v) e h = tt

fresh_full : (history : List KeptRecord) (sent : List Letter) (c : Cluster) (me : RoleId) (k : Kind)
    → FullState history sent me (fresh_state c k)
fresh_full history sent c me kind.Client = tt
fresh_full history sent c me kind.Batcher = tt
fresh_full history sent c me kind.Leader = tt
fresh_full history sent c me kind.Proxy = tt
fresh_full history sent c me kind.Acceptor = tt
fresh_full history sent c me kind.Matchmaker = tt
fresh_full history sent c me kind.Replica = tt
fresh_full history sent c me kind.Unbatcher = tt
fresh_full history sent c me kind.Reader = tt
fresh_full history sent c me kind.Replacer = tt

opened_full : (history : List KeptRecord) (sent : List Letter) (c : Cluster) (me : RoleId) (k : Kind)
    → FullState history sent me (opened_state c me history k)
opened_full history sent c me kind.Replacer = tt
opened_full history sent c me other = fresh_full history sent c me other

module _ (history : List KeptRecord) (sent : List Letter) (states : RoleId → State) (h : Full history sent states) where
  -- a role's step, with what it leaves of its own
  after_step : (me : RoleId) (r : Option Record) (ds : List Letter) (s : State) → FullState (with_record me r history) (sent ++ ds) me s
      → Full (with_record me r history) (sent ++ ds) (set_state me s states)
  after_step me r ds s own =
      set_running (λ a x. FullState (with_record me r history) (sent ++ ds) a x) me s states own
      (λ a e. sent_more (with_record me r history) sent ds a (states a) (kept_more history sent me a r (states a) e (h a)))

  -- one that sends nothing
  calm_step : (me : RoleId) (r : Option Record) (s : State) → FullState (with_record me r history) sent me s
      → Full (with_record me r history) sent (set_state me s states)
  calm_step me r s own =
      subst (λ ds. Full (with_record me r history) ds (set_state me s states)) (append-nil sent)
      (after_step me r [] s (sent_more (with_record me r history) sent [] me s own))

  lands_full : {V : Type 0} (me : RoleId) (make : V → State) (o : Outcome V)
      → FullState (with_record me o.kept history) (sent ++ o.sends) me (make o.volatile) → Lands Full history sent states me make o
  lands_full me make o own = record {
    whole = after_step me o.kept o.sends (make o.volatile) own;
    cut = λ r e. calm_step me (Some r) Down tt;
  }

-- the round of a leader after its record is the one of the row
row_state : (history : List KeptRecord) (sent : List Letter) (me : RoleId) (r : Option Record) (v : LeaderVolatile)
    → FullIn sent (round_after (durable_of leader_rules me history) r) v.cw v.next v.proposed v.mode
    → FullState (with_record me r history) sent me (LeaderIn v)
row_state history sent me None v h = h
row_state history sent me (Some r) v h = subst (λ (d : LeaderDurable). FullIn sent (round_of d.own) v.cw v.next v.proposed v.mode)
    (sym (durable_own leader_rules me r history)) h

start_full : (c : Cluster) (me : RoleId) (k : Kind) (s : State) → (s ≡ Down) ⊎ (s ≡ fresh_state c k) → FullState [] [] me s
start_full c me k s (inl e) = subst (λ (x : State). FullState [] [] me x) (sym e) tt
start_full c me k s (inr e) = subst (λ (x : State). FullState [] [] me x) (sym e) (fresh_full [] [] c me k)

full_laws : (c : Cluster) → Laws c (λ n e. Unit {0}) anything Full
full_laws c = record {
  same = λ kept sent states others same h a. subst (λ (s : State). FullState kept sent a s) (same a) (h a);
  start = λ states starts a. start_full c a a.kind (states a) (starts a);
  stop = λ kept sent states me h. calm_step kept sent states h me None Down tt;
  wake = λ kept sent states me h down. calm_step kept sent states h me None (opened_state c me kept me.kind)
      (opened_full kept sent c me me.kind);
  ask = λ kept sent states n e allowed known h a. sent_more kept sent (request n e) a (states a) (h a);
  batcher = λ kept sent states b v i known h is given. lands_full kept sent states h (role kind.Batcher b) BatcherIn _ tt;
  leader = λ kept sent states l v i known h is given.
      let me = role kind.Leader l in
      let o = leader_row c me (durable_of leader_rules me kept) v i in
      lands_full kept sent states h me LeaderIn o
      (row_state kept (sent ++ o.sends) me o.kept o.volatile
      (leader_full c me sent (durable_of leader_rules me kept) v (subst (λ (s : State). FullState kept sent me s) is (h me)) i));
  proxy = λ kept sent states p v i known h is given. lands_full kept sent states h (role kind.Proxy p) ProxyIn _ tt;
  acceptor = λ kept sent states a i known h is given. lands_full kept sent states h (role kind.Acceptor a) plain _ tt;
  matchmaker = λ kept sent states m i known h is given. lands_full kept sent states h (role kind.Matchmaker m) plain _ tt;
  replica = λ kept sent states p v i known h is given. lands_full kept sent states h (role kind.Replica p) ReplicaIn _ tt;
  snap = λ kept sent states p v first known h is e.
      let me = role kind.Replica p in
      by_role (λ a. FullState (snap_by me first ∷ kept) sent a (states a)) me
      (subst (λ (s : State). FullState (snap_by me first ∷ kept) sent me s) (sym is) tt)
      (λ a f. snap_more kept sent me a first (states a) f (h a));
  acceptor_anew = λ kept sent states p first known h is e.
      let me = role kind.Acceptor p in
      by_role (λ a. FullState (snap_by me first ∷ kept) sent a (states a)) me
      (subst (λ (s : State). FullState (snap_by me first ∷ kept) sent me s) (sym is) tt)
      (λ a f. snap_more kept sent me a first (states a) f (h a));
  reader_anew = λ kept sent states p first v known h is e.
      let me = role kind.Reader p in
      by_role (λ a. FullState (snap_by me first ∷ kept) sent a (states a)) me
      (subst (λ (s : State). FullState (snap_by me first ∷ kept) sent me s) (sym is) tt)
      (λ a f. snap_more kept sent me a first (states a) f (h a));
  unbatcher = λ kept sent states u i known h is given. lands_full kept sent states h (role kind.Unbatcher u) plain _ tt;
  reader = λ kept sent states r v i known h is given. lands_full kept sent states h (role kind.Reader r) ReaderIn _ tt;
  replacer = λ kept sent states x v i known h is given. lands_full kept sent states h (role kind.Replacer x) ReplacerIn _ tt;
}

-- at every moment of every run
pub full_runs : (c : Cluster) (es : List Event) → HoldsIn Full (run c es)
full_runs c es = always c anything Full (full_laws c) (λ more. tt) es
