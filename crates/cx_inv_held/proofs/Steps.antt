-- Each step keeps the facts on watermarks, so they hold in every run.
use Rattle.cx_inv_run.proofs.Common.{ap, OfEveryRun, ReplicaDurable, before, replica_rules, Ties, durable_by_time, log_by_time, always}
use Rattle.cx_inv_run.proofs.Common.{ties_hold, ◌≡◌, ◌⊎◌, ℕ, map, List, [], ◌∷◌, length, slice_get, Some, refl, zero, suc, sym, subst, inl}
use Rattle.cx_inv_run.proofs.Common.{inr, arith, Cluster, Event, Kind, RoleId, below, role, KeptRecord, acceptor_rules, leader_rules}
use Rattle.cx_inv_run.proofs.Common.{matchmaker_rules, reader_rules, replacer_rules, request, run, Laws, State, Down, BatcherIn, LeaderIn}
use Rattle.cx_inv_run.proofs.Common.{ProxyIn, ReplicaIn, ReaderIn, ReplacerIn, plain, fresh_state, opened_state, durable_of, HoldsIn}
use Rattle.cx_inv_run.proofs.Common.{length-below, batcher_kinds, matchmaker_kinds, unbatcher_kinds, reader_kinds, replacer_kinds}
use Rattle.cx_model.specs.Promises.{ForgottenIsKept}
use Rattle.cx_inv_run.proofs.TieLaws.{tied_in}
use Rattle.cx_inv_held.proofs.Keep.{low_snap, AllSayLow, none_low, one_low, both_low, low_with, low_lands}
use Rattle.cx_inv_held.proofs.Renewals.{renewals_keep_all}
use Rattle.cx_inv_held.proofs.Stores.{lists_hold, stores_hold}
use Rattle.cx_base.specs.declared.event.Event.TheVariants as event
use Rattle.cx_base.specs.declared.role.Kind.TheVariants as kind
use Rattle.cx_inv_vote.proofs.Agree.{kept_is_chosen}
use Rattle.cx_inv_held.specs.Held.{LowState, LowFacts}
use Rattle.cx_inv_held.specs.Laws.{WatermarksHold, KeptWatermarks, SafeSnapshots}
use Rattle.cx_inv_held.proofs.Acceptors.{acceptor_stored, acceptor_low}
use Rattle.cx_inv_held.proofs.Calm.{calm_low}
use Rattle.cx_inv_held.proofs.Chosen.{chosen_below}
use Rattle.cx_inv_held.proofs.Grow.{none_stored}
use Rattle.cx_inv_held.proofs.Leaders.{leader_low}
use Rattle.cx_inv_held.proofs.Proxies.{proxy_low}
use Rattle.cx_inv_held.proofs.Replicas.{replica_low}
use Rattle.cx_inv_held.proofs.Worlds.{watermark_facts}

-- a leader that was just opened noted 0 for each replica
zeros : (xs : List ℕ) (p n : ℕ) → slice_get (map (λ r. 0) xs) p ≡ Some n → n ≡ 0
zeros [] p n e = cc
zeros (x ∷ xs) zero n e = cc
zeros (x ∷ xs) (suc p) n e = zeros xs p n e

zeros_length : (xs : List ℕ) → length {A = ℕ} (map (λ (r : ℕ). 0) xs) ≡ length xs
zeros_length [] = refl
zeros_length (x ∷ xs) = let e = zeros_length xs in omega arith

module _ (c : Cluster) (kept : List KeptRecord) where
  fresh_low : (k : Kind) → LowState c kept (fresh_state c k)
  fresh_low kind.Leader = record {
    cw = none_stored c kept;
    mark = none_stored c kept;
    promises = λ p m. absurd m;
    replicas = let e = zeros_length (below c.replicas) in let l = length-below c.replicas in omega arith;
    held = λ p n e. let z = zeros (below c.replicas) p n e in omega arith;
  }
  fresh_low kind.Proxy = record { known = none_stored c kept; pending = λ p m. absurd m }
  fresh_low other = tt

  opened_low : (me : RoleId) (k : Kind) → LowState c kept (opened_state c me kept k)
  opened_low me kind.Replacer = tt
  opened_low me other = fresh_low other

  request_low : (n : ℕ) (e : Event) → AllSayLow c kept (request n e)
  request_low n (event.Write command batcher) = one_low c kept _ tt
  request_low n (event.Read client seq floor reader replica key) = one_low c kept _ tt
  request_low n (event.Session client seq floor replica key) = one_low c kept _ tt
  request_low n other = none_low c kept

start_state : (c : Cluster) (k : Kind) (s : State) → (s ≡ Down) ⊎ (s ≡ fresh_state c k) → LowState c [] s
start_state c k s (inl e) = subst (λ (x : State). LowState c [] x) (sym e) tt
start_state c k s (inr e) = subst (λ (x : State). LowState c [] x) (sym e) (fresh_low c [] k)

low_laws : (c : Cluster) → Laws c (λ n e. Unit {0}) Ties (LowFacts c)
low_laws c = record {
  same = λ kept sent states others same h.
      record { records = h.records; says = h.says; running = λ a. subst (λ (s : State). LowState c kept s) (same a) (h.running a) };
  start = λ states starts.
      record { records = λ who r m. absurd m; says = λ d m. absurd m; running = λ a. start_state c a.kind (states a) (starts a) };
  stop = λ kept sent states me h. low_with c kept sent states h me Down tt;
  wake = λ kept sent states me h down.
      low_with c kept sent states h me (opened_state c me kept me.kind) (opened_low c kept me me.kind);
  ask = λ kept sent states n e allowed known h.
      record { records = h.records; says = both_low c kept sent (request n e) h.says (request_low c kept n e); running = h.running };
  batcher = λ kept sent states b v i known h is given. low_lands c kept sent states h (role kind.Batcher b) BatcherIn
      _ (calm_low c kept BatcherIn (role kind.Batcher b) _ tt tt (batcher_kinds c (role kind.Batcher b) refl v i));
  leader = λ kept sent states l v i known h is given.
      let state = subst (λ (s : State). LowState c kept s) is (h.running (role kind.Leader l)) in
      low_lands c kept sent states h (role kind.Leader l) LeaderIn _
      (leader_low c kept (role kind.Leader l) (durable_of leader_rules (role kind.Leader l) kept) v state sent h.says i given);
  proxy = λ kept sent states p v i known h is given.
      let state = subst (λ (s : State). LowState c kept s) is (h.running (role kind.Proxy p)) in
      low_lands c kept sent states h (role kind.Proxy p) ProxyIn _ (proxy_low c kept (role kind.Proxy p) v state sent h.says i given);
  acceptor = λ kept sent states a i known h is given.
      low_lands c kept sent states h (role kind.Acceptor a) plain _ (acceptor_low c kept (role kind.Acceptor a) (durable_of acceptor_rules
      (role kind.Acceptor a) kept) (acceptor_stored c kept (role kind.Acceptor a) kept h.records) sent h.says i given);
  matchmaker = λ kept sent states m i known h is given.
      low_lands c kept sent states h (role kind.Matchmaker m) plain _ (calm_low c kept plain (role kind.Matchmaker m) _ tt tt
      (matchmaker_kinds c (role kind.Matchmaker m) refl (durable_of matchmaker_rules (role kind.Matchmaker m) kept) i));
  replica = λ kept sent states p v i known h is given.
      low_lands c kept sent states h (role kind.Replica p) ReplicaIn _ (replica_low c kept sent states known p v i);
  snap = λ kept sent states p v first known h is e. low_snap c kept sent states h (role kind.Replica p) first;
  acceptor_anew = λ kept sent states a first known h is e. low_snap c kept sent states h (role kind.Acceptor a) first;
  reader_anew = λ kept sent states r first v known h is e. low_snap c kept sent states h (role kind.Reader r) first;
  unbatcher = λ kept sent states u i known h is given. low_lands c kept sent states h (role kind.Unbatcher u) plain
      _ (calm_low c kept plain (role kind.Unbatcher u) _ tt tt (unbatcher_kinds c (role kind.Unbatcher u) refl i));
  reader = λ kept sent states r v i known h is given.
      low_lands c kept sent states h (role kind.Reader r) ReaderIn _ (calm_low c kept ReaderIn (role kind.Reader r) _ tt tt
      (reader_kinds c (role kind.Reader r) refl (durable_of reader_rules (role kind.Reader r) kept) v i));
  replacer = λ kept sent states x v i known h is given.
      low_lands c kept sent states h (role kind.Replacer x) ReplacerIn _ (calm_low c kept ReplacerIn (role kind.Replacer x) _ tt tt
      (replacer_kinds c (role kind.Replacer x) refl (durable_of replacer_rules (role kind.Replacer x) kept) v i));
}

-- the facts hold in every run
pub low_facts : (c : Cluster) (es : List Event) → HoldsIn (LowFacts c) (run c es)
low_facts c es = always c Ties (LowFacts c) (low_laws c) (ties_hold c) es

pub watermarks_hold : WatermarksHold
watermarks_hold c es = watermark_facts c (run c es) (low_facts c es) (lists_hold low_facts c es) (kept_is_chosen c es)

pub kept_watermarks : KeptWatermarks
kept_watermarks = record {
  chosen_below = λ c es who what cw m e s l.
      chosen_below c (run c es) (lists_hold low_facts c es) (watermarks_hold c es) cw s ((watermarks_hold c es).records who what cw m e) l;
  held = λ c es who what cw m e. (watermarks_hold c es).records who what cw m e;
}

-- the replica before has kept all that a replica forgot
forgotten_is_kept : OfEveryRun ForgottenIsKept
forgotten_is_kept c es p within =
    let stores = stores_hold low_facts c es in
    let same = ap (λ (d : ReplicaDurable). d.first) (durable_by_time replica_rules (role kind.Replica p) (run c es).kept) in
    let log = ap (λ l. length l) (log_by_time (before c (role kind.Replica p)) (run c es).kept) in
    omega (arith, stores.forgotten p within, same, log)

pub safe_snapshots : SafeSnapshots
safe_snapshots = record {
  nothing_is_lost = tied_in;
  forgotten_is_kept = forgotten_is_kept;
  renewals_keep_all = renewals_keep_all;
}
