-- Each step keeps the facts, so every role can be opened again from its records, in every run.
use Rattle.cx_inv_run.proofs.Common.{◌≡◌, ◌⊎◌, ℕ, ◌<◌, List, sym, subst, refl, inl, inr, arith, Cluster, Event, Kind, role, LeaderVolatile}
use Rattle.cx_inv_run.proofs.Common.{OfEveryRun, ReplacerVolatile, request, run, Laws, State, Down, BatcherIn, LeaderIn, ReplacerIn, plain}
use Rattle.cx_inv_run.proofs.Common.{KeptRecord, RoleId, fresh_state, opened_state, HoldsIn, batcher_kinds, unbatcher_kinds, Ties, always}
use Rattle.cx_inv_run.proofs.Common.{ties_hold}
use Rattle.cx_inv_match.specs.Prelude.{Property, Facts}
use Rattle.cx_base.specs.declared.event.Event.TheVariants as event
use Rattle.cx_base.specs.declared.role.Kind.TheVariants as kind
use Rattle.cx_inv_run.proofs.Sends.{batcher_keeps, unbatcher_keeps}
use Rattle.cx_inv_vote.proofs.Steps.{facts_hold}
use Rattle.cx_inv_held.specs.Held.{LowFacts}
use Rattle.cx_inv_held.proofs.Steps.{low_facts}
use Rattle.cx_inv_open.specs.Fits.{InRange, Fitting}
use Rattle.cx_inv_open.specs.Reopened.{RolesReopen}
use Rattle.cx_inv_open.proofs.Acceptors.{acceptor_lands}
use Rattle.cx_inv_open.proofs.Anew.{acceptor_opens, reader_opens}
use Rattle.cx_inv_open.proofs.Keep.{AllInWindow, none_in, one_in, both_in, calm_in, none_new, with_state, lands}
use Rattle.cx_inv_open.proofs.Leaders.{leader_lands}
use Rattle.cx_inv_open.proofs.Matchmakers.{matchmaker_lands}
use Rattle.cx_inv_open.proofs.Places.{leader_place, replacer_place}
use Rattle.cx_inv_open.proofs.Proxies.{proxy_lands}
use Rattle.cx_inv_open.proofs.Readers.{reader_lands}
use Rattle.cx_inv_open.proofs.Refused.{none_refused}
use Rattle.cx_inv_open.proofs.Replacers.{replacer_lands}
use Rattle.cx_inv_open.proofs.Replicas.{replica_lands, snapped}
use Rattle.cx_inv_open.proofs.Told.{run_told}

-- what is known of every moment
abbrev Known : Cluster → Property
Known c kept sent states = Facts c kept sent states × LowFacts c kept sent states × Ties kept sent states
    × ((l : ℕ) (v : LeaderVolatile) → states (role kind.Leader l) ≡ LeaderIn v → l < c.leaders)
    × ((x : ℕ) (v : ReplacerVolatile) → states (role kind.Replacer x) ≡ ReplacerIn v → x < c.replacers)

known : (c : Cluster) (es : List Event) → HoldsIn (Known c) (run c es)
known c es = (facts_hold c es, low_facts c es, ties_hold c es, leader_place c es, replacer_place c es)

fresh_range : (c : Cluster) (k : Kind) → InRange c (fresh_state c k)
fresh_range c kind.Leader = (omega arith, omega arith)
fresh_range c kind.Replica = λ p m. absurd m
fresh_range c other = tt

opened_range : (c : Cluster) (me : RoleId) (kept : List KeptRecord) (k : Kind) → InRange c (opened_state c me kept k)
opened_range c me kept kind.Replacer = tt
opened_range c me kept other = fresh_range c other

start_range : (c : Cluster) (k : Kind) (s : State) → (s ≡ Down) ⊎ (s ≡ fresh_state c k) → InRange c s
start_range c k s (inl e) = subst (λ (x : State). InRange c x) (sym e) tt
start_range c k s (inr e) = subst (λ (x : State). InRange c x) (sym e) (fresh_range c k)

request_in : (n : ℕ) (e : Event) → AllInWindow (request n e)
request_in n (event.Write command batcher) = one_in _ tt
request_in n (event.Read client seq floor reader replica key) = one_in _ tt
request_in n (event.Session client seq floor replica key) = one_in _ tt
request_in n other = none_in

fitting_laws : (c : Cluster) → Laws c (λ n e. Unit {0}) (Known c) (Fitting c)
fitting_laws c = record {
  same = λ kept sent states others same h.
      record { fit = h.fit; says = h.says; running = λ a. subst (λ (s : State). InRange c s) (same a) (h.running a) };
  start = λ states starts. record { fit = tt; says = none_in; running = λ a. start_range c a.kind (states a) (starts a) };
  stop = λ kept sent states me h. record { fit = h.fit; says = h.says; running = with_state c kept sent states h me Down tt };
  wake = λ kept sent states me h down.
      let opened = with_state c kept sent states h me (opened_state c me kept me.kind) (opened_range c me kept me.kind) in
      record { fit = h.fit; says = h.says; running = opened };
  ask = λ kept sent states n e allowed known h.
      record { fit = h.fit; says = both_in sent (request n e) h.says (request_in n e); running = h.running };
  batcher = λ kept sent states b v i known h is given.
      let me = role kind.Batcher b in
      let kinds = batcher_kinds c me refl v i in
      lands c kept sent states h me BatcherIn _ (none_new c kept me (λ r k. batcher_keeps r k) _ kinds.keeps) tt (calm_in me _ tt kinds);
  leader = λ kept sent states l v i known h is given.
      leader_lands c kept sent states known.0 known.1 h l v (known.3 l v is) is i given;
  proxy = λ kept sent states p v i known h is given. proxy_lands c kept sent states known.0 h p v i is given;
  acceptor = λ kept sent states a i known h is given. acceptor_lands c kept sent states known.0 h a i given;
  matchmaker = λ kept sent states m i known h is given. matchmaker_lands c kept sent states h m i;
  replica = λ kept sent states p v i known h is given. replica_lands c kept sent states known.0 known.2 h p v i is given;
  snap = λ kept sent states p v first known h is e. snapped c kept sent states known.0 known.2 h p v first e;
  acceptor_anew = λ kept sent states a first known h is e.
      record { fit = (acceptor_opens c kept h.fit a first e, h.fit); says = h.says; running = h.running };
  reader_anew = λ kept sent states r first v known h is e.
      record { fit = (reader_opens c kept h.fit r first, h.fit); says = h.says; running = h.running };
  unbatcher = λ kept sent states u i known h is given.
      let me = role kind.Unbatcher u in
      let kinds = unbatcher_kinds c me refl i in
      lands c kept sent states h me plain _ (none_new c kept me (λ r k. unbatcher_keeps r k) _ kinds.keeps) tt (calm_in me _ tt kinds);
  reader = λ kept sent states r v i known h is given. reader_lands c kept sent states h r v i;
  replacer = λ kept sent states x v i known h is given. replacer_lands c kept sent states h x v (known.4 x v is) i;
}

pub fitting : (c : Cluster) (es : List Event) → HoldsIn (Fitting c) (run c es)
fitting c es = always c (Known c) (Fitting c) (fitting_laws c) (known c) es

pub roles_reopen : OfEveryRun RolesReopen
roles_reopen c es me valid = none_refused c (run c es).kept (fitting c es).fit me (λ is. run_told c es (valid is) me.index)
