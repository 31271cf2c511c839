-- The facts on retirement hold of every run; and any moment of a run is a past, from which on they hold.
use Rattle.cx_inv_run.proofs.Common.{◌⊎◌, List, [], ◌∷◌, ◌++◌, reverse, inl, inr, sym, subst, refl, Cluster, Event, Kind, RoleId, Round}
use Rattle.cx_inv_run.proofs.Common.{role, Asking, Entry, Letter, letter, KeptRecord, Msg, acceptor_rules, acceptor_row, batcher_row, entry}
use Rattle.cx_inv_run.proofs.Common.{Member, IsConfig, proxy_row, replacer_rules, replacer_row, replica_rules, replica_row, unbatcher_row}
use Rattle.cx_inv_run.proofs.Common.{World, change, run, run_from, Laws, HoldsAlong, State, Down, BatcherIn, ProxyIn, ReplicaIn, ReplacerIn}
use Rattle.cx_inv_run.proofs.Common.{plain, fresh_state, opened_state, snap_by, durable_of, HoldsIn, kinds_hold, Member-first}
use Rattle.cx_inv_run.proofs.Common.{Member-reverse, Member-turned, acceptor_kinds, batcher_kinds, unbatcher_kinds, proxy_kinds}
use Rattle.cx_inv_run.proofs.Common.{replica_kinds, replacer_kinds, run_from_keeps, always, run_append, run_cluster, all_allowed, HasRound}
use Rattle.cx_inv_match.specs.Prelude.{Facts, HasLog, HasGarbage, SetFacts}
use Rattle.cx_base.specs.declared.role.Kind.TheVariants as kind
use Rattle.cx_letter.specs.declared.message.Msg.TheVariants as msg
use Rattle.cx_model.specs.World.{step}
use Rattle.cx_inv_vote.proofs.Steps.{facts_hold}
use Rattle.cx_inv_read.proofs.Fresh.{reads_always}
use Rattle.cx_inv_read.specs.Reads.{Has}
use Rattle.cx_inv_retire.specs.Retire.{IsNewRound, RetireSays, HasCounted, RetireFacts, Known}
use Rattle.cx_inv_retire.proofs.Keep.{same_states, set, grown, asked, quiet_lands}
use Rattle.cx_inv_retire.proofs.Leaders.{leader_lands}
use Rattle.cx_inv_retire.proofs.Matchmakers.{matchmaker_lands}
use Rattle.cx_inv_retire.proofs.Readers.{reader_lands}

-- a fresh role has counted nobody
fresh_counted : (c : Cluster) (k : Kind) → HasCounted c (fresh_state c k)
fresh_counted c kind.Client = tt
fresh_counted c kind.Batcher = tt
fresh_counted c kind.Leader = λ n t. cc
fresh_counted c kind.Proxy = tt
fresh_counted c kind.Acceptor = tt
fresh_counted c kind.Matchmaker = tt
fresh_counted c kind.Replica = tt
fresh_counted c kind.Unbatcher = tt
fresh_counted c kind.Reader = tt
fresh_counted c kind.Replacer = tt

opened_counted : (c : Cluster) (me : RoleId) (history : List KeptRecord) (k : Kind) → HasCounted c (opened_state c me history k)
opened_counted c me history kind.Replacer = tt
opened_counted c me history other = fresh_counted c other

pub retire_laws : (c : Cluster) (past : List KeptRecord) (fresh : Asking → Type 0)
    → Laws c (λ n e. Unit {0}) (Known c past) (RetireFacts c past fresh)
retire_laws c past fresh = record {
  same = λ history sent states others e h. same_states c past fresh history sent states h others e;
  start = λ states first. record {
    says = λ d m. absurd m;
    running = λ a. elim (first
        a) [ inl e ↦ subst (λ s. HasCounted c s) (sym e) tt | inr e ↦ subst (λ s. HasCounted c s) (sym e) (fresh_counted c a.kind) ];
  };
  stop = λ history sent states me h. set c past fresh history sent states h me Down tt;
  wake = λ history sent states me h down.
      set c past fresh history sent states h me (opened_state c me history me.kind) (opened_counted c me history me.kind);
  ask = λ history sent states n e allowed known h. asked c past fresh history sent states h n e;
  batcher = λ history sent states b v i known h is given.
      quiet_lands c past fresh history sent states h (role kind.Batcher b) BatcherIn kind.Batcher (λ e. cc) (λ e. cc) (λ e. cc) refl
      (batcher_row c (role kind.Batcher b) tt v i) (batcher_kinds c (role kind.Batcher b) refl v i) tt;
  leader = λ history sent states l v i known h. leader_lands c past fresh history sent states known h l v i;
  proxy = λ history sent states p v i known h is given.
      quiet_lands c past fresh history sent states h (role kind.Proxy p) ProxyIn kind.Proxy (λ e. cc) (λ e. cc) (λ e. cc) refl
      (proxy_row c (role kind.Proxy p) tt v i) (proxy_kinds c (role kind.Proxy p) refl v i) tt;
  acceptor = λ history sent states a i known h is given.
      quiet_lands c past fresh history sent states h (role kind.Acceptor a) plain kind.Acceptor (λ e. cc) (λ e. cc) (λ e. cc) refl
      (acceptor_row c (role kind.Acceptor a) (durable_of acceptor_rules (role kind.Acceptor a) history) tt i)
      (acceptor_kinds c (role kind.Acceptor a) refl (durable_of acceptor_rules (role kind.Acceptor a) history) i) tt;
  matchmaker = λ history sent states m i known h is given. matchmaker_lands c past fresh history sent states known h m i;
  replica = λ history sent states p v i known h is given.
      quiet_lands c past fresh history sent states h (role kind.Replica p) ReplicaIn kind.Replica (λ e. cc) (λ e. cc) (λ e. cc) refl
      (replica_row c (role kind.Replica p) (durable_of replica_rules (role kind.Replica p) history) v i)
      (replica_kinds c (role kind.Replica p) refl (durable_of replica_rules (role kind.Replica p) history) v i) tt;
  snap = λ history sent states p v first known h is e.
      grown c past fresh history sent states h (snap_by (role kind.Replica p) first ∷ history) (λ k m. inr m);
  acceptor_anew = λ history sent states p first known h is e.
      grown c past fresh history sent states h (snap_by (role kind.Acceptor p) first ∷ history) (λ k m. inr m);
  reader_anew = λ history sent states p first v known h is e.
      grown c past fresh history sent states h (snap_by (role kind.Reader p) first ∷ history) (λ k m. inr m);
  unbatcher = λ history sent states u i known h is given.
      quiet_lands c past fresh history sent states h (role kind.Unbatcher u) plain kind.Unbatcher (λ e. cc) (λ e. cc) (λ e. cc) refl
      (unbatcher_row c (role kind.Unbatcher u) tt tt i) (unbatcher_kinds c (role kind.Unbatcher u) refl i) tt;
  reader = λ history sent states r v i known h. reader_lands c past fresh history sent states known h r v i;
  replacer = λ history sent states x v i known h is given.
      quiet_lands c past fresh history sent states h (role kind.Replacer x) ReplacerIn kind.Replacer (λ e. cc) (λ e. cc) (λ e. cc) refl
      (replacer_row c (role kind.Replacer x) (durable_of replacer_rules (role kind.Replacer x) history) v i)
      (replacer_kinds c (role kind.Replacer x) refl (durable_of replacer_rules (role kind.Replacer x) history) v i) tt;
}

-- what is known along a run, from a past of it on

step_has : (w : World) (e : Event) → Has (reverse (step w e).kept) (reverse w.kept)
unfolding step
step_has w e k m = Member-reverse k (w.kept ++ (change w e).kept) (Member-first k w.kept (change w e).kept (Member-turned k w.kept m))

has_from : (w : World) (es : List Event) → Has (reverse (run_from w es).kept) (reverse w.kept)
has_from w [] k m = m
has_from w (e ∷ es) k m = has_from (step w e) es k (step_has w e k m)

pub has_run : (c : Cluster) (es more : List Event) → Has (reverse (run c (es ++ more)).kept) (reverse (run c es).kept)
has_run c es more =
    subst (λ (w : World). Has (reverse w.kept) (reverse (run c es).kept)) (sym (run_append c es more)) (has_from (run c es) more)

knows : (c : Cluster) (past : List KeptRecord) → SetFacts c past → (es : List Event) → Has (reverse (run c es).kept) past
    → HoldsIn (Known c past) (run c es)
knows c past then es has =
    record { kinds = kinds_hold c es; facts = facts_hold c es; readers = λ me t. (reads_always c es t).readers me; has = has; then = then }

knows_along : (c : Cluster) (past : List KeptRecord) → SetFacts c past → (es more : List Event) → Has (reverse (run c es).kept) past
    → HoldsAlong (Known c past) (run c es) more
knows_along c past then es [] has = knows c past then es has
knows_along c past then es (e ∷ more) has = (
  knows c past then es has,
  subst (λ w. HoldsAlong (Known c past) w more) (run_append c es (e ∷ []))
      (knows_along c past then (es ++ e ∷ []) more (λ k m. has_run c es (e ∷ []) k (has k m))),
)

-- from the start on there is no past, and no turn is fresh

abbrev pub no_turn : Asking → Type 0
no_turn u = ⊥

pub knows_nothing : (c : Cluster) (es : List Event) → HoldsIn (Known c []) (run c es)
knows_nothing c es = knows c [] (facts_hold c []).sets es (λ k m. absurd m)

pub retire_holds : (c : Cluster) (es : List Event) → HoldsIn (RetireFacts c [] no_turn) (run c es)
retire_holds c es = always c (Known c []) (RetireFacts c [] no_turn) (retire_laws c [] no_turn) (knows_nothing c) es

-- a turn of which neither an answer of a matchmaker nor a question to an acceptor was sent
pub record IsFresh (sent : List Letter) (u : Asking) : Type 0 where
  pub answers : (from to : RoleId) (w : Round) (es : List Entry) → Member (letter from to (msg.MatchReadAck u w es)) sent → ⊥
  pub asks : (from to : RoleId) (w : Round) → Member (letter from to (msg.PreRead u w)) sent → ⊥

-- any moment is a past

module _ (c : Cluster) (history : List KeptRecord) (sent : List Letter) (states : RoleId → State) (facts : Facts c history sent states)
    (h : RetireFacts c [] no_turn history sent states) where
  not_new : (m : RoleId) (k : Round) → HasLog history m k → IsNewRound history k → ⊥
  not_new m k x new = new x.0 (logged x.1)
    where
      logged : HasRound history m k x.0 ⊎ HasGarbage history m k x.0 → IsConfig history k x.0
      logged (inl (inl y)) = facts.asked m k x.0 y
      logged (inl (inr y)) = ((facts.sets.booted m y.0 y.1 y.2 y.3).1.join.only (entry k x.0) y.4).0
      logged (inr y) = (facts.garbaged m k x.0 y).0

  now_says : (from to : RoleId) (m : Msg) → Member (letter from to m) sent → RetireSays c [] no_turn history from to m
      → RetireSays c history (IsFresh sent) history from to m
  now_says from to (msg.MatchB k w es) x says = λ new. absurd (not_new from k (facts.says _ x).matched new)
  now_says from to (msg.GarbageB i) x says = says
  now_says from to (msg.Phase1A k) x says = (says.0, λ new. absurd (new says.0.0 says.0.1))
  now_says from to (msg.MatchReadAck u w es) x says = (says.0, λ fresh. absurd (fresh.answers from to w es x))
  now_says from to (msg.PreRead u w) x says = λ fresh. absurd (fresh.asks from to w x)
  now_says from to other x says = tt

  now : RetireFacts c history (IsFresh sent) history sent states
  now = record { says = λ d m. now_says d.from d.to d.msg m (h.says d m); running = h.running }

-- so the facts hold of a longer run, from there on
pub since : (c : Cluster) (es more : List Event)
    → HoldsIn (RetireFacts c (reverse (run c es).kept) (IsFresh (run c es).sent)) (run c (es ++ more))
since c es more =
    let w = run c es in
    let past = reverse w.kept in
    subst (λ x. HoldsIn (RetireFacts c past (IsFresh w.sent)) x) (sym (run_append c es more)) (run_from_keeps c (λ n e. Unit {0})
    (Known c past) (RetireFacts c past (IsFresh w.sent)) (retire_laws c past (IsFresh w.sent)) w (run_cluster c es)
    (now c past w.sent w.roles (facts_hold c es) (retire_holds c es)) more (knows_along c past (facts_hold c es).sets es more (λ k m. m))
    (all_allowed w more))
