-- Each step keeps what is said of the list, so every run has it.
use Rattle.cx_inv_run.proofs.Common.{◌≡◌, ℕ, List, [], ◌∷◌, inl, ap, sym, subst, ⊎_elim, append-nil, refl, None, Cluster, Event, Happened}
use Rattle.cx_inv_run.proofs.Common.{Kind, RoleId, Why, role, Letter, KeptRecord, acceptor_rules, leader_rules, matchmaker_rules, Member}
use Rattle.cx_inv_run.proofs.Common.{WasRead, WasSession, reader_rules, make_token, replacer_rules, request, token_of, World, change}
use Rattle.cx_inv_run.proofs.Common.{run_from, run, Laws, AllAllowed, State, Down, BatcherIn, LeaderIn, ProxyIn, ReplicaIn, ReaderIn}
use Rattle.cx_inv_run.proofs.Common.{ReplacerIn, plain, fresh_state, opened_state, set_state, durable_of, HoldsIn, Ties, Member-first}
use Rattle.cx_inv_run.proofs.Common.{Member-second, Member-cases, matchmaker_kinds, replacer_kinds, along, run_keeps, ties_hold}
use Rattle.cx_base.specs.declared.event.Event.TheVariants as event
use Rattle.cx_base.specs.declared.role.Kind.TheVariants as kind
use Rattle.cx_base.specs.declared.why.Why.TheVariants as why
use Rattle.cx_letter.specs.declared.message.Msg.TheVariants as msg
use Rattle.cx_model.specs.World.{step}
use Rattle.cx_inv_run.specs.Laws.{heard_of}
use Rattle.cx_inv_list.specs.Told.{RequestPredicates, ListSays, InList, ListFacts}
use Rattle.cx_inv_list.proofs.Keep.{list_after, list_snapped, listed_lands}
use Rattle.cx_inv_list.proofs.Leaders.{leader_listed, proxy_listed}
use Rattle.cx_inv_list.proofs.Listed.{heard, one_send, votes_asked, acceptor_listed, batcher_listed, calm_listed, unbatcher_listed}
use Rattle.cx_inv_list.proofs.Replicas.{reader_listed, replica_listed}

-- what may be said of the requests that go out
abbrev pub IsAllowed : RequestPredicates → ℕ → Event → Type 0
IsAllowed q n (event.Write command batcher) = q.asked command
IsAllowed q n (event.Read client seq floor reader replica key) = q.wanted (make_token client seq) key
IsAllowed q n (event.Session client seq floor replica key) = q.sought (make_token client seq) key
IsAllowed q n other = Unit {0}

request_says : (q : RequestPredicates) (history : List KeptRecord) (n : ℕ) (e : Event) → IsAllowed q n e
    → (d : Letter) → Member d (request n e) → ListSays q history d.from d.to d.msg
request_says q history n (event.Write command batcher) h =
    one_send q history (role kind.Client command.client) (role kind.Batcher batcher) (msg.Submit command) h
request_says q history n (event.Read client seq floor reader replica key) h =
    one_send q history (role kind.Client client) (role kind.Reader reader) (msg.ReadReq seq replica key) h
request_says q history n (event.Session client seq floor replica key) h =
    one_send q history (role kind.Client client) (role kind.Replica replica) (msg.SessRead seq n key) h
request_says q history n (event.Deliver k cut) h = λ d m. absurd m
request_says q history n (event.Tick r) h = λ d m. absurd m
request_says q history n (event.Order l order cut) h = λ d m. absurd m
request_says q history n (event.Replace x s cut) h = λ d m. absurd m
request_says q history n (event.Offer p to s) h = λ d m. absurd m
request_says q history n (event.Snap r cut) h = λ d m. absurd m
request_says q history n (event.Crash r) h = λ d m. absurd m
request_says q history n (event.Restart r) h = λ d m. absurd m

fresh_in : (q : RequestPredicates) (c : Cluster) (k : Kind) → InList q (fresh_state c k)
fresh_in q c kind.Client = tt
fresh_in q c kind.Batcher = λ k m. absurd m
fresh_in q c kind.Leader = (λ p m. absurd m, λ p m. absurd m)
fresh_in q c kind.Proxy = λ p m. absurd m
fresh_in q c kind.Acceptor = tt
fresh_in q c kind.Matchmaker = tt
fresh_in q c kind.Replica = λ r m. absurd m
fresh_in q c kind.Unbatcher = tt
fresh_in q c kind.Reader = (λ r m. absurd m, tt)
fresh_in q c kind.Replacer = tt

opened_in : (q : RequestPredicates) (c : Cluster) (me : RoleId) (history : List KeptRecord) (k : Kind)
    → InList q (opened_state c me history k)
opened_in q c me history kind.Replacer = tt
opened_in q c me history other = fresh_in q c other

-- one role's new state, and nothing else
new_state : (q : RequestPredicates) (history : List KeptRecord) (sent : List Letter) (states : RoleId → State)
    → ListFacts q history sent states → (me : RoleId) (s : State) → InList q s → ListFacts q history sent (set_state me s states)
new_state q history sent states facts me s h = subst (λ ds. ListFacts q history ds (set_state me s states)) (append-nil sent)
    (list_after q history sent states facts me None [] s tt (λ d m. absurd m) h)

running_in : (q : RequestPredicates) (history : List KeptRecord) (sent : List Letter) (states : RoleId → State)
    → ListFacts q history sent states → (me : RoleId) (s : State) → states me ≡ s → InList q s
running_in q history sent states facts me s e = subst (λ x. InList q x) e (facts.running me)

pub list_laws : (q : RequestPredicates) (c : Cluster) → Laws c (IsAllowed q) Ties (ListFacts q)
list_laws q c = record {
  same = λ history sent states others e facts. record {
    keeps = facts.keeps;
    says = facts.says;
    running = λ me. subst (λ s. InList q s) (e me) (facts.running me);
  };
  start = λ states h. record {
    keeps = λ k m. absurd m;
    says = λ d m. absurd m;
    running = λ me. ⊎_elim (λ e. subst (λ s. InList q s) (sym e) tt) (λ e. subst (λ s. InList q s) (sym e) (fresh_in q c me.kind)) (h me);
  };
  stop = λ history sent states me facts. new_state q history sent states facts me Down tt;
  wake = λ history sent states me facts e.
      new_state q history sent states facts me (opened_state c me history me.kind) (opened_in q c me history me.kind);
  ask = λ history sent states n e allowed known facts. record {
    keeps = facts.keeps;
    says = λ d m. ⊎_elim (facts.says d) (request_says q history n e allowed d) (Member-cases d sent (request n e) m);
    running = facts.running;
  };
  batcher = λ history sent states b v i known facts e given.
      listed_lands q history sent states facts (role kind.Batcher b) BatcherIn _
      (batcher_listed q c history (role kind.Batcher b) v (running_in q history sent states facts (role kind.Batcher b) (BatcherIn v) e) i
      (heard q history sent facts.says (role kind.Batcher b) i given));
  leader = λ history sent states l v i known facts e given.
      listed_lands q history sent states facts (role kind.Leader l) LeaderIn _
      (leader_listed q c history (role kind.Leader l) (durable_of leader_rules (role kind.Leader l) history) v (running_in q history sent
      states facts (role kind.Leader l) (LeaderIn v) e) i (heard q history sent facts.says (role kind.Leader l) i given));
  proxy = λ history sent states p v i known facts e given.
      listed_lands q history sent states facts (role kind.Proxy p) ProxyIn _
      (proxy_listed q c history (role kind.Proxy p) refl v (running_in q history sent states facts (role kind.Proxy p) (ProxyIn v) e) i
      (heard q history sent facts.says (role kind.Proxy p) i given));
  acceptor = λ history sent states a i known facts e given.
      listed_lands q history sent states facts (role kind.Acceptor a) plain _
      (acceptor_listed q c history (role kind.Acceptor a) (durable_of acceptor_rules (role kind.Acceptor a) history)
      (votes_asked q history (role kind.Acceptor a) facts.keeps) i (heard q history sent facts.says (role kind.Acceptor a) i given));
  matchmaker = λ history sent states m i known facts e given.
      listed_lands q history sent states facts (role kind.Matchmaker m) plain _ (calm_listed q history plain (role kind.Matchmaker m) _ tt
      tt (matchmaker_kinds c (role kind.Matchmaker m) refl (durable_of matchmaker_rules (role kind.Matchmaker m) history) i));
  replica = λ history sent states p v i known facts e given.
      listed_lands q history sent states facts (role kind.Replica p) ReplicaIn _
      (replica_listed q c history p (known.tied p) v (running_in q history sent states facts (role kind.Replica p) (ReplicaIn v) e) i
      (heard q history sent facts.says (role kind.Replica p) i given));
  snap = λ history sent states p v first known facts is e. list_snapped q history sent states facts (role kind.Replica p) first;
  acceptor_anew = λ history sent states p first known facts is e.
      list_snapped q history sent states facts (role kind.Acceptor p) first;
  reader_anew = λ history sent states p first v known facts is e. list_snapped q history sent states facts (role kind.Reader p) first;
  unbatcher = λ history sent states u i known facts e given.
      listed_lands q history sent states facts (role kind.Unbatcher u) plain _
      (unbatcher_listed q c history (role kind.Unbatcher u) i (heard q history sent facts.says (role kind.Unbatcher u) i given));
  reader = λ history sent states r v i known facts e given.
      listed_lands q history sent states facts (role kind.Reader r) ReaderIn _
      (reader_listed q c history (role kind.Reader r) (durable_of reader_rules (role kind.Reader r) history) v (running_in q history sent
      states facts (role kind.Reader r) (ReaderIn v) e) i (heard q history sent facts.says (role kind.Reader r) i given));
  replacer = λ history sent states x v i known facts e given.
      listed_lands q history sent states facts (role kind.Replacer x) ReplacerIn _ (calm_listed q history ReplacerIn (role kind.Replacer x)
      _ tt tt (replacer_kinds c (role kind.Replacer x) refl (durable_of replacer_rules (role kind.Replacer x) history) v i));
}

-- the events of a run only grow

pub sent_request : Event → Happened
sent_request e = record { event = e; why = why.Sent }

step_has : (w : World) (e : Event) (h : Happened) → Member h w.events → Member h (step w e).events
unfolding step
step_has w e h m = Member-first h w.events (record { event = e; why = (change w e).why } ∷ []) m

step_sent : (w : World) (e : Event) → (change w e).why ≡ why.Sent → Member (sent_request e) (step w e).events
unfolding step sent_request
step_sent w e sent =
    Member-second (sent_request e) w.events (record { event = e; why = (change w e).why } ∷ []) (inl (ap (λ x. happened x) (sym sent)))
  where
    happened : Why → Happened
    happened x = record { event = e; why = x }

pub run_has : (w : World) (es : List Event) (h : Happened) → Member h w.events → Member h (run_from w es).events
run_has w [] h m = m
run_has w (e ∷ es) h m = run_has (step w e) es h (step_has w e h m)

-- what these events asked for
abbrev pub requests_in : List Happened → RequestPredicates
requests_in events = record {
  asked = λ command. (b : ℕ) × Member {X = Happened} (record { event = event.Write command b; why = why.Sent }) events;
  wanted = λ t key. WasRead events t.client t.seq key;
  sought = λ t key. WasSession events t.client t.seq key;
}

allowed_by : (events : List Happened) (n : ℕ) (e : Event) → Member (sent_request e) events → IsAllowed (requests_in events) n e
unfolding sent_request
allowed_by events n (event.Write command batcher) m = (batcher, m)
allowed_by events n (event.Read client seq floor reader replica key) m = (floor, reader, replica, m)
allowed_by events n (event.Session client seq floor replica key) m = (floor, replica, m)
allowed_by events n (event.Deliver k cut) m = tt
allowed_by events n (event.Tick r) m = tt
allowed_by events n (event.Order l order cut) m = tt
allowed_by events n (event.Replace x s cut) m = tt
allowed_by events n (event.Offer p to s) m = tt
allowed_by events n (event.Snap r cut) m = tt
allowed_by events n (event.Crash r) m = tt
allowed_by events n (event.Restart r) m = tt

all_allowed_by : (w : World) (es : List Event) → AllAllowed (IsAllowed (requests_in (run_from w es).events)) w es
all_allowed_by w [] = tt
all_allowed_by w (e ∷ es) = (
  λ sent.
      allowed_by (run_from (step w e) es).events (heard_of w (token_of e)) e (run_has (step w e) es (sent_request e) (step_sent w e sent)),
  all_allowed_by (step w e) es,
)

-- every run has it, by its own events
pub run_listed : (c : Cluster) (es : List Event) → HoldsIn (ListFacts (requests_in (run c es).events)) (run c es)
run_listed c es = run_keeps c (IsAllowed (requests_in (run c es).events)) Ties (ListFacts (requests_in (run c es).events))
    (list_laws (requests_in (run c es).events) c) es (along c Ties (ties_hold c) [] es) (all_allowed_by (run c []) es)
