-- The facts of a moment in which nothing has happened, a role that was just opened, and a request that goes out.
use Rattle.cx_inv_run.proofs.Common.{◌≡◌, ℕ, zero, suc, ◌⊎◌, List, [], ◌∷◌, ◌++◌, map, Some, inl, inr, sym, subst, refl, slice_get}
use Rattle.cx_inv_run.proofs.Common.{none-some, same_Some, Cluster, Value, Event, Kind, RoleId, Round, below, role, no_round, Letter}
use Rattle.cx_inv_run.proofs.Common.{letter, KeptRecord, acceptor_rules, leader_rules, matchmaker_rules, Member, replacer_rules, request}
use Rattle.cx_inv_run.proofs.Common.{State, Down, HasKept, fresh_state, opened_set, opened_state, set_state, set_running, Member-one}
use Rattle.cx_inv_run.proofs.Common.{before-both, least}
use Rattle.cx_base.specs.declared.event.Event.TheVariants as event
use Rattle.cx_base.specs.declared.role.Kind.TheVariants as kind
use Rattle.cx_letter.specs.declared.kept.Record.TheVariants as kept
use Rattle.cx_letter.specs.declared.message.Msg.TheVariants as msg
use Rattle.cx_model.specs.Leader.{idle_leader}
use Rattle.cx_inv_run.specs.States.{durable_of, log_in}
use Rattle.cx_inv_run.proofs.Histories.{set_same}
use Rattle.cx_inv_match.specs.Facts.{IsLastBallot, Says, InState, IsLastRound, IsMatchmaker, IsAcceptor, Facts}
use Rattle.cx_inv_match.specs.Words.{HasMark, IsChosen, IsKnown, IsUsed, SetFacts}
use Rattle.cx_inv_match.proofs.Keep.{stop, same_states}
use Rattle.cx_inv_vote.specs.Laws.{IsPlainMsg}
use Rattle.cx_inv_vote.proofs.Moves.{idle_mode}
use Rattle.cx_inv_vote.proofs.Send.{QuietSends, still_state, send_plain}

-- a role that was just opened

zeros : (ns : List ℕ) (p n : ℕ) → slice_get (map (λ (r : ℕ). 0) ns) p ≡ Some n → n ≡ 0
zeros [] p n e = cc
zeros (m ∷ ns) zero n e = sym (same_Some 0 n e)
zeros (m ∷ ns) (suc p) n e = zeros ns p n e

pub fresh_holds : (c : Cluster) (history : List KeptRecord) (sent : List Letter) (me : RoleId) (k : Kind)
    → InState c history sent me (fresh_state c k)
fresh_holds c history sent me kind.Client = tt
fresh_holds c history sent me kind.Batcher = record { commands = λ k m. absurd m; round = inl refl }
fresh_holds c history sent me kind.Leader = (
  record {
    answers = λ a m. absurd m;
    promises = λ p m. absurd m;
    chosen = λ s t m. absurd m;
    held = λ p n e. inl (zeros (below c.replicas) p n e);
    informed = λ a t m. absurd m;
    forgotten = λ a t m. absurd m;
  },
  idle_mode c history sent (durable_of leader_rules me history).own (idle_leader c),
  (0, refl),
)
fresh_holds c history sent me kind.Proxy = (record { proposed = λ p m. absurd m; votes = λ p a m k. absurd m }, λ p m. absurd m)
fresh_holds c history sent me kind.Acceptor = tt
fresh_holds c history sent me kind.Matchmaker = tt
fresh_holds c history sent me kind.Replica = record { early = λ p m. absurd m; deferred = λ r m. absurd m }
fresh_holds c history sent me kind.Unbatcher = tt
fresh_holds c history sent me kind.Reader =
    (record { requests = λ r m. absurd m; batch = λ b e. absurd (none-some b e) }, λ b e f a k. absurd (none-some b e), (0, refl))
fresh_holds c history sent me kind.Replacer = ((0, refl), tt)

opened_holds : (c : Cluster) (history : List KeptRecord) (sent : List Letter) (me : RoleId) (k : Kind)
    → ((t : List ℕ) → HasKept history me (kept.Known t) → IsKnown c history t) → InState c history sent me (opened_state c me history k)
opened_holds c history sent me kind.Replacer known = (opened_set (λ s. IsKnown c history s) c me history (0, refl) known, tt)
opened_holds c history sent me other known = fresh_holds c history sent me other

-- it doesn't matter in which state it was before
pub wake : (c : Cluster) (history : List KeptRecord) (sent : List Letter) (states : RoleId → State) (me : RoleId)
    → Facts c history sent states → Facts c history sent (set_state me (opened_state c me history me.kind) states)
wake c history sent states me facts = record {
  owner = facts.owner;
  one_grid = facts.one_grid;
  last = facts.last;
  asked = facts.asked;
  garbaged = facts.garbaged;
  logs = facts.logs;
  acceptors = facts.acceptors;
  sets = facts.sets;
  accepted = facts.accepted;
  one_asked = facts.one_asked;
  asks = facts.asks;
  balloter = facts.balloter;
  last_ballot = facts.last_ballot;
  known_sets = facts.known_sets;
  voted = facts.voted;
  one_value = facts.one_value;
  logged = facts.logged;
  says = facts.says;
  running = set_running (λ a s. InState c history sent a s) me (opened_state c me history me.kind) states
      (opened_holds c history sent me me.kind (facts.known_sets me)) (λ a e. facts.running a);
}

-- nothing has happened

start_last : (me : RoleId) → IsLastRound [] me (durable_of leader_rules me []).own
unfolding durable_of
start_last me = λ i g m. m

start_log : (c : Cluster) (m : RoleId) → IsMatchmaker c [] [] m (durable_of matchmaker_rules m [])
unfolding durable_of
start_log c m = record {
  all = λ j g l x. elim x [ inl y ↦ absurd y | inr y ↦ absurd y.3 ];
  only = λ e x. absurd x;
  from_watermark = λ e x. absurd x;
  bound = λ j g x. absurd x;
  boots = λ s w es x. absurd x;
  raised = inl refl;
  none = λ e j g x. x;
  own = inl refl;
  began = λ s e. cc;
  unbegun = λ e s w es x. x;
  ballots = λ b x. elim x [ inl y ↦ absurd y | inr y ↦ absurd y.1 ];
  ballot = inl refl;
  unstopped = λ e x. elim x.1 [ inl y ↦ y | inr y ↦ y.1 ];
  nexts = λ b s x. absurd x;
  accepted = inl refl;
}

no_mark : (a : RoleId) (i : Round) (n : ℕ) → HasMark [] a i n → ⊥
no_mark a i n (inl x) = x.2
no_mark a i n (inr m) = m

start_acceptor : (a : RoleId) → IsAcceptor [] a (durable_of acceptor_rules a [])
unfolding durable_of
start_acceptor a = record {
  bound = λ i p. absurd (elim p [ inl m ↦ m | inr h ↦ no_mark a i h.0 h.1 ]);
  promised = λ j l. absurd (before-both j no_round l (least j));
  last = λ j s v l x. absurd x.1;
  only = λ u m. absurd m;
  mark = λ j n x. absurd (no_mark a j n x);
  low = inl refl;
  top = λ j s v x. absurd x.1;
}

start_values : (p s : ℕ) (v : Value) → slice_get (log_in [] p) s ≡ Some v → IsChosen [] s v
unfolding log_in
start_values p s v e = cc

unused : (m : RoleId) → IsUsed [] m → ⊥
unused m (inl (i, (g, inl (inl x)))) = x
unused m (inl (i, (g, inl (inr x)))) = x.3
unused m (inl (i, (g, inr x))) = x
unused m (inr (b, inl x)) = x
unused m (inr (b, inr x)) = x.1

start_sets : (c : Cluster) → SetFacts c []
start_sets c = record {
  nexted = λ m b t x. absurd x;
  one_next = λ m o b t u x y. absurd x;
  booted = λ m s w es x. absurd x;
  members = λ m x. absurd (unused m x);
  above_boot = λ m s w es i g x y e k. absurd x;
}

start_ballot : (me : RoleId) → IsLastBallot [] me (durable_of replacer_rules me [])
unfolding durable_of
start_ballot me = (λ b x. absurd x, inl refl)

pub start_facts : (c : Cluster) (states : RoleId → State) → ((a : RoleId) → (states a ≡ Down) ⊎ (states a ≡ fresh_state c a.kind))
    → Facts c [] [] states
start_facts c states fresh = record {
  owner = λ me i g m. absurd m;
  one_grid = λ i g h x y. absurd x.1;
  last = start_last;
  asked = λ m i g x. absurd x;
  garbaged = λ m i g x. absurd x;
  logs = start_log c;
  sets = start_sets c;
  accepted = λ m b t x. absurd x;
  one_asked = λ b t u x y. absurd x.2;
  asks = λ from to b t m. absurd m;
  balloter = λ me b m. absurd m;
  last_ballot = start_ballot;
  known_sets = λ me t x. absurd x;
  acceptors = start_acceptor;
  voted = λ a i s v x. absurd x.1;
  one_value = λ i s u v x y. absurd x.4;
  logged = start_values;
  says = λ d m. absurd m;
  running = λ a. elim (fresh a) [
    | inl e ↦ subst (λ s. InState c [] [] a s) (sym e) tt
    | inr e ↦ subst (λ s. InState c [] [] a s) (sym e) (fresh_holds c [] [] a a.kind)
  ];
}

-- a request

request_says : (c : Cluster) (history : List KeptRecord) (longer : List Letter) (n : ℕ) (e : Event) (d : Letter) → Member d (request n e)
    → Says c history longer d.from d.msg
request_says c history longer n (event.Write command batcher) = Member-one (λ (d : Letter). Says c history longer d.from d.msg)
    (letter (role kind.Client command.client) (role kind.Batcher batcher) (msg.Submit command)) tt
request_says c history longer n (event.Read client seq floor reader replica key) =
    Member-one (λ (d : Letter). Says c history longer d.from d.msg)
    (letter (role kind.Client client) (role kind.Reader reader) (msg.ReadReq seq replica key)) tt
request_says c history longer n (event.Session client seq floor replica key) =
    Member-one (λ (d : Letter). Says c history longer d.from d.msg)
    (letter (role kind.Client client) (role kind.Replica replica) (msg.SessRead seq n key)) tt
request_says c history longer n (event.Deliver number cut) = λ d m. absurd m
request_says c history longer n (event.Tick r) = λ d m. absurd m
request_says c history longer n (event.Order leader order cut) = λ d m. absurd m
request_says c history longer n (event.Replace replacer set cut) = λ d m. absurd m
request_says c history longer n (event.Offer replica to slot) = λ d m. absurd m
request_says c history longer n (event.Crash r) = λ d m. absurd m
request_says c history longer n (event.Snap r cut) = λ d m. absurd m
request_says c history longer n (event.Restart r) = λ d m. absurd m

request_quiet : (n : ℕ) (e : Event) → QuietSends (request n e)
request_quiet n (event.Write command batcher) = Member-one (λ (d : Letter). IsPlainMsg d.msg) (letter (role kind.Client command.client)
    (role kind.Batcher batcher) (msg.Submit command)) (λ i g s cw v e. cc, λ i g e. cc, λ b t e. cc)
request_quiet n (event.Read client seq floor reader replica key) =
    Member-one (λ (d : Letter). IsPlainMsg d.msg) (letter (role kind.Client client) (role kind.Reader reader) (msg.ReadReq seq replica key))
    (λ i g s cw v e. cc, λ i g e. cc, λ b t e. cc)
request_quiet n (event.Session client seq floor replica key) =
    Member-one (λ (d : Letter). IsPlainMsg d.msg) (letter (role kind.Client client) (role kind.Replica replica) (msg.SessRead seq n key))
    (λ i g s cw v e. cc, λ i g e. cc, λ b t e. cc)
request_quiet n (event.Deliver number cut) = λ d m. absurd m
request_quiet n (event.Tick r) = λ d m. absurd m
request_quiet n (event.Order leader order cut) = λ d m. absurd m
request_quiet n (event.Replace replacer set cut) = λ d m. absurd m
request_quiet n (event.Offer replica to slot) = λ d m. absurd m
request_quiet n (event.Crash r) = λ d m. absurd m
request_quiet n (event.Snap r cut) = λ d m. absurd m
request_quiet n (event.Restart r) = λ d m. absurd m

pub asked : (c : Cluster) (history : List KeptRecord) (sent : List Letter) (states : RoleId → State) (n : ℕ) (e : Event)
    → Facts c history sent states → Facts c history (sent ++ request n e) states
asked c history sent states n e facts =
    let client : RoleId = role kind.Client 0 in
    same_states c history (sent ++ request n e) (set_state client (states client) states) states
    (λ a. sym (set_same client (states client) states refl a))
    (send_plain c history sent states client (stop c history sent states client facts) (request n e) (states client)
    (request_says c history (sent ++ request n e) n e) (request_quiet n e)
    (still_state c history sent (request n e) (request_quiet n e) client (states client) (facts.running client)))
