-- In every run that goes on from one in which a read was not asked for, the facts on the read hold.
use Rattle.cx_inv_run.proofs.Common.{◌≡◌, ℕ, false, ◌⊎◌, List, [], ◌∷◌, ◌++◌, reverse, Option, None, Some, inl, inr, sym, subst, ◌∙◌, refl}
use Rattle.cx_inv_run.proofs.Common.{true≢false, Cluster, Event, Kind, RoleId, Round, role, Asking, Token, Letter, KeptRecord, Msg}
use Rattle.cx_inv_run.proofs.Common.{was_asked, leader_rules, replacer_rules, replica_rules, request, World, change, run, run_from, Laws}
use Rattle.cx_inv_run.proofs.Common.{AllAllowed, HoldsAlong, State, Down, BatcherIn, LeaderIn, ProxyIn, ReplicaIn, ReaderIn, ReplacerIn}
use Rattle.cx_inv_run.proofs.Common.{plain, fresh_state, opened_state, snap_by, durable_of, HoldsIn, set_running, kinds_hold, Member-first}
use Rattle.cx_inv_run.proofs.Common.{Member-reverse, Member-turned, batcher_kinds, proxy_kinds, replica_kinds, unbatcher_kinds}
use Rattle.cx_inv_run.proofs.Common.{leader_kinds, replacer_kinds, batcher_sends, leader_sends, proxy_sends, replica_sends, unbatcher_sends}
use Rattle.cx_inv_run.proofs.Common.{sends_only, run_keeps, run_from_keeps, run_append, run_cluster, along, all_allowed}
use Rattle.cx_base.specs.declared.role.Kind.TheVariants as kind
use Rattle.cx_letter.specs.declared.message.Msg.TheVariants as msg
use Rattle.cx_model.specs.Reader.{Batch}
use Rattle.cx_model.specs.World.{step}
use Rattle.cx_inv_match.specs.Facts.{InState, Facts}
use Rattle.cx_inv_vote.proofs.Steps.{facts_hold}
use Rattle.cx_inv_read.specs.Reads.{Has, HasSent, ReadSays, TurnSays, HasBatch, InReader, FreshReadFacts, IsElse, Unread}
use Rattle.cx_inv_read.proofs.Keep.{Since, lands, no_acks, sent_more, still_evidence, still_reader, still_says}
use Rattle.cx_inv_read.proofs.Requests.{WentOut, all_went_out, allowed_more, read_token, requested, was_asked_by}
use Rattle.cx_inv_read.proofs.Rows.{Each, replacer_sends}
use Rattle.cx_inv_read.proofs.Says.{Known}
use Rattle.cx_inv_read.proofs.Readers.{reader_lands}
use Rattle.cx_inv_read.proofs.Roles.{acceptor_lands, matchmaker_lands}
use Rattle.cx_inv_read.proofs.Turns.{turns_hold}
use Rattle.cx_inv_read.proofs.Unread.{IsOther, unread_laws}

-- what is known from the asking on
abbrev KnownSince : Cluster → List KeptRecord → List Letter → List KeptRecord → List Letter → (RoleId → State) → Type 0
KnownSince c asked sent0 history sent states = Known c history sent states × Has history asked × HasSent sent sent0

fresh_reader : (c : Cluster) (asked : List KeptRecord) (t : Token) (history : List KeptRecord) (a : RoleId) (k : Kind)
    → InReader c asked t history a (fresh_state c k)
fresh_reader c asked t history a kind.Client = tt
fresh_reader c asked t history a kind.Batcher = tt
fresh_reader c asked t history a kind.Leader = tt
fresh_reader c asked t history a kind.Proxy = tt
fresh_reader c asked t history a kind.Acceptor = tt
fresh_reader c asked t history a kind.Matchmaker = tt
fresh_reader c asked t history a kind.Replica = tt
fresh_reader c asked t history a kind.Unbatcher = tt
fresh_reader c asked t history a kind.Reader = tt
fresh_reader c asked t history a kind.Replacer = tt

opened_reader : (c : Cluster) (asked : List KeptRecord) (t : Token) (history : List KeptRecord) (a : RoleId) (k : Kind)
    → InReader c asked t history a (opened_state c a history k)
opened_reader c asked t history a kind.Replacer = tt
opened_reader c asked t history a other = fresh_reader c asked t history a other

-- the same facts, with more changes of stores
more_changes : (c : Cluster) (asked : List KeptRecord) (sent0 : List Letter) (t : Token) (history longer : List KeptRecord)
    → Has longer history
    → (sent : List Letter) (states : RoleId → State) → Has longer asked → FreshReadFacts c asked sent0 t history sent states
    → FreshReadFacts c asked sent0 t longer sent states
more_changes c asked sent0 t history longer more sent states has reads = record {
  has = has;
  has_sent = reads.has_sent;
  says = λ d m. still_says history longer more c asked t d.from d.to d.msg (reads.says d m);
  evidence = λ u new w. still_evidence history longer more c asked sent0 u sent w (reads.evidence u new w);
  readers = λ a. still_reader history longer more c asked t a (states a) (reads.readers a);
}

-- the same facts, with other states of readers
with_states : (c : Cluster) (asked : List KeptRecord) (sent0 : List Letter) (t : Token) (history : List KeptRecord) (sent : List Letter)
    (states others : RoleId → State)
    → FreshReadFacts c asked sent0 t history sent states → ((a : RoleId) → InReader c asked t history a (others a))
    → FreshReadFacts c asked sent0 t history sent others
with_states c asked sent0 t history sent states others h readers =
    record { has = h.has; has_sent = h.has_sent; says = h.says; evidence = h.evidence; readers = readers }

module _ (c : Cluster) (asked : List KeptRecord) (sent0 : List Letter) (states0 : RoleId → State) (facts0 : Facts c asked sent0 states0)
    (t : Token) where
  asks : (history : List KeptRecord) (sent : List Letter) (states : RoleId → State) (n : ℕ) (e : Event) → Known c history sent states
      → FreshReadFacts c asked sent0 t history sent states → FreshReadFacts c asked sent0 t history (sent ++ request n e) states
  asks history sent states n e known reads =
      sent_more c asked sent0 t history sent states known.1 reads (request n e)
      (requested (λ d. ReadSays c asked t history d.from d.to d.msg) (λ from to command. tt) (λ from to seq replica key. tt)
      (λ from to seq k key. tt) n e)
      (λ u new w a k x. absurd (requested (λ d. (u : Asking) (i : Round) (k : ℕ) → d.msg ≡ msg.PreReadAck u i k → ⊥)
      (λ from to command u i k q. cc) (λ from to seq replica key u i k q. cc) (λ from to seq m key u i k q. cc) n e _ x.1 u w k refl))

  start : (states : RoleId → State) → ((a : RoleId) → (states a ≡ Down) ⊎ (states a ≡ fresh_state c a.kind))
      → Since c asked sent0 t [] [] states
  start states is has has_sent = record {
    has = has;
    has_sent = has_sent;
    says = λ d m. absurd m;
    evidence = λ u new w. inr (inl (λ a n x. x.1));
    readers = λ a. elim (is a) [
      | inl e ↦ subst (λ s. InReader c asked t [] a s) (sym e) tt
      | inr e ↦ subst (λ s. InReader c asked t [] a s) (sym e) (fresh_reader c asked t [] a a.kind)
    ];
  }

  pub reads_laws : Laws c (λ n e. Unit {0}) (KnownSince c asked sent0) (Since c asked sent0 t)
  reads_laws = record {
    same = λ history sent states others e h has has_sent.
        let reads = h has has_sent in with_states c asked sent0 t history sent states others reads
        (λ a. subst (λ s. InReader c asked t history a s) (e a) (reads.readers a));
    start = start;
    stop = λ history sent states me h has has_sent.
        let reads = h has has_sent in
        with_states c asked sent0 t history sent states _ reads
        (set_running (λ a s. InReader c asked t history a s) me Down states tt (λ a e. reads.readers a));
    wake = λ history sent states me h down has has_sent.
        let reads = h has has_sent in
        with_states c asked sent0 t history sent states _ reads (set_running (λ a s. InReader c asked t history a s) me
        (opened_state c me history me.kind) states (opened_reader c asked t history me me.kind) (λ a e. reads.readers a));
    ask = λ history sent states n e allowed known h has has_sent. asks history sent states n e known.0 (h known.1 known.2);
    batcher = λ history sent states b v i known h up given.
        let kinds = batcher_kinds c (role kind.Batcher b) refl v i in
        lands c asked sent0 t history sent states known.0.1 (h known.1 known.2) (role kind.Batcher b) BatcherIn _
        (sends_only (λ d. ReadSays c asked t history d.from d.to d.msg) (role kind.Batcher b) _ kinds
        (λ to. batcher_sends (λ m. ReadSays c asked t history (role kind.Batcher b) to m) (λ commands. tt)))
        (no_acks c asked sent0 t history sent states known.0.1 (h known.1 known.2) (role kind.Batcher b) _ (λ e. cc) kinds) tt;
    leader = λ history sent states l v i known h up given.
        let kinds = leader_kinds c (role kind.Leader l) refl (durable_of leader_rules (role kind.Leader l) history) v i in
        lands c asked sent0 t history sent states known.0.1 (h known.1 known.2) (role kind.Leader l) LeaderIn _
        (sends_only (λ d. ReadSays c asked t history d.from d.to d.msg) (role kind.Leader l) _ kinds (λ to. leader_sends (λ m.
        ReadSays c asked t history (role kind.Leader l) to m) (λ j. tt) (λ j g. tt) (λ j. tt) (λ j g s cw u. tt) (λ j cw. tt) (λ j g. tt)))
        (no_acks c asked sent0 t history sent states known.0.1 (h known.1 known.2) (role kind.Leader l) _ (λ e. cc) kinds) tt;
    proxy = λ history sent states p v i known h up given.
        let kinds = proxy_kinds c (role kind.Proxy p) refl v i in
        lands c asked sent0 t history sent states known.0.1 (h known.1 known.2) (role kind.Proxy p) ProxyIn _
        (sends_only (λ d. ReadSays c asked t history d.from d.to d.msg) (role kind.Proxy p) _ kinds
        (λ to. proxy_sends (λ m. ReadSays c asked t history (role kind.Proxy p) to m) (λ j s cw u. tt) (λ s u. tt) (λ j s. tt)))
        (no_acks c asked sent0 t history sent states known.0.1 (h known.1 known.2) (role kind.Proxy p) _ (λ e. cc) kinds) tt;
    acceptor = λ history sent states a i known h up given.
        acceptor_lands c asked sent0 states0 facts0 t history sent states known.0 (h known.1 known.2) a i given;
    matchmaker = λ history sent states m i known h up given.
        matchmaker_lands c asked sent0 states0 facts0 t history sent states known.0 (h known.1 known.2) m i;
    replica = λ history sent states p v i known h up given.
        let kinds = replica_kinds c (role kind.Replica p) refl (durable_of replica_rules (role kind.Replica p) history) v i in
        lands c asked sent0 t history sent states known.0.1 (h known.1 known.2) (role kind.Replica p) ReplicaIn _
        (sends_only (λ d. ReadSays c asked t history d.from d.to d.msg) (role kind.Replica p) _ kinds (λ to. replica_sends (λ m.
        ReadSays c asked t history (role kind.Replica p) to m) (λ s value. tt) (λ s answers. tt) (λ n. tt) (λ s. tt) (λ seq n found. tt)))
        (no_acks c asked sent0 t history sent states known.0.1 (h known.1 known.2) (role kind.Replica p) _ (λ e. cc) kinds) tt;
    snap = λ history sent states p v first known h up e has has_sent. more_changes c asked sent0 t history
        (snap_by (role kind.Replica p) first ∷ history) (λ k x. inr x) sent states has (h known.1 known.2);
    acceptor_anew = λ history sent states p first known h up e has has_sent. more_changes c asked sent0 t history
        (snap_by (role kind.Acceptor p) first ∷ history) (λ k x. inr x) sent states has (h known.1 known.2);
    reader_anew = λ history sent states p first v known h up e has has_sent. more_changes c asked sent0 t history
        (snap_by (role kind.Reader p) first ∷ history) (λ k x. inr x) sent states has (h known.1 known.2);
    unbatcher = λ history sent states u i known h up given.
        let kinds = unbatcher_kinds c (role kind.Unbatcher u) refl i in
        lands c asked sent0 t history sent states known.0.1 (h known.1 known.2) (role kind.Unbatcher u) plain _
        (sends_only (λ d. ReadSays c asked t history d.from d.to d.msg) (role kind.Unbatcher u) _ kinds
        (λ to. unbatcher_sends (λ m. ReadSays c asked t history (role kind.Unbatcher u) to m) (λ seq at reply. tt)))
        (no_acks c asked sent0 t history sent states known.0.1 (h known.1 known.2) (role kind.Unbatcher u) _ (λ e. cc) kinds) tt;
    reader = λ history sent states r v i known h up given.
        reader_lands c asked sent0 states0 facts0 t history sent states known.0 (h known.1 known.2) r v i up given;
    replacer = λ history sent states x v i known h up given.
        let kinds = replacer_kinds c (role kind.Replacer x) refl (durable_of replacer_rules (role kind.Replacer x) history) v i in
        lands c asked sent0 t history sent states known.0.1 (h known.1 known.2) (role kind.Replacer x) ReplacerIn _
        (sends_only (λ d. ReadSays c asked t history d.from d.to d.msg) (role kind.Replacer x) _ kinds
        (λ to. replacer_sends (λ m. ReadSays c asked t history (role kind.Replacer x) to m) (λ b. tt) (λ b s. tt) (λ s w es. tt) (λ s. tt)))
        (no_acks c asked sent0 t history sent states known.0.1 (h known.1 known.2) (role kind.Replacer x) _ (λ e. cc) kinds) tt;
  }

-- runs

pub known_holds : (c : Cluster) (es : List Event) → HoldsIn (Known c) (run c es)
known_holds c es = (kinds_hold c es, facts_hold c es)

-- records are only added
has_step : (w : World) (e : Event) → Has (reverse (step w e).kept) (reverse w.kept)
unfolding step
has_step w e k m = Member-reverse k (w.kept ++ (change w e).kept) (Member-first k w.kept (change w e).kept (Member-turned k w.kept m))

has_run : (w : World) (es : List Event) (asked : List KeptRecord) → Has (reverse w.kept) asked → Has (reverse (run_from w es).kept) asked
has_run w [] asked has = has
has_run w (e ∷ es) asked has = has_run (step w e) es asked (λ k m. has_step w e k (has k m))

-- and so are datagrams
sent_step : (w : World) (e : Event) → HasSent (step w e).sent w.sent
unfolding step
sent_step w e d m = Member-first d w.sent (change w e).sends m

sent_run : (w : World) (es : List Event) (sent0 : List Letter) → HasSent w.sent sent0 → HasSent (run_from w es).sent sent0
sent_run w [] sent0 has = has
sent_run w (e ∷ es) sent0 has = sent_run (step w e) es sent0 (λ d m. sent_step w e d (has d m))

known_since : (c : Cluster) (asked : List KeptRecord) (sent0 : List Letter) (w : World) (es : List Event) → HoldsAlong (Known c) w es
    → Has (reverse w.kept) asked → HasSent w.sent sent0 → HoldsAlong (KnownSince c asked sent0) w es
known_since c asked sent0 w [] known has has_sent = (known, has, has_sent)
known_since c asked sent0 w (e ∷ es) known has has_sent = (
  (known.0, has, has_sent),
  known_since c asked sent0 (step w e) es known.1 (λ k m. has_step w e k (has k m)) (λ d m. sent_step w e d (has_sent d m)),
)

-- of each read from the start on
pub reads_always : (c : Cluster) (es : List Event) (t : Token) → HoldsIn (FreshReadFacts c [] [] t) (run c es)
reads_always c es t =
    run_keeps c (λ n e. Unit {0}) (KnownSince c [] []) (Since c [] [] t) (reads_laws c [] [] _ (facts_hold c []) t) es (known_since c [] []
    (run c []) es (along c (Known c) (known_holds c) [] es) (λ k m. absurd m) (λ d m. absurd m)) (all_allowed (run c []) es)
    (λ k m. absurd m) (λ d m. absurd m)

-- a read that was not asked for is unread
pub unread_where : (c : Cluster) (es : List Event) (t : Token) → AllAllowed (λ n. IsOther t) (run c []) es → HoldsIn (Unread t) (run c es)
unread_where c es t others =
    run_keeps c (λ n. IsOther t) (Known c) (Unread t) (unread_laws t c) es (along c (Known c) (known_holds c) [] es) others

unread_holds : (c : Cluster) (es : List Event) (t : Token) → was_asked t (run c es).events ≡ false → HoldsIn (Unread t) (run c es)
unread_holds c es t h =
    unread_where c es t (allowed_more (λ n. WentOut (run c es)) (λ n. IsOther t)
    (λ n e m r. true≢false (sym (was_asked_by t (run c es) e m (read_token t e r)) ∙ h)) (run c []) es (all_went_out (run c []) es))

-- what is said before the read was asked for: nothing is known of a turn that is new
else_says : (c : Cluster) (asked : List KeptRecord) (t : Token) (from to : RoleId) (m : Msg) → IsElse t from to m → TurnSays asked m
    → ReadSays c asked t asked from to m
else_says c asked t from to (msg.MatchReadAck u w es) h turn = λ new. absurd (new turn)
else_says c asked t from to (msg.PreRead u w) h turn = λ new. absurd (new turn)
else_says c asked t from to (msg.PreReadAck u w n) h turn = λ new. absurd (new turn)
else_says c asked t from to (msg.Read u n key) h turn = λ e. absurd (h e)
else_says c asked t from to other h turn = tt

-- a read that was not asked for is in no batch
not_under : (c : Cluster) (history : List KeptRecord) (t : Token) (sent : List Letter) → Each (λ d. IsElse t d.from d.to d.msg) sent
    → (me : RoleId) (s : State) → InReader c [] t history me s → InState c history sent me s → InReader c history t history me s
not_under c history t sent unread me (ReaderIn v) old told = go v.running refl old
  where
    go : (o : Option Batch) → v.running ≡ o → HasBatch c [] t history me v.set o → HasBatch c history t history me v.set o
    go None e b = tt
    go (Some b) e h = record {
      set = h.set;
      set_known = h.set_known;
      once = h.once;
      known = h.known;
      asking = h.asking;
      under = λ r m p. absurd (unread _ ((told.0.batch b e).requests r m) p);
    }
not_under c history t sent unread me other old told = tt

-- of a read, from a run on in which it was not asked for
pub reads_since : (c : Cluster) (es more : List Event) (t : Token) → was_asked t (run c es).events ≡ false
    → HoldsIn (FreshReadFacts c (reverse (run c es).kept) (run c es).sent t) (run c (es ++ more))
reads_since c es more t h =
    let w = run c es in
    let asked = reverse w.kept in
    let unread = unread_holds c es t h in
    let turns = turns_hold c es in
    let now : HoldsIn (Since c asked w.sent t) w = λ has has_sent. record {
      has = has;
      has_sent = has_sent;
      says = λ d m. else_says c asked t d.from d.to d.msg (unread d m) (turns.says d m);
      evidence = λ u new i. inr (inl (λ a n x. new (turns.says _ x.1)));
      readers = λ a. not_under c asked t w.sent unread a (w.roles a) ((reads_always c es t).readers a) ((facts_hold c es).running a);
    } in
    let later = run_from_keeps c (λ n e. Unit {0}) (KnownSince c asked w.sent) (Since c asked w.sent t)
    (reads_laws c asked w.sent w.roles (facts_hold c es) t) w (run_cluster c es)
    now more (known_since c asked w.sent w more (along c (Known c) (known_holds c) es more) (λ k m. m) (λ d m. m)) (all_allowed w more)
    (has_run w more asked (λ k m. m)) (sent_run w more w.sent (λ d m. m)) in
    subst (λ x. HoldsIn (FreshReadFacts c asked w.sent t) x) (sym (run_append c es more)) later
