-- In a round that its leader has left nothing more is proposed, so what was known of a run stays known of the longer ones.
use Rattle.cx_inv_run.proofs.Common.{◌≡◌, ℕ, List, [], ◌∷◌, ◌++◌, reverse, Some, ap, sym, subst, ◌∙◌, refl, inl, inr, reverse-append}
use Rattle.cx_inv_run.proofs.Common.{Cluster, Value, Event, RoleId, Round, role, Entry, Letter, Input, KeptRecord, acceptor_rules}
use Rattle.cx_inv_run.proofs.Common.{IsProposed, LeaderDurable, LeaderVolatile, leader_rules, leader_row, matchmaker_rules, Member, Outcome}
use Rattle.cx_inv_run.proofs.Common.{HasKept, reader_rules, replacer_rules, replica_rules, request, World, run, OfKind, Lands, Laws}
use Rattle.cx_inv_run.proofs.Common.{HoldsAlong, State, BatcherIn, LeaderIn, ProxyIn, ReplicaIn, ReaderIn, ReplacerIn, plain, durable_of}
use Rattle.cx_inv_run.proofs.Common.{HoldsIn, kinds_hold, Member-second, before-both, batcher_kinds, proxy_kinds, acceptor_kinds}
use Rattle.cx_inv_run.proofs.Common.{matchmaker_kinds, replica_kinds, unbatcher_kinds, reader_kinds, replacer_kinds, run_append}
use Rattle.cx_inv_run.proofs.Common.{run_cluster, run_from_keeps, all_allowed}
use Rattle.cx_inv_match.specs.Prelude.{IsLastRound, IsLeft}
use Rattle.cx_base.specs.declared.event.Event.TheVariants as event
use Rattle.cx_base.specs.declared.role.Kind.TheVariants as kind
use Rattle.cx_letter.specs.declared.kept.Record.TheVariants as kept
use Rattle.cx_letter.specs.declared.message.Msg.TheVariants as msg
use Rattle.cx_inv_match.proofs.Grow.{Grows}
use Rattle.cx_inv_vote.proofs.Send.{proposed_cases}
use Rattle.cx_inv_vote.proofs.Steps.{facts_hold}
use Rattle.cx_inv_facts.specs.Ended.{HasPast, Known}
use Rattle.cx_inv_facts.specs.Order.{Each, LaterOfOne}
use Rattle.cx_inv_facts.proofs.LeadingRows.{leads_on}
use Rattle.cx_inv_facts.proofs.Moments.{grows_by_order, run_from_kept, run_from_sent}
use Rattle.cx_inv_facts.proofs.Ordered.{ordered}

-- what is proposed in a round that was left in the past was proposed then
abbrev Unproposed : List KeptRecord → List Letter → List KeptRecord → List Letter → (RoleId → State) → Type 0
Unproposed past sent_then history sent states =
    (j : Round) (s : ℕ) (v : Value) → IsLeft past j → IsProposed sent j s v → IsProposed sent_then j s v

request_proposes : (n : ℕ) (e : Event) (j : Round) (s : ℕ) (v : Value) → IsProposed (request n e) j s v → ⊥
request_proposes n (event.Write command batcher) j s v (from, to, g, cw, inl p) =
    let q : msg.Propose j g s cw v ≡ msg.Submit command = ap (λ (x : Letter). x.msg) p in cc
request_proposes n (event.Write command batcher) j s v (from, to, g, cw, inr m) = m
request_proposes n (event.Read client seq floor reader replica key) j s v (from, to, g, cw, inl p) =
    let q : msg.Propose j g s cw v ≡ msg.ReadReq seq replica key = ap (λ (x : Letter). x.msg) p in cc
request_proposes n (event.Read client seq floor reader replica key) j s v (from, to, g, cw, inr m) = m
request_proposes n (event.Session client seq floor replica key) j s v (from, to, g, cw, inl p) =
    let q : msg.Propose j g s cw v ≡ msg.SessRead seq n key = ap (λ (x : Letter). x.msg) p in cc
request_proposes n (event.Session client seq floor replica key) j s v (from, to, g, cw, inr m) = m
request_proposes n (event.Deliver number cut) j s v x = x.4
request_proposes n (event.Tick r) j s v x = x.4
request_proposes n (event.Order leader order cut) j s v x = x.4
request_proposes n (event.Replace replacer set cut) j s v x = x.4
request_proposes n (event.Offer replica to slot) j s v x = x.4
request_proposes n (event.Crash r) j s v x = x.4
request_proposes n (event.Snap r cut) j s v x = x.4
request_proposes n (event.Restart r) j s v x = x.4

module _ (past : List KeptRecord) (sent_then : List Letter) where
  module _ (history : List KeptRecord) (sent : List Letter) (states : RoleId → State)
      (h : Unproposed past sent_then history sent states) where
    -- a row that proposes nothing in such a round
    landed : {V : Type 0} (me : RoleId) (make : V → State) (o : Outcome V)
        → ((j : Round) (s : ℕ) (v : Value) → IsLeft past j → IsProposed o.sends j s v → ⊥)
        → Lands (Unproposed past sent_then) history sent states me make o
    landed me make o none = record {
      whole = λ j s v l x. elim (proposed_cases sent o.sends j s v x) [ inl y ↦ h j s v l y | inr y ↦ absurd (none j s v l y) ];
      cut = λ r e j s v l x. h j s v l x;
    }

    -- another kind of role
    calm : {V : Type 0} (me : RoleId) (make : V → State) (o : Outcome V) → (me.kind ≡ kind.Leader → ⊥) → OfKind me o
        → Lands (Unproposed past sent_then) history sent states me make o
    calm me make o other kinds = landed me make o (λ j s v l x. other (kinds.sends _ x.4).1)

  -- a leader proposes in its last round, which it hasn't left
  module _ (c : Cluster) (history : List KeptRecord) (sent : List Letter) (states : RoleId → State)
      (known : Known c past history sent states) (n : ℕ) where
    abbrev me : RoleId
    me = role kind.Leader n

    abbrev dur : LeaderDurable
    dur = durable_of leader_rules me history

    not_left : (own : Entry) → dur.own ≡ Some own → IsLeft past own.round → ⊥
    not_left own e x =
        let last = subst (λ o. IsLastRound history me o) e (known.facts.last me) in
        let owner = known.facts.owner me own.round own.grid last.0 in
        before-both own.round x.0 x.2 (last.1 x.0 x.1 (subst (λ a. HasKept history a (kept.Round x.0 x.1)) (sym owner) (known.has _ x.3)))

    none_left : (v : LeaderVolatile) (i : Input) (j : Round) (s : ℕ) (u : Value) → IsLeft past j
        → IsProposed (leader_row c me dur v i).sends j s u → ⊥
    none_left v i j s u l x =
        let own = (leads_on c me dur v i).own_sends _ x.4 in
        not_left own.0 own.1 (subst (λ k. IsLeft past k) own.2 l)

  left_laws : (c : Cluster) → Laws c (λ n e. Unit {0}) (Known c past) (Unproposed past sent_then)
  left_laws c = record {
    same = λ history sent states others same h j s v l x. h j s v l x;
    start = λ states starts j s v l x. absurd x.4;
    stop = λ history sent states me h j s v l x. h j s v l x;
    wake = λ history sent states me h down j s v l x. h j s v l x;
    ask = λ history sent states n e allowed known h j s v l x.
        elim (proposed_cases sent (request n e) j s v x) [ inl y ↦ h j s v l y | inr y ↦ absurd (request_proposes n e j s v y) ];
    batcher = λ history sent states b v i known h at given.
        calm history sent states h (role kind.Batcher b) BatcherIn _ (λ p. cc) (batcher_kinds c (role kind.Batcher b) refl v i);
    leader = λ history sent states n v i known h at given.
        landed history sent states h (role kind.Leader n) LeaderIn _ (none_left c history sent states known n v i);
    proxy = λ history sent states p v i known h at given.
        calm history sent states h (role kind.Proxy p) ProxyIn _ (λ q. cc) (proxy_kinds c (role kind.Proxy p) refl v i);
    acceptor = λ history sent states a i known h at given.
        calm history sent states h (role kind.Acceptor a) plain _ (λ p. cc)
        (acceptor_kinds c (role kind.Acceptor a) refl (durable_of acceptor_rules (role kind.Acceptor a) history) i);
    matchmaker = λ history sent states m i known h at given.
        calm history sent states h (role kind.Matchmaker m) plain _ (λ p. cc)
        (matchmaker_kinds c (role kind.Matchmaker m) refl (durable_of matchmaker_rules (role kind.Matchmaker m) history) i);
    replica = λ history sent states p v i known h at given.
        calm history sent states h (role kind.Replica p) ReplicaIn _ (λ q. cc)
        (replica_kinds c (role kind.Replica p) refl (durable_of replica_rules (role kind.Replica p) history) v i);
    snap = λ history sent states p v first known h at e j s u l x. h j s u l x;
    acceptor_anew = λ history sent states p first known h at e j s u l x. h j s u l x;
    reader_anew = λ history sent states p first v known h at e j s u l x. h j s u l x;
    unbatcher = λ history sent states u i known h at given.
        calm history sent states h (role kind.Unbatcher u) plain _ (λ p. cc) (unbatcher_kinds c (role kind.Unbatcher u) refl i);
    reader = λ history sent states r v i known h at given. calm history sent states h (role kind.Reader r) ReaderIn _ (λ p. cc)
        (reader_kinds c (role kind.Reader r) refl (durable_of reader_rules (role kind.Reader r) history) v i);
    replacer = λ history sent states x v i known h at given. calm history sent states h (role kind.Replacer x) ReplacerIn _ (λ p. cc)
        (replacer_kinds c (role kind.Replacer x) refl (durable_of replacer_rules (role kind.Replacer x) history) v i);
  }

-- the records of a run are among those of each longer one
run_has : (c : Cluster) (es more : List Event)
    → (new : List KeptRecord) × (reverse (run c (es ++ more)).kept ≡ new ++ reverse (run c es).kept)
run_has c es more =
    let r = run_from_kept (run c es) more in (
      reverse r.0,
      ap (λ (w : World). reverse w.kept) (run_append c es more) ∙ ap (λ (l : List KeptRecord). reverse l) r.1
          ∙ reverse-append (run c es).kept r.0,
    )

pub run_more : (c : Cluster) (es more : List Event) → HasPast (reverse (run c es).kept) (reverse (run c (es ++ more)).kept)
run_more c es more k m =
    let r = run_has c es more in subst (λ (l : List KeptRecord). Member k l) (sym r.1) (Member-second k r.0 (reverse (run c es).kept) m)

-- from a past on, the kinds and the facts hold, and the history has all of the past
pub known_along : (c : Cluster) (past : List KeptRecord) (es more : List Event) → HasPast past (reverse (run c es).kept)
    → HoldsAlong (Known c past) (run c es) more
known_along c past es [] has = record { kinds = kinds_hold c es; facts = facts_hold c es; has = has }
known_along c past es (e ∷ more) has = (
  record { kinds = kinds_hold c es; facts = facts_hold c es; has = has },
  subst (λ w. HoldsAlong (Known c past) w more) (run_append c es (e ∷ []))
      (known_along c past (es ++ e ∷ []) more (λ k m. run_more c es (e ∷ []) k (has k m))),
)

-- what was known of a run stays known
pub run_grows : (c : Cluster) (es more : List Event)
    → Grows (reverse (run c es).kept) (run c es).sent (reverse (run c (es ++ more)).kept) (run c (es ++ more)).sent
run_grows c es more =
    let past = reverse (run c es).kept in
    let r = run_has c es more in
    subst (λ (l : List KeptRecord). Grows past (run c es).sent l (run c (es ++ more)).sent) (sym r.1) (grows_by_order past r.0
    (subst (λ (l : List KeptRecord). Each LaterOfOne l) r.1 (ordered c (es ++ more))) (run c es).sent (run c (es ++ more)).sent
    (λ d m. subst (λ (w : World). Member d w.sent) (sym (run_append c es more)) (run_from_sent (run c es) more d m))
    (subst (λ (w : World). HoldsIn (Unproposed past (run c es).sent) w) (sym (run_append c es more))
    (run_from_keeps c (λ n e. Unit {0}) (Known c past) (Unproposed past (run c es).sent) (left_laws past (run c es).sent c)
    (run c es) (run_cluster c es) (λ j s v l x. x) more (known_along c past es more (λ k m. m)) (all_allowed (run c es) more))))
