-- What one event sends: an acceptor's answer to a read is above each slot that it voted in and at least its watermark.
use Rattle.std.proofs.lemmas.List.{append_cancel_left}
use Rattle.cx_inv_run.proofs.Common.{◌≡◌, ℕ, ◌<◌, ◌≤◌, ◌&&◌, max, List, [], ◌++◌, reverse, append-nil, sym, subst, ◌∙◌, refl, arith}
use Rattle.cx_inv_run.proofs.Common.{Cluster, Value, Event, RoleId, Round, role, same_role, Asking, Letter, letter, Input, KeptRecord}
use Rattle.cx_inv_run.proofs.Common.{acceptor_rules, acceptor_row, HasVoted, leader_rules, matchmaker_rules, Member, names, Outcome}
use Rattle.cx_inv_run.proofs.Common.{either_way, reader_rules, replacer_rules, replica_rules, request, change, run, IsSender, OfKind, Lands}
use Rattle.cx_inv_run.proofs.Common.{Laws, State, durable_of, HoldsIn, Member-second, batcher_kinds, proxy_kinds, matchmaker_kinds}
use Rattle.cx_inv_run.proofs.Common.{replica_kinds, unbatcher_kinds, reader_kinds, leader_kinds, replacer_kinds, run_cluster}
use Rattle.cx_base.specs.declared.role.Kind.TheVariants as kind
use Rattle.cx_letter.specs.declared.input.Input.TheVariants as input
use Rattle.cx_letter.specs.declared.message.Msg.TheVariants as msg
use Rattle.cx_model.specs.World.{step}
use Rattle.cx_inv_run.proofs.Steps.{step_keeps}
use Rattle.cx_inv_match.specs.Facts.{Facts}
use Rattle.cx_inv_read.proofs.Fresh.{known_holds}
use Rattle.cx_inv_read.proofs.Requests.{requested}
use Rattle.cx_inv_read.proofs.Rows.{IsPlain, Each, acceptor_tells}
use Rattle.cx_inv_read.proofs.Says.{Known}

-- a number that an acceptor may answer a read by
abbrev pub MayAck : List KeptRecord → RoleId → ℕ → Type 0
MayAck history a n = ((durable_of acceptor_rules a history).cw ≤ n) × ((j : Round) (s : ℕ) (v : Value) → HasVoted history a j s v → s < n)

abbrev AckIsSo : List KeptRecord → Letter → Type 0
AckIsSo history d = (u : Asking) (w : Round) (n : ℕ) → d.msg ≡ msg.PreReadAck u w n → MayAck history d.from n

-- nothing is after all of a list
behind_all : {X : Type 0} (xs ys : List X) → xs ≡ xs ++ ys → (y : X) → Member y ys → ⊥
behind_all xs ys e y m = subst (λ l. Member y l) (append_cancel_left xs ys [] (sym e ∙ sym (append-nil xs))) m

-- seen from one moment: its records, and the datagrams sent till then
module _ (c : Cluster) (before : List KeptRecord) (earlier : List Letter) where
  -- what was sent since is so
  abbrev New : List KeptRecord → List Letter → (RoleId → State) → Type 0
  New history sent states = (ds : List Letter) → sent ≡ earlier ++ ds → Each (AckIsSo before) ds

  abbrev Now : List KeptRecord → List Letter → (RoleId → State) → Type 0
  Now history sent states = (history ≡ before) × (sent ≡ earlier) × Known c history sent states

  sent_now : (sent os : List Letter) → sent ≡ earlier → Each (AckIsSo before) os → (ds : List Letter) → sent ++ os ≡ earlier ++ ds
      → Each (AckIsSo before) ds
  sent_now sent os e h ds q = subst (λ (l : List Letter). Each (AckIsSo before) l)
      (append_cancel_left earlier os ds (subst (λ (l : List Letter). l ++ os ≡ earlier ++ ds) e q)) h

  lands : {V : Type 0} (history : List KeptRecord) (sent : List Letter) (states : RoleId → State) → sent ≡ earlier
      → (me : RoleId) (make : V → State) (o : Outcome V) → Each (AckIsSo before) o.sends → Lands New history sent states me make o
  lands history sent states e me make o h = record {
    whole = λ ds q. sent_now sent o.sends e h ds q;
    cut = λ r k ds q d m. absurd (behind_all earlier ds (sym e ∙ q) d m);
  }

  -- only acceptors answer so
  others : {V : Type 0} (me : RoleId) (o : Outcome V) → (me.kind ≡ kind.Acceptor → ⊥) → OfKind me o → Each (AckIsSo before) o.sends
  others me o other kinds d m t w n e = absurd (other (subst (λ x. IsSender me.kind x) e (kinds.sends d m).1))

  acceptor_sends : (me : RoleId) (history : List KeptRecord) (sent : List Letter) (states : RoleId → State) → Facts c history sent states
      → history ≡ before → (i : Input) → Each (AckIsSo before) (acceptor_row c me (durable_of acceptor_rules me history) tt i).sends
  acceptor_sends me history sent states facts e (input.Take l) =
      either_way (λ (o : Outcome (Unit {0})). Each (AckIsSo before) o.sends) (same_role l.to me && names c l) _ _
      (acceptor_tells (AckIsSo before) me (λ to m h t w n q. absurd (subst IsPlain q h)) (durable_of acceptor_rules me history) l.from l.msg
      (λ u i q t w n p. let k : n ≡ max (durable_of acceptor_rules me history).cw (durable_of acceptor_rules me history).top = cc in
      subst (λ h. MayAck h me n) e (
        omega arith,
        λ j s v x. let b = (facts.acceptors me).top j s v x in omega arith,
      )))
      (λ d m. absurd m)
  acceptor_sends me history sent states facts e input.Tick = λ d m. absurd m
  acceptor_sends me history sent states facts e (input.Order order) = λ d m. absurd m

  new_laws : Laws c (λ n e. Unit {0}) Now New
  new_laws = record {
    same = λ history sent states others e h. h;
    start = λ states h ds e d m. absurd (subst (λ l. Member d l) (sym e) (Member-second d earlier ds m));
    stop = λ history sent states me h. h;
    wake = λ history sent states me h down. h;
    ask = λ history sent states n e allowed known h ds q.
        sent_now sent (request n e) known.1 (requested (AckIsSo before) (λ from to command t w k p. cc)
        (λ from to seq replica key t w k p. cc) (λ from to seq m key t w k p. cc) n e) ds q;
    batcher = λ history sent states b v i known h up given. lands history sent states known.1 (role kind.Batcher b)
        _ _ (others (role kind.Batcher b) _ (λ e. cc) (batcher_kinds c (role kind.Batcher b) refl v i));
    leader = λ history sent states l v i known h up given.
        lands history sent states known.1 (role kind.Leader l) _ _ (others (role kind.Leader l) _ (λ e. cc)
        (leader_kinds c (role kind.Leader l) refl (durable_of leader_rules (role kind.Leader l) history) v i));
    proxy = λ history sent states p v i known h up given. lands history sent states known.1 (role kind.Proxy p)
        _ _ (others (role kind.Proxy p) _ (λ e. cc) (proxy_kinds c (role kind.Proxy p) refl v i));
    acceptor = λ history sent states a i known h up given. lands history sent states known.1 (role kind.Acceptor a)
        _ _ (acceptor_sends (role kind.Acceptor a) history sent states known.2.1 known.0 i);
    matchmaker = λ history sent states m i known h up given.
        lands history sent states known.1 (role kind.Matchmaker m) _ _ (others (role kind.Matchmaker m) _ (λ e. cc)
        (matchmaker_kinds c (role kind.Matchmaker m) refl (durable_of matchmaker_rules (role kind.Matchmaker m) history) i));
    replica = λ history sent states p v i known h up given.
        lands history sent states known.1 (role kind.Replica p) _ _ (others (role kind.Replica p) _ (λ e. cc)
        (replica_kinds c (role kind.Replica p) refl (durable_of replica_rules (role kind.Replica p) history) v i));
    snap = λ history sent states p v first known h up e. h;
    acceptor_anew = λ history sent states p first known h up e. h;
    reader_anew = λ history sent states p first v known h up e. h;
    unbatcher = λ history sent states u i known h up given. lands history sent states known.1 (role kind.Unbatcher u)
        _ _ (others (role kind.Unbatcher u) _ (λ e. cc) (unbatcher_kinds c (role kind.Unbatcher u) refl i));
    reader = λ history sent states r v i known h up given.
        lands history sent states known.1 (role kind.Reader r) _ _ (others (role kind.Reader r) _ (λ e. cc)
        (reader_kinds c (role kind.Reader r) refl (durable_of reader_rules (role kind.Reader r) history) v i));
    replacer = λ history sent states x v i known h up given.
        lands history sent states known.1 (role kind.Replacer x) _ _ (others (role kind.Replacer x) _ (λ e. cc)
        (replacer_kinds c (role kind.Replacer x) refl (durable_of replacer_rules (role kind.Replacer x) history) v i));
  }

-- the answers that an event of a run sends
pub ack_sent : (c : Cluster) (es : List Event) (e : Event) (from to : RoleId) (u : Asking) (w : Round) (n : ℕ)
    → Member (letter from to (msg.PreReadAck u w n)) (change (run c es) e).sends → MayAck (reverse (run c es).kept) from n
unfolding step
ack_sent c es e from to u w n m =
    let world = run c es in
    let new : HoldsIn (New c (reverse world.kept) world.sent) (step world e) =
    step_keeps c (λ n x. Unit {0}) (Now c (reverse world.kept) world.sent) (New c (reverse world.kept) world.sent)
    (new_laws c (reverse world.kept) world.sent) world (run_cluster c es)
    (refl, refl, known_holds c es) (λ ds q d k. absurd (behind_all world.sent ds q d k)) e (λ s. tt) in
    new (change world e).sends refl _ m u w n refl
