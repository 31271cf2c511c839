-- What all rows share in what they say of the list; the rows of acceptors, batchers and unbatchers; and that roles other than these,
-- clients, leaders, proxy leaders, replicas and readers say nothing of it.
use Rattle.cx_inv_run.proofs.Common.{◌≡◌, ◌⊎◌, ℕ, Bool, List, [], ◌∷◌, ◌++◌, map, inl, inr, sym, subst, ⊎_elim, refl, ◌==◌, ◌&&◌, max}
use Rattle.cx_inv_run.proofs.Common.{nat_lt, nat_le, length, if◌then◌else◌, Option, Some, Cluster, Command, Kind, RoleId, Why, commands_of}
use Rattle.cx_inv_run.proofs.Common.{same_role, is_before, same_round, Vote, Letter, letter, Input, Take, Tick, Order, KeptRecord, Written}
use Rattle.cx_inv_run.proofs.Common.{Record, Msg, AcceptorDurable, acceptor_rules, acceptor_row, acceptor_takes, with_vote, votes_from_slot}
use Rattle.cx_inv_run.proofs.Common.{vote_at, is_of_round, BatcherVolatile, batcher_row, Member, names, Outcome, only_word, replied}
use Rattle.cx_inv_run.proofs.Common.{either_way, written_after, answer_to, unbatcher_row, IsKept, IsSender, OfKind, State, BatcherIn, plain}
use Rattle.cx_inv_run.proofs.Common.{Given, entry_by, with_record, Member-both, Member-one, Member-map, Member-filter}
use Rattle.cx_base.specs.declared.role.Kind.TheVariants as kind
use Rattle.cx_letter.specs.declared.input.Written.TheVariants as written
use Rattle.cx_letter.specs.declared.kept.Record.TheVariants as kept
use Rattle.cx_letter.specs.declared.message.Msg.TheVariants as msg
use Rattle.cx_model.specs.Batcher.{batcher_takes, send_batch}
use Rattle.cx_model.specs.Unbatcher.{unbatcher_takes}
use Rattle.cx_inv_run.specs.States.{durable_of}
use Rattle.cx_inv_list.specs.Told.{RequestPredicates, AreAsked, AreVotesAsked, ListSays, ListKeeps, InList, ListKeepsRecord, IsListed}

-- what all rows share

abbrev pub Sends : RequestPredicates → List KeptRecord → List Letter → Type 0
Sends q history ds = (d : Letter) → Member d ds → ListSays q history d.from d.to d.msg

pub listed_if : {V : Type 0} {q : RequestPredicates} {history : List KeptRecord} {me : RoleId} {make : V → State} (b : Bool)
    (x y : Outcome V) → IsListed q history me make x → IsListed q history me make y → IsListed q history me make (if b then x else y)
listed_if {V = V} {q = q} {history = history} {me = me} {make = make} b x y f g =
    either_way (λ (o : Outcome V). IsListed q history me make o) b x y f g

pub listed_answered : {V : Type 0} {q : RequestPredicates} {history : List KeptRecord} {me : RoleId} (make : V → State) (w : Why) (v : V)
    → InList q (make v) → IsListed q history me make (only_word w v)
listed_answered make w v h = record { state = h; keeps = tt; sends = λ d m. absurd m }

pub listed_replied : {V : Type 0} {q : RequestPredicates} {history : List KeptRecord} {me : RoleId} (make : V → State) (w : Why) (v : V)
    (ds : List Letter) → InList q (make v) → Sends q history ds → IsListed q history me make (replied w v ds)
listed_replied make w v ds h s = record { state = h; keeps = tt; sends = s }

pub one_send : (q : RequestPredicates) (history : List KeptRecord) (from to : RoleId) (m : Msg) → ListSays q history from to m
    → Sends q history (letter from to m ∷ [])
one_send q history from to m h = Member-one (λ (d : Letter). ListSays q history d.from d.to d.msg) (letter from to m) h

pub each_send : {X : Type 0} (q : RequestPredicates) (history : List KeptRecord) (make : X → Letter) (xs : List X)
    → ((x : X) → Member x xs → ListSays q history (make x).from (make x).to (make x).msg) → Sends q history (map make xs)
each_send q history make xs h d m =
    let x = Member-map make d xs m in
    subst (λ (y : Letter). ListSays q history y.from y.to y.msg) (sym x.2) (h x.0 x.1)

pub both_send : (q : RequestPredicates) (history : List KeptRecord) (xs ys : List Letter) → Sends q history xs → Sends q history ys
    → Sends q history (xs ++ ys)
both_send q history xs ys f g = Member-both (λ (d : Letter). ListSays q history d.from d.to d.msg) xs ys f g

-- a delivered datagram says what it says
abbrev pub Heard : RequestPredicates → List KeptRecord → Input → Type 0
Heard q history (Take d) = ListSays q history d.from d.to d.msg
Heard q history Tick = Unit {0}
Heard q history (Order order) = Unit {0}

pub heard : (q : RequestPredicates) (history : List KeptRecord) (sent : List Letter) → Sends q history sent → (me : RoleId) (i : Input)
    → Given sent me i → Heard q history i
heard q history sent says me (Take d) g = says d g.1
heard q history sent says me Tick g = tt
heard q history sent says me (Order order) g = tt

-- a role whose kind neither keeps nor sends anything of the list

abbrev pub IsCalm : Kind → Type 0
IsCalm kind.Client = ⊥
IsCalm kind.Batcher = ⊥
IsCalm kind.Leader = ⊥
IsCalm kind.Proxy = ⊥
IsCalm kind.Acceptor = ⊥
IsCalm kind.Replica = ⊥
IsCalm kind.Unbatcher = ⊥
IsCalm kind.Reader = ⊥
IsCalm other = Unit {0}

module _ (q : RequestPredicates) (k : Kind) (calm : IsCalm k) where
  calm_says : (history : List KeptRecord) (from to : RoleId) (m : Msg) → IsSender k m → ListSays q history from to m
  calm_says history from to (msg.Submit command) s = absurd (subst IsCalm s calm)
  calm_says history from to (msg.Batch commands) s = absurd (subst IsCalm s calm)
  calm_says history from to (msg.Phase1B i cw votes) s = absurd (subst IsCalm s calm)
  calm_says history from to (msg.Propose i g s cw v) e = absurd (subst IsCalm e calm)
  calm_says history from to (msg.Phase2A i s cw v) e = absurd (subst IsCalm e calm)
  calm_says history from to (msg.Chosen at v) (inl e) = absurd (subst IsCalm e calm)
  calm_says history from to (msg.Chosen at v) (inr e) = absurd (subst IsCalm e calm)
  calm_says history from to (msg.Results at answers) s = absurd (subst IsCalm s calm)
  calm_says history from to (msg.Answer seq at reply) s = absurd (subst IsCalm s calm)
  calm_says history from to (msg.ReadReq seq replica key) s = absurd (subst IsCalm s calm)
  calm_says history from to (msg.Read t n key) s = absurd (subst IsCalm s calm)
  calm_says history from to (msg.SessRead seq n key) s = absurd (subst IsCalm s calm)
  calm_says history from to (msg.ReadAnswer seq n found) s = absurd (subst IsCalm s calm)
  calm_says history from to other s = tt

  calm_keeps : (o : Option Record) → IsKept k o → ListKeepsRecord q o
  calm_keeps (Some (kept.Vote i s cw v)) e = absurd (subst IsCalm e calm)
  calm_keeps (Some (kept.Voted i top cw vs)) e = cc
  calm_keeps other s = tt

pub calm_listed : (q : RequestPredicates) (history : List KeptRecord) {V : Type 0} (make : V → State) (me : RoleId) (o : Outcome V)
    → IsCalm me.kind → InList q (make o.volatile) → OfKind me o → IsListed q history me make o
calm_listed q history make me o calm state own = record {
  state = state;
  keeps = calm_keeps q me.kind calm o.kept own.keeps;
  sends = λ d m. calm_says q me.kind calm (with_record me o.kept history) d.from d.to d.msg (own.sends d m).1;
}

-- an acceptor

with_vote-cases : (u v : Vote) (us : List Vote) → Member u (with_vote v us) → (u ≡ v) ⊎ Member u us
with_vote-cases u v [] m = ⊎_elim inl (λ x. absurd x) m
with_vote-cases u v (w ∷ us) m = either_way (λ (vs : List Vote). Member u vs → (u ≡ v) ⊎ Member u (w ∷ us)) (w.slot == v.slot) (v ∷ us)
    (if nat_lt v.slot w.slot then v ∷ w ∷ us else w ∷ with_vote v us) (λ k. ⊎_elim inl (λ x. inr (inr x)) k)
    (λ k. either_way (λ (vs : List Vote). Member u vs → (u ≡ v) ⊎ Member u (w ∷ us)) (nat_lt v.slot w.slot) (v ∷ w ∷ us)
    (w ∷ with_vote v us) (λ j. j) (λ j. ⊎_elim (λ e. inr (inl e)) (λ x. ⊎_elim inl (λ y. inr (inr y)) (with_vote-cases u v us x)) j) k) m

from_asked : (q : RequestPredicates) (low : ℕ) (votes : List Vote) → AreVotesAsked q votes → AreVotesAsked q (votes_from_slot low votes)
from_asked q low votes h u m = h u (Member-filter (λ (v : Vote). nat_le low v.slot) u votes m).0

after_asked : (q : RequestPredicates) (d : AcceptorDurable) (w : Written) → ListKeeps q w → AreVotesAsked q d.votes
    → AreVotesAsked q (written_after acceptor_rules d w).votes
after_asked q d (written.Record (kept.Vote i s cw v)) k h =
    λ u m. ⊎_elim (λ e. subst (λ (x : Vote). AreAsked q (commands_of x.value)) (sym e) k) (from_asked q (max d.cw cw) d.votes h u)
    (with_vote-cases u (record { round = i; slot = s; value = v }) (votes_from_slot (max d.cw cw) d.votes) m)
after_asked q d (written.Record (kept.Water i cw)) k h = from_asked q (max d.cw cw) d.votes h
after_asked q d (written.Record (kept.Voted i top cw vs)) k h = k
after_asked q d (written.Record other) k h = h
after_asked q d (written.Snap first) k h = h

-- what an acceptor remembers was asked for, since what it kept was
pub votes_asked : (q : RequestPredicates) (history : List KeptRecord) (a : RoleId)
    → ((k : KeptRecord) → Member k history → ListKeeps q k.what) → AreVotesAsked q (durable_of acceptor_rules a history).votes
unfolding durable_of
votes_asked q [] a h = λ u m. absurd m
votes_asked q (k ∷ history) a h = either_way (λ (d : AcceptorDurable). AreVotesAsked q d.votes) (same_role a k.role)
    (written_after acceptor_rules (durable_of acceptor_rules a history) k.what) (durable_of acceptor_rules a history)
    (after_asked q (durable_of acceptor_rules a history) k.what (h k (inl refl)) (votes_asked q history a (λ x m. h x (inr m))))
    (votes_asked q history a (λ x m. h x (inr m)))

module _ (q : RequestPredicates) (c : Cluster) (history : List KeptRecord) (me : RoleId) where
  -- one datagram that says nothing of the list, or the votes, with a record or none
  plain_one : (w : Why) (to : RoleId) (m : Msg) → ListSays q history me to m
      → IsListed q history me plain (replied w tt (letter me to m ∷ []))
  plain_one w to m h = listed_replied plain w tt (letter me to m ∷ []) tt (one_send q history me to m h)

  keep_one : (w : Why) (r : Record) (to : RoleId) (m : Msg) → ListKeeps q (written.Record r) → ListSays q (entry_by me r ∷ history) me to m
      → IsListed q history me plain (record { why = w; kept = Some r; volatile = tt; sends = letter me to m ∷ [] })
  keep_one w r to m k h = record { state = tt; keeps = k; sends = one_send q (entry_by me r ∷ history) me to m h }

  acceptor_takes_listed : (d : AcceptorDurable) → AreVotesAsked q d.votes → (from to : RoleId) (m : Msg) → ListSays q history from to m
      → IsListed q history me plain (acceptor_takes me d from m)
  acceptor_takes_listed d h from to (msg.Phase1A i) says = listed_if (is_before i d.promise) _ _ (plain_one _ _ _ tt)
      (listed_if (same_round i d.promise) _ _ (plain_one _ _ _ h) (keep_one _ _ _ _ tt h))
  acceptor_takes_listed d h from to (msg.Phase2A i s cw v) says =
      listed_if (is_before i d.promise) _ _ (plain_one _ _ _ tt) (listed_if (nat_lt s d.cw) _ _ (listed_answered plain _ tt tt)
      (listed_if (is_of_round i (vote_at s d.votes)) _ _ (plain_one _ _ _ tt) (keep_one _ _ _ _ says tt)))
  acceptor_takes_listed d h from to (msg.Inform i cw) says = listed_if (is_before i d.promise) _ _ (plain_one _ _ _ tt)
      (listed_if (same_round i d.promise && nat_le cw d.cw) _ _ (plain_one _ _ _ tt) (keep_one _ _ _ _ tt tt))
  acceptor_takes_listed d h from to (msg.PreRead u w) says = plain_one _ _ _ tt
  acceptor_takes_listed d h from to other says = listed_answered plain _ tt tt

  pub acceptor_listed : (d : AcceptorDurable) → AreVotesAsked q d.votes → (i : Input) → Heard q history i
      → IsListed q history me plain (acceptor_row c me d tt i)
  acceptor_listed d h (Take l) says =
      listed_if (same_role l.to me && names c l) _ _ (acceptor_takes_listed d h l.from l.to l.msg says) (listed_answered plain _ tt tt)
  acceptor_listed d h Tick says = listed_answered plain _ tt tt
  acceptor_listed d h (Order order) says = listed_answered plain _ tt tt

  -- a batcher

  more_asked : (commands : List Command) (command : Command) → AreAsked q commands → q.asked command → AreAsked q (commands ++ command ∷ [])
  more_asked commands command h new = Member-both (λ k. q.asked k) commands (command ∷ []) h (Member-one (λ k. q.asked k) command new)

  batch_listed : (v : BatcherVolatile) (commands : List Command) → AreAsked q commands
      → IsListed q history me BatcherIn (send_batch me v commands)
  batch_listed v commands h = listed_replied BatcherIn _ _ _ (λ k m. absurd m) (one_send q history me _ _ h)

  batcher_takes_listed : (v : BatcherVolatile) → AreAsked q v.waiting → (from to : RoleId) (m : Msg) → ListSays q history from to m
      → IsListed q history me BatcherIn (batcher_takes c me v m)
  batcher_takes_listed v h from to (msg.Submit command) says = listed_if (nat_le c.batch (length (v.waiting ++ command ∷ [])))
      _ _ (batch_listed v (v.waiting ++ command ∷ []) (more_asked v.waiting command h says))
      (listed_answered BatcherIn _ _ (more_asked v.waiting command h says))
  batcher_takes_listed v h from to (msg.Leads i) says =
      listed_if (is_before v.round i) _ _ (listed_answered BatcherIn _ _ h) (listed_answered BatcherIn _ _ h)
  batcher_takes_listed v h from to other says = listed_answered BatcherIn _ _ h

  pub batcher_listed : (v : BatcherVolatile) → AreAsked q v.waiting → (i : Input) → Heard q history i
      → IsListed q history me BatcherIn (batcher_row c me tt v i)
  batcher_listed v h (Take l) says =
      listed_if (same_role l.to me && names c l) _ _ (batcher_takes_listed v h l.from l.to l.msg says) (listed_answered BatcherIn _ _ h)
  batcher_listed v h Tick says = listed_if (nat_lt 0 (length v.waiting)) _ _ (batch_listed v v.waiting h) (listed_answered BatcherIn _ _ h)
  batcher_listed v h (Order order) says = listed_answered BatcherIn _ _ h

  -- an unbatcher

  unbatcher_takes_listed : (from to : RoleId) (m : Msg) → ListSays q history from to m → IsListed q history me plain (unbatcher_takes me m)
  unbatcher_takes_listed from to (msg.Results s answers) says =
      listed_replied plain _ _ _ tt (each_send q history (answer_to me) answers (λ a m. (from.index, says a m)))
  unbatcher_takes_listed from to other says = listed_answered plain _ tt tt

  pub unbatcher_listed : (i : Input) → Heard q history i → IsListed q history me plain (unbatcher_row c me tt tt i)
  unbatcher_listed (Take l) says =
      listed_if (same_role l.to me && names c l) _ _ (unbatcher_takes_listed l.from l.to l.msg says) (listed_answered plain _ tt tt)
  unbatcher_listed Tick says = listed_answered plain _ tt tt
  unbatcher_listed (Order order) says = listed_answered plain _ tt tt
