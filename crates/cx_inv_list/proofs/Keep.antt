-- What is said of the list stays so when a record is kept; and what a row gives lands.
use Rattle.cx_inv_run.proofs.Common.{◌≡◌, ◌⊎◌, ℕ, true, false, List, [], ◌∷◌, ◌++◌, take, length, inl, inr, ap, sym, subst, ◌∙◌, ⊎_elim}
use Rattle.cx_inv_run.proofs.Common.{arith, append-nil, slice_get, Option, None, Some, cases_Bool, length-append, take-append-le, Reply}
use Rattle.cx_inv_run.proofs.Common.{Value, RoleId, fold, text_at, role, same_role, Token, Letter, KeptRecord, Record, Msg, IsRight, Member}
use Rattle.cx_inv_run.proofs.Common.{Begins, Outcome, make_token, values_in, Lands, State, Down, set_state, entry_by, snap_by, with_record}
use Rattle.cx_inv_run.proofs.Common.{log_in, log_other, log_own, log_snap, same_role-true, set_running, Member-cases}
use Rattle.cx_base.specs.declared.role.Kind.TheVariants as kind
use Rattle.cx_letter.specs.declared.input.Written.TheVariants as written
use Rattle.cx_letter.specs.declared.message.Msg.TheVariants as msg
use Rattle.cx_inv_list.specs.Told.{RequestPredicates, IsAsKept, IsRightByReplica, IsAnswerToRead, ListSays, ListKeeps, InList, ListFacts}
use Rattle.cx_inv_list.specs.Told.{ListKeepsRecord, IsListed}
use Rattle.cx_inv_list.proofs.Right.{get_front, grown_right}

-- a replica's values only grow

pub log_grows : (me : RoleId) (r : Record) (history : List KeptRecord) (p : ℕ)
    → Begins (log_in history p) (log_in (entry_by me r ∷ history) p)
log_grows me r history p = go (cases_Bool (same_role (role kind.Replica p) me))
  where
    go : (same_role (role kind.Replica p) me ≡ true) ⊎ (same_role (role kind.Replica p) me ≡ false)
        → Begins (log_in history p) (log_in (entry_by me r ∷ history) p)
    go (inl t) =
        subst (λ a. Begins (log_in history p) (log_in (entry_by a r ∷ history) p)) (same_role-true (role kind.Replica p) me t)
        (values_in (written.Record r), log_own p r history)
    go (inr f) = ([], log_other me p r history f ∙ sym (append-nil (log_in history p)))

-- so what is said by them stays so

module _ (q : RequestPredicates) (history longer : List KeptRecord) (grows : (p : ℕ) → Begins (log_in history p) (log_in longer p)) where
  still_right : (p client seq at : ℕ) (reply : Reply) → IsRight (log_in history p) client seq at reply
      → IsRight (log_in longer p) client seq at reply
  still_right p client seq at reply h =
      let more = grows p in
      subst (λ vs. IsRight vs client seq at reply) (sym more.1) (grown_right (log_in history p) more.0 client seq at reply h)

  still_noted : (client seq at : ℕ) (reply : Reply) → IsRightByReplica history client seq at reply
      → IsRightByReplica longer client seq at reply
  still_noted client seq at reply (p, h) = (p, still_right p client seq at reply h)

  still_told : (p : ℕ) (t : Token) (n : ℕ) (found : Option (List ℕ)) → IsAnswerToRead q history p t n found
      → IsAnswerToRead q longer p t n found
  still_told p t n found h =
      let more = grows p in
      let l = h.within in
      let sum : length (log_in longer p) ≡ length (log_in history p ++ more.0) = ap length more.1 in
      record {
        key = h.key;
        wanted = h.wanted;
        within = omega (arith, sum, length-append (log_in history p) more.0, l);
        found_is = h.found_is
            ∙ ap (λ vs. text_at h.key (fold vs)) (sym (ap (λ vs. take n vs) more.1 ∙ take-append-le n (log_in history p) more.0 l));
      }

  still_kept : (from : RoleId) (s : ℕ) (v : Value) → IsAsKept history from s v → IsAsKept longer from s v
  still_kept from s v h is =
      let more = grows from.index in
      subst (λ vs. slice_get vs s ≡ Some v) (sym more.1) (get_front (log_in history from.index) more.0 s v (h is))

  pub still_says : (from to : RoleId) (m : Msg) → ListSays q history from to m → ListSays q longer from to m
  still_says from to (msg.Submit k) h = h
  still_says from to (msg.Batch ks) h = h
  still_says from to (msg.Phase1B i cw votes) h = h
  still_says from to (msg.Propose i g s cw v) h = h
  still_says from to (msg.Phase2A i s cw v) h = h
  still_says from to (msg.Chosen s v) h = still_kept from s v h
  still_says from to (msg.Results s answers) h = λ a m. still_right from.index a.client a.seq a.at a.reply (h a m)
  still_says from to (msg.Answer seq at reply) h = still_noted to.index seq at reply h
  still_says from to (msg.ReadReq seq replica key) h = h
  still_says from to (msg.Read t n key) h = h
  still_says from to (msg.SessRead seq n key) h = h
  still_says from to (msg.ReadAnswer seq n found) h = still_told from.index (make_token to.index seq) n found h
  still_says from to other h = tt

with_says : (q : RequestPredicates) (history : List KeptRecord) (me : RoleId) (o : Option Record) (from to : RoleId) (m : Msg)
    → ListSays q history from to m → ListSays q (with_record me o history) from to m
with_says q history me None from to m h = h
with_says q history me (Some r) from to m h = still_says q history (entry_by me r ∷ history) (log_grows me r history) from to m h

with_keeps : (q : RequestPredicates) (history : List KeptRecord) (me : RoleId) (o : Option Record) → ListKeepsRecord q o
    → ((k : KeptRecord) → Member k history → ListKeeps q k.what)
    → (k : KeptRecord) → Member k (with_record me o history) → ListKeeps q k.what
with_keeps q history me None h old k m = old k m
with_keeps q history me (Some r) h old k (inl e) = subst (λ (x : KeptRecord). ListKeeps q x.what) (sym e) h
with_keeps q history me (Some r) h old k (inr m) = old k m

-- the facts after a record or none, more datagrams, and a new state of one role
pub list_after : (q : RequestPredicates) (history : List KeptRecord) (sent : List Letter) (states : RoleId → State)
    → ListFacts q history sent states → (me : RoleId) (o : Option Record) (ds : List Letter) (s : State) → ListKeepsRecord q o
    → ((d : Letter) → Member d ds → ListSays q (with_record me o history) d.from d.to d.msg) → InList q s
    → ListFacts q (with_record me o history) (sent ++ ds) (set_state me s states)
list_after q history sent states facts me o ds s keeps says running = record {
  keeps = with_keeps q history me o keeps facts.keeps;
  says = λ d m. ⊎_elim (λ k. with_says q history me o d.from d.to d.msg (facts.says d k)) (says d) (Member-cases d sent ds m);
  running = set_running (λ a x. InList q x) me s states running (λ a e. facts.running a);
}

pub listed_lands : {V : Type 0} (q : RequestPredicates) (history : List KeptRecord) (sent : List Letter) (states : RoleId → State)
    → ListFacts q history sent states
    → (me : RoleId) (make : V → State) (o : Outcome V) → IsListed q history me make o → Lands (ListFacts q) history sent states me make o
listed_lands q history sent states facts me make o h = record {
  whole = list_after q history sent states facts me o.kept o.sends (make o.volatile) h.keeps h.sends h.state;
  cut = λ r e.
      subst (λ ds. ListFacts q (entry_by me r ∷ history) ds (set_state me Down states)) (append-nil sent)
      (list_after q history sent states facts me (Some r) [] Down (subst (λ k. ListKeepsRecord q k) e h.keeps) (λ d m. absurd m) tt);
}

-- a replica forgets values
pub list_snapped : (q : RequestPredicates) (history : List KeptRecord) (sent : List Letter) (states : RoleId → State)
    → ListFacts q history sent states → (me : RoleId) (first : ℕ) → ListFacts q (snap_by me first ∷ history) sent states
list_snapped q history sent states facts me first = record {
  keeps = kept_one;
  says = λ d m. still_says q history (snap_by me first ∷ history)
      (λ p. ([], log_snap me p first history ∙ sym (append-nil (log_in history p)))) d.from d.to d.msg (facts.says d m);
  running = facts.running;
}
  where
    kept_one : (k : KeptRecord) → Member k (snap_by me first ∷ history) → ListKeeps q k.what
    kept_one k (inl e) = subst (λ (x : KeptRecord). ListKeeps q x.what) (sym e) tt
    kept_one k (inr m) = facts.keeps k m
