-- A row keeps the facts where its record fits, and its state and datagrams are in their ranges.
use Rattle.cx_inv_run.proofs.Common.{◌≡◌, ℕ, ◌+◌, ◌<◌, ◌&&◌, Bool, true, nat_lt, map, List, [], ◌∷◌, ◌++◌, Option, None, Some, sym, subst}
use Rattle.cx_inv_run.proofs.Common.{inl, inr, arith, and_parts, nat_tests, Cluster, Value, Kind, RoleId, Round, same_role, Letter}
use Rattle.cx_inv_run.proofs.Common.{KeptRecord, Written, Record, Msg, IsProposed, Member, Outcome, either_way, HasKept, Rules, IsFit}
use Rattle.cx_inv_run.proofs.Common.{IsSender, IsKeeper, IsKept, OfKind, Lands, State, Down, with_record, durable_of, Member-both}
use Rattle.cx_inv_run.proofs.Common.{Member-map, Member-one}
use Rattle.cx_base.specs.declared.role.Kind.TheVariants as kind
use Rattle.cx_letter.specs.declared.input.Written.TheVariants as written
use Rattle.cx_letter.specs.declared.kept.Record.TheVariants as kept
use Rattle.cx_letter.specs.declared.message.Msg.TheVariants as msg
use Rattle.cx_inv_run.specs.States.{set_state}
use Rattle.cx_inv_open.specs.Fits.{FitsAs, NewFits, AllFit, InWindow, InRange, IsSlot, Fitting}

abbrev pub AllInWindow : List Letter → Type 0
AllInWindow ds = (d : Letter) → Member d ds → InWindow d.msg

pub none_in : AllInWindow []
none_in d m = absurd m

pub one_in : (one : Letter) → InWindow one.msg → AllInWindow (one ∷ [])
one_in one h = Member-one (λ (d : Letter). InWindow d.msg) one h

pub both_in : (ds es : List Letter) → AllInWindow ds → AllInWindow es → AllInWindow (ds ++ es)
both_in ds es p q = Member-both (λ (d : Letter). InWindow d.msg) ds es p q

pub each_in : {X : Type 0} (make : X → Letter) (xs : List X) → ((x : X) → Member x xs → InWindow (make x).msg) → AllInWindow (map make xs)
each_in make xs h d m =
    let r = Member-map make d xs m in
    subst (λ (x : Letter). InWindow x.msg) (sym r.2) (h r.0 r.1)

-- only leaders, proxy leaders and acceptors send what has a window
abbrev pub IsCalm : Kind → Type 0
IsCalm kind.Leader = ⊥
IsCalm kind.Proxy = ⊥
IsCalm kind.Acceptor = ⊥
IsCalm other = Unit {0}

calm_says : (k : Kind) → IsCalm k → (m : Msg) → IsSender k m → InWindow m
calm_says k calm (msg.Propose i g s cw v) e = absurd (subst IsCalm e calm)
calm_says k calm (msg.Phase2A i s cw v) e = absurd (subst IsCalm e calm)
calm_says k calm (msg.Phase1B i cw votes) e = absurd (subst IsCalm e calm)
calm_says k calm other e = tt

pub calm_in : {V : Type 0} (me : RoleId) (o : Outcome V) → IsCalm me.kind → OfKind me o → AllInWindow o.sends
calm_in me o calm kinds d m = calm_says me.kind calm d.msg (kinds.sends d m).1

-- a record that the rules allow; none of a kind that keeps none
pub new_fits : {D V : Type 0} (rules : Rules D V) (c : Cluster) (history : List KeptRecord) (me : RoleId)
    → ((r : Record) → IsFit rules c me (durable_of rules me history) (Some r) → FitsAs c me (written.Record r) history me.kind)
    → (o : Option Record) → IsFit rules c me (durable_of rules me history) o → NewFits c history me o
new_fits rules c history me allows None fit = tt
new_fits rules c history me allows (Some r) fit = allows r fit

pub none_new : (c : Cluster) (history : List KeptRecord) (me : RoleId) → ((r : Record) → IsKeeper me.kind r → ⊥)
    → (o : Option Record) → IsKept me.kind o → NewFits c history me o
none_new c history me none None k = tt
none_new c history me none (Some r) k = absurd (none r k)

module _ (c : Cluster) (kept : List KeptRecord) (sent : List Letter) (states : RoleId → State) (h : Fitting c kept sent states) where
  pub with_state : (me : RoleId) (s : State) → InRange c s → (a : RoleId) → InRange c (set_state me s states a)
  unfolding set_state
  with_state me s new a = either_way (λ (x : State). InRange c x) (same_role a me) s (states a) new (h.running a)

  fit_with : (me : RoleId) (o : Option Record) → NewFits c kept me o → AllFit c (with_record me o kept)
  fit_with me None new = h.fit
  fit_with me (Some r) new = (new, h.fit)

  pub lands : {V : Type 0} (me : RoleId) (make : V → State) (o : Outcome V) → NewFits c kept me o.kept → InRange c (make o.volatile)
      → AllInWindow o.sends → Lands (Fitting c) kept sent states me make o
  lands me make o new state says = record {
    whole =
        record { fit = fit_with me o.kept new; says = both_in sent o.sends h.says says; running = with_state me (make o.volatile) state };
    cut = λ r e. record {
      fit = fit_with me (Some r) (subst (λ (x : Option Record). NewFits c kept me x) e new);
      says = h.says;
      running = with_state me Down tt;
    };
  }

  -- what was proposed has a slot
  pub proposed_slot : (i : Round) (s : ℕ) (v : Value) → IsProposed sent i s v → IsSlot s
  proposed_slot i s v p = (h.says _ p.4).1

-- each vote that was kept lies in its window

abbrev VoteInWindow : Written → Type 0
VoteInWindow (written.Record (kept.Vote i s cw v)) = s < cw + 32
VoteInWindow other = Unit {0}

is_below : (n k : ℕ) (a b e : Bool) → ((a && (b && nat_lt n k)) && e) ≡ true → n < k
is_below n k a b e h =
    let t = (and_parts b (nat_lt n k) (and_parts a (b && nat_lt n k) (and_parts (a && (b && nat_lt n k)) e h).0).1).1 in
    grind (arith, nat_tests)

vote_fits : (c : Cluster) (me : RoleId) (w : Written) (history : List KeptRecord) (k : Kind) → FitsAs c me w history k → VoteInWindow w
vote_fits c me (written.Record (kept.Vote i s cw v)) history kind.Acceptor h = is_below s (cw + 32) _ _ _ h.0
vote_fits c me (written.Record (kept.Vote i s cw v)) history kind.Client h = absurd h
vote_fits c me (written.Record (kept.Vote i s cw v)) history kind.Batcher h = absurd h
vote_fits c me (written.Record (kept.Vote i s cw v)) history kind.Proxy h = absurd h
vote_fits c me (written.Record (kept.Vote i s cw v)) history kind.Unbatcher h = absurd h
vote_fits c me (written.Record (kept.Vote i s cw v)) history other h = let no = h.0 in cc
vote_fits c me other history k h = tt

votes_fit : (c : Cluster) (ks : List KeptRecord) → AllFit c ks → (k : KeptRecord) → Member k ks → VoteInWindow k.what
votes_fit c [] h k m = absurd m
votes_fit c (x ∷ ks) h k (inl e) = subst (λ (y : KeptRecord). VoteInWindow y.what) (sym e) (vote_fits c x.role x.what ks x.role.kind h.0)
votes_fit c (x ∷ ks) h k (inr m) = votes_fit c ks h.1 k m

pub vote_window : (c : Cluster) (ks : List KeptRecord) → AllFit c ks → (who : RoleId) (i : Round) (s cw : ℕ) (v : Value)
    → HasKept ks who (kept.Vote i s cw v) → s < cw + 32
vote_window c ks h who i s cw v m = votes_fit c ks h _ m
