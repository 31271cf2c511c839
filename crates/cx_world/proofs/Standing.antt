-- A seat's role is as the store of its keeper leaves it: after a whole step and after a failed one.
use Rattle.cx_inv_run.proofs.Common.{Kept, Give, cut_turn, whole_turn}
use Rattle.cx_role.proofs.Common.{◌≡◌, ◌∙◌, ◌⊎◌, ℕ, Bool, true, false, List, [], ◌∷◌, ◌++◌, Option, None, Some, Err, ap, sym, subst, refl}
use Rattle.cx_role.proofs.Common.{inl, inr, option_map, if◌then◌else◌, ◌+◌, same_Some, Cluster, Cut, Whole, Torn, RoleId, Why, Letter}
use Rattle.cx_role.proofs.Common.{Input, Written, Record, list_with, Outcome, Rules, Running, IsFit, folded, folded_from, outcome_of}
use Rattle.cx_role.proofs.Common.{refused, refused_from, Turn, turn_with, KeeperChange, Append, list_after, Failed, MayKeep}
use Rattle.cx_letter.specs.declared.input.Written.TheVariants as written
use Rattle.cx_model.specs.Folds.{folded_kept}
use Rattle.cx_model.specs.Rules.{opened, with_kept}
use Rattle.cx_keeper.specs.MemKeeper.{kept_of, is_left_by_cut}
use Rattle.cx_role.specs.Role.{Steps, Keeps, KeepsDurable}
use Rattle.cx_role.specs.Wake.{refused_behind, reopened}
use Rattle.cx_world.specs.LastKeeper.{LastState, last_append_gives, last_cut, last_gives, list_kept, written_by}
use Rattle.cx_world.specs.Seat.{IsTurned, Opens, Seat, Sits, StandsByStore, seat_turn, unknown, why_of_cut}

-- ---- lists that may end

is_whole : (whole : Bool) (i : ℕ) → (if whole then None else Some i) ≡ None → whole ≡ true
is_whole true i none = refl
is_whole false i none = cc

goes_on : (fits : Bool) (i : ℕ) (rest : Option ℕ) → (if fits then rest else Some i) ≡ None → rest ≡ None
goes_on true i rest none = none
goes_on false i rest none = cc

module _ {D V : Type 0} (rules : Rules D V) where
  whole_from : (c : Cluster) (me : RoleId) (d : D) (i : ℕ) (rs : List Record) → refused_from rules c me d i rs ≡ None
      → rules.whole (folded_from rules d rs) ≡ true
  whole_from c me d i [] none = is_whole (rules.whole d) i none
  whole_from c me d i (r ∷ rs) none = whole_from c me (rules.after d r) (i + 1) rs (goes_on (rules.fits c me d r) i _ none)

  -- a list from which a role can be opened may end where it does
  pub whole_list : (c : Cluster) (me : RoleId) (rs : List Record) → refused rules c me rs ≡ None → rules.whole (folded rules rs) ≡ true
  whole_list c me rs none = whole_from c me rules.empty 0 rs none

  whole_store : (s : Running D V) (rs : List Record) (last : Option Written) → Opens rules s rs last → rules.whole (folded rules rs) ≡ true
  whole_store s rs None h = ap rules.whole (sym h.1) ∙ h.0
  whole_store s rs (Some (written.Record r)) h = ap rules.whole (sym h.1) ∙ h.0.1
  whole_store s rs (Some (written.Snap first)) h = whole_list s.cluster s.me rs h

  whole_kept : (c : Cluster) (me : RoleId) (d : D) (r : Option Record) → rules.whole d ≡ true → IsFit rules c me d r
      → rules.whole (with_kept rules d r) ≡ true
  whole_kept c me d None whole fit = whole
  whole_kept c me d (Some r) whole fit = fit.1

  -- the list of a store with a row's record more leaves the durable part with it
  folded_with : (rs : List Record) (r : Option Record)
      → folded rules (list_with rules rs (option_map written.Record r)) ≡ with_kept rules (folded rules rs) r
  folded_with rs None = refl
  folded_with rs (Some r) = folded_kept rules rs (Some r)

  -- ---- whole appends

  pub list_kept_with : (r : Option Record) (old new : LastState) → Keeps last_append_gives r old new
      → list_kept new ≡ list_with rules (list_kept old) (option_map written.Record r)
  list_kept_with None old new h = ap list_kept h
  list_kept_with (Some r) old new h = ap kept_of h.0.1

last_with : (r : Option Record) (old new : LastState) → old.last ≡ None → Keeps last_append_gives r old new
    → new.last ≡ option_map written.Record r
last_with None old new none h = ap (λ (k : LastState). k.last) h ∙ none
last_with (Some r) old new none h = h.1

whole_append : {V : Type 0} (o : Outcome V) (r : Option Record) (cut : Cut) (old new : LastState) → old.store.cut ≡ cut
    → Keeps last_append_gives r old new → turn_with cut r o ≡ whole_turn o
whole_append o None cut old new set h = refl
whole_append o (Some r) cut old new set h = ap (λ x. turn_with x (Some r) o) (sym set ∙ h.0.0)

-- ---- cut changes

-- a change was lost
pub record IsTorn (old new : LastState) : Type 0 where
  pub cut : old.store.cut ≡ Torn
  pub list : list_kept new ≡ list_kept old
  pub last : new.last ≡ None

-- a change was kept
pub record IsKept (old : LastState) (change : KeeperChange) (new : LastState) : Type 0 where
  pub cut : old.store.cut ≡ Kept
  pub list : list_kept new ≡ list_after (list_kept old) change
  pub last : new.last ≡ Some (written_by change)

cut_at_either : (cut : Cut) (old new : LastState) (change : KeeperChange) → old.store.cut ≡ cut → old.last ≡ None
    → is_left_by_cut cut old.store (list_after old.store.kept change) new.store
    → new.last ≡ last_cut cut old.last change → IsTorn old new ⊎ IsKept old change new
cut_at_either Whole old new change set none h last = absurd h
cut_at_either Torn old new change set none h last = inl (record { cut = set; list = ap kept_of h; last = last ∙ none })
cut_at_either Kept old new change set none h last = inr (record { cut = set; list = ap kept_of h; last = last })

pub cut_either : (old new : LastState) (change : KeeperChange) → old.last ≡ None → last_gives old change (Err Failed) new
    → IsTorn old new ⊎ IsKept old change new
cut_either old new change none h = cut_at_either old.store.cut old new change refl none h.0 h.1

-- what a cut change comes to at a seat
pub cut_turned : {S D V : Type 0} (rules : Rules D V) (state : S → Running D V) (t : Turn V) (seat : Seat S) (cut : Cut)
    (left k : Option Written) (list : List Record)
    → t ≡ cut_turn (why_of_cut cut) left → k ≡ left → list ≡ list_with rules seat.records left
    → IsTurned rules state t seat (record seat { role = None; records = list }) (why_of_cut cut) k []
cut_turned rules state t seat cut left k list is same grown =
    subst (λ x. IsTurned rules state x seat (record seat { role = None; records = list }) (why_of_cut cut) k []) (sym is) (record {
      why = refl;
      role = refl;
      kept = same;
      sends = refl;
      records = grown ∙ ap (λ x. list_with rules seat.records x) (sym same);
      cluster = refl;
      me = refl;
    })

-- ---- seats

-- a role that runs is seen
pub seen : {S : Type 0} (runs : Bool) (role : Option S) (s : S) → runs ≡ true → role ≡ Some s → (if runs then role else None) ≡ Some s
seen runs role s up is = rw up is

-- of a seat whose role runs
module _ {S D V : Type 0} (rules : Rules D V) (state : S → Running D V) (c : Cluster) (me : RoleId) (store : LastState) (role : Option S)
    (runs : Bool) (sits : Sits rules state c me store role runs) (up : runs ≡ true) (s : S) (is : role ≡ Some s) where
  pub here : StandsByStore rules c me store (state s)
  here = sits.stands s is

  pub lives : (state s).live ≡ true
  lives = let there = sits.up up in subst (λ x. (state x).live ≡ true) (same_Some there.0 s (sym there.1 ∙ is)) there.2

  -- it knows all of its list
  pub knows : (rules.whole (state s).durable ≡ true) × ((state s).durable ≡ folded rules (list_kept store))
  knows = subst (λ b. Opens rules (state s) (list_kept store) (unknown b store.last)) lives here.opens

  -- the role runs on
  pub on : (after : S) (new : LastState) → (state after).cluster ≡ c → (state after).me ≡ me → (state after).live ≡ true
      → rules.whole (state after).durable ≡ true → (state after).durable ≡ folded rules (list_kept new)
      → Sits rules state c me new (Some after) runs
  on after new at_cluster at_role live whole fold =
      let there : StandsByStore rules c me new (state after) = record {
        cluster = at_cluster;
        me = at_role;
        opens = subst (λ b. Opens rules (state after) (list_kept new) (unknown b new.last)) (sym live) (whole, fold);
      } in
      record {
        place = sits.place;
        stands = λ x e. subst (λ (y : S). StandsByStore rules c me new (state y)) (same_Some after x e) there;
        up = λ _. (after, refl, live);
      }

  pub stepped : (i : Input) (w : Why) (old new : LastState) (after : S) (sent : List Letter) → list_kept old ≡ list_kept store
      → Steps last_append_gives rules (state s) (outcome_of rules (state s) i) w old new (state after) sent
      → MayKeep rules (state s) (outcome_of rules (state s) i) → Sits rules state c me new (Some after) runs
  stepped i w old new after sent same step fit =
      let o = outcome_of rules (state s) i in
      let list : list_kept new ≡ list_with rules (list_kept store) (option_map written.Record o.kept) =
      list_kept_with rules o.kept old new step.kept ∙ ap (λ l. list_with rules l (option_map written.Record o.kept)) same in
      let fold : folded rules (list_kept new) ≡ with_kept rules (state s).durable o.kept =
      ap (λ l. folded rules l) list ∙ folded_with rules (list_kept store) o.kept ∙ ap (λ d. with_kept rules d o.kept) (sym knows.1) in
      let durable : (state after).durable ≡ with_kept rules (state s).durable o.kept = ap (λ (x : Running D V). x.durable) step.state in
      on after new (ap (λ (x : Running D V). x.cluster) step.state ∙ here.cluster) (ap (λ (x : Running D V). x.me) step.state ∙ here.me)
      (ap (λ (x : Running D V). x.live) step.state ∙ lives)
      (ap rules.whole durable ∙ whole_kept rules (state s).cluster (state s).me (state s).durable o.kept knows.0 fit) (durable ∙ sym fold)

  -- the role has stopped, and may not know the last change
  pub stops : (after : S) (new : LastState) → KeepsDurable (state s) (state after) → (state after).live ≡ false
      → Opens rules (state after) (list_kept new) new.last → Sits rules state c me new (Some after) false
  stops after new keeps dead opens =
      let there : StandsByStore rules c me new (state after) = record {
        cluster = keeps.cluster ∙ here.cluster;
        me = keeps.me ∙ here.me;
        opens = subst (λ b. Opens rules (state after) (list_kept new) (unknown b new.last)) (sym dead) opens;
      } in
      record {
        place = sits.place;
        stands = λ x e. subst (λ (y : S). StandsByStore rules c me new (state y)) (same_Some after x e) there;
        up = λ e. cc;
      }

  -- a change was lost: the role is as its list leaves it
  pub stays : (after : S) (new : LastState) → KeepsDurable (state s) (state after) → list_kept new ≡ list_kept store → new.last ≡ None
      → Opens rules (state after) (list_kept new) new.last
  stays after new keeps list last =
      let fold : (state after).durable ≡ folded rules (list_kept new) = keeps.durable ∙ knows.1 ∙ ap (λ l. folded rules l) (sym list) in
      subst (λ o. Opens rules (state after) (list_kept new) o) (sym last) (ap rules.whole keeps.durable ∙ knows.0, fold)

  pub fell : (i : Input) (old new : LastState) (after : S) → list_kept old ≡ list_kept store → old.last ≡ None
      → ((r : Record) × ((outcome_of rules (state s) i).kept ≡ Some r) × last_append_gives old r (Err Failed) new)
      → (state after).live ≡ false → KeepsDurable (state s) (state after) → MayKeep rules (state s) (outcome_of rules (state s) i)
      → Sits rules state c me new (Some after) false
  fell i old new after same none fail dead keeps fit =
      let r = fail.0 in
      let d = (state s).durable in
      elim (cut_either old new (Append r) none fail.2) [
        | inl torn ↦ stops after new keeps dead (stays after new keeps (torn.list ∙ same) torn.last)
        | inr kept ↦
            let at : IsFit rules (state s).cluster (state s).me d (Some r) =
            subst (λ o. IsFit rules (state s).cluster (state s).me d o) fail.1 fit in
            let at_cluster = subst (λ x. IsFit rules x (state s).me d (Some r)) (sym keeps.cluster) at in
            let at_role = subst (λ x. IsFit rules (state after).cluster x d (Some r)) (sym keeps.me) at_cluster in
            let at_state = subst (λ x. IsFit rules (state after).cluster (state after).me x (Some r)) (sym keeps.durable) at_role in
            let fold : rules.after (state after).durable r ≡ folded rules (list_kept new) =
            ap (λ x. rules.after x r) (keeps.durable ∙ knows.1) ∙ sym (folded_kept rules (list_kept store) (Some r))
            ∙ ap (λ l. folded rules l) (sym (kept.list ∙ ap (λ l. l ++ r ∷ []) same)) in
            stops after new keeps dead (subst (λ o. Opens rules (state after) (list_kept new) o) (sym kept.last) (at_state, fold))
      ]

-- ---- what a step comes to at a seat

module _ {S D V : Type 0} (rules : Rules D V) (state : S → Running D V) (seat : Seat S) (s : S) (cut : Cut) (old new : LastState)
    (k : Option Written)
    (role : seat.role ≡ Some s) (at_cluster : (state s).cluster ≡ seat.cluster) (at_role : (state s).me ≡ seat.me)
    (fold : (state s).durable ≡ folded rules seat.records)
    (set : old.store.cut ≡ cut) (none : old.last ≡ None) (same : list_kept old ≡ seat.records) (told : k ≡ new.last) where
  turn_is : (i : Input)
      → seat_turn rules state (Give i cut) seat ≡ turn_with cut ((outcome_of rules (state s) i).kept) (outcome_of rules (state s) i)
  turn_is i = rw (role, at_cluster, at_role, fold) refl

  pub whole_turned : (i : Input) (w : Why) (after : S) (sent : List Letter)
      → Steps last_append_gives rules (state s) (outcome_of rules (state s) i) w old new (state after) sent
      → IsTurned rules state (seat_turn rules state (Give i cut) seat) seat
      (record seat { role = Some after; records = list_kept new }) w k sent
  whole_turned i w after sent step =
      let o = outcome_of rules (state s) i in
      let left : k ≡ option_map written.Record o.kept = told ∙ last_with o.kept old new none step.kept in
      let done : IsTurned rules state (whole_turn o) seat (record seat { role = Some after; records = list_kept new }) w k sent = record {
        why = step.why;
        role = ap (λ (x : Running D V). Some x.volatile) step.state;
        kept = left;
        sends = step.sends;
        records = list_kept_with rules o.kept old new step.kept ∙ ap (λ l. list_with rules l (option_map written.Record o.kept)) same
            ∙ ap (λ x. list_with rules seat.records x) (sym left);
        cluster = refl;
        me = refl;
      } in
      subst (λ t. IsTurned rules state t seat (record seat { role = Some after; records = list_kept new }) w k sent)
      (sym (turn_is i ∙ whole_append o o.kept cut old new set step.kept)) done

  pub failed_turned : (i : Input)
      → ((r : Record) × ((outcome_of rules (state s) i).kept ≡ Some r) × last_append_gives old r (Err Failed) new)
      → IsTurned rules state (seat_turn rules state (Give i cut) seat) seat (record seat { role = None; records = list_kept new })
      (why_of_cut cut) k []
  failed_turned i fail =
      let r = fail.0 in
      let o = outcome_of rules (state s) i in
      let turn : seat_turn rules state (Give i cut) seat ≡ turn_with cut (Some r) o = turn_is i ∙ ap (λ x. turn_with cut x o) fail.1 in
      elim (cut_either old new (Append r) none fail.2) [
        | inl torn ↦
            let is : cut ≡ Torn = sym set ∙ torn.cut in
            cut_turned rules state (seat_turn rules state (Give i cut) seat) seat cut None k (list_kept new) (turn
            ∙ ap (λ x. turn_with x (Some r) o) is ∙ ap (λ x. cut_turn (why_of_cut x) None) (sym is)) (told ∙ torn.last) (torn.list ∙ same)
        | inr kept ↦
            let is : cut ≡ Kept = sym set ∙ kept.cut in
            cut_turned rules state (seat_turn rules state (Give i cut) seat) seat cut (Some (written.Record r)) k (list_kept new)
            (turn ∙ ap (λ x. turn_with x (Some r) o) is ∙ ap (λ x. cut_turn (why_of_cut x) (Some (written.Record r))) (sym is))
            (told ∙ kept.last) (kept.list ∙ ap (λ l. l ++ r ∷ []) same)
      ]

-- ---- a role is opened again

module _ {D V : Type 0} (rules : Rules D V) (c : Cluster) (me : RoleId) (store : LastState) (s : Running D V)
    (stands : StandsByStore rules c me store s) where
  opens_at : (o : Option Written) → unknown s.live store.last ≡ o → Opens rules s (list_kept store) o
  opens_at o e = subst (λ x. Opens rules s (list_kept store) x) e stands.opens

  -- its list may end where it does
  pub whole_there : rules.whole (folded rules (list_kept store)) ≡ true
  whole_there = whole_store rules s (list_kept store) (unknown s.live store.last) stands.opens

  pub as_it_is : unknown s.live store.last ≡ None → refused_behind rules s [] ≡ None
  as_it_is e = rw (opens_at None e).0 refl

  pub one_more : (r : Record) → unknown s.live store.last ≡ Some (written.Record r) → refused_behind rules s (r ∷ []) ≡ None
  one_more r e = let fit = (opens_at (Some (written.Record r)) e).0 in rw (fit.0, fit.1) refl

  pub from_list : (first : ℕ) → unknown s.live store.last ≡ Some (written.Snap first) → refused rules c me (list_kept store) ≡ None
  from_list first e = subst (λ x. refused rules x me (list_kept store) ≡ None) stands.cluster
      (subst (λ x. refused rules s.cluster x (list_kept store) ≡ None) stands.me (opens_at (Some (written.Snap first)) e))

  pub reopened_as_it_is : unknown s.live store.last ≡ None → reopened rules s [] ≡ opened rules c me (list_kept store)
  reopened_as_it_is e = rw (stands.cluster, stands.me, (opens_at None e).1) refl

  pub reopened_with : (r : Record) → unknown s.live store.last ≡ Some (written.Record r)
      → reopened rules s (r ∷ []) ≡ opened rules c me (list_kept store)
  reopened_with r e = rw (stands.cluster, stands.me, (opens_at (Some (written.Record r)) e).1) refl

-- the role runs again
pub woke : {S D V : Type 0} (rules : Rules D V) (state : S → Running D V) (c : Cluster) (me : RoleId) (store : LastState) (role : Option S)
    (runs : Bool)
    → Sits rules state c me store role runs → rules.whole (folded rules (list_kept store)) ≡ true → (s : S)
    → state s ≡ opened rules c me (list_kept store) → Sits rules state c me store (Some s) true
woke rules state c me store role runs sits whole s is =
    let there : StandsByStore rules c me store (state s) = rw is (record { cluster = refl; me = refl; opens = (whole, refl) }) in
    record {
      place = sits.place;
      stands = λ x e. subst (λ y. StandsByStore rules c me store (state y)) (same_Some s x e) there;
      up = λ _. (s, refl, ap (λ (x : Running _ _). x.live) is);
    }
