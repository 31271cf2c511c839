-- In place of each set of matchmakers at most one next one is decided, over the whole run, and a set begins only after that.
use Rattle.cx_inv_run.proofs.Common.{◌≡◌, ◌⊎◌, ◌<◌, ℕ, zero, suc, true, List, [], ◌∷◌, ◌++◌, reverse, inl, inr, ap, sym, subst, ◌∙◌, refl}
use Rattle.cx_inv_run.proofs.Common.{append_assoc, Cluster, Event, RoleId, Round, role, Entry, Letter, KeptRecord, Booting, Member}
use Rattle.cx_inv_run.proofs.Common.{names_role, either_way, HasKept, OfEveryRun, ReplacerVolatile, replacer_rules, World, change, run_from}
use Rattle.cx_inv_run.proofs.Common.{run, State, Down, ReplacerIn, durable_of, Member-cases, Member-first, Member-reverse, Member-turned}
use Rattle.cx_inv_run.proofs.Common.{append-nil, run_append, arith, same_Some, some_passes, first_set, Member-is_in}
use Rattle.cx_inv_match.specs.Prelude.{IsKnown, IsDecided, IsNth, IsUsed, InState, InWork}
use Rattle.cx_base.specs.declared.role.Kind.TheVariants as kind
use Rattle.cx_letter.specs.declared.kept.Record.TheVariants as kept
use Rattle.cx_letter.specs.declared.message.Msg.TheVariants as msg
use Rattle.cx_model.specs.Promises.{Decides, OneNextSet, SetsAreAChain, SetsAreDecided, WasDecided}
use Rattle.cx_model.specs.World.{step}
use Rattle.cx_inv_match.proofs.Chains.{above_at, began, decided_once, nth_meet, nth_once}
use Rattle.cx_inv_match.proofs.Grow.{more_nth}
use Rattle.cx_inv_vote.specs.Laws.{Boots, OneBegins}
use Rattle.cx_inv_vote.proofs.DecidingEvents.{DecidedBy, Follows, follows}
use Rattle.cx_inv_vote.proofs.Rows.{is_role}
use Rattle.cx_inv_vote.proofs.Steps.{facts_hold}

-- a record that was kept stays

kept_step : (w : World) (e : Event) (k : KeptRecord) → Member k w.kept → Member k (step w e).kept
unfolding step
kept_step w e k m = Member-first k w.kept (change w e).kept m

kept_from : (w : World) (es : List Event) (k : KeptRecord) → Member k w.kept → Member k (run_from w es).kept
kept_from w [] k m = m
kept_from w (e ∷ es) k m = kept_from (step w e) es k (kept_step w e k m)

kept_on : (c : Cluster) (es more : List Event) (k : KeptRecord) → Member k (reverse (run c es).kept)
    → Member k (reverse (run c (es ++ more)).kept)
kept_on c es more k m =
    Member-reverse k (run c (es ++ more)).kept
    (subst (λ w. Member k w.kept) (sym (run_append c es more)) (kept_from (run c es) more k (Member-turned k (run c es).kept m)))

-- what a replacer lets begin was decided by the set that it knows
boots_decided : (c : Cluster) (es : List Event) (x : ℕ) (s t : List ℕ) → Boots (run c es) x s t
    → IsKnown c (reverse (run c es).kept) s × IsDecided c (reverse (run c es).kept) s t
boots_decided c es x s t b =
    let facts = facts_hold c es in
    let state = subst (λ y. InState c (reverse (run c es).kept) (run c es).sent (role kind.Replacer x) y) b.at_it
    (facts.running (role kind.Replacer x)) in
    let work = subst (λ y. InWork c (reverse (run c es).kept) (run c es).sent (role kind.Replacer x)
    (durable_of replacer_rules (role kind.Replacer x) (reverse (run c es).kept)).own b.volatile y) b.mode state.1 in (
      subst (λ y. IsKnown c (reverse (run c es).kept) y) b.known state.0,
      subst (λ y. IsDecided c (reverse (run c es).kept) y t) b.known
          (subst (λ y. IsDecided c (reverse (run c es).kept) b.volatile.set y) b.next work.decided),
    )

-- replacers that let a set begin

pub one_begins : OneBegins
one_begins = record {
  one = λ c es more x y s t u b d.
      let old = boots_decided c es x s t b in
      let new = boots_decided c (es ++ more) y s u d in
      let longer =
      more_nth c (reverse (run c es).kept) (reverse (run c (es ++ more)).kept) (kept_on c es more) (suc old.0.0) t (s, old.0.1, old.1) in
      let facts = (facts_hold c (es ++ more)).sets in
      let same = nth_once c (reverse (run c (es ++ more)).kept) (run c (es ++ more)).sent facts old.0.0 longer.0 s longer.1
      (more_nth c (reverse (run c es).kept) (reverse (run c (es ++ more)).kept) (kept_on c es more) old.0.0 s old.0.1) in
      decided_once c (reverse (run c (es ++ more)).kept) (run c (es ++ more)).sent facts old.0.0 longer.0 t u longer.1 longer.2
      (subst (λ z. IsDecided c (reverse (run c (es ++ more)).kept) z u) (sym same) new.1);
  decided = λ c es who t w entries m.
      let b = ((facts_hold c es).sets.booted who t w entries (Member-reverse _ (run c es).kept m)).1 in
      (b.set, (b.place, b.nth), b.decided);
}

-- events that answer `decided`

-- after such an event the replacer lets the set begin

decided_boots : (w : World) (e : Event) (s t : List ℕ) → (d : Decides w e s t) → Boots (step w e) d.who.index s t
unfolding step
decided_boots w e s t d =
    let r = (follows w (λ u. Unit {0}) (λ x m u v es q. tt) (λ x v q m. tt) e).decides d.who d.kind_is d.at_it d.word d.volatile d.knew in
    record {
      volatile = r.0;
      at_it = subst (λ (a : RoleId). (step w e).roles a ≡ ReplacerIn r.0) (is_role d.who kind.Replacer d.kind_is) r.1;
      mode = r.2;
      known = r.3 ∙ d.set_is;
      next = r.4 ∙ d.next_is;
    }

decides_boots : (c : Cluster) (then : List Event) (e : Event) (s t : List ℕ) → (d : Decides (run c then) e s t)
    → Boots (run c (then ++ e ∷ [])) d.who.index s t
decides_boots c then e s t d = subst (λ w. Boots w d.who.index s t) (sym (run_append c then (e ∷ []))) (decided_boots (run c then) e s t d)

pub one_next_set : OfEveryRun OneNextSet
one_next_set c es then more later e f is s t u first second =
    one_begins.one c (then ++ e ∷ []) (more ++ f ∷ []) first.who.index second.who.index s t u
    (decides_boots c then e s t first)
    (subst (λ l. Boots (run c l) second.who.index s u) same (decides_boots c (then ++ e ∷ more) f s u second))
  where
    same : (then ++ e ∷ more) ++ f ∷ [] ≡ (then ++ e ∷ []) ++ (more ++ f ∷ [])
    same = append_assoc then (e ∷ more) (f ∷ []) ∙ sym (append_assoc then (e ∷ []) (more ++ f ∷ []))

-- what an event decided stays decided
pub decided_more : (c : Cluster) (then more : List Event) (s t : List ℕ) → WasDecided c then s t → WasDecided c (then ++ more) s t
decided_more c then more s t d = (d.0, d.1 ++ more, d.2, ap (λ l. l ++ more) d.3 ∙ append_assoc d.0 (d.2 ∷ d.1) more, d.4)

-- one of these events decided this set
abbrev pub IsOfChain : Cluster → List Event → List ℕ → Type 0
IsOfChain c es t = (s : List ℕ) × WasDecided c es s t

-- Whoever is asked to begin in a set, whoever begins in it, and whatever set a replacer lets begin: one of the events decided it.
pub record AreDecided (c : Cluster) (es : List Event) (w : World) : Type 0 where
  pub asks : (d : Letter) → Member d w.sent → (t : List ℕ) (v : Round) (xs : List Entry) → msg.BootA t v xs ≡ d.msg → IsOfChain c es t
  pub begins : (who : RoleId) (t : List ℕ) (v : Round) (xs : List Entry) → HasKept w.kept who (kept.Boot t v xs) → IsOfChain c es t
  pub boots : (x : ℕ) (v : ReplacerVolatile) → w.roles (role kind.Replacer x) ≡ ReplacerIn v → v.mode ≡ Booting → IsOfChain c es v.next

fresh_rests : (v u : ReplacerVolatile) → ReplacerIn v ≡ ReplacerIn u → u ≡ v
fresh_rests v u e = cc

never_up : {A : Type 0} (u : ReplacerVolatile) → Down ≡ ReplacerIn u → A
never_up u e = absurd cc

pub start_decided : (c : Cluster) → AreDecided c [] (run c [])
start_decided c = record {
  asks = λ d m. absurd m;
  begins = λ who t v xs m. absurd m;
  boots = λ x u e m. either_way (λ (s : State). s ≡ ReplacerIn u → IsOfChain c [] u.next) (names_role c (role kind.Replacer x))
      (ReplacerIn fresh) Down (λ e. rests (subst (λ (y : ReplacerVolatile). y.mode ≡ Booting) (fresh_rests fresh u e) m))
      (λ e. never_up u e) e;
}
  where
    fresh : ReplacerVolatile
    fresh = replacer_rules.fresh c replacer_rules.empty

    rests : {A : Type 0} → fresh.mode ≡ Booting → A
    rests q = cc

module _ (c : Cluster) (then : List Event) (e : Event) (old : AreDecided c then (run c then)) where
  abbrev w : World
  w = run c then

  abbrev After : List ℕ → Type 0
  After t = IsOfChain c (then ++ e ∷ []) t

  done : Follows w (IsOfChain c then) old.asks old.boots (change w e)
  done = follows w (IsOfChain c then) old.asks old.boots e

  longer : (t : List ℕ) → IsOfChain c then t → After t
  longer t d = (d.0, decided_more c then (e ∷ []) d.0 t d.1)

  now : (t : List ℕ) → IsOfChain c then t ⊎ DecidedBy w (IsOfChain c then) old.asks old.boots (change w e) t → After t
  now t (inl d) = longer t d
  now t (inr d) =
      let decides : Decides w e d.volatile.set t = record {
        who = role kind.Replacer d.index;
        volatile = d.volatile;
        kind_is = refl;
        at_it = d.at_it;
        word = d.word;
        knew = d.knew;
        set_is = refl;
        next_is = d.next_is;
      } in
      (d.volatile.set, (then, [], e, refl, decides))

  step_decided : AreDecided c (then ++ e ∷ []) (step w e)
  unfolding step
  step_decided = record {
    asks = λ d m t v xs q. elim (Member-cases d w.sent (change w e).sends
        m) [ inl k ↦ longer t (old.asks d k t v xs q) | inr k ↦ now t (done.asks d k t v xs q) ];
    begins = λ who t v xs m. elim (Member-cases _ w.kept (change w e).kept
        m) [ inl k ↦ longer t (old.begins who t v xs k) | inr k ↦ longer t (done.begins who t v xs k) ];
    boots = λ x v q m. now v.next (done.boots x v q m);
  }

pub all_decided : (c : Cluster) (then later : List Event) → AreDecided c then (run c then)
    → AreDecided c (then ++ later) (run c (then ++ later))
all_decided c then [] h = subst (λ l. AreDecided c l (run c l)) (sym (append-nil then)) h
all_decided c then (e ∷ later) h =
    subst (λ l. AreDecided c l (run c l)) (append_assoc then (e ∷ []) later)
    (all_decided c (then ++ e ∷ []) later
    (subst (λ w. AreDecided c (then ++ e ∷ []) w) (sym (run_append c then (e ∷ []))) (step_decided c then e h)))

pub sets_are_decided : OfEveryRun SetsAreDecided
sets_are_decided c es who t w xs m =
    let began = (facts_hold c es).sets.booted who t w xs (Member-reverse _ (run c es).kept m) in
    (Member-is_in who.index t began.0, (all_decided c [] es (start_decided c)).begins who t w xs m)

-- THE CHAIN

-- an event of a list with one more is one of the list, or the last
last_cases : (es before after : List Event) (e f : Event) → es ++ e ∷ [] ≡ before ++ f ∷ after
    → ((more : List Event) × (es ≡ before ++ f ∷ more)) ⊎ ((before ≡ es) × (f ≡ e))
last_cases [] [] after e f q = inr (refl, cc)
last_cases [] (y ∷ []) after e f q = cc
last_cases [] (y ∷ z ∷ before) after e f q = cc
last_cases (x ∷ es) [] after e f q = let h : x ≡ f = cc in inl (es, ap (λ g. g ∷ es) h)
last_cases (x ∷ es) (y ∷ before) after e f q =
    let h : x ≡ y = cc in
    let rest : es ++ e ∷ [] ≡ before ++ f ∷ after = cc in
    elim (last_cases es before after e f rest) [
      | inl r ↦ inl (r.0, ap (λ g. g ∷ es) h ∙ ap (λ l. y ∷ l) r.1)
      | inr r ↦ inr (ap (λ g. g ∷ before) (sym h) ∙ ap (λ l. x ∷ l) r.0, r.1)
    ]

one_volatile : (s : State) (v u : ReplacerVolatile) → s ≡ ReplacerIn v → s ≡ ReplacerIn u → v ≡ u
one_volatile s v u p q = fresh_rests u v (sym q ∙ p)

-- an event decides one set
decides_one : (w : World) (e : Event) (r s t : List ℕ) → Decides w e r s → Decides w e s t → s ≡ t
decides_one w e r s t one two =
    let same : one.who ≡ two.who = same_Some one.who two.who (sym one.at_it ∙ two.at_it) in
    let volatile = one_volatile (w.roles two.who) one.volatile two.volatile
    (subst (λ a. w.roles a ≡ ReplacerIn one.volatile) same one.knew) two.knew in
    sym one.next_is ∙ ap (λ (v : ReplacerVolatile). v.next) volatile ∙ two.next_is

module _ (c : Cluster) (then : List Event) (e : Event) (s t : List ℕ) (d : Decides (run c then) e s t) where
  abbrev after : List Event
  after = then ++ e ∷ []

  abbrev history : List KeptRecord
  history = reverse (run c after).kept

  parts : IsKnown c history s × IsDecided c history s t
  parts = boots_decided c after d.who.index s t (decides_boots c then e s t d)

  -- one of its members began in a later set than the first
  member : (m : ℕ) × Member m s × (parts.1.who m ≡ true)
  member = some_passes c s parts.1.who parts.1.most

  later_began : (n : ℕ) → IsNth c history (suc n) s → IsOfChain c after s
  later_began n nth =
      let facts = (facts_hold c after).sets in
      let me = role kind.Matchmaker member.0 in
      let used : IsUsed history me = inr (parts.1.ballot, inr (t, parts.1.each member.0 member.2)) in
      let b = began c history (run c after).sent facts n s nth member.0 member.1 (facts.members me used) in
      let boot = facts.booted me b.0 b.1 b.2 b.3 in
      let same : b.0 ≡ s = (nth_meet c history (run c after).sent facts (suc boot.1.place) (suc n) b.0 s
      (boot.1.set, boot.1.nth, boot.1.decided) nth member.0 boot.0 member.1).1 in
      subst (λ x. IsOfChain c after x) same (sets_are_decided c after me b.0 b.1 b.2 (Member-turned _ (run c after).kept b.3)).1

  -- this event didn't decide it
  decided_before : (r : List ℕ) → WasDecided c after r s → WasDecided c then r s
  decided_before r was = elim (last_cases then was.0 was.1 e was.2 was.3) [
    | inl q ↦ (was.0, q.0, was.2, q.1, was.4)
    | inr q ↦ (let now : Decides (run c then) e r s =
        subst (λ l. Decides (run c l) e r s) q.0 (subst (λ f. Decides (run c was.0) f r s) q.1 was.4) in
        let same : s ≡ t = decides_one (run c then) e r s t now d in
        let low : member.0 < member.0 = above_at t s parts.1.above member.0 member.0
        (subst (λ l. Member member.0 l) same member.1) member.1 in
        absurd (omega arith))
  ]

  follows_one : (n : ℕ) → IsNth c history n s → (s ≡ first_set c) ⊎ ((r : List ℕ) × WasDecided c then r s)
  follows_one zero nth = inl nth
  follows_one (suc n) nth = let was = later_began n nth in inr (was.0, decided_before was.0 was.1)

pub sets_are_a_chain : OfEveryRun SetsAreAChain
sets_are_a_chain c es then later e same s t d =
    ((parts c then e s t d).1.above, follows_one c then e s t d (parts c then e s t d).0.0 (parts c then e s t d).0.1)
