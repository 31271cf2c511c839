-- A recording node follows the model's run of what it recorded: what stands between two steps, and that a step keeps it.
use Rattle.cx_inv_run.proofs.Common.{Member-cases, run_append, run_cluster, by_role}
use Rattle.cx_role.proofs.Common.{◌≡◌, ◌<◌, ◌≤◌, ◌+◌, ◌==◌, ◌^◌, ◌⊎◌, ℕ, zero, suc, false, List, [], ◌∷◌, ◌++◌, length, Some, option_map}
use Rattle.cx_role.proofs.Common.{ap, sym, ◌∙◌, subst, refl, inl, inr, arith, append_assoc, length-append, get_or, slice_get, slice_set}
use Rattle.cx_role.proofs.Common.{All, cases_Bool, nat_tests, same_Some, Cluster, Event, RoleId, same_role, differ_role, get_set_other}
use Rattle.cx_role.proofs.Common.{get_set_same, Member, DeliversOneOf, World, change, kept_by, run, run_from, start, Letter, Written}
use Rattle.cx_role.proofs.Common.{Record}
use Rattle.cx_inv_open.specs.Reopened.{stored_as}
use Rattle.cx_inv_run.proofs.Steps.{run_from_append}
use Rattle.cx_promises.proofs.Lawful.{lawful}
use Rattle.cx_record.specs.Numbers.{most_lines}
use Rattle.cx_record.specs.Readable.{IsRecordable}
use Rattle.cx_record.proofs.Reading.{events_back}
use Rattle.cx_course.specs.declared.doing.Doing.{Doing}
use Rattle.cx_course.specs.Action.{Action, noted_in, sent_in}
use Rattle.cx_course.specs.Alike.{AreDistinct}
use Rattle.cx_course.specs.Changing.{StoreChange, change_for, changed_by, changes_of, lists_after}
use Rattle.cx_course.specs.Course.{Course, made, step_events}
use Rattle.cx_course.specs.Follows.{Follows}
use Rattle.cx_course.specs.Hosted.{Hosted, Step, does, name_of}
use Rattle.cx_course.proofs.Alike.{IsAlike, spared}
use Rattle.cx_course.proofs.Asker.{IsTraced}
use Rattle.cx_course.proofs.Doings.{FitsIn, IsFair, Steps, hosted_steps}
use Rattle.cx_course.proofs.Past.{Past, more, past_of}
use Rattle.cx_course.proofs.Roles.{Lands}
use Rattle.cx_course.proofs.Stores.{lists_then, other_changes, other_store, own_store}

-- ---- what stands between two steps

-- the list in a store after these changes
abbrev list_after_all : RoleId → List StoreChange → List Record
list_after_all me kept = lists_after [] (changes_of me kept)

-- The node's roles, and its record, stand beside the model's run of what was recorded.
pub record Stands (c : Cluster) (t : Past) (s : Course) : Type 0 where
  pub recorded : s.recorded ≡ Some (record { sent = t.sent; lines = length t.noted })
  pub room : length t.noted ≤ most_lines
  pub sends : (run c t.noted).sent ≡ t.sent
  pub stores : (me : RoleId) → stored_as me (run c t.noted).kept me.kind ≡ list_after_all me t.kept
  pub traced : IsTraced (run c t.noted)
  pub roles : (i : ℕ) (h : Hosted) → slice_get s.hosted i ≡ Some h → IsAlike (run c t.noted) h
  pub distinct : AreDistinct s.hosted
  pub answers : (d : Letter) → Member d t.answered → DeliversOneOf (start c) t.noted d
  pub fit : (e : Event) → Member e t.noted → FitsIn c (length t.sent) e

at_is_member : (es : List Event) (k : ℕ) (d : Event) → k < length es → Member (get_or es k d) es
at_is_member [] k d less = absurd (omega (arith, less))
at_is_member (e ∷ es) zero d less = inl refl
at_is_member (e ∷ es) (suc k) d less = inr (at_is_member es k d (omega (arith, less)))

all_fit : (c : Cluster) (many : ℕ) (es : List Event) → many ≤ 2 ^ 64 → ((e : Event) → Member e es → FitsIn c many e)
    → All (IsRecordable c) es
all_fit c many es most fit = λ k d less. one (get_or es k d) (fit (get_or es k d) (at_is_member es k d less))
  where
    within : (n : ℕ) → n < many → n < 2 ^ 64
    within n below = omega (arith, below, most)

    one : (e : Event) → FitsIn c many e → IsRecordable c e
    one e (inr can) = can
    one e (inl x) = subst (IsRecordable c) (sym x.2) (record { ranges = within x.0 x.3; valid = refl; named = refl; complete = refl })

-- so it follows
pub stands_follow : (c : Cluster) (p : List Action) (s : Course) → Stands c (past_of p) s → Follows c p
stands_follow c p s st = record {
  sends = st.sends;
  stores = st.stores;
  answers = st.answers;
  lawful = lawful c (noted_in p);
  read = λ most. events_back c (noted_in p) st.room (all_fit c (length (sent_in p)) (noted_in p) most st.fit);
}

-- ---- the places of roles

-- the place that is set, or another
set_cases : (hs : List Hosted) (i j : ℕ) (old new h : Hosted) → slice_get hs i ≡ Some old → slice_get (slice_set hs i new) j ≡ Some h
    → ((j ≡ i) × (h ≡ new)) ⊎ ((j ≡ i → ⊥) × (slice_get hs j ≡ Some h))
set_cases hs i j old new h here is = elim (cases_Bool (j == i)) [
  | inl t ↦ (let e : j ≡ i = grind (arith, nat_tests) in
      inl (e, same_Some h new (sym is ∙ ap (slice_get (slice_set hs i new)) e ∙ get_set_same hs i old new here)))
  | inr f ↦ (let d : j ≡ i → ⊥ = λ e. differs e f in inr (d, sym (get_set_other hs i j new d) ∙ is))
]
  where
    differs : j ≡ i → (j == i) ≡ false → ⊥
    differs e f = grind (arith, nat_tests)

named_before : (hs : List Hosted) (i j : ℕ) (old new h : Hosted) → slice_get hs i ≡ Some old → name_of new ≡ name_of old
    → slice_get (slice_set hs i new) j ≡ Some h → (x : Hosted) × (slice_get hs j ≡ Some x) × (name_of x ≡ name_of h)
named_before hs i j old new h here name is = elim (set_cases hs i j old new h here is) [
  | inl p ↦ (old, ap (slice_get hs) p.0 ∙ here, sym name ∙ ap name_of (sym p.1))
  | inr p ↦ (h, p.1, refl)
]

distinct_set : (hs : List Hosted) (i : ℕ) (old new : Hosted) → slice_get hs i ≡ Some old → name_of new ≡ name_of old → AreDistinct hs
    → AreDistinct (slice_set hs i new)
distinct_set hs i old new here name distinct j k a b at_j at_k same =
    let p = named_before hs i j old new a here name at_j in
    let q = named_before hs i k old new b here name at_k in
    distinct j k p.0 q.0 p.1 q.1 (p.2 ∙ same ∙ sym q.2)

-- ---- a step

-- what was delivered in earlier events, and in later ones
earlier_too : (w : World) (es later : List Event) (d : Letter) → DeliversOneOf w es d → DeliversOneOf w (es ++ later) d
earlier_too w es later d x = (x.0, x.1 ++ later, x.2, ap (λ l. l ++ later) x.3 ∙ append_assoc x.0 (x.2 ∷ x.1) later, x.4)

later_too : (w : World) (before es : List Event) (d : Letter) → DeliversOneOf (run_from w before) es d → DeliversOneOf w (before ++ es) d
later_too w before es d x = (
  before ++ x.0,
  x.1,
  x.2,
  ap (λ l. before ++ l) x.3 ∙ sym (append_assoc before x.0 (x.2 ∷ x.1)),
  (x.4.0, x.4.1, x.4.2, ap (λ (v : World). slice_get v.sent x.4.0) (run_from_append w before x.0) ∙ x.4.3),
)

fits_more : (c : Cluster) (many more : ℕ) (e : Event) → FitsIn c many e → FitsIn c (many + more) e
fits_more c many more e (inr can) = inr can
fits_more c many more e (inl x) = (let below = x.3 in inl (x.0, x.1, x.2, longer x.0 below))
  where
    longer : (n : ℕ) → n < many → n < many + more
    longer n below = omega (arith, below)

module _ (c : Cluster) (t : Past) (hs : List Hosted) (st : Stands c t
    (record { hosted = hs; recorded = Some (record { sent = t.sent; lines = length t.noted }) })) (i : ℕ) (what : Doing) (h : Hosted)
    (here : slice_get hs i ≡ Some h) (fair : IsFair (run c t.noted) (name_of h) what) where
  abbrev Here : Course
  Here = record { hosted = hs; recorded = Some (record { sent = t.sent; lines = length t.noted }) }

  abbrev Now : World
  Now = run c t.noted

  abbrev Events : List Event
  Events = step_events h what

  abbrev After : World
  After = run c (t.noted ++ Events)

  abbrev X : Step
  X = does h what

  steps : Steps Now h what
  steps = hosted_steps Now st.traced h what (st.roles i h here) fair

  pub lands : Lands Now Events (name_of h) X
  lands = steps.0

  after_is : After ≡ run_from Now Events
  after_is = run_append c t.noted Events

  abbrev Then : Past
  Then = more t X.sends X.kept Events X.answers

  kept_is : After.kept ≡ Now.kept ++ kept_by (name_of h) lands.what
  kept_is = ap (λ (x : World). x.kept) after_is ∙ lands.moves.kept

  abbrev Changed : RoleId → Type 0
  Changed me = stored_as me After.kept me.kind ≡ lists_after (list_after_all me t.kept) (changes_of me X.kept)

  own_changed : Changed (name_of h)
  own_changed =
      let me = name_of h in
      let list = stored_as me Now.kept me.kind in
      ap (λ l. stored_as me l me.kind) kept_is
      ∙ own_store me Now.kept lands.what me.kind lands.may
      ∙ ap (λ ks. lists_after list (changes_of me ks)) (sym lands.kept)
      ∙ ap (λ l. lists_after l (changes_of me X.kept)) (st.stores me)

  other_changed : (me : RoleId) → same_role me (name_of h) ≡ false → Changed me
  other_changed me differs =
      ap (λ l. stored_as me l me.kind) kept_is
      ∙ other_store me (name_of h) Now.kept lands.what me.kind differs
      ∙ st.stores me
      ∙ ap (lists_after (list_after_all me t.kept)) (sym (ap (changes_of me) lands.kept
      ∙ other_changes me (name_of h) (option_map (change_for (stored_as (name_of h) Now.kept (name_of h).kind)) lands.what) differs))

  stores_then : (me : RoleId) → stored_as me After.kept me.kind ≡ list_after_all me (t.kept ++ X.kept)
  stores_then me = by_role Changed (name_of h) own_changed other_changed me ∙ sym (lists_then me t.kept X.kept)

  cluster_is : Now.cluster ≡ c
  cluster_is = run_cluster c t.noted

  fit_then : (e : Event) → Member e (t.noted ++ Events) → FitsIn c (length (t.sent ++ X.sends)) e
  fit_then e m = subst (λ n. FitsIn c n e) (sym (length-append t.sent X.sends)) (elim (Member-cases e t.noted Events m) [
    | inl old ↦ fits_more c (length t.sent) (length X.sends) e (st.fit e old)
    | inr new ↦ fits_more c (length t.sent) (length X.sends) e
        (subst (λ l. FitsIn c (length l) e) st.sends (subst (λ x. FitsIn x (length Now.sent) e) cluster_is (steps.1 e new)))
  ])

  role_then : (j : ℕ) (x : Hosted) → slice_get (slice_set hs i X.next) j ≡ Some x → IsAlike After x
  role_then j x is = subst (λ y. IsAlike y x) (sym after_is) (elim (set_cases hs i j h X.next x here is) [
    | inl p ↦ subst (IsAlike (run_from Now Events)) (sym p.1) lands.alike
    | inr p ↦ spared Now (run_from Now Events) (name_of h) lands.what X.sends lands.moves x
        (differ_role (name_of x) (name_of h) (λ same. p.0 (st.distinct j i x h p.1 here same))) (st.roles j x p.1)
  ])

  pub stands_then : length t.noted + length Events ≤ most_lines → Stands c Then ((made i Here Events X).next)
  stands_then room = record {
    recorded = ap (λ n. Some (record { sent = t.sent ++ X.sends; lines = n })) (sym (length-append t.noted Events));
    room = subst (λ n. n ≤ most_lines) (sym (length-append t.noted Events)) room;
    sends = ap (λ (x : World). x.sent) after_is ∙ lands.moves.sent ∙ ap (λ l. l ++ X.sends) st.sends;
    stores = stores_then;
    traced = subst IsTraced (sym after_is) lands.moves.traced;
    roles = role_then;
    distinct = distinct_set hs i h X.next here lands.name st.distinct;
    answers = λ d m. elim (Member-cases d t.answered X.answers m) [
      | inl old ↦ earlier_too (start c) t.noted Events d (st.answers d old)
      | inr new ↦ later_too (start c) t.noted Events d (lands.answers d new)
    ];
    fit = fit_then;
  }

  -- the change that is next is that of the run's next event
  pub next_change : (y : Written) → lands.what ≡ Some y → (k : StoreChange) → X.kept ≡ k ∷ []
      → (e : Event) × ((change Now e).kept ≡ kept_by k.role (Some y)) × (k.change ≡ change_for (list_after_all k.role t.kept) y)
  next_change y is k alone =
      let me = name_of h in
      let made : changed_by me (Some (change_for (stored_as me Now.kept me.kind) y)) ≡ k ∷ [] =
      sym (ap (λ o. changed_by me (option_map (change_for (stored_as me Now.kept me.kind)) o)) is) ∙ sym lands.kept ∙ alone in
      let own : record { role = me; change = change_for (stored_as me Now.kept me.kind) y } ≡ k = first_is made in
      let e = lands.next y is in (
        e.0,
        e.1 ∙ ap (λ (x : StoreChange). kept_by x.role (Some y)) own,
        sym (ap (λ (x : StoreChange). x.change) own)
            ∙ ap (λ l. change_for l y) (st.stores me ∙ ap (λ (x : StoreChange). list_after_all x.role t.kept) own),
      )
    where
      head_or : StoreChange → List StoreChange → StoreChange
      head_or d [] = d
      head_or d (x ∷ xs) = x

      first_is : {x k : StoreChange} → x ∷ [] ≡ k ∷ [] → x ≡ k
      first_is {x} {k} e = ap (head_or x) e
