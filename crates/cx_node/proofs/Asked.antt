-- The history of a link after actions, one list of them after another.
use Rattle.cx_role.proofs.Common.{◌≡◌, ℕ, false, List, [], ◌∷◌, ◌++◌, map, filter, Option, None, Some, option_map, refl, sym, ap, ◌∙◌}
use Rattle.cx_role.proofs.Common.{append_assoc, append-nil, list_any, flat_map-append, map-append, filter-append, none-some, same_Some}
use Rattle.cx_role.proofs.Common.{Cluster, Event, RoleId, names_role, Letter}
use Rattle.cx_seat.specs.Prelude.{LinkHistory, with_taken, Action, Bound, Took, bound_in, is_filled, kept_in, printed_in, sent_in}
use Rattle.cx_seat.specs.Prelude.{step_actions, taken_in, StoreChange}
use Rattle.cx_course.specs.Action.{Answered, Noted, bound_by, sent_by, taken_by}
use Rattle.cx_node.specs.Doing.{HasLinkSent, Linked, with_actions}
use Rattle.cx_node.specs.Hosting.{with_binds}
use Rattle.cx_node.specs.Ports.{bind_of, sending_of, sendings}

-- ---- what is among the actions of a step, and among binds

-- what a record has of a step, which is no other action: no role is bound, nothing is taken, kept, sent or printed, and no step is left out
pub record IsNoted (ns : List Action) : Type 0 where
  bound : bound_in ns ≡ []
  taken : taken_in ns ≡ []
  kept : kept_in ns ≡ []
  sent : sent_in ns ≡ []
  printed : printed_in ns ≡ []
  made : list_any is_filled ns ≡ false

pub none_noted : IsNoted []
none_noted = record { bound = refl; taken = refl; kept = refl; sent = refl; printed = refl; made = refl }

-- events that were noted, and answers
pub are_noted : (es : List Event) (ds : List Letter) → IsNoted (map Noted es ++ map Answered ds)
are_noted [] [] = none_noted
are_noted [] (d ∷ ds) =
    let r = are_noted [] ds in
    record { bound = r.bound; taken = r.taken; kept = r.kept; sent = r.sent; printed = r.printed; made = r.made }
are_noted (e ∷ es) ds =
    let r = are_noted es ds in
    record { bound = r.bound; taken = r.taken; kept = r.kept; sent = r.sent; printed = r.printed; made = r.made }

pub step_bound : (ks : List StoreChange) (ls : List Letter) (bs : List ℕ) (ns : List Action) → IsNoted ns
    → bound_in (step_actions ks ls bs ns) ≡ []
step_bound [] [] [] ns noted = noted.bound
step_bound [] [] (b ∷ bs) ns noted = step_bound [] [] bs ns noted
step_bound [] (l ∷ ls) bs ns noted = step_bound [] ls bs ns noted
step_bound (k ∷ ks) ls bs ns noted = step_bound ks ls bs ns noted

pub step_taken : (ks : List StoreChange) (ls : List Letter) (bs : List ℕ) (ns : List Action) → IsNoted ns
    → taken_in (step_actions ks ls bs ns) ≡ []
step_taken [] [] [] ns noted = noted.taken
step_taken [] [] (b ∷ bs) ns noted = step_taken [] [] bs ns noted
step_taken [] (l ∷ ls) bs ns noted = step_taken [] ls bs ns noted
step_taken (k ∷ ks) ls bs ns noted = step_taken ks ls bs ns noted

pub step_kept : (ks : List StoreChange) (ls : List Letter) (bs : List ℕ) (ns : List Action) → IsNoted ns
    → kept_in (step_actions ks ls bs ns) ≡ ks
step_kept [] [] [] ns noted = noted.kept
step_kept [] [] (b ∷ bs) ns noted = step_kept [] [] bs ns noted
step_kept [] (l ∷ ls) bs ns noted = step_kept [] ls bs ns noted
step_kept (k ∷ ks) ls bs ns noted = ap (λ l. k ∷ l) (step_kept ks ls bs ns noted)

pub step_sent : (ks : List StoreChange) (ls : List Letter) (bs : List ℕ) (ns : List Action) → IsNoted ns
    → sent_in (step_actions ks ls bs ns) ≡ ls
step_sent [] [] [] ns noted = noted.sent
step_sent [] [] (b ∷ bs) ns noted = step_sent [] [] bs ns noted
step_sent [] (l ∷ ls) bs ns noted = ap (λ ds. l ∷ ds) (step_sent [] ls bs ns noted)
step_sent (k ∷ ks) ls bs ns noted = step_sent ks ls bs ns noted

pub step_printed : (ks : List StoreChange) (ls : List Letter) (bs : List ℕ) (ns : List Action) → IsNoted ns
    → printed_in (step_actions ks ls bs ns) ≡ bs
step_printed [] [] [] ns noted = noted.printed
step_printed [] [] (b ∷ bs) ns noted = ap (λ l. b ∷ l) (step_printed [] [] bs ns noted)
step_printed [] (l ∷ ls) bs ns noted = step_printed [] ls bs ns noted
step_printed (k ∷ ks) ls bs ns noted = step_printed ks ls bs ns noted

pub step_made : (ks : List StoreChange) (ls : List Letter) (bs : List ℕ) (ns : List Action) → IsNoted ns
    → list_any is_filled (step_actions ks ls bs ns) ≡ false
step_made [] [] [] ns noted = noted.made
step_made [] [] (b ∷ bs) ns noted = step_made [] [] bs ns noted
step_made [] (l ∷ ls) bs ns noted = step_made [] ls bs ns noted
step_made (k ∷ ks) ls bs ns noted = step_made ks ls bs ns noted

binds_bound : (rs : List RoleId) → bound_in (map Bound rs) ≡ rs
binds_bound [] = refl
binds_bound (r ∷ rs) = ap (λ l. r ∷ l) (binds_bound rs)

binds_taken : (rs : List RoleId) → taken_in (map Bound rs) ≡ []
binds_taken [] = refl
binds_taken (r ∷ rs) = binds_taken rs

binds_sent : (rs : List RoleId) → sent_in (map Bound rs) ≡ []
binds_sent [] = refl
binds_sent (r ∷ rs) = binds_sent rs

pub binds_kept : (rs : List RoleId) (more : List Action) → kept_in (map Bound rs ++ more) ≡ kept_in more
binds_kept [] more = refl
binds_kept (r ∷ rs) more = binds_kept rs more

pub binds_printed : (rs : List RoleId) (more : List Action) → printed_in (map Bound rs ++ more) ≡ printed_in more
binds_printed [] more = refl
binds_printed (r ∷ rs) more = binds_printed rs more

pub binds_made : (rs : List RoleId) (more : List Action) → list_any is_filled (map Bound rs ++ more) ≡ list_any is_filled more
binds_made [] more = refl
binds_made (r ∷ rs) more = binds_made rs more

sendings_append : (c : Cluster) (ks ls : List Letter) → sendings c (ks ++ ls) ≡ sendings c ks ++ sendings c ls
sendings_append c ks ls =
    ap (map (sending_of c)) (filter-append (λ (d : Letter). names_role c d.to) ks ls)
    ∙ map-append (sending_of c) (filter (λ (d : Letter). names_role c d.to) ks)
    (filter (λ (d : Letter). names_role c d.to) ls)

module _ (c : Cluster) where
  none_more : (h : LinkHistory) → with_actions c [] h ≡ h
  none_more h = λ i. record { binds = append-nil h.binds i; taken = append-nil h.taken i; sent = append-nil h.sent i }

  actions_more : (xs ys : List Action) (h : LinkHistory)
      → with_actions c ys (with_actions c xs h) ≡ with_actions c (xs ++ ys) h
  actions_more xs ys h =
      let binds : (h.binds ++ map (bind_of c) (bound_in xs)) ++ map (bind_of c) (bound_in ys) ≡ h.binds
      ++ map (bind_of c) (bound_in (xs ++ ys)) =
      append_assoc h.binds (map (bind_of c) (bound_in xs)) (map (bind_of c) (bound_in ys))
      ∙ ap (λ l. h.binds ++ l) (sym (map-append (bind_of c) (bound_in xs) (bound_in ys))
      ∙ ap (map (bind_of c)) (sym (flat_map-append bound_by xs ys))) in
      let taken : (h.taken ++ taken_in xs) ++ taken_in ys ≡ h.taken ++ taken_in (xs ++ ys) =
      append_assoc h.taken (taken_in xs) (taken_in ys)
      ∙ ap (λ l. h.taken ++ l) (sym (flat_map-append taken_by xs ys)) in
      let sent : (h.sent ++ sendings c (sent_in xs)) ++ sendings c (sent_in ys) ≡ h.sent
      ++ sendings c (sent_in (xs ++ ys)) =
      append_assoc h.sent (sendings c (sent_in xs)) (sendings c (sent_in ys))
      ∙ ap (λ l. h.sent ++ l) (sym (sendings_append c (sent_in xs) (sent_in ys))
      ∙ ap (sendings c) (sym (flat_map-append sent_by xs ys))) in
      λ i. record { binds = binds i; taken = taken i; sent = sent i }

  pub linked_nothing : (a : Option LinkHistory) → Linked c [] a a
  linked_nothing a = λ h e. (h, e, sym (none_more h))

  pub linked_then : (xs ys : List Action) (a b d : Option LinkHistory) → Linked c xs a b → Linked c ys b d
      → Linked c (xs ++ ys) a d
  linked_then xs ys a b d p q = λ after e.
      let two = q after e in
      let one = p two.0 two.1 in
      (one.0, one.1, two.2 ∙ ap (with_actions c ys) one.2 ∙ actions_more xs ys one.0)

  took_more : (what : Option (List ℕ)) (h : LinkHistory) → with_taken what h ≡ with_actions c (Took what ∷ []) h
  took_more what h =
      λ i. record {
        binds = sym (append-nil h.binds) i;
        taken = h.taken
            ++ what ∷ [];
        sent = sym (append-nil h.sent) i;
      }

  pub linked_took : (what : Option (List ℕ)) (a : Option LinkHistory)
      → Linked c (Took what ∷ []) a (option_map (with_taken what) a)
  linked_took what None = λ after e. absurd (none-some after e)
  linked_took what (Some h) = λ after e. (h, refl, sym (same_Some (with_taken what h) after e) ∙ took_more what h)

  -- what a step sends
  pub linked_step : (ks : List StoreChange) (ls : List Letter) (bs : List ℕ) (ns : List Action) (a b : Option LinkHistory)
      → IsNoted ns → HasLinkSent c ls a b → Linked c (step_actions ks ls bs ns) a b
  linked_step ks ls bs ns a b noted asks = λ after e.
      let one = asks after e in
      let h = one.0 in
      let binds : h.binds ≡ h.binds ++ map (bind_of c) (bound_in (step_actions ks ls bs ns)) = sym (append-nil h.binds)
      ∙ ap (λ l. h.binds ++ map (bind_of c) l) (sym (step_bound ks ls bs ns noted)) in
      let taken : h.taken ≡ h.taken ++ taken_in (step_actions ks ls bs ns) = sym (append-nil h.taken)
      ∙ ap (λ l. h.taken ++ l) (sym (step_taken ks ls bs ns noted)) in
      let sent : h.sent ++ sendings c ls ≡ h.sent ++ sendings c (sent_in (step_actions ks ls bs ns)) = ap
      (λ l. h.sent ++ sendings c l) (sym (step_sent ks ls bs ns noted)) in
      (h, one.1, one.2 ∙ (λ i. record { binds = binds i; taken = taken i; sent = sent i }))

  binds_more : (rs : List RoleId) (h : LinkHistory) → with_binds (map (bind_of c) rs) h ≡ with_actions c
      (map Bound rs) h
  binds_more rs h =
      let binds : h.binds ++ map (bind_of c) rs ≡ h.binds
      ++ map (bind_of c) (bound_in (map Bound rs)) = ap (λ l. h.binds ++ map (bind_of c) l)
      (sym (binds_bound rs)) in
      let taken : h.taken ≡ h.taken ++ taken_in (map Bound rs) = sym (append-nil h.taken)
      ∙ ap (λ l. h.taken ++ l) (sym (binds_taken rs)) in
      let sent : h.sent ≡ h.sent ++ sendings c (sent_in (map Bound rs)) = sym (append-nil h.sent)
      ∙ ap (λ l. h.sent ++ sendings c l) (sym (binds_sent rs)) in
      λ i. record { binds = binds i; taken = taken i; sent = sent i }

  pub linked_binds : (rs : List RoleId) (a b : Option LinkHistory)
      → b ≡ option_map (with_binds (map (bind_of c) rs)) a → Linked c (map Bound rs) a b
  linked_binds rs None b is = λ after e. absurd (none-some after (sym is ∙ e))
  linked_binds rs (Some h) b is =
      λ after e. (h, refl, sym (same_Some (with_binds (map (bind_of c) rs) h) after (sym is ∙ e)) ∙ binds_more rs h)
