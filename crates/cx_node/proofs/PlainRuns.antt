-- A run that isn't recorded leaves no step out.
use Rattle.cx_role.proofs.Common.{◌≡◌, ◌||◌, ℕ, false, List, [], ◌∷◌, ◌++◌, Option, None, Some, refl, ap, ◌∙◌, slice_get, list_any}
use Rattle.cx_role.proofs.Common.{list_any-append, Cluster, Letter}
use Rattle.cx_seat.specs.Prelude.{Action, Took, is_filled, step_actions, StoreChange, Course, course_of, Hosted, does, TakeResults}
use Rattle.cx_seat.specs.Prelude.{node_run, Doing}
use Rattle.cx_course.specs.Course.{does_at, found_does}
use Rattle.cx_node.proofs.Walk.{IsPreserved, walk}

-- no record is known of, and nothing was left out
record IsPlain (s : Course) (done : List Action) : Type 0 where
  unrecorded : s.recorded ≡ None
  made : list_any is_filled done ≡ false

step_made : (ks : List StoreChange) (ls : List Letter) (bs : List ℕ) → list_any is_filled (step_actions ks ls bs []) ≡ false
step_made [] [] [] = refl
step_made [] [] (b ∷ bs) = step_made [] [] bs
step_made [] (l ∷ ls) bs = step_made [] ls bs
step_made (k ∷ ks) ls bs = step_made ks ls bs

made_more : (xs ys : List Action) → list_any is_filled xs ≡ false → list_any is_filled ys ≡ false
    → list_any is_filled (xs ++ ys) ≡ false
made_more xs ys one two = list_any-append is_filled xs ys ∙ ap (λ t. t || list_any is_filled ys) one ∙ two

found_plain : (i : ℕ) (s : Course) (what : Doing) (o : Option Hosted) (done : List Action) → IsPlain s done
    → IsPlain (found_does i s what o).next (done ++ (found_does i s what o).actions)
found_plain i s what None done plain = record { unrecorded = plain.unrecorded; made = made_more done [] plain.made refl }
found_plain i s what (Some h) done plain =
    rw plain.unrecorded (record {
      unrecorded = refl;
      made = made_more done (step_actions (does h what).kept (does h what).sends (does h what).text []) plain.made
          (step_made (does h what).kept (does h what).sends (does h what).text);
    })

does_plain : (i : ℕ) (s : Course) (what : Doing) (done : List Action) → IsPlain s done
    → IsPlain (does_at i what s).next (done ++ (does_at i what s).actions)
unfolding does_at
does_plain i s what done plain = found_plain i s what (slice_get s.hosted i) done plain

plain_preserved : IsPreserved IsPlain
plain_preserved = record {
  step = λ s done i what may plain. does_plain i s what done plain;
  take = λ s done what plain.
      record { unrecorded = plain.unrecorded; made = made_more done (Took what ∷ []) plain.made refl };
}

pub plain_run : (tend : Option ℕ) (c : Cluster) (takes : TakeResults) (hs : List Hosted)
    → list_any is_filled (node_run tend c takes (course_of false hs)).actions ≡ false
plain_run tend c takes hs =
    (walk IsPlain plain_preserved tend c takes (course_of false hs) [] (record { unrecorded = refl; made = refl })).made
