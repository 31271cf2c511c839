-- The text of a run is written in parts.
use Rattle.std.proofs.KnownBytes.{Appends-nil}
use Rattle.cx_base.proofs.Common.{◌≡◌, ◌+◌, ◌++◌, ℕ, List, [], ◌∷◌, length, take, take_all, Option, refl, sym, ap, ◌∙◌, subst, inl, inr}
use Rattle.cx_base.proofs.Common.{arith, append_assoc, Appends, Appends-trans, cases_lt, take-append-le, take-append-add, take-append_seam}
use Rattle.cx_model.specs.Prelude.{Event, World, step, run_from}
use Rattle.cx_edge.specs.Sink.{AppendsPart}
use Rattle.cx_replay.specs.Replay.{step_text, trace}

pub trace_append : (w : World) (es more : List Event) → trace w (es ++ more) ≡ trace w es ++ trace (run_from w es) more
trace_append w [] more = refl
trace_append w (e ∷ es) more = ap (λ l. step_text w e ++ l) (trace_append (step w e) es more)
    ∙ sym (append_assoc (step_text w e) (trace (step w e) es) (trace (run_from (step w e) es) more))

pub run_append : (w : World) (es more : List Event) → run_from w (es ++ more) ≡ run_from (run_from w es) more
run_append w [] more = refl
run_append w (e ∷ es) more = run_append (step w e) es more

-- nothing is a part of each text
pub part_none : (old : Option (List ℕ)) (text : List ℕ) → AppendsPart old old text
part_none old text = (0, Appends-nil old)

-- a part of a text is a part of a longer one
pub part_of_more : (old new : Option (List ℕ)) (text more : List ℕ) → AppendsPart old new text → AppendsPart old new (text ++ more)
part_of_more old new text more part =
    elim (cases_lt part.0 (length text)) [
      | inl less ↦ (part.0, subst (Appends old new) (sym (take-append-le part.0 text more (omega (arith, less)))) part.1)
      | inr past ↦ (length text, subst (Appends old new) (take_all part.0 text past ∙ sym (take-append_seam text more)) part.1)
    ]

-- and so is the whole
pub part_whole : (old new : Option (List ℕ)) (text : List ℕ) → Appends old new text → AppendsPart old new text
part_whole old new text whole = (length text, subst (Appends old new) (sym (take_all (length text) text (omega arith))) whole)

-- a text was written, and then a part of the next one
pub then_part : (old now next : Option (List ℕ)) (text more : List ℕ) → Appends old now text → AppendsPart now next more
    → AppendsPart old next (text ++ more)
then_part old now next text more whole part = (
  length text + part.0,
  subst (Appends old next) (sym (take-append-add text more part.0)) (Appends-trans old now next text (take part.0 more) whole part.1),
)
