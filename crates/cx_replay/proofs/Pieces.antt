-- A text is written piece by piece.
use Rattle.std.proofs.Common.{IsOk, inl, inr, ap, sym, ◌∙◌, subst, append_assoc, append-nil, arith}
use Rattle.std.proofs.KnownBytes.{Appends-nil, Appends-trans}
use Rattle.std.proofs.lemmas.Bool.{false≢true}
use Rattle.std.proofs.lemmas.List.{drop_more}
use Rattle.std.proofs.lemmas.Option.{slice_get_cases}
use Rattle.cx_model.specs.Prelude.{◌≡◌, ◌+◌, ◌<◌, ◌++◌, ◌∷◌, [], ℕ, List, length, drop, map, slice_get, Option, Some, Result, Ok, Err, OnOk}
use Rattle.cx_model.specs.Prelude.{refl, Appends, below, Value, Status, chosen_prefix, World}
use Rattle.cx_base.specs.declared.status.Status.TheVariants as status
use Rattle.cx_edge.specs.Sink.{AppendsPart}
use Rattle.cx_replay.specs.Replay.{summary}
use Rattle.cx_replay.specs.Streamed.{StopsWriting, Sums, WritesText}
use Rattle.cx_replay.proofs.Texts.{part_of_more, then_part}
use Rattle.cx_trace.specs.Summary.{chosen_text, replicas_text, slots_text, summary_text}
use Rattle.cx_world.specs.Folded.{folded_of}

-- a prefix of a text was written, and this is to come
pub record Writing (text rest : List ℕ) (old now : Option (List ℕ)) (writes writes_now : ℕ) : Type 0 where
  pub done : List ℕ
  pub whole : done ++ rest ≡ text
  pub written : Appends old now done
  pub still : writes_now ≡ writes

pub writing_begins : (text : List ℕ) (old : Option (List ℕ)) (writes : ℕ) → Writing text text old old writes writes
writing_begins text old writes = record { done = []; whole = refl; written = Appends-nil old; still = refl }

-- more is printed
pub writing_grows : (text rest more : List ℕ) (old now : Option (List ℕ)) (writes writes_now : ℕ)
    → Writing text rest old now writes writes_now → Writing (text ++ more) (rest ++ more) old now writes writes_now
writing_grows text rest more old now writes writes_now w = record {
  done = w.done;
  whole = sym (append_assoc w.done rest more) ∙ ap (λ l. l ++ more) w.whole;
  written = w.written;
  still = w.still;
}

module _ (text : List ℕ) (old now next : Option (List ℕ)) (writes writes_now writes_next : ℕ) where
  -- what is to come is written, or a part of it
  pub writing_whole : (rest : List ℕ) → Writing text rest old now writes writes_now → Appends now next rest → Appends old next text
  writing_whole rest w p = subst (Appends old next) w.whole (Appends-trans old now next w.done rest w.written p)

  pub writing_part : (rest : List ℕ) → Writing text rest old now writes writes_now → AppendsPart now next rest → AppendsPart old next text
  writing_part rest w p = subst (AppendsPart old next) w.whole (then_part old now next w.done rest w.written p)

  -- the next piece is written
  pub writing_goes : (piece rest : List ℕ) (done : Unit {0}) → Writing text (piece ++ rest) old now writes writes_now
      → WritesText piece now next writes_now writes_next (Ok done) → Writing text rest old next writes writes_next
  writing_goes piece rest done w p = record {
    done = w.done ++ piece;
    whole = append_assoc w.done piece rest ∙ w.whole;
    written = Appends-trans old now next w.done piece w.written p.0;
    still = p.1 ∙ w.still;
  }

  -- or a part of it
  pub writing_stops : (piece rest : List ℕ) (s : Status) → Writing text (piece ++ rest) old now writes writes_now
      → WritesText piece now next writes_now writes_next (Err s) → WritesText text old next writes writes_next (Err s)
  writing_stops piece rest s w p = (
    subst (AppendsPart old next) w.whole (then_part old now next w.done (piece ++ rest) w.written (part_of_more now next piece rest p.0)),
    subst (λ k. StopsWriting k writes_next s) w.still p.1,
  )

  -- the last piece
  pub writing_last : (piece : List ℕ) (result : Result (Unit {0}) Status) → Writing text piece old now writes writes_now
      → WritesText piece now next writes_now writes_next result → WritesText text old next writes writes_next result
  writing_last piece (Ok done) w p =
      (subst (Appends old next) w.whole (Appends-trans old now next w.done piece w.written p.0), p.1 ∙ w.still)
  writing_last piece (Err s) w p = (
    subst (AppendsPart old next) w.whole (then_part old now next w.done piece w.written p.0),
    subst (λ k. StopsWriting k writes_next s) w.still p.1,
  )

-- nothing is left to write
pub writing_ends : (text : List ℕ) (old now : Option (List ℕ)) (writes writes_now : ℕ) (done : Unit {0})
    → Writing text [] old now writes writes_now → WritesText text old now writes writes_now (Ok done)
writing_ends text old now writes writes_now done w = (subst (Appends old now) (sym (append-nil w.done) ∙ w.whole) w.written, w.still)

-- the value of a slot, and those after it
pub at_slot : (values : List Value) (slot : ℕ) → slot < length values
    → (value : Value) × (slice_get values slot ≡ Some value) × (drop slot values ≡ value ∷ drop (slot + 1) values)
at_slot values slot inside = elim (slice_get_cases values slot).1 [
  | inl h ↦ (h.0, h.2, drop_more values slot h.0 inside ∙ ap (λ (v : Value). v ∷ drop (slot + 1) values) h.3)
  | inr p ↦ absurd (omega (arith, p.0))
]

pub where_ok : {T E : Type 0} (result : Result T E) {P : Type 0} → IsOk result → OnOk result P → P
where_ok (Ok x) ok p = p
where_ok (Err e) ok p = absurd (false≢true ok)

-- the summary is its first line, then the slots, then the replicas
pub summary_parts : (w : World) (chosen : List Value) → chosen ≡ chosen_prefix w.kept → summary w
    ≡ chosen_text (length chosen) ++ (slots_text 0 [] chosen ++ replicas_text 0 (map (λ p. folded_of p w.kept) (below w.cluster.replicas)))
unfolding summary_text
summary_parts w chosen e = rw e (append_assoc (chosen_text (length (chosen_prefix w.kept))) (slots_text 0 [] (chosen_prefix w.kept))
    (replicas_text 0 (map (λ p. folded_of p w.kept) (below w.cluster.replicas))))

-- a summary that isn't written whole
pub sums_stopped : (w : World) (out out_after : Option (List ℕ)) (writes writes_after : ℕ) (s : Status)
    → WritesText (summary w) out out_after writes writes_after (Err s) → Sums w out out_after writes writes_after s
sums_stopped w out out_after writes writes_after status.WriteFault p = p
sums_stopped w out out_after writes writes_after status.NoMemory p = p
sums_stopped w out out_after writes writes_after status.Done p = absurd p.1
sums_stopped w out out_after writes writes_after (status.BadInput line) p = absurd p.1
sums_stopped w out out_after writes writes_after status.BadWords p = absurd p.1
sums_stopped w out out_after writes writes_after status.ReadFault p = absurd p.1
sums_stopped w out out_after writes writes_after status.LinkFault p = absurd p.1
sums_stopped w out out_after writes writes_after (status.StoreFault role) p = absurd p.1
sums_stopped w out out_after writes writes_after status.Turns p = absurd p.1
sums_stopped w out out_after writes writes_after (status.BadStore role at) p = absurd p.1
sums_stopped w out out_after writes writes_after (status.NotFresh role) p = absurd p.1
sums_stopped w out out_after writes writes_after status.RecordFull p = absurd p.1
