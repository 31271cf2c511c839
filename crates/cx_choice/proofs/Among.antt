-- The values that are chosen, vote by vote.
use Rattle.std.proofs.lemmas.List.Folds.{list_any-append}
use Rattle.cx_base.proofs.Common.{◌∙◌, Bor, inl, inr, ap, sym, cases_Bool}
use Rattle.cx_model.specs.Prelude.{◌≡◌, ◌&&◌, ◌||◌, ◌==◌, ◌∷◌, ◌++◌, [], ℕ, Bool, true, false, List, refl, list_any, Shape, same_value}
use Rattle.cx_model.specs.Prelude.{Value, Round, KeptRecord, Written}
use Rattle.cx_base.proofs.SameLaws.{same_value-true}
use Rattle.cx_letter.specs.declared.kept.Record.TheVariants as kept
use Rattle.cx_letter.specs.declared.input.Written.TheVariants as written
use Rattle.cx_choice.proofs.Casts.{same_among}
use Rattle.cx_choice.proofs.Whole.{chosen_by_whole}
use Rattle.cx_choice.specs.Enough.{is_value_among, is_chosen_among, is_enough, is_whole_vote_in, is_whole_vote}
use Rattle.cx_choice.specs.OfRound.{of_round}
use Rattle.cx_choice.specs.Sorted.{AreCast, casts_in}
use Rattle.cx_choice.specs.declared.of_round.OfRound.{OfRound}

or_no : (b : Bool) → (b || false) ≡ b
or_no true = refl
or_no false = refl

and_no : (b : Bool) → (b && false) ≡ false
and_no true = refl
and_no false = refl

-- a vote in another slot adds none
pub elsewhere : (values : List (Bor Value)) (rounds : List (OfRound Shape)) (votes : List KeptRecord) (s : ℕ) (j : Round) (t : ℕ)
    (u v : Value) → (t == s) ≡ false → is_value_among values v ≡ (is_value_among values v || is_whole_vote_in rounds votes s v j t u)
elsewhere values rounds votes s j t u v e = rw e (sym (or_no (is_value_among values v)))

-- nor does one for a value that is among the others
pub among : (values : List (Bor Value)) (rounds : List (OfRound Shape)) (votes : List KeptRecord) (s : ℕ) (j : Round) (t : ℕ) (u v : Value)
    → is_value_among values u ≡ true → is_value_among values v ≡ (is_value_among values v || is_whole_vote_in rounds votes s v j t u)
among values rounds votes s j t u v e =
    elim (cases_Bool (same_value u v)) [
      | inr other ↦ rw (other, and_no (t == s)) (sym (or_no (is_value_among values v)))
      | inl same ↦
          let there : is_value_among values v ≡ true = ap (is_value_among values) (sym (same_value-true u v same)) ∙ e in rw there refl
    ]

-- nor does one whose round has too few votes for it
pub few : (values : List (Bor Value)) (rounds : List (OfRound Shape)) (votes : List KeptRecord) (s : ℕ) (j : Round) (t : ℕ) (u v : Value)
    → is_enough rounds votes s j u ≡ false → is_value_among values v ≡ (is_value_among values v || is_whole_vote_in rounds votes s v j t u)
few values rounds votes s j t u v e =
    elim (cases_Bool (same_value u v)) [
      | inr other ↦ rw (other, and_no (t == s)) (sym (or_no (is_value_among values v)))
      | inl same ↦
          let none : is_enough rounds votes s j v ≡ false = ap (is_enough rounds votes s j) (sym (same_value-true u v same)) ∙ e in
          rw (none, and_no ((t == s) && same_value u v)) (sym (or_no (is_value_among values v)))
    ]

-- one whose round has enough is added
pub more : (values new : List (Bor Value)) (rounds : List (OfRound Shape)) (votes : List KeptRecord) (s : ℕ) (j : Round) (t : ℕ)
    (one : Bor Value) (v : Value) → new ≡ values ++ one ∷ []
    → (t == s) ≡ true → is_enough rounds votes s j one.now ≡ true
    → is_value_among new v ≡ (is_value_among values v || is_whole_vote_in rounds votes s v j t one.now)
more values new rounds votes s j t one v is here enough =
    let parts : is_value_among new v ≡ (is_value_among values v || (same_value one.now v || false)) =
    ap (λ l. is_value_among l v) is ∙ list_any-append (λ (u : Bor Value). same_value u.now v) values (one ∷ []) in
    elim (cases_Bool (same_value one.now v)) [
      | inl same ↦
          let enough_v : is_enough rounds votes s j v ≡ true =
          ap (is_enough rounds votes s j) (sym (same_value-true one.now v same)) ∙ enough in
          parts ∙ (rw (here, same, enough_v) refl)
      | inr other ↦ parts ∙ (rw (here, other) refl)
    ]

-- the values of the whole votes are the chosen ones
pub all_told : (values : List (Bor Value)) (rounds : List (OfRound Shape)) (votes : List KeptRecord)
    (casts : List (OfRound (Bor KeptRecord))) (s : ℕ) (v : Value) → AreCast votes casts
    → is_value_among values v ≡ list_any (λ (k : KeptRecord). is_whole_vote rounds (casts_in casts) s v k.what) votes
    → is_value_among values v ≡ is_chosen_among rounds votes s v
all_told values rounds votes casts s v are told =
    told ∙ (λ i. list_any (λ (k : KeptRecord). same_whole k.what i) votes) ∙ sym (chosen_by_whole rounds votes s v) where
      same_whole : (what : Written) → is_whole_vote rounds (casts_in casts) s v what ≡ is_whole_vote rounds votes s v what
      same_whole (written.Record (kept.Promise i)) = refl
      same_whole (written.Record (kept.Vote j t cw u)) =
          ap (λ b. (t == s) && same_value u v && b) (same_among (of_round j rounds) votes casts s v are)
      same_whole (written.Record (kept.Water i mark)) = refl
      same_whole (written.Record (kept.Match i g)) = refl
      same_whole (written.Record (kept.Garbage i g)) = refl
      same_whole (written.Record (kept.Round i g)) = refl
      same_whole (written.Record (kept.Log values)) = refl
      same_whole (written.Record (kept.Base first held pairs clients)) = refl
      same_whole (written.Record (kept.Pairs pairs)) = refl
      same_whole (written.Record (kept.Notes client floor notes)) = refl
      same_whole (written.Record (kept.Tail values)) = refl
      same_whole (written.Record (kept.Ballot ballot)) = refl
      same_whole (written.Record (kept.Stop ballot)) = refl
      same_whole (written.Record (kept.Next ballot next)) = refl
      same_whole (written.Record (kept.Boot set watermark entries)) = refl
      same_whole (written.Record (kept.Turn turn)) = refl
      same_whole (written.Record (kept.Voted p top cw vs)) = refl
      same_whole (written.Record (kept.Known ids)) = refl
      same_whole (written.Snap first) = refl

-- so they are when all votes were looked at
pub finished : (values : List (Bor Value)) (rounds : List (OfRound Shape)) (votes rest : List KeptRecord)
    (casts : List (OfRound (Bor KeptRecord))) (s : ℕ) (v : Value) → AreCast votes casts
    → rest ≡ [] → (is_value_among values v || list_any (λ (k : KeptRecord). is_whole_vote rounds (casts_in casts) s v k.what) rest)
    ≡ list_any (λ (k : KeptRecord). is_whole_vote rounds (casts_in casts) s v k.what) votes
    → is_value_among values v ≡ is_chosen_among rounds votes s v
finished values rounds votes rest casts s v are none told =
    let all : (is_value_among values v || false) ≡ list_any (λ (k : KeptRecord). is_whole_vote rounds (casts_in casts) s v k.what) votes =
    rw none at told in
    all_told values rounds votes casts s v are (sym (or_no (is_value_among values v)) ∙ all)
