-- Which of a slot's votes is the first for a value that is chosen there, and where its record is.
use Rattle.cx_base.proofs.Common.{◌≡◌, ◌<◌, ◌≤◌, ◌+◌, ℕ, zero, suc, Bool, true, false, List, [], ◌∷◌, Option, None, Some, length, map}
use Rattle.cx_base.proofs.Common.{get_or, slice_get, nat_lt, ap, sym, refl, inl, inr, ◌∙◌, arith, cases_Bool, nat_tests, length-map}
use Rattle.cx_base.proofs.Common.{position, position_or_len, Shape}
use Rattle.cx_model.specs.Prelude.{Value, chosen_at, chosen_vote, first_chosen, KeptRecord, Written}
use Rattle.cx_letter.specs.declared.kept.Record.TheVariants as kept
use Rattle.cx_letter.specs.declared.input.Written.TheVariants as written
use Rattle.cx_choice.proofs.Apart.{chosen_by_votes, same_selects}
use Rattle.cx_choice.specs.Enough.{selects}
use Rattle.cx_choice.specs.Prefix.{IsChosenVote, IsVoteAt, chooses, is_vote_written, vote_value_at, written_value}
use Rattle.cx_choice.specs.Sorted.{AreRounds, votes_of}
use Rattle.cx_choice.specs.declared.of_round.OfRound.{OfRound}

choosing : (history : List KeptRecord) (s : ℕ) (what : Written) (later : Option Value) → chooses history s what ≡ true
    → (chosen_vote history s what later ≡ Some (written_value what)) × (is_vote_written what ≡ true)
choosing history s (written.Record (kept.Promise i)) later e = cc
choosing history s (written.Record (kept.Vote j t cw v)) later e = rw e (refl, refl)
choosing history s (written.Record (kept.Water i mark)) later e = cc
choosing history s (written.Record (kept.Match i g)) later e = cc
choosing history s (written.Record (kept.Garbage i g)) later e = cc
choosing history s (written.Record (kept.Round i g)) later e = cc
choosing history s (written.Record (kept.Log values)) later e = cc
choosing history s (written.Record (kept.Base first held pairs clients)) later e = cc
choosing history s (written.Record (kept.Pairs pairs)) later e = cc
choosing history s (written.Record (kept.Notes client floor notes)) later e = cc
choosing history s (written.Record (kept.Tail values)) later e = cc
choosing history s (written.Record (kept.Ballot ballot)) later e = cc
choosing history s (written.Record (kept.Stop ballot)) later e = cc
choosing history s (written.Record (kept.Next ballot next)) later e = cc
choosing history s (written.Record (kept.Boot set watermark entries)) later e = cc
choosing history s (written.Record (kept.Turn turn)) later e = cc
choosing history s (written.Record (kept.Voted p top cw vs)) later e = cc
choosing history s (written.Record (kept.Known ids)) later e = cc
choosing history s (written.Snap first) later e = cc

passing : (history : List KeptRecord) (s : ℕ) (what : Written) (later : Option Value) → chooses history s what ≡ false
    → chosen_vote history s what later ≡ later
passing history s (written.Record (kept.Promise i)) later e = refl
passing history s (written.Record (kept.Vote j t cw v)) later e = rw e refl
passing history s (written.Record (kept.Water i mark)) later e = refl
passing history s (written.Record (kept.Match i g)) later e = refl
passing history s (written.Record (kept.Garbage i g)) later e = refl
passing history s (written.Record (kept.Round i g)) later e = refl
passing history s (written.Record (kept.Log values)) later e = refl
passing history s (written.Record (kept.Base first held pairs clients)) later e = refl
passing history s (written.Record (kept.Pairs pairs)) later e = refl
passing history s (written.Record (kept.Notes client floor notes)) later e = refl
passing history s (written.Record (kept.Tail values)) later e = refl
passing history s (written.Record (kept.Ballot ballot)) later e = refl
passing history s (written.Record (kept.Stop ballot)) later e = refl
passing history s (written.Record (kept.Next ballot next)) later e = refl
passing history s (written.Record (kept.Boot set watermark entries)) later e = refl
passing history s (written.Record (kept.Turn turn)) later e = refl
passing history s (written.Record (kept.Voted p top cw vs)) later e = refl
passing history s (written.Record (kept.Known ids)) later e = refl
passing history s (written.Snap first) later e = refl

abbrev place_in : List KeptRecord → ℕ → List KeptRecord → ℕ
place_in history s ks = position_or_len (λ (k : KeptRecord). chooses history s k.what) ks

found : (history : List KeptRecord) (s : ℕ) (ks : List KeptRecord) → place_in history s ks < length ks
    → (first_chosen history s ks ≡ Some (vote_value_at ks (place_in history s ks))) × IsVoteAt ks (place_in history s ks)
found history s [] h = absurd (omega arith)
found history s (k ∷ ks) h =
    elim (cases_Bool (chooses history s k.what)) [
      | inl taken ↦ rw taken (choosing history s k.what (first_chosen history s ks) taken)
      | inr left ↦
          let next : 1 + place_in history s ks ≡ suc (place_in history s ks) = omega arith in
          let rest = found history s ks (let less : 1 + place_in history s ks < suc (length ks) = rw left at h in omega arith) in
          rw (left, next) (passing history s k.what (first_chosen history s ks) left ∙ rest.0, rest.1)
    ]

none_found : (history : List KeptRecord) (s : ℕ) (ks : List KeptRecord) → length ks ≤ place_in history s ks
    → first_chosen history s ks ≡ None
none_found history s [] h = refl
none_found history s (k ∷ ks) h =
    elim (cases_Bool (chooses history s k.what)) [
      | inl taken ↦ absurd (let none : suc (length ks) ≤ 0 = rw taken at h in omega arith)
      | inr left ↦
          passing history s k.what (first_chosen history s ks) left
          ∙ none_found history s ks (let more : suc (length ks) ≤ 1 + place_in history s ks = rw left at h in omega arith)
    ]

no_place : (p : KeptRecord → Bool) (ks : List KeptRecord) → position p ks ≡ None → length ks ≤ position_or_len p ks
no_place p ks e =
    elim (cases_Bool (nat_lt (position_or_len p ks) (length ks))) [
      | inl less ↦ let wrong : Some (position_or_len p ks) ≡ None = rw less at e in cc
      | inr more ↦ grind (arith, nat_tests)
    ]

a_place : (p : KeptRecord → Bool) (ks : List KeptRecord) (n : ℕ) → position p ks ≡ Some n → (position_or_len p ks ≡ n) × (n < length ks)
a_place p ks n e =
    elim (cases_Bool (nat_lt (position_or_len p ks) (length ks))) [
      | inl less ↦
          let same : Some (position_or_len p ks) ≡ Some n = rw less at e in
          let is : position_or_len p ks ≡ n = cc in
          (is, rw (← is) (grind (arith, nat_tests)))
      | inr more ↦ let wrong : None ≡ Some n = rw more at e in cc
    ]

same_count : (kept votes : List KeptRecord) (numbers : List ℕ) → map (slice_get kept) numbers ≡ map (λ (vote : KeptRecord). Some vote) votes
    → length numbers ≡ length votes
same_count kept votes numbers e = sym (length-map numbers (slice_get kept)) ∙ ap (λ (l : List (Option KeptRecord)). length l) e
    ∙ length-map votes (λ (vote : KeptRecord). Some vote)

at_number : (kept votes : List KeptRecord) (numbers : List ℕ) (n d : ℕ) → map (slice_get kept) numbers
    ≡ map (λ (vote : KeptRecord). Some vote) votes → n < length numbers → slice_get votes n ≡ slice_get kept (get_or numbers n d)
at_number kept votes [] n d e h = absurd (omega arith)
at_number kept [] (m ∷ numbers) n d e h = cc
at_number kept (v ∷ votes) (m ∷ numbers) zero d e h = let same : slice_get kept m ≡ Some v = cc in sym same
at_number kept (v ∷ votes) (m ∷ numbers) (suc n) d e h =
    let rest : map (slice_get kept) numbers ≡ map (λ (vote : KeptRecord). Some vote) votes = cc in at_number kept votes numbers n d rest
    (omega arith)

-- among a slot's votes those for a value chosen by them are those for a value that is chosen
same_place : (history votes : List KeptRecord) (rounds : List (OfRound Shape)) (s : ℕ) (place : Option ℕ) → AreRounds history rounds
    → votes ≡ votes_of s history
    → place ≡ position (λ (k : KeptRecord). selects rounds votes s k.what) votes
    → place ≡ position (λ (k : KeptRecord). chooses history s k.what) (votes_of s history)
same_place history votes rounds s place are have e =
    let here : place ≡ position (λ (k : KeptRecord). selects rounds (votes_of s history) s k.what) (votes_of s history) = rw have at e in
    here ∙ (λ i. position (λ (k : KeptRecord). same_selects history rounds s k.what are i) (votes_of s history))

-- no vote in a slot is for a value chosen there
pub none_chosen : (history votes : List KeptRecord) (rounds : List (OfRound Shape)) (s : ℕ) → AreRounds history rounds
    → votes ≡ votes_of s history → None ≡ position (λ (k : KeptRecord). selects rounds votes s k.what) votes → chosen_at history s ≡ None
none_chosen history votes rounds s are have e =
    let none = same_place history votes rounds s None are have e in
    sym (chosen_by_votes history s)
    ∙ none_found history s (votes_of s history) (no_place (λ (k : KeptRecord). chooses history s k.what) (votes_of s history) (sym none))

-- the record with the first such vote
pub one_chosen : (history votes : List KeptRecord) (rounds : List (OfRound Shape)) (numbers : List ℕ) (s n number : ℕ)
    → AreRounds history rounds → votes ≡ votes_of s history → map (slice_get history) numbers ≡ map (λ (vote : KeptRecord). Some vote) votes
    → Some n ≡ position (λ (k : KeptRecord). selects rounds votes s k.what) votes → number ≡ get_or numbers n number
    → IsChosenVote history s (Some number)
one_chosen history votes rounds numbers s n number are have stand e is_number =
    let some = same_place history votes rounds s (Some n) are have e in
    let place = a_place (λ (k : KeptRecord). chooses history s k.what) (votes_of s history) n (sym some) in
    let is : place_in history s (votes_of s history) ≡ n = place.0 in
    let first = found history s (votes_of s history) (rw is place.1) in
    let here : n < length numbers = rw (same_count history votes numbers stand, have) place.1 in
    let same : slice_get (votes_of s history) n ≡ slice_get history number =
    ap (λ l. slice_get l n) (sym have) ∙ at_number history votes numbers n number stand here ∙ ap (slice_get history) (sym is_number) in
    rw (← same) (sym (chosen_by_votes history s) ∙ (rw is at first.0), rw is at first.1)
