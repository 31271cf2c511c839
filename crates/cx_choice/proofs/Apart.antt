-- What is chosen in a slot is chosen by the rounds and by the slot's votes alone.
use Rattle.std.proofs.lemmas.List.Folds.{list_any-append}
use Rattle.std.proofs.lemmas.List.Sorted.{list_any-IsPermutation}
use Rattle.cx_base.proofs.Common.{◌∙◌, ap, inl, inr, sym, cases_Bool}
use Rattle.cx_model.specs.Prelude.{◌≡◌, ◌&&◌, ◌||◌, ◌∷◌, ◌==◌, [], ℕ, Bool, true, false, List, Option, filter, refl, list_any, Shape, Value}
use Rattle.cx_model.specs.Prelude.{Acceptor, Round, role, same_role, same_round, is_vote, has_vote, is_chosen_in, is_chosen, chosen_vote}
use Rattle.cx_model.specs.Prelude.{first_chosen, chosen_at, KeptRecord, Written}
use Rattle.cx_model.specs.Chosen.{is_chosen_by}
use Rattle.cx_letter.specs.declared.kept.Record.TheVariants as kept
use Rattle.cx_letter.specs.declared.input.Written.TheVariants as written
use Rattle.cx_choice.proofs.Casts.{same_in}
use Rattle.cx_choice.specs.Enough.{is_chosen_among, selects}
use Rattle.cx_choice.specs.Prefix.{chooses}
use Rattle.cx_choice.specs.Sorted.{AreRounds, begun_by, is_vote_in, rounds_of, votes_of}
use Rattle.cx_choice.specs.declared.of_round.OfRound.{OfRound}

-- what a filter leaves out passes no test: the test finds the same
kept_any : {A : Type 0} (p q : A → Bool) → ((x : A) → q x ≡ false → p x ≡ false) → (xs : List A) → list_any p (filter q xs) ≡ list_any p xs
kept_any p q none [] = refl
kept_any p q none (x ∷ xs) =
    elim (cases_Bool (q x)) [
      | inl taken ↦ rw (taken, kept_any p q none xs) refl
      | inr left ↦ rw (left, none x left) (kept_any p q none xs)
    ]

and_no : (b : Bool) → (b && false) ≡ false
and_no true = refl
and_no false = refl

or_no : (b : Bool) → (b || false) ≡ b
or_no true = refl
or_no false = refl

elsewhere_is_no_vote : (j : Round) (s : ℕ) (v : Value) (r : Written) → is_vote_in s r ≡ false → is_vote j s v r ≡ false
elsewhere_is_no_vote j s v (written.Record (kept.Promise i)) e = refl
elsewhere_is_no_vote j s v (written.Record (kept.Vote i t cw u)) e = rw (e, and_no (same_round i j)) refl
elsewhere_is_no_vote j s v (written.Record (kept.Water i mark)) e = refl
elsewhere_is_no_vote j s v (written.Record (kept.Match i g)) e = refl
elsewhere_is_no_vote j s v (written.Record (kept.Garbage i g)) e = refl
elsewhere_is_no_vote j s v (written.Record (kept.Round i g)) e = refl
elsewhere_is_no_vote j s v (written.Record (kept.Log values)) e = refl
elsewhere_is_no_vote j s v (written.Record (kept.Base first held pairs clients)) e = refl
elsewhere_is_no_vote j s v (written.Record (kept.Pairs pairs)) e = refl
elsewhere_is_no_vote j s v (written.Record (kept.Notes client floor notes)) e = refl
elsewhere_is_no_vote j s v (written.Record (kept.Tail values)) e = refl
elsewhere_is_no_vote j s v (written.Record (kept.Ballot ballot)) e = refl
elsewhere_is_no_vote j s v (written.Record (kept.Stop ballot)) e = refl
elsewhere_is_no_vote j s v (written.Record (kept.Next ballot next)) e = refl
elsewhere_is_no_vote j s v (written.Record (kept.Boot set watermark entries)) e = refl
elsewhere_is_no_vote j s v (written.Record (kept.Turn turn)) e = refl
elsewhere_is_no_vote j s v (written.Record (kept.Voted p top cw vs)) e = refl
elsewhere_is_no_vote j s v (written.Record (kept.Known ids)) e = refl
elsewhere_is_no_vote j s v (written.Snap first) e = refl

same_votes : (history : List KeptRecord) (a : ℕ) (j : Round) (s : ℕ) (v : Value)
    → has_vote (votes_of s history) a j s v ≡ has_vote history a j s v
same_votes history a j s v =
    kept_any (λ (k : KeptRecord). same_role k.role (role Acceptor a) && is_vote j s v k.what) (λ (k : KeptRecord). is_vote_in s k.what)
    (λ k e. rw (elsewhere_is_no_vote j s v k.what e) (and_no (same_role k.role (role Acceptor a)))) history

-- a record makes a value chosen where the round that it begins does
by_record : (history : List KeptRecord) (s : ℕ) (v : Value) (what : Written)
    → list_any (λ (b : OfRound Shape). is_chosen_in (votes_of s history) b.round b.item s v) (begun_by what) ≡ is_chosen_by history s v what
by_record history s v (written.Record (kept.Promise i)) = refl
by_record history s v (written.Record (kept.Vote i t cw u)) = refl
by_record history s v (written.Record (kept.Water i mark)) = refl
by_record history s v (written.Record (kept.Match i g)) = refl
by_record history s v (written.Record (kept.Garbage i g)) = refl
by_record history s v (written.Record (kept.Round i g)) =
    or_no (is_chosen_in (votes_of s history) i g s v) ∙ same_in (votes_of s history) history i g s v (λ a. same_votes history a i s v)
by_record history s v (written.Record (kept.Log values)) = refl
by_record history s v (written.Record (kept.Base first held pairs clients)) = refl
by_record history s v (written.Record (kept.Pairs pairs)) = refl
by_record history s v (written.Record (kept.Notes client floor notes)) = refl
by_record history s v (written.Record (kept.Tail values)) = refl
by_record history s v (written.Record (kept.Ballot ballot)) = refl
by_record history s v (written.Record (kept.Stop ballot)) = refl
by_record history s v (written.Record (kept.Next ballot next)) = refl
by_record history s v (written.Record (kept.Boot set watermark entries)) = refl
by_record history s v (written.Record (kept.Turn turn)) = refl
by_record history s v (written.Record (kept.Voted p top cw vs)) = refl
by_record history s v (written.Record (kept.Known ids)) = refl
by_record history s v (written.Snap first) = refl

by_records : (history ks : List KeptRecord) (s : ℕ) (v : Value)
    → is_chosen_among (rounds_of ks) (votes_of s history) s v ≡ list_any (λ (k : KeptRecord). is_chosen_by history s v k.what) ks
by_records history [] s v = refl
by_records history (k ∷ ks) s v =
    list_any-append (λ (b : OfRound Shape). is_chosen_in (votes_of s history) b.round b.item s v) (begun_by k.what) (rounds_of ks)
    ∙ rw (by_record history s v k.what, by_records history ks s v) refl

same_chosen : (history : List KeptRecord) (rounds : List (OfRound Shape)) (s : ℕ) (v : Value) → AreRounds history rounds
    → is_chosen_among rounds (votes_of s history) s v ≡ is_chosen history s v
same_chosen history rounds s v are =
    sym (list_any-IsPermutation (λ (b : OfRound Shape). is_chosen_in (votes_of s history) b.round b.item s v) (rounds_of history) rounds
    are.all) ∙ by_records history history s v

-- a vote is for a value chosen by them exactly where it is for one that is chosen
pub same_selects : (history : List KeptRecord) (rounds : List (OfRound Shape)) (s : ℕ) (what : Written) → AreRounds history rounds
    → selects rounds (votes_of s history) s what ≡ chooses history s what
same_selects history rounds s (written.Record (kept.Promise i)) are = refl
same_selects history rounds s (written.Record (kept.Vote i t cw u)) are = ap (λ b. (t == s) && b) (same_chosen history rounds s u are)
same_selects history rounds s (written.Record (kept.Water i mark)) are = refl
same_selects history rounds s (written.Record (kept.Match i g)) are = refl
same_selects history rounds s (written.Record (kept.Garbage i g)) are = refl
same_selects history rounds s (written.Record (kept.Round i g)) are = refl
same_selects history rounds s (written.Record (kept.Log values)) are = refl
same_selects history rounds s (written.Record (kept.Base first held pairs clients)) are = refl
same_selects history rounds s (written.Record (kept.Pairs pairs)) are = refl
same_selects history rounds s (written.Record (kept.Notes client floor notes)) are = refl
same_selects history rounds s (written.Record (kept.Tail values)) are = refl
same_selects history rounds s (written.Record (kept.Ballot ballot)) are = refl
same_selects history rounds s (written.Record (kept.Stop ballot)) are = refl
same_selects history rounds s (written.Record (kept.Next ballot next)) are = refl
same_selects history rounds s (written.Record (kept.Boot set watermark entries)) are = refl
same_selects history rounds s (written.Record (kept.Turn turn)) are = refl
same_selects history rounds s (written.Record (kept.Voted p top cw vs)) are = refl
same_selects history rounds s (written.Record (kept.Known ids)) are = refl
same_selects history rounds s (written.Snap first) are = refl

no_vote_elsewhere : (history : List KeptRecord) (s : ℕ) (r : Written) (later : Option Value) → is_vote_in s r ≡ false
    → chosen_vote history s r later ≡ later
no_vote_elsewhere history s (written.Record (kept.Promise i)) later e = refl
no_vote_elsewhere history s (written.Record (kept.Vote i t cw u)) later e = rw e refl
no_vote_elsewhere history s (written.Record (kept.Water i mark)) later e = refl
no_vote_elsewhere history s (written.Record (kept.Match i g)) later e = refl
no_vote_elsewhere history s (written.Record (kept.Garbage i g)) later e = refl
no_vote_elsewhere history s (written.Record (kept.Round i g)) later e = refl
no_vote_elsewhere history s (written.Record (kept.Log values)) later e = refl
no_vote_elsewhere history s (written.Record (kept.Base first held pairs clients)) later e = refl
no_vote_elsewhere history s (written.Record (kept.Pairs pairs)) later e = refl
no_vote_elsewhere history s (written.Record (kept.Notes client floor notes)) later e = refl
no_vote_elsewhere history s (written.Record (kept.Tail values)) later e = refl
no_vote_elsewhere history s (written.Record (kept.Ballot ballot)) later e = refl
no_vote_elsewhere history s (written.Record (kept.Stop ballot)) later e = refl
no_vote_elsewhere history s (written.Record (kept.Next ballot next)) later e = refl
no_vote_elsewhere history s (written.Record (kept.Boot set watermark entries)) later e = refl
no_vote_elsewhere history s (written.Record (kept.Turn turn)) later e = refl
no_vote_elsewhere history s (written.Record (kept.Voted p top cw vs)) later e = refl
no_vote_elsewhere history s (written.Record (kept.Known ids)) later e = refl
no_vote_elsewhere history s (written.Snap first) later e = refl

first_of_votes : (history : List KeptRecord) (s : ℕ) (ks : List KeptRecord)
    → first_chosen history s (votes_of s ks) ≡ first_chosen history s ks
first_of_votes history s [] = refl
first_of_votes history s (k ∷ ks) =
    elim (cases_Bool (is_vote_in s k.what)) [
      | inl taken ↦ rw (taken, first_of_votes history s ks) refl
      | inr left ↦ rw left (first_of_votes history s ks ∙ sym (no_vote_elsewhere history s k.what _ left))
    ]

-- the first of a slot's votes for a value chosen there says what is chosen there
pub chosen_by_votes : (history : List KeptRecord) (s : ℕ) → first_chosen history s (votes_of s history) ≡ chosen_at history s
chosen_by_votes history s = first_of_votes history s history
