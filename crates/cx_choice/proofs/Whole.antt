-- A value is chosen in a slot exactly where a vote for it is whole.
use Rattle.cx_base.proofs.Common.{inl, inr, sym, ◌∙◌, arith, cases_Bool, nat_tests}
use Rattle.cx_model.specs.Prelude.{◌≡◌, ◌&&◌, ◌||◌, ◌==◌, ◌∷◌, [], ℕ, zero, suc, Bool, true, false, List, filter, map, nat_lt, refl}
use Rattle.cx_model.specs.Prelude.{list_all, list_any, Shape, below, role, same_role, same_round, same_value, Value, Acceptor, Round}
use Rattle.cx_model.specs.Prelude.{column_of, member_at, has_vote, is_chosen_in, is_vote, KeptRecord, Written}
use Rattle.cx_letter.specs.declared.kept.Record.TheVariants as kept
use Rattle.cx_letter.specs.declared.input.Written.TheVariants as written
use Rattle.cx_choice.specs.Enough.{ChosenByWholeVotes, is_chosen_among, is_enough, is_whole_vote}
use Rattle.cx_choice.specs.OfRound.{of_round}
use Rattle.cx_choice.specs.declared.of_round.OfRound.{OfRound}

or_true : (b : Bool) → (b || true) ≡ true
or_true true = refl
or_true false = refl

both : (a b : Bool) → (a && b) ≡ true → (a ≡ true) × (b ≡ true)
both true b e = (refl, e)
both false b e = cc

-- an element that passes, and by it any test that it passes is passed by some element
any_one : {A : Type 0} (p : A → Bool) (xs : List A) → list_any p xs ≡ true
    → (x : A) × ((q : A → Bool) → q x ≡ true → list_any q xs ≡ true) × (p x ≡ true)
any_one p [] e = cc
any_one p (x ∷ xs) e =
    elim (cases_Bool (p x)) [
      | inl taken ↦ (x, λ q h. rw h refl, taken)
      | inr left ↦
          let rest = any_one p xs (let more : list_any p xs ≡ true = rw left at e in more) in
          (rest.0, λ q h. rw (rest.1 q h) (or_true (q x)), rest.2)
    ]

-- two tests that follow from each other are equal
same_tests : (a b : Bool) → (a ≡ true → b ≡ true) → (b ≡ true → a ≡ true) → a ≡ b
same_tests true b f g = sym (f refl)
same_tests false true f g = g refl
same_tests false false f g = refl

same_round_sym : (i j : Round) → same_round i j ≡ true → same_round j i ≡ true
same_round_sym i j e = grind (arith, nat_tests)

any_filter : {A : Type 0} (p r : A → Bool) (xs : List A) → list_any p (filter r xs) ≡ list_any (λ x. r x && p x) xs
any_filter p r [] = refl
any_filter p r (x ∷ xs) =
    elim (cases_Bool (r x)) [
      | inl taken ↦ rw (taken, any_filter p r xs) refl
      | inr left ↦ rw left (any_filter p r xs)
    ]

-- the first member of a column that has rows
first_all : (p : ℕ → Bool) (g : Shape) (b : ℕ) (rows : ℕ) → rows ≡ g.rows → nat_lt 0 rows ≡ true
    → list_all p (map (λ a. member_at g a b) (below rows)) ≡ true → p (member_at g 0 b) ≡ true
first_all p g b zero is more e = cc
first_all p g b (suc rows) is more e = (both _ _ e).0

-- a vote that is listed for one of an acceptor is a vote of its round
vote_parts : (rounds : List (OfRound Shape)) (votes : List KeptRecord) (i : Round) (s : ℕ) (v : Value) (what : Written) → is_vote i s v what
    ≡ true → ((j : Round) → same_round i j ≡ true → is_enough rounds votes s j v ≡ true) → is_whole_vote rounds votes s v what ≡ true
vote_parts rounds votes i s v (written.Record (kept.Promise j)) e enough = cc
vote_parts rounds votes i s v (written.Record (kept.Vote j t cw u)) e enough =
    let parts = both (same_round j i && (t == s)) (same_value u v) e in
    let first = both (same_round j i) (t == s) parts.0 in
    rw (first.1, parts.1) (enough j (same_round_sym j i first.0))
vote_parts rounds votes i s v (written.Record (kept.Water j mark)) e enough = cc
vote_parts rounds votes i s v (written.Record (kept.Match j g)) e enough = cc
vote_parts rounds votes i s v (written.Record (kept.Garbage j g)) e enough = cc
vote_parts rounds votes i s v (written.Record (kept.Round j g)) e enough = cc
vote_parts rounds votes i s v (written.Record (kept.Log values)) e enough = cc
vote_parts rounds votes i s v (written.Record (kept.Base first held pairs clients)) e enough = cc
vote_parts rounds votes i s v (written.Record (kept.Pairs pairs)) e enough = cc
vote_parts rounds votes i s v (written.Record (kept.Notes client floor notes)) e enough = cc
vote_parts rounds votes i s v (written.Record (kept.Tail values)) e enough = cc
vote_parts rounds votes i s v (written.Record (kept.Ballot ballot)) e enough = cc
vote_parts rounds votes i s v (written.Record (kept.Stop ballot)) e enough = cc
vote_parts rounds votes i s v (written.Record (kept.Next ballot next)) e enough = cc
vote_parts rounds votes i s v (written.Record (kept.Boot set watermark entries)) e enough = cc
vote_parts rounds votes i s v (written.Record (kept.Turn turn)) e enough = cc
vote_parts rounds votes i s v (written.Record (kept.Voted p top cw vs)) e enough = cc
vote_parts rounds votes i s v (written.Record (kept.Known ids)) e enough = cc
vote_parts rounds votes i s v (written.Snap first) e enough = cc

-- a column that voted has a member that did
a_vote : (rounds : List (OfRound Shape)) (votes : List KeptRecord) (i : Round) (g : Shape) (s : ℕ) (v : Value)
    → is_chosen_in votes i g s v ≡ true
    → ((j : Round) → same_round i j ≡ true → is_enough rounds votes s j v ≡ true)
    → list_any (λ (k : KeptRecord). is_whole_vote rounds votes s v k.what) votes ≡ true
a_vote rounds votes i g s v e enough =
    let parts = both (nat_lt 0 g.rows) (list_any (λ b. list_all (λ a. has_vote votes a i s v) (column_of g b)) (below g.cols)) e in
    let column = any_one (λ b. list_all (λ a. has_vote votes a i s v) (column_of g b)) (below g.cols) parts.1 in
    let member = first_all (λ a. has_vote votes a i s v) g column.0 g.rows refl parts.0 column.2 in
    let vote =
    any_one (λ (k : KeptRecord). same_role k.role (role Acceptor (member_at g 0 column.0)) && is_vote i s v k.what) votes member in
    let is = both (same_role vote.0.role (role Acceptor (member_at g 0 column.0))) (is_vote i s v vote.0.what) vote.2 in
    vote.1 (λ (k : KeptRecord). is_whole_vote rounds votes s v k.what) (vote_parts rounds votes i s v vote.0.what is.1 enough)

-- a round that has enough votes is one of the rounds
whole_parts : (rounds : List (OfRound Shape)) (votes : List KeptRecord) (s : ℕ) (v : Value) (what : Written)
    → is_whole_vote rounds votes s v what ≡ true → is_chosen_among rounds votes s v ≡ true
whole_parts rounds votes s v (written.Record (kept.Promise i)) e = cc
whole_parts rounds votes s v (written.Record (kept.Vote j t cw u)) e =
    let test = λ (b : OfRound Shape). is_chosen_in votes b.round b.item s v in
    let enough : list_any test (of_round j rounds) ≡ true = (both ((t == s) && same_value u v) (is_enough rounds votes s j v) e).1 in
    let round = any_one (λ (b : OfRound Shape). same_round b.round j && test b) rounds
    (sym (any_filter test (λ (b : OfRound Shape). same_round b.round j) rounds) ∙ enough) in
    round.1 test (both (same_round round.0.round j) (test round.0) round.2).1
whole_parts rounds votes s v (written.Record (kept.Water i mark)) e = cc
whole_parts rounds votes s v (written.Record (kept.Match i g)) e = cc
whole_parts rounds votes s v (written.Record (kept.Garbage i g)) e = cc
whole_parts rounds votes s v (written.Record (kept.Round i g)) e = cc
whole_parts rounds votes s v (written.Record (kept.Log values)) e = cc
whole_parts rounds votes s v (written.Record (kept.Base first held pairs clients)) e = cc
whole_parts rounds votes s v (written.Record (kept.Pairs pairs)) e = cc
whole_parts rounds votes s v (written.Record (kept.Notes client floor notes)) e = cc
whole_parts rounds votes s v (written.Record (kept.Tail values)) e = cc
whole_parts rounds votes s v (written.Record (kept.Ballot ballot)) e = cc
whole_parts rounds votes s v (written.Record (kept.Stop ballot)) e = cc
whole_parts rounds votes s v (written.Record (kept.Next ballot next)) e = cc
whole_parts rounds votes s v (written.Record (kept.Boot set watermark entries)) e = cc
whole_parts rounds votes s v (written.Record (kept.Turn turn)) e = cc
whole_parts rounds votes s v (written.Record (kept.Voted p top cw vs)) e = cc
whole_parts rounds votes s v (written.Record (kept.Known ids)) e = cc
whole_parts rounds votes s v (written.Snap first) e = cc

pub chosen_by_whole : ChosenByWholeVotes
chosen_by_whole rounds votes s v =
    same_tests (is_chosen_among rounds votes s v) (list_any (λ (k : KeptRecord). is_whole_vote rounds votes s v k.what) votes)
    (λ e.
    let test = λ (b : OfRound Shape). is_chosen_in votes b.round b.item s v in
    let one = any_one test rounds e in
    a_vote rounds votes one.0.round one.0.item s v one.2 (λ j same. any_filter test (λ (b : OfRound Shape). same_round b.round j) rounds
    ∙ one.1 (λ (b : OfRound Shape). same_round b.round j && test b) (rw (same, one.2) refl))) (λ e.
    let one = any_one (λ (k : KeptRecord). is_whole_vote rounds votes s v k.what) votes e in
    whole_parts rounds votes s v one.0.what one.2)
