-- Votes that are listed with their rounds.
use Rattle.std.proofs.lemmas.List.Sorted.{All-permutation, IsPermutation-map, list_any-IsPermutation}
use Rattle.std.specs.List.Sorted.{IsPermutation}
use Rattle.cx_base.proofs.Common.{◌∙◌, Bor, append_assoc, inl, inr, ap, sym, arith, cases_Bool, nat_tests, drop_more, map-append, All-head}
use Rattle.cx_base.proofs.Common.{All-push, All-tail}
use Rattle.cx_model.specs.Prelude.{◌≡◌, ◌<◌, ◌+◌, ◌++◌, ◌&&◌, ◌∷◌, [], ℕ, Bool, true, false, List, drop, get_or, length, nat_lt, refl, All}
use Rattle.cx_model.specs.Prelude.{list_all, list_any, Shape, below, role, same_role, same_round, Value, Acceptor, Round, column_of}
use Rattle.cx_model.specs.Prelude.{has_vote, is_chosen_in, is_vote, KeptRecord, Written}
use Rattle.cx_letter.specs.declared.kept.Record.TheVariants as kept
use Rattle.cx_letter.specs.declared.input.Written.TheVariants as written
use Rattle.cx_choice.specs.Enough.{is_chosen_among, is_enough}
use Rattle.cx_choice.specs.OfRound.{IsByRound, of_round}
use Rattle.cx_choice.specs.Sorted.{AreCast, IsCast, casts_in, written_round}
use Rattle.cx_choice.specs.declared.of_round.OfRound.{OfRound}

-- one vote more is listed with its round
pub next_cast : (casts new : List (OfRound (Bor KeptRecord))) (one : OfRound (Bor KeptRecord)) (votes : List KeptRecord) (i : ℕ)
    → i < length votes
    → one.item.now ≡ get_or votes i one.item.now → new ≡ casts ++ one ∷ [] → casts_in casts ++ drop i votes ≡ votes
    → casts_in new ++ drop (i + 1) votes ≡ votes
next_cast casts new one votes i there is more so_far =
    let rest = drop (i + 1) votes in
    let next : drop i votes ≡ one.item.now ∷ rest = drop_more votes i one.item.now there ∙ ap (λ (k : KeptRecord). k ∷ rest) (sym is) in
    let added : casts_in new ≡ casts_in casts ++ one.item.now ∷ [] =
    ap casts_in more ∙ map-append (λ (c : OfRound (Bor KeptRecord)). c.item.now) casts (one ∷ []) in
    ap (λ (l : List KeptRecord). l ++ rest) added ∙ append_assoc (casts_in casts) (one.item.now ∷ []) rest
    ∙ ap (λ (l : List KeptRecord). casts_in casts ++ l) (sym next) ∙ so_far

pub all_cast : (casts new : List (OfRound (Bor KeptRecord))) (one : OfRound (Bor KeptRecord)) → new ≡ casts ++ one ∷ []
    → one.round ≡ written_round one.item.now.what → All IsCast casts → All IsCast new
all_cast casts new one more own cast = rw more (All-push IsCast casts one cast own)

-- where each acceptor has the same vote, the same is chosen in a round
pub same_in : (some other : List KeptRecord) (j : Round) (g : Shape) (s : ℕ) (v : Value)
    → ((a : ℕ) → has_vote some a j s v ≡ has_vote other a j s v) → is_chosen_in some j g s v ≡ is_chosen_in other j g s v
same_in some other j g s v same = λ i. nat_lt 0 g.rows && list_any (λ b. list_all (λ a. same a i) (column_of g b)) (below g.cols)

differs : (i j k : Round) → same_round i k ≡ true → same_round j k ≡ false → same_round j i ≡ false
differs i j k h l = grind (arith, nat_tests)

-- a record of another round is no vote of this one
of_another : (i j : Round) (s : ℕ) (v : Value) (what : Written) → same_round i j ≡ true → same_round (written_round what) j ≡ false
    → is_vote i s v what ≡ false
of_another i j s v (written.Record (kept.Promise k)) same other = refl
of_another i j s v (written.Record (kept.Vote k t cw u)) same other =
    let none : same_round k i ≡ false = differs i k j same other in rw none refl
of_another i j s v (written.Record (kept.Water k mark)) same other = refl
of_another i j s v (written.Record (kept.Match k g)) same other = refl
of_another i j s v (written.Record (kept.Garbage k g)) same other = refl
of_another i j s v (written.Record (kept.Round k g)) same other = refl
of_another i j s v (written.Record (kept.Log values)) same other = refl
of_another i j s v (written.Record (kept.Base first held pairs clients)) same other = refl
of_another i j s v (written.Record (kept.Pairs pairs)) same other = refl
of_another i j s v (written.Record (kept.Notes client floor notes)) same other = refl
of_another i j s v (written.Record (kept.Tail values)) same other = refl
of_another i j s v (written.Record (kept.Ballot ballot)) same other = refl
of_another i j s v (written.Record (kept.Stop ballot)) same other = refl
of_another i j s v (written.Record (kept.Next ballot next)) same other = refl
of_another i j s v (written.Record (kept.Boot set watermark entries)) same other = refl
of_another i j s v (written.Record (kept.Turn turn)) same other = refl
of_another i j s v (written.Record (kept.Voted p top cw vs)) same other = refl
of_another i j s v (written.Record (kept.Known ids)) same other = refl
of_another i j s v (written.Snap first) same other = refl

and_none : (a b : Bool) → b ≡ false → (a && b) ≡ false
and_none true b e = e
and_none false b e = refl

-- whether an acceptor has a vote of a round is known from those of the round
of_this : (i j : Round) (casts : List (OfRound (Bor KeptRecord))) (a s : ℕ) (v : Value) → same_round i j ≡ true → All IsCast casts
    → has_vote (casts_in (of_round j casts)) a i s v ≡ has_vote (casts_in casts) a i s v
of_this i j [] a s v same cast = refl
of_this i j (c ∷ cs) a s v same cast =
    let rest = of_this i j cs a s v same (All-tail IsCast c cs cast) in
    elim (cases_Bool (same_round c.round j)) [
      | inl taken ↦ rw (taken, rest) refl
      | inr left ↦
          let own : c.round ≡ written_round c.item.now.what = All-head IsCast c cs cast in
          let other : same_round (written_round c.item.now.what) j ≡ false = ap (λ k. same_round k j) (sym own) ∙ left in
          rw (
            left,
            and_none (same_role c.item.now.role (role Acceptor a)) (is_vote i s v c.item.now.what)
                (of_another i j s v c.item.now.what same other),
          ) rest
    ]

-- so is whether they are enough for a value
pub enough_here : (rounds : List (OfRound Shape)) (casts : List (OfRound (Bor KeptRecord))) (s : ℕ) (j : Round) (v : Value)
    → All IsCast casts → is_chosen_among (of_round j rounds) (casts_in (of_round j casts)) s v ≡ is_enough rounds (casts_in casts) s j v
enough_here [] casts s j v cast = refl
enough_here (b ∷ rounds) casts s j v cast =
    let rest = enough_here rounds casts s j v cast in
    elim (cases_Bool (same_round b.round j)) [
      | inl taken ↦ rw (
        taken,
        same_in (casts_in (of_round j casts)) (casts_in casts) b.round b.item s v (λ a. of_this b.round j casts a s v taken cast),
        rest,
      ) refl
      | inr left ↦ rw left rest
    ]

-- sorted, they are the same votes
pub cast_sorted : (votes : List KeptRecord) (casts sorted : List (OfRound (Bor KeptRecord))) → casts_in casts ≡ votes → All IsCast casts
    → IsPermutation casts sorted → IsByRound sorted → AreCast votes sorted
cast_sorted votes casts sorted are cast moved rises =
    record {
      all = rw (← are) (IsPermutation-map (λ (one : OfRound (Bor KeptRecord)). one.item.now) casts sorted moved);
      sorted = rises;
      cast = All-permutation IsCast casts sorted moved cast;
    }

-- and what is chosen by them is the same
pub same_among : (rounds : List (OfRound Shape)) (votes : List KeptRecord) (casts : List (OfRound (Bor KeptRecord))) (s : ℕ) (v : Value)
    → AreCast votes casts → is_chosen_among rounds (casts_in casts) s v ≡ is_chosen_among rounds votes s v
same_among [] votes casts s v are = refl
same_among (b ∷ rounds) votes casts s v are =
    let here = same_in (casts_in casts) votes b.round b.item s v
    (λ a. sym (list_any-IsPermutation (λ (k : KeptRecord). same_role k.role (role Acceptor a) && is_vote b.round s v k.what) votes
    (casts_in casts) are.all)) in
    rw (here, same_among rounds votes casts s v are) refl
