-- Two disks that were prepared, with the records that were read of the live one, are a pair.
use Rattle.cx_journal.proofs.Common.{◌≡◌, ◌<◌, ℕ, zero, suc, ◌+◌, ◌==◌, Bool, true, false, List, [], ◌∷◌, Option, Some, None, Ok, Err}
use Rattle.cx_journal.proofs.Common.{Result, refl, sym, ◌∙◌, ap, subst, arith, ◌%◌, nat_lt, if◌then◌else◌, nat_tests, generation}
use Rattle.cx_journal.proofs.Common.{second_is_live, IsBehind, StandsAfter, front_of, IsTwin, IsBlank}
use Rattle.cx_journal.specs.Pair.{begins_with}

-- of three generations in turn
other_turn : (g h : ℕ) → g < 3 → h < 3 → (g == h) ≡ false → (h == (g + 1) % 3) ≡ false → g ≡ (h + 1) % 3
other_turn zero zero small low e f = absurd cc
other_turn zero (suc zero) small low e f = absurd cc
other_turn zero (suc (suc zero)) small low e f = refl
other_turn (suc zero) zero small low e f = refl
other_turn (suc zero) (suc zero) small low e f = absurd cc
other_turn (suc zero) (suc (suc zero)) small low e f = absurd cc
other_turn (suc (suc zero)) zero small low e f = absurd cc
other_turn (suc (suc zero)) (suc zero) small low e f = refl
other_turn (suc (suc zero)) (suc (suc zero)) small low e f = absurd cc
other_turn (suc (suc (suc g))) h small low e f = absurd (omega (arith, small))
other_turn g (suc (suc (suc h))) small low e f = absurd (omega (arith, low))

below : (g : ℕ) → nat_lt g 3 ≡ true → g < 3
below g h = grind (arith, nat_tests)

same : (h n : ℕ) → (h == n) ≡ true → h ≡ n
same h n e = grind (arith, nat_tests)

-- what is known of a live first disk, and of a live second one
pub record IsAhead (live other : Option ℕ) : Type 0 where
  pub sound : (g : ℕ) → live ≡ Some g → g < 3
  pub behind : IsBehind live other

Says : Bool → Option ℕ → Option ℕ → Type 0
Says false one other = IsAhead one other
Says true one other = IsAhead other one × ((g : ℕ) × (other ≡ Some g))

if_so : {A : Type 0} (b : Bool) (x y r : Result Bool ℕ) → (if b then x else y) ≡ r → (b ≡ true → x ≡ r → A) → (b ≡ false → y ≡ r → A) → A
if_so true x y r is t f = t refl is
if_so false x y r is t f = f refl is

one_only : (g h : ℕ) → Some g ≡ Some h → g ≡ h
one_only g h e = cc

pub chosen_first : (one other : Option ℕ) → second_is_live one other ≡ Ok false → IsAhead one other
chosen_first None None is = record { sound = λ g e. absurd cc; behind = tt }
chosen_first (Some g) None is =
    if_so (nat_lt g 3) (Ok false) (Err g) (Ok false) is
    (λ t e. record { sound = λ h q. subst (λ n. n < 3) (one_only g h q) (below g t); behind = tt }) (λ f e. absurd cc)
chosen_first None (Some h) is = if_so (nat_lt h 3) (Ok true) (Err h) (Ok false) is (λ t e. absurd cc) (λ f e. absurd cc)
chosen_first (Some g) (Some h) is =
    if_so (nat_lt g 3) _ (Err g) (Ok false) is
    (λ gt e. if_so (nat_lt h 3) _ (Err h) (Ok false) e
    (λ ht k. if_so (g == h) (Err h) _ (Ok false) k
    (λ t q. absurd cc)
    (λ f q. let turn : (h == (g + 1) % 3) ≡ false = cc in let is_turn = other_turn g h (below g gt) (below h ht) f turn in
    record { sound = λ n p. subst (λ m. m < 3) (one_only g n p) (below g gt); behind = (below h ht, ap (λ (n : ℕ). Some n) is_turn) }))
    (λ f k. absurd cc))
    (λ f e. absurd cc)

pub chosen_second : (one other : Option ℕ) → second_is_live one other ≡ Ok true → IsAhead other one × ((g : ℕ) × (other ≡ Some g))
chosen_second None None is = absurd cc
chosen_second (Some g) None is = if_so (nat_lt g 3) (Ok false) (Err g) (Ok true) is (λ t e. absurd cc) (λ f e. absurd cc)
chosen_second None (Some h) is =
    if_so (nat_lt h 3) (Ok true) (Err h) (Ok true) is
    (λ t e. (record { sound = λ n q. subst (λ m. m < 3) (one_only h n q) (below h t); behind = tt }, (h, refl))) (λ f e. absurd cc)
chosen_second (Some g) (Some h) is =
    if_so (nat_lt g 3) _ (Err g) (Ok true) is
    (λ gt e. if_so (nat_lt h 3) _ (Err h) (Ok true) e
    (λ ht k. if_so (g == h) (Err h) _ (Ok true) k
    (λ t q. absurd cc)
    (λ f q. let turn : (h == (g + 1) % 3) ≡ true = cc in (
      record {
        sound = λ n p. subst (λ m. m < 3) (one_only h n p) (below h ht);
        behind = (below g gt, ap (λ (n : ℕ). Some n) (same h ((g + 1) % 3) turn));
      },
      (h, refl),
    ))) (λ f k. absurd cc)) (λ f e. absurd cc)

-- a plain file that is not blank doesn't begin as a generation does
pub plain_begins : (file : List ℕ) → generation file ≡ None → (IsBlank file → ⊥) → begins_with file 4 → ⊥
plain_begins [] none full begins = begins
plain_begins (a ∷ []) none full begins = full (record { few = omega arith; shut = λ two. absurd (omega (arith, two)) })
plain_begins (a ∷ b ∷ []) none full begins = full (record { few = omega arith; shut = λ two one. absurd (omega (arith, begins, one)) })
plain_begins (a ∷ b ∷ c ∷ rest) none full begins =
    let four : (a == 4) ≡ true = rw begins refl in
    let has : generation (a ∷ b ∷ c ∷ rest) ≡ Some b = rw four refl in
    let no_way : Some b ≡ None = sym has ∙ none in absurd cc

module _ (payloads : List (List ℕ)) (live other : List ℕ) (stands : StandsAfter (front_of (generation live)) payloads live) where
  pub pair_second : second_is_live (generation other) (generation live) ≡ Ok true → IsTwin true payloads live other
  pair_second choice =
      let known = chosen_second (generation other) (generation live) choice in
      record {
        sound = known.0.sound;
        behind = known.0.behind;
        plain_is_first = λ none. let no_way : Some known.1.0 ≡ None = sym known.1.1 ∙ none in absurd cc;
        plain_begins = λ none. let no_way : Some known.1.0 ≡ None = sym known.1.1 ∙ none in absurd cc;
        stands = stands;
      }

  pub pair_first : second_is_live (generation live) (generation other) ≡ Ok false → (generation live ≡ None → begins_with live 4 → ⊥)
      → IsTwin false payloads live other
  pair_first choice begins =
      let known = chosen_first (generation live) (generation other) choice in
      record { sound = known.sound; behind = known.behind; plain_is_first = λ _. refl; plain_begins = begins; stands = stands }
