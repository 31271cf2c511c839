-- Votes by rising slot.
use Rattle.std.proofs.lemmas.List.Recursion.{is_position_or_len}
use Rattle.std.proofs.lemmas.List.Sums.{prefix_len-le-length}
use Rattle.cx_base.proofs.Common.{◌≡◌, ◌≤◌, ◌<◌, ℕ, suc, ◌+◌, ◌==◌, Bool, true, false, not, nat_le, nat_lt, position, if◌then◌else◌, List}
use Rattle.cx_base.proofs.Common.{[], ◌∷◌, length, Option, refl, list_all, get_or, set, sym, ◌∙◌, arith, nat_tests, insert, position_or_len}
use Rattle.cx_base.proofs.Common.{unwrap_or}
use Rattle.cx_role.specs.Prelude.{Vote, slots_rise, vote_in_range}
use Rattle.cx_field.specs.Fields.{votes}
use Rattle.cx_field.proofs.ListLaws.{votes_fit}
use Rattle.cx_model.specs.Acceptor.{with_vote}

abbrev pub all_in : ℕ → List Vote → Bool
all_in cw vs = list_all (λ (v : Vote). vote_in_range cw v) vs

-- what is so of a vote and of all votes is so of the votes with that one
pub all_with : (p : Vote → Bool) (v : Vote) (vs : List Vote) → p v ≡ true → list_all p vs ≡ true
    → list_all p (with_vote v vs) ≡ true
all_with p v [] own all = rw own refl
all_with p v (u ∷ us) own all = grind (arith, nat_tests, all_with p v us)

abbrev above : ℕ → List Vote → Bool
above s vs = list_all (λ (w : Vote). nat_lt s w.slot) vs

above_trans : (a b : ℕ) (vs : List Vote) → nat_lt a b ≡ true → above b vs ≡ true → above a vs ≡ true
above_trans a b [] less all = refl
above_trans a b (v ∷ vs) less all = grind (arith, nat_tests, above_trans a b vs less)

all_above : (s : ℕ) (v : Vote) (vs : List Vote) → nat_lt s v.slot ≡ true → above s vs ≡ true → above s (with_vote v vs) ≡ true
all_above s v vs = all_with (λ (w : Vote). nat_lt s w.slot) v vs

-- a vote in the place of its slot leaves the slots rising
pub rising_with : (v : Vote) (vs : List Vote) → slots_rise vs ≡ true → slots_rise (with_vote v vs) ≡ true
rising_with v [] h = refl
rising_with v (u ∷ us) h =
    grind (arith, nat_tests, rising_with v us, above_trans v.slot u.slot us, all_above u.slot v us)

-- rising slots behind one, in a window, are fewer than those that are left
rising_count : (cw s : ℕ) (vs : List Vote) → s < cw + 32 → all_in cw vs ≡ true → above s vs ≡ true
    → slots_rise vs ≡ true → s + length vs < cw + 32
rising_count cw s [] within all later rise = omega arith
rising_count cw s (v ∷ vs) within all later rise = grind (arith, nat_tests, rising_count cw v.slot vs)

few_votes : (cw : ℕ) (vs : List Vote) → all_in cw vs ≡ true → slots_rise vs ≡ true → length vs ≤ 32
few_votes cw [] all rise = omega arith
few_votes cw (v ∷ vs) all rise = grind (arith, nat_tests, rising_count cw v.slot vs)

-- votes of one window are at most 32, so they have a spelling
pub votes_told : (cw : ℕ) (vs : List Vote) → all_in cw vs ≡ true → slots_rise vs ≡ true
    → (length vs ≤ 32) × ((votes cw).fits vs ≡ true)
votes_told cw vs all rise = let few = few_votes cw vs all rise in (few, votes_fit cw vs few all rise)

-- the place of the first vote at a slot or above it, or the end
abbrev pub first_from : ℕ → List Vote → ℕ
first_from s [] = 0
first_from s (v ∷ vs) = if nat_le s v.slot then 0 else suc (first_from s vs)

first_or_end : (p : Vote → Bool) (vs : List Vote) → unwrap_or (position p vs) (length vs) ≡ position_or_len p vs
first_or_end p vs =
    let within = prefix_len-le-length (λ (v : Vote). not (p v)) vs in
    grind (arith, nat_tests)

pub is_first_from : (s : ℕ) (vs seen : List Vote) (found : Option ℕ) (end n : ℕ) → seen ≡ vs
    → found ≡ position (λ (v : Vote). nat_le s v.slot) seen → n ≡ unwrap_or found end → end ≡ length vs
    → n ≡ first_from s vs
is_first_from s vs seen found end n same is at all =
    let p = λ (v : Vote). nat_le s v.slot in
    rw (is, same, all) at at ∙ first_or_end p vs ∙ sym (is_position_or_len (first_from s) p refl
    (λ v vs. let more : suc (first_from s vs) ≡ 1 + first_from s vs = omega arith in rw more refl) vs)

pub first_within : (s : ℕ) (vs : List Vote) → first_from s vs ≤ length vs
first_within s [] = omega arith
first_within s (v ∷ vs) = grind (arith, nat_tests, first_within s vs)

-- where a vote of its slot is, a vote takes its place
pub with_set : (v : Vote) (vs : List Vote) (d : Vote) → first_from v.slot vs < length vs
    → ((get_or vs (first_from v.slot vs) d).slot == v.slot) ≡ true → with_vote v vs ≡ set vs (first_from v.slot vs) v
with_set v [] d within same = absurd (omega arith)
with_set v (u ∷ us) d within same = grind (arith, nat_tests, with_set v us d)

-- where none of its slot is, a vote goes before the greater ones
pub with_insert : (v : Vote) (vs : List Vote) (d : Vote)
    → (first_from v.slot vs < length vs → ((get_or vs (first_from v.slot vs) d).slot == v.slot) ≡ false)
    → with_vote v vs ≡ insert vs (first_from v.slot vs) v
with_insert v [] d other = refl
with_insert v (u ∷ us) d other = grind (arith, nat_tests, with_insert v us d)
