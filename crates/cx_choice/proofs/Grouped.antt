-- In the order of their rounds, those of one round are together.
use Rattle.std.proofs.lemmas.List.Sorted.{sorted_far}
use Rattle.std.specs.Cmp.{IsStrictWeakOrder}
use Rattle.std.specs.List.{AllWithin}
use Rattle.cx_base.proofs.Common.{◌≡◌, ◌<◌, ◌≤◌, ◌+◌, ◌-◌, ◌∷◌, [], ℕ, zero, suc, Bool, true, false, List, drop, filter, get_or, length}
use Rattle.cx_base.proofs.Common.{not, take, nat_lt, ap, refl, sym, inl, inr, ◌∙◌, arith, cases_Bool, nat_tests, IsPartitionedBy, is_before}
use Rattle.cx_letter.specs.Prelude.{same_round, Round}
use Rattle.cx_choice.proofs.Order.{before_differs, behind_differs, chain, neither, one_way}
use Rattle.cx_choice.specs.OfRound.{IsBegin, IsByRound, IsEndOfRound, of_round}
use Rattle.cx_choice.specs.declared.of_round.OfRound.{OfRound}

weak : {T : Type 0} → IsStrictWeakOrder (λ (a b : OfRound T). is_before a.round b.round)
weak {T} = record { one_way = λ a b h. one_way a.round b.round h; chain = λ a b c h k. chain a.round b.round c.round h k }

-- what comes before one that is before a round is before it too
pub begin_parted : {T : Type 0} (round : Round) (list : List (OfRound T)) → IsByRound list
    → IsPartitionedBy (λ (one : OfRound T). is_before one.round round) list
begin_parted {T} round list rises i j d ij there less =
    let far : is_before (get_or list j d).round (get_or list i d).round ≡ false =
    sorted_far (λ (a b : OfRound T). is_before a.round b.round) weak list rises i j d ij there in
    elim (cases_Bool (is_before (get_or list i d).round round)) [
      | inl is_before_it ↦ is_before_it
      | inr none ↦ absurd (let wrong : true ≡ false = sym less ∙ chain (get_or list j d).round (get_or list i d).round round far none in cc)
    ]

not_true : (b : Bool) → not b ≡ true → b ≡ false
not_true true e = cc
not_true false e = refl

pub end_parted : {T : Type 0} (round : Round) (list : List (OfRound T)) → IsByRound list
    → IsPartitionedBy (λ (one : OfRound T). not (is_before round one.round)) list
end_parted {T} round list rises i j d ij there no_less =
    let far : is_before (get_or list j d).round (get_or list i d).round ≡ false =
    sorted_far (λ (a b : OfRound T). is_before a.round b.round) weak list rises i j d ij there in
    let none : is_before round (get_or list i d).round ≡ false =
    chain round (get_or list j d).round (get_or list i d).round (not_true (is_before round (get_or list j d).round) no_less) far in
    rw none refl

-- which elements pass a test: those from one place on, up to another
pub passing : {A : Type 0} (p : A → Bool) (xs : List A) (begin count : ℕ)
    → ((k : ℕ) (d : A) → k < begin → k < length xs → p (get_or xs k d) ≡ false)
    → ((k : ℕ) (d : A) → begin ≤ k → k < begin + count → k < length xs → p (get_or xs k d) ≡ true)
    → ((k : ℕ) (d : A) → begin + count ≤ k → k < length xs → p (get_or xs k d) ≡ false)
    → take count (drop begin xs) ≡ filter p xs
passing p [] zero zero before these behind = refl
passing p [] zero (suc count) before these behind = refl
passing p [] (suc begin) zero before these behind = refl
passing p [] (suc begin) (suc count) before these behind = refl
passing p (x ∷ xs) zero zero before these behind =
    let none : p x ≡ false = behind 0 x (omega arith) (omega arith) in
    rw none (passing p xs zero zero (λ k d h l. absurd (omega (arith, h))) (λ k d h l m. absurd (omega (arith, l)))
    (λ k d h l. behind (suc k) d (omega arith) (omega (arith, l))))
passing p (x ∷ xs) zero (suc count) before these behind =
    let one : p x ≡ true = these 0 x (omega arith) (omega arith) (omega arith) in
    rw one (ap (λ l. x ∷ l) (passing p xs zero count (λ k d h l. absurd (omega (arith, h))) (λ k d h l m. these (suc k) d (omega arith)
    (omega (arith, l)) (omega (arith, m))) (λ k d h l. behind (suc k) d (omega (arith, h)) (omega (arith, l)))))
passing p (x ∷ xs) (suc begin) count before these behind =
    let none : p x ≡ false = before 0 x (omega arith) (omega arith) in
    rw none (passing p xs begin count (λ k d h l. before (suc k) d (omega (arith, h)) (omega (arith, l))) (λ k d h l m. these (suc k) d
    (omega (arith, h)) (omega (arith, l)) (omega (arith, m))) (λ k d h l. behind (suc k) d (omega (arith, h)) (omega (arith, l))))

-- none is both of an earlier round and of a later one
pub begin_first : {T : Type 0} (round : Round) (list : List (OfRound T)) (begin end : ℕ) → IsBegin round list begin
    → IsEndOfRound round list end → begin ≤ end
begin_first round [] begin end b e = omega (arith, b.inside)
begin_first round (x ∷ list) begin end b e =
    elim (cases_Bool (nat_lt end begin)) [
      | inl less ↦
          let below : end < begin = grind (arith, nat_tests) in
          let one = b.before end x (omega arith) below in
          let other = e.behind end x (omega arith) (let inside = b.inside in omega (arith, below, inside)) in
          absurd (let wrong : true ≡ false = sym other ∙ one_way (get_or (x ∷ list) end x).round round one in cc)
      | inr more ↦ grind (arith, nat_tests)
    ]

pub grouped : {T : Type 0} (round : Round) (list : List (OfRound T)) (begin end : ℕ) → IsBegin round list begin
    → IsEndOfRound round list end → take (end - begin) (drop begin list) ≡ of_round round list
grouped {T} round list begin end b e =
    let first = begin_first round list begin end b e in
    passing (λ (one : OfRound T). same_round one.round round) list begin (end - begin)
    (λ k d h l. before_differs (get_or list k d).round round (b.before k d (omega arith) h))
    (λ k d h l m. neither (get_or list k d).round round (b.behind k d h m) (e.before k d (omega arith) (omega (arith, first, l))))
    (λ k d h l. behind_differs (get_or list k d).round round (e.behind k d (omega (arith, first, h)) l))

not_false : (b : Bool) → not b ≡ false → b ≡ true
not_false true e = refl
not_false false e = cc

pub is_end : {T : Type 0} (round : Round) (list : List (OfRound T)) (place : ℕ) → place ≤ length list
    → AllWithin (λ (one : OfRound T). not (is_before round one.round) ≡ true) list 0 place
    → AllWithin (λ (one : OfRound T). not (is_before round one.round) ≡ false) list place (length list) → IsEndOfRound round list place
is_end round list place inside before behind =
    record {
      inside = inside;
      before = λ k d low high. not_true (is_before round (get_or list k d).round) (before k d low high);
      behind = λ k d low high. not_false (is_before round (get_or list k d).round) (behind k d low high);
    }
