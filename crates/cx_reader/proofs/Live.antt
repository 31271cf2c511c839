-- What is so of the live entries, answer by answer.
use Rattle.cx_role.proofs.Common.{◌≡◌, ℕ, Bool, true, ◌&&◌, ◌||◌, List, [], ◌∷◌, filter, refl, list_any, ap, ◌∙◌, sym, arith}
use Rattle.cx_role.proofs.Common.{list_any-append, Round, is_in, Entry, MatchAnswer, entries_told, is_member_of, nat_tests, entries_since}
use Rattle.cx_reader.specs.Live.{is_live, some_live, some_live_with}

any-filter : {A : Type 0} (p q : A → Bool) (xs : List A) → list_any p (filter q xs) ≡ list_any (λ x. q x && p x) xs
any-filter p q [] = refl
any-filter p q (x ∷ xs) = grind (arith, nat_tests, any-filter p q xs)

-- some value is left by a test where one passes it
some-filter : {A : Type 0} (q : A → Bool) (xs : List A) → list_any (λ x. true) (filter q xs) ≡ list_any q xs
some-filter q [] = refl
some-filter q (x ∷ xs) = grind (arith, nat_tests, some-filter q xs)

-- answer by answer, or over all that was reported
any_told : (p : Entry → Bool) (told : List MatchAnswer)
    → list_any (λ (a : MatchAnswer). list_any p a.entries) told ≡ list_any p (entries_told told)
any_told p [] = refl
any_told p (a ∷ told) =
    ap (λ (b : Bool). list_any p a.entries || b) (any_told p told)
    ∙ sym (list_any-append p a.entries (entries_told told))

module _ (w : Round) (told : List MatchAnswer) where
  pub some_live_told : list_any (λ (a : MatchAnswer). some_live w a.entries) told
      ≡ list_any (λ (e : Entry). true) (entries_since w (entries_told told))
  some_live_told =
      any_told (λ (e : Entry). is_live w e) told ∙ sym (some-filter (λ (e : Entry). is_live w e) (entries_told told))

  pub live_with_told : (n : ℕ) → list_any (λ (a : MatchAnswer). some_live_with w n a.entries) told
      ≡ is_member_of (entries_since w (entries_told told)) n
  live_with_told n =
      any_told (λ (e : Entry). is_live w e && is_in n e.grid.members) told
      ∙ sym (any-filter (λ (e : Entry). is_in n e.grid.members) (λ (e : Entry). is_live w e) (entries_told told))
