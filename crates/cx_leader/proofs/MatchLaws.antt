-- What matchmakers reported, one answer after the other.
use Rattle.cx_role.proofs.Common.{◌≡◌, ◌≤◌, ℕ, Bool, true, ◌&&◌, nat_lt, nat_le, filter, List, [], nat_tests, ◌∷◌, ◌++◌, All, refl}
use Rattle.cx_role.proofs.Common.{list_all, ap, append_assoc, arith, ◌∙◌, and_from, list_all-append, filter-append, All-filter, All-head}
use Rattle.cx_role.proofs.Common.{All-tail, Cluster, Round, Entry, MatchAnswer, entries_told, live_entries, append-nil, common_steps}
use Rattle.cx_role.proofs.Common.{entries_since}
use Rattle.cx_model.specs.Names.{names_entry}
use Rattle.cx_model.specs.Leader.{count_reaching, greatest_of, held_by}
use Rattle.cx_phase1.specs.Counting.{are_ids}
use Rattle.cx_leader.specs.State.{is_named}

entries_told-push : (told : List MatchAnswer) (a : MatchAnswer)
    → entries_told (told ++ a ∷ []) ≡ entries_told told ++ a.entries
entries_told-push [] a = append-nil a.entries
entries_told-push (b ∷ told) a = grind (arith, entries_told-push told a, append_assoc)

-- the entries from a round on, with those of one more answer
pub entries_from-push : (w : Round) (told : List MatchAnswer) (a : MatchAnswer)
    → entries_since w (entries_told (told ++ a ∷ [])) ≡ entries_since w (entries_told told) ++ entries_since w a.entries
entries_from-push w told a = ap (entries_since w) (entries_told-push told a) ∙ filter-append _ (entries_told told) a.entries

pub ruleset more_told = (common_steps, append-nil, entries_from-push)

greatest_high : (ns : List ℕ) (k : ℕ) → All (λ n. n ≤ k) ns → greatest_of ns ≤ k
greatest_high [] k all = omega arith
greatest_high (n ∷ ns) k all =
    let here : n ≤ k = All-head (λ x. x ≤ k) n ns all in
    omega (arith, here, greatest_high ns k (All-tail (λ x. x ≤ k) n ns all))

-- what enough replicas hold is a number that one of them reported
pub held_high : (count k : ℕ) (held : List ℕ) → All (λ n. n ≤ k) held → held_by count held ≤ k
held_high count k held all = greatest_high (filter (λ n. nat_le count (count_reaching n held)) held) k
    (All-filter (λ n. nat_le count (count_reaching n held)) (λ x. x ≤ k) held all)

-- ---- names of what was reported

named_below : (n k : ℕ) (ids : List ℕ) → n ≤ k → list_all (λ id. nat_lt id n) ids ≡ true → list_all (λ id. nat_lt id k) ids ≡ true
named_below n k [] le h = refl
named_below n k (id ∷ ids) le h = grind (arith, nat_tests, named_below n k ids)

module _ (c : Cluster) where
  abbrev are_named : List Entry → Bool
  are_named es = list_all (λ (e : Entry). names_entry c e) es

  abbrev all_named : List MatchAnswer → Bool
  all_named told = list_all (λ (a : MatchAnswer). is_named c a) told

  entries_named : (told : List MatchAnswer) → all_named told ≡ true → are_named (entries_told told) ≡ true
  entries_named [] h = refl
  entries_named (a ∷ told) h = grind (arith, nat_tests, common_steps, entries_named told)

  filter_ids : (p : Entry → Bool) (es : List Entry) → are_named es ≡ true → are_ids (filter p es) ≡ true
  filter_ids p [] h = refl
  filter_ids p (e ∷ es) h =
      grind (arith, nat_tests, filter_ids p es, named_below c.acceptors 64 e.grid.members, c.acceptors_fit)

  -- the members of the live grids are ids
  pub live_ids : (told : List MatchAnswer) → all_named told ≡ true → are_ids (live_entries told) ≡ true
  live_ids told h = filter_ids _ (entries_told told) (entries_named told h)

  pub named_more : (told : List MatchAnswer) (a : MatchAnswer) → all_named told ≡ true → is_named c a ≡ true
      → all_named (told ++ a ∷ []) ≡ true
  named_more told a h k =
      list_all-append (λ (x : MatchAnswer). is_named c x) told (a ∷ [])
      ∙ and_from (all_named told) (is_named c a && true) h (and_from (is_named c a) true k refl)
