-- The chain of a slot's votes, from one of them on.
use Rattle.std.proofs.lemmas.Grind.{get_or_default_zero}
use Rattle.cx_base.proofs.Common.{◌≡◌, ◌<◌, ◌≤◌, ◌+◌, ◌==◌, ℕ, zero, suc, true, false, List, [], ◌∷◌, ◌++◌, Some, drop, get_or, length, map}
use Rattle.cx_base.proofs.Common.{slice_get, ap, subst, sym, refl, inl, inr, ◌∙◌, append_assoc, arith, cases_Bool, nat_tests, map-append}
use Rattle.cx_letter.specs.declared.input.KeptRecord.{KeptRecord}
use Rattle.cx_choice.proofs.Numbered.{next_kept}
use Rattle.cx_choice.specs.Chains.{HaveVotes, Puts, first_vote, vote_from}
use Rattle.cx_choice.specs.Sorted.{is_vote_in, votes_of}
use Rattle.cx_choice.specs.declared.chains.VoteChains.{VoteChains}

-- the votes in a slot from a link of its chain on
abbrev pub votes_on : ℕ → ℕ → List KeptRecord → List KeptRecord
votes_on s zero kept = []
votes_on s (suc number) kept = votes_of s (drop number kept)

-- a link of a slot's chain leads to a vote in the slot, or to none
abbrev pub IsVote : ℕ → ℕ → List KeptRecord → Type 0
IsVote s zero kept = Unit {0}
IsVote s (suc number) kept = (k : KeptRecord) × (slice_get kept number ≡ Some k) × (is_vote_in s k.what ≡ true)

get_of_drop : (kept : List KeptRecord) (n : ℕ) (k : KeptRecord) (ks : List KeptRecord) → drop n kept ≡ k ∷ ks → slice_get kept n ≡ Some k
get_of_drop [] zero k ks e = cc
get_of_drop [] (suc n) k ks e = cc
get_of_drop (x ∷ kept) zero k ks e = cc
get_of_drop (x ∷ kept) (suc n) k ks e = get_of_drop kept n k ks e

drop_of_drop : (kept : List KeptRecord) (n : ℕ) (k : KeptRecord) (ks : List KeptRecord) → drop n kept ≡ k ∷ ks → drop (suc n) kept ≡ ks
drop_of_drop [] zero k ks e = cc
drop_of_drop [] (suc n) k ks e = cc
drop_of_drop (x ∷ kept) zero k ks e = cc
drop_of_drop (x ∷ kept) (suc n) k ks e = drop_of_drop kept n k ks e

same_votes : (s n : ℕ) (ks kept : List KeptRecord) → drop n kept ≡ ks → votes_on s (first_vote s n ks) kept ≡ votes_of s ks
same_votes s n [] kept e = refl
same_votes s n (k ∷ ks) kept e =
    let more : n + 1 ≡ suc n = omega arith in
    elim (cases_Bool (is_vote_in s k.what)) [
      | inl taken ↦ rw (taken, more, e, taken) refl
      | inr left ↦ rw (left, more) (same_votes s (suc n) ks kept (drop_of_drop kept n k ks e))
    ]

leads : (s n : ℕ) (ks kept : List KeptRecord) → drop n kept ≡ ks → IsVote s (first_vote s n ks) kept
leads s n [] kept e = tt
leads s n (k ∷ ks) kept e =
    let more : n + 1 ≡ suc n = omega arith in
    elim (cases_Bool (is_vote_in s k.what)) [
      | inl taken ↦ rw (taken, more) (k, get_of_drop kept n k ks e, taken)
      | inr left ↦ rw (left, more) (leads s (suc n) ks kept (drop_of_drop kept n k ks e))
    ]

-- the first vote of a slot from a number on leads to all of them
pub votes_on_from : (s n : ℕ) (kept : List KeptRecord) → votes_on s (vote_from s n kept) kept ≡ votes_of s (drop n kept)
votes_on_from s n kept = same_votes s n (drop n kept) kept refl

pub leads_from : (s n : ℕ) (kept : List KeptRecord) → IsVote s (vote_from s n kept) kept
leads_from s n kept = leads s n (drop n kept) kept refl

within_kept : (history : List KeptRecord) (n : ℕ) (k : KeptRecord) → slice_get history n ≡ Some k → n < length history
within_kept [] n k e = cc
within_kept (x ∷ history) zero k e = omega arith
within_kept (x ∷ history) (suc n) k e = let rest = within_kept history n k e in omega (arith, rest)

-- the vote that a link leads to was kept
pub leads_within : (s here number : ℕ) (history : List KeptRecord) → here ≡ suc number → IsVote s here history → number < length history
leads_within s here number history e vote =
    let there : IsVote s (suc number) history = subst (λ h. IsVote s h history) e vote in within_kept history number there.0 there.1

-- what a link leads to, and where the chain goes on
pub record Leads (s here next : ℕ) (history : List KeptRecord) (one : KeptRecord) : Type 0 where
  pub votes : votes_on s here history ≡ one ∷ votes_on s next history
  pub goes_on : IsVote s next history

pub one_on : (votes : VoteChains) (history : List KeptRecord) (s here number next : ℕ) (one : KeptRecord) → HaveVotes votes history 0
    → s < length history → here ≡ suc number
    → IsVote s here history → slice_get history number ≡ Some one → next ≡ get_or votes.next.items number next
    → Leads s here next history one
one_on votes history s here number next one have within e vote at is =
    let there : IsVote s (suc number) history = subst (λ h. IsVote s h history) e vote in
    let known : Some there.0 ≡ Some one = sym there.1 ∙ at in
    let same : there.0 ≡ one = cc in
    let taken : is_vote_in s one.what ≡ true = rw (← same) there.2 in
    let stands : number < length votes.next.items = rw have.count (within_kept history number one at) in
    let link : next ≡ vote_from s (number + 1) history =
    is ∙ get_or_default_zero votes.next.items number next stands ∙ have.next s number one within (omega arith) at taken in
    let begins : votes_on s (suc number) history ≡ one ∷ votes_of s (drop (number + 1) history) =
    rw (next_kept history number one at, taken) refl in
    record {
      votes = rw (e, link) (begins ∙ ap (λ l. one ∷ l) (sym (votes_on_from s (number + 1) history)));
      goes_on = rw link (leads_from s (number + 1) history);
    }

-- one vote more is read
pub more_found : (found new : List KeptRecord) (history : List KeptRecord) (s here next : ℕ) (one : KeptRecord)
    → Leads s here next history one → new ≡ found ++ one ∷ []
    → found ++ votes_on s here history ≡ votes_of s history → new ++ votes_on s next history ≡ votes_of s history
more_found found new history s here next one leads more so_far = ap (λ l. l ++ votes_on s next history) more
    ∙ append_assoc found (one ∷ []) (votes_on s next history) ∙ ap (λ l. found ++ l) (sym leads.votes) ∙ so_far

pub fewer_on : (s here next : ℕ) (history : List KeptRecord) (one : KeptRecord) → Leads s here next history one
    → length (votes_on s next history) < length (votes_on s here history)
fewer_on s here next history one leads = rw leads.votes (omega arith)

-- and its number
pub more_numbers : (history found new : List KeptRecord) (numbers more : List ℕ) (number : ℕ) (one : KeptRecord)
    → slice_get history number ≡ Some one → new ≡ found ++ one ∷ []
    → more ≡ numbers ++ number ∷ [] → map (slice_get history) numbers ≡ map (λ (vote : KeptRecord). Some vote) found
    → map (slice_get history) more ≡ map (λ (vote : KeptRecord). Some vote) new
more_numbers history found new numbers more number one at is are so_far = rw (
  is,
  are,
  map-append (slice_get history) numbers (number ∷ []),
  map-append (λ (vote : KeptRecord). Some vote) found (one ∷ []),
  so_far,
  at,
) refl

-- one record more
pub more_votes : (old new : VoteChains) (kept : List KeptRecord) (from number : ℕ) (k : KeptRecord) → from ≡ number + 1
    → slice_get kept number ≡ Some k → HaveVotes old kept from → Puts old new number k.what → HaveVotes new kept number
more_votes old new kept from number k e at have puts =
    let begins = next_kept kept number k at in
    record {
      count = puts.count ∙ have.count;
      first = λ s within.
          let old_first : get_or old.first.items s 0 ≡ vote_from s (number + 1) kept = rw (← e) (have.first s within) in
          puts.first s (rw have.count within) ∙ (rw (begins, old_first) refl);
      next = λ s n one within low there vote.
          elim (cases_Bool (n == number)) [
            | inl same ↦
                let is : n ≡ number = grind (arith, nat_tests) in
                let known : Some one ≡ Some k = sym there ∙ ap (slice_get kept) is ∙ at in
                let is_one : one ≡ k = cc in
                let old_first : get_or old.first.items s 0 ≡ vote_from s (number + 1) kept = rw (← e) (have.first s within) in
                rw is (puts.next s (rw have.count within) (rw is_one at vote) ∙ old_first)
            | inr other ↦
                let differs : n ≡ number → ⊥ = λ is. absurd (let yes : (n == number) ≡ true = rw is (grind (arith, nat_tests)) in
                let wrong : true ≡ false = sym yes ∙ other in cc) in
                let high : from ≤ n = grind (arith, nat_tests) in
                puts.others n differs ∙ have.next s n one within high there vote
          ];
    }
