use Rattle.std.proofs.Common.{◌+◌, ◌∙◌, get_or, rules, sym}
use Rattle.std.proofs.lemmas.List.Sorted.{answers_always}
use Rattle.cx_choice.proofs.Order.{by_fields}
use Rattle.cx_choice.proofs.of_round.sort.Goals as goal

pub returns-clause-sorted : goal.returns-clause-sorted
returns-clause-sorted g c =
    let by_key = c.sort_unstable_by_key.ensures.sorted (λ one. one.round) (answers_always _ _ _ (λ f a r f' k. search rules)) in
    λ k d low high. sym (by_fields (get_or c.sort_unstable_by_key.new.self.items (k + 1) d).round
    (get_or c.sort_unstable_by_key.new.self.items k d).round) ∙ by_key k d low high
