use Rattle.cx_base.proofs.Common.{◌≡◌, ◌∙◌, ◌++◌, true, List, ℕ, Option, option_map, option_and_then, sym, ap, option_copied}
use Rattle.cx_base.proofs.Common.{strip_carriage_return}
use Rattle.cx_script.proofs.Schedules.{rule_found}
use Rattle.cx_script.specs.Header.{is_rule, header_in, header_and_rest, of_length}
use Rattle.cx_script.proofs.header.split_header.Goals as goal

pub returns-then-is_rule : goal.returns-then-is_rule
unfolding header_and_rest
returns-then-is_rule c =
    let header = c.loop-rest.header.items in
    let part = c.first_part.result.0.now in
    let behind = option_copied c.first_part.result.1 in
    let rule : is_rule (strip_carriage_return part) ≡ true = ap is_rule (sym c.without_return-line.ensures) ∙ sym c.if-is_rule.ensures in
    let all : List (List ℕ) → Option (List ℕ × List ℕ) =
    λ parts. option_and_then of_length (option_map (λ (front, rest). (header ++ front, rest)) (header_in parts)) in
    let so_far = rw (c.in-Some.is) at c.loop-rest.invariant.so_far in
    rw c.or_empty.ensures (sym (rule_found header part behind rule c.loop-rest.invariant.room) ∙ ap all (sym c.first_part.ensures.parts)
    ∙ ap (option_and_then of_length) so_far)
