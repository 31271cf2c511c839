use Rattle.std.proofs.Common.{◌∙◌, Some, ap, map, sym}
use Rattle.cx_choice.proofs.Picked.{none_chosen, one_chosen}
use Rattle.cx_choice.proofs.choice.chosen_in.Goals as goal

pub returns-in-Some : goal.returns-in-Some
returns-in-Some c =
    let found = c.in_ok-found.found in
    one_chosen c.args.kept.now c.deref.result.now c.args.rounds.now found.numbers.items c.args.slot c.in-Some.place c.index.result.now
    c.requires.rounds
    (c.deref.ensures.value ∙ c.in_ok-found.ensures.votes) (c.in_ok-found.ensures.numbers
    ∙ ap (map (λ vote. Some vote)) (sym c.deref.ensures.value)) (sym c.in-Some.is ∙ c.in_ok-place.ensures) c.index.ensures

pub returns : goal.returns
returns c = none_chosen c.args.kept.now c.deref.result.now c.args.rounds.now c.args.slot c.requires.rounds
    (c.deref.ensures.value ∙ c.in_ok-found.ensures.votes) (sym c.in-None.is ∙ c.in_ok-place.ensures)
