use Rattle.std.proofs.Common.{◌∙◌}
use Rattle.cx_choice.proofs.Casts.{enough_here}
use Rattle.cx_choice.proofs.enough.is_enough.Goals as goal
use Rattle.cx_choice.specs.Enough.{is_chosen_among}
use Rattle.cx_choice.specs.Sorted.{casts_in}

pub returns : goal.returns
returns c =
    c.is_chosen_among.ensures
    ∙ (λ i. is_chosen_among (c.in_round.ensures i) (casts_in (c.in_round-2.ensures i)) c.args.at c.args.wanted.now)
    ∙ enough_here c.args.rounds.now c.args.votes.now c.args.at c.args.of c.args.wanted.now c.requires.cast
