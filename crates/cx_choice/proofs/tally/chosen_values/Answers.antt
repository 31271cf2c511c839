use Rattle.std.proofs.lemmas.List.{drop_all}
use Rattle.cx_choice.proofs.Among.{finished}
use Rattle.cx_choice.proofs.tally.chosen_values.Goals as goal

pub returns : goal.returns
returns c =
    let none = drop_all c.loop-vote.vote-index c.args.votes.now c.loop-vote-test.false in
    λ v. finished c.loop-vote.chosen.items c.args.rounds.now c.args.votes.now _ c.args.by_round.now c.args.at v c.requires.votes none
    (c.loop-vote.invariant v)
