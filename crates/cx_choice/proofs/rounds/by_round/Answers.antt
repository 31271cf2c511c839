use Rattle.cx_choice.proofs.Casts.{cast_sorted}
use Rattle.cx_choice.proofs.rounds.by_round.Goals as goal

pub returns : goal.returns
returns c = cast_sorted c.args.votes.now c.in_ok-casts.casts.items c.sort.new.list.items c.in_ok-casts.ensures.votes
    c.in_ok-casts.ensures.cast c.sort.ensures.same c.sort.ensures.sorted
