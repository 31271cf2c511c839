use Rattle.cx_choice.proofs.Casts.{all_cast, next_cast}
use Rattle.cx_choice.proofs.rounds.casts.Goals as goal

pub loop-vote-preserved : goal.loop-vote-preserved
loop-vote-preserved c =
    record {
      votes = next_cast _ _ _ c.args.votes.now c.loop-vote.vote-index c.loop-vote-test.true c.vote-item.is c.in_ok-push.ensures.items
          c.loop-vote.invariant.votes;
      cast = all_cast _ _ _ c.in_ok-push.ensures.items c.written_round.ensures c.loop-vote.invariant.cast;
    }
