use Rattle.cx_base.proofs.Common.{◌≡◌, ◌∷◌, ◌∙◌, [], Some, None, length, map, append_assoc, append-nil, sym, map-append, All-push}
use Rattle.cx_model.specs.Chosen.{chosen_at}
use Rattle.cx_choice.proofs.Slots.{prefix_end, prefix_step}
use Rattle.cx_choice.specs.Prefix.{IsChosenVote, IsVoteAt, vote_value_at}
use Rattle.cx_choice.proofs.choice.chosen_votes.Goals as goal

pub returns-in-None-clause-values : goal.returns-in-None-clause-values
returns-in-None-clause-values c =
    let kept = c.args.kept.now in
    let loop = c.loop-slot in
    let chosen : chosen_at kept loop.slot ≡ None = rw c.in-None.is at c.in_ok-number.ensures in
    let no_more = prefix_end kept loop.slot (length kept) (rw c.len-slot-end.ensures at c.loop-slot-test.true) chosen in
    sym (append-nil (map (vote_value_at kept) loop.numbers.items)) ∙ (rw no_more at loop.invariant.prefix)

pub loop-slot-preserved : goal.loop-slot-preserved
loop-slot-preserved c =
    let kept = c.args.kept.now in
    let loop = c.loop-slot in
    let number = c.in-Some.number in
    let chosen : IsChosenVote kept loop.slot (Some number) = rw c.in-Some.is at c.in_ok-number.ensures in
    let step =
    prefix_step kept loop.slot (length kept) (vote_value_at kept number) (rw c.len-slot-end.ensures at c.loop-slot-test.true) chosen.0 in
    record {
      prefix =
          rw (c.in_ok-push-in-Some.ensures.items, map-append (vote_value_at kept) loop.numbers.items (number ∷ []), append_assoc, ← step)
          loop.invariant.prefix;
      votes = rw c.in_ok-push-in-Some.ensures.items (All-push (IsVoteAt kept) loop.numbers.items number loop.invariant.votes chosen.1);
    }
