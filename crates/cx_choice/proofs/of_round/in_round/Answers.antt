use Rattle.std.proofs.Common.{◌-◌, ◌∙◌, ap, take}
use Rattle.cx_choice.proofs.Grouped.{begin_first, grouped}
use Rattle.cx_choice.proofs.of_round.in_round.Goals as goal

pub overflow_sub-end : goal.overflow_sub-end
overflow_sub-end g c =
    begin_first c.args.round.now c.args.list.now c.begin_of-begin.result c.end_of-end.result c.begin_of-begin.ensures c.end_of-end.ensures

pub returns : goal.returns
returns g c =
    c.split_at-2.ensures.front ∙ ap (take (c.end_of-end.result - c.begin_of-begin.result)) c.split_at.ensures.back
    ∙ grouped c.args.round.now c.args.list.now c.begin_of-begin.result c.end_of-end.result c.begin_of-begin.ensures c.end_of-end.ensures
