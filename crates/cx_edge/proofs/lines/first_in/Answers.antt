use Rattle.std.proofs.Common.{sym, ◌∙◌}
use Rattle.cx_edge.proofs.LineLaws.{begins_long, first_line, is_open}
use Rattle.cx_edge.proofs.lines.first_in.Goals as goal

pub returns-then-len-max : goal.returns-then-len-max
returns-then-len-max c = begins_long c.args.max c.args.buffered.now c.feed_in-place.result c.unwrap_or.result c.text_length-len.result
    (sym c.feed_in-place.ensures) c.unwrap_or.ensures c.text_length-len.ensures c.if-len-max.true

pub returns-in-Some : goal.returns-in-Some
returns-in-Some c = first_line c.args.max c.args.buffered.now c.in-Some.place c.unwrap_or.result c.text_length-len.result
    (sym c.feed_in-place.ensures ∙ c.in-Some.is) (rw c.in-Some.is at c.unwrap_or.ensures) c.text_length-len.ensures c.if-len-max.false

pub returns-in-None : goal.returns-in-None
returns-in-None c = is_open c.args.max c.args.buffered.now c.unwrap_or.result c.text_length-len.result
    (sym c.feed_in-place.ensures ∙ c.in-None.is) (rw c.in-None.is at c.unwrap_or.ensures) c.text_length-len.ensures c.if-len-max.false
