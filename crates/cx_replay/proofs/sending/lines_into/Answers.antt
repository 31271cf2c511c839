use Rattle.std.proofs.Common.{◌<◌, length, append_assoc}
use Rattle.cx_replay.proofs.SentLines.{begins_longer, next_lines}
use Rattle.cx_replay.proofs.sending.lines_into.Goals as goal

pub loop-number-preserved : goal.loop-number-preserved
loop-number-preserved c =
    let sent = c.args.sent.now in
    let below : c.loop-number.number < length sent = rw c.len-number-end.ensures at c.loop-number-test.true in
    record {
      text = rw (c.in_ok-line_into.ensures.ok, append_assoc, ← next_lines c.loop-number.number sent below) c.loop-number.invariant.text;
      begins = begins_longer c.args.text.now.items c.loop-number.text.items _ _ c.in_ok-line_into.ensures.ok c.loop-number.invariant.begins;
    }
