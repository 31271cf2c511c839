use Rattle.cx_reader.proofs.Counted.{acked_more}
use Rattle.cx_reader.proofs.Ranges.{one_more_ack}
use Rattle.cx_reader.proofs.batch.Batch.with_ack.Goals as goal

pub invariant_of-more : goal.invariant_of-more
invariant_of-more c =
    let batch = c.more.inside in
    let is = c.more.invariant in
    rw (c.in_ok-push.ensures.items, c.add.ensures.marks) record {
      turn_fits = is.turn_fits;
      few = is.few;
      told_fit = is.told_fit;
      acks_fit = one_more_ack batch.acks.items c.args.ack is.acks_fit c.requires.acceptor c.requires.mark;
      marked = acked_more batch.counted batch.acks.items c.args.ack is.marked;
    }
