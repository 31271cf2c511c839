use Rattle.cx_node.proofs.Taken.{nothing_is_open}
use Rattle.cx_node.proofs.input.answer_bytes.Goals as goal

pub answer-requires : goal.answer-requires
answer-requires c = nothing_is_open c.args.ended c.args.bytes.now c.in-Ok.heard c.in-Ok.ensures
