use Rattle.cx_record.proofs.Found.{are_none}
use Rattle.cx_record.proofs.recorder.Recorder.new.Goals as goal

pub invariant_of-result : goal.invariant_of-result
invariant_of-result c = rw (c.new-2.ensures.empty, c.new.ensures) are_none
