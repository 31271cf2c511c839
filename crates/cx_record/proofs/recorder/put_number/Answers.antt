use Rattle.std.proofs.Common.{◌∙◌, ap}
use Rattle.cx_record.specs.Table.{datagram_number}
use Rattle.cx_record.proofs.Placed.{placed}
use Rattle.cx_record.proofs.recorder.put_number.Goals as goal

pub returns : goal.returns
returns c =
    λ others. ap (datagram_number others) c.in-Ok.ensures.entries ∙ placed others c.args.bytes c.args.number c.args.numbers.now.entries
