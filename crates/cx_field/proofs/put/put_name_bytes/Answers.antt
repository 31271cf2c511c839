use Rattle.std.proofs.Common.{[], arith}
use Rattle.cx_field.proofs.NameBytes.{bytes_spell}
use Rattle.cx_field.proofs.put.put_name_bytes.Goals as goal

pub returns-clause-bytes : goal.returns-clause-bytes
returns-clause-bytes c =
    rw (bytes_spell c.args.bytes.now [] (λ i. omega (arith, c.type_inv.bytes i))) c.in_ok-extend_from_slice.ensures.items
