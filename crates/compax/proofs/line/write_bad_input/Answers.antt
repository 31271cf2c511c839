use Rattle.std.proofs.Common.{◌∙◌}
use Rattle.compax.proofs.line.write_bad_input.Goals as goal

pub returns : goal.returns
returns g c = rw (c.as_bytes-line.ensures.value ∙ c.format.ensures.text) at c.write_parts.ensures
