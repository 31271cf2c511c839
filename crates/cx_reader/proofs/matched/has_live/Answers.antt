use Rattle.cx_role.proofs.Common.{◌∙◌, greatest_watermark}
use Rattle.cx_reader.proofs.Live.{some_live_told}
use Rattle.cx_reader.proofs.matched.has_live.Goals as goal

pub returns : goal.returns
returns c =
    let told = c.args.told.now in
    c.some_live_told.ensures ∙ rw c.greatest_watermark.ensures (some_live_told (greatest_watermark told) told)
