use Rattle.cx_role.proofs.Common.{◌∙◌, greatest_watermark}
use Rattle.cx_reader.proofs.Live.{live_with_told}
use Rattle.cx_reader.proofs.matched.is_live_member.Goals as goal

pub returns : goal.returns
returns c =
    let told = c.args.told.now in
    c.live_with_told.ensures
    ∙ rw c.greatest_watermark.ensures (live_with_told (greatest_watermark told) told c.args.acceptor)
