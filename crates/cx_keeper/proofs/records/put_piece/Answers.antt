use Rattle.std.proofs.Common.{◌-◌, ap, ◌∙◌}
use Rattle.cx_keeper.proofs.Pieces.{put}
use Rattle.cx_keeper.proofs.records.put_piece.Goals as goal

pub returns-clause-ok : goal.returns-clause-ok
returns-clause-ok c =
    put c.args.what.now c.requires c.args.bytes.now.items c.record_into.new.out.items c.len-from.result _ c.in_ok-record_into.ensures.bytes
    (c.len-from.ensures ∙ c.args.bytes.now.ok.0) (ap (λ n. n - c.len-from.result) (c.len.ensures ∙ c.record_into.new.out.ok.0))
