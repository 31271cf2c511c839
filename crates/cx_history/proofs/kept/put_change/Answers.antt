use Rattle.std.proofs.Common.{◌≡◌, ◌∙◌}
use Rattle.cx_history.specs.Kept.{piece_of}
use Rattle.cx_history.proofs.Keeping.{are_changes_more, changes_more}
use Rattle.cx_history.proofs.kept.put_change.Goals as goal

pub returns-clause-changes : goal.returns-clause-changes
returns-clause-changes c =
    let spelled : c.deref.result.now ≡ piece_of c.args.what.now = c.deref.ensures.value ∙ c.in_ok-spell.ensures.bytes in
    rw (c.in_ok-push.ensures.ok, spelled) (changes_more c.args.what.now c.args.pieces.now c.requires c.in_ok-spell.ensures.slot)

pub returns-clause-pieces : goal.returns-clause-pieces
returns-clause-pieces c all =
    let spelled : c.deref.result.now ≡ piece_of c.args.what.now = c.deref.ensures.value ∙ c.in_ok-spell.ensures.bytes in
    rw (c.in_ok-push.ensures.ok, spelled) (are_changes_more c.args.what.now c.args.pieces.now c.requires all)
