use Rattle.std.proofs.Common.{◌≡◌, ◌++◌, ◌∙◌, ap}
use Rattle.cx_msg.specs.Spelled.{short}
use Rattle.cx_history.proofs.Shorts.{letters_more, shorts_more}
use Rattle.cx_history.proofs.short.put_datagram.Goals as goal

pub returns-clause-letters : goal.returns-clause-letters
returns-clause-letters c =
    let spelled : c.deref.result.now ≡ short c.args.datagram.now =
    c.deref.ensures.value ∙ c.in_ok-short_into.ensures.bytes ∙ ap (λ l. l ++ short c.args.datagram.now) c.clear.ensures.items in
    rw (c.in_ok-push.ensures.ok, spelled) (letters_more c.args.datagram.now c.args.pieces.now c.field_ranges.ensures)

pub returns-clause-pieces : goal.returns-clause-pieces
returns-clause-pieces c all =
    let spelled : c.deref.result.now ≡ short c.args.datagram.now =
    c.deref.ensures.value ∙ c.in_ok-short_into.ensures.bytes ∙ ap (λ l. l ++ short c.args.datagram.now) c.clear.ensures.items in
    rw (c.in_ok-push.ensures.ok, spelled) (shorts_more c.args.datagram.now c.args.pieces.now c.field_ranges.ensures all)
