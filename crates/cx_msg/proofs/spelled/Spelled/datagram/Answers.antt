use Rattle.cx_msg.specs.Spelled.{letter_with}
use Rattle.cx_msg.proofs.SpelledLaws.{fails_for_memory}
use Rattle.cx_msg.proofs.spelled.Spelled.datagram.Goals as goal

pub unreachable-requires : goal.unreachable-requires
unreachable-requires c =
    let is = c.self.inside in
    let fault = fails_for_memory (letter_with is.kind is.from is.to is.body.now) is.kind is.body.now c.new-reader.result
    c.in-Err-Bad.field-0 c.self.invariant c.new-reader.ensures c.in-Err-Bad.ensures in
    let other = c.in-Err-Bad.field-0-is in
    cc

pub unreachable-requires-in-Err-Cut : goal.unreachable-requires-in-Err-Cut
unreachable-requires-in-Err-Cut c =
    let is = c.self.inside in
    let fault = fails_for_memory (letter_with is.kind is.from is.to is.body.now) is.kind is.body.now c.new-reader.result
    c.in-Err-Cut.field-0 c.self.invariant c.new-reader.ensures c.in-Err-Cut.ensures in
    let other = c.in-Err-Cut.field-0-is in
    cc
