use Rattle.std.proofs.Common.{◌≡◌, ◌∙◌, None, Some, option_map, ap, sym}
use Rattle.cx_record.specs.Numbers.{numbered}
use Rattle.cx_record.proofs.Found.{is_last}
use Rattle.cx_record.proofs.recorder.Recorder.find.Goals as goal

pub unreachable-requires : goal.unreachable-requires
unreachable-requires c =
    let inside = c.self.inside in
    let found = is_last inside.numbers.entries inside.sent c.args.bytes.now c.in-Some.number c.self.invariant
    (sym c.datagram_number.ensures ∙ c.in-Some.is) in
    let wrong : None ≡ Some found.letter = sym c.in-None.is ∙ c.in_ok-datagram.ensures ∙ found.stands in
    cc

pub returns : goal.returns
returns c =
    let inside = c.self.inside in
    let found = is_last inside.numbers.entries inside.sent c.args.bytes.now c.in-Some.number c.self.invariant
    (sym c.datagram_number.ensures ∙ c.in-Some.is) in
    let same = sym c.in-Some-2.is ∙ c.in_ok-datagram.ensures ∙ found.stands in
    rw (← c.self.view_is) (ap (option_map (λ letter. numbered c.in-Some.number letter)) same ∙ sym found.last)
