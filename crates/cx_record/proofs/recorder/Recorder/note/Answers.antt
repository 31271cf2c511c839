use Rattle.std.proofs.Common.{◌≡◌, ◌∙◌, ◌++◌, ap}
use Rattle.cx_msg.specs.Datagrams.{spelling}
use Rattle.cx_record.proofs.Found.{one_more}
use Rattle.cx_record.proofs.recorder.Recorder.note.Goals as goal

pub invariant_of-self-2 : goal.invariant_of-self-2
invariant_of-self-2 c =
    let inside = c.self.inside in
    let datagram = c.args.datagram.now in
    let spelled : c.encode_into.new.out.items ≡ spelling datagram =
    c.in_ok-encode_into.ensures.bytes ∙ ap (λ bytes. bytes ++ spelling datagram) c.new-bytes.ensures.items in
    rw c.in_ok-push.ensures.ok (one_more inside.numbers.entries c.put_number.new.numbers.entries inside.sent datagram c.self.invariant
    (λ bytes. rw (spelled, c.len-number.ensures, c.in_ok-reserve.ensures.entries) at (c.put_number.ensures bytes)))
