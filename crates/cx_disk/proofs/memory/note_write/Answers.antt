use Rattle.std.proofs.Common.{◌≡◌, length, arith}
use Rattle.cx_disk.proofs.Notes.{write_added, write_within}
use Rattle.cx_disk.proofs.memory.note_write.Goals as goal

pub returns-clause-added : goal.returns-clause-added
returns-clause-added c =
    let from_is : c.len-from.result ≡ length c.args.written.now.items = omega (arith, c.len-from.ensures, c.args.written.now.ok.0) in
    λ _. rw (c.append.ensures, c.push_reserved.ensures.items, from_is)
    (write_added c.args.written.now.items c.args.bytes.now c.args.calls.now.items c.args.at c.requires)

pub returns-clause-within : goal.returns-clause-within
returns-clause-within c =
    let from_is : c.len-from.result ≡ length c.args.written.now.items = omega (arith, c.len-from.ensures, c.args.written.now.ok.0) in
    rw (c.append.ensures, c.push_reserved.ensures.items, from_is)
    (write_within c.args.written.now.items c.args.bytes.now c.args.calls.now.items c.args.at c.requires)
