use Rattle.std.proofs.Common.{◌≡◌, ◌++◌, length, subst, refl, rules}
use Rattle.cx_edge.specs.Notes.{NotesFit}
use Rattle.cx_edge.proofs.NotesLaws.{send_noted}
use Rattle.cx_edge.proofs.notes.Notes.send.Goals as goal

pub returns-clause-sent : goal.returns-clause-sent
returns-clause-sent c =
    let old = c.self.inside in
    let more = c.args.bytes.now in
    let bytes_is : c.extend_from_slice.new.self.items ≡ old.bytes.items ++ more = search rules in
    let fit = subst (λ n. NotesFit n old.taken.items old.sent.items old.waiting.items old.fronts.items) old.bytes.ok.0 c.self.invariant in
    let start : c.len-2.result ≡ length old.bytes.items = search rules in
    λ sent. rw (bytes_is, c.push_reserved.ensures.items, c.queue.ensures, ← c.self.view_is) (send_noted old.bytes.items more old.taken.items
    old.sent.items old.waiting.items old.fronts.items fit c.args.from c.args.port c.args.is_lost
    (record { start = c.len-2.result; len = length more }) start refl)
