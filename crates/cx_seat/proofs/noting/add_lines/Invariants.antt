use Rattle.std.proofs.Common.{◌≡◌, ◌++◌, drop}
use Rattle.cx_record.specs.Lines.{events_text}
use Rattle.cx_seat.proofs.noting.add_lines.Given as goal

abbrev pub invariant-loop-event : goal.invariant-loop-event
invariant-loop-event l = l.text.items ++ events_text (drop l.event-index l.events) ≡ l.fn.text.items ++ events_text l.events
