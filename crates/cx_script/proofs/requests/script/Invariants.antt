use Rattle.std.proofs.Common.{◌≡◌, ◌++◌, drop, filter}
use Rattle.cx_script.specs.Requests.{asks}
use Rattle.cx_script.proofs.requests.script.Given as goal

abbrev pub invariant-loop-event : goal.invariant-loop-event
invariant-loop-event l = l.script.items ++ filter (asks l.client) (drop l.event-index l.events) ≡ filter (asks l.client) l.events
