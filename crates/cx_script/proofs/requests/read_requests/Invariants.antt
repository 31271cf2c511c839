use Rattle.std.proofs.Common.{◌≡◌, ◌≤◌, ◌+◌, [], length}
use Rattle.cx_script.proofs.Schedules.{after}
use Rattle.cx_script.specs.Lines.{lines_of}
use Rattle.cx_script.specs.Requests.{HasGreatestNumbers, requests_from}
use Rattle.cx_script.proofs.requests.read_requests.Given as goal

abbrev pub invariant-loop-text : goal.invariant-loop-text
invariant-loop-text l = record {
  so_far : after l.events.items (requests_from l.cluster (l.number + 1) l.events.items (lines_of l.rest))
      ≡ requests_from l.cluster 1 [] (lines_of l.bytes);
  count : l.number ≤ 65535;
  numbers : HasGreatestNumbers l.events.items l.greatest;
}

abbrev pub decreases-loop-text : goal.decreases-loop-text
decreases-loop-text l = length l.rest
