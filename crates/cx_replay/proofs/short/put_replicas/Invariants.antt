use Rattle.std.proofs.Common.{◌≡◌, ◌++◌, drop}
use Rattle.cx_trace.specs.Summary.{replicas_text}
use Rattle.cx_replay.proofs.short.put_replicas.Given as goal

abbrev pub invariant-loop-place : goal.invariant-loop-place
invariant-loop-place l = l.text.items ++ replicas_text l.place (drop l.place l.replicas) ≡ l.fn.text.items ++ replicas_text 0 l.replicas
