use Rattle.std.proofs.Common.{List, ℕ, None, Option, Some, IfSome, refl}
use Rattle.cx_edge.specs.Sink.{AppendsPart}
use Rattle.cx_replay.specs.Input.{input_of}
use Rattle.cx_replay.specs.Replay.{text_of}
use Rattle.cx_replay.proofs.Ends.{memory_replayed}
use Rattle.cx_replay.proofs.Texts.{part_none}
use Rattle.cx_replay.proofs.running.run_lines.Goals as goal

nothing : (left out : Option (List ℕ)) → IfSome left (λ all. AppendsPart out out (text_of (input_of all)))
nothing None out = tt
nothing (Some all) out = part_none out (text_of (input_of all))

pub returns-in-Err-clause-replayed : goal.returns-in-Err-clause-replayed
returns-in-Err-clause-replayed g c = λ left b. memory_replayed _ _ _ _ _ _ _ _ (nothing left (g.W.Sink.taken c.args.out.now)) refl

pub returns-in-Ok-clause-replayed : goal.returns-in-Ok-clause-replayed
returns-in-Ok-clause-replayed g c = c.run_world.ensures.replayed
