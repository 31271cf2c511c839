use Rattle.cx_model.specs.Prelude.{◌≡◌, false, run}
use Rattle.cx_replay.specs.Generated.{gen_state, gen_events}
use Rattle.cx_script.specs.Generator.{gen_cluster}
use Rattle.cx_world.specs.World.{world_of}
use Rattle.cx_replay.proofs.generating.run_events.Given as goal

abbrev pub invariant-loop-made : goal.invariant-loop-made
invariant-loop-made l = record {
  generator : l.generator ≡ gen_state l.seed l.made;
  world : world_of l.world ≡ run gen_cluster (gen_events l.seed l.made);
  running : l.world.spent ≡ false;
}
