use Rattle.std.specs.Prelude.{refl}
use Rattle.cx_model.specs.Replica.{offers, pieces_of}
use Rattle.cx_model.specs.State.{set_state}
use Rattle.cx_model.specs.World.{step}
use Rattle.cx_model.proofs.examples.replica_offers_values.Goals as goal

pub returns : goal.returns
unfolding step offers set_state pieces_of
returns c = record { words = refl; kept = refl; sent = refl; leaves = refl }
