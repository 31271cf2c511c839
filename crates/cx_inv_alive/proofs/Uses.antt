-- The theorem at two runs, so that its conditions can be met.
use Rattle.cx_inv_run.proofs.Common.{[], ◌∷◌, subst, sym, refl, inl, inr, lit≤, IsGrid, Entry, Member, run}
use Rattle.cx_base.specs.declared.event.Event.TheVariants as event
use Rattle.cx_model.specs.Examples.{one_of_each, put_a, single}
use Rattle.cx_model.specs.World.{step}
use Rattle.cx_inv_alive.proofs.Runs.{no_dead_ends}
use Rattle.cx_inv_run.specs.States.{set_state}
use Rattle.cx_inv_alive.specs.Alive.{matchmaker_store, HasGrids}
use Rattle.cx_inv_alive.specs.Examples.{three, FirstCommandIsAnswered, until_crashed, VotedCommandIsAnswered}

pub first_command_is_answered : FirstCommandIsAnswered
unfolding step set_state
first_command_is_answered =
    no_dead_ends three (event.Write put_a 0 ∷ []) put_a 0 refl refl (inl refl)
    (record {
      matchmakers = refl;
      grids = λ m e one h. absurd h;
      round = 1;
      rounds = record { reachable = refl; leaders = refl; acceptors = refl; watermarks = refl; entries = refl };
      slots = record { replicas = refl; votes = refl };
      waits = record { replicas = refl; votes = refl };
    })

is_single : IsGrid (single 0)
is_single = record { some_row = lit≤ tt; some_col = lit≤ tt; room = lit≤ tt; count = refl; once = refl }

zero_grids : (e : Entry) → Member e (matchmaker_store (run one_of_each until_crashed) 0).entries → IsGrid e.grid
unfolding step set_state
zero_grids e (inl is) = subst (λ (x : Entry). IsGrid x.grid) (sym is) is_single
zero_grids e (inr m) = absurd m

has_grids : HasGrids one_of_each (run one_of_each until_crashed)
has_grids m e (inl is) h = zero_grids e (subst (λ n. Member e (matchmaker_store (run one_of_each until_crashed) n).entries) is h)
has_grids m e (inr none) h = absurd none

pub voted_command_is_answered : VotedCommandIsAnswered
unfolding step set_state
voted_command_is_answered =
    no_dead_ends one_of_each until_crashed put_a 0 refl refl (inr (inr (inr (inl refl))))
    (record {
      matchmakers = refl;
      grids = has_grids;
      round = 2;
      rounds = record { reachable = refl; leaders = refl; acceptors = refl; watermarks = refl; entries = refl };
      slots = record { replicas = refl; votes = refl };
      waits = record { replicas = refl; votes = refl };
    })
