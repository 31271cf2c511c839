-- The theorem says something: its conditions are met at these runs. Nothing of it is proved here.
use Rattle.std.specs.Prelude.{List, [], ◌∷◌}
use Rattle.std.proofs.Common.{lit≤}
use Rattle.cx_model.specs.Prelude.{Cluster, Whole, Kept, Event, Lead, role, one_of_each, run}
use Rattle.cx_base.specs.declared.event.Event.TheVariants as event
use Rattle.cx_base.specs.declared.role.Kind.TheVariants as kind
use Rattle.cx_model.specs.Examples.{put_a, single}
use Rattle.cx_inv_alive.specs.Alive.{CanBeAnswered}

-- f = 1: three matchmakers, acceptors and replicas
abbrev pub three : Cluster
three =
    record one_of_each {
      f = 1;
      acceptors = 3;
      replicas = 3;
      pool = 3;
      f_fits = lit≤ tt;
      some_acceptor = lit≤ tt;
      acceptors_fit = lit≤ tt;
      some_replicas = lit≤ tt;
      replicas_fit = lit≤ tt;
      some_pool = lit≤ tt;
      pool_fits = lit≤ tt;
    }

-- A first command can be answered before anything was delivered.
abbrev pub FirstCommandIsAnswered : Type 0
FirstCommandIsAnswered = CanBeAnswered (run three (event.Write put_a 0 ∷ [])) put_a

-- the acceptor crashes in the append of its vote, which is kept, and then the others crash
abbrev pub until_crashed : List Event
until_crashed = event.Order 0 (Lead (single 0)) Whole ∷ event.Deliver 0 Whole ∷ event.Deliver 1 Whole ∷ event.Write put_a 0
    ∷ event.Deliver 3 Whole ∷ event.Deliver 4 Whole
    ∷ event.Deliver 5 Whole ∷ event.Deliver 6 Kept ∷ event.Crash (role kind.Leader 0) ∷ event.Crash (role kind.Proxy 0)
    ∷ event.Crash (role kind.Batcher 0) ∷ []

-- A command that was voted for by an acceptor that crashed in its vote can be answered after all have crashed.
abbrev pub VotedCommandIsAnswered : Type 0
VotedCommandIsAnswered = CanBeAnswered (run one_of_each until_crashed) put_a
