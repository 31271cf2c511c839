-- What is promised of the run of an input, however far it was run.
use Rattle.std.specs.Prelude.{◌≡◌, ℕ, List, Bool, true, Option}
use Rattle.cx_model.specs.Prelude.{list_all, Consumes, is_valid_event, Cluster, Event, Begins}
use Rattle.cx_promises.specs.Lawful.{IsLawful}
use Rattle.cx_replay.specs.Generated.{gen_events}
use Rattle.cx_replay.specs.Input.{input_says}
use Rattle.cx_replay.specs.ReplayInput.{ReplayInput, Nothing, BadHeader, Lines}
use Rattle.cx_script.specs.Generator.{gen_cluster}

-- the run of these events is lawful, and so it was after each of them; each is one that the world takes
pub record IsLawfulAlong (c : Cluster) (es : List Event) : Type 0 where
  pub lawful : (so_far : List Event) → Begins so_far es → IsLawful c so_far
  pub taken : (so_far : List Event) → Begins so_far es → list_all is_valid_event so_far ≡ true

-- the run of the events that bytes say
abbrev pub IsLawfulRun : ReplayInput → Type 0
IsLawfulRun Nothing = Unit {0}
IsLawfulRun BadHeader = Unit {0}
IsLawfulRun (Lines c spelled) = IsLawfulAlong c spelled.events

-- the run of the bytes that a source gave, whether they were all or others may come
abbrev pub IsLawfulInput : Option (List ℕ) → Option (List ℕ) → Type 0
IsLawfulInput left left_after = (bytes : List ℕ) → Consumes left left_after bytes → (ended : Bool) → IsLawfulRun (input_says ended bytes)

-- the run of this many generated events of a seed
abbrev pub IsLawfulGenerated : ℕ → ℕ → Type 0
IsLawfulGenerated seed count = IsLawfulAlong gen_cluster (gen_events seed count)
