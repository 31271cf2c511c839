-- Generated runs: their events, and the short summary of a run.
use Rattle.std.specs.Prelude.{◌≡◌, ◌⊎◌, ℕ, zero, suc, List, [], ◌∷◌, ◌++◌, map, length, codes, decimal, Option}
use Rattle.std.specs.Io.KnownBytes.{Keeps}
use Rattle.cx_model.specs.Prelude.{Appends, Event, Status, Rises, below, chosen_prefix, World, run}
use Rattle.cx_base.specs.declared.status.Status.TheVariants as status
use Rattle.cx_edge.specs.Sink.{AppendsPart}
use Rattle.cx_script.specs.Generator.{GeneratorState, gen_cluster, next_event, next_state}
use Rattle.cx_trace.specs.Summary.{replicas_text}
use Rattle.cx_history.specs.Answers.{answers_in, read_answers_in}
use Rattle.cx_world.specs.Folded.{folded_of}

-- the generator of a seed after this many events
abbrev pub gen_state : ℕ → ℕ → GeneratorState
gen_state seed zero = record { x = seed; made = 0 }
gen_state seed (suc made) = next_state (gen_state seed made)

-- these events and the next: it is made from its draws, and from how many datagrams the run of these events sent
abbrev pub with_next : GeneratorState → List Event → List Event
with_next g es = es ++ next_event g (length (run gen_cluster es).sent) ∷ []

-- this many events of a seed
abbrev pub gen_events : ℕ → ℕ → List Event
gen_events seed zero = []
gen_events seed (suc count) = with_next (gen_state seed count) (gen_events seed count)

-- the line of a count
unfoldable pub count_line : List ℕ → ℕ → List ℕ
count_line name count = name ++ codes " " ++ decimal count ++ codes "\n"

-- how much happened in a run: its events, the datagrams, answers and answers to reads that were sent, and the changes of stores
unfoldable pub counts_text : World → List ℕ
counts_text w =
    count_line (codes "events") (length w.events) ++ count_line (codes "datagrams") (length w.sent)
    ++ count_line (codes "answers") (answers_in w.sent) ++ count_line (codes "reads") (read_answers_in w.sent)
    ++ count_line (codes "kept") (length w.kept)

-- after the counts, how many values are chosen, and the fold of each replica's kept values
unfoldable pub short_summary : World → List ℕ
short_summary w =
    counts_text w ++ count_line (codes "chosen") (length (chosen_prefix w.kept))
    ++ replicas_text 0 (map (λ p. folded_of p w.kept) (below w.cluster.replicas))

-- the text of a generated run
abbrev pub gen_text : ℕ → ℕ → List ℕ
gen_text seed count = short_summary (run gen_cluster (gen_events seed count))

-- The result of generating this many events of a seed: its sink before and after, and how often it has failed.
pub record Generated (seed count : ℕ) (out out_after : Option (List ℕ)) (writes writes_after : ℕ) (s : Status) : Type 0 where
  -- Done: the text of the run was written.
  pub done : s ≡ status.Done → Appends out out_after (gen_text seed count)
  -- A write failed: the count rose, and a part of the text was written.
  pub write_fault : s ≡ status.WriteFault → Rises writes writes_after
  pub write_fault_out : s ≡ status.WriteFault → AppendsPart out out_after (gen_text seed count)
  -- Out of memory: nothing was written.
  pub no_memory_out : s ≡ status.NoMemory → Keeps out out_after
  -- A failed write is always reported.
  pub writes_stay : (s ≡ status.WriteFault → ⊥) → writes_after ≡ writes

-- it ends with no other status
abbrev pub ComesOfGen : Status → Type 0
ComesOfGen status.Done = Unit {0}
ComesOfGen status.BadWords = ⊥
ComesOfGen (status.BadInput line) = ⊥
ComesOfGen status.ReadFault = ⊥
ComesOfGen status.WriteFault = Unit {0}
ComesOfGen status.LinkFault = ⊥
ComesOfGen (status.StoreFault role) = ⊥
ComesOfGen status.Turns = ⊥
ComesOfGen status.NoMemory = Unit {0}
ComesOfGen (status.BadStore role at) = ⊥
ComesOfGen (status.NotFresh role) = ⊥
ComesOfGen status.RecordFull = ⊥

-- Without a fault of the sink the answer is Done, or memory ran out.
abbrev pub GenCompletes : ℕ → ℕ → Status → Type 0
GenCompletes writes writes_after s = (Rises writes writes_after → ⊥) → (s ≡ status.Done) ⊎ (s ≡ status.NoMemory)
