-- The text of a run, and what a replay may come to.
use Rattle.std.specs.Prelude.{◌≡◌, ◌⊎◌, ℕ, Bool, true, false, List, [], ◌∷◌, ◌++◌, map, length, Option, None, Some, is_none, IfSome}
use Rattle.cx_model.specs.Prelude.{Appends, Consumes, IsAtEnd, Event, Status, Rises, below, chosen_prefix, World, change, step, run, start}
use Rattle.cx_base.specs.declared.status.Status.TheVariants as status
use Rattle.cx_edge.specs.Sink.{AppendsPart}
use Rattle.cx_replay.specs.Input.{bad_line, input_of, lines}
use Rattle.cx_replay.specs.ReplayInput.{ReplayInput, Nothing, BadHeader, Lines}
use Rattle.cx_trace.specs.Trace.{event_text, datagrams_text}
use Rattle.cx_trace.specs.Summary.{summary_text}
use Rattle.cx_world.specs.Folded.{folded_of}
use Rattle.cx_world.specs.World.{effect_of}

-- the lines of one event: its result, and what was sent
unfoldable pub step_text : World → Event → List ℕ
step_text w e = event_text e (effect_of w e) ++ datagrams_text (length w.sent) ((change w e).sends)

-- the lines of a list of events from a world on
abbrev pub trace : World → List Event → List ℕ
trace w [] = []
trace w (e ∷ es) = step_text w e ++ trace (step w e) es

-- what is chosen, by the kept votes and rounds alone, and the fold of each replica's kept values
abbrev pub summary : World → List ℕ
summary w = summary_text (chosen_prefix w.kept) (map (λ p. folded_of p w.kept) (below w.cluster.replicas))

-- the summary where there is one
abbrev pub ending : Bool → World → List ℕ
ending true w = summary w
ending false w = []

-- the text of the events before the first bad line
abbrev pub trace_of : ReplayInput → List ℕ
trace_of Nothing = []
trace_of BadHeader = []
trace_of (Lines c spelled) = trace (start c) spelled.events

-- after it the summary, where no line is bad
abbrev pub summary_of : ReplayInput → List ℕ
summary_of Nothing = []
summary_of BadHeader = []
summary_of (Lines c spelled) = ending (is_none spelled.bad) (run c spelled.events)

-- the whole text of an input
abbrev pub text_of : ReplayInput → List ℕ
text_of heard = trace_of heard ++ summary_of heard

-- no line is bad, and the whole text was written
abbrev pub Prints : ReplayInput → Option (List ℕ) → Option (List ℕ) → Type 0
Prints heard old new = (bad_line heard ≡ None) × Appends old new (text_of heard)

-- a source has given bytes with this as their first bad line, whatever comes after them
abbrev pub GivesBadLine : Option (List ℕ) → Option (List ℕ) → ℕ → Type 0
GivesBadLine left left_after line = (bytes : List ℕ) × Consumes left left_after bytes × (bad_line (lines bytes) ≡ Some line)

-- a source has given bytes without a bad line, and the trace of their whole lines was written
abbrev pub PrintsLines : Option (List ℕ) → Option (List ℕ) → Option (List ℕ) → Option (List ℕ) → Type 0
PrintsLines left left_after out out_after =
    (bytes : List ℕ) × Consumes left left_after bytes × (bad_line (lines bytes) ≡ None) × Appends out out_after (trace_of (lines bytes))

-- The result of a replay: its source and sink before and after, what each tells and how often each has failed.
pub record Replayed (left left_after : Option (List ℕ)) (reads reads_after : ℕ) (out out_after : Option (List ℕ)) (writes writes_after : ℕ)
    (s : Status) : Type 0 where
  -- Done: the input was read to its end, no line is bad, and its trace and summary were written.
  pub done : s ≡ status.Done → IfSome left (λ all. Prints (input_of all) out out_after)
  pub at_end : s ≡ status.Done → IsAtEnd left_after
  pub all_read : s ≡ status.Done → reads_after ≡ reads
  -- Bad input: this is the first bad line, and the trace of the lines before it was written. A read has failed only after it.
  pub bad_input : (line : ℕ) → s ≡ status.BadInput line → IfSome left (λ all. bad_line (input_of all) ≡ Some line)
  pub bad_input_out : (line : ℕ) → s ≡ status.BadInput line → IfSome left (λ all. Appends out out_after (trace_of (input_of all)))
  pub bad_input_read : (line : ℕ) → s ≡ status.BadInput line → (reads_after ≡ reads) ⊎ GivesBadLine left left_after line
  -- A read failed: the count rose, no line before it is bad, and the trace of the whole lines was written.
  pub read_fault : s ≡ status.ReadFault → Rises reads reads_after
  pub read_fault_out : s ≡ status.ReadFault → PrintsLines left left_after out out_after
  -- A write failed: the count rose, and a part of the text was written.
  pub write_fault : s ≡ status.WriteFault → Rises writes writes_after
  pub write_fault_out : s ≡ status.WriteFault → IfSome left (λ all. AppendsPart out out_after (text_of (input_of all)))
  -- Out of memory: a part of the text was written.
  pub no_memory_out : s ≡ status.NoMemory → IfSome left (λ all. AppendsPart out out_after (text_of (input_of all)))
  -- A failed write is always reported.
  pub writes_stay : (s ≡ status.WriteFault → ⊥) → writes_after ≡ writes

-- a replay ends with no other status
abbrev pub ComesOfReplay : Status → Type 0
ComesOfReplay status.Done = Unit {0}
ComesOfReplay status.BadWords = ⊥
ComesOfReplay (status.BadInput line) = Unit {0}
ComesOfReplay status.ReadFault = Unit {0}
ComesOfReplay status.WriteFault = Unit {0}
ComesOfReplay status.LinkFault = ⊥
ComesOfReplay (status.StoreFault role) = ⊥
ComesOfReplay status.Turns = ⊥
ComesOfReplay status.NoMemory = Unit {0}
ComesOfReplay (status.BadStore role at) = ⊥
ComesOfReplay (status.NotFresh role) = ⊥
ComesOfReplay status.RecordFull = ⊥

-- how a replay ends where nothing fails: in the first bad line, if there is one
abbrev pub replay_status : Option ℕ → Status
replay_status None = status.Done
replay_status (Some line) = status.BadInput line

-- Without a fault of source or sink a replay ends as its input says, or memory ran out.
abbrev pub ReplayCompletes : Option (List ℕ) → ℕ → ℕ → ℕ → ℕ → Status → Type 0
ReplayCompletes left reads reads_after writes writes_after s = IfSome left (λ all.
    (Rises reads reads_after → ⊥) → (Rises writes writes_after → ⊥) → (s ≡ replay_status (bad_line (input_of all))) ⊎ (s ≡ status.NoMemory))
