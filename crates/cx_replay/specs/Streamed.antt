-- What was read of an input so far, line by line, and what of it was written.
use Rattle.std.specs.Prelude.{◌≡◌, ◌≤◌, ◌<◌, ◌+◌, ℕ, Bool, false, true, List, [], ◌∷◌, ◌++◌, length, Option, None, Some, option_to_list}
use Rattle.std.specs.Prelude.{IfSome, Result, Ok, Err}
use Rattle.cx_model.specs.Prelude.{Appends, Consumes, IsAtEnd, Cluster, Event, Status, Rises, World, run, run_from, start}
use Rattle.cx_base.specs.declared.status.Status.TheVariants as status
use Rattle.cx_cluster.specs.declared.fault.ClusterFault.{ClusterFault}
use Rattle.cx_edge.specs.Sink.{AppendsPart}
use Rattle.cx_replay.specs.ReplayInput.{Nothing, Lines}
use Rattle.cx_replay.specs.Input.{input_of, lines}
use Rattle.cx_replay.specs.Replay.{summary, text_of, trace, ComesOfReplay, Replayed}
use Rattle.cx_replay.specs.declared.header.HeaderEnd.{HeaderEnd}
use Rattle.cx_replay.specs.declared.header.HeaderEnd.TheVariants as header
use Rattle.cx_replay.specs.declared.header.Joined.{Joined}
use Rattle.cx_replay.specs.declared.header.Joined.TheVariants as joined
use Rattle.cx_replay.specs.declared.running.LinesEnd.{LinesEnd}
use Rattle.cx_replay.specs.declared.running.LinesEnd.TheVariants as end
use Rattle.cx_script.specs.Header.{is_rule, header_and_rest}
use Rattle.cx_script.specs.Lines.{with_line, spelled_from, schedule_of}
use Rattle.cx_script.specs.Unended.{whole_lines}
use Rattle.cx_world.specs.World.{WorldState, world_of}

-- a line of a header ends it, or comes after those before, with its line feed, which fit or don't
abbrev pub Joins : List ℕ → List ℕ → List ℕ → Joined → Type 0
Joins line old new joined.Rule = (is_rule line ≡ true) × (new ≡ old)
Joins line old new joined.Line = (is_rule line ≡ false) × (new ≡ old ++ (line ++ 10 ∷ [])) × (length new ≤ 16384)
Joins line old new joined.Long = (is_rule line ≡ false) × (16384 < length (old ++ (line ++ 10 ∷ [])))
Joins line old new joined.NoMemory = Unit {0}

-- Whole lines were handed out, and what was read after them is buffered; they are a header with this text, whatever comes after.
pub record HasHeader (left now : Option (List ℕ)) (buffered text : List ℕ) : Type 0 where
  pub bytes : List ℕ
  pub whole : whole_lines bytes ≡ bytes
  pub consumed : Consumes left now (bytes ++ buffered)
  pub header : (more : List ℕ) → header_and_rest (bytes ++ more) ≡ Some (text, more)

-- the input was read to its end, and it is a header with this text and nothing after it
pub record IsHeader (left now : Option (List ℕ)) (text : List ℕ) : Type 0 where
  pub bytes : List ℕ
  pub consumed : Consumes left now bytes
  pub at_end : IsAtEnd now
  pub header : header_and_rest bytes ≡ Some (text, [])

-- the result of the reading of a header
abbrev pub ReadsHeader : Option (List ℕ) → Option (List ℕ) → List ℕ → List ℕ → HeaderEnd → Type 0
ReadsHeader left now buffered text header.Whole = HasHeader left now buffered text
ReadsHeader left now buffered text header.Alone = IsHeader left now text
ReadsHeader left now buffered text header.Bad = IfSome left (λ all. header_and_rest all ≡ None)
ReadsHeader left now buffered text header.Failed = (bytes : List ℕ) × Consumes left now bytes × (lines bytes ≡ Nothing)
ReadsHeader left now buffered text header.NoMemory = Unit {0}

-- the cluster that a header says, if it says one
abbrev pub HeaderSays : Option Cluster → Result Cluster ClusterFault → Type 0
HeaderSays (Some c) said = said ≡ Ok c
HeaderSays None said = (fault : ClusterFault) × (said ≡ Err fault)

-- Whole lines were handed out, and what was read after them is buffered; whatever comes after them is the schedule of this cluster.
pub record StandsBehind (left now : Option (List ℕ)) (buffered : List ℕ) (c : Cluster) : Type 0 where
  pub bytes : List ℕ
  pub whole : whole_lines bytes ≡ bytes
  pub consumed : Consumes left now (bytes ++ buffered)
  pub input : (more : List ℕ) → input_of (bytes ++ more) ≡ Lines c (schedule_of c more)

-- the n-th line is an event or none, whatever lines come after it
abbrev pub Spells : Cluster → ℕ → List ℕ → Option Event → Type 0
Spells c n line event = (later : List (List ℕ)) → spelled_from c n (line ∷ later) ≡ with_line n (Ok event) (spelled_from c (n + 1) later)

-- or it is bad
abbrev pub IsBadAt : Cluster → ℕ → List ℕ → Type 0
IsBadAt c n line = (later : List (List ℕ)) → spelled_from c n (line ∷ later) ≡ record { events = []; bad = Some n }

-- the line was run: the world made its event's step, whose text was put after what was printed before
pub record RanLine (c : Cluster) (n : ℕ) (line : List ℕ) (old new : WorldState) (text text_after : List ℕ) : Type 0 where
  pub event : Option Event
  pub spells : Spells c n line event
  pub counted : n ≤ 65535
  pub world : world_of new ≡ run_from (world_of old) (option_to_list event)
  pub unspent : new.spent ≡ false
  pub printed : text_after ≡ text ++ trace (world_of old) (option_to_list event)

-- why a replay stops in the n-th line
abbrev pub StopsIn : Cluster → ℕ → List ℕ → Status → Type 0
StopsIn c n line (status.BadInput at) = (at ≡ n) × IsBadAt c n line
StopsIn c n line status.NoMemory = Unit {0}
StopsIn c n line status.Done = ⊥
StopsIn c n line status.BadWords = ⊥
StopsIn c n line status.ReadFault = ⊥
StopsIn c n line status.WriteFault = ⊥
StopsIn c n line status.LinkFault = ⊥
StopsIn c n line (status.StoreFault role) = ⊥
StopsIn c n line status.Turns = ⊥
StopsIn c n line (status.BadStore role at) = ⊥
StopsIn c n line (status.NotFresh role) = ⊥
StopsIn c n line status.RecordFull = ⊥

-- the result of running the n-th line, which prints nothing where it stops the replay
abbrev pub RunsLine : Cluster → ℕ → List ℕ → WorldState → WorldState → List ℕ → List ℕ
    → Result (Unit {0}) Status → Type 0
RunsLine c n line old new text text_after (Ok done) = RanLine c n line old new text text_after
RunsLine c n line old new text text_after (Err s) = (text_after ≡ text) × StopsIn c n line s

-- the front of a text was written, and this is left of it; or a write failed in it
abbrev pub WritesFront : List ℕ → List ℕ → Option (List ℕ) → Option (List ℕ) → Bool → Type 0
WritesFront text rest out out_after true =
    (front : List ℕ) × (front ++ rest ≡ text) × Appends out out_after front
WritesFront text rest out out_after false = AppendsPart out out_after text

-- the input was read to its end, no line is bad, all events were run, and their trace was written
pub record AtEnd (c : Cluster) (left now : Option (List ℕ)) (w : World) (old out : Option (List ℕ)) : Type 0 where
  pub es : List Event
  pub input : IfSome left (λ all. input_of all ≡ Lines c (record { events = es; bad = None }))
  pub at_end : IsAtEnd now
  pub world : w ≡ run c es
  pub written : Appends old out (trace (start c) es)

-- what holds once the text that is left was written too; and where a part of it was, a part of the whole text was
pub record WritesRest (left old out : Option (List ℕ)) (text : List ℕ) (Holds : Option (List ℕ) → Type 0) : Type 0 where
  pub whole : (last : Option (List ℕ)) → Appends out last text → Holds last
  pub part : (last : Option (List ℕ)) → AppendsPart out last text
      → IfSome left (λ all. AppendsPart old last (text_of (input_of all)))

-- the result of running lines: this text is printed and not yet written
abbrev pub RunsLines : Cluster → Option (List ℕ) → Option (List ℕ) → ℕ → ℕ → Option (List ℕ) → Option (List ℕ) → List ℕ
    → ℕ → ℕ → World → LinesEnd → Type 0
RunsLines c left now reads reads_after old out text writes writes_after w end.Whole =
    (reads_after ≡ reads) × (writes_after ≡ writes) × WritesRest left old out text (λ last. AtEnd c left now w old last)
RunsLines c left now reads reads_after old out text writes writes_after w (end.Stopped s) =
    (writes_after ≡ writes)
    × WritesRest left old out text (λ last. Replayed left now reads reads_after old last writes writes_after s)
RunsLines c left now reads reads_after old out text writes writes_after w end.WriteFault =
    Rises writes writes_after × IfSome left (λ all. AppendsPart old out (text_of (input_of all)))

-- it stops with no other status than a replay ends with
abbrev pub ComesOfLines : LinesEnd → Type 0
ComesOfLines end.Whole = Unit {0}
ComesOfLines (end.Stopped s) = ComesOfReplay s
ComesOfLines end.WriteFault = Unit {0}

-- why a text isn't written whole
abbrev pub StopsWriting : ℕ → ℕ → Status → Type 0
StopsWriting writes writes_after status.WriteFault = Rises writes writes_after
StopsWriting writes writes_after status.NoMemory = writes_after ≡ writes
StopsWriting writes writes_after status.Done = ⊥
StopsWriting writes writes_after (status.BadInput line) = ⊥
StopsWriting writes writes_after status.BadWords = ⊥
StopsWriting writes writes_after status.ReadFault = ⊥
StopsWriting writes writes_after status.LinkFault = ⊥
StopsWriting writes writes_after (status.StoreFault role) = ⊥
StopsWriting writes writes_after status.Turns = ⊥
StopsWriting writes writes_after (status.BadStore role at) = ⊥
StopsWriting writes writes_after (status.NotFresh role) = ⊥
StopsWriting writes writes_after status.RecordFull = ⊥

-- a text was written, or a part of it
abbrev pub WritesText : List ℕ → Option (List ℕ) → Option (List ℕ) → ℕ → ℕ → Result (Unit {0}) Status → Type 0
WritesText text out out_after writes writes_after (Ok done) = Appends out out_after text × (writes_after ≡ writes)
WritesText text out out_after writes writes_after (Err s) = AppendsPart out out_after text × StopsWriting writes writes_after s

-- the result of writing the summary of a run
abbrev pub Sums : World → Option (List ℕ) → Option (List ℕ) → ℕ → ℕ → Status → Type 0
Sums w out out_after writes writes_after status.Done = Appends out out_after (summary w) × (writes_after ≡ writes)
Sums w out out_after writes writes_after status.WriteFault = AppendsPart out out_after (summary w) × Rises writes writes_after
Sums w out out_after writes writes_after status.NoMemory = AppendsPart out out_after (summary w) × (writes_after ≡ writes)
Sums w out out_after writes writes_after (status.BadInput line) = ⊥
Sums w out out_after writes writes_after status.BadWords = ⊥
Sums w out out_after writes writes_after status.ReadFault = ⊥
Sums w out out_after writes writes_after status.LinkFault = ⊥
Sums w out out_after writes writes_after (status.StoreFault role) = ⊥
Sums w out out_after writes writes_after status.Turns = ⊥
Sums w out out_after writes writes_after (status.BadStore role at) = ⊥
Sums w out out_after writes writes_after (status.NotFresh role) = ⊥
Sums w out out_after writes writes_after status.RecordFull = ⊥
