-- How much happened in a world.
use Rattle.std.specs.Prelude.{length}
use Rattle.cx_history.specs.Answers.{answers_in, read_answers_in}
use Rattle.cx_model.specs.World.{World}
use Rattle.cx_world.specs.declared.counts.Counts.{Counts}

-- the events, the datagrams, the answers and the answers to reads and session reads that were sent, and the changes of stores
abbrev pub counts_of : World → Counts
counts_of w =
    record {
      events = length w.events;
      datagrams = length w.sent;
      answers = answers_in w.sent;
      reads = read_answers_in w.sent;
      kept = length w.kept;
    }
