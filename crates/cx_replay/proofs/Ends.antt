-- How a replay ends, by its status.
use Rattle.std.proofs.Common.{sym, ap, subst, inl, inr, arith}
use Rattle.cx_model.specs.Prelude.{◌≡◌, ℕ, List, Option, None, Some, refl, IfSome, Appends, IsAtEnd, Status, Rises}
use Rattle.cx_base.specs.declared.status.Status.TheVariants as status
use Rattle.cx_edge.specs.Sink.{AppendsPart}
use Rattle.cx_replay.specs.Input.{bad_line, input_of}
use Rattle.cx_replay.specs.Replay.{replay_status, trace_of, text_of, Prints, PrintsLines, ComesOfReplay, ReplayCompletes, Replayed}

-- each status that comes of a replay has a number of its own
abbrev kind : Status → ℕ
kind status.Done = 0
kind status.BadWords = 1
kind (status.BadInput line) = 2
kind status.ReadFault = 3
kind status.WriteFault = 4
kind status.LinkFault = 5
kind (status.StoreFault role) = 6
kind status.Turns = 7
kind status.NoMemory = 8
kind (status.BadStore role at) = 9
kind (status.NotFresh role) = 10
kind status.RecordFull = 11

abbrev line_of : Status → ℕ
line_of status.Done = 0
line_of status.BadWords = 0
line_of (status.BadInput line) = line
line_of status.ReadFault = 0
line_of status.WriteFault = 0
line_of status.LinkFault = 0
line_of (status.StoreFault role) = 0
line_of status.Turns = 0
line_of status.NoMemory = 0
line_of (status.BadStore role at) = 0
line_of (status.NotFresh role) = 0
line_of status.RecordFull = 0

module _ (left left_after : Option (List ℕ)) (reads reads_after : ℕ) (out out_after : Option (List ℕ)) (writes writes_after : ℕ) where
  abbrev Ends : Status → Type 0
  Ends s = Replayed left left_after reads reads_after out out_after writes writes_after s

  pub done_replayed : IfSome left (λ all. Prints (input_of all) out out_after) → IsAtEnd left_after → reads_after ≡ reads
      → writes_after ≡ writes → Ends status.Done
  done_replayed prints at_end read wrote =
      record {
        done = λ e. prints;
        at_end = λ e. at_end;
        all_read = λ e. read;
        bad_input = λ line e. absurd (omega (arith, ap kind e));
        bad_input_out = λ line e. absurd (omega (arith, ap kind e));
        bad_input_read = λ line e. absurd (omega (arith, ap kind e));
        read_fault = λ e. absurd (omega (arith, ap kind e));
        read_fault_out = λ e. absurd (omega (arith, ap kind e));
        write_fault = λ e. absurd (omega (arith, ap kind e));
        write_fault_out = λ e. absurd (omega (arith, ap kind e));
        no_memory_out = λ e. absurd (omega (arith, ap kind e));
        writes_stay = λ other. wrote;
      }

  pub bad_replayed : (n : ℕ) → IfSome left (λ all. bad_line (input_of all) ≡ Some n) → IfSome left
      (λ all. Appends out out_after (trace_of (input_of all))) → reads_after ≡ reads → writes_after ≡ writes → Ends (status.BadInput n)
  bad_replayed n bad traced read wrote =
      record {
        done = λ e. absurd (omega (arith, ap kind e));
        at_end = λ e. absurd (omega (arith, ap kind e));
        all_read = λ e. absurd (omega (arith, ap kind e));
        bad_input = λ line e. subst (λ k. IfSome left (λ all. bad_line (input_of all) ≡ Some k)) (ap line_of e) bad;
        bad_input_out = λ line e. traced;
        bad_input_read = λ line e. inl read;
        read_fault = λ e. absurd (omega (arith, ap kind e));
        read_fault_out = λ e. absurd (omega (arith, ap kind e));
        write_fault = λ e. absurd (omega (arith, ap kind e));
        write_fault_out = λ e. absurd (omega (arith, ap kind e));
        no_memory_out = λ e. absurd (omega (arith, ap kind e));
        writes_stay = λ other. wrote;
      }

  pub fault_replayed : Rises reads reads_after → PrintsLines left left_after out out_after → writes_after ≡ writes → Ends status.ReadFault
  fault_replayed rises prints wrote =
      record {
        done = λ e. absurd (omega (arith, ap kind e));
        at_end = λ e. absurd (omega (arith, ap kind e));
        all_read = λ e. absurd (omega (arith, ap kind e));
        bad_input = λ line e. absurd (omega (arith, ap kind e));
        bad_input_out = λ line e. absurd (omega (arith, ap kind e));
        bad_input_read = λ line e. absurd (omega (arith, ap kind e));
        read_fault = λ e. rises;
        read_fault_out = λ e. prints;
        write_fault = λ e. absurd (omega (arith, ap kind e));
        write_fault_out = λ e. absurd (omega (arith, ap kind e));
        no_memory_out = λ e. absurd (omega (arith, ap kind e));
        writes_stay = λ other. wrote;
      }

  pub write_replayed : Rises writes writes_after → IfSome left (λ all. AppendsPart out out_after (text_of (input_of all)))
      → Ends status.WriteFault
  write_replayed rises part =
      record {
        done = λ e. absurd (omega (arith, ap kind e));
        at_end = λ e. absurd (omega (arith, ap kind e));
        all_read = λ e. absurd (omega (arith, ap kind e));
        bad_input = λ line e. absurd (omega (arith, ap kind e));
        bad_input_out = λ line e. absurd (omega (arith, ap kind e));
        bad_input_read = λ line e. absurd (omega (arith, ap kind e));
        read_fault = λ e. absurd (omega (arith, ap kind e));
        read_fault_out = λ e. absurd (omega (arith, ap kind e));
        write_fault = λ e. rises;
        write_fault_out = λ e. part;
        no_memory_out = λ e. absurd (omega (arith, ap kind e));
        writes_stay = λ other. absurd (other refl);
      }

  pub memory_replayed : IfSome left (λ all. AppendsPart out out_after (text_of (input_of all))) → writes_after ≡ writes
      → Ends status.NoMemory
  memory_replayed part wrote =
      record {
        done = λ e. absurd (omega (arith, ap kind e));
        at_end = λ e. absurd (omega (arith, ap kind e));
        all_read = λ e. absurd (omega (arith, ap kind e));
        bad_input = λ line e. absurd (omega (arith, ap kind e));
        bad_input_out = λ line e. absurd (omega (arith, ap kind e));
        bad_input_read = λ line e. absurd (omega (arith, ap kind e));
        read_fault = λ e. absurd (omega (arith, ap kind e));
        read_fault_out = λ e. absurd (omega (arith, ap kind e));
        write_fault = λ e. absurd (omega (arith, ap kind e));
        write_fault_out = λ e. absurd (omega (arith, ap kind e));
        no_memory_out = λ e. part;
        writes_stay = λ other. wrote;
      }

-- each other status than Done, bad input and out of memory has its cause
pub completes : (left left_after : Option (List ℕ)) (reads reads_after : ℕ) (out out_after : Option (List ℕ)) (writes writes_after : ℕ)
    (s : Status)
    → Replayed left left_after reads reads_after out out_after writes writes_after s → ComesOfReplay s
    → ReplayCompletes left reads reads_after writes writes_after s
completes None left_after reads reads_after out out_after writes writes_after s r comes = tt
completes (Some all) left_after reads reads_after out out_after writes writes_after status.Done r comes =
    λ no_read no_write. inl (sym (ap replay_status (r.done refl).0))
completes (Some all) left_after reads reads_after out out_after writes writes_after status.BadWords r comes = absurd comes
completes (Some all) left_after reads reads_after out out_after writes writes_after (status.BadInput line) r comes =
    λ no_read no_write. inl (sym (ap replay_status (r.bad_input line refl)))
completes (Some all) left_after reads reads_after out out_after writes writes_after status.ReadFault r comes =
    λ no_read no_write. absurd (no_read (r.read_fault refl))
completes (Some all) left_after reads reads_after out out_after writes writes_after status.WriteFault r comes =
    λ no_read no_write. absurd (no_write (r.write_fault refl))
completes (Some all) left_after reads reads_after out out_after writes writes_after status.LinkFault r comes = absurd comes
completes (Some all) left_after reads reads_after out out_after writes writes_after (status.StoreFault role) r comes = absurd comes
completes (Some all) left_after reads reads_after out out_after writes writes_after status.Turns r comes = absurd comes
completes (Some all) left_after reads reads_after out out_after writes writes_after status.NoMemory r comes = λ no_read no_write. inr refl
completes (Some all) left_after reads reads_after out out_after writes writes_after (status.BadStore role at) r comes = absurd comes
completes (Some all) left_after reads reads_after out out_after writes writes_after (status.NotFresh role) r comes = absurd comes
completes (Some all) left_after reads reads_after out out_after writes writes_after status.RecordFull r comes = absurd comes
