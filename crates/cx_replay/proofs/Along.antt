-- What was handed out so far are whole lines that were run, and the definition at what is to come makes the definition at all.
use Rattle.std.proofs.Common.{sym, ap, ◌∙◌, subst, append_assoc, append-nil, arith}
use Rattle.std.proofs.KnownBytes.{Appends-nil, Appends-trans, Consumes-whole}
use Rattle.cx_model.specs.Prelude.{◌≡◌, ◌<◌, ◌+◌, ◌++◌, ℕ, true, List, [], ◌∷◌, length, refl, Option, None, Some, option_to_list}
use Rattle.cx_model.specs.Prelude.{if◌then◌else◌, IfSome, Appends, Consumes, IsAtEnd, strip_carriage_return, Cluster, Event, Status, Rises}
use Rattle.cx_model.specs.Prelude.{World, run, run_from, start}
use Rattle.cx_base.specs.declared.status.Status.TheVariants as status
use Rattle.cx_edge.specs.Lines.{LinesState, Hands, BeginsLong, IsOpenLine, GivesLine, GivesLast}
use Rattle.cx_edge.specs.Sink.{AppendsPart}
use Rattle.cx_replay.specs.ReplayInput.{ReplayInput, Nothing, BadHeader, Lines}
use Rattle.cx_replay.specs.Input.{bad_line, header_says, input_of, lines}
use Rattle.cx_replay.specs.Replay.{summary, trace, trace_of, summary_of, text_of, Prints, PrintsLines, ComesOfReplay, Replayed}
use Rattle.cx_replay.specs.Streamed.{AtEnd, WritesRest, StandsBehind, Spells, IsBadAt, StopsIn, Sums, WritesFront}
use Rattle.cx_replay.proofs.Ends.{done_replayed, bad_replayed, fault_replayed, write_replayed, memory_replayed}
use Rattle.cx_replay.proofs.Pieces.{Writing, writing_begins, writing_goes, writing_grows, writing_part, writing_whole}
use Rattle.cx_replay.proofs.Texts.{trace_append, run_append, part_of_more, part_whole, then_part}
use Rattle.cx_replay.proofs.WholeText.{counted_open, text_push, free_push, line_first, hands_on, hands_held, of_all, some_map}
use Rattle.cx_script.specs.Header.{header_and_rest}
use Rattle.cx_script.specs.Input.{begun_input, of_header, whole_input}
use Rattle.cx_script.specs.Lines.{ParsedLines, spelled_from, lines_of, schedule_of}
use Rattle.cx_script.specs.Unended.{but_last, lines_text, settled_text, is_long_header}
use Rattle.cx_script.proofs.Feeds.{IsFree, AreFree, whole_free, lines_of_unended, first_line_of}
use Rattle.cx_script.proofs.GoesOn.{some_byte, spelled_long}
use Rattle.cx_script.proofs.Schedules.{after}
use Rattle.cx_script.proofs.WholeLines.{parts}

-- whole lines were handed out, n of them after the header, their events run, and the trace of these written but for this text
pub record Along (c : Cluster) (left now : Option (List ℕ)) (buffered : List ℕ) (n : ℕ) (w : World) (old out : Option (List ℕ))
    (text : List ℕ) (writes writes_now : ℕ) : Type 0 where
  pub ls : List (List ℕ)
  pub free : AreFree ls
  pub consumed : Consumes left now (lines_text ls ++ buffered)
  pub es : List Event
  pub input : (more : List ℕ) → input_of (lines_text ls ++ more) ≡ Lines c (after es (spelled_from c (n + 1) (lines_of more)))
  pub world : w ≡ run c es
  pub written : Writing (trace (start c) es) text old out writes writes_now

pub begins_along : (c : Cluster) (left now : Option (List ℕ)) (buffered : List ℕ) (old : Option (List ℕ)) (writes : ℕ)
    → StandsBehind left now buffered c → Along c left now buffered 0 (start c) old old [] writes writes
unfolding schedule_of
begins_along c left now buffered old writes b =
    record {
      ls = but_last (parts b.bytes);
      free = whole_free b.bytes;
      consumed = subst (λ l. Consumes left now (l ++ buffered)) (sym b.whole) b.consumed;
      es = [];
      input = λ more. ap (λ l. input_of (l ++ more)) b.whole ∙ b.input more;
      world = refl;
      written = writing_begins [] old writes;
    }

-- the text of all begins with the trace of the events so far
begins_text : (c : Cluster) (es : List Event) (later : ParsedLines) (old out : Option (List ℕ)) → AppendsPart old out (trace (start c) es)
    → AppendsPart old out (text_of (Lines c (after es later)))
begins_text c es later old out part =
    part_of_more old out (trace (start c) (es ++ later.events)) (summary_of (Lines c (after es later))) (subst (AppendsPart old out)
    (sym (trace_append (start c) es later.events)) (part_of_more old out (trace (start c) es) (trace (run c es) later.events) part))

-- what is to come begins with this line
abbrev pub Faces : Option (List ℕ) → Cluster → List Event → ℕ → List ℕ → Type 0
Faces left c es n line =
    IfSome left (λ all. (later : List (List ℕ)) × (input_of all ≡ Lines c (after es (spelled_from c n (line ∷ later)))))

-- this line is bad
abbrev pub IsBad : Option (List ℕ) → Cluster → List Event → ℕ → Type 0
IsBad left c es n = IfSome left (λ all. input_of all ≡ Lines c (after es (record { events = []; bad = Some n })))

module _ (c : Cluster) (left now : Option (List ℕ)) (buffered : List ℕ) (n : ℕ) (w : World) (old out : Option (List ℕ)) (text : List ℕ)
    (writes writes_now : ℕ) (a : Along c left now buffered n w old out text writes writes_now) where
  pub faces_line : (next : Option (List ℕ)) (buffered_next part : List ℕ) → IsFree part
      → Hands now next buffered buffered_next (part ++ 10 ∷ []) → Faces left c a.es (n + 1) (strip_carriage_return part)
  faces_line next buffered_next part free h =
      let line = part ++ 10 ∷ [] in
      of_all left next ((lines_text a.ls ++ line) ++ buffered_next)
      (λ all. (later : List (List ℕ)) × (input_of all ≡ Lines c (after a.es (spelled_from c (n + 1) (strip_carriage_return part ∷ later)))))
      (hands_on left now next (lines_text a.ls) buffered buffered_next line a.consumed h)
      (λ more. (
        lines_of (buffered_next ++ more),
        ap input_of
            (append_assoc (lines_text a.ls ++ line) buffered_next more ∙ append_assoc (lines_text a.ls) line (buffered_next ++ more))
            ∙ a.input (line ++ (buffered_next ++ more))
            ∙ ap (λ ls. Lines c (after a.es (spelled_from c (n + 1) ls))) (line_first part (buffered_next ++ more) free),
      ))

  pub faces_last : (next : Option (List ℕ)) (part : List ℕ) → IsFree part → 0 < length part → Hands now next buffered [] part → IsAtEnd next
      → Faces left c a.es (n + 1) (strip_carriage_return part)
  faces_last next part free some h at_end = Consumes-whole left next ((lines_text a.ls ++ part) ++ [])
      (λ all. (later : List (List ℕ)) × (input_of all ≡ Lines c (after a.es (spelled_from c (n + 1) (strip_carriage_return part ∷ later)))))
      (hands_on left now next (lines_text a.ls) buffered [] part a.consumed h) at_end (
        [],
        ap input_of (append-nil (lines_text a.ls ++ part)) ∙ a.input part
            ∙ ap (λ ls. Lines c (after a.es (spelled_from c (n + 1) ls))) (lines_of_unended part free some),
      )

  pub faces_long : (next : Option (List ℕ)) (buffered_next : List ℕ) → Hands now next buffered buffered_next []
      → BeginsLong 1024 buffered_next → IsBad left c a.es (n + 1)
  faces_long next buffered_next h long = of_all left next (lines_text a.ls ++ buffered_next)
      (λ all. input_of all ≡ Lines c (after a.es (record { events = []; bad = Some (n + 1) })))
      (hands_held left now next (lines_text a.ls) buffered buffered_next a.consumed h)
      (λ more.
      let first = first_line_of long.part (long.behind ++ more) long.free (some_byte long.part (omega (arith, long.long))) in
      let whole : buffered_next ++ more ≡ long.part ++ (long.behind ++ more) =
      ap (λ l. l ++ more) long.is ∙ append_assoc long.part long.behind more in
      ap input_of (append_assoc (lines_text a.ls) buffered_next more) ∙ a.input (buffered_next ++ more)
      ∙ ap (λ ls. Lines c (after a.es (spelled_from c (n + 1) ls))) (ap lines_of whole ∙ first.is)
      ∙ ap (λ s. Lines c (after a.es s)) (spelled_long c (n + 1) first.line first.lines (omega (arith, long.long, first.longer))))

  -- the front of the text was written
  pub writes_along : (rest : List ℕ) (out_next : Option (List ℕ)) (writes_next : ℕ) → WritesFront text rest out out_next true
      → writes_next ≡ writes_now → Along c left now buffered n w old out_next rest writes writes_next
  writes_along rest out_next writes_next front still =
      record {
        ls = a.ls;
        free = a.free;
        consumed = a.consumed;
        es = a.es;
        input = a.input;
        world = a.world;
        written = writing_goes (trace (start c) a.es) old out out_next writes writes_now writes_next front.0 rest tt
            (subst (λ l. Writing (trace (start c) a.es) l old out writes writes_now) (sym front.1) a.written) (front.2, still);
      }

  -- more events were run
  grows : (text_next : List ℕ) (event : Option Event) → text_next ≡ text ++ trace w (option_to_list event)
      → Writing (trace (start c) (a.es ++ option_to_list event)) text_next old out writes writes_now
  grows text_next event printed =
      let events = option_to_list event in
      subst (λ l. Writing l text_next old out writes writes_now) (sym (trace_append (start c) a.es events))
      (subst (λ l. Writing (trace (start c) a.es ++ trace (run c a.es) events) l old out writes writes_now)
      (sym (printed ∙ ap (λ v. text ++ trace v events) a.world))
      (writing_grows (trace (start c) a.es) text (trace (run c a.es) events) old out writes writes_now a.written))

  -- a line was run
  pub goes_along : (next : Option (List ℕ)) (buffered_next part : List ℕ) (event : Option Event) (w_next : World) (text_next : List ℕ)
      → IsFree part → Hands now next buffered buffered_next (part ++ 10 ∷ [])
      → Spells c (n + 1) (strip_carriage_return part) event → w_next ≡ run_from w (option_to_list event) → text_next
      ≡ text ++ trace w (option_to_list event) → Along c left next buffered_next (n + 1) w_next old out text_next writes writes_now
  goes_along next buffered_next part event w_next text_next free h spells world printed =
      let line = part ++ 10 ∷ [] in
      let events = option_to_list event in
      record {
        ls = a.ls ++ part ∷ [];
        free = free_push a.ls part a.free free;
        consumed = subst (λ l. Consumes left next (l ++ buffered_next)) (sym (text_push a.ls part))
            (hands_on left now next (lines_text a.ls) buffered buffered_next line a.consumed h);
        es = a.es ++ events;
        input = λ more.
            let later = spelled_from c (n + 1 + 1) (lines_of more) in
            ap (λ l. input_of (l ++ more)) (text_push a.ls part) ∙ ap input_of (append_assoc (lines_text a.ls) line more)
            ∙ a.input (line ++ more) ∙ ap (λ ls. Lines c (after a.es (spelled_from c (n + 1) ls))) (line_first part more free)
            ∙ ap (λ s. Lines c (after a.es s)) (spells (lines_of more))
            ∙ ap (λ (es : List Event). Lines c (record { events = es; bad = later.bad })) (sym (append_assoc a.es events later.events));
        world = world ∙ ap (λ v. run_from v events) a.world ∙ sym (run_append (start c) a.es events);
        written = grows text_next event printed;
      }

  -- as much as was written is a part of the text of all
  along_part : (last : Option (List ℕ)) → AppendsPart old last (trace (start c) a.es)
      → IfSome left (λ all. AppendsPart old last (text_of (input_of all)))
  along_part last part =
      of_all left now (lines_text a.ls ++ buffered) (λ all. AppendsPart old last (text_of (input_of all))) a.consumed
      (λ more. subst (λ h. AppendsPart old last (text_of h)) (sym (ap input_of (append_assoc (lines_text a.ls) buffered more)
      ∙ a.input (buffered ++ more))) (begins_text c a.es (spelled_from c (n + 1) (lines_of (buffered ++ more))) old last part))

  -- a write failed in the text
  pub fails_along : (last : Option (List ℕ)) → AppendsPart out last text
      → IfSome left (λ all. AppendsPart old last (text_of (input_of all)))
  fails_along last part =
      along_part last (writing_part (trace (start c) a.es) old out last writes writes_now writes_now text a.written part)

  -- what holds where the trace is written whole
  leaves_along : (Holds : Option (List ℕ) → Type 0) → ((last : Option (List ℕ)) → Appends old last (trace (start c) a.es)
      → IfSome left (λ all. AppendsPart old last (text_of (input_of all))) → Holds last) → WritesRest left old out text Holds
  leaves_along Holds each =
      record {
        whole = λ last p.
            let written = writing_whole (trace (start c) a.es) old out last writes writes_now writes_now text a.written p in
            each last written (along_part last (part_whole old last (trace (start c) a.es) written));
        part = fails_along;
      }

-- the input was read to its end, no line is bad, all events were run, and their trace was written but for this text
record Ended (c : Cluster) (left now : Option (List ℕ)) (w : World) (old out : Option (List ℕ)) (text : List ℕ)
    (writes writes_now : ℕ) : Type 0 where
  es : List Event
  input : IfSome left (λ all. input_of all ≡ Lines c (record { events = es; bad = None }))
  at_end : IsAtEnd now
  world : w ≡ run c es
  written : Writing (trace (start c) es) text old out writes writes_now

nothing_more : (es : List Event) → after es (record { events = []; bad = None }) ≡ record { events = es; bad = None }
nothing_more es = ap (λ (l : List Event). record { events = l; bad = None }) (append-nil es)

leaves_ended : (c : Cluster) (left now : Option (List ℕ)) (w : World) (old out : Option (List ℕ)) (text : List ℕ) (writes writes_now : ℕ)
    → Ended c left now w old out text writes writes_now → WritesRest left old out text (λ last. AtEnd c left now w old last)
leaves_ended c left now w old out text writes writes_now e =
    record {
      whole = λ last p.
          record {
            es = e.es;
            input = e.input;
            at_end = e.at_end;
            world = e.world;
            written = writing_whole (trace (start c) e.es) old out last writes writes_now writes_now text e.written p;
          };
      part = λ last p. some_map left (λ all. input_of all ≡ Lines c (record { events = e.es; bad = None }))
          (λ all. AppendsPart old last (text_of (input_of all))) (λ all is. subst (λ h. AppendsPart old last (text_of h)) (sym is)
          (part_of_more old last (trace (start c) e.es) (summary (run c e.es))
          (writing_part (trace (start c) e.es) old out last writes writes_now writes_now text e.written p))) e.input;
    }

module _ (c : Cluster) (left now next : Option (List ℕ)) (buffered : List ℕ) (n : ℕ) (w : World) (old out : Option (List ℕ)) (text : List ℕ)
    (writes writes_now : ℕ) (a : Along c left now buffered n w old out text writes writes_now) where
  pub ends_along : Hands now next buffered [] [] → IsAtEnd next → WritesRest left old out text (λ last. AtEnd c left next w old last)
  ends_along h at_end =
      leaves_ended c left next w old out text writes writes_now
      (record {
        es = a.es;
        input = Consumes-whole left next (lines_text a.ls ++ []) (λ all. input_of all ≡ Lines c (record { events = a.es; bad = None }))
            (hands_held left now next (lines_text a.ls) buffered [] a.consumed h) at_end (a.input [] ∙ ap (Lines c) (nothing_more a.es));
        at_end = at_end;
        world = a.world;
        written = a.written;
      })

  -- the last line was run
  pub ends_last : (part : List ℕ) (event : Option Event) (w_next : World) (text_next : List ℕ) → IsFree part → 0 < length part
      → Hands now next buffered [] part → IsAtEnd next
      → Spells c (n + 1) (strip_carriage_return part) event → w_next ≡ run_from w (option_to_list event)
      → text_next ≡ text ++ trace w (option_to_list event) → WritesRest left old out text_next (λ last. AtEnd c left next w_next old last)
  ends_last part event w_next text_next free some h at_end spells world printed =
      let events = option_to_list event in
      leaves_ended c left next w_next old out text_next writes writes_now
      (record {
        es = a.es ++ events;
        input = Consumes-whole left next ((lines_text a.ls ++ part) ++ [])
            (λ all. input_of all ≡ Lines c (record { events = a.es ++ events; bad = None }))
            (hands_on left now next (lines_text a.ls) buffered [] part a.consumed h) at_end
            (ap input_of (append-nil (lines_text a.ls ++ part)) ∙ a.input part
            ∙ ap (λ ls. Lines c (after a.es (spelled_from c (n + 1) ls))) (lines_of_unended part free some)
            ∙ ap (λ s. Lines c (after a.es s)) (spells [])
            ∙ ap (λ (es : List Event). Lines c (record { events = a.es ++ es; bad = None })) (append-nil events));
        at_end = at_end;
        world = world ∙ ap (λ v. run_from v events) a.world ∙ sym (run_append (start c) a.es events);
        written = grows c left now buffered n w old out text writes writes_now a text_next event printed;
      })

-- a header alone has no events
pub ends_alone : (c : Cluster) (left now old : Option (List ℕ)) (bytes : List ℕ) → Consumes left now bytes → IsAtEnd now
    → input_of bytes ≡ Lines c (schedule_of c []) → AtEnd c left now (start c) old old
unfolding schedule_of
ends_alone c left now old bytes consumed at_end is =
    record {
      es = [];
      input = Consumes-whole left now bytes (λ all. input_of all ≡ Lines c (record { events = []; bad = None })) consumed at_end is;
      at_end = at_end;
      world = refl;
      written = Appends-nil old;
    }

-- the summary comes after the trace
module _ (c : Cluster) (left now : Option (List ℕ)) (w : World) (old mid out : Option (List ℕ)) (reads reads_after writes writes_after : ℕ)
    (still : reads_after ≡ reads) (a : AtEnd c left now w old mid) where
  abbrev whole_text : List ℕ
  whole_text = trace (start c) a.es ++ summary (run c a.es)

  text_is : (all : List ℕ) → input_of all ≡ Lines c (record { events = a.es; bad = None }) → whole_text ≡ text_of (input_of all)
  text_is all is = sym (ap text_of is)

  summed_part : AppendsPart mid out (summary w) → IfSome left (λ all. AppendsPart old out (text_of (input_of all)))
  summed_part part = some_map left (λ all. input_of all ≡ Lines c (record { events = a.es; bad = None }))
      (λ all. AppendsPart old out (text_of (input_of all)))
      (λ all is. subst (AppendsPart old out) (text_is all is) (then_part old mid out (trace (start c) a.es) (summary (run c a.es)) a.written
      (subst (λ v. AppendsPart mid out (summary v)) a.world part))) a.input

  summed : Appends mid out (summary w) → IfSome left (λ all. Prints (input_of all) old out)
  summed whole =
      some_map left (λ all. input_of all ≡ Lines c (record { events = a.es; bad = None })) (λ all. Prints (input_of all) old out)
      (λ all is. (
        ap bad_line is,
        subst (Appends old out) (text_is all is) (Appends-trans old mid out (trace (start c) a.es) (summary (run c a.es)) a.written
            (subst (λ v. Appends mid out (summary v)) a.world whole)),
      )) a.input

  pub sums_replayed : (s : Status) → Sums w mid out writes writes_after s
      → Replayed left now reads reads_after old out writes writes_after s
  sums_replayed status.Done t = done_replayed left now reads reads_after old out writes writes_after (summed t.0) a.at_end still t.1
  sums_replayed status.WriteFault t = write_replayed left now reads reads_after old out writes writes_after t.1 (summed_part t.0)
  sums_replayed status.NoMemory t = memory_replayed left now reads reads_after old out writes writes_after (summed_part t.0) t.1
  sums_replayed (status.BadInput line) t = absurd t
  sums_replayed status.BadWords t = absurd t
  sums_replayed status.ReadFault t = absurd t
  sums_replayed status.LinkFault t = absurd t
  sums_replayed (status.StoreFault role) t = absurd t
  sums_replayed status.Turns t = absurd t
  sums_replayed (status.BadStore role at) t = absurd t
  sums_replayed (status.NotFresh role) t = absurd t
  sums_replayed status.RecordFull t = absurd t

pub sums_comes : (w : World) (out out_after : Option (List ℕ)) (writes writes_after : ℕ) (s : Status)
    → Sums w out out_after writes writes_after s → ComesOfReplay s
sums_comes w out out_after writes writes_after status.Done t = tt
sums_comes w out out_after writes writes_after status.WriteFault t = tt
sums_comes w out out_after writes writes_after status.NoMemory t = tt
sums_comes w out out_after writes writes_after (status.BadInput line) t = tt
sums_comes w out out_after writes writes_after status.BadWords t = t
sums_comes w out out_after writes writes_after status.ReadFault t = tt
sums_comes w out out_after writes writes_after status.LinkFault t = t
sums_comes w out out_after writes writes_after (status.StoreFault role) t = t
sums_comes w out out_after writes writes_after status.Turns t = t
sums_comes w out out_after writes writes_after (status.BadStore role at) t = t
sums_comes w out out_after writes writes_after (status.NotFresh role) t = t
sums_comes w out out_after writes writes_after status.RecordFull t = t

-- a bad line after the trace of those before it
module _ (c : Cluster) (left now : Option (List ℕ)) (reads reads_after : ℕ) (old out : Option (List ℕ)) (writes writes_after : ℕ)
    (es : List Event) (n : ℕ) where
  pub bad_stops : IsBad left c es n → Appends old out (trace (start c) es) → reads_after ≡ reads → writes_after ≡ writes
      → Replayed left now reads reads_after old out writes writes_after (status.BadInput n)
  bad_stops bad written read wrote =
      bad_replayed left now reads reads_after old out writes writes_after n
      (some_map left (λ all. input_of all ≡ Lines c (after es (record { events = []; bad = Some n })))
      (λ all. bad_line (input_of all) ≡ Some n) (λ all is. ap bad_line is) bad)
      (some_map left (λ all. input_of all ≡ Lines c (after es (record { events = []; bad = Some n })))
      (λ all. Appends old out (trace_of (input_of all)))
      (λ all is. subst (Appends old out) (ap (trace (start c)) (sym (append-nil es)) ∙ sym (ap trace_of is)) written) bad)
      read wrote

-- the replay stops in a line
module _ (c : Cluster) (left now : Option (List ℕ)) (reads reads_after : ℕ) (old out : Option (List ℕ)) (writes writes_after : ℕ)
    (es : List Event) (n : ℕ) (line : List ℕ)
    (still : reads_after ≡ reads) (wrote : writes_after ≡ writes) (faces : Faces left c es n line) where
  abbrev FacesIn : List ℕ → Type 0
  FacesIn all = (later : List (List ℕ)) × (input_of all ≡ Lines c (after es (spelled_from c n (line ∷ later))))

  line_bad : IsBadAt c n line → IsBad left c es n
  line_bad bad = some_map left FacesIn (λ all. input_of all ≡ Lines c (after es (record { events = []; bad = Some n })))
      (λ all (later, is). is ∙ ap (λ s. Lines c (after es s)) (bad later)) faces

  stops_replayed : (s : Status) → StopsIn c n line s → Appends old out (trace (start c) es) → IfSome left
      (λ all. AppendsPart old out (text_of (input_of all))) → Replayed left now reads reads_after old out writes writes_after s
  stops_replayed (status.BadInput at) t written part =
      subst (λ k. Replayed left now reads reads_after old out writes writes_after (status.BadInput k)) (sym t.0)
      (bad_stops c left now reads reads_after old out writes writes_after es n (line_bad t.1) written still wrote)
  stops_replayed status.NoMemory t written part = memory_replayed left now reads reads_after old out writes writes_after part wrote
  stops_replayed status.WriteFault t written part = absurd t
  stops_replayed status.Done t written part = absurd t
  stops_replayed status.BadWords t written part = absurd t
  stops_replayed status.ReadFault t written part = absurd t
  stops_replayed status.LinkFault t written part = absurd t
  stops_replayed (status.StoreFault role) t written part = absurd t
  stops_replayed status.Turns t written part = absurd t
  stops_replayed (status.BadStore role at) t written part = absurd t
  stops_replayed (status.NotFresh role) t written part = absurd t
  stops_replayed status.RecordFull t written part = absurd t

pub stops_comes : (c : Cluster) (n : ℕ) (line : List ℕ) (s : Status) → StopsIn c n line s → ComesOfReplay s
stops_comes c n line (status.BadInput at) t = tt
stops_comes c n line status.WriteFault t = tt
stops_comes c n line status.NoMemory t = tt
stops_comes c n line status.Done t = tt
stops_comes c n line status.BadWords t = t
stops_comes c n line status.ReadFault t = tt
stops_comes c n line status.LinkFault t = t
stops_comes c n line (status.StoreFault role) t = t
stops_comes c n line status.Turns t = t
stops_comes c n line (status.BadStore role at) t = t
stops_comes c n line (status.NotFresh role) t = t
stops_comes c n line status.RecordFull t = t

-- a header was found, so that it counts which bytes come before it
same_found : (found : Option (List ℕ × List ℕ)) (without : ReplayInput) (c : Cluster) (s : ParsedLines)
    → of_header header_says found BadHeader ≡ Lines c s → of_header header_says found without ≡ Lines c s
same_found None without c s is = cc
same_found (Some parts) without c s is = is

-- what the loop knows of the next line, and how it stops there
module _ (c : Cluster) (left now next : Option (List ℕ)) (n : ℕ) (w : World) (lines_old lines_next : LinesState) (old out : Option (List ℕ))
    (text : List ℕ) (reads reads_after writes writes_now : ℕ)
    (a : Along c left now lines_old.buffered n w old out text writes writes_now) where
  abbrev Stops : List ℕ → Status → Type 0
  Stops text_after s =
      (writes_now ≡ writes) × WritesRest left old out text_after (λ last. Replayed left next reads reads_after old last writes writes_now s)

  stops_facing : (line : List ℕ) → Faces left c a.es (n + 1) line → reads_after ≡ reads → (text_after : List ℕ) (s : Status)
      → (text_after ≡ text) × StopsIn c (n + 1) line s → Stops text_after s
  stops_facing line faces read text_after s (same, stops) = (
    a.written.still,
    subst (λ l. WritesRest left old out l (λ last. Replayed left next reads reads_after old last writes writes_now s)) (sym same)
        (leaves_along c left now lines_old.buffered n w old out text writes writes_now a
        (λ last. Replayed left next reads reads_after old last writes writes_now s)
        (λ last written part. stops_replayed c left next reads reads_after old last writes writes_now a.es (n + 1) line read a.written.still
        faces s stops written part)),
  )

  pub stops_at_line : reads_after ≡ reads → (line : List ℕ) → line ≡ lines_next.text → GivesLine 1024 now next lines_old lines_next
      → (text_after : List ℕ) (s : Status) → (text_after ≡ text) × StopsIn c (n + 1) line s → Stops text_after s
  stops_at_line read line is gives =
      stops_facing line (subst (Faces left c a.es (n + 1)) (sym (is ∙ gives.text)) (faces_line c left now lines_old.buffered n w old out
      text writes writes_now a next lines_next.buffered gives.part gives.free gives.hands)) read

  pub stops_at_last : reads_after ≡ reads → (line : List ℕ) → line ≡ lines_next.text → GivesLast 1024 now next lines_old lines_next
      → (text_after : List ℕ) (s : Status) → (text_after ≡ text) × StopsIn c (n + 1) line s → Stops text_after s
  stops_at_last read line is gives =
      stops_facing line (subst (Faces left c a.es (n + 1)) (sym (is ∙ gives.text)) (faces_last c left now lines_old.buffered n w old out
      text writes writes_now a next gives.part gives.free gives.some gives.hands gives.at_end)) read

  pub stops_long : reads_after ≡ reads → Hands now next lines_old.buffered lines_next.buffered [] → BeginsLong 1024 lines_next.buffered
      → Stops text (status.BadInput (n + 1))
  stops_long read hands long = (
    a.written.still,
    leaves_along c left now lines_old.buffered n w old out text writes writes_now a
        (λ last. Replayed left next reads reads_after old last writes writes_now (status.BadInput (n + 1)))
        (λ last written part. bad_stops c left next reads reads_after old last writes writes_now a.es (n + 1) (faces_long c left now
        lines_old.buffered n w old out text writes writes_now a next lines_next.buffered hands long) written read a.written.still),
  )

  -- the lines that were read whole say what was run
  prints_lines : Hands now next lines_old.buffered lines_next.buffered [] → IsOpenLine 1024 lines_next.buffered → (last : Option (List ℕ))
      → Appends old last (trace (start c) a.es) → PrintsLines left next old last
  unfolding begun_input whole_input
  prints_lines h open_yet last written =
      let bytes = lines_text a.ls ++ lines_next.buffered in
      let whole : input_of (lines_text a.ls) ≡ Lines c (record { events = a.es; bad = None }) =
      ap input_of (sym (append-nil (lines_text a.ls))) ∙ a.input [] ∙ ap (Lines c) (nothing_more a.es) in
      let heard : lines bytes ≡ Lines c (record { events = a.es; bad = None }) =
      ap (λ l. of_header header_says (header_and_rest l) (if is_long_header (settled_text 16384 bytes) then BadHeader else Nothing))
      (counted_open 1024 a.ls lines_next.buffered a.free open_yet.0 open_yet.1)
      ∙ same_found (header_and_rest (lines_text a.ls)) (if is_long_header (settled_text 16384 bytes) then BadHeader else Nothing) c
      (record { events = a.es; bad = None }) whole in (
        bytes,
        hands_held left now next (lines_text a.ls) lines_old.buffered lines_next.buffered a.consumed h,
        ap bad_line heard,
        subst (Appends old last) (sym (ap trace_of heard)) written,
      )

  -- a read has failed there
  pub stops_failed : Rises reads reads_after → Hands now next lines_old.buffered lines_next.buffered []
      → IsOpenLine 1024 lines_next.buffered → Stops text status.ReadFault
  stops_failed rises hands open_yet = (
    a.written.still,
    leaves_along c left now lines_old.buffered n w old out text writes writes_now a
        (λ last. Replayed left next reads reads_after old last writes writes_now status.ReadFault)
        (λ last written part. fault_replayed left next reads reads_after old last writes writes_now rises
        (prints_lines hands open_yet last written) a.written.still),
  )
