-- A cluster with one entry a grid, whose matchmaker has 16 rounds: that of its retirement watermark and 15 later ones, all with one grid. A
-- round with another grid is refused. One with that grid takes the place of the 15: the answer tells all 16, a repeat the watermark's entry
-- and the round's own, and so the leader asks the grid's acceptor also where the first answer was lost.
use Rattle.std.specs.Prelude.{ℕ, zero, suc, ◌+◌, ◌*◌, ◌++◌, map, true, List, [], ◌∷◌}
use Rattle.cx_letter.specs.Prelude.{Cluster, numbers, no_round, letter}
use Rattle.cx_base.specs.declared.why.Why.TheVariants as why
use Rattle.cx_field.specs.declared.parts.NackReason.TheVariants as nack
use Rattle.cx_letter.specs.declared.kept.Record.TheVariants as kept
use Rattle.cx_letter.specs.declared.message.Msg.TheVariants as msg
use Rattle.cx_model.specs.Examples.{Line, IsRun, two_acceptors, batcher, leader, acceptor, matchmaker, make_round, first, single, lead}
use Rattle.cx_model.specs.Examples.{collect, deliver, final_state, hold, ◌⇒◌, ◌keeping◌by◌, ◌sending◌}
use Rattle.cx_model.specs.ExamplesLimits.{lead_round, round_entry}

abbrev pub cluster : Cluster
cluster = record two_acceptors { one_entry_a_grid = true }

-- this many rounds after n earlier ones, each recorded, where the first is the retirement watermark
abbrev pub recorded : ℕ → ℕ → List Line
recorded zero n = []
recorded (suc count) n =
    lead_round (n + 1)  -- 5 + 2 * n
    ∷ deliver (5 + 2 * n) ⇒ why.Matched
    keeping kept.Match (make_round (n + 1) 0 0) (single 0) by matchmaker 0
    sending letter (matchmaker 0) (leader 0) (msg.MatchB (make_round (n + 1) 0 0) first (map round_entry (numbers 1 n)))  -- 6 + 2 * n
    ∷ recorded count (n + 1)

abbrev pub story : List Line
story =
    lead_round 1  -- 0
    ∷ deliver 0 ⇒ why.Matched
    keeping kept.Match first (single 0) by matchmaker 0
    sending letter (matchmaker 0) (leader 0) (msg.MatchB first no_round [])  -- 1
    ∷ deliver 1 ⇒ why.Leads
    sending letter (leader 0) (batcher 0) (msg.Leads first)  -- 2
    ∷ collect 0 ⇒ why.Informing
    sending letter (leader 0) (acceptor 0) (msg.Inform first 0)  -- 3
    ∷ deliver 3 ⇒ why.Informed
    keeping kept.Water first 0 by acceptor 0
    sending letter (acceptor 0) (leader 0) (msg.Informed first 0)  -- 4
    ∷ deliver 4 ⇒ why.Collecting
    sending letter (leader 0) (matchmaker 0) (msg.GarbageA first (single 0))  -- 5
    ∷ deliver 5 ⇒ why.Raised
    keeping kept.Garbage first (single 0) by matchmaker 0
    sending letter (matchmaker 0) (leader 0) (msg.GarbageB first)  -- 6
    ∷ deliver 6 ⇒ why.Retired
    ∷ recorded 15 1 ++
    lead 0 (single 1) ⇒ why.Started
    keeping kept.Round (make_round 17 0 0) (single 1) by leader 0
    sending letter (leader 0) (matchmaker 0) (msg.MatchA (make_round 17 0 0) (single 1))  -- 37
    ∷ deliver 37 ⇒ why.Full
    sending letter (matchmaker 0) (leader 0) (msg.MatchNack (make_round 17 0 0) nack.Full (make_round 16 0 0))  -- 38
    ∷ lead_round 18  -- 39
    ∷ deliver 39 ⇒ why.Matched
    keeping kept.Match (make_round 18 0 0) (single 0) by matchmaker 0
    sending letter (matchmaker 0) (leader 0) (msg.MatchB (make_round 18 0 0) first (map round_entry (numbers 1 16)))  -- 40
    ∷ deliver 39 ⇒ why.Same
    sending letter (matchmaker 0) (leader 0) (msg.MatchB (make_round 18 0 0) first (round_entry 1 ∷ round_entry 18 ∷ []))  -- 41
    ∷ deliver 41 ⇒ why.Phase1
    sending letter (leader 0) (acceptor 0) (msg.Phase1A (make_round 18 0 0))  -- 42
    ∷ []

abbrev pub OneEntryAGrid : Type 0
OneEntryAGrid = IsRun cluster story (final_state [] [] (hold 0 [] ∷ []))
