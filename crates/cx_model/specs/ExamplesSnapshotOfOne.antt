-- The only replica forgets the one value that it holds, as nobody will ask it for that: its list has the map and the answers in its place.
-- It finds nothing more to forget, also when it is opened again, and goes on with the next command as before. If it crashes inside the
-- renewal its store has the old list, and it forgets the value later, or the new one.
use Rattle.std.specs.Prelude.{◌≡◌, ◌++◌, true, List, [], ◌∷◌, codes}
use Rattle.cx_letter.specs.Prelude.{Command, Note, Okay, Len, Whole, Torn, Kept, letter}
use Rattle.cx_base.specs.declared.event.Event.TheVariants as event
use Rattle.cx_base.specs.declared.why.Why.TheVariants as why
use Rattle.cx_letter.specs.declared.kept.Record.{Record}
use Rattle.cx_letter.specs.declared.kept.Record.TheVariants as kept
use Rattle.cx_letter.specs.declared.message.Msg.TheVariants as msg
use Rattle.cx_model.specs.Examples.{Line, IsRun, run_of_lines, one_of_each, client, batcher, leader, proxy, acceptor, replica, unbatcher}
use Rattle.cx_model.specs.Examples.{first, single, app, put_a, batch_of, answered, deliver, final_state, hold, make_pair, ◌⇒◌, ◌keeping◌by◌}
use Rattle.cx_model.specs.Examples.{◌snapping◌by◌, ◌sending◌}
use Rattle.cx_model.specs.ExamplesOnePut.{story as put_story}
use Rattle.cx_model.specs.Replica.{replica_rules}
use Rattle.cx_model.specs.World.{list_of}

abbrev pub snap_lines : List Line
snap_lines =
    put_story ++
    event.Snap (replica 0) Whole ⇒ why.Snapped
    snapping 1 by replica 0
    ∷ event.Snap (replica 0) Whole ⇒ why.Idle
    ∷ event.Crash (replica 0) ⇒ why.Crashed
    ∷ event.Snap (replica 0) Whole ⇒ why.Down
    ∷ event.Restart (replica 0) ⇒ why.Opened
    ∷ event.Snap (replica 0) Whole ⇒ why.Idle
    ∷ []

-- client 0's second command
abbrev pub app_a : Command
app_a = app 0 2 (codes "a") (codes "x")

abbrev pub story : List Line
story =
    snap_lines ++
    event.Write app_a 0 ⇒ why.Sent
    sending letter (client 0) (batcher 0) (msg.Submit app_a)  -- 12
    ∷ deliver 12 ⇒ why.Batched
    sending letter (batcher 0) (leader 0) (msg.Batch (app_a ∷ []))  -- 13
    ∷ deliver 13 ⇒ why.Proposed
    sending letter (leader 0) (proxy 0) (msg.Propose first (single 0) 1 0 (batch_of app_a))  -- 14
    ∷ deliver 14 ⇒ why.Asking
    sending letter (proxy 0) (acceptor 0) (msg.Phase2A first 1 0 (batch_of app_a))  -- 15
    ∷ deliver 15 ⇒ why.Voted
    keeping kept.Vote first 1 0 (batch_of app_a) by acceptor 0
    sending letter (acceptor 0) (proxy 0) (msg.Phase2B first 1)  -- 16
    ∷ deliver 16 ⇒ why.Chosen
    sending letter (proxy 0) (replica 0) (msg.Chosen 1 (batch_of app_a))  -- 17
    sending letter (proxy 0) (leader 0) (msg.ChosenIn first 1)  -- 18
    ∷ deliver 17 ⇒ why.Applied
    keeping kept.Log (batch_of app_a ∷ []) by replica 0
    sending letter (replica 0) (unbatcher 0) (msg.Results 1 (answered 0 2 2 (Len 2) ∷ []))  -- 19
    ∷ []

-- what is noted of client 0's first command
abbrev pub noted : Note
noted = record { seq = 1; at = 1; reply = Okay }

-- the list without the first value: the map, and what is noted of the one client
abbrev pub renewed : List Record
renewed =
    kept.Base 1 1 1 1
    ∷ kept.Pairs (make_pair (codes "a") (codes "1") ∷ [])
    ∷ kept.Notes 0 0 (noted ∷ [])
    ∷ []

-- it crashes inside the renewal, and the renewal is lost, and later it is kept
abbrev pub cut : List Line
cut =
    put_story ++
    event.Snap (replica 0) Torn ⇒ why.Torn
    ∷ event.Restart (replica 0) ⇒ why.Opened
    ∷ event.Snap (replica 0) Kept ⇒ why.Kept
    snapping 1 by replica 0
    ∷ event.Restart (replica 0) ⇒ why.Opened
    ∷ event.Snap (replica 0) Torn ⇒ why.Idle
    ∷ []

pub record SnapshotOfOne : Type 0 where
  pub whole : IsRun one_of_each story
      (final_state (batch_of put_a ∷ batch_of app_a ∷ []) (true ∷ true ∷ []) (hold 2 (make_pair (codes "a") (codes "1x") ∷ []) ∷ []))
  pub list : list_of replica_rules (replica 0) (run_of_lines one_of_each story).kept ≡ renewed ++ kept.Log (batch_of app_a ∷ []) ∷ []
  pub when_cut : IsRun one_of_each cut
      (final_state (batch_of put_a ∷ []) (true ∷ []) (hold 1 (make_pair (codes "a") (codes "1") ∷ []) ∷ []))
  pub list_when_cut : list_of replica_rules (replica 0) (run_of_lines one_of_each cut).kept ≡ renewed
