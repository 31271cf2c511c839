-- An acceptor that voted in three slots, of which one is held and forgotten, promises a later round and votes in that too. It puts its list
-- anew, and crashes once that is kept: one record has its promise, its watermark, its last vote at each slot from there on, and one more
-- than the greatest slot that it voted at. Opened from that it refuses the earlier round, and tells a reader the same mark as before.
use Rattle.std.specs.Prelude.{◌≡◌, ◌++◌, true, List, [], ◌∷◌}
use Rattle.cx_letter.specs.Prelude.{Kept, no_round, letter}
use Rattle.cx_base.specs.declared.event.Event.TheVariants as event
use Rattle.cx_base.specs.declared.why.Why.TheVariants as why
use Rattle.cx_letter.specs.declared.kept.Record.{Record}
use Rattle.cx_letter.specs.declared.kept.Record.TheVariants as kept
use Rattle.cx_letter.specs.declared.message.Msg.TheVariants as msg
use Rattle.cx_model.specs.Acceptor.{acceptor_rules}
use Rattle.cx_model.specs.Examples.{Line, IsRun, run_of_lines, leader, proxy, acceptor, reader, first, put_a, batch_of, make_vote, deliver}
use Rattle.cx_model.specs.Examples.{final_state, ◌⇒◌, ◌keeping◌by◌, ◌snapping◌by◌, ◌sending◌}
use Rattle.cx_model.specs.ExamplesHeldSlotsAreForgotten.{cluster, each, next, put_b, put_c, story as held_story}
use Rattle.cx_model.specs.Reader.{asking}
use Rattle.cx_model.specs.World.{list_of}

abbrev pub story : List Line
story =
    held_story ++
    deliver 57 ⇒ why.Asking
    sending letter (proxy 0) (acceptor 0) (msg.Phase2A next 1 1 (batch_of put_b))  -- 63
    ∷ deliver 63 ⇒ why.Voted
    keeping kept.Vote next 1 1 (batch_of put_b) by acceptor 0
    sending letter (acceptor 0) (proxy 0) (msg.Phase2B next 1)  -- 64
    ∷ event.Snap (acceptor 0) Kept ⇒ why.Kept
    snapping 0 by acceptor 0
    ∷ event.Restart (acceptor 0) ⇒ why.Opened
    ∷ deliver 28 ⇒ why.Nack
    sending letter (acceptor 0) (leader 0) (msg.Nack first next)  -- 65
    ∷ deliver 45 ⇒ why.Asked
    sending letter (acceptor 0) (reader 0) (msg.PreReadAck (asking 0 1) no_round 3)  -- 66
    ∷ []

abbrev pub renewed : List Record
renewed = kept.Voted next 3 1 (make_vote next 1 (batch_of put_b) ∷ make_vote first 2 (batch_of put_c) ∷ []) ∷ []

pub record AcceptorPutsItsListAnew : Type 0 where
  pub whole : IsRun cluster story
      (final_state (batch_of put_a ∷ batch_of put_b ∷ batch_of put_c ∷ []) (true ∷ true ∷ true ∷ []) (each ∷ each ∷ []))
  pub list : list_of acceptor_rules (acceptor 0) (run_of_lines cluster story).kept ≡ renewed
