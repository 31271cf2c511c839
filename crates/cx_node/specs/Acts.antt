-- The result of a part of a node's run: it was done whole, or the first of its actions were done and something failed.
use Rattle.std.specs.Prelude.{◌≡◌, ◌⊎◌, ℕ, true, List, [], ◌∷◌, length, Option, None, Some, option_map, Result, Ok, Err, IfErr, OnOk}
use Rattle.cx_letter.specs.Prelude.{Rises, Cluster}
use Rattle.cx_seat.specs.Prelude.{LinkHistory, with_taken, AreTakesOf, Changing, AreReady, Course, Moved, TakeResults, all_finished}
use Rattle.cx_seat.specs.Prelude.{brought, Numbered, Recorded, node_run}
use Rattle.cx_edge.specs.declared.link.Link.{Ghosts as LinkGhosts}
use Rattle.cx_edge.specs.declared.sink.Sink.{Ghosts as SinkGhosts}
use Rattle.cx_node.specs.declared.come.Come.{Come}
use Rattle.cx_node.specs.declared.come.Come.TheVariants as come
use Rattle.cx_node.specs.declared.node.Stop.{Stop}
use Rattle.cx_node.specs.declared.node.Stop.TheVariants.{LinkFault, NoMemory, RecordFull, StoreFault, WriteFault}
use Rattle.cx_node.specs.Doing.{DidPart, Does, Scene, course_in, scene}
use Rattle.cx_node.specs.Node.{IsUnderway, NodeState}

-- how often the link and the output have failed
pub record Failures : Type 0 where
  pub link : ℕ
  pub out : ℕ

abbrev pub failures : ℕ → ℕ → Failures
failures link out = record { link = link; out = out }

-- a fault of the link or of the output raises its count, and nothing else raises any
pub record Blames (result : Result (Unit {0}) Stop) (old new : Failures) : Type 0 where
  pub written : result ≡ Err WriteFault → Rises old.out new.out
  pub unwritten : (result ≡ Err WriteFault → ⊥) → new.out ≡ old.out
  pub linked : result ≡ Err LinkFault → Rises old.link new.link
  pub unlinked : (result ≡ Err LinkFault → ⊥) → new.link ≡ old.link

-- ---- a node and what is around it

-- what is seen of a node's roles, its link and its output
abbrev pub scene_of : {K L W : Type 0} → LinkGhosts L → SinkGhosts W → NodeState K → L → W → Scene K
scene_of by_link by_out node link out = scene node.guests node.recorded (by_link.history link) (by_out.taken out)

abbrev pub failed : {L W : Type 0} → LinkGhosts L → SinkGhosts W → L → W → Failures
failed by_link by_out link out = failures (by_link.faults link) (by_out.faults out)

-- ---- what a part of a run comes to

-- What is to be done is done, with these takes, and all roles may go on; or the first of its actions are done, and
-- then it stopped.
pub record Acts {K : Type 0} (gives : Changing K) (c : Cluster) (takes : TakeResults) (m : Moved Course)
    (result : Result (Unit {0}) Stop) (old new : Scene K) : Type 0 where
  pub done : OnOk result (Does gives c m old new)
  pub taken : OnOk result (AreTakesOf takes m.actions)
  pub ready : OnOk result (AreReady c new.guests)
  pub part : IfErr result (λ e. DidPart gives c m.actions e old new)

-- the same of a part without a take, by the hosted roles
abbrev pub ActsPart : {K : Type 0} → Changing K → Cluster → (Course → Moved Course)
    → Result (Unit {0}) Stop → Scene K → Scene K → Type 0
ActsPart gives c part result old new = Acts gives c [] (part (course_in old)) result old new

-- the same with what one take gave
abbrev pub ActsOnce : {K : Type 0} → Changing K → Cluster → (Option (List ℕ) → Moved Course)
    → Result (Unit {0}) Stop → Scene K → Scene K → Type 0
ActsOnce gives c f result old new = (what : Option (List ℕ)) × Acts gives c (what ∷ []) (f what) result old new

abbrev pub ActsTaking : {K : Type 0} → Changing K → Cluster → (Option (List ℕ) → Course → Moved Course)
    → Result (Unit {0}) Stop → Scene K → Scene K → Type 0
ActsTaking gives c part result old new = ActsOnce gives c (λ what. part what (course_in old)) result old new

-- the turns of a run were made to its end, or a part of them
abbrev pub ActsLong : {K : Type 0} → Changing K → Option ℕ → Cluster → ℕ → Result (Unit {0}) Stop
    → Scene K → Scene K → Type 0
ActsLong gives tend c limit result old new =
    (takes : TakeResults) × Acts gives c takes (node_run tend c takes (course_in old)) result old new
    × IsUnderway tend c limit (course_in old) takes
    × OnOk result ((all_finished ((node_run tend c takes (course_in old)).next.hosted) ≡ true) ⊎ (length takes ≡ limit))

-- ---- what a take of the link gave

-- what a take gave: nothing, bytes that bring no datagram, or one
abbrev pub read_as : Option Numbered → Come
read_as (Some x) = come.Letter x.number x.letter
read_as None = come.Foreign

abbrev pub come_of : Option Recorded → Option (List ℕ) → Come
come_of recorded None = come.Nothing
come_of recorded (Some bytes) = read_as (brought recorded bytes)

-- The history has one take more, and what it gave; it has none that failed.
abbrev pub Receives : Option Recorded → Option LinkHistory → Option LinkHistory → Result Come Stop → Type 0
Receives recorded old new (Ok o) = (what : Option (List ℕ)) × (new ≡ option_map (with_taken what) old) × (come_of recorded what ≡ o)
Receives recorded old new (Err LinkFault) = new ≡ old
Receives recorded old new (Err NoMemory) = (what : Option (List ℕ)) × (new ≡ option_map (with_taken what) old)
Receives recorded old new (Err WriteFault) = ⊥
Receives recorded old new (Err RecordFull) = ⊥
Receives recorded old new (Err (StoreFault role)) = ⊥
