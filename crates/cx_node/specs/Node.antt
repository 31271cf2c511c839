-- What contracts see of a node, and what its turns come to.
use Rattle.std.specs.Prelude.{◌≡◌, ◌⊎◌, ◌≤◌, ◌<◌, ℕ, true, false, List, length, take, Option}
use Rattle.cx_letter.specs.Prelude.{list_any, Cluster}
use Rattle.cx_seat.specs.Prelude.{AreTakesOf, Changing, hosted_in, Course, TakeResults, all_finished, is_client, Recorded, node_run}
use Rattle.cx_seat.specs.declared.guest.Guest.{Guest}
use Rattle.cx_node.specs.declared.node.RunEnd.{RunEnd}
use Rattle.cx_node.specs.declared.node.RunEnd.TheVariants.{Done, Turns}
use Rattle.cx_node.specs.declared.node.Stop.{Stop}
use Rattle.cx_node.specs.Doing.{DidPart, Does, Scene, course_in}

-- the cluster, the hosted roles in the order of the words, and what is known of the record, where the node records
pub record NodeState (K : Type 0) : Type 0 where
  pub cluster : Cluster
  pub guests : List (Guest K)
  pub recorded : Option Recorded

-- the hosted roles of a node with what is known of their record
abbrev pub course_at : {K : Type 0} → NodeState K → Course
course_at node = record { hosted = hosted_in node.guests; recorded = node.recorded }

-- a run has made at most limit turns with these takes, and came to no end before the last of them
pub record IsUnderway (tend : Option ℕ) (c : Cluster) (limit : ℕ) (s : Course) (takes : TakeResults) : Type 0 where
  pub most : length takes ≤ limit
  pub not_before : (k : ℕ) → k < length takes → all_finished ((node_run tend c (take k takes) s).next.hosted) ≡ false

-- a run has come to its end with these takes, and to no end before the last of them
pub record IsEnd (tend : Option ℕ) (c : Cluster) (limit : ℕ) (s : Course) (takes : TakeResults)
    (end : RunEnd) : Type 0 where
  pub most : length takes ≤ limit
  pub not_before : (k : ℕ) → k < length takes → all_finished ((node_run tend c (take k takes) s).next.hosted) ≡ false
  -- Done: all hosted clients have finished, or none is hosted and all turns were made.
  pub done : end ≡ Done → (all_finished ((node_run tend c takes s).next.hosted) ≡ true)
      ⊎ ((list_any is_client s.hosted ≡ false) × (length takes ≡ limit))
  -- Turns: all turns were made, and a hosted client hasn't finished.
  pub turns : end ≡ Turns → (list_any is_client s.hosted ≡ true) × (length takes ≡ limit)
      × (all_finished ((node_run tend c takes s).next.hosted) ≡ false)

-- the whole run was made, with what the takes of the link gave
abbrev pub Runs : {K : Type 0} → Changing K → Option ℕ → Cluster → ℕ → RunEnd → Scene K → Scene K → Type 0
Runs gives tend c turns end old new =
    (takes : TakeResults) × Does gives c (node_run tend c takes (course_in old)) old new
    × IsEnd tend c turns (course_in old) takes end
    × AreTakesOf takes (node_run tend c takes (course_in old)).actions

-- The first of its actions were done, its takes among them, when this stopped it.
abbrev pub RunsPart : {K : Type 0} → Changing K → Stop → Option ℕ → Cluster → ℕ → Scene K → Scene K → Type 0
RunsPart gives e tend c turns old new =
    (takes : TakeResults) × IsUnderway tend c turns (course_in old) takes
    × DidPart gives c (node_run tend c takes (course_in old)).actions e old new
