-- What is said of an input that is checked.
use Rattle.std.specs.Prelude.{◌≡◌, ℕ, Bool, List, Option, None, Some}
use Rattle.cx_base.specs.Prelude.{Consumes, IsAtEnd}
use Rattle.cx_base.specs.declared.status.Status.{Status}
use Rattle.cx_base.specs.declared.status.Status.TheVariants as status
use Rattle.cx_edge.specs.Sink.{SaysText}
use Rattle.cx_explain.specs.Finding.{FindingState, found_of}
use Rattle.cx_explain.specs.Saying.{finding_text}

-- all that was left was read, and nothing is found there
pub record PassesCheck (node : Bool) (left left_after : Option (List ℕ)) : Type 0 where
  pub bytes : List ℕ
  pub consumed : Consumes left left_after bytes
  pub at_end : IsAtEnd left_after
  pub found : found_of node bytes ≡ None

-- this line is bad, and what is found there was said
pub record FailsCheck (node : Bool) (name : List ℕ) (number : ℕ) (left left_after out out_after : Option (List ℕ)) (faults faults_after : ℕ)
    : Type 0 where
  pub bytes : List ℕ
  pub consumed : Consumes left left_after bytes
  pub finding : FindingState
  pub found : found_of node bytes ≡ Some finding
  pub line : number ≡ finding.number
  pub said : SaysText out out_after faults faults_after (finding_text name finding)

-- nothing was written
abbrev pub Unsaid : Option (List ℕ) → Option (List ℕ) → ℕ → ℕ → Type 0
Unsaid out out_after faults faults_after = (out_after ≡ out) × (faults_after ≡ faults)

-- what is said of a finding, or memory ran out
abbrev pub SaysFinding : List ℕ → FindingState → Option (List ℕ) → Option (List ℕ) → ℕ → ℕ → Status → Type 0
SaysFinding name finding out out_after faults faults_after (status.BadInput number) =
    (number ≡ finding.number) × SaysText out out_after faults faults_after (finding_text name finding)
SaysFinding name finding out out_after faults faults_after status.NoMemory = Unsaid out out_after faults faults_after
SaysFinding name finding out out_after faults faults_after status.Done = ⊥
SaysFinding name finding out out_after faults faults_after status.ReadFault = ⊥
SaysFinding name finding out out_after faults faults_after status.BadWords = ⊥
SaysFinding name finding out out_after faults faults_after status.WriteFault = ⊥
SaysFinding name finding out out_after faults faults_after status.LinkFault = ⊥
SaysFinding name finding out out_after faults faults_after (status.StoreFault role) = ⊥
SaysFinding name finding out out_after faults faults_after status.Turns = ⊥
SaysFinding name finding out out_after faults faults_after (status.BadStore role at) = ⊥
SaysFinding name finding out out_after faults faults_after (status.NotFresh role) = ⊥
SaysFinding name finding out out_after faults faults_after status.RecordFull = ⊥

-- How a check ends: of a node's input or a replay's, in the file of this name, by what was read of it, what was written, and how often
-- writing has failed.
abbrev pub Checks : Bool → List ℕ → Option (List ℕ) → Option (List ℕ) → Option (List ℕ) → Option (List ℕ) → ℕ → ℕ → Status → Type 0
Checks node name left left_after out out_after faults faults_after status.Done =
    PassesCheck node left left_after × Unsaid out out_after faults faults_after
Checks node name left left_after out out_after faults faults_after (status.BadInput number) =
    FailsCheck node name number left left_after out out_after faults faults_after
Checks node name left left_after out out_after faults faults_after status.ReadFault = Unsaid out out_after faults faults_after
Checks node name left left_after out out_after faults faults_after status.NoMemory = Unsaid out out_after faults faults_after
Checks node name left left_after out out_after faults faults_after status.BadWords = ⊥
Checks node name left left_after out out_after faults faults_after status.WriteFault = ⊥
Checks node name left left_after out out_after faults faults_after status.LinkFault = ⊥
Checks node name left left_after out out_after faults faults_after (status.StoreFault role) = ⊥
Checks node name left left_after out out_after faults faults_after status.Turns = ⊥
Checks node name left left_after out out_after faults faults_after (status.BadStore role at) = ⊥
Checks node name left left_after out out_after faults faults_after (status.NotFresh role) = ⊥
Checks node name left left_after out out_after faults faults_after status.RecordFull = ⊥
