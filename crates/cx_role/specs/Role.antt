-- The law of a role's step.
use Rattle.std.specs.Prelude.{◌≡◌, ◌⊎◌, Bool, true, false, List, [], Option, None, Some, Result, Ok, Err, IfOk, IsErrOf, OnErr}
use Rattle.cx_model.specs.Prelude.{Why, Outcome, Rules, Running, IsFit, running_after, Letter, Record}
use Rattle.cx_base.specs.declared.why.Why.TheVariants as why
use Rattle.cx_keep.specs.declared.keeper.KeepFault.{KeepFault}
use Rattle.cx_keep.specs.declared.keeper.KeepFault.TheVariants.{Failed, NoMemory}

-- what an append may answer, and leave
abbrev pub Appending : Type 0 → Type 1
Appending K = K → Record → Result (Unit {0}) KeepFault → K → Type 0

-- the keeper after the row's record, if it has one, was appended
abbrev pub Keeps : {K : Type 0} → Appending K → Option Record → K → K → Type 0
Keeps append_gives None old new = new ≡ old
Keeps append_gives (Some r) old new = append_gives old r (Ok tt) new

-- a whole step is the row: its word, its record, its state and its sends
pub record Steps {K D V : Type 0} (append_gives : Appending K) (rules : Rules D V) (before : Running D V) (outcome : Outcome V) (w : Why)
    (old new : K) (after : Running D V) (sent : List Letter) : Type 0 where
  pub why : w ≡ outcome.why
  pub kept : Keeps append_gives outcome.kept old new
  pub state : after ≡ running_after rules before outcome
  pub sends : sent ≡ outcome.sends

-- a step of a row that keeps nothing
pub record Replies {D V : Type 0} (rules : Rules D V) (before : Running D V) (outcome : Outcome V) (w : Why) (after : Running D V)
    (sent : List Letter) : Type 0 where
  pub why : w ≡ outcome.why
  pub nothing : outcome.kept ≡ None
  pub state : after ≡ running_after rules before outcome
  pub sends : sent ≡ outcome.sends

-- no append was asked for, or one was refused when out of memory
abbrev pub Refuses : {K : Type 0} → Appending K → K → K → Type 0
Refuses append_gives old new = (new ≡ old) ⊎ ((r : Record) × append_gives old r (Err NoMemory) new)

-- the state is as it was, nothing was kept, and nothing was sent
pub record StaysAt {K S : Type 0} (append_gives : Appending K) (before after : S) (old new : K) (sent : List Letter) : Type 0 where
  pub kept : Refuses append_gives old new
  pub state : after ≡ before
  pub sends : sent ≡ []

-- the row's append failed, nothing was sent, and the role has to be opened again
pub record FailsAt {K D V : Type 0} (append_gives : Appending K) (outcome : Outcome V) (old new : K) (after : Running D V)
    (sent : List Letter) : Type 0 where
  pub append : (r : Record) × (outcome.kept ≡ Some r) × append_gives old r (Err Failed) new
  pub dead : after.live ≡ false
  pub sends : sent ≡ []

-- what the records of a role left stays, also where an append failed
pub record KeepsDurable {D V : Type 0} (before after : Running D V) : Type 0 where
  pub cluster : after.cluster ≡ before.cluster
  pub me : after.me ≡ before.me
  pub durable : after.durable ≡ before.durable

-- the words of the rows that take no memory, so that out of memory is never their answer (this project's own)
abbrev pub takes_no_memory : Why → Bool
takes_no_memory why.Stranger = true
takes_no_memory why.Old = true
takes_no_memory why.Past = true
takes_no_memory why.Unasked = true
takes_no_memory why.Done = true
takes_no_memory why.Idle = true
takes_no_memory why.Waiting = true
takes_no_memory why.End = true
takes_no_memory why.New = true
takes_no_memory why.Stopped = true
takes_no_memory w = false

-- What a step does: it is the row, or leaves everything as it was when out of memory, which a row that takes none never is; or its append
-- fails, and then it sends nothing and what the records left stays. Whether the store tells of its faults stays the same.
pub record IsStep {K D V : Type 0} (append_gives : Appending K) (tells : K → Bool) (rules : Rules D V) (before : Running D V)
    (row : Outcome V) (result : Result Why KeepFault) (after : Running D V) (old new : K) (sent : List Letter) : Type 0 where
  pub ok : IfOk result (λ w. Steps append_gives rules before row w old new after sent)
  pub no_memory : IsErrOf result NoMemory → StaysAt append_gives before after old new sent
  pub spared : IsErrOf result NoMemory → takes_no_memory row.why ≡ false
  pub tells_same : tells new ≡ tells old
  pub failed : IsErrOf result Failed → FailsAt append_gives row old new after sent
  pub keeps : IsErrOf result Failed → KeepsDurable before after

-- what a step does that keeps nothing
pub record IsReply {E D V : Type 0} (rules : Rules D V) (before : Running D V) (row : Outcome V)
    (result : Result Why E) (after : Running D V) (sent : List Letter) : Type 0 where
  pub ok : IfOk result (λ w. Replies rules before row w after sent)
  pub no_memory : OnErr result (after ≡ before)
  pub spared : OnErr result (takes_no_memory row.why ≡ false)
  pub sends : OnErr result (sent ≡ [])

-- the role may append what the row keeps, in the state in which it is
abbrev pub MayKeep : {D V : Type 0} → Rules D V → Running D V → Outcome V → Type 0
MayKeep rules before row = IsFit rules before.cluster before.me before.durable row.kept
