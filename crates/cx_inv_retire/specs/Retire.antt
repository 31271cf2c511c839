-- What is reported and sent once the rounds below some round are retired.
use Rattle.std.specs.Prelude.{◌≡◌, ◌⊎◌, ℕ, ◌<◌, Bool, true, false, List, []}
use Rattle.cx_model.specs.Prelude.{Cluster, RoleId, Round, Why, Shape, role, is_before, no_round, Asking, Entry, Token, Letter, KeptRecord}
use Rattle.cx_model.specs.Prelude.{Msg, is_collecting, is_idle, first_set, Member, IsConfig, State, LeaderIn}
use Rattle.cx_inv_match.specs.Prelude.{Kinds, AreOnce, Facts, how_many, HasGarbage, HasBoot, HasStopped, IsKnown, SetFacts}
use Rattle.cx_base.specs.declared.role.Kind.TheVariants as kind
use Rattle.cx_base.specs.declared.why.Why.TheVariants as why
use Rattle.cx_letter.specs.declared.message.Msg.TheVariants as msg
use Rattle.cx_model.specs.Promises.{IsMemberFrom}
use Rattle.cx_inv_read.specs.Reads.{Has, InReader}

-- no leader kept this round
abbrev pub IsNewRound : List KeptRecord → Round → Type 0
IsNewRound history k = (g : Shape) → IsConfig history k g → ⊥

-- a matchmaker forgot the rounds below this one, where there are some, or began with a retirement watermark that isn't below it
abbrev pub HasForgotten : List KeptRecord → RoleId → Round → Type 0
HasForgotten history m i =
    (is_before no_round i ≡ false)
    ⊎ (((j : Round) × (g : Shape) × HasGarbage history m j g × (is_before j i ≡ false))
    ⊎ ((t : List ℕ) × (w : Round) × (es : List Entry) × HasBoot history m t w es × (is_before w i ≡ false)))

-- more than half of the members of a set forgot the rounds below this one
pub record IsRetired (c : Cluster) (history : List KeptRecord) (i : Round) : Type 0 where
  pub set : List ℕ
  pub set_known : IsKnown c history set
  pub who : ℕ → Bool
  pub most : c.f < how_many set who
  pub each : (m : ℕ) → who m ≡ true → HasForgotten history (role kind.Matchmaker m) i

-- whatever was retired in the past, this acceptor is in the grid of a round that wasn't
abbrev pub IsFromRetired : Cluster → List KeptRecord → List KeptRecord → RoleId → Type 0
IsFromRetired c past history to = (i : Round) → IsRetired c past i → IsMemberFrom history i to

-- a matchmaker that hadn't stopped in the past tells a retirement watermark that isn't below one that it had then, nor below the one with
-- which it began
pub record IsRisen (c : Cluster) (past history : List KeptRecord) (m : RoleId) (w : Round) : Type 0 where
  pub running : HasStopped past m → ⊥
  pub garbages : (j : Round) (g : Shape) → HasGarbage past m j g → is_before w j ≡ false
  pub boots : (t : List ℕ) (v : Round) (xs : List Entry) → HasBoot past m t v xs → is_before w v ≡ false
  pub began : Member m.index (first_set c)
      ⊎ ((t : List ℕ) × (v : Round) × (xs : List Entry) × HasBoot history m t v xs × (is_before w v ≡ false))

-- these entries are of rounds that were kept
abbrev pub AreConfigs : List KeptRecord → List Entry → Type 0
AreConfigs history es = (e : Entry) → Member e es → IsConfig history e.round e.grid

-- What a datagram says: of itself, and where its round is newer than the past, or its turn is fresh. A kind that isn't named says nothing
-- here.
abbrev pub RetireSays : Cluster → List KeptRecord → (Asking → Type 0) → List KeptRecord → RoleId → RoleId → Msg → Type 0
RetireSays c past fresh history from to (msg.MatchB k w es) = IsNewRound past k → IsRisen c past history from w
RetireSays c past fresh history from to (msg.GarbageB i) = HasForgotten history from i
RetireSays c past fresh history from to (msg.Phase1A k) =
    ((g : Shape) × IsConfig history k g) × (IsNewRound past k → IsFromRetired c past history to)
RetireSays c past fresh history from to (msg.MatchReadAck u w es) = AreConfigs history es × (fresh u → IsRisen c past history from w)
RetireSays c past fresh history from to (msg.PreRead u w) = fresh u → IsFromRetired c past history to
RetireSays c past fresh history from to other = Unit {0}

-- members of a set, none twice
pub record AreMembers (set ms : List ℕ) : Type 0 where
  pub once : AreOnce ms
  pub known : (m : ℕ) → Member m ms → Member m set

-- whom a leader that retires rounds has counted, while it isn't idle
abbrev pub HasCounted : Cluster → State → Type 0
HasCounted c (LeaderIn v) = is_idle v.mode ≡ false → is_collecting v.collection.stage ≡ true → AreMembers v.set v.collection.counted
HasCounted c other = Unit {0}

-- what a leader's answer says, where this is its last round
abbrev pub WordSays : Cluster → List KeptRecord → Round → Why → Type 0
WordSays c history own why.Retired = IsRetired c history own
WordSays c history own other = Unit {0}

-- The facts on retirement, relative to a past and to the turns that are fresh since then.
pub record RetireFacts (c : Cluster) (past : List KeptRecord) (fresh : Asking → Type 0) (history : List KeptRecord) (sent : List Letter)
    (states : RoleId → State) : Type 0 where
  pub says : (d : Letter) → Member d sent → RetireSays c past fresh history d.from d.to d.msg
  pub running : (me : RoleId) → HasCounted c (states me)

-- what is known already, from the past on
pub record Known (c : Cluster) (past : List KeptRecord) (history : List KeptRecord) (sent : List Letter)
    (states : RoleId → State) : Type 0 where
  pub kinds : Kinds history sent states
  pub facts : Facts c history sent states
  pub readers : (me : RoleId) (t : Token) → InReader c [] t history me (states me)
  pub has : Has history past
  pub then : SetFacts c past
