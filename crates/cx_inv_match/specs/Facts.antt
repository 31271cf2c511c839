-- The facts that hold at every moment of every run, and from which agreement follows.
use Rattle.std.specs.Prelude.{◌≡◌, ◌⊎◌, ℕ, ◌+◌, ◌<◌, ◌≤◌, true, false, List, [], ◌∷◌, length, slice_get, Option, None, Some}
use Rattle.cx_model.specs.Prelude.{Cluster, Placed, Value, RoleId, Round, Shape, role, is_before, no_round, is_above, Entry, Vote, Letter}
use Rattle.cx_model.specs.Prelude.{letter, KeptRecord, Msg, AcceptorDurable, acceptor_rules, Collection, HasVoted, IsProposed, IsRetiring}
use Rattle.cx_model.specs.Prelude.{LeaderWasTold, BatcherWasTold, ReplicaWasTold, ReaderWasTold, LeaderVolatile, leader_rules, round_of}
use Rattle.cx_model.specs.Prelude.{is_idle, is_changed, MatchmakerDurable, matchmaker_rules, Member, HasKept, IsConfig, names_set}
use Rattle.cx_model.specs.Prelude.{Batch, ReaderVolatile, is_matched, ReplacerDurable, ReplacerVolatile, replacer_rules, State, Down, Plain}
use Rattle.cx_model.specs.Prelude.{BatcherIn, LeaderIn, ProxyIn, ReplicaIn, ReaderIn, ReplacerIn, HasRound}
use Rattle.cx_base.specs.declared.role.Kind.TheVariants as kind
use Rattle.cx_letter.specs.declared.kept.Record.TheVariants as kept
use Rattle.cx_letter.specs.declared.message.Msg.TheVariants as msg
use Rattle.cx_model.specs.declared.states.Acked.{Acked}
use Rattle.cx_model.specs.declared.states.Halt.{Halt}
use Rattle.cx_model.specs.declared.states.MatchAnswer.{MatchAnswer}
use Rattle.cx_model.specs.declared.states.Mode.{Mode}
use Rattle.cx_model.specs.declared.states.Mode.TheVariants.{Idle, Matching, Phase1, Leading}
use Rattle.cx_model.specs.declared.states.Pending.{Pending}
use Rattle.cx_model.specs.declared.states.Replacing.{Replacing}
use Rattle.cx_model.specs.declared.states.Replacing.TheVariants as replacing
use Rattle.cx_model.specs.declared.states.Stage.{Stage}
use Rattle.cx_model.specs.declared.states.Stage.TheVariants.{Off, Informing, Collecting, Retired}
use Rattle.cx_model.specs.Facts.{ProxyWasTold}
use Rattle.cx_inv_run.specs.States.{durable_of, log_in}
use Rattle.cx_inv_match.specs.Words.{HasMatch, HasGarbage, HasMark, HasPromise, HasLow, IsChosenIn, IsChosen, IsMatched, IsSafe}
use Rattle.cx_inv_match.specs.Words.{IsCollected, IsAnswer, IsPromise, HasBoot, HasNext, HasBallot, IsHalt, IsKnown, IsDecided, IsClosed}
use Rattle.cx_inv_match.specs.Words.{IsLeft, IsNextSet, IsJoin, IsBoot, IsWatermark, HasStopped, SetFacts, IsGridTold}

-- What each kind of datagram says of the history. A kind that isn't named says nothing here.
abbrev pub Says : Cluster → List KeptRecord → List Letter → RoleId → Msg → Type 0
Says c history sent from (msg.Leads i) = IsMatched c history i
Says c history sent from (msg.MatchA i g) = IsConfig history i g
Says c history sent from (msg.MatchB i w entries) = IsAnswer c history sent from i w entries
Says c history sent from (msg.Phase1B i cw votes) = IsPromise history from i cw votes
Says c history sent from (msg.Propose i g s cw v) = IsConfig history i g × IsMatched c history i × IsSafe c history sent i s v × (cw ≤ s)
Says c history sent from (msg.Phase2A i s cw v) = IsProposed sent i s v × (cw ≤ s)
Says c history sent from (msg.Phase2B i s) = (v : Value) × HasVoted history from i s v
Says c history sent from (msg.Chosen s v) = IsChosen history s v
Says c history sent from (msg.ChosenIn i s) = (v : Value) × IsChosenIn history i s v
Says c history sent from (msg.Informed i n) = HasLow history from i n
Says c history sent from (msg.GarbageA i g) = IsConfig history i g × IsCollected c history sent i
Says c history sent from (msg.StopA b) = is_before no_round b ≡ true
Says c history sent from (msg.StopB b w entries a s) = IsHalt c history from b w entries a s
Says c history sent from (msg.NextB b) = (s : List ℕ) × HasNext history from b s
Says c history sent from (msg.BootA s w entries) = IsBoot c history s w entries
Says c history sent from (msg.Sets s) = IsKnown c history s
Says c history sent from other = Unit {0}

-- No sender was counted twice.
abbrev pub AreOnce : List ℕ → Type 0
AreOnce [] = Unit {0}
AreOnce (n ∷ ns) = (Member n ns → ⊥) × AreOnce ns

-- the matchmakers that answered, in the order of counting
abbrev pub answering_matchmakers : List MatchAnswer → List ℕ
answering_matchmakers [] = []
answering_matchmakers (a ∷ told) = a.matchmaker ∷ answering_matchmakers told

-- a leader that still asks matchmakers or acceptors: nothing of its round was proposed, nobody was asked to forget earlier ones for it, and
-- it isn't retiring them
pub record IsMatching (c : Cluster) (history : List KeptRecord) (sent : List Letter) (own : Entry) (v : LeaderVolatile) : Type 0 where
  pub unproposed : (s : ℕ) (u : Value) → IsProposed sent own.round s u → ⊥
  pub unended : IsRetiring sent own.round → ⊥
  pub off : v.collection.stage ≡ Off
  -- the matchmakers that were counted are members of one set; while it asks them, of the set that it knows
  pub set : List ℕ
  pub set_known : IsKnown c history set
  pub once : AreOnce (answering_matchmakers v.told)
  pub known : (m : ℕ) → Member m (answering_matchmakers v.told) → Member m set

-- how far retiring is
pub record IsInforming (history : List KeptRecord) (own : Entry) (end : ℕ) (k : Collection) : Type 0 where
  pub chosen : (s : ℕ) → k.mark ≤ s → s < end → (u : Value) × IsChosenIn history own.round s u
  pub lows : (a : ℕ) → Member a k.counted → HasLow history (role kind.Acceptor a) own.round k.mark

abbrev pub InStage : Cluster → List KeptRecord → List Letter → Entry → ℕ → Collection → Stage → Type 0
InStage c history sent own end k Off = Unit {0}
InStage c history sent own end k Informing = IsInforming history own end k
InStage c history sent own end k Collecting = IsCollected c history sent own.round
InStage c history sent own end k Retired = Unit {0}

-- a leader that goes on with another grid: what it proposed in the round before may be proposed in this one, and from the next slot on any
-- value
pub record IsReady (c : Cluster) (history : List KeptRecord) (sent : List Letter) (own : Entry) (v : LeaderVolatile) : Type 0 where
  pub once : (s : ℕ) (u w : Value) → Member {X = Placed} (record { slot = s; value = u }) v.proposed
      → Member {X = Placed} (record { slot = s; value = w }) v.proposed → u ≡ w
  pub window : (p : Placed) → Member p v.proposed → (v.cw ≤ p.slot) × (p.slot < v.next)
  pub safe : (p : Placed) → Member p v.proposed → IsSafe c history sent own.round p.slot p.value
  pub free : (s : ℕ) (u : Value) → v.next ≤ s → IsSafe c history sent own.round s u
  pub cw_next : v.cw ≤ v.next
  -- the round before was left for this one, and all that was proposed in it lies below the next slot
  pub covered : (j : Round) → own.round ≡ record j { s = j.s + 1 }
      → IsLeft history j × ((s : ℕ) (u : Value) → IsProposed sent j s u → s < v.next)

pub record IsLeading (c : Cluster) (history : List KeptRecord) (sent : List Letter) (own : Entry) (v : LeaderVolatile) : Type 0 where
  pub config : IsConfig history own.round own.grid
  pub matched : IsMatched c history own.round
  -- what was proposed in the round lies below the next slot, and from the chosen watermark on it is remembered, one value a slot
  pub below_next : (s : ℕ) (u : Value) → IsProposed sent own.round s u → s < v.next
  pub remembered : (s : ℕ) (u : Value) → IsProposed sent own.round s u
      → (s < v.cw) ⊎ Member {X = Placed} (record { slot = s; value = u }) v.proposed
  pub once : (s : ℕ) (u w : Value) → Member {X = Placed} (record { slot = s; value = u }) v.proposed
      → Member {X = Placed} (record { slot = s; value = w }) v.proposed → u ≡ w
  pub window : (p : Placed) → Member p v.proposed → (v.cw ≤ p.slot) × (p.slot < v.next)
  pub safe : (p : Placed) → Member p v.proposed → IsSafe c history sent own.round p.slot p.value
  -- from the slot on that was the next one when it began to lead any value is safe, and the next slot is not before that
  pub free : (s : ℕ) (u : Value) → v.end ≤ s → IsSafe c history sent own.round s u
  pub end_next : v.end ≤ v.next
  pub cw_next : v.cw ≤ v.next
  pub known : (s : ℕ) → Member s v.chosen → (u : Value) × IsChosenIn history own.round s u
  pub stage : InStage c history sent own v.end v.collection v.collection.stage

-- the record by which a leader asks the matchmakers is kept before, so one without a round is idle
abbrev pub InMode : Cluster → List KeptRecord → List Letter → Option Entry → LeaderVolatile → Mode → Type 0
InMode c history sent None v mode = is_idle mode ≡ true
InMode c history sent (Some own) v Idle = Unit {0}
InMode c history sent (Some own) v Matching = IsMatching c history sent own v
    × ((m : ℕ) → Member m (answering_matchmakers v.told) → Member m v.set) × (is_changed own.round ≡ true → IsReady c history sent own v)
InMode c history sent (Some own) v Phase1 = IsMatching c history sent own v × (c.f < length v.told)
InMode c history sent (Some own) v Leading = IsLeading c history sent own v

pub record IsPending (history : List KeptRecord) (sent : List Letter) (p : Pending) : Type 0 where
  pub config : IsConfig history p.round p.grid
  pub marks : (a : ℕ) → Member a p.marks → HasVoted history (role kind.Acceptor a) p.round p.slot p.value
  pub done : p.done ≡ true → IsChosenIn history p.round p.slot p.value
  pub window : p.cw ≤ p.slot

-- before enough matchmakers answered, no acceptor's answer is counted for a batch
abbrev pub AreAsking : Cluster → ReaderVolatile → Type 0
AreAsking c v = (b : Batch) → v.running ≡ Some b → is_matched c b ≡ false → (a : Acked) → Member a b.acks → ⊥

-- somebody was asked to accept this set in the ballot
abbrev pub IsNextAsked : List Letter → Round → List ℕ → Type 0
IsNextAsked sent b t = (from : RoleId) × (to : RoleId) × Member (letter from to (msg.NextA b t)) sent

-- this matchmaker was asked
abbrev pub IsAsked : List Letter → RoleId → Round → List ℕ → Type 0
IsAsked sent m b t = (from : RoleId) × Member (letter from m (msg.NextA b t)) sent

-- the matchmakers that stopped, in the order of counting
abbrev pub halted_by : List Halt → List ℕ
halted_by [] = []
halted_by (h ∷ halts) = h.answer.matchmaker ∷ halted_by halts

-- a replacer that stops a set: nobody was asked to accept another one in its ballot
pub record IsStopping (c : Cluster) (history : List KeptRecord) (sent : List Letter) (me : RoleId) (own : Round)
    (v : ReplacerVolatile) : Type 0 where
  pub real : is_before no_round own ≡ true
  pub unasked : (t : List ℕ) → IsNextAsked sent own t → ⊥
  pub above : is_above v.next v.set ≡ true
  pub proper : names_set c v.next ≡ true
  pub told : (h : Halt) → Member h v.halts → Member (letter (role kind.Matchmaker h.answer.matchmaker) me
      (msg.StopB own h.answer.watermark h.answer.entries h.accepted h.next)) sent
  pub once : AreOnce (halted_by v.halts)
  pub known : (m : ℕ) → Member m (halted_by v.halts) → Member m v.set

-- a replacer that has the next set decided: the members of the set that it knows were asked to accept this one, and nobody another one
pub record IsDeciding (c : Cluster) (history : List KeptRecord) (sent : List Letter) (me : RoleId) (own : Round)
    (v : ReplacerVolatile) : Type 0 where
  pub real : is_before no_round own ≡ true
  pub asked : (from to : RoleId) (t : List ℕ) → Member (letter from to (msg.NextA own t)) sent → (t ≡ v.next) × Member to.index v.set
  pub above : is_above v.next v.set ≡ true
  pub proper : names_set c v.next ≡ true
  pub closed : (a : Round) → is_before a own ≡ true → IsClosed c history v.set a v.next
  pub join : IsJoin c history v.set v.watermark v.entries
  pub votes : (m : ℕ) → Member m v.counted → Member (letter (role kind.Matchmaker m) me (msg.NextB own)) sent
  pub once : AreOnce v.counted

-- a replacer that has the next set begin: it was decided
pub record IsBooting (c : Cluster) (history : List KeptRecord) (sent : List Letter) (me : RoleId) (v : ReplacerVolatile) : Type 0 where
  pub decided : IsDecided c history v.set v.next
  pub join : IsJoin c history v.set v.watermark v.entries
  pub begun : (m : ℕ) → Member m v.counted → Member (letter (role kind.Matchmaker m) me (msg.BootB v.next)) sent

abbrev pub InWork : Cluster → List KeptRecord → List Letter → RoleId → Round → ReplacerVolatile → Replacing → Type 0
InWork c history sent me own v replacing.Idle = Unit {0}
InWork c history sent me own v replacing.Stopping = IsStopping c history sent me own v
InWork c history sent me own v replacing.Deciding = IsDeciding c history sent me own v
InWork c history sent me own v replacing.Booting = IsBooting c history sent me v

-- What is known of a running role: what it counted, holds pending or knows came to it in datagrams, and what else its rows rest on.
abbrev pub InState : Cluster → List KeptRecord → List Letter → RoleId → State → Type 0
InState c history sent me Down = Unit {0}
InState c history sent me Plain = Unit {0}
InState c history sent me (BatcherIn v) = BatcherWasTold sent me v
InState c history sent me (LeaderIn v) = LeaderWasTold sent me (round_of (durable_of leader_rules me history).own) v
    × InMode c history sent (durable_of leader_rules me history).own v v.mode × IsKnown c history v.set
InState c history sent me (ProxyIn v) = ProxyWasTold sent me v × ((p : Pending) → Member p v.pending → IsPending history sent p)
InState c history sent me (ReplicaIn v) = ReplicaWasTold sent me v
InState c history sent me (ReaderIn v) = ReaderWasTold sent me v × AreAsking c v × IsKnown c history v.set
InState c history sent me (ReplacerIn v) =
    IsKnown c history v.set × InWork c history sent me (durable_of replacer_rules me history).own v v.mode

-- an acceptor is what its records say
pub record IsAcceptor (history : List KeptRecord) (a : RoleId) (d : AcceptorDurable) : Type 0 where
  pub bound : (i : Round) → HasPromise history a i → is_before d.promise i ≡ false
  pub promised : (j : Round) → is_before j d.promise ≡ true → HasPromise history a d.promise
  pub last : (j : Round) (s : ℕ) (v : Value) → d.cw ≤ s → HasVoted history a j s v
      → (u : Vote) × Member u d.votes × (u.slot ≡ s) × (is_before u.round j ≡ false)
  pub only : (u : Vote) → Member u d.votes → HasVoted history a u.round u.slot u.value × (d.cw ≤ u.slot)
  pub mark : (j : Round) (n : ℕ) → HasMark history a j n → n ≤ d.cw
  pub low : (d.cw ≡ 0) ⊎ ((j : Round) × HasMark history a j d.cw)
  pub top : (j : Round) (s : ℕ) (v : Value) → HasVoted history a j s v → s < d.top

-- a matchmaker's retirement watermark is none, or it forgot the earlier rounds for it itself, or began with it
abbrev pub IsOwn : List KeptRecord → RoleId → Round → Type 0
IsOwn history m w =
    (w ≡ no_round) ⊎ (((g : Shape) × HasGarbage history m w g) ⊎ ((t : List ℕ) × (es : List Entry) × HasBoot history m t w es))

-- so is a matchmaker
pub record IsMatchmaker (c : Cluster) (history : List KeptRecord) (sent : List Letter) (m : RoleId) (d : MatchmakerDurable) : Type 0 where
  pub all : (j : Round) (g : Shape) → is_before j d.watermark ≡ false → HasRound history m j g → IsGridTold c j g d.entries
  pub only : (e : Entry) → Member e d.entries → HasRound history m e.round e.grid ⊎ HasGarbage history m e.round e.grid
  pub from_watermark : (e : Entry) → Member e d.entries → is_before e.round d.watermark ≡ false
  pub bound : (j : Round) (g : Shape) → HasGarbage history m j g → is_before d.watermark j ≡ false
  pub boots : (s : List ℕ) (w : Round) (es : List Entry) → HasBoot history m s w es → is_before d.watermark w ≡ false
  pub raised : IsWatermark history d.watermark d.entries
  pub none : d.watermark ≡ no_round → (j : Round) (g : Shape) → HasGarbage history m j g → ⊥
  pub own : IsOwn history m d.watermark
  -- in which set it began
  pub began : (s : List ℕ) → d.booted ≡ Some s → (w : Round) × (es : List Entry) × HasBoot history m s w es
  pub unbegun : d.booted ≡ None → (s : List ℕ) (w : Round) (es : List Entry) → HasBoot history m s w es → ⊥
  -- its ballots
  pub ballots : (b : Round) → HasBallot history m b → is_before d.ballot b ≡ false
  pub ballot : (d.ballot ≡ no_round) ⊎ HasBallot history m d.ballot
  pub unstopped : d.ballot ≡ no_round → HasStopped history m → ⊥
  pub nexts : (b : Round) (s : List ℕ) → HasNext history m b s → is_before d.accepted b ≡ false
  pub accepted : (d.accepted ≡ no_round) ⊎ HasNext history m d.accepted d.next

-- of a replacer's ballots none is above its last, and its last was kept
abbrev pub IsLastBallot : List KeptRecord → RoleId → ReplacerDurable → Type 0
IsLastBallot history me d = ((b : Round) → HasKept history me (kept.Ballot b) → is_before d.own b ≡ false)
    × ((d.own ≡ no_round) ⊎ HasKept history me (kept.Ballot d.own))

-- of a leader's rounds none is above its last, and its last was kept
abbrev pub IsLastRound : List KeptRecord → RoleId → Option Entry → Type 0
IsLastRound history me None = (i : Round) (g : Shape) → HasKept history me (kept.Round i g) → ⊥
IsLastRound history me (Some own) =
    HasKept history me (kept.Round own.round own.grid)
    × ((i : Round) (g : Shape) → HasKept history me (kept.Round i g) → is_before own.round i ≡ false)

pub record Facts (c : Cluster) (history : List KeptRecord) (sent : List Letter) (states : RoleId → State) : Type 0 where
  -- a round's record is kept by the leader that it names, with one grid
  pub owner : (me : RoleId) (i : Round) (g : Shape) → HasKept history me (kept.Round i g) → me ≡ role kind.Leader i.id
  pub one_grid : (i : Round) (g h : Shape) → IsConfig history i g → IsConfig history i h → g ≡ h
  pub last : (me : RoleId) → IsLastRound history me (durable_of leader_rules me history).own
  -- a matchmaker records only what was kept, and forgets only for what may be collected
  pub asked : (m : RoleId) (i : Round) (g : Shape) → HasMatch history m i g → IsConfig history i g
  pub garbaged : (m : RoleId) (i : Round) (g : Shape) → HasGarbage history m i g
      → IsConfig history i g × IsCollected c history sent i × IsRetiring sent i
  pub logs : (m : RoleId) → IsMatchmaker c history sent m (durable_of matchmaker_rules m history)
  pub acceptors : (a : RoleId) → IsAcceptor history a (durable_of acceptor_rules a history)
  -- sets of matchmakers
  pub sets : SetFacts c history
  pub accepted : (m : RoleId) (b : Round) (t : List ℕ) → HasNext history m b t → IsAsked sent m b t
  pub one_asked : (b : Round) (t u : List ℕ) → IsNextAsked sent b t → IsNextAsked sent b u → t ≡ u
  pub asks : (from to : RoleId) (b : Round) (t : List ℕ) → Member (letter from to (msg.NextA b t)) sent
      → IsNextSet c history to b t × HasKept history (role kind.Replacer b.id) (kept.Ballot b)
  pub balloter : (me : RoleId) (b : Round) → HasKept history me (kept.Ballot b) → me ≡ role kind.Replacer b.id
  pub last_ballot : (me : RoleId) → IsLastBallot history me (durable_of replacer_rules me history)
  pub known_sets : (me : RoleId) (t : List ℕ) → HasKept history me (kept.Known t) → IsKnown c history t
  -- each vote was proposed, and one value for each round and slot
  pub voted : (a : RoleId) (i : Round) (s : ℕ) (v : Value) → HasVoted history a i s v → IsProposed sent i s v
  pub one_value : (i : Round) (s : ℕ) (u v : Value) → IsProposed sent i s u → IsProposed sent i s v → u ≡ v
  -- each value that a replica kept is chosen in its slot
  pub logged : (p s : ℕ) (v : Value) → slice_get (log_in history p) s ≡ Some v → IsChosen history s v
  -- each datagram says what is so
  pub says : (d : Letter) → Member d sent → Says c history sent d.from d.msg
  -- and so does what a running role knows
  pub running : (me : RoleId) → InState c history sent me (states me)
