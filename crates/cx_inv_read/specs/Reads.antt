-- What the datagrams of a turn and of a read say: of the history as it was at a moment before the read was first asked for, and of a read
-- that was not asked for; that turns were kept; what the datagrams of a session say; on which question to a replica an answer stands, and
-- how many values some replica kept.
use Rattle.std.specs.Prelude.{◌≡◌, ◌⊎◌, ℕ, ◌<◌, ◌≤◌, false, List, length, Option, None, Some}
use Rattle.cx_model.specs.Prelude.{Cluster, Answered, Value, RoleId, Round, Shape, role, is_before, no_round, Asking, Entry, Token, Letter}
use Rattle.cx_model.specs.Prelude.{letter, KeptRecord, Msg, HasVoted, IsReadOf, first_set, entry, Member, HasTurn, IsConfig, Asked, Batch}
use Rattle.cx_model.specs.Prelude.{asking_of, is_matched, make_token, State, ReaderIn, HasRound}
use Rattle.cx_inv_match.specs.Prelude.{Deferred, log_in, AreOnce, answering_matchmakers, HasGarbage, HasBoot, HasStopped, HasMark}
use Rattle.cx_inv_match.specs.Prelude.{IsChosenIn, IsCollected, IsKnown, SetFacts}
use Rattle.cx_base.specs.declared.role.Kind.TheVariants as kind
use Rattle.cx_letter.specs.declared.message.Msg.TheVariants as msg
use Rattle.cx_model.specs.Facts.{IsGridTold}

-- the longer history has all of the shorter
abbrev pub Has : List KeptRecord → List KeptRecord → Type 0
Has longer shorter = (k : KeptRecord) → Member k shorter → Member k longer

-- the later datagrams have all of the earlier
abbrev pub HasSent : List Letter → List Letter → Type 0
HasSent later earlier = (d : Letter) → Member d earlier → Member d later

-- a number above each slot that an acceptor voted in by this history, and at least each chosen watermark that it kept
pub record Covers (history : List KeptRecord) (a : RoleId) (n : ℕ) : Type 0 where
  pub votes : (j : Round) (s : ℕ) (v : Value) → HasVoted history a j s v → s < n
  pub mark : (j : Round) (k : ℕ) → HasMark history a j k → k ≤ n

-- a number above each slot that has a chosen value by this history
abbrev pub IsAbove : List KeptRecord → ℕ → Type 0
IsAbove history n = (j : Round) (s : ℕ) (v : Value) → IsChosenIn history j s v → s < n

-- no retirement watermark, or one for which a matchmaker forgot rounds
abbrev pub IsRaised : List KeptRecord → Round → Type 0
IsRaised history w = (w ≡ no_round) ⊎ ((m : RoleId) × (g : Shape) × HasGarbage history m w g)

-- A matchmaker that hadn't stopped at the earlier moment answers. It tells each round that it had then, unless its retirement watermark is
-- above it. It is one of the first set; or it tells all that it began with, unless its retirement watermark, which isn't below that one, is
-- above it.
pub record IsReadAnswer (c : Cluster) (asked history : List KeptRecord) (m : RoleId) (water : Round) (entries : List Entry) : Type 0 where
  pub running : HasStopped asked m → ⊥
  pub all : (j : Round) (g : Shape) → is_before j water ≡ false → HasRound asked m j g → IsGridTold c j g entries
  pub began : Member m.index (first_set c)
      ⊎ ((t : List ℕ) × (v : Round) × (xs : List Entry) × HasBoot history m t v xs × (is_before water v ≡ false)
      × ((e : Entry) → Member e xs → is_before e.round water ≡ false → IsGridTold c e.round e.grid entries))
  pub only : (e : Entry) → Member e entries → IsConfig history e.round e.grid
  pub raised : IsRaised history water
  pub has_watermark : (water ≡ no_round) ⊎ ((g : Shape) × Member (entry water g) entries)

-- this turn wasn't kept by the earlier moment
abbrev pub IsNew : List KeptRecord → Asking → Type 0
IsNew asked u = HasTurn asked u → ⊥

-- What a datagram says where its turn is new, or where it is of the read, up to the question to a replica. A kind that isn't named says
-- nothing here: of what a replica answers, and of a session, see below.
abbrev pub ReadSays : Cluster → List KeptRecord → Token → List KeptRecord → RoleId → RoleId → Msg → Type 0
ReadSays c asked t history from to (msg.MatchReadAck u w entries) = IsNew asked u → IsReadAnswer c asked history from w entries
ReadSays c asked t history from to (msg.PreRead u w) = IsNew asked u → IsRaised history w
ReadSays c asked t history from to (msg.PreReadAck u w n) = IsNew asked u → Covers asked from n × IsRaised history w
ReadSays c asked t history from to (msg.Read u n key) = u ≡ t → IsAbove asked n
ReadSays c asked t history from to other = Unit {0}

-- an acceptor answered a turn, asked with this retirement watermark, by this number
abbrev pub IsAcked : List Letter → Asking → Round → RoleId → ℕ → Type 0
IsAcked sent u w a n = (to : RoleId) × Member (letter a to (msg.PreReadAck u w n)) sent

-- All numbers by which acceptors answered a turn with this retirement watermark cover the records of one moment, not before the earlier
-- one, at which the rounds below the retirement watermark could be forgotten.
pub record IsSeen (c : Cluster) (asked : List KeptRecord) (sent0 : List Letter) (u : Asking) (history : List KeptRecord)
    (sent : List Letter) (w : Round) : Type 0 where
  pub past : List KeptRecord
  pub sent_then : List Letter
  pub within : Has history past
  pub longer : Has past asked
  pub wider : HasSent sent_then sent0
  pub sets : SetFacts c past
  pub collected : IsCollected c past sent_then w
  pub covers : (a : RoleId) (n : ℕ) → IsAcked sent u w a n → Covers past a n

-- there is no retirement watermark, or no acceptor answered with it, or that is so
abbrev pub HasEvidence : Cluster → List KeptRecord → List Letter → Asking → List KeptRecord → List Letter → Round → Type 0
HasEvidence c asked sent0 u history sent w =
    (w ≡ no_round) ⊎ (((a : RoleId) (n : ℕ) → IsAcked sent u w a n → ⊥) ⊎ IsSeen c asked sent0 u history sent w)

-- No matchmaker was counted twice for a batch, and each is a member of one known set; while more are counted, of the set that the reader
-- knows. And where the read is one of the batch, the batch's turn is a new one.
pub record IsBatch (c : Cluster) (asked : List KeptRecord) (t : Token) (history : List KeptRecord) (me : RoleId) (s : List ℕ)
    (b : Batch) : Type 0 where
  pub set : List ℕ
  pub set_known : IsKnown c history set
  pub once : AreOnce (answering_matchmakers b.told)
  pub known : (m : ℕ) → Member m (answering_matchmakers b.told) → Member m set
  pub asking : is_matched c b ≡ false → (m : ℕ) → Member m (answering_matchmakers b.told) → Member m s
  pub under : (r : Asked) → Member r b.reads → r.read ≡ t → IsNew asked (asking_of me b.turn)

abbrev pub HasBatch : Cluster → List KeptRecord → Token → List KeptRecord → RoleId → List ℕ → Option Batch → Type 0
HasBatch c asked t history me s None = Unit {0}
HasBatch c asked t history me s (Some b) = IsBatch c asked t history me s b

abbrev pub InReader : Cluster → List KeptRecord → Token → List KeptRecord → RoleId → State → Type 0
InReader c asked t history me (ReaderIn v) = HasBatch c asked t history me v.set v.running
InReader c asked t history me other = Unit {0}

-- the facts on new turns and on a read, from a moment on that had these records and datagrams
pub record FreshReadFacts (c : Cluster) (asked : List KeptRecord) (sent0 : List Letter) (t : Token) (history : List KeptRecord)
    (sent : List Letter) (states : RoleId → State) : Type 0 where
  pub has : Has history asked
  pub has_sent : HasSent sent sent0
  pub says : (d : Letter) → Member d sent → ReadSays c asked t history d.from d.to d.msg
  pub evidence : (u : Asking) → IsNew asked u → (w : Round) → HasEvidence c asked sent0 u history sent w
  pub readers : (me : RoleId) → InReader c asked t history me (states me)

-- what a datagram of a turn says: the turn was kept
abbrev pub TurnSays : List KeptRecord → Msg → Type 0
TurnSays history (msg.MatchRead u) = HasTurn history u
TurnSays history (msg.MatchReadAck u w entries) = HasTurn history u
TurnSays history (msg.PreRead u w) = HasTurn history u
TurnSays history (msg.PreReadAck u w n) = HasTurn history u
TurnSays history other = Unit {0}

abbrev pub BatchIsKept : List KeptRecord → RoleId → State → Type 0
BatchIsKept history me (ReaderIn v) = (b : Batch) → v.running ≡ Some b → HasTurn history (asking_of me b.turn)
BatchIsKept history me other = Unit {0}

-- whatever is asked under a turn is asked behind its record
pub record TurnsKept (history : List KeptRecord) (sent : List Letter) (states : RoleId → State) : Type 0 where
  pub says : (d : Letter) → Member d sent → TurnSays history d.msg
  pub running : (me : RoleId) → BatchIsKept history me (states me)

-- a datagram that is of no read with this token, up to the question to a replica
abbrev pub IsElse : Token → RoleId → RoleId → Msg → Type 0
IsElse t from to (msg.ReadReq seq replica key) = make_token from.index seq ≡ t → ⊥
IsElse t from to (msg.Read u n key) = u ≡ t → ⊥
IsElse t from to other = Unit {0}

-- a read that nobody has asked for: no datagram of it was sent
abbrev pub Unread : Token → List KeptRecord → List Letter → (RoleId → State) → Type 0
Unread t history sent states = (d : Letter) → Member d sent → IsElse t d.from d.to d.msg

-- a session's question with this token: the number in it is such a one. All other datagrams say nothing.
abbrev pub SessionSays : Token → (ℕ → Type 0) → RoleId → Msg → Type 0
SessionSays t Marks from (msg.SessRead seq n key) = make_token from.index seq ≡ t → Marks n
SessionSays t Marks from other = Unit {0}

abbrev pub Sessions : Token → (ℕ → Type 0) → List KeptRecord → List Letter → (RoleId → State) → Type 0
Sessions t Marks history sent states = (d : Letter) → Member d sent → SessionSays t Marks d.from d.msg

-- An answer to a client stands on a question that was sent to a replica for this client and number, by a reader or in a session: it is
-- answered after at least as many values as were asked for.
pub record HasQuestion (sent : List Letter) (to : RoleId) (seq n : ℕ) : Type 0 where
  pub replica : RoleId
  pub question : Deferred
  pub asked : IsReadOf sent replica question
  pub enough : question.mark ≤ n
  pub client_is : to ≡ role kind.Client question.token.client
  pub seq_is : seq ≡ question.token.seq

abbrev pub AnswerHasQuestion : List Letter → RoleId → Msg → Type 0
AnswerHasQuestion sent to (msg.ReadAnswer seq n found) = HasQuestion sent to seq n
AnswerHasQuestion sent to other = Unit {0}

abbrev pub AreAnswers : List KeptRecord → List Letter → (RoleId → State) → Type 0
AreAnswers history sent states = (d : Letter) → Member d sent → AnswerHasQuestion sent d.to d.msg

-- some replica kept n values
abbrev pub IsWithin : List KeptRecord → ℕ → Type 0
IsWithin history n = (p : ℕ) × (n ≤ length (log_in history p))

-- an answer reports no more values than some replica kept
abbrev pub TellsWithin : List KeptRecord → Msg → Type 0
TellsWithin history (msg.Results s answers) = (a : Answered) → Member a answers → IsWithin history a.at
TellsWithin history (msg.Answer seq at reply) = IsWithin history at
TellsWithin history (msg.ReadAnswer seq n found) = IsWithin history n
TellsWithin history other = Unit {0}

abbrev pub Within : List KeptRecord → List Letter → (RoleId → State) → Type 0
Within history sent states = (d : Letter) → Member d sent → TellsWithin history d.msg
