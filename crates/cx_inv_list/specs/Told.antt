-- What datagrams, records and roles say of the command list: each command in them was asked for, each answer in them is right by the values
-- that a replica kept, each key in them is that of its request, and each value that a replica tells is the one that it kept.
use Rattle.std.specs.Prelude.{◌≡◌, ◌⊎◌, ℕ, ◌≤◌, take, List, length, slice_get, Option, None, Some}
use Rattle.cx_model.specs.Prelude.{Answered, Command, Placed, Reply, Value, RoleId, commands_of, fold, text_at, Token, Vote, Letter}
use Rattle.cx_model.specs.Prelude.{KeptRecord, Written, Record, Msg, IsRight, Member, Outcome, Asked, Batch, make_token, State, BatcherIn}
use Rattle.cx_model.specs.Prelude.{LeaderIn, ProxyIn, ReplicaIn, ReaderIn}
use Rattle.cx_inv_match.specs.Prelude.{Deferred, Pending, Promised, with_record, log_in}
use Rattle.cx_base.specs.declared.role.Kind.TheVariants as kind
use Rattle.cx_letter.specs.declared.input.Written.TheVariants as written
use Rattle.cx_letter.specs.declared.kept.Record.TheVariants as kept
use Rattle.cx_letter.specs.declared.message.Msg.TheVariants as msg

-- What may be said of the commands that were asked for, of the keys of the reads that were, and of those of sessions.
pub record RequestPredicates : Type 1 where
  pub asked : Command → Type 0
  pub wanted : Token → List ℕ → Type 0
  pub sought : Token → List ℕ → Type 0

-- a key was asked for, by a read or in a session
abbrev pub Wants : RequestPredicates → Token → List ℕ → Type 0
Wants q t key = q.wanted t key ⊎ q.sought t key

-- each command passes
abbrev pub AreAsked : RequestPredicates → List Command → Type 0
AreAsked q commands = (k : Command) → Member k commands → q.asked k

abbrev pub AreVotesAsked : RequestPredicates → List Vote → Type 0
AreVotesAsked q votes = (u : Vote) → Member u votes → AreAsked q (commands_of u.value)

-- an answer is right by the values that some replica kept
abbrev pub IsRightByReplica : List KeptRecord → ℕ → ℕ → ℕ → Reply → Type 0
IsRightByReplica history client seq at reply = (p : ℕ) × IsRight (log_in history p) client seq at reply

-- a read's answer has the text of its key in the map that the first n values of this replica leave
pub record IsAnswerToRead (q : RequestPredicates) (history : List KeptRecord) (replica : ℕ) (t : Token) (n : ℕ)
    (found : Option (List ℕ)) : Type 0 where
  pub key : List ℕ
  pub wanted : Wants q t key
  pub within : n ≤ length (log_in history replica)
  pub found_is : found ≡ text_at key (fold (take n (log_in history replica)))

-- a value that a replica tells as chosen is the one that it kept in that slot
abbrev pub IsAsKept : List KeptRecord → RoleId → ℕ → Value → Type 0
IsAsKept history from s v = from.kind ≡ kind.Replica → slice_get (log_in history from.index) s ≡ Some v

abbrev pub ListSays : RequestPredicates → List KeptRecord → RoleId → RoleId → Msg → Type 0
ListSays q history from to (msg.Submit k) = q.asked k
ListSays q history from to (msg.Batch ks) = AreAsked q ks
ListSays q history from to (msg.Phase1B i cw votes) = AreVotesAsked q votes
ListSays q history from to (msg.Propose i g s cw v) = AreAsked q (commands_of v)
ListSays q history from to (msg.Phase2A i s cw v) = AreAsked q (commands_of v)
ListSays q history from to (msg.Chosen s v) = IsAsKept history from s v
ListSays q history from to (msg.Results s answers) =
    (a : Answered) → Member a answers → IsRight (log_in history from.index) a.client a.seq a.at a.reply
ListSays q history from to (msg.Answer seq at reply) = IsRightByReplica history to.index seq at reply
ListSays q history from to (msg.ReadReq seq replica key) = q.wanted (make_token from.index seq) key
ListSays q history from to (msg.Read t n key) = q.wanted t key
ListSays q history from to (msg.SessRead seq n key) = q.sought (make_token from.index seq) key
ListSays q history from to (msg.ReadAnswer seq n found) = IsAnswerToRead q history from.index (make_token to.index seq) n found
ListSays q history from to other = Unit {0}

-- a vote's commands were asked for
abbrev pub ListKeeps : RequestPredicates → Written → Type 0
ListKeeps q (written.Record (kept.Vote i s cw v)) = AreAsked q (commands_of v)
ListKeeps q (written.Record (kept.Voted i top cw vs)) = AreVotesAsked q vs
ListKeeps q other = Unit {0}

-- the keys of these reads, and of a batch's, were asked for
abbrev pub AreWanted : RequestPredicates → List Asked → Type 0
AreWanted q rs = (r : Asked) → Member r rs → q.wanted r.read r.key

abbrev pub BatchWanted : RequestPredicates → Option Batch → Type 0
BatchWanted q None = Unit {0}
BatchWanted q (Some b) = AreWanted q b.reads

abbrev pub InList : RequestPredicates → State → Type 0
InList q (BatcherIn v) = AreAsked q v.waiting
InList q (LeaderIn v) = ((p : Promised) → Member p v.promises → AreVotesAsked q p.votes)
    × ((p : Placed) → Member p v.proposed → AreAsked q (commands_of p.value))
InList q (ProxyIn v) = (p : Pending) → Member p v.pending → AreAsked q (commands_of p.value)
InList q (ReplicaIn v) = (r : Deferred) → Member r v.deferred → Wants q r.token r.key
InList q (ReaderIn v) = AreWanted q v.waiting × BatchWanted q v.running
InList q other = Unit {0}

-- all of a moment
pub record ListFacts (q : RequestPredicates) (history : List KeptRecord) (sent : List Letter) (states : RoleId → State) : Type 0 where
  pub keeps : (k : KeptRecord) → Member k history → ListKeeps q k.what
  pub says : (d : Letter) → Member d sent → ListSays q history d.from d.to d.msg
  pub running : (me : RoleId) → InList q (states me)

abbrev pub ListKeepsRecord : RequestPredicates → Option Record → Type 0
ListKeepsRecord q None = Unit {0}
ListKeepsRecord q (Some r) = ListKeeps q (written.Record r)

-- what a row gives
pub record IsListed {V : Type 0} (q : RequestPredicates) (history : List KeptRecord) (me : RoleId) (make : V → State)
    (o : Outcome V) : Type 0 where
  pub state : InList q (make o.volatile)
  pub keeps : ListKeepsRecord q o.kept
  pub sends : (d : Letter) → Member d o.sends → ListSays q (with_record me o.kept history) d.from d.to d.msg
