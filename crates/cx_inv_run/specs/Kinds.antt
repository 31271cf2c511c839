-- Which kind of role sends each kind of datagram, and makes each kind of change in its store.
use Rattle.std.specs.Prelude.{◌≡◌, true, false, ◌⊎◌, List, Option, None, Some}
use Rattle.cx_model.specs.Prelude.{puts_anew, Cluster, Event, Kind, RoleId, Letter, KeptRecord, Written, Record, Msg, Member, Outcome, run}
use Rattle.cx_model.specs.Prelude.{State}
use Rattle.cx_base.specs.declared.role.Kind.TheVariants as kind
use Rattle.cx_letter.specs.declared.input.Written.TheVariants as written
use Rattle.cx_letter.specs.declared.kept.Record.TheVariants as kept
use Rattle.cx_letter.specs.declared.message.Msg.TheVariants as msg

abbrev pub IsSender : Kind → Msg → Type 0
IsSender k (msg.Submit command) = k ≡ kind.Client
IsSender k (msg.Batch commands) = k ≡ kind.Batcher
IsSender k (msg.Leads i) = k ≡ kind.Leader
IsSender k (msg.MatchA i g) = k ≡ kind.Leader
IsSender k (msg.MatchB i w entries) = k ≡ kind.Matchmaker
IsSender k (msg.MatchNack i reason other) = k ≡ kind.Matchmaker
IsSender k (msg.Phase1A i) = k ≡ kind.Leader
IsSender k (msg.Phase1B i cw votes) = k ≡ kind.Acceptor
IsSender k (msg.Nack i promise) = k ≡ kind.Acceptor
IsSender k (msg.Propose i g s cw v) = k ≡ kind.Leader
IsSender k (msg.Phase2A i s cw v) = k ≡ kind.Proxy
IsSender k (msg.Phase2B i s) = k ≡ kind.Acceptor
IsSender k (msg.Chosen s v) = (k ≡ kind.Proxy) ⊎ (k ≡ kind.Replica)
IsSender k (msg.ChosenIn i s) = k ≡ kind.Proxy
IsSender k (msg.Results s answers) = k ≡ kind.Replica
IsSender k (msg.Answer seq at reply) = k ≡ kind.Unbatcher
IsSender k (msg.Held n) = k ≡ kind.Replica
IsSender k (msg.Fetch s) = k ≡ kind.Replica
IsSender k (msg.Inform i cw) = k ≡ kind.Leader
IsSender k (msg.Informed i cw) = k ≡ kind.Acceptor
IsSender k (msg.GarbageA i g) = k ≡ kind.Leader
IsSender k (msg.GarbageB i) = k ≡ kind.Matchmaker
IsSender k (msg.ReadReq seq replica key) = k ≡ kind.Client
IsSender k (msg.MatchRead u) = k ≡ kind.Reader
IsSender k (msg.MatchReadAck u w entries) = k ≡ kind.Matchmaker
IsSender k (msg.PreRead u w) = k ≡ kind.Reader
IsSender k (msg.PreReadAck u w n) = k ≡ kind.Acceptor
IsSender k (msg.Read t n key) = k ≡ kind.Reader
IsSender k (msg.ReadAnswer seq n found) = k ≡ kind.Replica
IsSender k (msg.StopA b) = k ≡ kind.Replacer
IsSender k (msg.StopB b w entries a s) = k ≡ kind.Matchmaker
IsSender k (msg.StopNack b other) = k ≡ kind.Matchmaker
IsSender k (msg.NextA b s) = k ≡ kind.Replacer
IsSender k (msg.NextB b) = k ≡ kind.Matchmaker
IsSender k (msg.BootA s w entries) = k ≡ kind.Replacer
IsSender k (msg.BootB s) = k ≡ kind.Matchmaker
IsSender k (msg.Sets s) = k ≡ kind.Replacer
IsSender k (msg.SessRead seq n key) = k ≡ kind.Client

-- none keeps the records of a renewed list, which stand in the place of others
abbrev pub IsKeeper : Kind → Record → Type 0
IsKeeper k (kept.Promise i) = k ≡ kind.Acceptor
IsKeeper k (kept.Vote i s cw v) = k ≡ kind.Acceptor
IsKeeper k (kept.Water i cw) = k ≡ kind.Acceptor
IsKeeper k (kept.Match i g) = k ≡ kind.Matchmaker
IsKeeper k (kept.Garbage i g) = k ≡ kind.Matchmaker
IsKeeper k (kept.Round i g) = k ≡ kind.Leader
IsKeeper k (kept.Log values) = k ≡ kind.Replica
IsKeeper k (kept.Ballot b) = k ≡ kind.Replacer
IsKeeper k (kept.Stop b) = k ≡ kind.Matchmaker
IsKeeper k (kept.Next b s) = k ≡ kind.Matchmaker
IsKeeper k (kept.Boot s w entries) = k ≡ kind.Matchmaker
IsKeeper k (kept.Turn n) = k ≡ kind.Reader
IsKeeper k (kept.Known s) = k ≡ kind.Replacer
IsKeeper k other = true ≡ false

-- a role of this kind may make this change in its store: keep a record of its kind; some also put their lists anew
abbrev pub IsWriter : Kind → Written → Type 0
IsWriter k (written.Record r) = IsKeeper k r
IsWriter k (written.Snap first) = puts_anew k ≡ true

abbrev pub IsKept : Kind → Option Record → Type 0
IsKept k None = Unit {0}
IsKept k (Some r) = IsKeeper k r

-- what a row sends is its own role's, and of its kind; so is the record that it keeps
pub record OfKind {V : Type 0} (me : RoleId) (o : Outcome V) : Type 0 where
  pub sends : (d : Letter) → Member d o.sends → (d.from ≡ me) × IsSender me.kind d.msg
  pub keeps : IsKept me.kind o.kept

-- every datagram and every change is of its role's kind
pub record Kinds (history : List KeptRecord) (sent : List Letter) (states : RoleId → State) : Type 0 where
  pub senders : (d : Letter) → Member d sent → IsSender d.from.kind d.msg
  pub keepers : (k : KeptRecord) → Member k history → IsWriter k.role.kind k.what

-- it is so in every run
pub record KindsLaw : Type 0 where
  pub senders : (c : Cluster) (es : List Event) (d : Letter) → Member d (run c es).sent → IsSender d.from.kind d.msg
  pub keepers : (c : Cluster) (es : List Event) (k : KeptRecord) → Member k (run c es).kept → IsWriter k.role.kind k.what
