-- What is true of each message that a kind of role sends is true of all that its rows send; the same of records.
use Rattle.std.proofs.Common.{sym, subst, inl, inr}
use Rattle.cx_model.specs.Prelude.{◌≡◌, ℕ, List, Option, Some, refl, Answered, Command, Reply, Value, Kind, RoleId, Round, Shape, role}
use Rattle.cx_model.specs.Prelude.{Asking, Entry, NackReason, Token, Vote, Letter, letter, Record, Msg, role_from_parts, Member, Outcome}
use Rattle.cx_base.specs.declared.role.Kind.TheVariants as kind
use Rattle.cx_letter.specs.declared.kept.Record.TheVariants as kept
use Rattle.cx_letter.specs.declared.message.Msg.TheVariants as msg
use Rattle.cx_inv_run.specs.Kinds.{IsSender, IsKeeper, IsKept, OfKind}

-- the messages of each kind of role

pub batcher_sends : (P : Msg → Type 0) → ((commands : List Command) → P (msg.Batch commands)) → (m : Msg) → IsSender kind.Batcher m → P m
batcher_sends P batch (msg.Batch commands) s = batch commands
batcher_sends P batch (msg.Chosen t v) (inl e) = cc
batcher_sends P batch (msg.Chosen t v) (inr e) = cc
batcher_sends P batch other s = cc

pub leader_sends : (P : Msg → Type 0) → ((i : Round) → P (msg.Leads i)) → ((i : Round) (g : Shape) → P (msg.MatchA i g))
    → ((i : Round) → P (msg.Phase1A i))
    → ((i : Round) (g : Shape) (s cw : ℕ) (v : Value) → P (msg.Propose i g s cw v)) → ((i : Round) (cw : ℕ) → P (msg.Inform i cw))
    → ((i : Round) (g : Shape) → P (msg.GarbageA i g)) → (m : Msg) → IsSender kind.Leader m → P m
leader_sends P leads match_a phase1a propose inform garbage_a (msg.Leads i) s = leads i
leader_sends P leads match_a phase1a propose inform garbage_a (msg.MatchA i g) s = match_a i g
leader_sends P leads match_a phase1a propose inform garbage_a (msg.Phase1A i) s = phase1a i
leader_sends P leads match_a phase1a propose inform garbage_a (msg.Propose i g t cw v) s = propose i g t cw v
leader_sends P leads match_a phase1a propose inform garbage_a (msg.Inform i cw) s = inform i cw
leader_sends P leads match_a phase1a propose inform garbage_a (msg.GarbageA i g) s = garbage_a i g
leader_sends P leads match_a phase1a propose inform garbage_a (msg.Chosen t v) (inl e) = cc
leader_sends P leads match_a phase1a propose inform garbage_a (msg.Chosen t v) (inr e) = cc
leader_sends P leads match_a phase1a propose inform garbage_a other s = cc

pub proxy_sends : (P : Msg → Type 0) → ((i : Round) (s cw : ℕ) (v : Value) → P (msg.Phase2A i s cw v))
    → ((s : ℕ) (v : Value) → P (msg.Chosen s v)) → ((i : Round) (s : ℕ) → P (msg.ChosenIn i s)) → (m : Msg) → IsSender kind.Proxy m → P m
proxy_sends P phase2a chosen chosen_in (msg.Phase2A i t cw v) s = phase2a i t cw v
proxy_sends P phase2a chosen chosen_in (msg.Chosen t v) s = chosen t v
proxy_sends P phase2a chosen chosen_in (msg.ChosenIn i t) s = chosen_in i t
proxy_sends P phase2a chosen chosen_in other s = cc

pub acceptor_sends : (P : Msg → Type 0) → ((i : Round) (cw : ℕ) (votes : List Vote) → P (msg.Phase1B i cw votes))
    → ((i promise : Round) → P (msg.Nack i promise))
    → ((i : Round) (s : ℕ) → P (msg.Phase2B i s)) → ((i : Round) (cw : ℕ) → P (msg.Informed i cw))
    → ((u : Asking) (w : Round) (n : ℕ) → P (msg.PreReadAck u w n)) → (m : Msg) → IsSender kind.Acceptor m → P m
acceptor_sends P phase1b nack phase2b informed pre_read_ack (msg.Phase1B i cw votes) s = phase1b i cw votes
acceptor_sends P phase1b nack phase2b informed pre_read_ack (msg.Nack i promise) s = nack i promise
acceptor_sends P phase1b nack phase2b informed pre_read_ack (msg.Phase2B i t) s = phase2b i t
acceptor_sends P phase1b nack phase2b informed pre_read_ack (msg.Informed i cw) s = informed i cw
acceptor_sends P phase1b nack phase2b informed pre_read_ack (msg.PreReadAck u w n) s = pre_read_ack u w n
acceptor_sends P phase1b nack phase2b informed pre_read_ack (msg.Chosen t v) (inl e) = cc
acceptor_sends P phase1b nack phase2b informed pre_read_ack (msg.Chosen t v) (inr e) = cc
acceptor_sends P phase1b nack phase2b informed pre_read_ack other s = cc

pub matchmaker_sends : (P : Msg → Type 0) → ((i w : Round) (entries : List Entry) → P (msg.MatchB i w entries))
    → ((i : Round) (reason : NackReason) (other : Round) → P (msg.MatchNack i reason other))
    → ((i : Round) → P (msg.GarbageB i)) → ((u : Asking) (w : Round) (entries : List Entry) → P (msg.MatchReadAck u w entries))
    → ((b w : Round) (entries : List Entry) (a : Round) (s : List ℕ) → P (msg.StopB b w entries a s))
    → ((b other : Round) → P (msg.StopNack b other)) → ((b : Round) → P (msg.NextB b)) → ((s : List ℕ) → P (msg.BootB s))
    → (m : Msg) → IsSender kind.Matchmaker m → P m
matchmaker_sends P match_b match_nack garbage_b match_read_ack stop_b stop_nack next_b boot_b (msg.MatchB i w entries) s =
    match_b i w entries
matchmaker_sends P match_b match_nack garbage_b match_read_ack stop_b stop_nack next_b boot_b (msg.MatchNack i reason other) s =
    match_nack i reason other
matchmaker_sends P match_b match_nack garbage_b match_read_ack stop_b stop_nack next_b boot_b (msg.GarbageB i) s = garbage_b i
matchmaker_sends P match_b match_nack garbage_b match_read_ack stop_b stop_nack next_b boot_b (msg.MatchReadAck u w entries) s =
    match_read_ack u w entries
matchmaker_sends P match_b match_nack garbage_b match_read_ack stop_b stop_nack next_b boot_b (msg.StopB b w entries a next) s =
    stop_b b w entries a next
matchmaker_sends P match_b match_nack garbage_b match_read_ack stop_b stop_nack next_b boot_b (msg.StopNack b other) s = stop_nack b other
matchmaker_sends P match_b match_nack garbage_b match_read_ack stop_b stop_nack next_b boot_b (msg.NextB b) s = next_b b
matchmaker_sends P match_b match_nack garbage_b match_read_ack stop_b stop_nack next_b boot_b (msg.BootB set) s = boot_b set
matchmaker_sends P match_b match_nack garbage_b match_read_ack stop_b stop_nack next_b boot_b (msg.Chosen t v) (inl e) = cc
matchmaker_sends P match_b match_nack garbage_b match_read_ack stop_b stop_nack next_b boot_b (msg.Chosen t v) (inr e) = cc
matchmaker_sends P match_b match_nack garbage_b match_read_ack stop_b stop_nack next_b boot_b other s = cc

pub replica_sends : (P : Msg → Type 0) → ((s : ℕ) (v : Value) → P (msg.Chosen s v))
    → ((s : ℕ) (answers : List Answered) → P (msg.Results s answers))
    → ((n : ℕ) → P (msg.Held n)) → ((s : ℕ) → P (msg.Fetch s)) → ((seq n : ℕ) (found : Option (List ℕ)) → P (msg.ReadAnswer seq n found))
    → (m : Msg) → IsSender kind.Replica m → P m
replica_sends P chosen results held fetch read_answer (msg.Chosen t v) s = chosen t v
replica_sends P chosen results held fetch read_answer (msg.Results t answers) s = results t answers
replica_sends P chosen results held fetch read_answer (msg.Held n) s = held n
replica_sends P chosen results held fetch read_answer (msg.Fetch t) s = fetch t
replica_sends P chosen results held fetch read_answer (msg.ReadAnswer seq n found) s = read_answer seq n found
replica_sends P chosen results held fetch read_answer other s = cc

pub unbatcher_sends : (P : Msg → Type 0) → ((seq at : ℕ) (reply : Reply) → P (msg.Answer seq at reply)) → (m : Msg)
    → IsSender kind.Unbatcher m → P m
unbatcher_sends P answer (msg.Answer seq at reply) s = answer seq at reply
unbatcher_sends P answer (msg.Chosen t v) (inl e) = cc
unbatcher_sends P answer (msg.Chosen t v) (inr e) = cc
unbatcher_sends P answer other s = cc

pub reader_sends : (P : Msg → Type 0) → ((u : Asking) → P (msg.MatchRead u)) → ((u : Asking) (w : Round) → P (msg.PreRead u w))
    → ((t : Token) (n : ℕ) (key : List ℕ) → P (msg.Read t n key)) → (m : Msg) → IsSender kind.Reader m → P m
reader_sends P match_read pre_read read (msg.MatchRead u) s = match_read u
reader_sends P match_read pre_read read (msg.PreRead u w) s = pre_read u w
reader_sends P match_read pre_read read (msg.Read t n key) s = read t n key
reader_sends P match_read pre_read read (msg.Chosen t v) (inl e) = cc
reader_sends P match_read pre_read read (msg.Chosen t v) (inr e) = cc
reader_sends P match_read pre_read read other s = cc

-- the records of each kind of role that keeps some

pub acceptor_keeps : (P : Record → Type 0) → ((i : Round) → P (kept.Promise i))
    → ((i : Round) (s cw : ℕ) (v : Value) → P (kept.Vote i s cw v)) → ((i : Round) (cw : ℕ) → P (kept.Water i cw))
    → (r : Record) → IsKeeper kind.Acceptor r → P r
acceptor_keeps P promise vote water (kept.Promise i) k = promise i
acceptor_keeps P promise vote water (kept.Vote i s cw v) k = vote i s cw v
acceptor_keeps P promise vote water (kept.Water i cw) k = water i cw
acceptor_keeps P promise vote water other k = cc

pub matchmaker_keeps : (P : Record → Type 0) → ((i : Round) (g : Shape) → P (kept.Match i g))
    → ((i : Round) (g : Shape) → P (kept.Garbage i g))
    → ((b : Round) → P (kept.Stop b)) → ((b : Round) (s : List ℕ) → P (kept.Next b s))
    → ((s : List ℕ) (w : Round) (es : List Entry) → P (kept.Boot s w es)) → (r : Record) → IsKeeper kind.Matchmaker r → P r
matchmaker_keeps P matches garbage stop next boot (kept.Match i g) k = matches i g
matchmaker_keeps P matches garbage stop next boot (kept.Garbage i g) k = garbage i g
matchmaker_keeps P matches garbage stop next boot (kept.Stop b) k = stop b
matchmaker_keeps P matches garbage stop next boot (kept.Next b s) k = next b s
matchmaker_keeps P matches garbage stop next boot (kept.Boot s w es) k = boot s w es
matchmaker_keeps P matches garbage stop next boot other k = cc

pub replacer_keeps : (P : Record → Type 0) → ((b : Round) → P (kept.Ballot b)) → ((s : List ℕ) → P (kept.Known s)) → (r : Record)
    → IsKeeper kind.Replacer r → P r
replacer_keeps P ballot known (kept.Ballot b) k = ballot b
replacer_keeps P ballot known (kept.Known s) k = known s
replacer_keeps P ballot known other k = cc

pub leader_keeps : (P : Record → Type 0) → ((i : Round) (g : Shape) → P (kept.Round i g)) → (r : Record) → IsKeeper kind.Leader r → P r
leader_keeps P round (kept.Round i g) k = round i g
leader_keeps P round other k = cc

pub replica_keeps : (P : Record → Type 0) → ((values : List Value) → P (kept.Log values)) → (r : Record) → IsKeeper kind.Replica r → P r
replica_keeps P log (kept.Log values) k = log values
replica_keeps P log other k = cc

pub reader_keeps : (P : Record → Type 0) → ((n : ℕ) → P (kept.Turn n)) → (r : Record) → IsKeeper kind.Reader r → P r
reader_keeps P turn (kept.Turn n) k = turn n
reader_keeps P turn other k = cc

-- the others keep none

pub batcher_keeps : {A : Type 0} (r : Record) → IsKeeper kind.Batcher r → A
batcher_keeps (kept.Promise i) k = cc
batcher_keeps other k = cc

pub proxy_keeps : {A : Type 0} (r : Record) → IsKeeper kind.Proxy r → A
proxy_keeps (kept.Promise i) k = cc
proxy_keeps other k = cc

pub unbatcher_keeps : {A : Type 0} (r : Record) → IsKeeper kind.Unbatcher r → A
unbatcher_keeps (kept.Promise i) k = cc
unbatcher_keeps other k = cc

-- from a row's kinds

-- a property of each message that such a role may send holds of all that the row sends
pub sends_only : {V : Type 0} (P : Letter → Type 0) (me : RoleId) (o : Outcome V) → OfKind me o
    → ((to : RoleId) (m : Msg) → IsSender me.kind m → P (letter me to m)) → (d : Letter) → Member d o.sends → P d
sends_only P me o kinds h d m =
    let own = kinds.sends d m in
    subst (λ (from : RoleId). P (letter from d.to d.msg)) (sym own.0) (h d.to d.msg own.1)

pub keeps_only : {V : Type 0} (me : RoleId) (o : Outcome V) (r : Record) → OfKind me o → o.kept ≡ Some r → IsKeeper me.kind r
keeps_only me o r kinds e = subst (λ x. IsKept me.kind x) e kinds.keeps

-- a role is the one of its kind and index
pub named : (k : Kind) (a : RoleId) → a.kind ≡ k → a ≡ role k a.index
named k a is = role_from_parts a.kind k a.index a.index is refl
