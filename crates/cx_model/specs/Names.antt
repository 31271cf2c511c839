-- Which names of a datagram or a record lie in the cluster.
use Rattle.std.specs.Prelude.{ℕ, ◌+◌, ◌*◌, ◌==◌, Bool, true, ◌&&◌, nat_lt, List, [], ◌∷◌, length}
use Rattle.cx_letter.specs.Prelude.{list_all, Cluster, Answered, Command, Value, RoleId, Round, count_of, commands_of, Shape, is_rising}
use Rattle.cx_letter.specs.Prelude.{Letter, Asking, Entry, Token, Vote}
use Rattle.cx_letter.specs.declared.message.Msg.{Msg}
use Rattle.cx_letter.specs.declared.message.Msg.TheVariants as msg

abbrev pub names_role : Cluster → RoleId → Bool
names_role c r = nat_lt r.index (count_of c r.kind)

-- a round names its leader; no round names leader 0, which every cluster has
abbrev pub names_round : Cluster → Round → Bool
names_round c r = nat_lt r.id c.leaders

abbrev pub names_grid : Cluster → Shape → Bool
names_grid c g = list_all (λ id. nat_lt id c.acceptors) g.members

abbrev pub names_command : Cluster → Command → Bool
names_command c command = nat_lt command.client c.clients

abbrev pub names_value : Cluster → Value → Bool
names_value c v = list_all (λ (k : Command). names_command c k) (commands_of v)

abbrev pub names_entry : Cluster → Entry → Bool
names_entry c e = names_round c e.round && names_grid c e.grid

abbrev pub names_vote : Cluster → Vote → Bool
names_vote c v = names_round c v.round && names_value c v.value

abbrev pub names_answer : Cluster → Answered → Bool
names_answer c a = nat_lt a.client c.clients

-- a ballot names its replacer
abbrev pub names_ballot : Cluster → Round → Bool
names_ballot c b = nat_lt b.id c.replacers

-- a set of matchmakers has 2f + 1 of them
abbrev pub names_set : Cluster → List ℕ → Bool
names_set c s = (length s == 2 * c.f + 1) && is_rising s && list_all (λ m. nat_lt m c.pool) s

abbrev pub names_token : Cluster → Token → Bool
names_token c t = nat_lt t.client c.clients

-- an asking names its reader
abbrev pub names_asking : Cluster → Asking → Bool
names_asking c u = nat_lt u.reader c.readers

-- a next set that was accepted, or none
abbrev pub names_next : Cluster → List ℕ → Bool
names_next c [] = true
names_next c (m ∷ ms) = names_set c (m ∷ ms)

-- each name in what a datagram says: leaders of rounds, replacers of ballots, members of grids and sets, clients, readers, replicas
abbrev pub names_body : Cluster → Msg → Bool
names_body c (msg.Submit command) = names_command c command
names_body c (msg.Batch commands) = list_all (λ (k : Command). names_command c k) commands
names_body c (msg.Leads i) = names_round c i
names_body c (msg.MatchA i g) = names_round c i && names_grid c g
names_body c (msg.MatchB i w es) = names_round c i && names_round c w && list_all (λ (e : Entry). names_entry c e) es
names_body c (msg.MatchNack i reason j) = names_round c i && names_round c j
names_body c (msg.Phase1A i) = names_round c i
names_body c (msg.Phase1B i cw vs) = names_round c i && list_all (λ (v : Vote). names_vote c v) vs
names_body c (msg.Nack i j) = names_round c i && names_round c j
names_body c (msg.Propose i g s cw v) = names_round c i && names_grid c g && names_value c v
names_body c (msg.Phase2A i s cw v) = names_round c i && names_value c v
names_body c (msg.Phase2B i s) = names_round c i
names_body c (msg.Chosen s v) = names_value c v
names_body c (msg.ChosenIn i s) = names_round c i
names_body c (msg.Results s answers) = list_all (λ (a : Answered). names_answer c a) answers
names_body c (msg.Answer seq at reply) = true
names_body c (msg.Held n) = true
names_body c (msg.Fetch n) = true
names_body c (msg.Inform i n) = names_round c i
names_body c (msg.Informed i n) = names_round c i
names_body c (msg.GarbageA i g) = names_round c i && names_grid c g
names_body c (msg.GarbageB i) = names_round c i
names_body c (msg.ReadReq seq p key) = nat_lt p c.replicas
names_body c (msg.MatchRead u) = names_asking c u
names_body c (msg.MatchReadAck u w es) = names_asking c u && names_round c w && list_all (λ (e : Entry). names_entry c e) es
names_body c (msg.PreRead u w) = names_asking c u && names_round c w
names_body c (msg.PreReadAck u w n) = names_asking c u && names_round c w
names_body c (msg.Read t n key) = names_token c t
names_body c (msg.ReadAnswer seq n text) = true
names_body c (msg.StopA b) = names_ballot c b
names_body c (msg.StopB b w es a s) =
    names_ballot c b && names_round c w && list_all (λ (e : Entry). names_entry c e) es && names_ballot c a && names_next c s
names_body c (msg.StopNack b a) = names_ballot c b && names_ballot c a
names_body c (msg.NextA b s) = names_ballot c b && names_set c s
names_body c (msg.NextB b) = names_ballot c b
names_body c (msg.BootA s w es) = names_set c s && names_round c w && list_all (λ (e : Entry). names_entry c e) es
names_body c (msg.BootB s) = names_set c s
names_body c (msg.Sets s) = names_set c s
names_body c (msg.SessRead seq n key) = true

-- every role, leader, replacer, member, client, reader and replica that a datagram names lies in the cluster
abbrev pub names : Cluster → Letter → Bool
names c d = names_role c d.from && names_role c d.to && names_body c d.msg
