-- What the input of a node says: its header's cluster, and the requests of the lines after it.
use Rattle.std.specs.Prelude.{◌≡◌, ◌⊎◌, ℕ, Bool, true, false, not, ◌&&◌, ◌||◌, List, [], ◌∷◌, map, Option, None, Some, Result, Ok, Err}
use Rattle.std.specs.Prelude.{if◌then◌else◌, flat_map}
use Rattle.cx_role.specs.Prelude.{Consumes, list_all, list_any, Cluster, Kind, Client, Batcher, Leader, Proxy, Acceptor, Matchmaker}
use Rattle.cx_role.specs.Prelude.{Replica, Unbatcher, Reader, Replacer, RoleId, count_of, below, role, same_role, names_role}
use Rattle.cx_cluster.specs.declared.fault.ClusterFault.{ClusterFault}
use Rattle.cx_cluster.specs.Reading.{header_cluster}
use Rattle.cx_script.specs.Input.{begun_input, whole_input}
use Rattle.cx_script.specs.Requests.{requests_of}
use Rattle.cx_node.specs.declared.input.Accepted.{Accepted}
use Rattle.cx_node.specs.declared.input.NodeInput.{NodeInput}
use Rattle.cx_node.specs.declared.input.NodeInput.TheVariants.{Nothing, BadHeader, Lines}
use Rattle.cx_node.specs.declared.input.Refusal.{Refusal}
use Rattle.cx_node.specs.declared.input.Refusal.TheVariants as refusal

-- a header without a port is bad
abbrev pub with_port : Option ℕ → List ℕ → Cluster → List ℕ → NodeInput
with_port None header c rest = BadHeader
with_port (Some port) header c rest = Lines header c (requests_of c rest)

-- the cluster that a header's text says, and the requests that the bytes after it spell
abbrev pub behind : Result Cluster ClusterFault → List ℕ → List ℕ → NodeInput
behind (Ok c) header rest = with_port c.base_port header c rest
behind (Err fault) header rest = BadHeader

-- the same of a header's text and the bytes after it
abbrev pub header_says : List ℕ → List ℕ → NodeInput
header_says header rest = behind (header_cluster header) header rest

-- what a whole input says
abbrev pub input_of : List ℕ → NodeInput
input_of bytes = whole_input header_says BadHeader bytes

-- what bytes say after which others may come
abbrev pub lines : List ℕ → NodeInput
lines bytes = begun_input header_says BadHeader Nothing bytes

-- what bytes say: the whole input where it has ended
abbrev pub input_says : Bool → List ℕ → NodeInput
input_says true bytes = input_of bytes
input_says false bytes = lines bytes

-- the first bad line, if one is
abbrev pub bad_line_of : Option ℕ → Option Refusal
bad_line_of None = None
bad_line_of (Some line) = Some (refusal.BadInput line)

-- all kinds of roles
abbrev pub kinds : List Kind
kinds = Client ∷ Batcher ∷ Leader ∷ Proxy ∷ Acceptor ∷ Matchmaker ∷ Replica ∷ Unbatcher ∷ Reader ∷ Replacer ∷ []

-- all roles of a cluster
abbrev pub roles_as : Cluster → Kind → List RoleId
roles_as c k = map (role k) (below (count_of c k))

abbrev pub cluster_roles : Cluster → List RoleId
cluster_roles c = flat_map (roles_as c) kinds

-- each role of the cluster is among these
abbrev pub are_all : Cluster → List RoleId → Bool
are_all c roles = list_all (λ (r : RoleId). list_any (same_role r) roles) (cluster_roles c)

-- whether a node may host these roles: each is in the cluster, and where the node records no other is
abbrev pub may_host : Bool → Cluster → List RoleId → Bool
may_host recording c roles = list_all (λ (r : RoleId). names_role c r) roles && (not recording || are_all c roles)

-- Why an input is refused of a node of these roles: by its header, the roles, or the first bad line, in this order.
abbrev pub refused_of : Bool → List RoleId → NodeInput → Option Refusal
refused_of recording roles Nothing = None
refused_of recording roles BadHeader = Some (refusal.BadInput 0)
refused_of recording roles (Lines header c spelled) = if may_host recording c roles then bad_line_of spelled.bad else Some refusal.BadWords

-- what was answered is what the input says, out of memory aside
abbrev pub IsRefusal : Option Refusal → Refusal → Type 0
IsRefusal said refusal.NoMemory = Unit {0}
IsRefusal said refusal.ReadFault = ⊥
IsRefusal said (refusal.BadInput line) = said ≡ Some (refusal.BadInput line)
IsRefusal said refusal.BadWords = said ≡ Some refusal.BadWords

-- what is answered to bytes that say this, of a whole input or not: what they say, the first refusal, or that more
-- was to come
abbrev pub IsInputAnswer : Bool → Bool → List RoleId → NodeInput → Result Accepted Refusal → Type 0
IsInputAnswer ended recording roles heard (Ok a) =
    (heard ≡ Lines a.header a.cluster a.schedule) × (refused_of recording roles heard ≡ None) × (ended ≡ true)
IsInputAnswer ended recording roles heard (Err refusal.NoMemory) = Unit {0}
IsInputAnswer ended recording roles heard (Err refusal.ReadFault) = (refused_of recording roles heard ≡ None) × (ended ≡ false)
IsInputAnswer ended recording roles heard (Err (refusal.BadInput line)) = refused_of recording roles heard ≡ Some (refusal.BadInput line)
IsInputAnswer ended recording roles heard (Err refusal.BadWords) = refused_of recording roles heard ≡ Some refusal.BadWords

-- what bytes after which a read failed are refused for, or else the failed read
abbrev pub refusal_of_part : Option Refusal → Refusal
refusal_of_part None = refusal.ReadFault
refusal_of_part (Some why) = why

-- Where a read failed, an input is refused for what the whole lines of the bytes that were read say, or for that; or
-- memory ran out.
abbrev pub FailsRead : Bool → List RoleId → Option (List ℕ) → Option (List ℕ) → Refusal → Type 0
FailsRead recording roles left left_after why =
    (why ≡ refusal.NoMemory) ⊎ ((bytes : List ℕ) × Consumes left left_after bytes
    × (why ≡ refusal_of_part (refused_of recording roles (lines bytes))))
