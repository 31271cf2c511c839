-- What is said of an input that is taken: its cluster has a port, and each client's requests are a script.
use Rattle.cx_role.proofs.Common.{◌≡◌, ◌||◌, not, ℕ, Bool, true, false, List, refl, sym, ap, ◌∙◌, subst, if◌then◌else◌, Option, Some, None}
use Rattle.cx_role.proofs.Common.{Result, Ok, Err, IfOk, IsTrue, is_some, All, list_all, Cluster, RoleId, names_role}
use Rattle.cx_seat.specs.Prelude.{ParsedLines, IsScript, script_of, IsRecordable}
use Rattle.cx_cluster.specs.declared.fault.ClusterFault.{ClusterFault}
use Rattle.cx_cluster.specs.Reading.{header_cluster}
use Rattle.cx_script.specs.Header.{header_and_rest}
use Rattle.cx_script.specs.Input.{of_header, whole_input}
use Rattle.cx_script.proofs.Rising.{requests_are_scripts}
use Rattle.cx_record.proofs.Spelled.{scripts_are_recordable}
use Rattle.cx_journal.proofs.Payloads.{both_so}
use Rattle.cx_node.specs.declared.input.Accepted.{Accepted}
use Rattle.cx_node.specs.Input.{IsInputAnswer, are_all, bad_line_of, behind, header_says, input_says, input_of, may_host, refused_of}
use Rattle.cx_node.specs.Input.{with_port}
use Rattle.cx_node.specs.declared.input.NodeInput.{NodeInput}
use Rattle.cx_node.specs.declared.input.NodeInput.TheVariants.{Nothing, BadHeader, Lines}
use Rattle.cx_node.specs.declared.input.Refusal.{Refusal}
use Rattle.cx_node.specs.declared.input.Refusal.TheVariants as refusal

record Taken (c : Cluster) (spelled : ParsedLines) : Type 0 where
  port : IsTrue (is_some c.base_port)
  scripts : (client : ℕ) → IsScript c client (script_of client spelled.events)
  recordable : (client : ℕ) → All (IsRecordable c) (script_of client spelled.events)

-- what a whole input says
abbrev IsWhole : NodeInput → Type 0
IsWhole Nothing = ⊥
IsWhole BadHeader = Unit {0}
IsWhole (Lines header c spelled) = Taken c spelled

port_whole : (header : List ℕ) (c : Cluster) (rest : List ℕ) (port : Option ℕ) → c.base_port ≡ port
    → IsWhole (with_port port header c rest)
port_whole header c rest None is = tt
port_whole header c rest (Some port) is =
    record { port = rw is refl; scripts = requests_are_scripts c rest; recordable = scripts_are_recordable c rest }

behind_whole : (said : Result Cluster ClusterFault) (header rest : List ℕ) → IsWhole (behind said header rest)
behind_whole (Err fault) header rest = tt
behind_whole (Ok c) header rest = port_whole header c rest c.base_port refl

header_whole : (cut : Option (List ℕ × List ℕ)) → IsWhole (of_header header_says cut BadHeader)
header_whole None = tt
header_whole (Some parts) = behind_whole (header_cluster parts.0) parts.0 parts.1

input_whole : (bytes : List ℕ) → IsWhole (input_of bytes)
unfolding whole_input
input_whole bytes = header_whole (header_and_rest bytes)

-- nothing is said only of bytes after which others may come
pub nothing_is_open : (ended : Bool) (bytes : List ℕ) (heard : NodeInput) → heard ≡ input_says ended bytes → heard ≡ Nothing
    → ended ≡ false
nothing_is_open true bytes heard is nothing =
    absurd (subst IsWhole nothing (subst IsWhole (sym is) (input_whole bytes)))
nothing_is_open false bytes heard is nothing = refl

taken_of : (recording : Bool) (roles : List RoleId) (bytes : List ℕ) (a : Accepted)
    → IsInputAnswer true recording roles (input_of bytes) (Ok a) → Taken a.cluster a.schedule
taken_of recording roles bytes a answer = subst IsWhole answer.0 (input_whole bytes)

pub answer_port : (recording : Bool) (roles : List RoleId) (bytes : List ℕ) (r : Result Accepted Refusal)
    → IsInputAnswer true recording roles (input_of bytes) r → IfOk r (λ a. IsTrue (is_some a.cluster.base_port))
answer_port recording roles bytes (Ok a) answer = (taken_of recording roles bytes a answer).port
answer_port recording roles bytes (Err why) answer = tt

pub answer_scripts : (recording : Bool) (roles : List RoleId) (bytes : List ℕ) (r : Result Accepted Refusal)
    → IsInputAnswer true recording roles (input_of bytes) r
    → IfOk r (λ a. (client : ℕ) → IsScript a.cluster client (script_of client a.schedule.events))
answer_scripts recording roles bytes (Ok a) answer = (taken_of recording roles bytes a answer).scripts
answer_scripts recording roles bytes (Err why) answer = tt

pub answer_recordable : (recording : Bool) (roles : List RoleId) (bytes : List ℕ) (r : Result Accepted Refusal)
    → IsInputAnswer true recording roles (input_of bytes) r
    → IfOk r (λ a. (client : ℕ) → All (IsRecordable a.cluster) (script_of client a.schedule.events))
answer_recordable recording roles bytes (Ok a) answer = (taken_of recording roles bytes a answer).recordable
answer_recordable recording roles bytes (Err why) answer = tt

-- what an input that is accepted for these roles says of them and of its lines
record IsAccepted (recording : Bool) (roles : List RoleId) (a : Accepted) : Type 0 where
  hosts : may_host recording a.cluster roles ≡ true
  good : a.schedule.bad ≡ None

accepted_of : (recording : Bool) (roles : List RoleId) (heard : NodeInput) (a : Accepted)
    → heard ≡ Lines a.header a.cluster a.schedule → refused_of recording roles heard ≡ None → IsAccepted recording roles a
accepted_of recording roles heard a is none =
    by_roles (may_host recording a.cluster roles) refl (sym (ap (refused_of recording roles) is) ∙ none)
  where
    by_line : (bad : Option ℕ) → a.schedule.bad ≡ bad → bad_line_of bad ≡ None → bad ≡ None
    by_line None same e = refl
    by_line (Some line) same e = cc

    by_roles : (b : Bool) → may_host recording a.cluster roles ≡ b
        → (if b then bad_line_of a.schedule.bad else Some refusal.BadWords) ≡ None → IsAccepted recording roles a
    by_roles true may e = record { hosts = may; good = by_line a.schedule.bad refl e }
    by_roles false may e = cc

pub answer_hosts : (recording : Bool) (roles : List RoleId) (bytes : List ℕ) (r : Result Accepted Refusal)
    → IsInputAnswer true recording roles (input_of bytes) r → IfOk r (λ a. may_host recording a.cluster roles ≡ true)
answer_hosts recording roles bytes (Ok a) answer =
    (accepted_of recording roles (input_of bytes) a answer.0 answer.1).hosts
answer_hosts recording roles bytes (Err why) answer = tt

pub answer_good : (recording : Bool) (roles : List RoleId) (bytes : List ℕ) (r : Result Accepted Refusal)
    → IsInputAnswer true recording roles (input_of bytes) r → IfOk r (λ a. a.schedule.bad ≡ None)
answer_good recording roles bytes (Ok a) answer =
    (accepted_of recording roles (input_of bytes) a answer.0 answer.1).good
answer_good recording roles bytes (Err why) answer = tt

pub answer_named : (recording : Bool) (roles : List RoleId) (bytes : List ℕ) (r : Result Accepted Refusal)
    → IsInputAnswer true recording roles (input_of bytes) r
    → IfOk r (λ a. IsTrue (list_all (λ (x : RoleId). names_role a.cluster x) roles))
answer_named recording roles bytes (Ok a) answer =
    (both_so (list_all (λ (x : RoleId). names_role a.cluster x) roles) (not recording || are_all a.cluster roles)
    (accepted_of recording roles (input_of bytes) a answer.0 answer.1).hosts).0
answer_named recording roles bytes (Err why) answer = tt
