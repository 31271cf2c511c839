-- The first fault of an input: which line, where in the file, and the rule that it breaks.
use Rattle.std.specs.Prelude.{ℕ, ◌+◌, ◌-◌, Bool, true, false, List, [], length}
use Rattle.std.specs.Prelude.{codes, get_or, Option, None, Some, option_map, Result, Ok, Err}
use Rattle.cx_base.specs.declared.cluster.Cluster.{Cluster}
use Rattle.cx_cluster.specs.declared.fault.ClusterFault.{ClusterFault}
use Rattle.cx_cluster.specs.Reading.{header_cluster}
use Rattle.cx_explain.specs.declared.rule.Rule.{Rule}
use Rattle.cx_explain.specs.declared.rule.Rule.TheVariants as rule
use Rattle.cx_explain.specs.Header.{header_place, header_rule, header_word}
use Rattle.cx_explain.specs.Spots.{Spotted, line_spot}
use Rattle.cx_script.specs.Input.{whole_input}
use Rattle.cx_script.specs.Lines.{lines_of, schedule_of}
use Rattle.cx_script.specs.Requests.{requests_of}

-- The number of a bad line, as a replay or a node says it: counted from 1 after the header, which is 0. Its line in the file and its
-- column, both from 1; the rule that it breaks, and the word that breaks it, if there is one.
pub record FindingState : Type 0 where
  pub number : ℕ
  pub line : ℕ
  pub column : ℕ
  pub rule : Rule
  pub word : List ℕ

-- ---- which line is bad, by the definitions of a replay and a node

abbrev pub bad_of_node : Cluster → Option ℕ → List ℕ → Option ℕ
bad_of_node c None rest = Some 0
bad_of_node c (Some port) rest = (requests_of c rest).bad

-- the first bad line after a header with this cluster, for a node or a replay
abbrev pub bad_behind : Bool → Cluster → List ℕ → Option ℕ
bad_behind true c rest = bad_of_node c c.base_port rest
bad_behind false c rest = (schedule_of c rest).bad

abbrev pub bad_in : Bool → Result Cluster ClusterFault → List ℕ → Option ℕ
bad_in node (Err fault) rest = Some 0
bad_in node (Ok c) rest = bad_behind node c rest

-- the first bad line of an input
abbrev pub first_bad_line : Bool → List ℕ → Option ℕ
first_bad_line node bytes = whole_input (λ header rest. bad_in node (header_cluster header) rest) (Some 0) bytes

-- ---- what is found there

abbrev pub in_header : ℕ → Rule → List ℕ → FindingState
in_header line broken word = record { number = 0; line = line; column = 1; rule = broken; word = word }

abbrev pub no_end : FindingState
no_end = in_header 1 rule.NoEnd []

abbrev pub no_port : List ℕ → FindingState
no_port header = in_header (length (lines_of header) + 1) rule.NoPort (codes "base_port")

abbrev pub header_fault : List ℕ → ClusterFault → FindingState
header_fault header fault = in_header (header_place header fault + 1) (header_rule fault) (header_word fault)

-- the n-th line after a header is bad at a spot; above it are the header's lines and the one that ends it
abbrev pub at_spot : ℕ → ℕ → Spotted → FindingState
at_spot above n s = record { number = n; line = above + 1 + n; column = s.column; rule = s.rule; word = s.word }

abbrev pub line_fault : Cluster → List ℕ → List ℕ → ℕ → FindingState
line_fault c header rest n = at_spot (length (lines_of header)) n (line_spot c n (get_or (lines_of rest) (n - 1) []))

abbrev pub found_of_node : Cluster → Option ℕ → List ℕ → List ℕ → Option FindingState
found_of_node c None header rest = Some (no_port header)
found_of_node c (Some port) header rest = option_map (line_fault c header rest) (requests_of c rest).bad

abbrev pub found_behind : Bool → Cluster → List ℕ → List ℕ → Option FindingState
found_behind true c header rest = found_of_node c c.base_port header rest
found_behind false c header rest = option_map (line_fault c header rest) (schedule_of c rest).bad

abbrev pub found_in : Bool → Result Cluster ClusterFault → List ℕ → List ℕ → Option FindingState
found_in node (Err fault) header rest = Some (header_fault header fault)
found_in node (Ok c) header rest = found_behind node c header rest

-- what is found of an input: nothing where no line is bad
abbrev pub found_of : Bool → List ℕ → Option FindingState
found_of node bytes = whole_input (λ header rest. found_in node (header_cluster header) header rest) (Some no_end) bytes
