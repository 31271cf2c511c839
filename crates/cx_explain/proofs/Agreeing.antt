-- What is found is the line that a replay or a node names.
use Rattle.cx_base.proofs.Common.{◌≡◌, ℕ, Bool, true, false, List, Option, None, Some, Result, Ok, Err, option_map, refl}
use Rattle.cx_base.specs.declared.cluster.Cluster.{Cluster}
use Rattle.cx_cluster.specs.declared.fault.ClusterFault.{ClusterFault}
use Rattle.cx_cluster.specs.Reading.{header_cluster}
use Rattle.cx_explain.specs.Finding.{FindingState, bad_behind, bad_in, first_bad_line, bad_of_node}
use Rattle.cx_explain.specs.Finding.{found_behind, found_in, found_of, found_of_node, line_fault, no_end}
use Rattle.cx_script.specs.Header.{header_and_rest}
use Rattle.cx_script.specs.Input.{of_header, whole_input}
use Rattle.cx_script.specs.Lines.{schedule_of}
use Rattle.cx_script.specs.Requests.{requests_of}

abbrev pub number_of : Option FindingState → Option ℕ
number_of found = option_map (λ (f : FindingState). f.number) found

at_line : (c : Cluster) (header rest : List ℕ) (bad : Option ℕ) → number_of (option_map (line_fault c header rest) bad) ≡ bad
at_line c header rest None = refl
at_line c header rest (Some n) = refl

of_node : (c : Cluster) (port : Option ℕ) (header rest : List ℕ) → number_of (found_of_node c port header rest) ≡ bad_of_node c port rest
of_node c None header rest = refl
of_node c (Some port) header rest = at_line c header rest (requests_of c rest).bad

behind : (node : Bool) (c : Cluster) (header rest : List ℕ) → number_of (found_behind node c header rest) ≡ bad_behind node c rest
behind true c header rest = of_node c c.base_port header rest
behind false c header rest = at_line c header rest (schedule_of c rest).bad

inside : (node : Bool) (said : Result Cluster ClusterFault) (header rest : List ℕ)
    → number_of (found_in node said header rest) ≡ bad_in node said rest
inside node (Err fault) header rest = refl
inside node (Ok c) header rest = behind node c header rest

abbrev split_found : Bool → Option (List ℕ × List ℕ) → Option FindingState
split_found node parts = of_header (λ header rest. found_in node (header_cluster header) header rest) parts (Some no_end)

abbrev split_bad : Bool → Option (List ℕ × List ℕ) → Option ℕ
split_bad node parts = of_header (λ header rest. bad_in node (header_cluster header) rest) parts (Some 0)

whole : (node : Bool) (parts : Option (List ℕ × List ℕ)) → number_of (split_found node parts) ≡ split_bad node parts
whole node None = refl
whole node (Some parts) = inside node (header_cluster parts.0) parts.0 parts.1

pub agrees : (node : Bool) (bytes : List ℕ) → number_of (found_of node bytes) ≡ first_bad_line node bytes
unfolding whole_input
agrees node bytes = whole node (header_and_rest bytes)
