-- A check finds the line that a replay or a node names.
use Rattle.std.specs.Prelude.{◌≡◌, ℕ, true, false, List, Option, None, Some, Result, Ok, Err, refl}
use Rattle.cx_base.specs.declared.cluster.Cluster.{Cluster}
use Rattle.cx_cluster.specs.declared.fault.ClusterFault.{ClusterFault}
use Rattle.cx_cluster.specs.Reading.{header_cluster}
use Rattle.cx_explain.specs.Finding.{bad_in, bad_of_node, first_bad_line}
use Rattle.cx_node.specs.declared.input.NodeInput.TheVariants.{BadHeader}
use Rattle.cx_node.specs.Input.{input_of as node_input, header_says as node_says, behind as node_behind, with_port}
use Rattle.cx_replay.specs.ReplayInput.{BadHeader as BadReplay}
use Rattle.cx_replay.specs.Input.{bad_line, input_of as replay_input, header_says as replay_says, behind as replay_behind}
use Rattle.cx_script.specs.Header.{header_and_rest}
use Rattle.cx_script.specs.Input.{of_header, whole_input}
use Rattle.compax.specs.Checked.{bad_line_of_node}

replayed : (said : Result Cluster ClusterFault) (rest : List ℕ) → bad_in false said rest ≡ bad_line (replay_behind said rest)
replayed (Err fault) rest = refl
replayed (Ok c) rest = refl

hosted_at : (port : Option ℕ) (c : Cluster) (header rest : List ℕ)
    → bad_of_node c port rest ≡ bad_line_of_node (with_port port header c rest)
hosted_at None c header rest = refl
hosted_at (Some port) c header rest = refl

hosted : (said : Result Cluster ClusterFault) (header rest : List ℕ)
    → bad_in true said rest ≡ bad_line_of_node (node_behind said header rest)
hosted (Err fault) header rest = refl
hosted (Ok c) header rest = hosted_at c.base_port c header rest

replayed_parts : (parts : Option (List ℕ × List ℕ))
    → of_header (λ header rest. bad_in false (header_cluster header) rest) parts (Some 0)
    ≡ bad_line (of_header replay_says parts BadReplay)
replayed_parts None = refl
replayed_parts (Some parts) = replayed (header_cluster parts.0) parts.1

hosted_parts : (parts : Option (List ℕ × List ℕ))
    → of_header (λ header rest. bad_in true (header_cluster header) rest) parts (Some 0)
    ≡ bad_line_of_node (of_header node_says parts BadHeader)
hosted_parts None = refl
hosted_parts (Some parts) = hosted (header_cluster parts.0) parts.0 parts.1

pub of_replay : (bytes : List ℕ) → first_bad_line false bytes ≡ bad_line (replay_input bytes)
unfolding whole_input
of_replay bytes = replayed_parts (header_and_rest bytes)

pub of_node : (bytes : List ℕ) → first_bad_line true bytes ≡ bad_line_of_node (node_input bytes)
unfolding whole_input
of_node bytes = hosted_parts (header_and_rest bytes)
