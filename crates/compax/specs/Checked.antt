-- What is to be checked, and which line of a node's input is bad.
use Rattle.std.specs.Prelude.{ℕ, Bool, true, false, ◌==◌, ◌&&◌, not, List, [], ◌∷◌, codes, Option, None, Some, if◌then◌else◌, bytes_eq}
use Rattle.cx_node.specs.declared.input.NodeInput.{NodeInput}
use Rattle.cx_node.specs.declared.input.NodeInput.TheVariants.{Nothing, BadHeader, Lines}

-- whether a word may name a file: an option begins with a hyphen
abbrev pub is_file : List ℕ → Bool
is_file [] = true
is_file (b ∷ bs) = not (b == 45)

abbrev pub file_of : Bool → List ℕ → Option (Bool × List ℕ)
file_of node word = if is_file word then Some (node, word) else None

-- the file of `check FILE`, or of `check --node FILE`, which is a node's, where these are the words after the program's name
abbrev pub check_asked : List (List ℕ) → Option (Bool × List ℕ)
check_asked (program ∷ verb ∷ file ∷ []) = if bytes_eq verb (codes "check") then file_of false file else None
check_asked (program ∷ verb ∷ option ∷ file ∷ []) =
    if bytes_eq verb (codes "check") && bytes_eq option (codes "--node") then file_of true file else None
check_asked other = None

-- the first bad line of a node's input, which a node names that may host its roles
abbrev pub bad_line_of_node : NodeInput → Option ℕ
bad_line_of_node Nothing = None
bad_line_of_node BadHeader = Some 0
bad_line_of_node (Lines header c spelled) = spelled.bad
