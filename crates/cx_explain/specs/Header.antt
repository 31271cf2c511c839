-- Which line of a header has its fault.
use Rattle.std.specs.Prelude.{ℕ, Bool, true, false, ◌==◌, ◌||◌, not, List, [], length, take, drop, position, Result, Err, bytes_eq}
use Rattle.std.specs.List.{position_or_len}
use Rattle.std.specs.Option.{option_map_or}
use Rattle.cx_base.specs.declared.cluster.Cluster.{Cluster}
use Rattle.cx_cluster.specs.declared.fault.ClusterFault.{ClusterFault}
use Rattle.cx_cluster.specs.declared.fault.ClusterFault.TheVariants as fault
use Rattle.cx_cluster.specs.Keys.{key_name}
use Rattle.cx_cluster.specs.Reading.{header_cluster}
use Rattle.cx_explain.specs.declared.rule.Rule.{Rule}
use Rattle.cx_explain.specs.declared.rule.Rule.TheVariants as rule
use Rattle.cx_script.specs.Lines.{lines_of}
use Rattle.cx_script.specs.Words.{is_blank}

-- a line from its first word on
abbrev pub from_word : List ℕ → List ℕ
from_word line = option_map_or (λ start. drop start line) (position (λ b. not (is_blank b)) line) []

-- a blank or an equals sign
abbrev pub ends_key : ℕ → Bool
ends_key b = is_blank b || (b == 61)

-- what of a text comes before one
abbrev pub key_part : List ℕ → List ℕ
key_part text = option_map_or (λ end. take end text) (position ends_key text) text

-- a line gives a value to a key
abbrev pub names_key : List ℕ → List ℕ → Bool
names_key key line = bytes_eq (key_part (from_word line)) key

abbrev pub is_toml_fault : Result Cluster ClusterFault → Bool
is_toml_fault (Err fault.Toml) = true
is_toml_fault other = false

-- the place of the first line for a key, counted from 0; that of the line after the header where there is none
abbrev pub line_of_key : List ℕ → List ℕ → ℕ
line_of_key key header = position_or_len (λ line. names_key key line) (lines_of header)

-- the place of the first line that is no TOML by itself
abbrev pub line_of_toml : List ℕ → ℕ
line_of_toml header = position_or_len (λ line. is_toml_fault (header_cluster line)) (lines_of header)

-- the place of the line with a fault
abbrev pub header_place : List ℕ → ClusterFault → ℕ
header_place header fault.Toml = line_of_toml header
header_place header (fault.Unknown key) = line_of_key key header
header_place header (fault.Missing key) = length (lines_of header)
header_place header (fault.NotNumber key) = line_of_key (key_name key) header
header_place header (fault.Range key number) = line_of_key (key_name key) header
header_place header fault.NoMemory = 0

abbrev pub header_rule : ClusterFault → Rule
header_rule fault.Toml = rule.NotToml
header_rule (fault.Unknown key) = rule.UnknownKey
header_rule (fault.Missing key) = rule.MissingKey
header_rule (fault.NotNumber key) = rule.NotNumber
header_rule (fault.Range key number) = rule.OutOfRange key
header_rule fault.NoMemory = rule.NotToml

-- the key that has the fault
abbrev pub header_word : ClusterFault → List ℕ
header_word fault.Toml = []
header_word (fault.Unknown key) = key
header_word (fault.Missing key) = key_name key
header_word (fault.NotNumber key) = key_name key
header_word (fault.Range key number) = key_name key
header_word fault.NoMemory = []
