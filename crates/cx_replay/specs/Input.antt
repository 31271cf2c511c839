-- What the bytes of an input say: a cluster, the events of its lines up to the first bad one, and the number of that line.
use Rattle.std.specs.Prelude.{ℕ, List, Option, None, Some, Result, Ok, Err, Bool, true, false}
use Rattle.cx_base.specs.declared.cluster.Cluster.{Cluster}
use Rattle.cx_cluster.specs.declared.fault.ClusterFault.{ClusterFault}
use Rattle.cx_cluster.specs.Reading.{header_cluster}
use Rattle.cx_replay.specs.ReplayInput.{ReplayInput, Nothing, BadHeader, Lines}
use Rattle.cx_script.specs.Input.{begun_input, whole_input}
use Rattle.cx_script.specs.Lines.{schedule_of}

-- the first bad line: those after the header count from 1, the header is line 0
abbrev pub bad_line : ReplayInput → Option ℕ
bad_line Nothing = None
bad_line BadHeader = Some 0
bad_line (Lines c spelled) = spelled.bad

-- the cluster that a header's text says, and what the bytes after it spell
abbrev pub behind : Result Cluster ClusterFault → List ℕ → ReplayInput
behind (Ok c) rest = Lines c (schedule_of c rest)
behind (Err fault) rest = BadHeader

-- the same of a header's text and the bytes after it
abbrev pub header_says : List ℕ → List ℕ → ReplayInput
header_says header rest = behind (header_cluster header) rest

-- what a whole input says
abbrev pub input_of : List ℕ → ReplayInput
input_of bytes = whole_input header_says BadHeader bytes

-- what bytes say after which others may come
abbrev pub lines : List ℕ → ReplayInput
lines bytes = begun_input header_says BadHeader Nothing bytes

-- what bytes say: the whole input where it has ended
abbrev pub input_says : Bool → List ℕ → ReplayInput
input_says true bytes = input_of bytes
input_says false bytes = lines bytes
