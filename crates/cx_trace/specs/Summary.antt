-- The last lines of a run: what was chosen, and what each replica holds.
use Rattle.std.specs.Prelude.{ℕ, ◌+◌, List, [], ◌∷◌, ◌++◌, length, codes, decimal, if◌then◌else◌}
use Rattle.cx_letter.specs.Prelude.{acts, commands_of, role, role_text, Command, Op, Put, Del, App, Value, Noop, Replica}
use Rattle.cx_base.specs.declared.command.Value.TheVariants.{Batch}
use Rattle.cx_kv.specs.Printed.{map_text}
use Rattle.cx_trace.specs.Trace.{request_text}
use Rattle.cx_trace.specs.declared.summary.Folded.{Folded}

abbrev pub op_text : Op → List ℕ
op_text (Put key text) = codes "put " ++ key ++ codes " " ++ text
op_text (Del key) = codes "del " ++ key
op_text (App key text) = codes "app " ++ key ++ codes " " ++ text

-- whether a command acts after these, in a word
unfoldable pub acts_text : List Command → Command → List ℕ
acts_text before c = if acts before c then codes "acts" else codes "past"

-- the line of a command in its slot, after these
unfoldable pub command_text : ℕ → List Command → Command → List ℕ
command_text slot before c = decimal slot ++ codes " " ++ request_text c.client c.seq c.floor ++ codes " " ++ op_text c.op ++ codes " "
    ++ acts_text before c ++ codes "\n"

-- the lines of the commands of a slot, each after all before it
abbrev pub commands_text : ℕ → List Command → List Command → List ℕ
commands_text slot before [] = []
commands_text slot before (c ∷ cs) = command_text slot before c ++ commands_text slot (before ++ c ∷ []) cs

-- the lines of a slot
abbrev pub slot_text : ℕ → List Command → Value → List ℕ
slot_text slot before Noop = decimal slot ++ codes " noop\n"
slot_text slot before (Batch commands) = commands_text slot before commands

-- the lines of the slots from this one on
abbrev pub slots_text : ℕ → List Command → List Value → List ℕ
slots_text slot before [] = []
slots_text slot before (v ∷ vs) = slot_text slot before v ++ slots_text (slot + 1) (before ++ commands_of v) vs

-- the line of a replica: how many slots it holds, and its map
unfoldable pub replica_text : ℕ → Folded → List ℕ
replica_text p folded = role_text (role Replica p) ++ codes " held " ++ decimal folded.held ++ map_text folded.store ++ codes "\n"

-- the lines of the replicas from this one on
abbrev pub replicas_text : ℕ → List Folded → List ℕ
replicas_text p [] = []
replicas_text p (folded ∷ rest) = replica_text p folded ++ replicas_text (p + 1) rest

-- the line that says how many values are chosen
unfoldable pub chosen_text : ℕ → List ℕ
chosen_text count = codes "chosen " ++ decimal count ++ codes "\n"

-- how many values are chosen, each of them, and each replica
unfoldable pub summary_text : List Value → List Folded → List ℕ
summary_text chosen replicas =
    chosen_text (length chosen) ++ slots_text 0 [] chosen ++ replicas_text 0 replicas
