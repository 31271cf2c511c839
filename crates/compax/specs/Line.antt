-- The line that says on standard error how a run ended.
use Rattle.std.specs.Prelude.{ℕ, List, [], ◌++◌, codes, decimal}
use Rattle.cx_base.specs.declared.status.Status.{Status}
use Rattle.cx_base.specs.declared.status.Status.TheVariants.{Done, BadWords, BadInput, ReadFault, WriteFault, LinkFault, StoreFault, Turns}
use Rattle.cx_base.specs.declared.status.Status.TheVariants.{NoMemory, BadStore, NotFresh, RecordFull}
use Rattle.cx_base.specs.Role.{role_text}

abbrev pub line_of : Status → List ℕ
line_of Done = []
line_of BadWords = codes "bad words\n"
line_of (BadInput line) = codes "bad input at line " ++ decimal line ++ codes "\n"
line_of ReadFault = codes "read failed\n"
line_of WriteFault = codes "write failed\n"
line_of LinkFault = codes "link failed\n"
line_of (StoreFault role) = codes "store failed: " ++ role_text role ++ codes "\n"
line_of Turns = codes "turns ended\n"
line_of NoMemory = codes "no memory\n"
line_of (BadStore role at) = codes "bad store: " ++ role_text role ++ codes " at " ++ decimal at ++ codes "\n"
line_of (NotFresh role) = codes "store not empty: " ++ role_text role ++ codes "\n"
line_of RecordFull = codes "record full\n"
