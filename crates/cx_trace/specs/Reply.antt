-- What commands and reads are answered, as text.
use Rattle.std.specs.Prelude.{ℕ, List, ◌++◌, codes, decimal, Option, None, Some}
use Rattle.cx_base.specs.declared.command.Reply.{Reply}
use Rattle.cx_base.specs.declared.command.Reply.TheVariants.{Okay, Was, Absent, Len, Full}

-- what a command is answered
abbrev pub reply_text : Reply → List ℕ
reply_text Okay = codes "ok"
reply_text (Was text) = codes "was " ++ text
reply_text Absent = codes "none"
reply_text (Len n) = codes "len " ++ decimal n
reply_text Full = codes "full"

-- what a read found
abbrev pub found_text : Option (List ℕ) → List ℕ
found_text None = codes "none"
found_text (Some text) = codes "is " ++ text
