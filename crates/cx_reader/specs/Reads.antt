-- The map of reads that were asked for, as their list.
use Rattle.std.specs.Prelude.{Bool, List, map}
use Rattle.cx_role.specs.Prelude.{list_all, token, Asked}
use Rattle.cx_field.specs.declared.parts.Token.{Token}
use Rattle.cx_reader.specs.declared.reads.Number.{Number}
use Rattle.cx_reader.specs.declared.reads.Question.{Question}

abbrev pub read_number : Token → Number
read_number t = record { client = t.client; seq = t.seq }

abbrev pub read_question : Asked → Question
read_question r = record { replica = r.replica; key = r.key }

abbrev pub token_by : Number → Token
token_by n = record { client = n.client; seq = n.seq }

-- an entry's read
abbrev pub entry_read : Number × Question → Asked
entry_read e = record { read = token_by e.0; replica = e.1.replica; key = e.1.key }

abbrev pub entry_reads : List (Number × Question) → List Asked
entry_reads entries = map entry_read entries

-- whether the client and the number of each read are in their ranges
abbrev pub are_in_range : List Asked → Bool
are_in_range reads = list_all (λ (r : Asked). token.fits r.read) reads
