-- The map of the reads that wait, as their list.
use Rattle.std.specs.Prelude.{List, map}
use Rattle.cx_field.specs.declared.parts.Token.{Token}
use Rattle.cx_role.specs.Prelude.{Deferred}
use Rattle.cx_replica.specs.declared.deferred.Number.{Number}
use Rattle.cx_replica.specs.declared.deferred.Question.{Question}

abbrev pub deferred_number : Token → Number
deferred_number t = record { client = t.client; seq = t.seq }

abbrev pub deferred_question : Deferred → Question
deferred_question r = record { mark = r.mark; key = r.key }

-- an entry's read
abbrev pub deferred_by : Number × Question → Deferred
deferred_by e = record {
  token = record { client = e.0.client; seq = e.0.seq };
  mark = e.1.mark;
  key = e.1.key;
}

abbrev pub deferred_in : List (Number × Question) → List Deferred
deferred_in entries = map deferred_by entries
