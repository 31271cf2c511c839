-- Datagrams that answer a client.
use Rattle.std.specs.Prelude.{ℕ, Bool, true, false, List, filter, length}
use Rattle.cx_model.specs.Prelude.{Letter, Msg}
use Rattle.cx_letter.specs.declared.message.Msg.TheVariants.{Answer, ReadAnswer}

abbrev pub is_answer : Msg → Bool
is_answer (Answer seq at reply) = true
is_answer other = false

abbrev pub is_read_answer : Msg → Bool
is_read_answer (ReadAnswer seq mark text) = true
is_read_answer other = false

-- how many of these datagrams answer a command, and how many a read or a session read
abbrev pub answers_in : List Letter → ℕ
answers_in ds = length (filter (λ (d : Letter). is_answer d.msg) ds)

abbrev pub read_answers_in : List Letter → ℕ
read_answers_in ds = length (filter (λ (d : Letter). is_read_answer d.msg) ds)
