-- The lines of the trace: events, and the datagrams that they send.
use Rattle.std.specs.Prelude.{ℕ, Bool, ◌+◌, ◌==◌, ◌||◌, List, [], ◌∷◌, ◌++◌, codes, decimal, Option, None, Some, if◌then◌else◌, bytes_eq}
use Rattle.cx_letter.specs.Prelude.{role, role_text, Event, Lead, Change, Collect, Offer, Replace, RoleId, Client, Leader, Replacer}
use Rattle.cx_letter.specs.Prelude.{Replica, Letter, body, name_of_message}
use Rattle.cx_base.specs.Why.{why_text}
use Rattle.cx_base.specs.declared.event.Event.TheVariants as event
use Rattle.cx_base.specs.declared.event.Order.{Order}
use Rattle.cx_letter.specs.declared.message.Msg.{Msg}
use Rattle.cx_letter.specs.declared.message.Msg.TheVariants.{Submit, Batch, Leads, MatchA, MatchB, MatchNack, Phase1A, Phase1B, Nack}
use Rattle.cx_letter.specs.declared.message.Msg.TheVariants.{Propose, Phase2A, Phase2B, Chosen, ChosenIn, Results, Answer, Held, Fetch}
use Rattle.cx_letter.specs.declared.message.Msg.TheVariants.{Inform, Informed, GarbageA, GarbageB, ReadReq, MatchRead, MatchReadAck}
use Rattle.cx_letter.specs.declared.message.Msg.TheVariants.{PreRead, PreReadAck, Read, SessRead, ReadAnswer, StopA, StopB, StopNack, NextA}
use Rattle.cx_letter.specs.declared.message.Msg.TheVariants.{NextB, BootA, BootB, Sets}
use Rattle.cx_trace.specs.Put.{hex}
use Rattle.cx_trace.specs.Reply.{reply_text, found_text}
use Rattle.cx_trace.specs.declared.effect.Effect.{Effect}

-- a request's number, and after a slash the floor that it tells, where that isn't the number before
unfoldable pub seq_text : ℕ → ℕ → List ℕ
seq_text seq floor = if floor + 1 == seq then decimal seq else decimal seq ++ codes "/" ++ decimal floor

-- a request of a client: who, its number and its floor
unfoldable pub request_text : ℕ → ℕ → ℕ → List ℕ
request_text client seq floor = role_text (role Client client) ++ codes " " ++ seq_text seq floor

-- the request that an answer is for: whose, and its number
unfoldable pub answered_text : ℕ → ℕ → List ℕ
answered_text client seq = role_text (role Client client) ++ codes " " ++ decimal seq

abbrev pub order_text : Order → List ℕ
order_text (Lead grid) = codes "lead "
order_text (Change grid) = codes "change "
order_text Collect = codes "collect "
order_text (Replace set) = codes "replace "
order_text (Offer to slot) = codes "offer "

-- whom a datagram reached, if it was sent before
abbrev pub reached_text : Option RoleId → List ℕ
reached_text None = []
reached_text (Some who) = codes " " ++ role_text who

-- what happened, and to whom
abbrev pub happening_text : Event → Option RoleId → List ℕ
happening_text (event.Write command batcher) who = codes "write " ++ request_text command.client command.seq command.floor
happening_text (event.Read client seq floor reader replica key) who = codes "read " ++ request_text client seq floor
happening_text (event.Session client seq floor replica key) who = codes "session " ++ request_text client seq floor
happening_text (event.Deliver number cut) who = codes "deliver " ++ decimal number ++ reached_text who
happening_text (event.Tick r) who = codes "tick " ++ role_text r
happening_text (event.Order leader order cut) who = order_text order ++ role_text (role Leader leader)
happening_text (event.Replace replacer set cut) who = codes "replace " ++ role_text (role Replacer replacer)
happening_text (event.Offer replica to slot) who = codes "offer " ++ role_text (role Replica replica)
happening_text (event.Snap r cut) who = codes "snap " ++ role_text r
happening_text (event.Crash r) who = codes "crash " ++ role_text r
happening_text (event.Restart r) who = codes "restart " ++ role_text r

-- the line of an event, with its number and its result
unfoldable pub event_text : Event → Effect → List ℕ
event_text e effect =
    codes "@" ++ decimal effect.event ++ codes " " ++ happening_text e effect.who ++ codes " " ++ why_text effect.why ++ codes "\n"

-- the line of a client's answer
unfoldable pub answer_line : ℕ → ℕ → ℕ → List ℕ → List ℕ
answer_line client seq at reply =
    codes "answer " ++ answered_text client seq ++ codes " at " ++ decimal at ++ codes " " ++ reply ++ codes "\n"

-- the line of what a client's read or session found
unfoldable pub read_line : ℕ → ℕ → ℕ → List ℕ → List ℕ
read_line client seq mark found =
    codes "read " ++ answered_text client seq ++ codes " at " ++ decimal mark ++ codes " " ++ found ++ codes "\n"

-- what a message tells the client that gets it: only answers tell it something
abbrev pub told_text : ℕ → Msg → List ℕ
told_text client (Answer seq at reply) = answer_line client seq at (reply_text reply)
told_text client (ReadAnswer seq mark found) = read_line client seq mark (found_text found)
told_text client (Submit a) = []
told_text client (Batch a) = []
told_text client (Leads a) = []
told_text client (MatchA a b) = []
told_text client (MatchB a b c) = []
told_text client (MatchNack a b c) = []
told_text client (Phase1A a) = []
told_text client (Phase1B a b c) = []
told_text client (Nack a b) = []
told_text client (Propose a b c d e) = []
told_text client (Phase2A a b c d) = []
told_text client (Phase2B a b) = []
told_text client (Chosen a b) = []
told_text client (ChosenIn a b) = []
told_text client (Results a b) = []
told_text client (Held a) = []
told_text client (Fetch a) = []
told_text client (Inform a b) = []
told_text client (Informed a b) = []
told_text client (GarbageA a b) = []
told_text client (GarbageB a) = []
told_text client (ReadReq a b c) = []
told_text client (MatchRead a) = []
told_text client (MatchReadAck a b c) = []
told_text client (PreRead a b) = []
told_text client (PreReadAck a b c) = []
told_text client (Read a b c) = []
told_text client (StopA a) = []
told_text client (StopB a b c d e) = []
told_text client (StopNack a b) = []
told_text client (NextA a b) = []
told_text client (NextB a) = []
told_text client (BootA a b c) = []
told_text client (BootB a) = []
told_text client (Sets a) = []
told_text client (SessRead a b c) = []

-- what a datagram tells the client that gets it
unfoldable pub client_text_of : Letter → List ℕ
client_text_of d = told_text d.to.index d.msg

-- whether messages of this name tell the client that gets them something: answers, and what reads found
abbrev pub is_answer_name : List ℕ → Bool
is_answer_name name = bytes_eq name (codes "Answer") || bytes_eq name (codes "ReadAnswer")

-- a number, two roles and a name
abbrev pub named_text : ℕ → RoleId → RoleId → List ℕ → List ℕ
named_text n from to name =
    codes "+" ++ decimal n ++ codes " " ++ role_text from ++ codes " " ++ role_text to ++ codes " " ++ name ++ codes " "

-- the line of a datagram up to its body: its number, who sends it, who gets it, and its name
unfoldable pub head_text : ℕ → Letter → List ℕ
head_text n d = named_text n d.from d.to (name_of_message d.msg)

-- the line of a datagram, and after it what it tells a client
unfoldable pub datagram_text : ℕ → Letter → List ℕ
datagram_text n d = head_text n d ++ hex (body d) ++ codes "\n" ++ client_text_of d

-- the lines of datagrams, whose numbers rise from n
abbrev pub datagrams_text : ℕ → List Letter → List ℕ
datagrams_text n [] = []
datagrams_text n (d ∷ ds) = datagram_text n d ++ datagrams_text (n + 1) ds
