-- Which datagrams tell a client something.
use Rattle.cx_letter.specs.Prelude.{◌≡◌, ℕ, false, [], refl, Letter, name_of_message}
use Rattle.cx_letter.specs.Names.{name_of_kind}
use Rattle.cx_letter.specs.declared.message.Msg.{Msg}
use Rattle.cx_letter.specs.declared.message.Msg.TheVariants.{Submit, Batch, Leads, MatchA, MatchB, MatchNack, Phase1A, Phase1B, Nack}
use Rattle.cx_letter.specs.declared.message.Msg.TheVariants.{Propose, Phase2A, Phase2B, Chosen, ChosenIn, Results, Answer, Held, Fetch}
use Rattle.cx_letter.specs.declared.message.Msg.TheVariants.{Inform, Informed, GarbageA, GarbageB, ReadReq, MatchRead, MatchReadAck}
use Rattle.cx_letter.specs.declared.message.Msg.TheVariants.{PreRead, PreReadAck, Read, SessRead, ReadAnswer, StopA, StopB, StopNack, NextA}
use Rattle.cx_letter.specs.declared.message.Msg.TheVariants.{NextB, BootA, BootB, Sets}
use Rattle.cx_trace.specs.Trace.{is_answer_name, client_text_of, told_text}

-- a message of another kind tells nothing
nothing_told : (client : ℕ) (m : Msg) → is_answer_name (name_of_message m) ≡ false → told_text client m ≡ []
unfolding name_of_kind
nothing_told client (Submit a) h = refl
nothing_told client (Batch a) h = refl
nothing_told client (Leads a) h = refl
nothing_told client (MatchA a b) h = refl
nothing_told client (MatchB a b c) h = refl
nothing_told client (MatchNack a b c) h = refl
nothing_told client (Phase1A a) h = refl
nothing_told client (Phase1B a b c) h = refl
nothing_told client (Nack a b) h = refl
nothing_told client (Propose a b c d e) h = refl
nothing_told client (Phase2A a b c d) h = refl
nothing_told client (Phase2B a b) h = refl
nothing_told client (Chosen a b) h = refl
nothing_told client (ChosenIn a b) h = refl
nothing_told client (Results a b) h = refl
nothing_told client (Answer a b c) h = cc
nothing_told client (Held a) h = refl
nothing_told client (Fetch a) h = refl
nothing_told client (Inform a b) h = refl
nothing_told client (Informed a b) h = refl
nothing_told client (GarbageA a b) h = refl
nothing_told client (GarbageB a) h = refl
nothing_told client (ReadReq a b c) h = refl
nothing_told client (MatchRead a) h = refl
nothing_told client (MatchReadAck a b c) h = refl
nothing_told client (PreRead a b) h = refl
nothing_told client (PreReadAck a b c) h = refl
nothing_told client (Read a b c) h = refl
nothing_told client (StopA a) h = refl
nothing_told client (StopB a b c d e) h = refl
nothing_told client (StopNack a b) h = refl
nothing_told client (NextA a b) h = refl
nothing_told client (NextB a) h = refl
nothing_told client (BootA a b c) h = refl
nothing_told client (BootB a) h = refl
nothing_told client (Sets a) h = refl
nothing_told client (SessRead a b c) h = refl
nothing_told client (ReadAnswer a b c) h = cc

pub tells_nothing : (d : Letter) → is_answer_name (name_of_message d.msg) ≡ false → client_text_of d ≡ []
unfolding client_text_of
tells_nothing d h = nothing_told d.to.index d.msg h
