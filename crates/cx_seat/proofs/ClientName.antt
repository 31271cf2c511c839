-- A client's name stays.
use Rattle.cx_role.proofs.Common.{◌≡◌, ◌&&◌, ℕ, Option, None, Some, ap, refl, Stranger, same_role, mark_told, names, either_way, Letter}
use Rattle.cx_base.specs.declared.why.Why.TheVariants.{Heard}
use Rattle.cx_client.specs.Client.{ClientMoved, ClientState, answer_number, client_completes, client_takes, client_ticks, client_told}
use Rattle.cx_client.specs.Client.{hearing, left, client_stays}
use Rattle.cx_client.specs.Window.{is_outstanding}
use Rattle.cx_client.proofs.Steps.{ticks_same}

told_name : (s : ClientState) (at : ℕ) (o : Option ℕ) → (client_told s at o).state.me ≡ s.me
told_name s at None = refl
told_name s at (Some n) =
    either_way (λ (m : ClientMoved). m.state.me ≡ s.me) (is_outstanding s.window (left s) n)
    (client_completes n (hearing at s)) (client_stays Heard (hearing at s)) refl refl

pub takes_name : (s : ClientState) (letter : Letter) → (client_takes s letter).state.me ≡ s.me
takes_name s letter =
    either_way (λ (m : ClientMoved). m.state.me ≡ s.me) (same_role letter.to s.me && names s.cluster letter)
    (client_told s (mark_told letter.msg) (answer_number letter.msg)) (client_stays Stranger s)
    (told_name s (mark_told letter.msg) (answer_number letter.msg)) refl

pub ticks_name : (s : ClientState) → (client_ticks s).state.me ≡ s.me
ticks_name s = ap (λ (t : ClientState). t.me) (ticks_same s)
