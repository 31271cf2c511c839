-- What each client has heard, as the world holds it.
use Rattle.std.specs.Prelude.{◌≡◌, ℕ, max, Bool, true, false, not, ◌||◌, IsTrue, nat_lt, List, length, get_or, Option, None, Some}
use Rattle.cx_role.specs.Prelude.{Event, Happened, Kind, Client, mark, heard_by, is_heard, Letter}
use Rattle.cx_base.specs.declared.event.Event.TheVariants.{Deliver}

-- a number for each client that a cluster may have, in the range of what answers tell
pub record AreMarks (numbers : List ℕ) : Type 0 where
  pub clients : length numbers ≡ 64
  pub fit : (client : ℕ) → IsTrue (mark.fits (get_or numbers client 0))

-- each client's number is what it has heard
abbrev pub Hears : List ℕ → List Letter → List Happened → Type 0
Hears numbers sent events = (client : ℕ) → get_or numbers client 0 ≡ heard_by client sent events

-- each client was told a number: its own is now the greater one
abbrev pub Raised : List ℕ → List ℕ → (ℕ → ℕ) → Type 0
Raised old new told = (client : ℕ) → get_or new client 0 ≡ max (told client) (get_or old client 0)

abbrev pub is_client : Kind → Bool
is_client Client = true
is_client other = false

-- the number of the datagram that an event delivers
abbrev pub delivered : Event → Option ℕ
delivered (Deliver n cut) = Some n
delivered other = None

abbrev pub is_below : ℕ → Option ℕ → Bool
is_below count None = true
is_below count (Some n) = nat_lt n count

-- whether what an event brought a client is one of the first so many datagrams
abbrev pub heard_below : ℕ → Happened → Bool
heard_below count h = not (is_heard h.why) || is_below count (delivered h.event)
