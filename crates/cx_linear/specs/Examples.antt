-- Histories that are linearizable, and histories that are not. Nothing of it is proved here.
use Rattle.std.specs.Prelude.{List, [], ◌∷◌, None, Some, codes}
use Rattle.cx_letter.specs.Prelude.{App, Len, Okay, Put}
use Rattle.cx_linear.specs.History.{call}
use Rattle.cx_linear.specs.Linearizable.{ClientCall, CallEvent, IsLinearizable}
use Rattle.cx_linear.specs.Linearizable.{Update, Get, Replied, Found, Invoke, Respond}

-- client 0 puts x at the key a, or appends it; client 1 asks for the key, or appends y
abbrev pub putting : ClientCall
putting = call 0 1 (Update (Put (codes "a") (codes "x")))

abbrev pub appending : ClientCall
appending = call 0 1 (Update (App (codes "a") (codes "x")))

abbrev pub getting : ClientCall
getting = call 1 1 (Get (codes "a"))

abbrev pub appending_more : ClientCall
appending_more = call 1 1 (Update (App (codes "a") (codes "y")))

-- a read that sees the put before it
abbrev pub fresh_read : List CallEvent
fresh_read = Invoke putting ∷ Respond putting.token (Replied Okay) ∷ Invoke getting ∷ Respond getting.token (Found (Some (codes "x"))) ∷ []

-- a read that sees a put that was never answered
abbrev pub read_of_open_put : List CallEvent
read_of_open_put = Invoke putting ∷ Invoke getting ∷ Respond getting.token (Found (Some (codes "x"))) ∷ []

-- a read that doesn't see the put before it
abbrev pub stale_read : List CallEvent
stale_read = Invoke putting ∷ Respond putting.token (Replied Okay) ∷ Invoke getting ∷ Respond getting.token (Found None) ∷ []

-- an append that acts twice
abbrev pub append_twice : List CallEvent
append_twice =
    Invoke appending ∷ Respond appending.token (Replied (Len 1)) ∷ Invoke getting ∷ Respond getting.token (Found (Some (codes "xx"))) ∷ []

-- appends one after the other that are answered as if the second had been the first
abbrev pub turned_appends : List CallEvent
turned_appends =
    Invoke appending ∷ Respond appending.token (Replied (Len 2))
    ∷ Invoke appending_more ∷ Respond appending_more.token (Replied (Len 1)) ∷ []

-- a response to nothing that was asked
abbrev pub unasked_response : List CallEvent
unasked_response = Respond putting.token (Replied Okay) ∷ []

pub record HistoriesAreJudged : Type 0 where
  pub fresh : IsLinearizable fresh_read
  pub open_put : IsLinearizable read_of_open_put
  pub stale : IsLinearizable stale_read → ⊥
  pub twice : IsLinearizable append_twice → ⊥
  pub turned : IsLinearizable turned_appends → ⊥
  pub unasked : IsLinearizable unasked_response → ⊥
