-- A link in memory: what contracts see of it.
use Rattle.std.specs.Prelude.{ℕ, Bool, if◌then◌else◌, List, [], map, Option, None, Some}
use Rattle.cx_edge.specs.declared.mem_link.BindRow.{BindRow}
use Rattle.cx_edge.specs.Link.{Bind, LinkHistory}
use Rattle.cx_edge.specs.Notes.{NotesState}

-- its history, where it is known, and its counts
pub record LinkState : Type 0 where
  pub history : Option LinkHistory
  pub faults : ℕ
  pub losses : ℕ

abbrev pub link_told : LinkState → Option LinkHistory
link_told link = link.history

abbrev pub link_faults : LinkState → ℕ
link_faults link = link.faults

abbrev pub link_losses : LinkState → ℕ
link_losses link = link.losses

abbrev pub bind_of : BindRow → Bind
bind_of row = record { role = row.role; port = row.port }

-- nothing was bound, taken or sent
abbrev pub no_history : LinkHistory
no_history = record { binds = []; taken = []; sent = [] }

-- the history, unless a send was lost because there was no room to note it
abbrev pub mem_link_history : Bool → List BindRow → NotesState → Option LinkHistory
mem_link_history is_silent binds notes =
    if is_silent then None else Some (record { binds = map bind_of binds; taken = notes.taken; sent = notes.sent })
