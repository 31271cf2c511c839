-- What a link in memory says of a role and a port that none of its rows binds.
use Rattle.cx_base.proofs.Common.{◌≡◌, ◌∙◌, ◌||◌, ℕ, Bool, true, false, List, [], ◌∷◌, map, ap, refl, sym, IfSome, list_any}
use Rattle.cx_base.specs.declared.role.RoleId.{RoleId}
use Rattle.cx_edge.specs.declared.mem_link.BindRow.{BindRow}
use Rattle.cx_edge.specs.Link.{IsUnbound, binds_either}
use Rattle.cx_edge.specs.MemLink.{bind_of, mem_link_history}
use Rattle.cx_edge.specs.Notes.{NotesState}

rows_binds : (role : RoleId) (port : ℕ) (rows : List BindRow)
    → list_any (λ (row : BindRow). binds_either role port (bind_of row)) rows ≡ list_any (binds_either role port) (map bind_of rows)
rows_binds role port [] = refl
rows_binds role port (row ∷ rows) = ap (λ b. binds_either role port (bind_of row) || b) (rows_binds role port rows)

pub told_unbound : (role : RoleId) (port : ℕ) (is_silent : Bool) (rows : List BindRow) (notes : NotesState)
    → list_any (λ (row : BindRow). binds_either role port (bind_of row)) rows ≡ false
    → IfSome (mem_link_history is_silent rows notes) (IsUnbound role port)
told_unbound role port true rows notes none = tt
told_unbound role port false rows notes none = sym (rows_binds role port rows) ∙ none
