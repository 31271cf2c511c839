-- Which of the entries that were reported are live.
use Rattle.std.specs.Prelude.{◌&&◌}
use Rattle.cx_role.specs.Prelude.{ℕ, Bool, not, List, list_any, Round, is_in, is_before, Entry}

-- whether an entry isn't retired
abbrev pub is_live : Round → Entry → Bool
is_live watermark e = not (is_before e.round watermark)

abbrev pub some_live : Round → List Entry → Bool
some_live watermark es = list_any (λ (e : Entry). is_live watermark e) es

-- whether an acceptor is a member of a live entry's grid
abbrev pub some_live_with : Round → ℕ → List Entry → Bool
some_live_with watermark n es = list_any (λ (e : Entry). is_live watermark e && is_in n e.grid.members) es
