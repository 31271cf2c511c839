-- The roles that words name.
use Rattle.std.specs.Prelude.{ℕ, Bool, ◌&&◌, not, true, List, [], ◌∷◌, find, Option, Some, None, option_map, option_and_then, if◌then◌else◌}
use Rattle.std.specs.Prelude.{bytes_eq}
use Rattle.cx_base.specs.Prelude.{list_any, kind_text, role, same_role}
use Rattle.cx_base.specs.declared.role.Kind.{Kind}
use Rattle.cx_base.specs.declared.role.Kind.TheVariants.{Client, Batcher, Leader, Proxy, Acceptor, Matchmaker, Replica, Unbatcher, Reader}
use Rattle.cx_base.specs.declared.role.Kind.TheVariants.{Replacer}
use Rattle.cx_base.specs.declared.role.RoleId.{RoleId}
use Rattle.cx_script.specs.Places.{index_below, index_part, kind_part}

abbrev pub kinds : List Kind
kinds = Client ∷ Batcher ∷ Leader ∷ Proxy ∷ Acceptor ∷ Matchmaker ∷ Replica ∷ Unbatcher ∷ Reader ∷ Replacer ∷ []

abbrev pub kind_named : List ℕ → Option Kind
kind_named text = find (λ kind. bytes_eq text (kind_text kind)) kinds

-- the role that a word names by its kind, a colon and an index of 16 bits in decimal digits
abbrev pub role_of : List ℕ → Option RoleId
role_of word = option_and_then (λ kind. option_map (role kind) (index_below 65536 (index_part word))) (kind_named (kind_part word))

-- the roles of words that each name one
abbrev pub all_roles : List (List ℕ) → Option (List RoleId)
all_roles [] = Some []
all_roles (word ∷ words) = option_and_then (λ me. option_map (λ roles. me ∷ roles) (all_roles words)) (role_of word)

abbrev pub stand_once : List RoleId → Bool
stand_once [] = true
stand_once (me ∷ roles) = not (list_any (same_role me) roles) && stand_once roles

-- the roles that words name, where none is named twice
abbrev pub roles_of : List (List ℕ) → Option (List RoleId)
roles_of words = option_and_then (λ roles. if stand_once roles then Some roles else None) (all_roles words)
