-- The unknown keys of a table beside those of the members that it spells.
use Rattle.std.proofs.Common.{find, Less, String, Global}
use Rattle.std.specs.List.{AllByRecursion}
use Rattle.std.specs.List.Sorted.{IsStrictlySortedBy}
use Rattle.std.specs.Map.{keys_of}
use Rattle.std.specs.String.{string_cmp}
use Rattle.toml.proofs.Views.{Entry}
use Rattle.toml.specs.View.{members_view}
use Rattle.cx_base.proofs.Common.{◌≡◌, ℕ, refl, List, [], ◌∷◌, Option, Some, option_map, not, string_bytes, inl, inr, ap, cases_Bool}
use Rattle.cx_cluster.specs.Keys.{is_key}
use Rattle.cx_cluster.specs.Reading.{least_unknown, lesser}

-- the first unknown key of a table
abbrev pub found : List Entry → Option (List ℕ)
found es = option_map string_bytes (find (λ key. not (is_key (string_bytes key))) (keys_of es))

-- a key before all others is the lesser one
lesser_first : (k : String Global) (es : List Entry) → AllByRecursion (λ y. string_cmp k y ≡ Less) (keys_of es)
    → lesser (string_bytes k) (found es) ≡ string_bytes k
lesser_first k [] first = refl
lesser_first k (e ∷ es) first =
    elim (cases_Bool (is_key (string_bytes e.0))) [
      | inl known ↦ rw known (lesser_first k es first.1)
      | inr unknown ↦ rw (unknown, first.0) refl
    ]

-- the least unknown key is the first of a table's, whose keys ascend
pub least_unknown-view : (es : List Entry) → IsStrictlySortedBy string_cmp (keys_of es) → least_unknown (members_view es) ≡ found es
unfolding IsStrictlySortedBy
least_unknown-view [] ordered = refl
least_unknown-view (e ∷ es) ordered =
    elim (cases_Bool (is_key (string_bytes e.0))) [
      | inl known ↦ rw known (least_unknown-view es ordered.1)
      | inr unknown ↦ rw (unknown, least_unknown-view es ordered.1) (ap (λ (k : List ℕ). Some k) (lesser_first e.0 es ordered.0))
    ]
