-- What clap's getter of a `bool` reads of the rows.
use Rattle.std.proofs.lemmas.Slice.Eq.{bytes_eq-Decides}
use Rattle.std.specs.Str.Parse.{ParsesBool}
use Rattle.clap.specs.Words.{ReadsOne, Text, one_text, rows_of}
use Rattle.clap.specs.declared.parser.matches.Found.{Found}
use Rattle.clap.proofs.WalkLemmas.{one_text-rows}
use Rattle.cx_base.proofs.Common.{◌≡◌, refl, Bool, Option, Some, None, true, false, inl, inr, codes, unwrap_or, cases_Bool, option_map_or}
use Rattle.cx_base.proofs.Common.{bytes_eq}
use Rattle.compax.specs.Words.{is_set}

-- a flag that the getter lacks isn't set
pub flag-read : (E : Type 0) (f : Found) (id : Text) (r : Option Bool) → (one_text f id ≡ None → r ≡ None)
    → ((t : Text) → one_text f id ≡ Some t → ReadsOne {T = Bool} {E = E} ParsesBool t r) → unwrap_or r false ≡ is_set id (rows_of f)
flag-read E f id r none value = rw (← one_text-rows f id) (go (one_text f id) refl)
  where
    found : (t : Text) (q : Option Bool) → ReadsOne {T = Bool} {E = E} ParsesBool t q → unwrap_or q false ≡ bytes_eq t (codes "true")
    found t (Some true) is = rw is refl
    found t (Some false) is = rw is refl
    found t None refused =
        elim (cases_Bool (bytes_eq t (codes "true"))) [
          | inl same ↦ absurd (refused.1.0 ((bytes_eq-Decides t (codes "true")).0 same))
          | inr other ↦ rw other refl
        ]

    go : (o : Option Text) → one_text f id ≡ o → unwrap_or r false ≡ option_map_or (λ (t : Text). bytes_eq t (codes "true")) o false
    go None is = rw (none is) refl
    go (Some t) is = found t r (value t is)
