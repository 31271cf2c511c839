-- What is found by bytes once a number is put beside some.
use Rattle.std.specs.Global.{Global}
use Rattle.std.proofs.Common.{◌≡◌, ◌∙◌, ℕ, true, false, List, [], ◌∷◌, Vec, Some, if◌then◌else◌, bytes_eq, sym, refl, inl, inr}
use Rattle.std.proofs.lemmas.Bool.{cases_Bool}
use Rattle.std.proofs.lemmas.Cmp.{nat_list_eq_equiv}
use Rattle.indexmap.specs.IndexMap.{insert_entry}
use Rattle.cx_record.specs.Table.{datagram_number}

same_turned : (xs ys : List ℕ) → bytes_eq xs ys ≡ bytes_eq ys xs
same_turned xs ys = nat_list_eq_equiv.symm xs ys

same_so : (xs ys zs : List ℕ) → bytes_eq xs ys ≡ true → bytes_eq xs zs ≡ bytes_eq ys zs
same_so xs ys zs e = nat_list_eq_equiv.congr xs ys zs e

pub placed : (others : List ℕ) (key : Vec ℕ Global) (n : ℕ) (es : List (Vec ℕ Global × ℕ))
    → datagram_number others (insert_entry (λ (a b : Vec ℕ Global). bytes_eq a.items b.items) es key n)
    ≡ (if bytes_eq key.items others then Some n else datagram_number others es)
placed others key n [] = rw (same_turned others key.items) refl
placed others key n (e ∷ es) =
    elim (cases_Bool (bytes_eq key.items e.0.items)) [
      | inl same ↦
          let alike : bytes_eq others e.0.items ≡ bytes_eq key.items others =
          same_turned others e.0.items ∙ sym (same_so key.items e.0.items others same) in
          rw (same, alike) (elim (bytes_eq key.items others) as (λ b.
          (if b then Some n else datagram_number others es) ≡ (if b then Some n else (if b then Some e.1 else datagram_number others es))) [
            | true ↦ refl
            | false ↦ refl
          ])
      | inr other ↦
          rw (other, placed others key n es) (elim (cases_Bool (bytes_eq others e.0.items)) [
            | inl here ↦
                let differs : bytes_eq key.items others ≡ false =
                same_turned key.items others ∙ same_so others e.0.items key.items here ∙ same_turned e.0.items key.items ∙ other in
                rw (here, differs) refl
            | inr there ↦ rw there refl
          ])
    ]
