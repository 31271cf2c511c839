-- What two disks at rest tell.
use Rattle.cx_journal.proofs.Common.{◌≡◌, ◌<◌, ℕ, Bool, true, false, not, List, [], ◌∷◌, Option, Some, None, Ok, refl, ◌∙◌, ap}
use Rattle.cx_journal.proofs.Common.{if◌then◌else◌, fits, all_fit, both_so, Record, all_kept_by, records_or_none, seen_pair_records}
use Rattle.cx_journal.proofs.Common.{pair_image, TwoRest}
use Rattle.cx_journal.specs.Twin.{pair_records}
use Rattle.cx_journal.proofs.Images.{twin_image}

-- two files that tell these records
pub told_pair : (o p : Option (List ℕ)) (a b : List ℕ) (records : List Record) → o ≡ Some a → p ≡ Some b → pair_image None a b ≡ Ok records
    → pair_records o p ≡ records
told_pair o p a b records first second is =
    ap (λ x. pair_records x p) first ∙ ap (λ x. pair_records (Some a) x) second ∙ ap records_or_none is

module _ {D : Type 0} (seen : D → Option (List ℕ)) (may_leave : D → List ℕ → Type 0) where
  pub told_two : (s : Bool) (gen : Option ℕ) (records : List Record) (first second : D) → all_kept_by None records ≡ true
      → TwoRest seen may_leave s gen records first second → seen_pair_records seen first second ≡ records
  told_two true gen records first second fit two = told_pair (seen first) (seen second) two.beside two.file records two.other.0 two.rests.0
      (twin_image true records two.file two.beside two.twin None fit)
  told_two false gen records first second fit two = told_pair (seen first) (seen second) two.file two.beside records two.rests.0 two.other.0
      (twin_image false records two.file two.beside two.twin None fit)

-- records whose fields are in their ranges are kept by any kind
pub fit_kept : (rs : List Record) → all_fit rs ≡ true → all_kept_by None rs ≡ true
fit_kept [] all = refl
fit_kept (r ∷ rs) all = let parts = both_so (fits r) (all_fit rs) all in rw (parts.0, fit_kept rs parts.1) refl

-- the other side's size
pub turned_size : (s : Bool) (n x y : ℕ) → n < (if s then x else y) → n < (if not s then y else x)
turned_size true n x y h = h
turned_size false n x y h = h
