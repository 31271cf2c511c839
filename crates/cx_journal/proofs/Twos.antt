-- A renewal over two disks, whichever of them is live.
use Rattle.cx_journal.proofs.Common.{◌⊎◌, inl, ℕ, Bool, true, false, List, Option, Some, sym, subst, arith, Record, LeavesOnly}
use Rattle.cx_journal.proofs.Common.{IsPairImageOf, TwoRest, LeavesTwo}
use Rattle.cx_journal.specs.Twin.{IsEitherPair, IsRenewed}
use Rattle.cx_journal.specs.declared.anew.Renewed.{Renewed}
use Rattle.cx_journal.proofs.Images.{twin_image}

module _ {D : Type 0} (seen : D → Option (List ℕ)) (may_leave : D → List ℕ → Type 0) where
  -- what a crash leaves of two disks at rest
  pub two_last : (s : Bool) (gen : Option ℕ) (records : List Record) (first second : D) → TwoRest seen may_leave s gen records first second
      → (a b : List ℕ) → may_leave first a → may_leave second b → IsPairImageOf records a b
  two_last true gen records first second two a b left there =
      subst (λ (x : List ℕ). IsPairImageOf records x b) (sym (two.other.1 a left))
      (subst (λ (x : List ℕ). IsPairImageOf records two.beside x) (sym (two.rests.1 b there))
      (twin_image true records two.file two.beside two.twin))
  two_last false gen records first second two a b left there =
      subst (λ (x : List ℕ). IsPairImageOf records x b) (sym (two.rests.1 a left)) (subst (λ (x : List ℕ). IsPairImageOf records two.file x)
      (sym (two.other.1 b there)) (twin_image false records two.file two.beside two.twin))

  pub two_first : (records old : List Record) (gen : Option ℕ) (first second new : D)
      (two : TwoRest seen may_leave true gen old first second) (r : Renewed) → IsRenewed seen may_leave true records two.file r new
      → TwoRest seen may_leave false (Some r.generation) records new second
  two_first records old gen first second new two r done =
      record { file = done.file; beside = two.file; rests = done.rests; other = two.rests; twin = done.twin; gen_is = done.gen }

  pub two_second : (records old : List Record) (gen : Option ℕ) (first second new : D)
      (two : TwoRest seen may_leave false gen old first second) (r : Renewed) → IsRenewed seen may_leave false records two.file r new
      → TwoRest seen may_leave true (Some r.generation) records first new
  two_second records old gen first second new two r done =
      record { file = done.file; beside = two.file; rests = done.rests; other = two.rests; twin = done.twin; gen_is = done.gen }

  module _ (moment : D → ℕ) (left_since : D → ℕ → List ℕ → Type 0)
      (only_now : (disk : D) (c : List ℕ) → left_since disk (moment disk) c → may_leave disk c) where
    -- before the first call
    pub two_still : (s : Bool) (gen : Option ℕ) (old new : List Record) (first second : D) → TwoRest seen may_leave s gen old first second
        → LeavesTwo moment left_since first second first second old new
    two_still s gen old new first second two = record {
      first_later = omega arith;
      second_later = omega arith;
      each = λ a b left there. inl (two_last s gen old first second two a b (only_now first a left) (only_now second b there));
    }

    pub moments_first : (old new : List Record) (gen : Option ℕ) (first second now : D) (two : TwoRest seen may_leave true gen old first
        second) → LeavesOnly moment left_since first now (IsEitherPair true old new two.file)
        → LeavesTwo moment left_since first second now second old new
    moments_first old new gen first second now two leaves = record {
      first_later = leaves.later;
      second_later = omega arith;
      each = λ a b left there. subst (λ (x : List ℕ). IsPairImageOf old a x ⊎ IsPairImageOf new a x)
          (sym (two.rests.1 b (only_now second b there))) (leaves.each a left);
    }

    pub moments_second : (old new : List Record) (gen : Option ℕ) (first second now : D) (two : TwoRest seen may_leave false gen old first
        second) → LeavesOnly moment left_since second now (IsEitherPair false old new two.file)
        → LeavesTwo moment left_since first second first now old new
    moments_second old new gen first second now two leaves = record {
      first_later = omega arith;
      second_later = leaves.later;
      each = λ a b left there. subst (λ (x : List ℕ). IsPairImageOf old x b ⊎ IsPairImageOf new x b)
          (sym (two.rests.1 a (only_now first a left))) (leaves.each b there);
    }
