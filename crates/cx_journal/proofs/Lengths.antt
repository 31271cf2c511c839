-- An append of a record over two disks.
use Rattle.cx_journal.proofs.Common.{◌≡◌, ◌⊎◌, inl, inr, ⊎_elim, ℕ, ◌+◌, Bool, true, false, List, [], ◌∷◌, ◌++◌, length, Option, None, refl}
use Rattle.cx_journal.proofs.Common.{sym, ◌∙◌, ap, subst, arith, length-append, Record, fits, spelling, LeavesOnly, generation, front_of}
use Rattle.cx_journal.proofs.Common.{IsTwin, IsLive, payloads, is_kept_by, all_kept_by, frames, IsPairImageOf, TwoRest, LeavesTwo}
use Rattle.cx_journal.proofs.Common.{payloads-push, all_kept-push}
use Rattle.cx_journal.specs.Twin.{IsAppended, IsEitherLive}
use Rattle.cx_journal.proofs.Crash.{length-frames-more}
use Rattle.cx_journal.proofs.Images.{twin_image}

one_more : (second : Bool) (old : List Record) (r : Record) (file beside : List ℕ)
    → IsTwin second (payloads old ++ spelling r ∷ []) file beside → IsTwin second (payloads (old ++ r ∷ [])) file beside
one_more second old r file beside twin = subst (λ ps. IsTwin second ps file beside) (sym (payloads-push old r)) twin

pub either_live : (second : Bool) (old : List Record) (r : Record) (beside c : List ℕ) → IsTwin second (payloads old) c beside
    ⊎ IsTwin second (payloads old ++ spelling r ∷ []) c beside → IsEitherLive second old (old ++ r ∷ []) beside c
either_live second old r beside c which = ⊎_elim (λ t. inl (twin_image second old c beside t))
    (λ t. inr (twin_image second (old ++ r ∷ []) c beside (one_more second old r c beside t))) which

pub same_live : (second : Bool) (old new : List Record) (live beside c : List ℕ) → IsTwin second (payloads old) live beside → c ≡ live
    → IsEitherLive second old new beside c
same_live second old new live beside c twin is =
    inl (twin_image second old c beside (subst (λ f. IsTwin second (payloads old) f beside) (sym is) twin))

module _ {D : Type 0} (seen : D → Option (List ℕ)) (may_leave : D → List ℕ → Type 0) where
  pub appended_so : (second : Bool) (old : List Record) (r : Record) (live beside : List ℕ) (disk : D)
      → (file : List ℕ) × IsLive seen may_leave disk file × IsTwin second (payloads old ++ spelling r ∷ []) file beside
      × (generation file ≡ generation live) → IsAppended seen may_leave second (old ++ r ∷ []) beside (generation live) disk
  appended_so second old r live beside disk done =
      record { file = done.0; rests = done.1; twin = one_more second old r done.0 beside done.2; gen_is = done.3 }

  pub two_longer_second : (records old : List Record) (gen : Option ℕ) (first second new : D)
      (two : TwoRest seen may_leave true gen old first second) → IsAppended seen may_leave true records two.beside (generation two.file) new
      → TwoRest seen may_leave true gen records first new
  two_longer_second records old gen first second new two done = record {
    file = done.file;
    beside = two.beside;
    rests = done.rests;
    other = two.other;
    twin = done.twin;
    gen_is = two.gen_is ∙ sym done.gen_is;
  }

  pub two_longer_first : (records old : List Record) (gen : Option ℕ) (first second new : D) (two : TwoRest seen may_leave false gen old
      first second) → IsAppended seen may_leave false records two.beside (generation two.file) new
      → TwoRest seen may_leave false gen records new second
  two_longer_first records old gen first second new two done = record {
    file = done.file;
    beside = two.beside;
    rests = done.rests;
    other = two.other;
    twin = done.twin;
    gen_is = two.gen_is ∙ sym done.gen_is;
  }

  module _ (moment : D → ℕ) (left_since : D → ℕ → List ℕ → Type 0)
      (only_now : (disk : D) (c : List ℕ) → left_since disk (moment disk) c → may_leave disk c) where
    pub longer_second : (old new : List Record) (gen : Option ℕ) (first second now : D) (two : TwoRest seen may_leave true gen old first
        second) → LeavesOnly moment left_since second now (IsEitherLive true old new two.beside)
        → LeavesTwo moment left_since first second first now old new
    longer_second old new gen first second now two leaves = record {
      first_later = omega arith;
      second_later = leaves.later;
      each = λ a b left there. subst (λ (x : List ℕ). IsPairImageOf old x b ⊎ IsPairImageOf new x b)
          (sym (two.other.1 a (only_now first a left))) (leaves.each b there);
    }

    pub longer_first : (old new : List Record) (gen : Option ℕ) (first second now : D) (two : TwoRest seen may_leave false gen old first
        second) → LeavesOnly moment left_since first now (IsEitherLive false old new two.beside)
        → LeavesTwo moment left_since first second now second old new
    longer_first old new gen first second now two leaves = record {
      first_later = leaves.later;
      second_later = omega arith;
      each = λ a b left there. subst (λ (x : List ℕ). IsPairImageOf old a x ⊎ IsPairImageOf new a x)
          (sym (two.other.1 b (only_now second b there))) (leaves.each a left);
    }

-- where the next gate stands
pub next_place : (gen : Option ℕ) (old : List Record) (r : Record) (gate next : ℕ) → gate ≡ length (front_of gen ++ frames (payloads old))
    → next ≡ gate + (5 + length (spelling r)) → next ≡ length (front_of gen ++ frames (payloads (old ++ r ∷ [])))
next_place gen old r gate next place is =
    let more : length (frames (payloads old)) + (5 + length (spelling r)) ≡ length (frames (payloads old ++ spelling r ∷ [])) =
    length-frames-more (payloads old) (spelling r) (length (frames (payloads old))) refl in
    let same : length (frames (payloads old ++ spelling r ∷ [])) ≡ length (frames (payloads (old ++ r ∷ []))) =
    ap (λ ps. length (frames ps)) (sym (payloads-push old r)) in
    omega (
      arith,
      place,
      is,
      more,
      same,
      length-append (front_of gen) (frames (payloads old)),
      length-append (front_of gen) (frames (payloads (old ++ r ∷ []))),
    )

pub fits_more : (old : List Record) (r : Record) → all_kept_by None old ≡ true → fits r ≡ true → all_kept_by None (old ++ r ∷ []) ≡ true
fits_more old r all fit = let one : is_kept_by None r ≡ true = rw fit refl in all_kept-push None old r all one
