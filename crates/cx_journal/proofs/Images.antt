-- The records of a pair.
use Rattle.cx_journal.proofs.Common.{◌≡◌, inl, inr, ℕ, ◌+◌, Bool, true, false, List, [], ◌∷◌, ◌++◌, length, Option, Some, None, Result, Ok}
use Rattle.cx_journal.proofs.Common.{Err, refl, sym, ◌∙◌, ap, subst, arith, Kind, Record, IsBlank, IfOk, OpenFault, gates-count, generation}
use Rattle.cx_journal.proofs.Common.{second_is_live, image, frames, gates_from, StandsAfter, live_of, IsTwin, payloads, all_kept_by}
use Rattle.cx_journal.proofs.Common.{file_image, image_chosen, pair_image, IsPairImageOf, SamePair}
use Rattle.cx_journal.specs.Blank.{IsSame}
use Rattle.cx_journal.specs.Found.{IsFound, IsFoundFrom}
use Rattle.cx_journal.specs.Image.{image_from}
use Rattle.cx_journal.specs.Pair.{LiveStands, PairStands, first_file, second_file}
use Rattle.cx_journal.specs.Twin.{image_in, IsFoundLive}
use Rattle.cx_journal.specs.declared.image.Found.{Found}
use Rattle.cx_journal.proofs.Blanks.{blank_none}
use Rattle.cx_journal.proofs.Choice.{opens}
use Rattle.cx_journal.proofs.Spelled.{image_at-frames, image-StandsFor, image-short}

none_of : (rs : List Record) → payloads rs ≡ [] → rs ≡ []
none_of [] is = refl
none_of (r ∷ rs) is = absurd cc

-- the image of a live file that stands for records
pub live_image : (k : Option Kind) (gen : Option ℕ) (rs : List Record) (file : List ℕ) → all_kept_by k rs ≡ true
    → LiveStands gen (payloads rs) file → image_in k gen file ≡ Ok rs
live_image k (Some g) rs file kept stands =
    ap (λ (f : List ℕ). image_from k 2 f) stands.is ∙ image_at-frames k
    (length ((4 ∷ g ∷ []) ++ frames (payloads rs) ++ stands.gate ∷ stands.rest)) 2 rs stands.gate stands.rest stands.shut kept (omega arith)
live_image k None rs file kept (inl stands) =
    image-StandsFor k rs file kept (record { gate = stands.gate; rest = stands.rest; shut = stands.shut; is = stands.is })
live_image k None rs file kept (inr short) = image-short k file (omega (arith, short.0)) ∙ ap Ok (sym (none_of rs short.1))

chosen_image : (k : Option Kind) (rs : List Record) (a b : List ℕ) → all_kept_by k rs ≡ true → PairStands (payloads rs) a b
    → pair_image k a b ≡ Ok rs
chosen_image k rs a b kept pair =
    ap (image_chosen k a b) pair.choice ∙ live_image k (generation (live_of pair.second a b)) rs (live_of pair.second a b) kept pair.stands

-- a pair has its records as its image, for each kind that keeps them
pub twin_image : (second : Bool) (rs : List Record) (live other : List ℕ) → IsTwin second (payloads rs) live other
    → IsPairImageOf rs (first_file second live other) (second_file second live other)
twin_image second rs live other twin k kept =
    chosen_image k rs (first_file second live other) (second_file second live other) kept (opens second (payloads rs) live other twin)

-- a first disk without records in the place of another one
two_blank : (k : Option Kind) (c : List ℕ) → IsBlank c → image k c ≡ Ok []
two_blank k [] blank = image-short k [] (omega arith)
two_blank k (a ∷ []) blank = image-short k (a ∷ []) (omega arith)
two_blank k (a ∷ b ∷ []) blank =
    image-StandsFor k [] (a ∷ b ∷ []) refl (record { gate = a; rest = b ∷ []; shut = blank.shut refl; is = refl })
two_blank k (a ∷ b ∷ c ∷ rest) blank = absurd (omega (arith, blank.few))

pub blank_image : (k : Option Kind) (c : List ℕ) → IsBlank c → file_image k c ≡ Ok []
blank_image k c blank = ap (λ gen. image_in k gen c) (blank_none c blank) ∙ two_blank k c blank

same_chosen : (k : Option Kind) (a c b : List ℕ) → IsBlank a → IsBlank c → (r : Result Bool ℕ) → image_chosen k a b r ≡ image_chosen k c b r
same_chosen k a c b one two (Ok true) = refl
same_chosen k a c b one two (Ok false) = blank_image k a one ∙ sym (blank_image k c two)
same_chosen k a c b one two (Err byte) = refl

pub same_pair : (a c b : List ℕ) → IsSame a c → SamePair a b c b
same_pair a c b (inl is) k = ap (λ (f : List ℕ). pair_image k f b) is
same_pair a c b (inr blank) k =
    same_chosen k a c b blank.0 blank.1 (second_is_live (generation a) (generation b))
    ∙ ap (λ gen. image_chosen k c b (second_is_live gen (generation b))) (blank_none a blank.0 ∙ sym (blank_none c blank.1))

-- a live disk of one closed gate
pub first_found : (k : Option Kind) (bytes : List ℕ) (found : Found) → bytes ≡ 0 ∷ [] → found.records.items ≡ []
    → found.gates.items ≡ 0 ∷ [] → found.gate ≡ 0 → IsFoundLive k bytes found
first_found k bytes found is none gates gate =
    let shown : IsFoundLive k (0 ∷ []) found = record {
      is = image-short k (0 ∷ []) (omega arith) ∙ ap Ok (sym none);
      stands = subst (λ (rs : List Record). StandsAfter [] (payloads rs) (0 ∷ [])) (sym none)
          (record { gate = 0; rest = []; shut = omega arith; is = refl });
      gates = gates ∙ ap (λ (rs : List Record). gates_from 0 (payloads rs)) (sym none);
      gate = gate ∙ ap (λ (rs : List Record). length (frames (payloads rs))) (sym none);
    } in
    subst (λ (b : List ℕ). IsFoundLive k b found) (sym is) shown

-- a gate for each record that was read, and the closed one
pub counted : (k : Option Kind) (bytes : List ℕ) (read : Result Found OpenFault) → IfOk read (λ f. IsFound k bytes f)
    → IfOk read (λ f. length f.gates.items ≡ length f.records.items + 1)
counted k bytes (Ok f) found = ap length found.gates ∙ gates-count 0 f.records.items
counted k bytes (Err e) found = tt

pub counted_from : (k : Option Kind) (start : ℕ) (bytes : List ℕ) (read : Result Found OpenFault)
    → IfOk read (λ f. IsFoundFrom k start bytes f) → IfOk read (λ f. length f.gates.items ≡ length f.records.items + 1)
counted_from k start bytes (Ok f) found = ap length found.gates ∙ gates-count start f.records.items
counted_from k start bytes (Err e) found = tt
