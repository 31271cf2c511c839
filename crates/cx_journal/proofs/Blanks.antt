-- What a clearing may leave of a disk without records.
use Rattle.cx_journal.proofs.Common.{◌≡◌, ◌≤◌, ℕ, List, [], ◌∷◌, length, None, refl, ◌∙◌, ap, arith, get_or, Torn, generation, IsBlank}
use Rattle.cx_disk.specs.Disk.{TornCut}
use Rattle.cx_journal.proofs.Clearing.{few_have_none}

pub short_blank : (c : List ℕ) → length c ≤ 1 → IsBlank c
short_blank c few = record { few = omega (arith, few); shut = λ two. absurd (omega (arith, few, two)) }

-- a front of a blank file is blank
pub cut_blank : (at : ℕ) (d c : List ℕ) → IsBlank d → TornCut at d c → IsBlank c
cut_blank at [] [] blank cut = blank
cut_blank at (a ∷ []) [] blank cut = short_blank [] (omega arith)
cut_blank at (a ∷ b ∷ []) [] blank cut = short_blank [] (omega arith)
cut_blank at d (x ∷ []) blank cut = short_blank (x ∷ []) (omega arith)
cut_blank at [] (x ∷ y ∷ c) blank cut = let no_way = cut.front in absurd cc
cut_blank at (a ∷ []) (x ∷ y ∷ c) blank cut = let no_way = cut.front in absurd cc
cut_blank at (a ∷ b ∷ []) (x ∷ y ∷ []) blank cut =
    let one : a ≡ x = ap (λ l. get_or l 0 0) cut.front in record { few = omega arith; shut = λ two begins. blank.shut refl (one ∙ begins) }
cut_blank at (a ∷ b ∷ []) (x ∷ y ∷ z ∷ c) blank cut = let no_way = cut.front in absurd cc
cut_blank at (a ∷ b ∷ e ∷ d) c blank cut = absurd (omega (arith, blank.few))

-- so is what a torn write of a first byte leaves of at most one
pub first_blank : (d c : List ℕ) → length d ≤ 1 → Torn 0 1 d c → IsBlank c
first_blank d c few torn = short_blank c (omega (arith, torn.no_longer))

pub blank_none : (c : List ℕ) → IsBlank c → generation c ≡ None
blank_none c blank = few_have_none c blank.few
