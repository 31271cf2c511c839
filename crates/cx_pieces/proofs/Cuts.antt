-- Where the pieces of a list of ends lie, and one piece more.
use Rattle.std.proofs.Math.Seq.{take-length}
use Rattle.cx_base.proofs.Common.{◌≡◌, ◌≤◌, ◌+◌, ◌-◌, ℕ, zero, suc, List, [], ◌∷◌, ◌++◌, Some, None, length, take, drop, ap, refl, arith}
use Rattle.cx_base.proofs.Common.{slice_get, drop-append-le, take-append-le, length-drop, drop-append_seam}
use Rattle.cx_pieces.specs.Ends.{AreEnds, begin_of, split_at_ends}

-- what begins a piece is the end before it
pub begins_behind : (from : ℕ) (ends : List ℕ) (n end : ℕ) → slice_get ends n ≡ Some end → end ≡ begin_of from ends (suc n)
begins_behind from [] n end e = cc
begins_behind from (x ∷ ends) zero end e = cc
begins_behind from (x ∷ ends) (suc n) end e = begins_behind x ends n end e

pub begins_nowhere : (from : ℕ) (ends : List ℕ) (n : ℕ) → slice_get ends n ≡ None → 0 ≡ begin_of from ends (suc n)
begins_nowhere from [] n e = refl
begins_nowhere from (x ∷ ends) zero e = cc
begins_nowhere from (x ∷ ends) (suc n) e = begins_nowhere x ends n e

pub length-cut : (from : ℕ) (ends : List ℕ) (bytes : List ℕ) → length ends ≡ length (split_at_ends from ends bytes)
length-cut from [] bytes = refl
length-cut from (x ∷ ends) bytes = ap suc (length-cut x ends bytes)

pub begins_within : (from : ℕ) (ends : List ℕ) (all : ℕ) → AreEnds from ends all → from ≤ all
begins_within from [] all h = omega (arith, h)
begins_within from (x ∷ ends) all h = omega (arith, h.0, begins_within x ends all h.1)

-- a piece ends at or after where it begins, and within the bytes
pub lies : (from : ℕ) (ends : List ℕ) (all n end : ℕ) → AreEnds from ends all → slice_get ends n ≡ Some end
    → (begin_of from ends n ≤ end) × (end ≤ all)
lies from [] all n end h e = cc
lies from (x ∷ ends) all zero end h e =
    let same : x ≡ end = cc in
    (omega (arith, h.0, same), omega (arith, same, begins_within x ends all h.1))
lies from (x ∷ ends) all (suc n) end h e = lies x ends all n end h.1 e

-- the piece of a number
pub cut_there : (from : ℕ) (ends bytes : List ℕ) (n end : ℕ) → slice_get ends n ≡ Some end
    → slice_get (split_at_ends from ends bytes) n ≡ Some (take (end - begin_of from ends n) (drop (begin_of from ends n) bytes))
cut_there from [] bytes n end e = cc
cut_there from (x ∷ ends) bytes zero end e = let same : x ≡ end = cc in rw same refl
cut_there from (x ∷ ends) bytes (suc n) end e = cut_there x ends bytes n end e

pub cut_nowhere : (from : ℕ) (ends bytes : List ℕ) (n : ℕ) → slice_get ends n ≡ None → slice_get (split_at_ends from ends bytes) n ≡ None
cut_nowhere from [] bytes n e = refl
cut_nowhere from (x ∷ ends) bytes zero e = cc
cut_nowhere from (x ∷ ends) bytes (suc n) e = cut_nowhere x ends bytes n e

-- one piece more at the end
pub ends_more : (from : ℕ) (ends : List ℕ) (all end : ℕ) → AreEnds from ends all → all ≤ end → AreEnds from (ends ++ end ∷ []) end
ends_more from [] all end h l = (omega (arith, h, l), refl)
ends_more from (x ∷ ends) all end h l = (h.0, ends_more x ends all end h.1 l)

pub cut_more : (from : ℕ) (ends bytes more : List ℕ) (end : ℕ) → AreEnds from ends (length bytes) → end ≡ length bytes + length more
    → split_at_ends from (ends ++ end ∷ []) (bytes ++ more) ≡ split_at_ends from ends bytes ++ more ∷ []
cut_more from [] bytes more end h e =
    let size : end - from ≡ length more = omega (arith, h, e) in
    let rest : drop from (bytes ++ more) ≡ more = rw h (drop-append_seam bytes more) in
    rw (size, rest, take-length more) refl
cut_more from (x ∷ ends) bytes more end h e =
    let within : x ≤ length bytes = begins_within x ends (length bytes) h.1 in
    let long : length (drop from bytes) ≡ length bytes - from = length-drop from bytes in
    let rest : drop from (bytes ++ more) ≡ drop from bytes ++ more = drop-append-le from bytes more (omega (arith, h.0, within)) in
    let first : take (x - from) (drop from (bytes ++ more)) ≡ take (x - from) (drop from bytes) =
    rw rest (take-append-le (x - from) (drop from bytes) more (omega (arith, within, long))) in
    rw first (ap (λ (l : List (List ℕ)). take (x - from) (drop from bytes) ∷ l) (cut_more x ends bytes more end h.1 e))
