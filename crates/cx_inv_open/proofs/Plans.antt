-- What a leader plans lies in the window of its watermark, in slots below 2^40, where what acceptors reported does.
use Rattle.cx_inv_run.proofs.Common.{◌≡◌, ℕ, zero, suc, ◌+◌, ◌<◌, ◌≤◌, ◌==◌, false, ◌||◌, max, map, List, [], ◌∷◌, length, refl, ap, inl}
use Rattle.cx_inv_run.proofs.Common.{inr, arith, nat_tests, Placed, Value, numbers, Vote, Msg, Promised, Member, votes_told, greatest_cw}
use Rattle.cx_inv_run.proofs.Common.{end_told, placed_from, Member-cases}
use Rattle.cx_letter.specs.declared.message.Msg.TheVariants as msg
use Rattle.cx_inv_open.specs.Fits.{IsNextSlot, IsSlot}

-- what an acceptor reports lies in the window of its watermark, in slots below 2^40
abbrev pub AreReported : ℕ → List Vote → Type 0
AreReported cw votes = (u : Vote) → Member u votes → (u.slot < cw + 32) × IsSlot u.slot

abbrev pub Reports : Msg → Type 0
Reports (msg.Phase1B i cw votes) = AreReported cw votes
Reports other = Unit {0}

abbrev pub AllReported : List Promised → Type 0
AllReported ps = (p : Promised) → Member p ps → AreReported p.cw p.votes

pub all_reported : (low : ℕ) (ps : List Promised) → AllReported ps → AreReported (greatest_cw low ps) (votes_told ps)
all_reported low [] h u m = absurd m
all_reported low (p ∷ ps) h u m = elim (Member-cases u p.votes (votes_told ps) m) [
  | inl k ↦ (let r = h p (inl refl) u k in let l = r.0 in (omega arith, r.1))
  | inr k ↦ (let r = all_reported low ps (λ q x. h q (inr x)) u k in let l = r.0 in (omega arith, r.1))
]

-- where a plan ends
pub end_most : (low most : ℕ) (votes : List Vote) → low ≤ most → ((u : Vote) → Member u votes → u.slot < most) → end_told low votes ≤ most
end_most low most [] l h = l
end_most low most (u ∷ votes) l h =
    let here = h u (inl refl) in
    let rest = end_most low most votes l (λ w m. h w (inr m)) in
    omega arith

pub planned_count : (value : ℕ → Value) (first count : ℕ) → length (map value (numbers first count)) ≡ count
planned_count value first zero = refl
planned_count value first (suc count) = ap (λ (n : ℕ). suc n) (planned_count value (first + 1) count)

pub placed_below : (s : ℕ) (vs : List Value) (p : Placed) → Member p (placed_from s vs) → p.slot < s + length vs
placed_below s [] p m = absurd m
placed_below s (v ∷ vs) p (inl e) = let here : p.slot ≡ s = ap (λ (x : Placed). x.slot) e in omega arith
placed_below s (v ∷ vs) p (inr m) = let rest = placed_below (s + 1) vs p m in omega arith

-- the next slot
pub next_free : (next cw : ℕ) → IsNextSlot next cw → ((next == cw + 32) || (next == 1099511627776)) ≡ false → (next < cw + 32) × IsSlot next
next_free next cw (near, few) free = (grind (arith, nat_tests), grind (arith, nat_tests))

pub next_raised : (next cw x : ℕ) → IsNextSlot next cw → max cw x ≤ 1099511627776 → IsNextSlot (max next (max cw x)) (max cw x)
next_raised next cw x (near, few) low = (omega arith, omega arith)
