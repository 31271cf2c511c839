-- Sets of matchmakers: ids that are read rise, and each set has a spelling.
use Rattle.cx_base.proofs.Common.{◌≡◌, ℕ, zero, suc, ◌<◌, ◌≤◌, Bool, true, false, ◌&&◌, cond, List, [], ◌∷◌, ◌++◌, length, get_or, Ok, Err}
use Rattle.cx_base.proofs.Common.{refl, sym, ap, subst, ◌∙◌, append_assoc, IsTrue, arith, nat_le, nat_lt, list_all, lt-ltb, eq-eqb}
use Rattle.cx_base.proofs.Common.{nat_tests, append-nil, rises, is_rising}
use Rattle.cx_base.specs.declared.round.Round.{Round}
use Rattle.cx_wire.specs.Format.{bad, ◌>>=◌, u8, u16, each_fits, each_read}
use Rattle.cx_wire.proofs.Laws.{bind_ok, guard_ok, ok_is}
use Rattle.cx_field.specs.Fields.{last_passes, set_member, set, goes_with, accepted_set}
use Rattle.cx_field.proofs.Rising.{PassesOn, AsksToRise, join, rising_fits, rises-next}

member_shuffle : (a b : Bool) → (a && b) ≡ (b && a)
member_shuffle true true = refl
member_shuffle true false = refl
member_shuffle false true = refl
member_shuffle false false = refl

members_ask : AsksToRise set_member nat_lt (λ id. u16.fits id)
unfolding set_member
members_ask = record { asks = λ front id. member_shuffle (u16.fits id) (last_passes (λ m. nat_lt m id) front) }

members_pass : PassesOn nat_lt
members_pass = record { on = λ a b c h k. grind (arith, nat_tests, h, k) }

-- both ways of saying that ids rise
rises_are : (ids : List ℕ) → rises nat_lt ids ≡ is_rising ids
rises_are [] = refl
rises_are (n ∷ ns) = ap (λ (rest : Bool). list_all (λ m. nat_lt n m) ns && rest) (rises_are ns)

-- ids that are read after rising ones rise with them
read_on : (n : ℕ) (before bytes : List ℕ) (x : List ℕ × List ℕ) → rises nat_lt before ≡ true → each_read set_member before n bytes ≡ Ok x
    → rises nat_lt (before ++ x.0) ≡ true
unfolding each_read set_member
read_on zero before bytes x r e =
    subst (λ (y : List ℕ × List ℕ). rises nat_lt (before ++ y.0) ≡ true) (ok_is ([], bytes) x e) (rw (append-nil before) r)
read_on (suc n) before bytes x r e =
    let a =
    bind_ok ((set_member before).read bytes) (λ y. each_read set_member (before ++ y.0 ∷ []) n y.1 >>= λ ys. Ok (y.0 ∷ ys.0, ys.1)) x e in
    let b = bind_ok (each_read set_member (before ++ a.0.0 ∷ []) n a.0.1) (λ ys. Ok (a.0.0 ∷ ys.0, ys.1)) x a.2 in
    let one = bind_ok (u16.read bytes) (λ y. cond (last_passes (λ m. nat_lt m y.0) before) (Ok y) (Err (bad (length bytes)))) a.0 a.1 in
    let test = guard_ok (last_passes (λ m. nat_lt m one.0.0) before) (bad (length bytes)) one.0 a.0 one.2 in
    let last : last_passes (λ m. nat_lt m a.0.0) before ≡ true =
    ap (λ (y : ℕ × List ℕ). last_passes (λ m. nat_lt m y.0) before) (sym test.1) ∙ test.0 in
    let more : rises nat_lt (before ++ a.0.0 ∷ []) ≡ true = rises-next nat_lt members_pass a.0.0 before r last in
    let others : rises nat_lt ((before ++ a.0.0 ∷ []) ++ b.0.0) ≡ true = read_on n (before ++ a.0.0 ∷ []) a.0.1 b.0 more b.1 in
    let made : List ℕ × List ℕ = (a.0.0 ∷ b.0.0, b.0.1) in
    subst (λ (y : List ℕ × List ℕ). rises nat_lt (before ++ y.0) ≡ true) (ok_is made x b.2)
    (ap (rises nat_lt) (sym (append_assoc before (a.0.0 ∷ []) b.0.0)) ∙ others)

-- ids that are read rise
pub read_members_rise : (n : ℕ) (bytes : List ℕ) (x : List ℕ × List ℕ) → each_read set_member [] n bytes ≡ Ok x → is_rising x.0 ≡ true
read_members_rise n bytes x e = sym (rises_are x.0) ∙ read_on n [] bytes x refl e

-- rising ids in two bytes fit one by one
pub rising_members : (ids : List ℕ) → is_rising ids ≡ true → list_all (λ id. u16.fits id) ids ≡ true → each_fits set_member [] ids ≡ true
rising_members ids rising small = rising_fits set_member nat_lt (λ id. u16.fits id) members_ask ids [] (rises_are ids ∙ rising) small

ids_fit : (ids : List ℕ) → ((i : ℕ) → get_or ids i 0 < 65536) → list_all (λ id. u16.fits id) ids ≡ true
unfolding u16
ids_fit [] small = refl
ids_fit (n ∷ ns) small = join (u16.fits n) (list_all (λ id. u16.fits id) ns) (lt-ltb _ _ (small 0)) (ids_fit ns (λ i. small (suc i)))

byte_fits : (n : ℕ) → n ≤ 7 → u8.fits n ≡ true
unfolding u8
byte_fits n le = let lt : n < 256 = omega (arith, le) in lt-ltb _ _ lt

at_most : (n k : ℕ) → n ≤ k → nat_le n k ≡ true
at_most n k le = grind (arith, nat_tests)

-- a set of ids in two bytes
pub set_in_range : (ids : List ℕ) → length ids ≤ 7 → IsTrue (is_rising ids) → ((i : ℕ) → get_or ids i 0 < 65536) → IsTrue (set.fits ids)
unfolding set
set_in_range ids room rising small = rw (
  byte_fits (length ids) room,
  at_most (length ids) 7 room,
  eq-eqb (length ids) (length ids) refl,
  rising_members ids rising (ids_fit ids small),
) refl

-- the same, after the round in which it was accepted
pub accepted_set_in_range : (accepted : Round) (ids : List ℕ) → length ids ≤ 7 → IsTrue (is_rising ids) → ((i : ℕ) → get_or ids i 0 < 65536)
    → IsTrue (goes_with accepted (length ids)) → IsTrue ((accepted_set accepted).fits ids)
unfolding accepted_set
accepted_set_in_range accepted ids room rising small goes = join _ _ (join _ _ (byte_fits (length ids) room)
    (join (nat_le (length ids) 7) (goes_with accepted (length ids)) (at_most (length ids) 7 room) goes))
    (join _ _ (eq-eqb (length ids) (length ids) refl) (rising_members ids rising (ids_fit ids small)))
