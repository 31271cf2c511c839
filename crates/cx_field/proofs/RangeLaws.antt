-- What the types of grids, keys and texts say of their ranges, and what those of a command's parts say of it.
use Rattle.cx_base.proofs.Common.{◌≡◌, ℕ, suc, ◌+◌, ◌*◌, ◌<◌, ◌≤◌, true, ◌&&◌, not, None, Some, inl, inr, sym, ◌∙◌, List, [], ◌∷◌, ◌++◌}
use Rattle.cx_base.proofs.Common.{length, get_or, refl, IsTrue, arith, cases_Bool, lt-ltb, eq-eqb, nat_le, ◌==◌, ◌^◌, list_all, nat_tests}
use Rattle.cx_base.proofs.Common.{floor_fits, Shape, IsGrid, is_in, are_new, IsName, is_name_byte}
use Rattle.cx_base.specs.declared.command.Command.{Command}
use Rattle.cx_base.specs.declared.command.Op.{Op}
use Rattle.cx_base.specs.declared.command.Op.TheVariants.{Put, Del, App}
use Rattle.cx_wire.specs.Format.{u8, u16, u64, each_fits}
use Rattle.cx_wire.proofs.Laws.{both}
use Rattle.cx_field.specs.Fields.{seq, grid, member, name, name_byte, floor_below, told_op, told_floor, command_with, command}
use Rattle.cx_field.specs.Ranges.{op_in_range}

byte_fits : (n : ℕ) → n < 256 → u8.fits n ≡ true
unfolding u8
byte_fits n lt = lt-ltb _ _ lt

id_fits : (n : ℕ) → n < 65536 → u16.fits n ≡ true
unfolding u16
id_fits n lt = lt-ltb _ _ lt

at_most : (n k : ℕ) → n ≤ k → nat_le n k ≡ true
at_most n k le = grind (arith, nat_tests)

members_fit : (before ms : List ℕ) → are_new before ms ≡ true → ((i : ℕ) → get_or ms i 0 < 65536) → each_fits member before ms ≡ true
unfolding each_fits member
members_fit before [] new small = refl
members_fit before (n ∷ ns) new small =
    let p = both (not (is_in n before)) (are_new (before ++ n ∷ []) ns) new in
    let rest : each_fits member (before ++ n ∷ []) ns ≡ true = members_fit (before ++ n ∷ []) ns p.1 (λ i. small (suc i)) in
    rw (id_fits n (small 0), p.0, rest) refl

-- a grid of ids in two bytes
pub grid_in_range : (s : Shape) → IsGrid s → ((i : ℕ) → get_or s.members i 0 < 65536) → IsTrue (grid.fits s)
unfolding grid
grid_in_range s g small =
    let rows : s.rows < 256 = grind (arith, g.some_row, g.some_col, g.room) in
    let cols : s.cols < 256 = grind (arith, g.some_row, g.some_col, g.room) in
    rw (
      byte_fits s.rows rows,
      at_most 1 s.rows g.some_row,
      byte_fits s.cols cols,
      at_most 1 s.cols g.some_col,
      at_most (s.rows * s.cols) 16 g.room,
      eq-eqb _ _ g.count,
      members_fit [] s.members g.once small,
    ) refl

pub bytes_fit : (bytes before : List ℕ) → list_all is_name_byte bytes ≡ true → each_fits (λ _. name_byte) before bytes ≡ true
unfolding each_fits name_byte
bytes_fit [] before each = refl
bytes_fit (b ∷ bs) before each =
    let p = both (is_name_byte b) (list_all is_name_byte bs) each in
    let small : b < 256 = grind (arith, nat_tests, p.0) in
    let rest : each_fits (λ (_ : List ℕ). name_byte) (before ++ b ∷ []) bs ≡ true = bytes_fit bs (before ++ b ∷ []) p.1 in
    rw (byte_fits b small, p.0, rest) refl

-- a key or a text
pub name_in_range : (limit : ℕ) (bytes : List ℕ) → limit ≤ 255 → IsName limit bytes → IsTrue ((name limit).fits bytes)
unfolding name
name_in_range limit bytes most is =
    let len : length bytes < 256 = omega (arith, is.room) in
    rw (
      byte_fits (length bytes) len,
      at_most 1 (length bytes) is.some,
      at_most (length bytes) limit is.room,
      eq-eqb (length bytes) (length bytes) refl,
      bytes_fit bytes [] is.each,
    ) refl

-- ---- commands

told_none : (number : ℕ) (o : Op) → (told_op true number).fits (None, o) ≡ op_in_range o
unfolding told_op
told_none number (Put key text) = refl
told_none number (Del key) = refl
told_none number (App key text) = refl

told_some : (number floor : ℕ) (o : Op) → (told_op true number).fits (Some floor, o) ≡ ((floor_below number).fits floor && op_in_range o)
unfolding told_op
told_some number floor (Put key text) = refl
told_some number floor (Del key) = refl
told_some number floor (App key text) = refl

-- the number just below fits
just_below : (number floor : ℕ) → (floor + 1 == number) ≡ true → floor_fits number floor ≡ true
just_below number floor e = grind (arith, nat_tests)

told_in_range : (number floor : ℕ) (o : Op) → u64.fits floor ≡ true → floor_fits number floor ≡ true → op_in_range o ≡ true
    → (told_op true number).fits (told_floor number floor, o) ≡ true
unfolding floor_below
told_in_range number floor o small fits rest = elim (cases_Bool (floor + 1 == number)) [
  | inl e ↦ rw e (told_none number o ∙ rest)
  | inr e ↦ rw e (told_some number floor o ∙ rw (small, fits, e, rest) refl)
]

told_apart : (number floor : ℕ) (o : Op) → (told_op true number).fits (told_floor number floor, o) ≡ true
    → (floor_fits number floor ≡ true) × (op_in_range o ≡ true)
unfolding floor_below
told_apart number floor o h = elim (cases_Bool (floor + 1 == number)) [
  | inl e ↦ (just_below number floor e, sym (told_none number o) ∙ rw e at h)
  | inr e ↦
      let p = both ((floor_below number).fits floor) (op_in_range o) (sym (told_some number floor o) ∙ rw e at h) in
      let q = both (u64.fits floor) (floor_fits number floor && not (floor + 1 == number)) p.0 in
      ((both (floor_fits number floor) (not (floor + 1 == number)) q.1).0, p.1)
]

number_fits : (n : ℕ) → n < 2 ^ 64 → u64.fits n ≡ true
unfolding u64
number_fits n lt = lt-ltb _ _ lt

-- a command whose floor fits its number
pub command_in_range : (c : Command) → c.client < 65536 → c.seq < 2 ^ 64 → IsTrue (floor_fits c.seq c.floor) → IsTrue (op_in_range c.op)
    → IsTrue (command.fits c)
unfolding command command_with seq
command_in_range c client number fits rest =
    let lt : c.floor < c.seq = grind (arith, nat_tests, fits) in
    let small : c.floor < 2 ^ 64 = omega (arith, lt, number) in
    let some : 1 ≤ c.seq = omega (arith, lt) in
    rw (
      id_fits c.client client,
      number_fits c.seq number,
      at_most 1 c.seq some,
      told_in_range c.seq c.floor c.op (number_fits c.floor small) fits rest,
    ) refl

-- the parts of a command that fits
pub command_apart : (c : Command) → IsTrue (command.fits c)
    → IsTrue (u16.fits c.client) × IsTrue (seq.fits c.seq) × IsTrue (floor_fits c.seq c.floor) × IsTrue (op_in_range c.op)
unfolding command command_with
command_apart c h =
    let who = both (u16.fits c.client) (seq.fits c.seq && (told_op true c.seq).fits (told_floor c.seq c.floor, c.op)) h in
    let what = both (seq.fits c.seq) ((told_op true c.seq).fits (told_floor c.seq c.floor, c.op)) who.1 in
    let told = told_apart c.seq c.floor c.op what.1 in
    (who.0, what.0, told.0, told.1)
