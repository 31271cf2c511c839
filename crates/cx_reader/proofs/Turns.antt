-- The next turn is in its range.
use Rattle.cx_role.proofs.Common.{◌≡◌, ◌<◌, ◌≤◌, ◌+◌, ◌^◌, ◌&&◌, ◌||◌, ◌==◌, not, ℕ, true, nat_le, nat_lt, max, arith, nat_tests, fits}
use Rattle.cx_role.proofs.Common.{last_turn}
use Rattle.cx_role.proofs.Common.{refl, Cluster, RoleId, ReaderDurable, None, reader_rules, refused}
use Rattle.cx_model.specs.Reader.{reader_renewed}
use Rattle.cx_role.proofs.Common.kept
use Rattle.cx_wire.specs.Format.{u64}
use Rattle.cx_field.specs.Fields.{seq}

some_below : (n limit : ℕ) → n + 1 < limit → (nat_lt (n + 1) limit && nat_le 1 (n + 1)) ≡ true
some_below n limit less = grind (arith, nat_tests)

pub next_in_range : (n : ℕ) → n < last_turn → seq.fits (n + 1) ≡ true
unfolding seq u64
next_in_range n less = some_below n (256 ^ 8) (omega arith)

pub next_record_fits : (n : ℕ) → n < last_turn → fits (kept.Turn (n + 1)) ≡ true
next_record_fits n less = next_in_range n less

-- the greatest turn kept is then the next one
pub next_is_greatest : (n : ℕ) → max n (n + 1) ≡ n + 1
next_is_greatest n = grind (arith, nat_tests)

-- any turn that a reader has is in its range
in_range : (n limit : ℕ) → n < limit → nat_lt 0 n ≡ true → (nat_lt n limit && nat_le 1 n) ≡ true
in_range n limit less some = grind (arith, nat_tests)

pub turn_spelled : (n : ℕ) → n ≤ last_turn → nat_lt 0 n ≡ true → fits (kept.Turn n) ≡ true
unfolding seq u64
turn_spelled n less some = in_range n (256 ^ 8) (omega arith) some

may_be_first : (n last : ℕ) → n ≤ last → ((n == 1 || true) && nat_le n last) ≡ true
may_be_first n last range = grind (arith, nat_tests)

-- a reader can be opened from its list put anew
pub renewable : (c : Cluster) (me : RoleId) (d : ReaderDurable) → d.turn ≤ last_turn → (first : ℕ)
    → refused reader_rules c me (reader_renewed d first) ≡ None
renewable c me d range first = rw (may_be_first d.turn last_turn range) refl

below : (n last waits : ℕ) → n ≤ last → (nat_lt 0 waits && not (n == last)) ≡ true → n < last
below n last waits range some = grind (arith, nat_tests)

-- where there is a next batch, there is a turn for it
pub next_turn : (n waits : ℕ) → n ≤ last_turn → (nat_lt 0 waits && not (n == last_turn)) ≡ true → n < last_turn
next_turn n waits range some = below n last_turn waits range some

pub ruleset turns = (next_in_range, next_record_fits, next_is_greatest)
