-- What a leader proposed stays one value a slot.
use Rattle.std.proofs.Common.{◌≢◌, ◌^◌, ◌==◌, if◌then◌else◌, ap, arith, ◌∙◌}
use Rattle.std.proofs.lemmas.List.Elements.{All-nil, All-cons, All-push, All-filter, All-head, All-tail}
use Rattle.std.proofs.lemmas.Bool.{or_parts, eqb-false}
use Rattle.cx_role.specs.Prelude.{◌≡◌, ◌≤◌, ◌<◌, ◌+◌, ◌-◌, ℕ, Bool, true, false, max, map, List, [], ◌∷◌, ◌++◌, length, None, Some, All}
use Rattle.cx_role.specs.Prelude.{IsTrue, refl, Placed, Value, numbers, without_known, placed_from}
use Rattle.cx_model.specs.declared.states.Plan.{Plan}
use Rattle.cx_field.specs.Fields as field
use Rattle.cx_phase1.specs.Planned.{IsPlan}
use Rattle.cx_phase1.specs.Window.{Window, IsWindow, is_used_up, free_slot}
use Rattle.cx_ring.specs.Ring.{RingState, raise_ring, value_at, with_value}
use Rattle.cx_leader.specs.Proposing.{IsWindowSlot, HasSpelledValue, IsProposing, IsHolding}
use Rattle.cx_leader.proofs.BySlot.{slot_of, put_next, slots_next, slots_from, found_at}

-- ---- a value at the next slot

some_by : (b : Bool) (s n : ℕ) → Some s ≡ (if b then None else Some n) → (b ≡ false) × (s ≡ n)
some_by true s n h = cc
some_by false s n h = (refl, cc)

pub some_free : (w : Window) (s : ℕ) → Some s ≡ free_slot w → (is_used_up w ≡ false) × (s ≡ w.next)
some_free w s h = some_by (is_used_up w) s w.next h

pub slot_free : (w : Window) → IsWindow w.cw w.next → is_used_up w ≡ false → IsWindowSlot w.cw w.next
slot_free w is h =
    let p = or_parts (w.next == w.cw + 32) (w.next == 1099511627776) h in
    let a : w.next ≢ w.cw + 32 = eqb-false w.next (w.cw + 32) p.0 in
    let b : w.next ≢ 2 ^ 40 = eqb-false w.next 1099511627776 p.1 in
    record { low = is.low; high = omega (arith, is.high); end = omega (arith, is.end) }

pub proposed_next : (w : Window) (ps : List Placed) (v : Value) → IsProposing w.cw w.next ps → is_used_up w ≡ false
    → IsTrue (field.value.fits v) → IsProposing w.cw (w.next + 1) (ps ++ record { slot = w.next; value = v } ∷ [])
proposed_next w ps v is h fits =
    let slot : IsWindowSlot w.cw w.next = slot_free w is.window h in
    let one : Placed = record { slot = w.next; value = v } in
    let at : w.next ≡ w.cw + (w.next - w.cw) = omega (arith, slot.low) in
    let more : w.next - w.cw + 1 ≡ w.next + 1 - w.cw = omega (arith, slot.low) in
    record {
      window = record { low = omega (arith, slot.low); high = omega (arith, slot.high); end = omega (arith, slot.end) };
      slots = rw more at (slots_next w.cw (w.next - w.cw) ps one is.slots at);
      values = All-push HasSpelledValue ps one is.values fits;
    }

-- a value at the next slot comes last
pub put_last : (w : Window) (ps : List Placed) (v : Value) → IsProposing w.cw w.next ps
    → with_value slot_of (record { slot = w.next; value = v }) ps ≡ ps ++ record { slot = w.next; value = v } ∷ []
put_last w ps v is = put_next w.cw (w.next - w.cw) ps _ is.slots (omega (arith, is.window.low))

pub ruleset adding = (some_free, slot_free, proposed_next, put_last)

-- a value that is found has a slot at which the leader may propose
pub found_slot : (cw next k : ℕ) (ps : List Placed) (x : Placed) → IsProposing cw next ps
    → value_at slot_of k ps ≡ Some x → IsWindowSlot cw x.slot
found_slot cw next k ps x is found =
    let at = found_at cw (next - cw) k ps x is.slots found in
    let high : x.slot < next = omega (arith, at.1, is.window.low) in
    record { low = at.0; high = omega (arith, high, is.window.high); end = omega (arith, high, is.window.end) }

-- a greater watermark
pub holding_raised : (cw next k : ℕ) (list : RingState Placed) (known : ℕ) → IsHolding cw next list known → k ≤ 2 ^ 40
    → IsHolding (max cw k) (max next (max cw k)) (raise_ring slot_of (max cw k) list) (max known (max cw k))
holding_raised cw next k list known is le =
    let window = is.proposing.window in
    let low = window.low in
    let first : max list.first (max cw k) ≡ max cw k = omega (arith, is.first) in
    let begin : max cw (max cw k) ≡ max cw k = omega arith in
    let count : cw + (next - cw) - max cw k ≡ max next (max cw k) - max cw k = omega arith in
    record {
      proposing =
          rw first (record {
            window = record { low = omega arith; high = omega (arith, window.high); end = omega (arith, window.end) };
            slots = rw (begin, count) at (slots_from (max cw k) cw (next - cw) list.items is.proposing.slots);
            values = All-filter _ HasSpelledValue list.items is.proposing.values;
          });
      first = first;
      known_first = omega (arith, is.known_first);
    }

-- a plan
slots-placed_from : (s : ℕ) (vs : List Value) → map slot_of (placed_from s vs) ≡ numbers s (length vs)
slots-placed_from s [] = refl
slots-placed_from s (v ∷ vs) = ap (λ ss. s ∷ ss) (slots-placed_from (s + 1) vs)

all_placed : (s : ℕ) (vs : List Value) → All (λ (v : Value). IsTrue (field.value.fits v)) vs
    → All HasSpelledValue (placed_from s vs)
all_placed s [] fits = All-nil HasSpelledValue
all_placed s (v ∷ vs) fits =
    let Fits = λ (x : Value). IsTrue (field.value.fits x) in
    All-cons HasSpelledValue _ _ (All-head Fits v vs fits) (all_placed (s + 1) vs (All-tail Fits v vs fits))

pub proposed_plan : (p : Plan) → IsPlan p → IsProposing p.cw p.end (placed_from p.cw p.values)
proposed_plan p is =
    let count : length p.values ≡ p.end - p.cw = omega (arith, is.count) in
    record {
      window = record { low = is.low; high = is.high; end = is.end };
      slots = slots-placed_from p.cw p.values ∙ ap (numbers p.cw) count;
      values = all_placed p.cw p.values is.values;
    }

-- where none is known to be chosen, all are open
pub none_known : (ps : List Placed) → without_known [] ps ≡ ps
none_known [] = refl
none_known (p ∷ ps) = ap (λ xs. p ∷ xs) (none_known ps)
