-- What a proxy leader holds, step by step.
use Rattle.std.proofs.lemmas.List.Elements.{filter_passes}
use Rattle.cx_role.proofs.Common.{◌≡◌, ℕ, ◌+◌, ◌<◌, ◌≤◌, ◌^◌, Bool, true, max, List, [], ◌∷◌, All, Some, refl, sym, subst, arith, nat_le}
use Rattle.cx_role.proofs.Common.{nat_lt, and_parts, nat_tests, All-filter, All-head, All-tail, RoleId, in_window, Pending, pending_at}
use Rattle.cx_field.specs.Fields.{mark}
use Rattle.cx_ring.specs.Ring.{RingState, IsNear, raise_ring}
use Rattle.cx_ring.proofs.Window.{All-with_value}
use Rattle.cx_proxy.specs.Holds.{IsPendingInRange, StandsInRing, HasPendingRing}
use Rattle.cx_proxy.specs.Slots.{ring_with, slot_of}
use Rattle.cx_proxy.proofs.Same.{with_pending_value}

pub mark_limit : (n : ℕ) → mark.fits n ≡ true → n ≤ 2 ^ 40
unfolding mark
mark_limit n h = grind (arith, nat_tests)

-- what is found lies at the slot, and is what all values are
found : (P : Pending → Type 0) (s : ℕ) (ps : List Pending) (p : Pending) → All P ps → pending_at s ps ≡ Some p
    → (p.slot ≡ s) × P p
found P s [] p all h = cc
found P s (q ∷ ps) p all h = grind (arith, nat_tests, All-head P q ps all, found P s ps p (All-tail P q ps all))

pub found_slot : (s : ℕ) (ps : List Pending) (p : Pending) → pending_at s ps ≡ Some p → p.slot ≡ s
found_slot s ps p h = (found (λ _. Unit {0}) s ps p (λ k d l. tt) h).0

pub found_has : (P : Pending → Type 0) (s : ℕ) (ps : List Pending) (p : Pending) → All P ps → pending_at s ps ≡ Some p
    → P p
found_has P s ps p all h = (found P s ps p all h).1

-- a slot of the window that begins at its watermark lies in a later one that it isn't below
in_end : (cw s more : ℕ) → in_window cw s ≡ true → cw ≤ more → s < more + 32
in_end cw s more h le = let both = and_parts (nat_le cw s) (nat_lt s (cw + 32)) h in grind (arith, nat_tests, both.1)

module _ (me : RoleId) (ring : RingState Pending) (is : HasPendingRing me ring) where
  -- a value comes
  pub holds_with : (p : Pending) → StandsInRing ring.first ring.room p → HasPendingRing me (ring_with p ring)
  holds_with p one = record {
    kind = is.kind;
    pending = let P = StandsInRing ring.first ring.room in
        subst (All P) (sym (with_pending_value p ring.items)) (All-with_value slot_of P p ring.items one is.pending);
  }

  -- there is room, and it begins later
  pub holds_raised : (s : ℕ) (room : Bool) → (ring.room ≡ true → room ≡ true)
      → HasPendingRing me (raise_ring slot_of s (record ring { room = room }))
  holds_raised s room keeps = record {
    kind = is.kind;
    pending = λ k d l.
        let from : Pending → Bool = λ p. nat_le (max ring.first s) p.slot in
        let one = All-filter from (StandsInRing ring.first ring.room) ring.items is.pending k d l in
        let low = filter_passes from ring.items k d l in
        record {
          parts = one.parts;
          near = record { low = grind (arith, nat_tests, low); high = omega (arith, one.near.high) };
          roomy = keeps one.roomy;
        };
  }

  -- a value that is found is there
  pub found_stands : (s : ℕ) (p : Pending) → pending_at s ring.items ≡ Some p → StandsInRing ring.first ring.room p
  found_stands s p h = found_has (StandsInRing ring.first ring.room) s ring.items p is.pending h

  -- and its slot lies in the window
  pub found_near : (s : ℕ) (p : Pending) → pending_at s ring.items ≡ Some p → IsNear ring.first s
  found_near s p h = subst (IsNear ring.first) (found_slot s ring.items p h) (found_stands s p h).near

  -- votes that are noted leave the rest of it
  pub holds_noted : (s : ℕ) (p : Pending) (marks : List ℕ) (done : Bool) → pending_at s ring.items ≡ Some p
      → HasPendingRing me (ring_with (record p { marks = marks; done = done }) ring)
  holds_noted s p marks done h =
      let at = found_stands s p h in
      let is = at.parts in
      holds_with (record p { marks = marks; done = done }) (record {
        parts = record { round = is.round; slot = is.slot; cw = is.cw; window = is.window; value = is.value };
        near = at.near;
        roomy = at.roomy;
      })

-- a value that is asked for comes, from its watermark on
pub holds_asked : (me : RoleId) (ring : RingState Pending) (p : Pending) → HasPendingRing me ring → IsPendingInRange p
    → max ring.first p.cw ≤ p.slot → HasPendingRing me (ring_with p (raise_ring slot_of p.cw (record ring { room = true })))
holds_asked me ring p is parts low = holds_with me _ (holds_raised me ring is p.cw true (λ _. refl)) p (record {
  parts = parts;
  near = record { low = low; high = in_end p.cw p.slot (max ring.first p.cw) parts.window (omega arith) };
  roomy = refl;
})
