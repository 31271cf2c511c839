-- The row of an acceptor's answer, by what the answer comes to.
use Rattle.cx_role.specs.Prelude.{◌≡◌, ◌&&◌, ℕ, Bool, true, false, List, [], ◌∷◌, ◌++◌, Some, refl, Cluster, RoleId, Round, Entry, Vote}
use Rattle.cx_role.specs.Prelude.{Promised, live_entries, is_member_of, rows_whole, LeaderDurable, LeaderVolatile, is_promising, is_own}
use Rattle.cx_model.specs.Leader.{phase1b_row}
use Rattle.cx_model.specs.Plan.{has_promised, promised_by}
use Rattle.cx_phase1.specs.Counting.{Phase1State, count_promise, counted_by}
use Rattle.cx_phase1.specs.declared.told.Told.TheVariants.{Same, Unasked, Whole}
use Rattle.cx_leader.specs.Promising.{promised_row}

-- the answer with which the phase is whole is counted
whole_by : (k : Phase1State) (p : Promised) (member twice : Bool) → is_member_of k.live p.acceptor ≡ member
    → has_promised p.acceptor k.promises ≡ twice → count_promise k p ≡ Whole
    → counted_by k p ≡ record k { promises = k.promises ++ p ∷ [] }
whole_by k p false twice m t h = let no : Unasked ≡ Whole = rw m at h in cc
whole_by k p true true m t h = let no : Same ≡ Whole = rw (m, t) at h in cc
whole_by k p true false m t h = rw (m, t) refl

pub counted_whole : (k : Phase1State) (p : Promised) → count_promise k p ≡ Whole
    → counted_by k p ≡ record k { promises = k.promises ++ p ∷ [] }
counted_whole k p h = whole_by k p _ _ refl refl h

module _ (c : Cluster) (me : RoleId) (d : LeaderDurable) (own : Entry) (v : LeaderVolatile) (from : RoleId) (i : Round)
    (cw : ℕ) (votes : List Vote) where
  abbrev told : Promised
  told = record { acceptor = from.index; cw = cw; votes = votes }

  by_tests : (member twice whole : Bool) → d.own ≡ Some own → (is_promising v.mode && is_own d i) ≡ true
      → is_member_of (live_entries v.told) from.index ≡ member → has_promised from.index v.promises ≡ twice
      → rows_whole (live_entries v.told) (promised_by (v.promises ++ told ∷ [])) ≡ whole
      → phase1b_row c me d v from i cw votes ≡ promised_row c me own v told
  by_tests false twice whole is asks m t w = rw (asks, m) refl
  by_tests true true whole is asks m t w = rw (asks, m, t) refl
  by_tests true false true is asks m t w = rw (asks, m, t, is, w) refl
  by_tests true false false is asks m t w = rw (asks, m, t, is, w) refl

  pub promised_is : d.own ≡ Some own → (is_promising v.mode && is_own d i) ≡ true
      → phase1b_row c me d v from i cw votes ≡ promised_row c me own v told
  promised_is is asks = by_tests _ _ _ is asks refl refl refl
