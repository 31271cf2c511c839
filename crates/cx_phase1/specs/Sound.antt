-- What is so of every first phase.
use Rattle.std.specs.Prelude.{◌≡◌, ◌≤◌, ◌<◌, ◌+◌, ◌^◌, ℕ, List, All, IsTrue}
use Rattle.cx_model.specs.Prelude.{is_in, Entry, Vote, has_promised, greatest_cw, end_told, votes_told, best_vote}
use Rattle.cx_field.specs.Fields as field
use Rattle.cx_ring.specs.Ring.{RingState, value_at}
use Rattle.cx_model.specs.declared.states.Promised.{Promised}
use Rattle.cx_phase1.specs.Best.{slot_of}
use Rattle.cx_phase1.specs.Counting.{are_ids}

-- a vote below the end of the window from cw on and of all slots, with a value that has a spelling
pub record IsVote (cw : ℕ) (v : Vote) : Type 0 where
  pub high : v.slot < cw + 32
  pub end : v.slot < 2 ^ 40
  pub value : IsTrue (field.value.fits v.value)

-- what an acceptor reported: a number of slots, and such votes
pub record IsPromiseInRange (p : Promised) : Type 0 where
  pub cw : p.cw ≤ 2 ^ 40
  pub votes : All (IsVote p.cw) p.votes

-- the window begins at the greatest chosen watermark reported, each of its slots has the best vote reported for it, and the end is after
-- the greatest slot reported
pub record IsBest (promises : List Promised) (best : RingState Vote) (behind : ℕ) : Type 0 where
  pub first : best.first ≡ greatest_cw 0 promises
  pub votes : (s : ℕ) → best.first ≤ s → value_at slot_of s best.items ≡ best_vote s (votes_told promises)
  pub end : behind ≡ end_told 0 (votes_told promises)

-- members are ids that can be marked, those are marked that were counted, and what is held is the best of what they reported
pub record IsSound (live : List Entry) (promises : List Promised) (marks : List ℕ) (votes : RingState Vote) (end : ℕ) : Type 0 where
  pub ids : IsTrue (are_ids live)
  pub marked : (id : ℕ) → is_in id marks ≡ has_promised id promises
  pub told : All IsPromiseInRange promises
  pub best : IsBest promises votes end
