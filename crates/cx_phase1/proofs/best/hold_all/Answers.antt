use Rattle.cx_base.proofs.Common.{◌∙◌, ◌<◌, ◌+◌, ℕ, List, All, ap, subst, sym, All-head, All-tail}
use Rattle.cx_field.specs.declared.parts.Vote.{Vote}
use Rattle.cx_phase1.specs.Best.{with_votes}
use Rattle.cx_phase1.proofs.BestLaws.{first_same, room_same}
use Rattle.cx_phase1.proofs.best.hold_all.Goals as goal

abbrev IsBelow : ℕ → Vote → Type 0
IsBelow end v = v.slot < end + 32

pub hold-requires-clause-high : goal.hold-requires-clause-high
hold-requires-clause-high c =
    let below = IsBelow c.loop-vote.best.first in
    All-head below c.in-Some.vote c.next.new.self.rest.items (subst (All below) c.in-Some.ensures.steps.0 c.loop-vote.invariant.high)

pub loop-vote-preserved : goal.loop-vote-preserved
loop-vote-preserved c =
    let best = c.loop-vote.best in
    let vote = c.in-Some.vote in
    let rest = c.next.new.self.rest.items in
    let below = IsBelow best.first in
    let left : All below rest = All-tail below vote rest (subst (All below) c.in-Some.ensures.steps.0 c.loop-vote.invariant.high) in
    rw c.hold.ensures record {
      can = tt;
      ends = tt;
      room = room_same vote best ∙ c.loop-vote.invariant.room;
      high = subst (λ (n : ℕ). All (IsBelow n) rest) (sym (first_same vote best)) left;
      done = ap (λ (vs : List Vote). with_votes vs best) (sym c.in-Some.ensures.steps.0) ∙ c.loop-vote.invariant.done;
    }
