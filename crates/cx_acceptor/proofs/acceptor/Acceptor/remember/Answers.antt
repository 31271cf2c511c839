use Rattle.cx_role.proofs.Common.{arith}
use Rattle.cx_role.proofs.Common.kept
use Rattle.cx_acceptor.proofs.SoundLaws.{after_sound, slot_small, vote_parts}
use Rattle.cx_acceptor.proofs.acceptor.Acceptor.remember.Goals as goal

pub invariant_of-self : goal.invariant_of-self
invariant_of-self c =
    let own = rw (← c.self.view_is, c.in-Promise.is) at c.requires.own in
    let ranges = rw c.in-Promise.is at c.requires.ranges in
    after_sound c.self.inside.cluster c.self.inside.me _ (kept.Promise c.in-Promise.round) c.self.invariant ranges own

pub overflow_add-slot : goal.overflow_add-slot
overflow_add-slot c =
    let vote = c.in-Vote in
    let ranges = rw vote.is at c.requires.ranges in
    let small = slot_small vote.slot (vote_parts vote.round vote.slot vote.cw vote.value ranges).1 in
    omega arith

pub invariant_of-self-in-Vote : goal.invariant_of-self-in-Vote
invariant_of-self-in-Vote c =
    let self = c.self-in-Vote in
    let vote = c.in-Vote in
    let own = rw (← self.view_is, vote.is) at c.requires.own in
    let ranges = rw vote.is at c.requires.ranges in
    rw (
      c.place.ensures,
      c.keep_from.ensures.items,
      c.reserve.ensures.items,
      c.in_ok-copy-in-Vote.ensures,
      c.max-self-inside.ensures,
      c.max-self-inside-in-Vote.ensures,
    )
    (after_sound self.inside.cluster self.inside.me _ (kept.Vote vote.round vote.slot vote.cw vote.value) self.invariant
    ranges own)

pub invariant_of-self-in-Voted : goal.invariant_of-self-in-Voted
invariant_of-self-in-Voted c =
    let self = c.self-in-Voted in
    let voted = c.in-Voted in
    let own = rw (← self.view_is, voted.is) at c.requires.own in
    let ranges = rw voted.is at c.requires.ranges in
    rw (c.in_ok-self-inside-in-Voted.ensures, c.as_slice.ensures.items)
    (after_sound self.inside.cluster self.inside.me _ (kept.Voted voted.round voted.top voted.cw voted.votes) self.invariant ranges own)
