use Rattle.cx_role.proofs.Common.kept
use Rattle.cx_match.proofs.SoundLaws.{after_sound}
use Rattle.cx_match.proofs.matchmaker.Matchmaker.remember.Goals as goal

pub invariant_of-self-in-Garbage : goal.invariant_of-self-in-Garbage
invariant_of-self-in-Garbage c =
    let own = rw (← c.self.view_is, c.in-Garbage.is) at c.requires.own in
    let ranges = rw c.in-Garbage.is at c.requires.ranges in
    let sound = after_sound c.self.inside.cluster c.self.inside.me _ (kept.Garbage c.in-Garbage.round c.in-Garbage.grid) c.self.invariant
    ranges own in
    rw (c.retire.ensures, c.reserve-in-Garbage.ensures.items) sound

pub invariant_of-self-in-Match : goal.invariant_of-self-in-Match
invariant_of-self-in-Match c =
    let own = rw (← c.self.view_is, c.in-Match.is) at c.requires.own in
    let ranges = rw c.in-Match.is at c.requires.ranges in
    let sound = after_sound c.self.inside.cluster c.self.inside.me _ (kept.Match c.in-Match.round c.in-Match.grid) c.self.invariant ranges
    own in
    rw (c.push_reserved.ensures.items, c.make_room.ensures.items, c.reserve.ensures.items) sound

pub invariant_of-self-in-Stop : goal.invariant_of-self-in-Stop
invariant_of-self-in-Stop c =
    let own = rw (← c.self.view_is, c.in-Stop.is) at c.requires.own in
    let ranges = rw c.in-Stop.is at c.requires.ranges in
    after_sound c.self.inside.cluster c.self.inside.me _ (kept.Stop c.in-Stop.round) c.self.invariant ranges own

pub invariant_of-self-in-Next : goal.invariant_of-self-in-Next
invariant_of-self-in-Next c =
    let own = rw (← c.self.view_is, c.in-Next.is) at c.requires.own in
    let ranges = rw c.in-Next.is at c.requires.ranges in
    after_sound c.self.inside.cluster c.self.inside.me _ (kept.Next c.in-Next.round c.in-Next.set) c.self.invariant ranges own

pub invariant_of-self-in-Boot : goal.invariant_of-self-in-Boot
invariant_of-self-in-Boot c =
    let own = rw (← c.self.view_is, c.in-Boot.is) at c.requires.own in
    let ranges = rw c.in-Boot.is at c.requires.ranges in
    let sound = after_sound c.self.inside.cluster c.self.inside.me _ (kept.Boot c.in-Boot.set c.in-Boot.watermark c.in-Boot.entries)
    c.self.invariant ranges own in
    rw (c.in_ok-begun-in-Boot.ensures, c.as_slice.ensures.items) sound
