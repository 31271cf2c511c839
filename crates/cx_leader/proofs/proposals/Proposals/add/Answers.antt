use Rattle.cx_role.proofs.Common.{IsTrue}
use Rattle.cx_field.specs.Fields as field
use Rattle.cx_leader.proofs.Proposed.{some_free, proposed_next, put_last}
use Rattle.cx_leader.proofs.proposals.Proposals.add.Goals as goal

pub invariant_of-self-2 : goal.invariant_of-self-2
invariant_of-self-2 c =
    let w = c.self.inside.slots in
    let items = c.self.inside.list.items in
    let free = some_free w c.in-Some.slot c.in-Some.ensures.slot in
    let fits : IsTrue (field.value.fits c.in_ok-value.value) = rw c.in_ok-value.ensures c.requires in
    let last = put_last w items c.in_ok-value.value c.self.invariant.proposing in
    rw (c.put.ensures.items, c.in_ok-make_room.ensures.ok, c.next_slot.ensures.rest, free.0, free.1, last) (record {
      proposing = proposed_next w items c.in_ok-value.value c.self.invariant.proposing free.0 fits;
      first = c.self.invariant.first;
      known_first = c.self.invariant.known_first;
    })
