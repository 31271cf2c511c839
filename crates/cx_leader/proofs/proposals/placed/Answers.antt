use Rattle.cx_role.proofs.Common.{◌≡◌, ◌+◌, ◌∷◌, drop, arith, ◌∙◌, append_assoc, [], Placed, placed_from}
use Rattle.cx_phase1.proofs.Walks.{next_left}
use Rattle.cx_leader.proofs.BySlot.{put_next, slots_next}
use Rattle.cx_leader.proofs.proposals.placed.Goals as goal

pub loop-value-preserved : goal.loop-value-preserved
loop-value-preserved c =
    let l = c.loop-value in
    let values = c.args.values.now in
    let one : Placed = record { slot = l.slot; value = c.value-item.result } in
    let last = put_next c.args.first l.value-index l.list.items one l.invariant.slots l.invariant.slot in
    let rest : drop l.value-index values ≡ c.value-item.result ∷ drop (l.value-index + 1) values =
    next_left values l.value-index c.value-item.result c.loop-value-test.true c.value-item.is in
    record {
      list =
          rw (c.put.ensures.items, c.in_ok-value.ensures, last)
          (append_assoc l.list.items (one ∷ []) (placed_from (l.slot + 1) (drop (l.value-index + 1) values))
          ∙ rw rest at l.invariant.list);
      slots =
          rw (c.put.ensures.items, c.in_ok-value.ensures, last)
          (slots_next c.args.first l.value-index l.list.items one l.invariant.slots l.invariant.slot);
      first = rw c.put.ensures.items l.invariant.first;
      room = rw c.put.ensures.items l.invariant.room;
      slot = omega (arith, l.invariant.slot);
    }
