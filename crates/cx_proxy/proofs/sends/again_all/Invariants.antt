use Rattle.cx_model.specs.Prelude.{◌≡◌, ◌+◌, ◌-◌, ◌*◌, ◌≤◌, ◌++◌, length, numbers, again_at}
use Rattle.cx_proxy.proofs.sends.again_all.Given as goal

abbrev pub invariant-loop-slot : goal.invariant-loop-slot
invariant-loop-slot l = record {
  list : l.out.list ++ again_at l.cluster l.me l.pendings.items (numbers l.slot (l.first + l.count - l.slot))
      ≡ again_at l.cluster l.me l.pendings.items (numbers l.first l.count);
  room : length l.out.list + 16 * l.first ≤ 16 * l.slot;
}
