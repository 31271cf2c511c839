use Rattle.cx_role.proofs.Common.{◌≡◌, ◌+◌, ◌-◌, list_all, is_in, numbers}
use Rattle.cx_leader.proofs.known.KnownSlots.contains_all.Given as goal

abbrev pub invariant-loop-slot : goal.invariant-loop-slot
invariant-loop-slot l = list_all (λ s. is_in s l.self.list) (numbers l.slot (l.first + l.count - l.slot))
    ≡ list_all (λ s. is_in s l.self.list) (numbers l.first l.count)
