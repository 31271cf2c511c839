use Rattle.cx_model.specs.Prelude.{◌≡◌, ◌+◌, ◌-◌, ℕ, numbers, list_any, pending_at}
use Rattle.cx_proxy.specs.Tending.{is_undecided}
use Rattle.cx_proxy.proofs.tending.has_undecided.Given as goal

abbrev pub invariant-loop-slot : goal.invariant-loop-slot
invariant-loop-slot l =
    list_any (λ (s : ℕ). is_undecided (pending_at s l.pendings.items)) (numbers l.slot (l.first + 32 - l.slot))
    ≡ list_any (λ (s : ℕ). is_undecided (pending_at s l.pendings.items)) (numbers l.first 32)
