use Rattle.cx_base.proofs.Common.{◌≡◌, ◌-◌, list_all, list_any, below, numbers, role, same_role}
use Rattle.cx_node.proofs.hosting.has_kind.Given as goal

abbrev pub invariant-loop-index : goal.invariant-loop-index
invariant-loop-index l =
    list_all (λ i. list_any (same_role (role l.kind i)) l.roles) (numbers l.index (l.count - l.index))
    ≡ list_all (λ i. list_any (same_role (role l.kind i)) l.roles) (below l.count)
