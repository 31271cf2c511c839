use Rattle.cx_letter.specs.Prelude.{◌≡◌, drop, list_all, list_any, count_of, below, role, same_role, Kind}
use Rattle.cx_node.proofs.hosting.have_kinds.Given as goal

abbrev pub invariant-loop-kind : goal.invariant-loop-kind
invariant-loop-kind l = list_all (λ (k : Kind). list_all (λ i. list_any (same_role (role k i)) l.roles) (below (count_of l.cluster k)))
    (drop l.kind-index l.kinds)
    ≡ list_all (λ (k : Kind). list_all (λ i. list_any (same_role (role k i)) l.roles) (below (count_of l.cluster k))) l.kinds
