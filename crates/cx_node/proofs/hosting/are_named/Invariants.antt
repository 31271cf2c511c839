use Rattle.cx_model.specs.Prelude.{◌≡◌, drop, list_all, RoleId, names_role}
use Rattle.cx_node.proofs.hosting.are_named.Given as goal

abbrev pub invariant-loop-role : goal.invariant-loop-role
invariant-loop-role l =
    list_all (λ (r : RoleId). names_role l.cluster r) (drop l.role-index l.roles) ≡ list_all
    (λ (r : RoleId). names_role l.cluster r) l.roles
