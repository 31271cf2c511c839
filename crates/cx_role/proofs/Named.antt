-- What is named of a datagram that a role takes.
use Rattle.cx_base.proofs.Common.{arith, nat_tests}
use Rattle.cx_model.specs.Prelude.{◌≡◌, ◌&&◌, true, Cluster, RoleId, same_role, names, names_body, Letter}

-- each name in its message lies in the cluster
pub body_named : (c : Cluster) (me : RoleId) (l : Letter) → (same_role l.to me && names c l) ≡ true
    → names_body c l.msg ≡ true
body_named c me l ours = grind (arith, nat_tests)
