-- The roles of a cluster, kind by kind.
use Rattle.std.proofs.lemmas.List.Folds.{list_all-map}
use Rattle.cx_role.proofs.Common.{◌≡◌, ◌&&◌, Bool, List, [], ◌∷◌, refl, sym, ap₂, ◌∙◌, list_all-append, flat_map, list_all, list_any}
use Rattle.cx_role.proofs.Common.{count_of, below, role, same_role, Cluster, Kind, RoleId}
use Rattle.cx_node.specs.Input.{are_all, kinds, roles_as}

by_kind : (c : Cluster) (p : RoleId → Bool) (ks : List Kind)
    → list_all (λ (k : Kind). list_all (λ i. p (role k i)) (below (count_of c k))) ks ≡ list_all p (flat_map (roles_as c) ks)
by_kind c p [] = refl
by_kind c p (k ∷ ks) =
    ap₂ (λ a b. a && b) (sym (list_all-map p (role k) (below (count_of c k)))) (by_kind c p ks)
    ∙ sym (list_all-append p (roles_as c k) (flat_map (roles_as c) ks))

pub all_kinds : (c : Cluster) (roles : List RoleId)
    → list_all (λ (k : Kind). list_all (λ i. list_any (same_role (role k i)) roles) (below (count_of c k))) kinds ≡ are_all c roles
all_kinds c roles = by_kind c (λ (r : RoleId). list_any (same_role r) roles) kinds
