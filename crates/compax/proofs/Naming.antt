-- Roles that are named one by one, and tested one by one.
use Rattle.cx_base.proofs.Common.{◌≡◌, ℕ, Bool, ◌&&◌, not, true, false, List, [], ◌∷◌, ◌++◌, append_assoc, Option, Some, None, option_map}
use Rattle.cx_base.proofs.Common.{option_and_then, refl, sym, ap, ◌∙◌, list_any, append-nil, same_role}
use Rattle.cx_base.specs.declared.role.RoleId.{RoleId}
use Rattle.compax.specs.Roles.{all_roles, role_of, stand_once}

-- these roles, and those that are named after them
abbrev pub onto : List RoleId → Option (List RoleId) → Option (List RoleId)
onto done more = option_map (λ roles. done ++ roles) more

pub onto_nothing : (more : Option (List RoleId)) → onto [] more ≡ more
onto_nothing None = refl
onto_nothing (Some roles) = refl

onto_one : (done : List RoleId) (me : RoleId) (more : Option (List RoleId))
    → onto (done ++ me ∷ []) more ≡ onto done (option_map (λ roles. me ∷ roles) more)
onto_one done me None = refl
onto_one done me (Some roles) = ap Some (append_assoc done (me ∷ []) roles)

-- a word more
pub names_one : (done : List RoleId) (word : List ℕ) (words : List (List ℕ)) (me : RoleId) → role_of word ≡ Some me
    → onto (done ++ me ∷ []) (all_roles words) ≡ onto done (all_roles (word ∷ words))
names_one done word words me is = onto_one done me (all_roles words)
    ∙ ap (λ (o : Option RoleId). onto done (option_and_then (λ r. option_map (λ roles. r ∷ roles) (all_roles words)) o)) (sym is)

-- a word that names none
pub names_none : (done : List RoleId) (word : List ℕ) (words : List (List ℕ)) → role_of word ≡ None
    → onto done (all_roles (word ∷ words)) ≡ None
names_none done word words is =
    ap (λ (o : Option RoleId). onto done (option_and_then (λ r. option_map (λ roles. r ∷ roles) (all_roles words)) o)) is

pub names_all : (done : List RoleId) → onto done (all_roles []) ≡ Some done
names_all done = ap Some (append-nil done)

-- a role that stands again after its place, and one that doesn't
pub stands_again : (me : RoleId) (roles : List RoleId) → list_any (same_role me) roles ≡ true → stand_once (me ∷ roles) ≡ false
stands_again me roles again = ap (λ (b : Bool). not b && stand_once roles) again

pub stands_here : (me : RoleId) (roles : List RoleId) → list_any (same_role me) roles ≡ false → stand_once (me ∷ roles) ≡ stand_once roles
stands_here me roles other = ap (λ (b : Bool). not b && stand_once roles) other
