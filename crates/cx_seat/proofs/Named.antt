-- A hosted role under its own name is itself.
use Rattle.cx_role.proofs.Common.{◌≡◌, IsTrue, ap, sym, ◌∙◌, refl, subst, RoleId}
use Rattle.cx_seat.specs.Prelude.{hosted_of, keeper_of, who, is_live_role}
use Rattle.cx_seat.specs.declared.guest.Guest.{Guest}
use Rattle.cx_seat.specs.declared.guest.Guest.TheVariants as guest
use Rattle.cx_seat.specs.Seat.{IsNamed, named}

own_named : {K : Type 0} (h : Guest K) → named (who h) h ≡ h
own_named (guest.Client role) = refl
own_named other = refl

pub named_itself : {K : Type 0} (me : RoleId) (h : Guest K) → me ≡ who h → named me h ≡ h
named_itself me h is = ap (λ m. named m h) is ∙ own_named h

pub keeper_named : {K : Type 0} (me : RoleId) (h : Guest K) → keeper_of (named me h) ≡ keeper_of h
keeper_named me (guest.Client role) = refl
keeper_named me other = refl

live_named : {K : Type 0} (me : RoleId) (h : Guest K) → is_live_role (hosted_of (named me h)) ≡ is_live_role (hosted_of h)
live_named me (guest.Client role) = refl
live_named me other = refl

-- a seat's role that may take a step has the seat's name, and is what the seat shows
pub own_name : {K : Type 0} (me : RoleId) (h self : Guest K) → IsNamed me h → named me h ≡ self
    → IsTrue (is_live_role (hosted_of self)) → me ≡ who h
own_name me h self is view live =
    is (subst (λ b. IsTrue b) (live_named me h) (subst (λ (s : Guest _). IsTrue (is_live_role (hosted_of s)))
    (sym view) live))

pub is_shown : {K : Type 0} (me : RoleId) (h self : Guest K) → me ≡ who h → named me h ≡ self → h ≡ self
is_shown me h self own view = sym (named_itself me h own) ∙ view
