-- The list in each store after a step: that of the model, and what the changes that a node made leave.
use Rattle.cx_role.proofs.Common.{◌≡◌, Bool, true, false, List, [], ◌∷◌, ◌++◌, Option, None, Some, option_map, ap, sym, ◌∙◌, subst, refl}
use Rattle.cx_role.proofs.Common.{append-nil, if◌then◌else◌, slice_get, Kind, RoleId, same_role, KeeperChange, list_after, list_other}
use Rattle.cx_role.proofs.Common.{list_own, same_role-itself, replica_rules, kept_by, KeptRecord, Written, Record}
use Rattle.cx_base.specs.declared.role.Kind.TheVariants as kind
use Rattle.cx_inv_open.specs.Reopened.{stored_as}
use Rattle.cx_letter.specs.declared.input.Written.TheVariants as written
use Rattle.cx_course.specs.Changing.{StoreChange, change_for, changed_by, changes_of, lists_after}
use Rattle.cx_course.proofs.Roles.{MayWrite, stored_by}

-- ---- changes, some after others

if_append : (b : Bool) (x : KeeperChange) (all rest more : List KeeperChange) → all ≡ rest ++ more
    → (if b then x ∷ all else all) ≡ (if b then x ∷ rest else rest) ++ more
if_append true x all rest more e = ap (λ l. x ∷ l) e
if_append false x all rest more e = e

changes_append : (me : RoleId) (ks ls : List StoreChange) → changes_of me (ks ++ ls) ≡ changes_of me ks ++ changes_of me ls
changes_append me [] ls = refl
changes_append me (k ∷ ks) ls =
    if_append (same_role me k.role) k.change (changes_of me (ks ++ ls)) (changes_of me ks) (changes_of me ls) (changes_append me ks ls)

lists_append : (list : List Record) (xs ys : List KeeperChange) → lists_after list (xs ++ ys) ≡ lists_after (lists_after list xs) ys
lists_append list [] ys = refl
lists_append list (x ∷ xs) ys = lists_append (list_after list x) xs ys

pub lists_then : (me : RoleId) (ks ls : List StoreChange)
    → lists_after [] (changes_of me (ks ++ ls)) ≡ lists_after (lists_after [] (changes_of me ks)) (changes_of me ls)
lists_then me ks ls = ap (lists_after []) (changes_append me ks ls) ∙ lists_append [] (changes_of me ks) (changes_of me ls)

-- ---- the role's own store

-- the list is changed as the history then says
abbrev pub Own : RoleId → List KeptRecord → Written → Kind → Type 0
Own me kept y k = stored_as me (kept ++ kept_by me (Some y)) k ≡ list_after (stored_as me kept k) (change_for (stored_as me kept k) y)

own_record : (me : RoleId) (kept : List KeptRecord) (r : Record) (k : Kind) → (k ≡ kind.Client → ⊥) → Own me kept (written.Record r) k
own_record me kept r k other =
    stored_by (λ list. list (kept ++ kept_by me (Some (written.Record r))) ≡ list kept ++ r ∷ []) me k (λ client. absurd (other client))
    (λ D V rules. list_own rules me kept (Some (written.Record r)))

pub own_written : (me : RoleId) (kept : List KeptRecord) (y : Written) (k : Kind) → MayWrite k (Some y) → Own me kept y k
own_written me kept (written.Record r) k may = own_record me kept r k may
own_written me kept (written.Snap first) k may =
    subst (Own me kept (written.Snap first)) (sym may) (list_own replica_rules me kept (Some (written.Snap first)))

-- the changes of a role's store among its own
own_changes : (me : RoleId) (x : KeeperChange) → changes_of me (changed_by me (Some x)) ≡ x ∷ []
own_changes me x = ap (λ (b : Bool). if b then x ∷ [] else []) (same_role-itself me)

-- and the first of them
pub first_change : (me : RoleId) (o : Option KeeperChange) → slice_get (changes_of me (changed_by me o)) 0 ≡ o
first_change me None = refl
first_change me (Some x) = ap (λ xs. slice_get xs 0) (own_changes me x)

pub own_store : (me : RoleId) (kept : List KeptRecord) (o : Option Written) (k : Kind) → MayWrite k o → stored_as me (kept ++ kept_by me o)
    k ≡ lists_after (stored_as me kept k) (changes_of me (changed_by me (option_map (change_for (stored_as me kept k)) o)))
own_store me kept None k may = ap (λ l. stored_as me l k) (append-nil kept)
own_store me kept (Some y) k may =
    own_written me kept y k may ∙ sym (ap (lists_after (stored_as me kept k)) (own_changes me (change_for (stored_as me kept k) y)))

-- ---- another role's store

pub other_store : (me who : RoleId) (kept : List KeptRecord) (o : Option Written) (k : Kind) → same_role me who ≡ false
    → stored_as me (kept ++ kept_by who o) k ≡ stored_as me kept k
other_store me who kept o k e =
    stored_by (λ list. list (kept ++ kept_by who o) ≡ list kept) me k (λ client. refl)
    (λ D V rules. list_other rules me who kept o e)

pub other_changes : (me who : RoleId) (o : Option KeeperChange) → same_role me who ≡ false → changes_of me (changed_by who o) ≡ []
other_changes me who None e = refl
other_changes me who (Some x) e = ap (λ (b : Bool). if b then x ∷ [] else []) e
