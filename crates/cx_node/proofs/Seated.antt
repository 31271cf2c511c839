-- What a role at its place does, seen of all roles: the others stay as they are, since no two have one name.
use Rattle.cx_role.proofs.Common.{append-nil, refl, sym, ap, ◌∙◌, take, Option, None, Some, slice_get, ◌≡◌, ℕ, false, List, [], ◌++◌, map}
use Rattle.cx_role.proofs.Common.{take-map, same_role, RoleId, Letter, KeeperChange, Renewal, Record}
use Rattle.cx_seat.specs.Prelude.{Doing, Begin, Give, Snap, Action, Kept, Printed, step_actions, StoreChange, changes_of, Changing}
use Rattle.cx_seat.specs.Prelude.{HasChangeFailedIn, Hosted, kind_at, name_of}
use Rattle.cx_base.specs.declared.role.Kind.TheVariants as kind
use Rattle.cx_letter.specs.declared.input.Input.TheVariants as input
use Rattle.cx_course.specs.Action.{Sent}
use Rattle.cx_course.specs.Changing.{changed_by}
use Rattle.cx_course.specs.Hosted.{ClientAt, does}
use Rattle.cx_course.proofs.Roles.{does_change}
use Rattle.cx_course.proofs.Stores.{first_change, other_changes}
use Rattle.cx_node.proofs.Grown.{before, behind}

-- what a role changes is its own store
pub kept_own : (h : Hosted) (what : Doing) (me : RoleId) → same_role me (name_of h) ≡ false
    → changes_of me (does h what).kept ≡ []
kept_own h what me e =
    let own = does_change h what in
    ap (changes_of me) own.is ∙ other_changes me (name_of h) own.change e

-- its first change is all that it changes
first_so : (h : Hosted) (what : Doing) (r : KeeperChange) → slice_get (changes_of (name_of h) (does h what).kept) 0 ≡ Some r
    → (does_change h what).change ≡ Some r
first_so h what r e =
    let own = does_change h what in
    sym (ap (λ ks. slice_get (changes_of (name_of h) ks) 0) own.is ∙ first_change (name_of h) own.change) ∙ e

pub kept_first : (h : Hosted) (what : Doing) (r : KeeperChange) (more : List Action)
    → slice_get (changes_of (name_of h) (does h what).kept) 0 ≡ Some r
    → slice_get (map Kept (does h what).kept ++ more) 0 ≡ Some (Kept (record { role = name_of h; change = r }))
kept_first h what r more e =
    ap (λ ks. slice_get (map Kept ks ++ more) 0) ((does_change h what).is ∙ ap (changed_by (name_of h)) (first_so h what r e))

-- what a role does leaves it of its kind
pub kind_stays : (h : Hosted) (what : Doing) → kind_at (does h what).next ≡ kind_at h
unfolding does
kind_stays (ClientAt s) (Give n (input.Take d)) = refl
kind_stays (ClientAt s) (Give n input.Tick) = refl
kind_stays (ClientAt s) (Give n (input.Order order)) = refl
kind_stays (ClientAt s) Begin = refl
kind_stays (ClientAt s) Snap = refl
kind_stays other Begin = refl
kind_stays other (Give n i) = refl
kind_stays other Snap = refl

-- only a replica puts its list anew
pub renewed_by : (h : Hosted) (what : Doing) (records : List Record)
    → slice_get (changes_of (name_of h) (does h what).kept) 0 ≡ Some (Renewal records) → kind_at h ≡ kind.Replica
renewed_by h what records e = (does_change h what).renewal records (first_so h what (Renewal records) e)

-- what failed was some change
pub fails_some : {K : Type 0} (gives : Changing K) (o : Option KeeperChange) (a b : Option K) → HasChangeFailedIn gives o a b
    → (r : KeeperChange) × (o ≡ Some r) × HasChangeFailedIn gives (Some r) a b
fails_some gives None None b f = absurd f
fails_some gives None (Some a) None f = absurd f
fails_some gives None (Some a) (Some b) f = absurd f
fails_some gives (Some r) a b f = (r, refl, f)

-- where the actions of a step end that are done before it stops between its datagrams, or within its text
pub cut_sends : (ks : List StoreChange) (ls : List Letter) (bs : List ℕ) (ns : List Action) (n : ℕ) → (k : ℕ)
    × (take k (step_actions ks ls bs ns) ≡ step_actions ks (take n ls) [] [])
cut_sends ks ls bs ns n =
    let j = before (map Sent ls) (map Printed bs ++ ns) n in
    let k = behind (map Kept ks) (map Sent ls ++ (map Printed bs ++ ns)) j.0 in
    (k.0, k.1 ∙ ap (λ xs. map Kept ks ++ xs) (j.1 ∙ take-map Sent n ls ∙ sym (append-nil (map Sent (take n ls)))))

pub cut_text : (ks : List StoreChange) (ls : List Letter) (bs : List ℕ) (ns : List Action) (n : ℕ) → (k : ℕ)
    × (take k (step_actions ks ls bs ns) ≡ step_actions ks ls (take n bs) [])
cut_text ks ls bs ns n =
    let i = before (map Printed bs) ns n in
    let j = behind (map Sent ls) (map Printed bs ++ ns) i.0 in
    let k = behind (map Kept ks) (map Sent ls ++ (map Printed bs ++ ns)) j.0 in (
      k.0,
      k.1 ∙ ap (λ xs. map Kept ks ++ xs) (j.1
          ∙ ap (λ xs. map Sent ls ++ xs) (i.1 ∙ take-map Printed n bs ∙ sym (append-nil (map Printed (take n bs))))),
    )
