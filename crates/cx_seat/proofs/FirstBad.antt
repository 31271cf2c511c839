-- The first role whose store is none of its own: opening stops at it, and it is one role, bad at one place.
use Rattle.cx_journal.proofs.Common.{front_in, Image, frames, payloads}
use Rattle.cx_role.proofs.Common.{◌≡◌, ◌⊎◌, ◌<◌, ◌≤◌, ◌++◌, ℕ, arith, true, List, length, take, get_or, Option, None, Some, Bool, Ok, Err}
use Rattle.cx_role.proofs.Common.{sym, ap, ◌∙◌, subst, inl, inr, slice_get, same_Some, slice_get_cases, Cluster, Event, Kind, Client}
use Rattle.cx_role.proofs.Common.{Batcher, Proxy, Unbatcher, RoleId, Record}
use Rattle.cx_seat.specs.Prelude.{ClientOptions, Files, RecordStore, AreOpened, IsBadAs, IsFirstBad}
use Rattle.cx_inv_open.specs.Reopened.{refused_as}
use Rattle.cx_seat.specs.declared.guest.Guest.{Guest}
use Rattle.cx_seat.proofs.OpenedRoles.{IsBadFor, good_opened}

-- ---- one place

ok_is_err : {A : Type 0} (records : List Record) (at : ℕ) → ◌≡◌ {A = Image} (Ok records) (Err at) → A
ok_is_err records at e = cc

same_place : (a b : ℕ) → ◌≡◌ {A = Image} (Err a) (Err b) → a ≡ b
same_place a b e = cc

same_records : (rs ts : List Record) → ◌≡◌ {A = Image} (Ok rs) (Ok ts) → rs ≡ ts
same_records rs ts e = cc

bad_once : (refuses : List Record → Option ℕ) (me : RoleId) (files : Files) (a b : ℕ)
    → IsBadFor refuses me files a → IsBadFor refuses me files b → a ≡ b
bad_once refuses me files a b (inl p) (inl q) = same_place a b (sym p ∙ q)
bad_once refuses me files a b (inl p) (inr q) = ok_is_err q.0 a (sym q.1 ∙ p)
bad_once refuses me files a b (inr p) (inl q) = ok_is_err p.0 b (sym p.1 ∙ q)
bad_once refuses me files a b (inr p) (inr q) =
    let records : p.0 ≡ q.0 = same_records p.0 q.0 (sym p.1 ∙ q.1) in
    let index : p.2 ≡ q.2 = same_Some p.2 q.2 (sym p.3 ∙ ap refuses records ∙ q.3) in
    p.4 ∙ ap (λ (rs : List Record). length (front_in files ++ frames (payloads (take p.2 rs)))) records
    ∙ ap (λ (i : ℕ). length (front_in files ++ frames (payloads (take i q.0)))) index ∙ sym q.4

bad_as_once : (c : Cluster) (me : RoleId) (files : Files) (a b : ℕ) (k : Kind) → IsBadAs c me files a k
    → IsBadAs c me files b k → a ≡ b
bad_as_once c me files a b Client p q = absurd p
bad_as_once c me files a b Batcher p q = absurd p
bad_as_once c me files a b Proxy p q = absurd p
bad_as_once c me files a b Unbatcher p q = absurd p
bad_as_once c me files a b other p q = bad_once (λ records. refused_as c me records other) me files a b p q

-- ---- one role

by_order : (m n : ℕ) → (m < n) ⊎ ((m ≡ n) ⊎ (n < m))
by_order m n = grind arith

pub one_first : (roles : List RoleId) (c : Cluster) (stored : RoleId → Files) (role other : RoleId) (a b : ℕ)
    → IsFirstBad roles c stored role a → IsFirstBad roles c stored other b → (role ≡ other) × (a ≡ b)
one_first roles c stored role other a b one two = go (by_order one.place two.place)
  where
    go : (one.place < two.place) ⊎ ((one.place ≡ two.place) ⊎ (two.place < one.place)) → (role ≡ other) × (a ≡ b)
    go (inl before) = absurd (two.first one.place role a before one.here one.bad)
    go (inr (inr behind)) = absurd (one.first two.place other b behind two.here two.bad)
    go (inr (inl place)) =
        let same : role ≡ other = same_Some role other (sym one.here ∙ ap (slice_get roles) place ∙ two.here) in (
          same,
          bad_as_once c other (stored other) a b other.kind
              (subst (λ (r : RoleId). IsBadAs c r (stored r) a r.kind) same one.bad) two.bad,
        )

-- ---- where opening stops

-- Behind roles that were opened, one whose store is none of its own is the first.
pub first_bad : {S : Type 0} (seen : S → Option (List ℕ)) (disk_faults : S → ℕ) (c : Cluster) (options : ClientOptions)
    (events : List Event) (tells : Bool) (stored : RoleId → Files) (roles : List RoleId)
    (guests : List (Guest (RecordStore S)))
    → AreOpened seen disk_faults c options events tells stored roles guests → tells ≡ true → (role : RoleId) (at : ℕ)
    → slice_get roles (length guests) ≡ Some role → IsBadAs c role (stored role) at role.kind
    → IsFirstBad roles c stored role at
first_bad {S} seen disk_faults c options events tells stored roles guests all t role at next bad = record {
  place = length guests;
  here = next;
  bad = bad;
  first = λ i other fault before there is. own i other fault before there is (slice_get_cases guests i).1;
}
  where
    own : (i : ℕ) (other : RoleId) (fault : ℕ) → i < length guests → slice_get roles i ≡ Some other
        → IsBadAs c other (stored other) fault other.kind
        → ((g : Guest (RecordStore S)) × (i < length guests) × (slice_get guests i ≡ Some g)
        × (get_or guests i g ≡ g)) ⊎ ((length guests ≤ i) × (slice_get guests i ≡ None)) → ⊥
    own i other fault before there is (inl g) =
        let o = all i g.0 g.2 in
        good_opened seen disk_faults c options events tells stored o.0 g.0 fault o.2 t
        (subst (λ (r : RoleId). IsBadAs c r (stored r) fault r.kind) (same_Some other o.0 (sym there ∙ o.1)) is)
    own i other fault before there is (inr past) = absurd (omega (arith, before, past.0))
