-- Changes of stores beside the roles whose they are.
use Rattle.byteorder.specs.Endian.{big_bytes, big_number}
use Rattle.byteorder.specs.Numbers.{big_number-reads_back, length-bytes_high_first}
use Rattle.cx_base.proofs.Common.{◌∙◌, ap, sym, append-nil, arith, length-map, map-append}
use Rattle.cx_model.specs.Prelude.{◌≡◌, ◌<◌, ◌^◌, ℕ, zero, suc, true, false, List, [], ◌∷◌, ◌++◌, Some, Ok, All, length, slice_get, get_or}
use Rattle.cx_model.specs.Prelude.{refl, RoleId, Record, KeptRecord, Written}
use Rattle.cx_wire.specs.Format.{u8}
use Rattle.cx_letter.specs.Records.{kept_record}
use Rattle.cx_msg.specs.RecordBytes.{spelling}
use Rattle.cx_letter.specs.declared.kept.Record.TheVariants as kept
use Rattle.cx_letter.specs.declared.input.Written.TheVariants as written
use Rattle.cx_msg.proofs.RecordLaws.{recorded-again}
use Rattle.cx_keeper.specs.Pieces.{record_or}
use Rattle.cx_history.specs.Kept.{IsChangePiece, AreKeptPieces, change_fits, change_in, changes_in, holds_slot, HasU64Slot, kept_with_roles}
use Rattle.cx_history.specs.Kept.{piece_of, slot_in}
use Rattle.cx_history.proofs.Steps.{All-push}

pub length-kept : (roles : List RoleId) (changes : List Written) → length roles ≡ length changes
    → length (kept_with_roles roles changes) ≡ length roles
length-kept [] records h = refl
length-kept (role ∷ roles) [] h = absurd (omega arith)
length-kept (role ∷ roles) (what ∷ changes) h = ap suc (length-kept roles changes (omega (arith, h)))

pub one_kept : (roles : List RoleId) (changes : List Written) (n : ℕ) (role : RoleId) (what : Written) → slice_get roles n ≡ Some role
    → slice_get changes n ≡ Some what → slice_get (kept_with_roles roles changes) n ≡ Some (record { role = role; what = what })
one_kept [] records n role what h k = cc
one_kept (r ∷ roles) [] n role what h k = cc
one_kept (r ∷ roles) (w ∷ changes) zero role what h k = let same : r ≡ role = cc in let also : w ≡ what = cc in rw (same, also) refl
one_kept (r ∷ roles) (w ∷ changes) (suc n) role what h k = one_kept roles changes n role what h k

pub kept_more : (roles : List RoleId) (changes : List Written) (role : RoleId) (what : Written) → length roles ≡ length changes
    → kept_with_roles (roles ++ role ∷ []) (changes ++ what ∷ [])
    ≡ kept_with_roles roles changes ++ record { role = role; what = what } ∷ []
kept_more [] [] role what h = refl
kept_more [] (w ∷ changes) role what h = absurd (omega arith)
kept_more (r ∷ roles) [] role what h = absurd (omega arith)
kept_more (r ∷ roles) (w ∷ changes) role what h =
    ap (λ (l : List KeptRecord). record { role = r; what = w } ∷ l) (kept_more roles changes role what (omega (arith, h)))

-- an element within a list
pub is_within : {A : Type 0} (xs : List A) (n : ℕ) (x : A) → n < length xs → x ≡ get_or xs n x → slice_get xs n ≡ Some x
is_within [] n x l e = absurd (omega (arith, l))
is_within (y ∷ xs) zero x l e = ap Some (sym e)
is_within (y ∷ xs) (suc n) x l e = is_within xs n x (omega (arith, l)) e

-- ---- changes as bytes

-- a record's tag isn't 0
tag_first : (r : Record) → holds_slot (spelling r) ≡ false
unfolding kept_record u8
tag_first (kept.Promise r) = refl
tag_first (kept.Vote r s cw v) = refl
tag_first (kept.Water r n) = refl
tag_first (kept.Match r g) = refl
tag_first (kept.Garbage r g) = refl
tag_first (kept.Round r g) = refl
tag_first (kept.Log vs) = refl
tag_first (kept.Base f h p c) = refl
tag_first (kept.Pairs ps) = refl
tag_first (kept.Notes c f ns) = refl
tag_first (kept.Tail vs) = refl
tag_first (kept.Ballot b) = refl
tag_first (kept.Stop b) = refl
tag_first (kept.Next b s) = refl
tag_first (kept.Boot s w es) = refl
tag_first (kept.Turn n) = refl
tag_first (kept.Voted p top cw vs) = refl
tag_first (kept.Known s) = refl

slot_again : (first : ℕ) → first < 256 ^ 8 → slot_in (0 ∷ big_bytes 8 first) ≡ first
slot_again first small = ap (λ l. big_number 8 l) (sym (append-nil (big_bytes 8 first))) ∙ big_number-reads_back 8 first [] small

change_again : (what : Written) → change_fits what ≡ true → HasU64Slot what → change_in (piece_of what) ≡ what
change_again (written.Record r) fit small = rw (tag_first r) (ap (λ x. written.Record (record_or x)) (recorded-again r fit))
change_again (written.Snap first) fit small = ap (λ n. written.Snap n) (slot_again first small)

is_change : (what : Written) → change_fits what ≡ true → IsChangePiece (piece_of what)
is_change (written.Record r) fit =
    let again = recorded-again r fit in
    rw (tag_first r) (again ∙ ap Ok (sym (ap record_or again)))
is_change (written.Snap first) fit = let long = length-bytes_high_first 8 first in omega (arith, long)

pub changes_more : (what : Written) (pieces : List (List ℕ)) → change_fits what ≡ true → HasU64Slot what
    → changes_in (pieces ++ piece_of what ∷ []) ≡ changes_in pieces ++ what ∷ []
changes_more what pieces fit small = map-append (λ (p : List ℕ). change_in p) pieces (piece_of what ∷ [])
    ∙ ap (λ x. changes_in pieces ++ x ∷ []) (change_again what fit small)

pub are_changes_more : (what : Written) (pieces : List (List ℕ)) → change_fits what ≡ true → All IsChangePiece pieces
    → All IsChangePiece (pieces ++ piece_of what ∷ [])
are_changes_more what pieces fit all = All-push IsChangePiece pieces (piece_of what) all (is_change what fit)

-- as many changes as roles and as pieces
pub counts : (roles : List RoleId) (pieces : List (List ℕ)) → AreKeptPieces roles pieces
    → length (kept_with_roles roles (changes_in pieces)) ≡ length pieces
counts roles pieces h =
    let long : length (changes_in pieces) ≡ length pieces = length-map pieces (λ (p : List ℕ). change_in p) in
    length-kept roles (changes_in pieces) (h.same_count ∙ sym long) ∙ h.same_count
