-- What a store has for a role of a kind, it has for any kind.
use Rattle.cx_journal.proofs.Common.{◌≡◌, ℕ, zero, suc, ◌+◌, ◌==◌, ◌||◌, nat_lt, Bool, true, false, List, [], ◌∷◌, length, take, drop}
use Rattle.cx_journal.proofs.Common.{Option, None, Some, Result, Ok, Err, refl, sym, ap, ◌∙◌, inl, inr, if◌then◌else◌, slice_index}
use Rattle.cx_journal.proofs.Common.{cases_Bool, Kind, Record, may_keep, payload_read, Image, image, framed, with_first, image_with_record}
use Rattle.cx_journal.proofs.Common.{records_or_none, TwoFiles, generation, second_is_live, live_of, image_chosen}
use Rattle.cx_journal.specs.Payload.{part_break}
use Rattle.cx_journal.specs.Image.{image_at, sized}
use Rattle.cx_journal.specs.Files.{Files, OneFile, files_image, files_records}
use Rattle.cx_journal.specs.Twin.{image_in}
use Rattle.cx_journal.proofs.Payloads.{read_so, refused}

-- what the first has as its records, the second has too
abbrev IsAlso : Image → Image → Type 0
IsAlso i j = (rs : List Record) → i ≡ Ok rs → j ≡ Ok rs

record_also : (r : Record) (i j : Image) → IsAlso i j → IsAlso (image_with_record r i) (image_with_record r j)
record_also r (Ok one) j also rs e = ap (image_with_record r) (also one refl) ∙ e
record_also r (Err break) j also rs e = cc

first_also : (at : ℕ) (p q : Result Record ℕ) (i j : Image) → ((r : Record) → p ≡ Ok r → q ≡ Ok r) → IsAlso i j
    → IsAlso (with_first at p i) (with_first at q j)
first_also at (Ok r) q i j same also rs e = ap (λ x. with_first at x j) (same r refl) ∙ record_also r i j also rs e
first_also at (Err place) q i j same also rs e = cc

if_also : (b : Bool) (i j k l : Image) → IsAlso i j → IsAlso k l → IsAlso (if b then i else k) (if b then j else l)
if_also true i j k l p q = p
if_also false i j k l p q = q

payload_also : (k : Kind) (payload : List ℕ) (r : Record) → payload_read (Some k) payload ≡ Ok r
    → payload_read None payload ≡ Ok r
payload_also k payload r read = elim (cases_Bool (may_keep (Some k) (slice_index payload 0))) [
  | inl may ↦ read_so None payload refl ∙ sym (read_so (Some k) payload may) ∙ read
  | inr never ↦ none (sym (refused (Some k) payload never) ∙ read)
]
  where
    none : ◌≡◌ {A = Result Record ℕ} (Err 0) (Ok r) → payload_read None payload ≡ Ok r
    none e = cc

broken_also : (p q : ℕ) → IsAlso (Err p) (Err q)
broken_also p q rs e = cc

sized_also : (k : Kind) (at : ℕ) (bytes : List ℕ) (n : ℕ) (f g : ℕ → List ℕ → Image)
    → ((a : ℕ) (b : List ℕ) → IsAlso (f a b) (g a b)) → IsAlso (sized (Some k) at bytes n f) (sized None at bytes n g)
sized_also k at bytes n f g also =
    if_also (n == 0 || nat_lt 32768 n) _ _ _ _ (λ rs e. e)
    (if_also (nat_lt (length bytes) (4 + n)) _ _ _ _
    (broken_also (at + 4 + part_break (Some k) n (drop 4 bytes)) (at + 4 + part_break None n (drop 4 bytes)))
    (first_also (at + 4) (payload_read (Some k) (take n (drop 4 bytes))) (payload_read None (take n (drop 4 bytes)))
    (f (at + (4 + n)) (drop (4 + n) bytes)) (g (at + (4 + n)) (drop (4 + n) bytes))
    (payload_also k (take n (drop 4 bytes))) (also (at + (4 + n)) (drop (4 + n) bytes))))

framed_also : (k : Kind) (at : ℕ) (bytes : List ℕ) (f g : ℕ → List ℕ → Image)
    → ((a : ℕ) (b : List ℕ) → IsAlso (f a b) (g a b)) → IsAlso (framed (Some k) at bytes f) (framed None at bytes g)
framed_also k at bytes f g also rs = elim (cases_Bool (nat_lt (length bytes) 4)) [
  | inl short ↦ rw short (λ e. e)
  | inr long ↦ rw long (λ e. search (e, sized_also k at bytes, also))
]

image_at_also : (k : Kind) (n at : ℕ) (bytes : List ℕ)
    → IsAlso (image_at (Some k) n at bytes) (image_at None n at bytes)
unfolding image_at
image_at_also k zero at bytes rs e = e
image_at_also k (suc n) at [] rs e = e
image_at_also k (suc n) at (gate ∷ rest) rs e =
    if_also (gate == 1) (framed (Some k) (at + 1) rest (image_at (Some k) n))
    (framed None (at + 1) rest (image_at None n)) (Ok []) (Ok [])
    (framed_also k (at + 1) rest (image_at (Some k) n) (image_at None n) (λ a b. image_at_also k n a b))
    (λ rs e. e) rs e

image_also : (k : Kind) (file : List ℕ) → IsAlso (image (Some k) file) (image None file)
image_also k file =
    if_also (nat_lt 1 (length file)) (image_at (Some k) (length file) 0 file)
    (image_at None (length file) 0 file) (Ok []) (Ok [])
    (image_at_also k (length file) 0 file) (λ rs e. e)

in_also : (k : Kind) (g : Option ℕ) (file : List ℕ) → IsAlso (image_in (Some k) g file) (image_in None g file)
in_also k None file rs e = image_also k file rs e
in_also k (Some g) file rs e = image_at_also k (length file) 2 (drop 2 file) rs e

chosen_also : (k : Kind) (a b : List ℕ) (choice : Result Bool ℕ)
    → IsAlso (image_chosen (Some k) a b choice) (image_chosen None a b choice)
chosen_also k a b (Err byte) rs e = e
chosen_also k a b (Ok second) rs e = in_also k (generation (live_of second a b)) (live_of second a b) rs e

files_also : (k : Kind) (files : Files) → IsAlso (files_image (Some k) files) (files_image None files)
files_also k (OneFile file) rs e = image_also k file rs e
files_also k (TwoFiles a b) rs e = chosen_also k a b (second_is_live (generation a) (generation b)) rs e

-- what is read of a role's store is what it holds
pub told_any : (k : Kind) (files : Files) (rs : List Record) → files_image (Some k) files ≡ Ok rs
    → files_records (Some files) ≡ rs
told_any k files rs read = ap records_or_none (files_also k files rs read)
