-- The last datagram with some bytes, among those that were sent.
use Rattle.std.specs.Global.{Global}
use Rattle.cx_base.proofs.Common.{◌≡◌, ◌+◌, ◌∙◌, ℕ, zero, suc, true, false, List, [], ◌∷◌, ◌++◌, Vec, Option, Some, None, if◌then◌else◌}
use Rattle.cx_base.proofs.Common.{length, slice_get, option_map, bytes_eq, ap, sym, refl, inl, inr, arith, add-zero, cases_Bool}
use Rattle.cx_letter.specs.Letter.{Letter}
use Rattle.cx_msg.specs.Datagrams.{spelling}
use Rattle.cx_record.specs.Numbers.{Numbered, last_from, last_sent, numbered, or_else}
use Rattle.cx_record.specs.Table.{AreNumbers, datagram_number}

-- one datagram more
last_more : (n : ℕ) (bytes : List ℕ) (ds : List Letter) (d : Letter)
    → last_from n bytes (ds ++ d ∷ []) ≡ (if bytes_eq (spelling d) bytes then Some (numbered (n + length ds) d) else last_from n bytes ds)
last_more n bytes [] d = rw (add-zero n) refl
last_more n bytes (x ∷ ds) d =
    let more : n + 1 + length ds ≡ n + length (x ∷ ds) = omega arith in
    rw (last_more (n + 1) bytes ds d, more) (elim (bytes_eq (spelling d) bytes) as
    (λ b. or_else (if b then Some (numbered (n + length (x ∷ ds)) d) else last_from (n + 1) bytes ds)
    (if bytes_eq (spelling x) bytes then Some (numbered n x) else None)
    ≡ (if b then Some (numbered (n + length (x ∷ ds)) d)
    else or_else (last_from (n + 1) bytes ds) (if bytes_eq (spelling x) bytes then Some (numbered n x) else None))) [
      | true ↦ refl
      | false ↦ refl
    ])

-- what is found was sent under its number, n less where the first one has number n
abbrev IsThere : ℕ → Numbered → List Letter → Type 0
IsThere n found ds = (place : ℕ) × (found.number ≡ n + place) × (slice_get ds place ≡ Some found.letter)

-- it is among the later ones, or it is the first one
first_or_later : (n : ℕ) (bytes : List ℕ) (d : Letter) (ds : List Letter) (later : Option Numbered) (found : Numbered)
    → ((x : Numbered) → later ≡ Some x → IsThere (n + 1) x ds)
    → or_else later (if bytes_eq (spelling d) bytes then Some (numbered n d) else None) ≡ Some found → IsThere n found (d ∷ ds)
first_or_later n bytes d ds (Some x) found rest e =
    let there = rest found e in
    (suc there.0, omega (arith, there.1), there.2)
first_or_later n bytes d ds None found rest e =
    elim (cases_Bool (bytes_eq (spelling d) bytes)) [
      | inl same ↦
          let first : Some (numbered n d) ≡ Some found = rw same at e in
          let is : numbered n d ≡ found = cc in
          (zero, rw (← is, add-zero n) refl, rw (← is) refl)
      | inr other ↦ absurd (let none : None ≡ Some found = rw other at e in cc)
    ]

is_there : (n : ℕ) (bytes : List ℕ) (ds : List Letter) (found : Numbered) → last_from n bytes ds ≡ Some found → IsThere n found ds
is_there n bytes [] found e = cc
is_there n bytes (d ∷ ds) found e =
    first_or_later n bytes d ds (last_from (n + 1) bytes ds) found (λ x here. is_there (n + 1) bytes ds x here) e

-- ---- by the table

pub are_none : AreNumbers [] []
unfolding last_sent
are_none bytes = refl

-- the numbers once one datagram more was sent, under the next number
pub one_more : (old new : List (Vec ℕ Global × ℕ)) (sent : List Letter) (d : Letter) → AreNumbers old sent
    → ((bytes : List ℕ) → datagram_number bytes new
    ≡ (if bytes_eq (spelling d) bytes then Some (length sent) else datagram_number bytes old)) → AreNumbers new (sent ++ d ∷ [])
unfolding last_sent
one_more old new sent d are puts bytes =
    let count : 0 + length sent ≡ length sent = omega arith in
    puts bytes ∙ rw (are bytes, last_more 0 bytes sent d, count) (elim (bytes_eq (spelling d) bytes) as
    (λ b. (if b then Some (length sent) else option_map (λ (found : Numbered). found.number) (last_from 0 bytes sent))
    ≡ option_map (λ (found : Numbered). found.number) (if b then Some (numbered (length sent) d) else last_from 0 bytes sent)) [
      | true ↦ refl
      | false ↦ refl
    ])

-- the datagram of a number that is in the table is the last one with its bytes
pub record IsLast (bytes : List ℕ) (number : ℕ) (sent : List Letter) : Type 0 where
  pub letter : Letter
  pub last : last_sent bytes sent ≡ Some (numbered number letter)
  pub stands : slice_get sent number ≡ Some letter

in_table : (bytes : List ℕ) (number : ℕ) (sent : List Letter) (found : Option Numbered) → last_sent bytes sent ≡ found
    → option_map (λ (x : Numbered). x.number) found ≡ Some number → IsLast bytes number sent
unfolding last_sent
in_table bytes number sent None is e = cc
in_table bytes number sent (Some x) is e =
    let there = is_there 0 bytes sent x is in
    let same : x.number ≡ number = cc in
    let place : there.0 ≡ number = omega (arith, there.1, same) in
    record {
      letter = x.letter;
      last = is ∙ ap (λ n. Some (numbered n x.letter)) same;
      stands = rw place at there.2;
    }

pub is_last : (entries : List (Vec ℕ Global × ℕ)) (sent : List Letter) (bytes : List ℕ) (number : ℕ) → AreNumbers entries sent
    → datagram_number bytes entries ≡ Some number → IsLast bytes number sent
is_last entries sent bytes number are e = in_table bytes number sent (last_sent bytes sent) refl (sym (are bytes) ∙ e)
