-- A datagram's short bytes give it again.
use Rattle.std.proofs.Common.{lit≤, ◌∙◌, sym, ap, subst, arith, ltb-true, append-nil}
use Rattle.std.specs.Int.{w16, from_be_bytes, to_be_bytes}
use Rattle.std.proofs.lemmas.Nat.{from_be_bytes-to_be_bytes_2}
use Rattle.cx_letter.specs.Prelude.{◌≡◌, ◌≤◌, ◌<◌, ◌+◌, ◌%◌, ◌^◌, ℕ, true, List, [], ◌++◌, Result, Ok, Err, drop, length, refl, IsTrue}
use Rattle.cx_letter.specs.Prelude.{slice_index, code_of, kind_of, role, Kind, Client, RoleId, Miss, by_tag, Letter, body, letter}
use Rattle.cx_letter.specs.Prelude.{body_shape, cases_with}
use Rattle.cx_wire.specs.Format.{bad, short_field, u8, u16}
use Rattle.cx_field.specs.Reading.{Fails}
use Rattle.cx_field.specs.declared.fault.ReadFault.{ReadFault}
use Rattle.cx_field.specs.declared.fault.ReadFault.TheVariants as faults
use Rattle.cx_letter.specs.Letter.{fits}
use Rattle.cx_msg.specs.Spelled.{IsShort, IsSpelled, letter_of, letter_with, msg_or, role_at, short}
use Rattle.cx_letter.specs.declared.message.Msg.{Msg}
use Rattle.cx_msg.proofs.BodyLaws.{body-again}
use Rattle.cx_msg.proofs.DatagramLaws.{small_tag}
use Rattle.cx_letter.proofs.PartsLaws.{fitting}

-- its body is read as its message
pub body_reads : (d : Letter) (kind : ℕ) (bytes : List ℕ) → IsSpelled d kind bytes
    → by_tag (cases_with true) kind (length bytes) bytes ≡ Ok (d.msg, [])
body_reads d kind bytes is =
    let f = fitting d is.in_range in
    let s = body_shape d.msg in
    let again : by_tag (cases_with true) s.tag (length s.bytes) (s.bytes ++ []) ≡ Ok (d.msg, []) =
    body-again true d.msg (length s.bytes) [] f.msg in
    rw (is.kind_is, is.body_is) (ap (by_tag (cases_with true) s.tag (length s.bytes)) (sym (append-nil s.bytes)) ∙ again)

-- reading it fails for memory alone
pub fails_for_memory : (d : Letter) (kind : ℕ) (bytes left : List ℕ) (e : ReadFault) → IsSpelled d kind bytes → left ≡ bytes
    → Fails e (by_tag (cases_with true) kind (length left) left) → e ≡ faults.NoMemory
fails_for_memory d kind bytes left faults.NoMemory is same fails = refl
fails_for_memory d kind bytes left (faults.Bad at) is same fails =
    let read = body_reads d kind bytes is in
    let fault : by_tag (cases_with true) kind (length bytes) bytes ≡ Err (bad at) = rw (← same) fails in
    absurd cc
fails_for_memory d kind bytes left (faults.Cut at need) is same fails =
    let read = body_reads d kind bytes is in
    let fault : by_tag (cases_with true) kind (length bytes) bytes ≡ Err (short_field at need) = rw (← same) fails in
    absurd cc

same_letter : (d : Letter) → fits d ≡ true → letter_with (body_shape d.msg).tag d.from d.to (body d) ≡ d
same_letter d fit =
    let read = body_reads d (body_shape d.msg).tag (body d) (record { in_range = fit; kind_is = refl; body_is = refl }) in
    let with_read : Result (Msg × List ℕ) Miss → Letter = λ r. letter d.from d.to (msg_or r) in
    ap with_read read

kind_again : (k : Kind) → kind_of (code_of k % 256) ≡ k
kind_again Client = refl
kind_again other = refl

code_low : (k : Kind) → code_of k % 256 ≤ 10
code_low Client = lit≤ tt
code_low other = lit≤ tt

role_again : (r : RoleId) → u16.fits r.index ≡ true
    → role (kind_of (code_of r.kind % 256)) (from_be_bytes w16 (to_be_bytes w16 r.index)) ≡ r
unfolding u16
role_again r fit =
    let small : r.index < 2 ^ 16 = ltb-true _ _ fit in
    ap (λ (k : Kind). role k (from_be_bytes w16 (to_be_bytes w16 r.index))) (kind_again r.kind)
    ∙ ap (role r.kind) (from_be_bytes-to_be_bytes_2 r.index small)

pub length-short : (d : Letter) → length (short d) ≡ 7 + length (body d)
unfolding u8 u16
length-short d = omega arith

-- what is short is read again
pub letter_again : (d : Letter) → fits d ≡ true → letter_of (short d) ≡ d
unfolding u8 u16
letter_again d fit =
    let f = fitting d fit in
    let s = body_shape d.msg in
    let kind : s.tag % 256 ≡ s.tag = omega (arith, small_tag d.msg) in
    let from : role_at 1 (short d) ≡ d.from = role_again d.from f.from_index in
    let to : role_at 4 (short d) ≡ d.to = role_again d.to f.to_index in
    ap (λ (k : ℕ). letter_with k (role_at 1 (short d)) (role_at 4 (short d)) (body d)) kind
    ∙ ap (λ (r : RoleId). letter_with s.tag r (role_at 4 (short d)) (body d)) from
    ∙ ap (λ (r : RoleId). letter_with s.tag d.from r (body d)) to
    ∙ same_letter d fit

pub short_again : (d : Letter) → fits d ≡ true → IsShort (short d)
short_again d fit = record {
  in_range = subst (λ (x : Letter). IsTrue (fits x)) (sym (letter_again d fit)) fit;
  are_its = ap short (sym (letter_again d fit));
}

-- what the code takes out of short bytes
pub record Opened (bytes : List ℕ) : Type 0 where
  pub long : 7 ≤ length bytes
  pub from : slice_index bytes 1 ≤ 10
  pub to : slice_index bytes 4 ≤ 10
  pub is_spelled : IsSpelled (letter_of bytes) (slice_index bytes 0) (drop 7 bytes)

open_short : (d : Letter) → fits d ≡ true → Opened (short d)
unfolding u8 u16
open_short d fit =
    let same = sym (letter_again d fit) in
    let kind : (body_shape d.msg).tag % 256 ≡ (body_shape d.msg).tag = omega (arith, small_tag d.msg) in
    record {
      long = omega (arith, length-short d);
      from = code_low d.from.kind;
      to = code_low d.to.kind;
      is_spelled = record {
        in_range = subst (λ (x : Letter). IsTrue (fits x)) same fit;
        kind_is = kind ∙ ap (λ (x : Letter). (body_shape x.msg).tag) same;
        body_is = ap body same;
      };
    }

pub opened : (bytes : List ℕ) → IsShort bytes → Opened bytes
opened bytes is = subst Opened (sym is.are_its) (open_short (letter_of bytes) is.in_range)
