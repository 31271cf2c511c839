-- What bytes are refused for stays the refusal of all that come after them, and more bytes than an input has are
-- refused.
use Rattle.std.specs.Io.KnownBytes.{Consumes}
use Rattle.cx_role.proofs.Common.{◌≡◌, ◌⊎◌, inl, inr, ◌≤◌, ◌<◌, ◌+◌, ◌++◌, ℕ, Bool, true, false, List, length, refl, sym, ap, ◌∙◌, subst}
use Rattle.cx_role.proofs.Common.{arith, if◌then◌else◌, Option, Some, None, Result, Ok, Err, IfSome, IfErr, Cluster, RoleId}
use Rattle.cx_cluster.specs.declared.fault.ClusterFault.{ClusterFault}
use Rattle.cx_cluster.specs.Reading.{header_cluster}
use Rattle.cx_script.specs.Input.{begun_input, of_header, whole_input}
use Rattle.cx_script.specs.Lines.{ParsedLines}
use Rattle.cx_script.specs.Requests.{requests_of}
use Rattle.cx_script.specs.Unended.{lines_text}
use Rattle.cx_script.proofs.Feeds.{IsFree, AreFree}
use Rattle.cx_script.proofs.GoesOn.{SpelledOn, overlong}
use Rattle.cx_script.proofs.Inputs.{Cut, header_goes_on, input_length}
use Rattle.cx_script.proofs.RequestsGoOn.{requests_length, requests_on}
use Rattle.cx_node.specs.Input.{FailsRead, IsInputAnswer, IsRefusal, bad_line_of, behind, header_says, input_of, lines, may_host}
use Rattle.cx_node.specs.Input.{refusal_of_part, refused_of, with_port}
use Rattle.cx_node.specs.declared.input.Accepted.{Accepted}
use Rattle.cx_node.specs.declared.input.NodeInput.{NodeInput}
use Rattle.cx_node.specs.declared.input.NodeInput.TheVariants.{Nothing, BadHeader, Lines}
use Rattle.cx_node.specs.declared.input.Refusal.{Refusal}
use Rattle.cx_node.specs.declared.input.Refusal.TheVariants as refusal

-- what one is refused for, the other is
abbrev RefusedToo : Bool → List RoleId → NodeInput → NodeInput → Type 0
RefusedToo recording roles heard all =
    (why : Refusal) → refused_of recording roles heard ≡ Some why → refused_of recording roles all ≡ Some why

bad_line_stays : (s all : ParsedLines) → SpelledOn s all → (bad : Option ℕ) → s.bad ≡ bad → (why : Refusal)
    → bad_line_of s.bad ≡ Some why → bad_line_of all.bad ≡ Some why
bad_line_stays s all on None good why is = (let clash : bad_line_of None ≡ Some why = rw good at is in cc)
bad_line_stays s all on (Some line) bad why is = ap (λ (t : ParsedLines). bad_line_of t.bad) (on.bad line bad) ∙ is

spelled_stays : (named : Bool) (s all : ParsedLines) → SpelledOn s all → (why : Refusal)
    → (if named then bad_line_of s.bad else Some refusal.BadWords) ≡ Some why
    → (if named then bad_line_of all.bad else Some refusal.BadWords) ≡ Some why
spelled_stays true s all on why is = bad_line_stays s all on s.bad refl why is
spelled_stays false s all on why is = is

port_stays : (recording : Bool) (roles : List RoleId) (header : List ℕ) (c : Cluster) (port : Option ℕ) (ls : List (List ℕ))
    (last more : List ℕ) → AreFree ls → IsFree last
    → RefusedToo recording roles (with_port port header c (lines_text ls ++ overlong 1024 last))
    (with_port port header c (lines_text ls ++ (last ++ more)))
port_stays recording roles header c None ls last more free last_free = λ why is. is
port_stays recording roles header c (Some port) ls last more free last_free =
    λ why is. spelled_stays (may_host recording c roles) _ _
    (requests_on c ls last more free last_free) why is

behind_stays : (recording : Bool) (roles : List RoleId) (header : List ℕ) (said : Result Cluster ClusterFault) (ls : List (List ℕ))
    (last more : List ℕ) → AreFree ls → IsFree last → RefusedToo recording roles (behind said header (lines_text ls ++ overlong 1024 last))
    (behind said header (lines_text ls ++ (last ++ more)))
behind_stays recording roles header (Err fault) ls last more free last_free = λ why is. is
behind_stays recording roles header (Ok c) ls last more free last_free =
    port_stays recording roles header c c.base_port ls last more free last_free

-- what is heard of a header in the bytes that count, with those after it
abbrev heard_in : Cut → Bool → NodeInput
heard_in cut long = of_header header_says cut (if long then BadHeader else Nothing)

refused_stays : (recording : Bool) (roles : List RoleId) (bytes more : List ℕ)
    → RefusedToo recording roles (lines bytes) (input_of (bytes ++ more))
unfolding begun_input whole_input
refused_stays recording roles bytes more =
    header_goes_on (λ cut long all. RefusedToo recording roles (heard_in cut long) (of_header header_says all BadHeader)) (record {
      found = λ long header ls last more free last_free.
          behind_stays recording roles header (header_cluster header) ls last more free last_free;
      long = λ why is. is;
      open_yet = λ all why is. cc;
    }) bytes more

-- how many bytes aren't refused
spelled_length : (named : Bool) (s : ParsedLines) (n : ℕ) → (s.bad ≡ None → n ≤ 67239935)
    → (if named then bad_line_of s.bad else Some refusal.BadWords) ≡ None → n ≤ 67239935
spelled_length true s n short good = by_line s.bad refl good
  where
    by_line : (bad : Option ℕ) → s.bad ≡ bad → bad_line_of bad ≡ None → n ≤ 67239935
    by_line None is good = short is
    by_line (Some line) is good = cc
spelled_length false s n short good = cc

port_length : (recording : Bool) (roles : List RoleId) (header : List ℕ) (c : Cluster) (port : Option ℕ) (ls : List (List ℕ))
    (last : List ℕ) → AreFree ls → IsFree last
    → refused_of recording roles (with_port port header c (lines_text ls ++ overlong 1024 last)) ≡ None
    → length (lines_text ls) + length last ≤ 67239935
port_length recording roles header c None ls last free last_free good = cc
port_length recording roles header c (Some port) ls last free last_free good =
    spelled_length (may_host recording c roles)
    (requests_of c (lines_text ls ++ overlong 1024 last)) (length (lines_text ls) + length last)
    (requests_length c ls last free last_free) good

behind_length : (recording : Bool) (roles : List RoleId) (header : List ℕ) (said : Result Cluster ClusterFault) (ls : List (List ℕ))
    (last : List ℕ) → AreFree ls → IsFree last
    → refused_of recording roles (behind said header (lines_text ls ++ overlong 1024 last)) ≡ None
    → length (lines_text ls) + length last ≤ 67239935
behind_length recording roles header (Err fault) ls last free last_free good = cc
behind_length recording roles header (Ok c) ls last free last_free good =
    port_length recording roles header c c.base_port ls last free last_free good

abbrev IsSome : Option Refusal → Type 0
IsSome None = ⊥
IsSome (Some why) = Unit {0}

taken_length : (recording : Bool) (roles : List RoleId) (bytes : List ℕ) → refused_of recording roles (lines bytes) ≡ None
    → length bytes ≤ 68000000
unfolding begun_input
taken_length recording roles bytes good =
    input_length (λ cut long. refused_of recording roles (heard_in cut long) ≡ None) (record {
      found =
          λ long header ls last free last_free good. behind_length recording roles header
          (header_cluster header) ls last free last_free good;
      long = λ good. subst IsSome good tt;
    }) bytes good

-- what holds of the bytes that were read, whatever comes after them, holds of all
of_all : (left left_after : Option (List ℕ)) (bytes : List ℕ) (P : List ℕ → Type 0) → Consumes left left_after bytes
    → ((more : List ℕ) → P (bytes ++ more)) → IfSome left P
of_all None left_after bytes P consumed each = tt
of_all (Some all) None bytes P consumed each = absurd consumed
of_all (Some all) (Some more) bytes P consumed each = subst P (sym consumed) (each more)

-- the refusal of bytes that were read is that of all
pub refused_of_all : (recording : Bool) (roles : List RoleId) (left left_after : Option (List ℕ)) (bytes : List ℕ) (why : Refusal)
    → Consumes left left_after bytes → refused_of recording roles (lines bytes) ≡ Some why
    → IfSome left (λ all. refused_of recording roles (input_of all) ≡ Some why)
refused_of_all recording roles left left_after bytes why consumed is =
    of_all left left_after bytes (λ all. refused_of recording roles (input_of all) ≡ Some why) consumed
    (λ more. refused_stays recording roles bytes more why is)

-- more bytes than an input has are refused
pub long_is_refused : (recording : Bool) (roles : List RoleId) (bytes : List ℕ) → 68000000 < length bytes
    → IsInputAnswer false recording roles (lines bytes) (Err refusal.ReadFault) → ⊥
long_is_refused recording roles bytes long answer = absurd (omega (arith, long, taken_length recording roles bytes answer.0))

lines_complete : (recording : Bool) (roles : List RoleId) (bytes more : List ℕ) (r : Result Accepted Refusal)
    → (r ≡ Err refusal.ReadFault → ⊥) → IsInputAnswer false recording roles (lines bytes) r
    → IfErr r (IsRefusal (refused_of recording roles (input_of (bytes ++ more))))
lines_complete recording roles bytes more (Ok p) no_fault answer = tt
lines_complete recording roles bytes more (Err refusal.NoMemory) no_fault answer = tt
lines_complete recording roles bytes more (Err refusal.ReadFault) no_fault answer = absurd (no_fault refl)
lines_complete recording roles bytes more (Err (refusal.BadInput line)) no_fault answer =
    refused_stays recording roles bytes more (refusal.BadInput line) answer
lines_complete recording roles bytes more (Err refusal.BadWords) no_fault answer =
    refused_stays recording roles bytes more refusal.BadWords answer

-- where no failed read is answered to bytes that were read, their refusal is that of all
pub all_complete : (recording : Bool) (roles : List RoleId) (left left_after : Option (List ℕ)) (bytes : List ℕ)
    (r : Result Accepted Refusal) → Consumes left left_after bytes
    → (r ≡ Err refusal.ReadFault → ⊥) → IsInputAnswer false recording roles (lines bytes) r
    → IfSome left (λ all. IfErr r (IsRefusal (refused_of recording roles (input_of all))))
all_complete recording roles left left_after bytes r consumed no_fault answer =
    of_all left left_after bytes (λ all. IfErr r (IsRefusal (refused_of recording roles (input_of all)))) consumed
    (λ more. lines_complete recording roles bytes more r no_fault answer)

-- what is answered to bytes that were read before a read failed
fails_read : (recording : Bool) (roles : List RoleId) (left left_after : Option (List ℕ)) (bytes : List ℕ)
    (r : Result Accepted Refusal) → Consumes left left_after bytes
    → IsInputAnswer false recording roles (lines bytes) r → IfErr r (FailsRead recording roles left left_after)
fails_read recording roles left left_after bytes (Ok p) consumed answer = tt
fails_read recording roles left left_after bytes (Err refusal.NoMemory) consumed answer = inl refl
fails_read recording roles left left_after bytes (Err refusal.ReadFault) consumed answer =
    inr (bytes, consumed, sym (ap refusal_of_part answer.0))
fails_read recording roles left left_after bytes (Err (refusal.BadInput line)) consumed answer =
    inr (bytes, consumed, sym (ap refusal_of_part answer))
fails_read recording roles left left_after bytes (Err refusal.BadWords) consumed answer =
    inr (bytes, consumed, sym (ap refusal_of_part answer))

pub read_failed : (recording : Bool) (roles : List RoleId) (left left_after : Option (List ℕ)) (reads reads_after : ℕ) (bytes : List ℕ)
    (r : Result Accepted Refusal) → Consumes left left_after bytes
    → IsInputAnswer false recording roles (lines bytes) r → (reads_after ≡ reads) ⊎ IfErr r (FailsRead recording roles left left_after)
read_failed recording roles left left_after reads reads_after bytes r consumed answer =
    inr (fails_read recording roles left left_after bytes r consumed answer)

-- what is answered to lines that are refused
pub refused_answer : (ended recording : Bool) (roles : List RoleId) (header : List ℕ) (c : Cluster) (s : ParsedLines) (why : Refusal)
    → refused_of recording roles (Lines header c s) ≡ Some why → IsInputAnswer ended recording roles (Lines header c s) (Err why)
refused_answer ended recording roles header c s refusal.NoMemory is = tt
refused_answer ended recording roles header c s refusal.ReadFault is = absurd (never (may_host recording c roles) s.bad is)
  where
    never : (b : Bool) (bad : Option ℕ) → (if b then bad_line_of bad else Some refusal.BadWords) ≡ Some refusal.ReadFault → ⊥
    never true None e = cc
    never true (Some line) e = cc
    never false bad e = cc
refused_answer ended recording roles header c s (refusal.BadInput line) is = is
refused_answer ended recording roles header c s refusal.BadWords is = is
