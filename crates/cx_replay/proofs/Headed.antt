-- What a header says of the whole input, and how a replay ends in it.
use Rattle.std.proofs.Common.{sym, ap, ◌∙◌, subst, append_assoc}
use Rattle.std.proofs.KnownBytes.{Appends-nil, Consumes-whole}
use Rattle.cx_model.specs.Prelude.{◌≡◌, ◌++◌, List, [], ℕ, Option, None, Some, refl, IfSome, Appends, Cluster, start}
use Rattle.cx_base.specs.declared.status.Status.TheVariants as status
use Rattle.cx_cluster.specs.Reading.{header_cluster}
use Rattle.cx_replay.specs.ReplayInput.{BadHeader}
use Rattle.cx_replay.specs.Input.{bad_line, behind, header_says, input_of}
use Rattle.cx_replay.specs.Replay.{trace_of, Replayed}
use Rattle.cx_replay.specs.Streamed.{AtEnd, HasHeader, IsHeader, StandsBehind, HeaderSays}
use Rattle.cx_replay.proofs.Along.{ends_alone}
use Rattle.cx_replay.proofs.Ends.{bad_replayed}
use Rattle.cx_replay.proofs.WholeText.{of_all, some_map}
use Rattle.cx_script.specs.Header.{header_and_rest}
use Rattle.cx_script.specs.Input.{of_header, whole_input}

-- no header says a cluster
abbrev IsBadHeader : Option (List ℕ) → Type 0
IsBadHeader left = IfSome left (λ all. input_of all ≡ BadHeader)

pub no_header : (left : Option (List ℕ)) → IfSome left (λ all. header_and_rest all ≡ None) → IsBadHeader left
unfolding whole_input
no_header left none = some_map left (λ all. header_and_rest all ≡ None) (λ all. input_of all ≡ BadHeader)
    (λ all is. ap (λ found. of_header header_says found BadHeader) is) none

input_is : (bytes text rest : List ℕ) → header_and_rest bytes ≡ Some (text, rest) → input_of bytes ≡ behind (header_cluster text) rest
unfolding whole_input
input_is bytes text rest is = ap (λ found. of_header header_says found BadHeader) is

pub header_refused : (left now : Option (List ℕ)) (buffered text : List ℕ) → HasHeader left now buffered text
    → HeaderSays None (header_cluster text) → IsBadHeader left
header_refused left now buffered text h says =
    of_all left now (h.bytes ++ buffered) (λ all. input_of all ≡ BadHeader) h.consumed
    (λ more. ap input_of (append_assoc h.bytes buffered more) ∙ input_is (h.bytes ++ (buffered ++ more)) text (buffered ++ more)
    (h.header (buffered ++ more)) ∙ ap (λ said. behind said (buffered ++ more)) says.1)

pub alone_refused : (left now : Option (List ℕ)) (text : List ℕ) → IsHeader left now text → HeaderSays None (header_cluster text)
    → IsBadHeader left
alone_refused left now text h says = Consumes-whole left now h.bytes (λ all. input_of all ≡ BadHeader) h.consumed h.at_end
    (input_is h.bytes text [] h.header ∙ ap (λ said. behind said []) says.1)

pub header_taken : (left now : Option (List ℕ)) (buffered text : List ℕ) (c : Cluster) → HasHeader left now buffered text
    → HeaderSays (Some c) (header_cluster text) → StandsBehind left now buffered c
header_taken left now buffered text c h says =
    record {
      bytes = h.bytes;
      whole = h.whole;
      consumed = h.consumed;
      input = λ more. input_is (h.bytes ++ more) text more (h.header more) ∙ ap (λ said. behind said more) says;
    }

pub alone_taken : (left now old : Option (List ℕ)) (text : List ℕ) (c : Cluster) → IsHeader left now text
    → HeaderSays (Some c) (header_cluster text) → AtEnd c left now (start c) old old
alone_taken left now old text c h says =
    ends_alone c left now old h.bytes h.consumed h.at_end (input_is h.bytes text [] h.header ∙ ap (λ said. behind said []) says)

module _ (left now : Option (List ℕ)) (reads reads_after : ℕ) (out : Option (List ℕ)) (writes : ℕ) where
  pub refused : IsBadHeader left → reads_after ≡ reads → Replayed left now reads reads_after out out writes writes (status.BadInput 0)
  refused bad read =
      bad_replayed left now reads reads_after out out writes writes 0
      (some_map left (λ all. input_of all ≡ BadHeader) (λ all. bad_line (input_of all) ≡ Some 0) (λ all is. ap bad_line is) bad)
      (some_map left (λ all. input_of all ≡ BadHeader) (λ all. Appends out out (trace_of (input_of all)))
      (λ all is. subst (Appends out out) (sym (ap trace_of is)) (Appends-nil out)) bad) read refl
