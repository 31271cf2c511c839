-- What the bytes of a document say, and those of none.
use Rattle.std.proofs.Common.{◌≡◌, ◌≢◌, List, ℕ, Result, Ok, Err, IfOk, IfErr, None, Some, IsUtf8, refl, sym, inl, inr}
use Rattle.std.proofs.lemmas.Bool.{cases_Bool}
use Rattle.std.proofs.lemmas.Str.{IsUtf8-from_is_utf8, is_utf8-from_IsUtf8}
use Rattle.std.specs.Str.{is_utf8}
use Rattle.toml.specs.Data.{Members}
use Rattle.toml.specs.Parse.{parse_document}
use Rattle.cx_base.specs.declared.cluster.Cluster.{Cluster}
use Rattle.cx_cluster.specs.declared.fault.ClusterFault.{ClusterFault}
use Rattle.cx_cluster.specs.declared.fault.ClusterFault.TheVariants.{Toml, NoMemory}
use Rattle.cx_cluster.specs.Reading.{header_cluster, known_cluster, least_unknown}

pub no_document : (bytes : List ℕ) → (IsUtf8 bytes → parse_document bytes ≡ None) → header_cluster bytes ≡ Err Toml
unfolding header_cluster
no_document bytes none =
    elim (cases_Bool (is_utf8 bytes)) [
      | inl is ↦ rw (is, none (IsUtf8-from_is_utf8 bytes is)) refl
      | inr not ↦ rw not refl
    ]

pub of_document : (bytes : List ℕ) (ms : Members) → IsUtf8 bytes → parse_document bytes ≡ Some ms
    → header_cluster bytes ≡ known_cluster ms (least_unknown ms)
unfolding header_cluster
of_document bytes ms is some = rw (is_utf8-from_IsUtf8 bytes is, some) refl

-- an answer that is what is defined
pub cluster-is : (answer defined : Result Cluster ClusterFault) → answer ≡ defined → IfOk answer (λ cluster. defined ≡ Ok cluster)
cluster-is (Ok cluster) defined is = sym is
cluster-is (Err fault) defined is = tt

pub fault-is : (answer defined : Result Cluster ClusterFault) → answer ≡ defined
    → IfErr answer (λ fault. fault ≢ NoMemory → defined ≡ Err fault)
fault-is (Ok cluster) defined is = tt
fault-is (Err fault) defined is = λ memory. sym is
