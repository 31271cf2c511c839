use Rattle.std.proofs.Common.{◌≡◌, ◌∙◌, ap, sym, refl, None, Err, Result, List, ℕ, option_map, string_bytes, IsUtf8, rules}
use Rattle.std.specs.Option.{option_copied}
use Rattle.cx_base.specs.declared.cluster.Cluster.{Cluster}
use Rattle.cx_cluster.proofs.Documents.{no_document, of_document, cluster-is, fault-is}
use Rattle.cx_cluster.proofs.Members.{least_unknown-view}
use Rattle.cx_cluster.specs.declared.fault.ClusterFault.{ClusterFault}
use Rattle.cx_cluster.specs.declared.fault.ClusterFault.TheVariants.{Unknown}
use Rattle.cx_cluster.specs.Reading.{known_cluster, header_cluster}
use Rattle.toml.specs.Parse.{parse_document}
use Rattle.toml.specs.View.{table_view}
use Rattle.cx_cluster.proofs.header.read.Goals as goal

pub returns-in-Err-2 : goal.returns-in-Err-2
returns-in-Err-2 c =
    let none : IsUtf8 c.args.bytes.now → parse_document c.args.bytes.now ≡ None = search rules in
    record { cluster = tt; fault = λ memory. no_document c.args.bytes.now none }

pub returns-in-Some : goal.returns-in-Some
returns-in-Some c =
    let document = of_document c.args.bytes.now (table_view c.in-Ok.table) c.in-Ok.ensures.ok.0 c.in-Ok.ensures.ok.1 in
    let found = rw (c.in-Some.is) at c.first_unknown.ensures.found in
    let least = rw (← found) at (least_unknown-view c.in-Ok.table.entries c.first_unknown.ensures.ordered) in
    let unknown : List ℕ → ClusterFault = λ key. Unknown key in
    let named : ClusterFault → Result Cluster ClusterFault = λ fault. Err fault in
    record {
      cluster = tt;
      fault = λ memory. document ∙ ap (known_cluster (table_view c.in-Ok.table)) least
          ∙ ap named (sym (c.unknown.ensures memory ∙ ap unknown c.as_str.ensures.value));
    }

pub returns : goal.returns
returns c =
    let document = of_document c.args.bytes.now (table_view c.in-Ok.table) c.in-Ok.ensures.ok.0 c.in-Ok.ensures.ok.1 in
    let found : option_copied c.first_unknown.result ≡ None = rw c.in_default.is refl in
    let none = least_unknown-view c.in-Ok.table.entries c.first_unknown.ensures.ordered
    ∙ ap (option_map string_bytes) (sym c.first_unknown.ensures.found ∙ found) in
    let is = c.cluster_of.ensures ∙ sym (document ∙ ap (known_cluster (table_view c.in-Ok.table)) none) in
    record {
      cluster = cluster-is c.cluster_of.result (header_cluster c.args.bytes.now) is;
      fault = fault-is c.cluster_of.result (header_cluster c.args.bytes.now) is;
    }
