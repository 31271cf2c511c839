-- What is said of a broken rule.
use Rattle.std.specs.Prelude.{ℕ, List, codes}
use Rattle.cx_cluster.specs.declared.key.ClusterKey.{ClusterKey}
use Rattle.cx_cluster.specs.declared.key.ClusterKey.TheVariants.{F, Leaders, Proxies, Acceptors, Replicas, Batchers, Unbatchers, Readers}
use Rattle.cx_cluster.specs.declared.key.ClusterKey.TheVariants.{Clients, Batch, BasePort, Pool, Replacers, OneEntryAGrid, OwnProxies}
use Rattle.cx_cluster.specs.declared.key.ClusterKey.TheVariants.{KeepSets}
use Rattle.cx_explain.specs.declared.rule.Rule.{Rule}
use Rattle.cx_explain.specs.declared.rule.Rule.TheVariants as rule

abbrev pub range_text : ClusterKey → List ℕ
range_text F = codes "outside its range, 0 to 3"
range_text Leaders = codes "outside its range, 1 to 8"
range_text Proxies = codes "outside its range, 1 to 16"
range_text Acceptors = codes "outside its range, 1 to 64"
range_text Replicas = codes "outside its range, f + 1 to 8"
range_text Batchers = codes "outside its range, 1 to 8"
range_text Unbatchers = codes "outside its range, 1 to 8"
range_text Readers = codes "outside its range, 1 to 8"
range_text Clients = codes "outside its range, 1 to 64"
range_text Batch = codes "outside its range, 1 to 8"
range_text BasePort = codes "outside its range, 1024 to 60000"
range_text Pool = codes "outside its range, 2f + 1 to 64"
range_text Replacers = codes "outside its range, 0 to 4"
range_text OneEntryAGrid = codes "outside its range, 0 to 1"
range_text OwnProxies = codes "outside its range, 0 to 1, and 1 only where leaders divides proxies"
range_text KeepSets = codes "outside its range, 0 to 1"

abbrev pub rule_text : Rule → List ℕ
rule_text rule.NoEnd = codes "no line --- ends the header in its first 16,384 bytes"
rule_text rule.NotToml = codes "the header is no TOML"
rule_text rule.UnknownKey = codes "unknown key"
rule_text rule.MissingKey = codes "the header lacks a key"
rule_text rule.NotNumber = codes "not a whole number"
rule_text (rule.OutOfRange key) = range_text key
rule_text rule.NoPort = codes "a node needs a port, and the header lacks the key"
rule_text rule.LongLine = codes "a line of more than 1,024 bytes"
rule_text rule.TooManyLines = codes "more than 65,535 lines after the header"
rule_text rule.UnknownEvent = codes "unknown event"
rule_text rule.MissingWord = codes "a word is missing"
rule_text rule.OtherWord = codes "another word than may stand here"
rule_text rule.Number = codes "no number that may stand here"
rule_text rule.Role = codes "no role of the cluster that may stand here"
rule_text rule.Grid = codes "no grid of the cluster's acceptors"
rule_text rule.Key = codes "no key or value"
rule_text rule.NoRequest = codes "a node takes write, read and session lines alone"
rule_text rule.Floor = codes "a node's clients choose their floors"
rule_text rule.NumberStays = codes "the number isn't above its client's earlier ones"
