-- The keys of a header.
use Rattle.std.specs.Prelude.{ℕ, List, [], ◌∷◌, Bool, codes, bytes_eq}
use Rattle.std.specs.List.{list_any}
use Rattle.cx_cluster.specs.declared.key.ClusterKey.{ClusterKey}
use Rattle.cx_cluster.specs.declared.key.ClusterKey.TheVariants.{F, Leaders, Proxies, Acceptors, Replicas, Batchers, Unbatchers, Readers}
use Rattle.cx_cluster.specs.declared.key.ClusterKey.TheVariants.{Clients, Batch, BasePort, Pool, Replacers, OneEntryAGrid, OwnProxies}
use Rattle.cx_cluster.specs.declared.key.ClusterKey.TheVariants.{KeepSets}

-- how a key is written
abbrev pub key_name : ClusterKey → List ℕ
key_name F = codes "f"
key_name Leaders = codes "leaders"
key_name Proxies = codes "proxies"
key_name Acceptors = codes "acceptors"
key_name Replicas = codes "replicas"
key_name Batchers = codes "batchers"
key_name Unbatchers = codes "unbatchers"
key_name Readers = codes "readers"
key_name Clients = codes "clients"
key_name Batch = codes "batch"
key_name BasePort = codes "base_port"
key_name Pool = codes "pool"
key_name Replacers = codes "replacers"
key_name OneEntryAGrid = codes "one_entry_a_grid"
key_name OwnProxies = codes "own_proxies"
key_name KeepSets = codes "keep_sets"

abbrev pub all_keys : List ClusterKey
all_keys =
    F ∷ Leaders ∷ Proxies ∷ Acceptors ∷ Replicas ∷ Batchers ∷ Unbatchers ∷ Readers ∷ Clients ∷ Batch ∷ BasePort ∷ Pool ∷ Replacers
    ∷ OneEntryAGrid ∷ OwnProxies ∷ KeepSets ∷ []

-- whether a text is a key of a header
abbrev pub is_key : List ℕ → Bool
is_key text = list_any (λ key. bytes_eq (key_name key) text) all_keys
