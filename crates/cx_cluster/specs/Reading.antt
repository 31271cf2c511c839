-- The cluster that the bytes of a header say, or its first fault.
use Rattle.std.specs.Prelude.{◌≡◌, ◌==◌, ℕ, ◌+◌, ◌*◌, ◌%◌, ◌≤◌, ℤ, pos, negsuc, List, Option, Some, None, Result, Ok, Err, if◌then◌else◌}
use Rattle.std.specs.Cmp.Lexicographic.{slice_cmp}
use Rattle.std.specs.Ordering.{nat_cmp, is_lt}
use Rattle.std.specs.Str.{is_utf8}
use Rattle.std.proofs.Math.Decide.{dec_le}
use Rattle.toml.specs.Data.{Data, as_integer, Members, no_members, member, get_member}
use Rattle.toml.specs.Parse.{parse_document}
use Rattle.cx_base.specs.declared.cluster.Cluster.{Cluster}
use Rattle.cx_cluster.specs.declared.fault.ClusterFault.{ClusterFault}
use Rattle.cx_cluster.specs.declared.fault.ClusterFault.TheVariants.{Toml, Unknown, Missing, NotNumber, Range}
use Rattle.cx_cluster.specs.declared.key.ClusterKey.{ClusterKey}
use Rattle.cx_cluster.specs.declared.key.ClusterKey.TheVariants.{F, Leaders, Proxies, Acceptors, Replicas, Batchers, Unbatchers, Readers}
use Rattle.cx_cluster.specs.declared.key.ClusterKey.TheVariants.{Clients, Batch, BasePort, Pool, Replacers, OneEntryAGrid, OwnProxies}
use Rattle.cx_cluster.specs.declared.key.ClusterKey.TheVariants.{KeepSets}
use Rattle.cx_cluster.specs.Keys.{key_name, is_key}

-- a number from low to high
pub record NumberInRange (low high : ℕ) : Type 0 where
  pub number : ℕ
  pub least : low ≤ number
  pub most : number ≤ high

-- a number that is from low to high, by its two tests
abbrev pub tested : ClusterKey → (low high n : ℕ) → Dec (low ≤ n) → Dec (n ≤ high) → Result (NumberInRange low high) ClusterFault
tested key low high n (yes least) (yes most) = Ok (record { number = n; least = least; most = most })
tested key low high n (yes least) (no more) = Err (Range key (pos n))
tested key low high n (no less) most = Err (Range key (pos n))

-- a number as one from low to high
abbrev pub ranged : ClusterKey → (low high : ℕ) → ℤ → Result (NumberInRange low high) ClusterFault
ranged key low high (pos n) = tested key low high n (dec_le low n) (dec_le n high)
ranged key low high (negsuc n) = Err (Range key (negsuc n))

-- the number that a value is, of those that are whole numbers
abbrev pub number_if : ClusterKey → (low high : ℕ) → Option ℤ → Result (NumberInRange low high) ClusterFault
number_if key low high None = Err (NotNumber key)
number_if key low high (Some number) = ranged key low high number

-- the number that a value is
abbrev pub value_number : ClusterKey → (low high : ℕ) → Data → Result (NumberInRange low high) ClusterFault
value_number key low high value = number_if key low high (as_integer value)

-- the number that a key must have, from a value or from none
abbrev pub required_number : ClusterKey → (low high : ℕ) → Option Data → Result (NumberInRange low high) ClusterFault
required_number key low high None = Err (Missing key)
required_number key low high (Some value) = value_number key low high value

-- the number under a key
abbrev pub number_at : Members → ClusterKey → (low high : ℕ) → Result (NumberInRange low high) ClusterFault
number_at ms key low high = required_number key low high (get_member (key_name key) ms)

-- the number of a key that may be left out, which is the least one then
abbrev pub number_or_least : ClusterKey → (low high : ℕ) → Option Data → Result (NumberInRange low high) ClusterFault
number_or_least key low high None = tested key low high low (dec_le low low) (dec_le low high)
number_or_least key low high (Some value) = value_number key low high value

abbrev pub optional_at : Members → ClusterKey → (low high : ℕ) → Result (NumberInRange low high) ClusterFault
optional_at ms key low high = number_or_least key low high (get_member (key_name key) ms)

-- what follows a good part, or the part's fault
infixl 10 ◌>>=◌
abbrev pub ◌>>=◌ : {A B : Type 0} → Result A ClusterFault → (A → Result B ClusterFault) → Result B ClusterFault
(Ok part) >>= next = next part
(Err fault) >>= next = Err fault

-- a number, or the fault, is what is defined
abbrev pub IsNumber : {low high : ℕ} → Result ℕ ClusterFault → Result (NumberInRange low high) ClusterFault → Type 0
IsNumber {low} {high} (Ok number) defined =
    (least : low ≤ number) × (most : number ≤ high) × (defined ≡ Ok (record { number = number; least = least; most = most }))
IsNumber (Err fault) defined = defined ≡ Err fault

-- the port, which may be left out
abbrev pub base_port_of : Option Data → Result (Option ℕ) ClusterFault
base_port_of None = Ok None
base_port_of (Some value) = value_number BasePort 1024 60000 value >>= (λ port. Ok (Some port.number))

abbrev pub port_at : Members → Result (Option ℕ) ClusterFault
port_at ms = base_port_of (get_member (key_name BasePort) ms)

-- the greatest number of `own_proxies`: 1 where all leaders can have the same number of proxies
abbrev pub most_own : (leaders proxies : ℕ) → ℕ
most_own leaders proxies = if proxies % leaders == 0 then 1 else 0

-- the cluster that the members give, or the fault of the first key that has one
unfoldable pub cluster_at : Members → Result Cluster ClusterFault
cluster_at ms =
    number_at ms F 0 3 >>= (λ f.
    number_at ms Leaders 1 8 >>= (λ leaders.
    number_at ms Proxies 1 16 >>= (λ proxies.
    number_at ms Acceptors 1 64 >>= (λ acceptors.
    number_at ms Replicas (f.number + 1) 8 >>= (λ replicas.
    number_at ms Batchers 1 8 >>= (λ batchers.
    number_at ms Unbatchers 1 8 >>= (λ unbatchers.
    number_at ms Readers 1 8 >>= (λ readers.
    number_at ms Clients 1 64 >>= (λ clients.
    number_at ms Batch 1 8 >>= (λ batch.
    port_at ms >>= (λ base_port.
    optional_at ms Pool (2 * f.number + 1) 64 >>= (λ pool.
    optional_at ms Replacers 0 4 >>= (λ replacers.
    optional_at ms OneEntryAGrid 0 1 >>= (λ one_entry.
    optional_at ms OwnProxies 0 (most_own leaders.number proxies.number) >>= (λ own.
    optional_at ms KeepSets 0 1 >>= (λ keep.
    Ok (record {
      f = f.number;
      leaders = leaders.number;
      proxies = proxies.number;
      acceptors = acceptors.number;
      replicas = replicas.number;
      batchers = batchers.number;
      unbatchers = unbatchers.number;
      readers = readers.number;
      clients = clients.number;
      batch = batch.number;
      base_port = base_port;
      pool = pool.number;
      replacers = replacers.number;
      one_entry_a_grid = one_entry.number == 1;
      own_proxies = own.number == 1;
      keep_sets = keep.number == 1;
      f_fits = f.most;
      some_leader = leaders.least;
      leaders_fit = leaders.most;
      some_proxy = proxies.least;
      proxies_fit = proxies.most;
      some_acceptor = acceptors.least;
      acceptors_fit = acceptors.most;
      some_replicas = replicas.least;
      replicas_fit = replicas.most;
      some_batcher = batchers.least;
      batchers_fit = batchers.most;
      some_unbatcher = unbatchers.least;
      unbatchers_fit = unbatchers.most;
      some_reader = readers.least;
      readers_fit = readers.most;
      some_client = clients.least;
      clients_fit = clients.most;
      some_batch = batch.least;
      batch_fits = batch.most;
      some_pool = pool.least;
      pool_fits = pool.most;
      replacers_fit = replacers.most;
    })))))))))))))))))

-- the lesser of a key and another, in byte order
abbrev pub lesser : List ℕ → Option (List ℕ) → List ℕ
lesser key None = key
lesser key (Some other) = if is_lt (slice_cmp nat_cmp key other) then key else other

-- the least key, in byte order, that no header has
abbrev pub least_unknown : Members → Option (List ℕ)
least_unknown no_members = None
least_unknown (member key value rest) = if is_key key then least_unknown rest else Some (lesser key (least_unknown rest))

-- the cluster of members with this unknown key, or with none
abbrev pub known_cluster : Members → Option (List ℕ) → Result Cluster ClusterFault
known_cluster ms None = cluster_at ms
known_cluster ms (Some key) = Err (Unknown key)

-- the cluster of a document, or of none
abbrev pub document_cluster : Option Members → Result Cluster ClusterFault
document_cluster None = Err Toml
document_cluster (Some ms) = known_cluster ms (least_unknown ms)

-- the cluster that the bytes of a header say, or its first fault
unfoldable pub header_cluster : List ℕ → Result Cluster ClusterFault
header_cluster bytes = if is_utf8 bytes then document_cluster (parse_document bytes) else Err Toml
