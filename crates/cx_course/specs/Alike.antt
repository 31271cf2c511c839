-- How a recording node begins: its roles are fresh.
use Rattle.std.specs.Prelude.{◌≡◌, ℕ, true, List, [], slice_get, Some}
use Rattle.cx_model.specs.Prelude.{Cluster, Event, acceptor_rules, batcher_rules, leader_rules, matchmaker_rules, Member, names_role}
use Rattle.cx_model.specs.Prelude.{proxy_rules, reader_rules, replacer_rules, replica_rules, Rules, Running, opened, unbatcher_rules}
use Rattle.cx_client.specs.Client.{ClientState, IsClient}
use Rattle.cx_course.specs.Hosted.{Hosted, ClientAt, BatcherAt, LeaderAt, ProxyAt, AcceptorAt, MatchmakerAt, ReplicaAt, UnbatcherAt}
use Rattle.cx_course.specs.Hosted.{ReaderAt, ReplacerAt, name_of}
use Rattle.cx_record.specs.Readable.{IsRecordable}

-- a role of the cluster that was opened without records
pub record IsFreshRole {D V : Type 0} (rules : Rules D V) (c : Cluster) (s : Running D V) : Type 0 where
  pub opened : s ≡ opened rules c s.me []
  pub kind_is : s.me.kind ≡ rules.kind
  pub named : names_role c s.me ≡ true

-- a client of the cluster that has completed nothing and heard nothing
pub record IsFreshClient (c : Cluster) (s : ClientState) : Type 0 where
  pub client : IsClient s
  pub cluster : s.cluster ≡ c
  pub named : names_role c s.me ≡ true
  -- each of its requests can be recorded
  pub lines : (l : Event) → Member l s.script → IsRecordable c l
  pub done : s.done ≡ 0
  pub heard : s.heard ≡ 0

abbrev pub IsFresh : Cluster → Hosted → Type 0
IsFresh c (ClientAt s) = IsFreshClient c s
IsFresh c (BatcherAt s) = IsFreshRole batcher_rules c s
IsFresh c (LeaderAt s) = IsFreshRole leader_rules c s
IsFresh c (ProxyAt s) = IsFreshRole proxy_rules c s
IsFresh c (AcceptorAt s) = IsFreshRole acceptor_rules c s
IsFresh c (MatchmakerAt s) = IsFreshRole matchmaker_rules c s
IsFresh c (ReplicaAt s) = IsFreshRole replica_rules c s
IsFresh c (UnbatcherAt s) = IsFreshRole unbatcher_rules c s
IsFresh c (ReaderAt s) = IsFreshRole reader_rules c s
IsFresh c (ReplacerAt s) = IsFreshRole replacer_rules c s

-- no two have one name
abbrev pub AreDistinct : List Hosted → Type 0
AreDistinct hs =
    (i j : ℕ) (a b : Hosted) → slice_get hs i ≡ Some a → slice_get hs j ≡ Some b → name_of a ≡ name_of b → i ≡ j

-- all are fresh, and no two have one name
pub record AreFresh (c : Cluster) (hs : List Hosted) : Type 0 where
  pub each : (i : ℕ) (h : Hosted) → slice_get hs i ≡ Some h → IsFresh c h
  pub distinct : AreDistinct hs
