-- What is promised of a role that is opened again. Nothing of it is proved here.
use Rattle.std.specs.Prelude.{◌≡◌, ℕ, true, List, [], Option, None}
use Rattle.cx_model.specs.Prelude.{list_all, Cluster, Event, Kind, RoleId, is_valid_event, KeptRecord, Record, acceptor_rules}
use Rattle.cx_model.specs.Prelude.{batcher_rules, leader_rules, matchmaker_rules, proxy_rules, reader_rules, replacer_rules, replica_rules}
use Rattle.cx_model.specs.Prelude.{refused, unbatcher_rules, list_of, run}
use Rattle.cx_base.specs.declared.role.Kind.TheVariants as kind

-- the place of the first record that a role of this kind could not have appended; a client has none
abbrev pub refused_as : Cluster → RoleId → List Record → Kind → Option ℕ
refused_as c me records kind.Client = None
refused_as c me records kind.Batcher = refused batcher_rules c me records
refused_as c me records kind.Leader = refused leader_rules c me records
refused_as c me records kind.Proxy = refused proxy_rules c me records
refused_as c me records kind.Acceptor = refused acceptor_rules c me records
refused_as c me records kind.Matchmaker = refused matchmaker_rules c me records
refused_as c me records kind.Replica = refused replica_rules c me records
refused_as c me records kind.Unbatcher = refused unbatcher_rules c me records
refused_as c me records kind.Reader = refused reader_rules c me records
refused_as c me records kind.Replacer = refused replacer_rules c me records

-- the list in the store of a role of this kind
abbrev pub stored_as : RoleId → List KeptRecord → Kind → List Record
stored_as me kept kind.Client = []
stored_as me kept kind.Batcher = list_of batcher_rules me kept
stored_as me kept kind.Leader = list_of leader_rules me kept
stored_as me kept kind.Proxy = list_of proxy_rules me kept
stored_as me kept kind.Acceptor = list_of acceptor_rules me kept
stored_as me kept kind.Matchmaker = list_of matchmaker_rules me kept
stored_as me kept kind.Replica = list_of replica_rules me kept
stored_as me kept kind.Unbatcher = list_of unbatcher_rules me kept
stored_as me kept kind.Reader = list_of reader_rules me kept
stored_as me kept kind.Replacer = list_of replacer_rules me kept

-- Each role can be opened again from the list in its store: it refuses none of its records. Of a replica it is said of events that the
-- world takes: a request that tells a floor more than 64 below its number, which the world takes none of, would leave a note that no
-- renewed list can have.
abbrev pub RolesReopen : Cluster → List Event → Type 0
RolesReopen c es =
    (me : RoleId) → (me.kind ≡ kind.Replica → list_all is_valid_event es ≡ true)
    → refused_as c me (stored_as me (run c es).kept me.kind) me.kind ≡ None
