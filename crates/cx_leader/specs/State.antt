-- What the parts of a leader owe one another.
use Rattle.std.specs.Prelude.{◌≡◌, ◌≤◌, ◌<◌, ◌+◌, ◌^◌, ◌==◌, ◌&&◌, ◌||◌, ℕ, Bool, true, not, is_some, length, Option, None, Some, IsTrue}
use Rattle.std.specs.Prelude.{List, All, option_map}
use Rattle.cx_model.specs.Prelude.{list_all, Cluster, Round, role, Entry, live_entries, names_entry, Running, is_off, LeaderDurable}
use Rattle.cx_model.specs.Prelude.{LeaderVolatile, is_idle, is_matching, is_promising}
use Rattle.cx_model.specs.declared.states.MatchAnswer.{MatchAnswer}
use Rattle.cx_role.specs.Prelude.kind
use Rattle.cx_collect.specs.Collecting.{CollectorState}
use Rattle.cx_field.specs.Fields as field
use Rattle.cx_model.specs.declared.states.Mode.{Mode}
use Rattle.cx_phase1.specs.Counting.{Phase1State}
use Rattle.cx_leader.specs.Promising.{asked_entries, promises_of}
use Rattle.cx_leader.specs.Proposing.{ProposalsState}

-- a leader as contracts see it, by the parts that it holds
abbrev pub leader_view : Cluster → ℕ → Bool → Option Entry → Mode → Round → List ℕ → List ℕ → List MatchAnswer → Option Phase1State
    → ProposalsState → CollectorState → Running LeaderDurable LeaderVolatile
leader_view c index live own mode seen set held told phase1 p k =
    record {
      cluster = c;
      me = role kind.Leader index;
      live = live;
      durable = record { own = own };
      volatile =
          record {
            mode = mode;
            seen = seen;
            set = set;
            held = held;
            told = told;
            promises = promises_of phase1;
            cw = p.cw;
            next = p.next;
            end = p.end;
            proposed = p.proposed;
            chosen = p.chosen;
            collection = k.collection;
          };
    }

-- a round of its own that has a spelling, if there is one
abbrev pub own_fits : ℕ → Option Entry → Bool
own_fits index None = true
own_fits index (Some e) = field.round.fits e.round && (e.round.id == index)

-- whether a matchmaker reported only entries whose names lie in the cluster
abbrev pub is_named : Cluster → MatchAnswer → Bool
is_named c a = list_all (λ (e : Entry). names_entry c e) a.entries

-- its last round is one of its own, and each mode but Idle has one
pub record IsBegun (c : Cluster) (index : ℕ) (own : Option Entry) (mode : Mode) : Type 0 where
  pub named : index < c.leaders
  pub fits : IsTrue (own_fits index own)
  pub begun : IsTrue (is_idle mode || is_some own)

-- It counts at most f + 1 matchmakers. While it asks acceptors, it asks those of the live grids that the matchmakers
-- reported, and none before that.
pub record IsMatchmaking (c : Cluster) (mode : Mode) (told : List MatchAnswer) (phase1 : Option Phase1State) : Type 0 where
  pub count : length told ≤ c.f + 1
  pub fewer : IsTrue (is_matching mode) → length told ≤ c.f
  pub named : IsTrue (list_all (λ (a : MatchAnswer). is_named c a) told)
  pub unasked : IsTrue (is_matching mode) → phase1 ≡ None
  pub asked : IsTrue (is_promising mode) → asked_entries phase1 ≡ Some (live_entries told)

-- each replica reported a number of slots
pub record AreHeldNumbers (c : Cluster) (held : List ℕ) : Type 0 where
  pub count : length held ≡ c.replicas
  pub bounded : All (λ n. n ≤ 2 ^ 40) held

-- it retires the rounds below its own with the grid of its own
pub record HasOwnCollection (c : Cluster) (own : Option Entry) (k : CollectorState) : Type 0 where
  pub grid : IsTrue (not (is_off k.collection.stage)) → option_map (λ (e : Entry). e.grid) own ≡ Some k.grid
  pub f : IsTrue (not (is_off k.collection.stage)) → k.f ≡ c.f
  pub mark : k.collection.mark ≤ 2 ^ 40

-- what holds of each leader
pub record IsLeader (c : Cluster) (index : ℕ) (own : Option Entry) (mode : Mode) (told : List MatchAnswer)
    (phase1 : Option Phase1State) (held : List ℕ) (k : CollectorState) : Type 0 where
  pub begun : IsBegun c index own mode
  pub matched : IsMatchmaking c mode told phase1
  pub holding : AreHeldNumbers c held
  pub retiring : HasOwnCollection c own k
