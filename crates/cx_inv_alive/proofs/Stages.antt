-- What the stages of a plan speak of: a leader of a round over a grid of one acceptor, what it is told, and what stays.
use Rattle.cx_inv_run.proofs.Common.{list_all, ◌≡◌, ◌⊎◌, ℕ, ◌+◌, ◌*◌, ◌==◌, ◌||◌, Bool, true, false, max, nat_lt, nat_le, List, [], ◌∷◌}
use Rattle.cx_inv_run.proofs.Common.{length, Some, Cluster, Placed, Value, Kind, RoleId, Round, Shape, is_in, code_of, role, same_role}
use Rattle.cx_inv_run.proofs.Common.{is_before, Entry, Letter, AcceptorDurable, MatchAnswer, Leading, Matching, Phase1, Promised}
use Rattle.cx_inv_run.proofs.Common.{LeaderDurable, LeaderVolatile, finish, held_by, matched_by, propose_to, enough, live_entries}
use Rattle.cx_inv_run.proofs.Common.{MatchmakerDurable, entries_before, entry, is_booted, is_stopped, Member, names_entry, names_round}
use Rattle.cx_inv_run.proofs.Common.{Outcome, ReplicaDurable, replica_after}
use Rattle.cx_base.specs.declared.role.Kind.TheVariants as kind
use Rattle.cx_base.specs.Grid.{make_grid}
use Rattle.cx_letter.specs.declared.kept.Record.TheVariants as kept
use Rattle.cx_model.specs.Matchmaker.{has_place}

-- a cluster has roles of each kind, f + 1 replicas and 2f + 1 matchmakers
pub record HasCounts (c : Cluster) : Type 0 where
  pub leaders : nat_lt 0 c.leaders ≡ true
  pub acceptors : nat_lt 0 c.acceptors ≡ true
  pub unbatchers : nat_lt 0 c.unbatchers ≡ true
  pub replicas : nat_le (enough c) c.replicas ≡ true
  pub pool : nat_le (2 * c.f + 1) c.pool ≡ true

-- which roles may have changed

abbrev pub is_of : Kind → RoleId → Bool
is_of k a = code_of k == code_of a.kind

abbrev pub is_role : RoleId → RoleId → Bool
is_role me a = same_role a me

-- each number is there once
abbrev pub Apart : List ℕ → Type 0
Apart [] = Unit {0}
Apart (m ∷ ms) = (is_in m ms ≡ false) × Apart ms

-- THE LEADER

-- a leader's first round of this number
abbrev pub lead_round : ℕ → ℕ → Round
lead_round l r = record { r = r; id = l; s = 0 }

abbrev pub begun_over : ℕ → ℕ → Shape → LeaderDurable
begun_over l r g = record { own = Some (entry (lead_round l r) g) }

-- it waits for matchmakers, with the answers that it counted
abbrev pub matching : LeaderVolatile → List MatchAnswer → LeaderVolatile
matching v told = record v { mode = Matching; told = told }

-- what it goes on with that has these answers
abbrev pub goes_on_with : Cluster → ℕ → ℕ → Shape → LeaderVolatile → List MatchAnswer → Outcome LeaderVolatile
goes_on_with c l r g v told = matched_by c (role kind.Leader l) (entry (lead_round l r) g) (matching v told) (live_entries told)

-- it is in its first phase
abbrev pub phasing : LeaderVolatile → List MatchAnswer → List Promised → LeaderVolatile
phasing v told promises = record v { mode = Phase1; told = told; promises = promises }

abbrev pub finishes : Cluster → ℕ → ℕ → Shape → LeaderVolatile → List MatchAnswer → List Promised → Outcome LeaderVolatile
finishes c l r g v told ps = finish c (role kind.Leader l) (entry (lead_round l r) g) (phasing v told ps)

-- it leads, with nothing undone
abbrev pub settled_at : LeaderVolatile → ℕ → LeaderVolatile
settled_at v e = record v { mode = Leading; cw = e; next = e }

-- Its watermark takes account of what it was told, which is no more than this. So it is of one that was just opened.
pub record IsHearing (c : Cluster) (most : ℕ) (v : LeaderVolatile) : Type 0 where
  pub count : length v.held ≡ c.replicas
  pub noted : nat_le (held_by (enough c) v.held) v.cw ≡ true
  pub told : (k : ℕ) → Member k v.held → nat_le k most ≡ true
  pub ahead : nat_le v.cw v.next ≡ true

-- its watermark is raised, and what it is doing stays
pub record Grown (c : Cluster) (most : ℕ) (v u : LeaderVolatile) : Type 0 where
  pub hearing : IsHearing c most u
  pub mode : u.mode ≡ v.mode
  pub seen : u.seen ≡ v.seen
  pub set : u.set ≡ v.set
  pub top : nat_le u.cw (max v.cw most) ≡ true
  pub next : u.next ≡ max v.next u.cw

-- MATCHMAKERS

-- a store lets it record a round of this number, above all that it has, with this grid
pub record CanMatch (c : Cluster) (m r : ℕ) (g : Shape) (d : MatchmakerDurable) : Type 0 where
  pub member : is_booted c (role kind.Matchmaker m) d ≡ true
  pub works : is_stopped d ≡ false
  pub room : has_place c g d.entries ≡ true
  pub watermark : nat_lt d.watermark.r r ≡ true
  pub lower : list_all (λ (e : Entry). nat_lt e.round.r r) d.entries ≡ true
  pub named_watermark : names_round c d.watermark ≡ true
  pub named_entries : list_all (λ (e : Entry). names_entry c e) d.entries ≡ true

-- what it answers then
abbrev pub match_answer_of : Round → MatchmakerDurable → ℕ → MatchAnswer
match_answer_of i d m = record { matchmaker = m; watermark = d.watermark; entries = entries_before i d.entries }

-- ACCEPTORS

-- what one reports
abbrev pub reported_by : AcceptorDurable → ℕ → Promised
reported_by d a = record { acceptor = a; cw = d.cw; votes = d.votes }

-- its store is as it was, or it has promised this round
abbrev pub MayHavePromised : ℕ → ℕ → AcceptorDurable → AcceptorDurable → Type 0
MayHavePromised l r d e = (e ≡ d) ⊎ (e ≡ record d { promise = lead_round l r })

-- it may vote in this round at slots from this one on
pub record MayVote (l r slot : ℕ) (d : AcceptorDurable) : Type 0 where
  pub promised : is_before (lead_round l r) d.promise ≡ false
  pub within : nat_lt slot d.cw ≡ false

-- SLOTS

-- the grid that a plan leads with: one acceptor
abbrev pub single_grid : ℕ → Shape
single_grid a = make_grid 1 1 (a ∷ [])

-- a leader's proposal
abbrev pub proposed_over : Cluster → ℕ → ℕ → ℕ → ℕ → Placed → Letter
proposed_over c l r a cw p = propose_to c (role kind.Leader l) (entry (lead_round l r) (single_grid a)) cw p

-- what a replica's store says after values more
abbrev pub with_values : ReplicaDurable → List Value → ReplicaDurable
with_values d [] = d
with_values d (v ∷ vs) = with_values (replica_after d (kept.Log (v ∷ []))) vs

abbrev pub keeps_served : RoleId → Bool
keeps_served a = is_of kind.Acceptor a || is_of kind.Replica a

abbrev pub moves_served : RoleId → Bool
moves_served a = is_of kind.Proxy a || is_of kind.Replica a
