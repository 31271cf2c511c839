-- Where what a running leader or proxy leader notes came from, and which record and which datagram come in which order: beside what
-- cx_model's Facts say. Nothing of it is proved here.
use Rattle.std.specs.Prelude.{◌≡◌, ◌⊎◌, ℕ, ◌≤◌, true, List, length}
use Rattle.cx_model.specs.Prelude.{Cluster, Command, Placed, Value, Noop, Event, RoleId, Round, Shape, role, no_round, NackReason, Vote}
use Rattle.cx_model.specs.Prelude.{Letter, letter, Msg, is_retired, HasRound, IsFinished, has_recorded, round_in, LeaderVolatile}
use Rattle.cx_model.specs.Prelude.{count_reaching, enough, Member, IsConfig, ProxyVolatile, LeaderIn, ProxyIn, World, change, run}
use Rattle.cx_base.specs.declared.command.Value.TheVariants.{Batch}
use Rattle.cx_base.specs.declared.role.Kind.TheVariants as kind
use Rattle.cx_letter.specs.declared.message.Msg.TheVariants as msg
use Rattle.cx_inv_match.specs.Facts.{AreOnce}

-- this was sent to the role
abbrev pub Came : List Letter → RoleId → Msg → Type 0
Came sent me m = (from : RoleId) × Member (letter from me m) sent

-- a refusal that came to the leader names this round
abbrev pub IsNamedByRefusal : List Letter → RoleId → Round → Type 0
IsNamedByRefusal sent me j =
    ((i : Round) × Came sent me (msg.Nack i j)) ⊎ ((i : Round) × (reason : NackReason) × Came sent me (msg.MatchNack i reason j))

-- a promise that came to the leader has this chosen watermark
abbrev pub IsPromised : List Letter → RoleId → ℕ → Type 0
IsPromised sent me cw = (i : Round) × (votes : List Vote) × Came sent me (msg.Phase1B i cw votes)

-- a promise that came to the leader has a vote for this value at its slot
pub record IsReported (sent : List Letter) (me : RoleId) (p : Placed) : Type 0 where
  pub round : Round
  pub cw : ℕ
  pub votes : List Vote
  pub came : Came sent me (msg.Phase1B round cw votes)
  pub vote : Vote
  pub member : Member vote votes
  pub slot : vote.slot ≡ p.slot
  pub value : vote.value ≡ p.value

-- a batch that came to the leader is this value
abbrev pub IsHandedIn : List Letter → RoleId → Value → Type 0
IsHandedIn sent me v = (commands : List Command) × (v ≡ Batch commands) × Came sent me (msg.Batch commands)

pub record LeaderNotes (c : Cluster) (sent : List Letter) (me : RoleId) (i : Round) (v : LeaderVolatile) : Type 0 where
  -- the greatest round that it heard of
  pub seen : (v.seen ≡ no_round) ⊎ IsNamedByRefusal sent me v.seen
  -- each value that it proposed, but for what fills a slot in which nothing was voted for
  pub proposed : (p : Placed) → Member p v.proposed → (p.value ≡ Noop) ⊎ (IsReported sent me p ⊎ IsHandedIn sent me p.value)
  -- its chosen watermark: enough of the numbers that replicas reported reach that far, where no promise has it
  pub cw : (v.cw ≡ 0) ⊎ (IsPromised sent me v.cw ⊎ (enough c ≤ count_reaching v.cw v.held))
  -- whom it counts while it retires rounds, it counts once; and once they are retired, enough matchmakers answered that they forgot them
  pub once : AreOnce v.collection.counted
  pub retired : is_retired v.collection.stage ≡ true → (enough c ≤ length v.collection.counted)
      × ((m : ℕ) → Member m v.collection.counted → Member (letter (role kind.Matchmaker m) me (msg.GarbageB i)) sent)

-- the greatest chosen watermark that a proxy leader heard of
abbrev pub ProxyNotes : List Letter → RoleId → ProxyVolatile → Type 0
ProxyNotes sent me v = (v.known ≡ 0) ⊎ ((i : Round) × (g : Shape) × (s : ℕ) × (u : Value) × Came sent me (msg.Propose i g s v.known u))

-- Sources: what a role notes came to it in datagrams.
pub record SourceFacts (c : Cluster) (w : World) : Type 0 where
  pub leaders : (l : ℕ) (v : LeaderVolatile) → w.roles (role kind.Leader l) ≡ LeaderIn v
      → LeaderNotes c w.sent (role kind.Leader l) (round_in w.kept (role kind.Leader l)) v
  pub proxies : (p : ℕ) (v : ProxyVolatile) → w.roles (role kind.Proxy p) ≡ ProxyIn v → ProxyNotes w.sent (role kind.Proxy p) v

-- Order: a matchmaker that counts as a recorder of a round has it with the round's own grid; and whoever asks matchmakers to forget the
-- rounds below one had finished that round before.
pub record OrderFacts (c : Cluster) (es : List Event) : Type 0 where
  pub own_grid : (m : ℕ) (i : Round) (g : Shape) → has_recorded (run c es).kept m i ≡ true → IsConfig (run c es).kept i g
      → HasRound (run c es).kept (role kind.Matchmaker m) i g
  pub finished_before : (e : Event) (from to : RoleId) (i : Round) (g : Shape)
      → Member (letter from to (msg.GarbageA i g)) (change (run c es) e).sends → (cw : ℕ) × (end : ℕ) × IsFinished c es i cw end
