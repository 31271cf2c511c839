-- The facts after a role has sent datagrams and gone on.
use Rattle.cx_inv_run.proofs.Common.{◌≡◌, ℕ, true, false, ◌⊎◌, List, ◌++◌, Option, Some, None, inl, inr, sym, subst, ◌∙◌, refl, Cluster}
use Rattle.cx_inv_run.proofs.Common.{Value, RoleId, Round, role, same_role, is_before, no_round, Entry, Letter, letter, KeptRecord, Mode}
use Rattle.cx_inv_run.proofs.Common.{Idle, Matching, Phase1, Leading, Pending, Replacing, BatcherVolatile, IsProposed, IsRetiring}
use Rattle.cx_inv_run.proofs.Common.{LeaderWasTold, ReplicaWasTold, ReaderWasTold, LeaderVolatile, leader_rules, round_of, by_role}
use Rattle.cx_inv_run.proofs.Common.{other_role, MatchmakerDurable, matchmaker_rules, Member, HasKept, ProxyVolatile, ReaderVolatile}
use Rattle.cx_inv_run.proofs.Common.{ReplacerVolatile, replacer_rules, ReplicaVolatile, State, Down, Plain, BatcherIn, LeaderIn, ProxyIn}
use Rattle.cx_inv_run.proofs.Common.{ReplicaIn, ReaderIn, ReplacerIn, set_state, durable_of, Member-cases, Member-first, state_own}
use Rattle.cx_inv_run.proofs.Common.{state_other, before-itself}
use Rattle.cx_inv_match.specs.Prelude.{Says, InState, InMode, InWork, IsMatching, IsLeading, IsLastRound, IsMatchmaker, IsPending}
use Rattle.cx_inv_match.specs.Prelude.{IsNextAsked, Facts, IsLeft, IsNextSet}
use Rattle.cx_base.specs.declared.role.Kind.TheVariants as kind
use Rattle.cx_letter.specs.declared.kept.Record.TheVariants as kept
use Rattle.cx_letter.specs.declared.message.Msg.TheVariants as msg
use Rattle.cx_model.specs.declared.states.Replacing.TheVariants as replacing
use Rattle.cx_model.specs.Facts.{ProxyWasTold, BatcherWasTold, BatchWasTold}
use Rattle.cx_model.specs.Reader.{Batch}
use Rattle.cx_inv_match.proofs.Grow.{Grows, grown_says, grown_safe, grown_stage, grown_ready, grown_join, grown_collected}
use Rattle.cx_inv_match.proofs.Keep.{same_log}
use Rattle.cx_inv_match.proofs.SetLaws.{grown_sets}
use Rattle.cx_inv_vote.specs.Laws.{IsPlainMsg}

-- what was proposed or ended after more was sent, was so before or by what was sent

pub proposed_cases : (sent ds : List Letter) (i : Round) (s : ℕ) (v : Value) → IsProposed (sent ++ ds) i s v
    → IsProposed sent i s v ⊎ IsProposed ds i s v
proposed_cases sent ds i s v h = elim (Member-cases _ sent ds h.4) [
  | inl m ↦ inl (h.0, h.1, h.2, h.3, m)
  | inr m ↦ inr (h.0, h.1, h.2, h.3, m)
]

pub retiring_cases : (sent ds : List Letter) (i : Round) → IsRetiring (sent ++ ds) i → IsRetiring sent i ⊎ IsRetiring ds i
retiring_cases sent ds i h = elim (Member-cases _ sent ds h.3) [
  | inl m ↦ inl (h.0, h.1, h.2, m)
  | inr m ↦ inr (h.0, h.1, h.2, m)
]

pub still_proposed : (sent ds : List Letter) (i : Round) (s : ℕ) (v : Value) → IsProposed sent i s v → IsProposed (sent ++ ds) i s v
still_proposed sent ds i s v h = (h.0, h.1, h.2, h.3, Member-first _ sent ds h.4)

pub still_retiring : (sent ds : List Letter) (i : Round) → IsRetiring sent i → IsRetiring (sent ++ ds) i
still_retiring sent ds i h = (h.0, h.1, h.2, Member-first _ sent ds h.3)

pub asked_cases : (sent ds : List Letter) (b : Round) (u : List ℕ) → IsNextAsked (sent ++ ds) b u
    → IsNextAsked sent b u ⊎ IsNextAsked ds b u
asked_cases sent ds b u h = elim (Member-cases _ sent ds h.2) [
  | inl m ↦ inl (h.0, h.1, m)
  | inr m ↦ inr (h.0, h.1, m)
]

-- more was sent, and nothing was proposed in a round that its leader had left
pub record Widens (history : List KeptRecord) (sent wider : List Letter) : Type 0 where
  pub wide : (d : Letter) → Member d sent → Member d wider
  pub no_proposal : (j : Round) (s : ℕ) (v : Value) → IsLeft history j → IsProposed wider j s v → IsProposed sent j s v

pub grows_wide : (history : List KeptRecord) (sent wider : List Letter) → Widens history sent wider → Grows history sent history wider
grows_wide history sent wider h = record {
  more = λ k m. m;
  wide = h.wide;
  no_vote = λ a j s v p x. x;
  no_mark = λ a j n p x. x;
  no_match = λ m i j g l p x. x;
  no_boot = λ m s w es u x. x;
  halted_match = λ m i g u x. x;
  halted_garbage = λ m i g u x. x;
  no_next = λ m a b u l p x. x;
  no_proposal = h.no_proposal;
}

-- what a role received stays received

pub leader_told : (sent ds : List Letter) (me : RoleId) (i : Round) (v : LeaderVolatile) → LeaderWasTold sent me i v
    → LeaderWasTold (sent ++ ds) me i v
leader_told sent ds me i v h = record {
  answers = λ a m. Member-first _ sent ds (h.answers a m);
  promises = λ p m. Member-first _ sent ds (h.promises p m);
  chosen = λ s t m. let r = h.chosen s t m in (r.0, Member-first _ sent ds r.1);
  held = λ p n e. elim (h.held p n e) [ inl z ↦ inl z | inr m ↦ inr (Member-first _ sent ds m) ];
  informed = λ a t m. let r = h.informed a t m in (r.0, r.1, Member-first _ sent ds r.2);
  forgotten = λ a t m. Member-first _ sent ds (h.forgotten a t m);
}

pub proxy_told : (sent ds : List Letter) (me : RoleId) (v : ProxyVolatile) → ProxyWasTold sent me v → ProxyWasTold (sent ++ ds) me v
proxy_told sent ds me v h = record {
  proposed = λ p m. let r = h.proposed p m in (r.0, Member-first _ sent ds r.1);
  votes = λ p a m k. Member-first _ sent ds (h.votes p a m k);
}

pub batcher_told : (sent ds : List Letter) (me : RoleId) (v : BatcherVolatile) → BatcherWasTold sent me v → BatcherWasTold (sent ++ ds) me v
batcher_told sent ds me v h = record {
  commands = λ k m. let r = h.commands k m in (r.0, Member-first _ sent ds r.1);
  round = elim h.round [ inl e ↦ inl e | inr r ↦ inr (r.0, Member-first _ sent ds r.1) ];
}

pub replica_told : (sent ds : List Letter) (me : RoleId) (v : ReplicaVolatile) → ReplicaWasTold sent me v → ReplicaWasTold (sent ++ ds) me v
replica_told sent ds me v h = record {
  early = λ p m. let r = h.early p m in (r.0, Member-first _ sent ds r.1);
  deferred =
      λ r m. elim (h.deferred r m) [ inl d ↦ inl (d.0, Member-first _ sent ds d.1) | inr d ↦ inr (d.0, d.1, Member-first _ sent ds d.2) ];
}

pub batch_told : (sent ds : List Letter) (me : RoleId) (b : Batch) → BatchWasTold sent me b → BatchWasTold (sent ++ ds) me b
batch_told sent ds me b h = record {
  requests = λ r m. Member-first _ sent ds (h.requests r m);
  answers = λ a m. Member-first _ sent ds (h.answers a m);
  acks = λ a m. Member-first _ sent ds (h.acks a m);
}

pub reader_told : (sent ds : List Letter) (me : RoleId) (v : ReaderVolatile) → ReaderWasTold sent me v → ReaderWasTold (sent ++ ds) me v
reader_told sent ds me v h = record {
  requests = λ r m. Member-first _ sent ds (h.requests r m);
  batch = λ b e. batch_told sent ds me b (h.batch b e);
}

pub still_pending : (history : List KeptRecord) (sent ds : List Letter) (p : Pending) → IsPending history sent p
    → IsPending history (sent ++ ds) p
still_pending history sent ds p h = record { config = h.config; marks = h.marks; done = h.done; window = h.window }

-- a round in which these datagrams propose nothing, and for which they ask nobody to forget others; a ballot in which they ask nobody to
-- accept a set
abbrev pub IsQuiet : List Letter → Round → Type 0
IsQuiet ds i = ((s : ℕ) (v : Value) → IsProposed ds i s v → ⊥) × (IsRetiring ds i → ⊥)

abbrev pub IsUnasked : List Letter → Round → Type 0
IsUnasked ds b = (u : List ℕ) → IsNextAsked ds b u → ⊥

module _ (c : Cluster) (history : List KeptRecord) (sent ds : List Letter) (grows : Grows history sent history (sent ++ ds)) where
  pub quiet_matching : (own : Entry) (v : LeaderVolatile) → IsQuiet ds own.round → IsMatching c history sent own v
      → IsMatching c history (sent ++ ds) own v
  quiet_matching own v q h = record {
    unproposed = λ s u x. elim (proposed_cases sent ds own.round s u x) [ inl y ↦ h.unproposed s u y | inr y ↦ q.0 s u y ];
    unended = λ x. elim (retiring_cases sent ds own.round x) [ inl y ↦ h.unended y | inr y ↦ q.1 y ];
    off = h.off;
    set = h.set;
    set_known = h.set_known;
    once = h.once;
    known = h.known;
  }

  pub quiet_leading : (own : Entry) (v : LeaderVolatile)
      → ((s : ℕ) (u : Value) → IsProposed ds own.round s u → ⊥) → IsLeading c history sent own v → IsLeading c history (sent ++ ds) own v
  quiet_leading own v q h = record {
    config = h.config;
    matched = h.matched;
    below_next = λ s u x. elim (proposed_cases sent ds own.round s u x) [ inl y ↦ h.below_next s u y | inr y ↦ absurd (q s u y) ];
    remembered = λ s u x. elim (proposed_cases sent ds own.round s u x) [ inl y ↦ h.remembered s u y | inr y ↦ absurd (q s u y) ];
    once = h.once;
    window = h.window;
    safe = λ p m. grown_safe c history sent history (sent ++ ds) grows own.round p.slot p.value (h.safe p m);
    free = λ s u l. grown_safe c history sent history (sent ++ ds) grows own.round s u (h.free s u l);
    end_next = h.end_next;
    cw_next = h.cw_next;
    known = h.known;
    stage = grown_stage c history sent history (sent ++ ds) grows own v.end v.collection v.collection.stage h.stage;
  }

  pub quiet_mode : (o : Option Entry) (v : LeaderVolatile) (mode : Mode)
      → ((own : Entry) → o ≡ Some own → IsQuiet ds own.round) → InMode c history sent o v mode → InMode c history (sent ++ ds) o v mode
  quiet_mode None v mode q h = h
  quiet_mode (Some own) v Idle q h = tt
  quiet_mode (Some own) v Matching q h =
      (quiet_matching own v (q own refl) h.0, h.1, λ t. grown_ready c history sent history (sent ++ ds) grows own v (h.2 t))
  quiet_mode (Some own) v Phase1 q h = (quiet_matching own v (q own refl) h.0, h.1)
  quiet_mode (Some own) v Leading q h = quiet_leading own v (q own refl).0 h

  pub quiet_work : (me : RoleId) (own : Round) (v : ReplacerVolatile) (mode : Replacing) → IsUnasked ds own
      → InWork c history sent me own v mode → InWork c history (sent ++ ds) me own v mode
  quiet_work me own v replacing.Idle q h = tt
  quiet_work me own v replacing.Stopping q h = record {
    real = h.real;
    unasked = λ u x. elim (asked_cases sent ds own u x) [ inl y ↦ h.unasked u y | inr y ↦ q u y ];
    above = h.above;
    proper = h.proper;
    told = λ x m. Member-first _ sent ds (h.told x m);
    once = h.once;
    known = h.known;
  }
  quiet_work me own v replacing.Deciding q h = record {
    real = h.real;
    asked = λ from to u x. elim (Member-cases _ sent ds x) [ inl y ↦ h.asked from to u y | inr y ↦ absurd (q u (from, to, y)) ];
    above = h.above;
    proper = h.proper;
    closed = h.closed;
    join = grown_join c history sent history (sent ++ ds) grows v.set v.watermark v.entries h.join;
    votes = λ m x. Member-first _ sent ds (h.votes m x);
    once = h.once;
  }
  quiet_work me own v replacing.Booting q h = record {
    decided = h.decided;
    join = grown_join c history sent history (sent ++ ds) grows v.set v.watermark v.entries h.join;
    begun = λ m x. Member-first _ sent ds (h.begun m x);
  }

  -- what a role knows stays so where these datagrams neither propose in its own round nor end it, and ask nobody in its ballot
  pub carry_state : (me : RoleId) (s : State)
      → ((own : Entry) → (durable_of leader_rules me history).own ≡ Some own → IsQuiet ds own.round)
      → IsUnasked ds (durable_of replacer_rules me history).own
      → InState c history sent me s → InState c history (sent ++ ds) me s
  carry_state me Down quiet un h = tt
  carry_state me Plain quiet un h = tt
  carry_state me (BatcherIn v) quiet un h = batcher_told sent ds me v h
  carry_state me (LeaderIn v) quiet un h = (
    leader_told sent ds me (round_of (durable_of leader_rules me history).own) v h.0,
    quiet_mode (durable_of leader_rules me history).own v v.mode quiet h.1,
    h.2,
  )
  carry_state me (ProxyIn v) quiet un h = (proxy_told sent ds me v h.0, λ p m. still_pending history sent ds p (h.1 p m))
  carry_state me (ReplicaIn v) quiet un h = replica_told sent ds me v h
  carry_state me (ReaderIn v) quiet un h = (reader_told sent ds me v h.0, h.1, h.2)
  carry_state me (ReplacerIn v) quiet un h = (h.0, quiet_work me (durable_of replacer_rules me history).own v v.mode un h.1)

-- What a role sends says what is so, proposes and ends only rounds that name it and that it didn't leave, one value for each round and
-- slot, and asks to accept sets only in ballots that name it, one set for each; and its new state is what it should be: then the facts
-- hold.
module _ (c : Cluster) (history : List KeptRecord) (sent : List Letter) (states : RoleId → State) (me : RoleId)
    (facts : Facts c history sent (set_state me Down states)) (ds : List Letter) (s : State)
    (widens : Widens history sent (sent ++ ds))
    (says : (d : Letter) → Member d ds → Says c history (sent ++ ds) d.from d.msg)
    (mine : (i : Round) (t : ℕ) (v : Value) → IsProposed ds i t v → role kind.Leader i.id ≡ me)
    (ends : (i : Round) → IsRetiring ds i → role kind.Leader i.id ≡ me)
    (one_value : (i : Round) (t : ℕ) (v w : Value) → IsProposed ds i t v → IsProposed (sent ++ ds) i t w → v ≡ w)
    (asks : (from to : RoleId) (b : Round) (u : List ℕ) → Member (letter from to (msg.NextA b u)) ds
    → IsNextSet c history to b u × HasKept history (role kind.Replacer b.id) (kept.Ballot b) × (role kind.Replacer b.id ≡ me))
    (one_next : (b : Round) (u w : List ℕ) → IsNextAsked ds b u → IsNextAsked (sent ++ ds) b w → u ≡ w)
    (running : InState c history (sent ++ ds) me s) where
  abbrev wider : List Letter
  wider = sent ++ ds

  grows : Grows history sent history wider
  grows = grows_wide history sent wider widens

  -- the round of another leader is neither proposed in nor ended
  other_quiet : (a : RoleId) → same_role a me ≡ false → (o : Option Entry) → IsLastRound history a o → (own : Entry) → o ≡ Some own
      → IsQuiet ds own.round
  other_quiet a d None last own e = cc
  other_quiet a d (Some first) last own e =
      let p : first ≡ own = cc in
      let q : a ≡ role kind.Leader own.round.id =
      subst (λ (y : Entry). a ≡ role kind.Leader y.round.id) p (facts.owner a first.round first.grid last.0) in
      (λ t v x. other_role a me d (q ∙ mine own.round t v x), λ x. other_role a me d (q ∙ ends own.round x))

  -- and in the ballot of another replacer nobody is asked
  other_unasked : (a : RoleId) → same_role a me ≡ false → IsUnasked ds (durable_of replacer_rules a history).own
  other_unasked a d u x = go (facts.last_ballot a).1
    where
      asked : IsNextSet c history x.1 (durable_of replacer_rules a history).own u × HasKept history
          (role kind.Replacer (durable_of replacer_rules a history).own.id) (kept.Ballot (durable_of replacer_rules a history).own)
          × (role kind.Replacer (durable_of replacer_rules a history).own.id ≡ me)
      asked = asks x.0 x.1 (durable_of replacer_rules a history).own u x.2

      go : ((durable_of replacer_rules a history).own ≡ no_round)
          ⊎ HasKept history a (kept.Ballot (durable_of replacer_rules a history).own) → ⊥
      go (inl e) = before-itself no_round (subst (λ y. is_before no_round y ≡ true) e asked.0.real)
      go (inr k) = other_role a me d (facts.balloter a (durable_of replacer_rules a history).own k ∙ asked.2)

  other_running : (a : RoleId) → same_role a me ≡ false → (st : State) → InState c history sent a st → InState c history wider a st
  other_running a d st h = carry_state c history sent ds grows a st (other_quiet a d (durable_of leader_rules a history).own (facts.last a))
      (other_unasked a d) h

  sent_log : (m : RoleId) (d : MatchmakerDurable) → IsMatchmaker c history sent m d → IsMatchmaker c history wider m d
  sent_log m d h = same_log c history sent history wider grows m d (λ i g x. x) (λ i g x. x) (λ t w es x. x) (λ b x. x) (λ b t x. x) h

  pub send : Facts c history wider (set_state me s states)
  send = record {
    owner = facts.owner;
    one_grid = facts.one_grid;
    last = facts.last;
    asked = facts.asked;
    garbaged = λ m i g x.
        let y = facts.garbaged m i g x in (y.0, grown_collected c history sent history wider grows i y.1, still_retiring sent ds i y.2);
    logs = λ m. sent_log m (durable_of matchmaker_rules m history) (facts.logs m);
    acceptors = facts.acceptors;
    sets =
        grown_sets c history sent history wider grows facts.sets (λ m b u x. inl x) (λ m t w es x. inl x) (λ m i g x. inl x) (λ m x. inl x);
    accepted = λ m b u x. let y = facts.accepted m b u x in (y.0, Member-first _ sent ds y.1);
    one_asked = λ b u w x y. elim (asked_cases sent ds b u x) [
      | inl k ↦ (elim (asked_cases sent ds b w y) [ inl l ↦ facts.one_asked b u w k l | inr l ↦ sym (one_next b w u l x) ])
      | inr k ↦ one_next b u w k y
    ];
    asks = λ from to b u m.
        elim (Member-cases _ sent ds m) [ inl k ↦ facts.asks from to b u k | inr k ↦ (let r = asks from to b u k in (r.0, r.1)) ];
    balloter = facts.balloter;
    last_ballot = facts.last_ballot;
    known_sets = facts.known_sets;
    voted = λ a i t v h. still_proposed sent ds i t v (facts.voted a i t v h);
    one_value = λ i t v w x y. elim (proposed_cases sent ds i t v x) [
      | inl k ↦ (elim (proposed_cases sent ds i t w y) [ inl l ↦ facts.one_value i t v w k l | inr l ↦ sym (one_value i t w v l x) ])
      | inr k ↦ one_value i t v w k y
    ];
    logged = facts.logged;
    says = λ d m. elim (Member-cases d sent ds
        m) [ inl k ↦ grown_says c history sent history wider grows d.from d.msg (facts.says d k) | inr k ↦ says d k ];
    running =
        by_role (λ a. InState c history wider a (set_state me s states a)) me
        (subst (λ st. InState c history wider me st) (sym (state_own me s states)) running)
        (λ a e. subst (λ st. InState c history wider a st) (sym (state_other me a s states e))
        (other_running a e (states a)
        (subst (λ st. InState c history sent a st) (state_other me a Down states e) (facts.running a))));
  }

-- Datagrams that propose nothing, end no round, and ask nobody to accept a set.
abbrev pub QuietSends : List Letter → Type 0
QuietSends ds = (d : Letter) → Member d ds → IsPlainMsg d.msg

pub quiet_round : (ds : List Letter) → QuietSends ds → (i : Round) → IsQuiet ds i
quiet_round ds quiet i = (λ s v x. (quiet _ x.4).0 i x.2 s x.3 v refl, λ x. (quiet _ x.3).1 i x.2 refl)

pub quiet_ballot : (ds : List Letter) → QuietSends ds → (b : Round) → IsUnasked ds b
quiet_ballot ds quiet b u x = (quiet _ x.2).2 b u refl

pub quiet_widens : (history : List KeptRecord) (sent ds : List Letter) → QuietSends ds → Widens history sent (sent ++ ds)
quiet_widens history sent ds quiet = record {
  wide = λ d m. Member-first d sent ds m;
  no_proposal = λ j s v l x. elim (proposed_cases sent ds j s v x) [ inl y ↦ y | inr y ↦ absurd ((quiet_round ds quiet j).0 s v y) ];
}

-- what a role knows stays so while they are sent
pub still_state : (c : Cluster) (history : List KeptRecord) (sent ds : List Letter) → QuietSends ds → (me : RoleId) (s : State)
    → InState c history sent me s → InState c history (sent ++ ds) me s
still_state c history sent ds quiet me s h =
    carry_state c history sent ds (grows_wide history sent (sent ++ ds) (quiet_widens history sent ds quiet)) me s
    (λ own e. quiet_round ds quiet own.round) (quiet_ballot ds quiet (durable_of replacer_rules me history).own) h

-- the frame: the facts hold after they are sent
pub send_plain : (c : Cluster) (history : List KeptRecord) (sent : List Letter) (states : RoleId → State) (me : RoleId)
    → Facts c history sent (set_state me Down states) → (ds : List Letter) (s : State)
    → ((d : Letter) → Member d ds → Says c history (sent ++ ds) d.from d.msg) → QuietSends ds
    → InState c history (sent ++ ds) me s → Facts c history (sent ++ ds) (set_state me s states)
send_plain c history sent states me facts ds s says quiet running =
    send c history sent states me facts ds s (quiet_widens history sent ds quiet) says
    (λ i t v x. absurd ((quiet_round ds quiet i).0 t v x)) (λ i x. absurd ((quiet_round ds quiet i).1 x))
    (λ i t v w x y. absurd ((quiet_round ds quiet i).0 t v x))
    (λ from to b u m. absurd (quiet_ballot ds quiet b u (from, to, m))) (λ b u w x y. absurd (quiet_ballot ds quiet b u x)) running
