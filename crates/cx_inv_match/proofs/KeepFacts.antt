-- The facts, from those that differ by the kind of the record that was kept.
use Rattle.cx_inv_run.proofs.Common.{◌≡◌, ℕ, false, List, [], ◌∷◌, Some, inl, inr, sym, subst, ⊎_elim, slice_get, Cluster, Value}
use Rattle.cx_inv_run.proofs.Common.{RoleId, Round, Shape, role, same_role, Letter, KeptRecord, Record, acceptor_rules, acceptor_after}
use Rattle.cx_inv_run.proofs.Common.{HasVoted, IsProposed, IsRetiring, LeaderWasTold, LeaderDurable, leader_rules, leader_after, round_of}
use Rattle.cx_inv_run.proofs.Common.{matchmaker_rules, matchmaker_after, HasKept, IsConfig, ReplacerDurable, replacer_rules, values_in}
use Rattle.cx_inv_run.proofs.Common.{Kinds, State, Down, Plain, BatcherIn, LeaderIn, ProxyIn, ReplicaIn, ReaderIn, ReplacerIn, set_state}
use Rattle.cx_inv_run.proofs.Common.{entry_by, snap_by, durable_of, log_in, by_role, durable_own, durable_other, set_running, kept_other}
use Rattle.cx_inv_run.proofs.Common.{acceptor_snap_same, reader_snap_same, snap_same, HasRound}
use Rattle.cx_base.specs.declared.role.Kind.TheVariants as kind
use Rattle.cx_letter.specs.declared.input.Written.TheVariants as written
use Rattle.cx_letter.specs.declared.kept.Record.TheVariants as kept
use Rattle.cx_model.specs.Replacer.{replacer_after}
use Rattle.cx_inv_run.proofs.Snaps.{SameKept, log_else}
use Rattle.cx_inv_match.specs.Words.{HasMatch, HasGarbage, HasNext, HasBallot, IsUsed, HasMark, HasPromise, IsChosen, IsCollected, IsKnown}
use Rattle.cx_inv_match.specs.Words.{SetFacts}
use Rattle.cx_inv_match.specs.Facts.{IsAcceptor, IsMatchmaker, IsLastRound, IsLastBallot, IsAsked, InMode, InWork, InState, Facts}
use Rattle.cx_inv_match.proofs.Grow.{Grows, grown_config, grown_known, grown_next, grown_collected, grown_chosen_somewhere, grown_says}
use Rattle.cx_inv_match.proofs.Grow.{grown_mode, grown_work, grown_pending}
use Rattle.cx_inv_match.proofs.SetLaws.{grown_sets}
use Rattle.cx_inv_match.proofs.Keep.{IsRoundRecord, IsMatchRecord, IsGarbageRecord, IsPromiseRecord, IsVoteRecord, IsWaterRecord}
use Rattle.cx_inv_match.proofs.Keep.{IsStopRecord, IsNextRecord, IsBootRecord, IsBallotRecord, IsKnownRecord, old_known, old_rounds}
use Rattle.cx_inv_match.proofs.Keep.{old_matches, old_garbages}
use Rattle.cx_inv_match.proofs.Keep.{old_votes, old_marks, old_promises, old_boots, old_nexts, old_ballots, old_begun, old_had, old_used}
use Rattle.cx_inv_match.proofs.Keep.{other_had, other_ballots, other_votes, other_marks, other_promises, same_acceptor, same_last, same_log}

-- the facts, from those that differ by the kind of record
module _ (c : Cluster) (history : List KeptRecord) (sent : List Letter) (states : RoleId → State) (facts : Facts c history sent states)
    (me : RoleId) (r : Record) (grows : Grows history sent (entry_by me r ∷ history) sent) where
  abbrev longer : List KeptRecord
  longer = entry_by me r ∷ history

  pub grown_state : (a : RoleId) → same_role a me ≡ false → (s : State) → InState c history sent a s
      → InState c (entry_by me r ∷ history) sent a s
  grown_state a e Down h = tt
  grown_state a e Plain h = tt
  grown_state a e (BatcherIn v) h = h
  grown_state a e (LeaderIn v) h = subst (λ (d : LeaderDurable). LeaderWasTold sent a (round_of d.own) v × InMode c (entry_by me r
      ∷ history) sent d.own v v.mode × IsKnown c (entry_by me r ∷ history) v.set) (sym (durable_other leader_rules me a r history e)) (
        h.0,
        grown_mode c history sent longer grows (durable_of leader_rules a history).own v v.mode h.1,
        grown_known c history sent longer sent grows v.set h.2,
      )
  grown_state a e (ProxyIn v) h = (h.0, λ p m. grown_pending c history sent longer sent grows p (h.1 p m))
  grown_state a e (ReplicaIn v) h = h
  grown_state a e (ReaderIn v) h = (h.0, h.1, grown_known c history sent longer sent grows v.set h.2)
  grown_state a e (ReplacerIn v) h =
      subst (λ (d : ReplacerDurable). IsKnown c longer v.set × InWork c longer sent a d.own v v.mode)
      (sym (durable_other replacer_rules me a r history e)) (
        grown_known c history sent longer sent grows v.set h.0,
        grown_work c history sent longer grows a (durable_of replacer_rules a history).own v v.mode h.1,
      )

  pub kept_facts :
      ((a : RoleId) (i : Round) (g : Shape) → HasKept (entry_by me r ∷ history) a (kept.Round i g) → a ≡ role kind.Leader i.id)
      → ((i : Round) (g h : Shape) → IsConfig (entry_by me r ∷ history) i g → IsConfig (entry_by me r ∷ history) i h → g ≡ h)
      → ((a : RoleId) → IsLastRound (entry_by me r ∷ history) a (durable_of leader_rules a (entry_by me r ∷ history)).own)
      → ((m : RoleId) (i : Round) (g : Shape) → HasMatch (entry_by me r ∷ history) m i g → IsConfig (entry_by me r ∷ history) i g)
      → ((m : RoleId) (i : Round) (g : Shape) → HasGarbage (entry_by me r ∷ history) m i g
      → IsConfig (entry_by me r ∷ history) i g × IsCollected c (entry_by me r ∷ history) sent i × IsRetiring sent i)
      → ((m : RoleId) → IsMatchmaker c (entry_by me r ∷ history) sent m (durable_of matchmaker_rules m (entry_by me r ∷ history)))
      → ((a : RoleId) → IsAcceptor (entry_by me r ∷ history) a (durable_of acceptor_rules a (entry_by me r ∷ history)))
      → ((a : RoleId) (i : Round) (s : ℕ) (v : Value) → HasVoted (entry_by me r ∷ history) a i s v → IsProposed sent i s v)
      → ((p s : ℕ) (v : Value) → slice_get (log_in (entry_by me r ∷ history) p) s ≡ Some v → IsChosen (entry_by me r ∷ history) s v)
      → SetFacts c (entry_by me r ∷ history)
      → ((m : RoleId) (b : Round) (t : List ℕ) → HasNext (entry_by me r ∷ history) m b t → IsAsked sent m b t)
      → ((a : RoleId) (b : Round) → HasKept (entry_by me r ∷ history) a (kept.Ballot b) → a ≡ role kind.Replacer b.id)
      → ((a : RoleId) → IsLastBallot (entry_by me r ∷ history) a (durable_of replacer_rules a (entry_by me r ∷ history)))
      → ((a : RoleId) (t : List ℕ) → HasKept (entry_by me r ∷ history) a (kept.Known t) → IsKnown c (entry_by me r ∷ history) t)
      → Facts c (entry_by me r ∷ history) sent (set_state me Down states)
  kept_facts owner one_grid last asked garbaged logs acceptors voted logged sets accepted balloter last_ballot known_sets = record {
    sets = sets;
    accepted = accepted;
    one_asked = facts.one_asked;
    asks = λ from to b t m. let x = facts.asks from to b t m in (grown_next c history sent longer sent grows to b t x.0, grows.more _ x.1);
    balloter = balloter;
    last_ballot = last_ballot;
    known_sets = known_sets;
    owner = owner;
    one_grid = one_grid;
    last = last;
    asked = asked;
    garbaged = garbaged;
    logs = logs;
    acceptors = acceptors;
    voted = voted;
    one_value = facts.one_value;
    logged = logged;
    says = λ d m. grown_says c history sent longer sent grows d.from d.msg (facts.says d m);
    running = set_running (λ a s. InState c (entry_by me r ∷ history) sent a s) me Down states tt
        (λ a e. grown_state a e (states a) (facts.running a));
  }

  -- of all roles, from the one that kept the record

  pub new_last : IsLastRound (entry_by me r ∷ history) me (leader_after (durable_of leader_rules me history) r).own
      → (a : RoleId) → IsLastRound (entry_by me r ∷ history) a (durable_of leader_rules a (entry_by me r ∷ history)).own
  new_last own =
      by_role (λ a. IsLastRound (entry_by me r ∷ history) a (durable_of leader_rules a (entry_by me r ∷ history)).own) me
      (subst (λ (d : LeaderDurable). IsLastRound (entry_by me r ∷ history) me d.own) (sym (durable_own leader_rules me r history)) own)
      (λ a e. subst (λ (d : LeaderDurable). IsLastRound (entry_by me r ∷ history) a d.own) (sym (durable_other leader_rules me a r history
      e)) (same_last history (entry_by me r ∷ history) grows.more a (durable_of leader_rules a history).own
      (λ i g x. kept_other me a r (kept.Round i g) history e x) (facts.last a)))

  pub new_logs : IsMatchmaker c (entry_by me r ∷ history) sent me (matchmaker_after (durable_of matchmaker_rules me history) r)
      → (m : RoleId) → IsMatchmaker c (entry_by me r ∷ history) sent m (durable_of matchmaker_rules m (entry_by me r ∷ history))
  new_logs own =
      by_role (λ a. IsMatchmaker c (entry_by me r ∷ history) sent a (durable_of matchmaker_rules a (entry_by me r ∷ history))) me
      (subst (λ d. IsMatchmaker c (entry_by me r ∷ history) sent me d) (sym (durable_own matchmaker_rules me r history)) own)
      (λ a e. subst (λ d. IsMatchmaker c (entry_by me r ∷ history) sent a d) (sym (durable_other matchmaker_rules me a r history e))
      (same_log c history sent longer sent grows a (durable_of matchmaker_rules a history) (other_had me r history a e)
      (λ i g x. kept_other me a r (kept.Garbage i g) history e x) (λ s w es x. kept_other me a r (kept.Boot s w es) history e x)
      (other_ballots me r history a e) (λ b s x. kept_other me a r (kept.Next b s) history e x) (facts.logs a)))

  pub new_acceptors : IsAcceptor (entry_by me r ∷ history) me (acceptor_after (durable_of acceptor_rules me history) r)
      → (a : RoleId) → IsAcceptor (entry_by me r ∷ history) a (durable_of acceptor_rules a (entry_by me r ∷ history))
  new_acceptors own =
      by_role (λ a. IsAcceptor (entry_by me r ∷ history) a (durable_of acceptor_rules a (entry_by me r ∷ history))) me
      (subst (λ d. IsAcceptor (entry_by me r ∷ history) me d) (sym (durable_own acceptor_rules me r history)) own)
      (λ a e. subst (λ d. IsAcceptor (entry_by me r ∷ history) a d) (sym (durable_other acceptor_rules me a r history e))
      (same_acceptor history (entry_by me r ∷ history) grows.more a (durable_of acceptor_rules a history)
      (other_promises me r history a e) (other_votes me r history a e) (other_marks me r history a e) (facts.acceptors a)))

  -- what a record of another kind leaves as it was

  pub old_owner : (IsRoundRecord r → ⊥) → (a : RoleId) (i : Round) (g : Shape)
      → HasKept (entry_by me r ∷ history) a (kept.Round i g) → a ≡ role kind.Leader i.id
  old_owner d a i g h = facts.owner a i g (old_rounds me r history d a i g h)

  pub old_one_grid : (IsRoundRecord r → ⊥) → (i : Round) (g h : Shape)
      → IsConfig (entry_by me r ∷ history) i g → IsConfig (entry_by me r ∷ history) i h → g ≡ h
  old_one_grid d i g h x y = facts.one_grid i g h (x.0, old_rounds me r history d x.0 i g x.1) (y.0, old_rounds me r history d y.0 i h y.1)

  pub old_last : (IsRoundRecord r → ⊥) → leader_after (durable_of leader_rules me history) r ≡ durable_of leader_rules me history
      → (a : RoleId) → IsLastRound (entry_by me r ∷ history) a (durable_of leader_rules a (entry_by me r ∷ history)).own
  old_last d e =
      new_last
      (subst (λ (l : LeaderDurable). IsLastRound (entry_by me r ∷ history) me l.own) (sym e)
      (same_last history (entry_by me r ∷ history) grows.more me (durable_of leader_rules me history).own
      (old_rounds me r history d me) (facts.last me)))

  pub old_asked : (IsMatchRecord r → ⊥) → (m : RoleId) (i : Round) (g : Shape)
      → HasMatch (entry_by me r ∷ history) m i g → IsConfig (entry_by me r ∷ history) i g
  old_asked d m i g x = grown_config c history sent longer sent grows i g (facts.asked m i g (old_matches me r history d m i g x))

  pub old_garbaged : (IsGarbageRecord r → ⊥) → (m : RoleId) (i : Round) (g : Shape) → HasGarbage (entry_by me r ∷ history) m i g
      → IsConfig (entry_by me r ∷ history) i g × IsCollected c (entry_by me r ∷ history) sent i × IsRetiring sent i
  old_garbaged d m i g x =
      let y = facts.garbaged m i g (old_garbages me r history d m i g x) in
      (grown_config c history sent longer sent grows i g y.0, grown_collected c history sent longer sent grows i y.1, y.2)

  pub old_logs : (IsMatchRecord r → ⊥) → (IsGarbageRecord r → ⊥) → (IsBootRecord r → ⊥) → (IsStopRecord r → ⊥) → (IsNextRecord r → ⊥)
      → matchmaker_after (durable_of matchmaker_rules me history) r ≡ durable_of matchmaker_rules me history
      → (m : RoleId) → IsMatchmaker c (entry_by me r ∷ history) sent m (durable_of matchmaker_rules m (entry_by me r ∷ history))
  old_logs matches garbages boots stops nexts e =
      new_logs
      (subst (λ l. IsMatchmaker c (entry_by me r ∷ history) sent me l) (sym e)
      (same_log c history sent longer sent grows me (durable_of matchmaker_rules me history)
      (old_had me r history matches boots me) (old_garbages me r history garbages me) (old_boots me r history boots me)
      (old_ballots me r history stops nexts me) (old_nexts me r history nexts me) (facts.logs me)))

  -- of sets

  pub old_sets : (IsMatchRecord r → ⊥) → (IsGarbageRecord r → ⊥) → (IsBootRecord r → ⊥) → (IsStopRecord r → ⊥) → (IsNextRecord r → ⊥)
      → SetFacts c (entry_by me r ∷ history)
  old_sets matches garbages boots stops nexts =
      grown_sets c history sent longer sent grows facts.sets
      (λ m b t x. inl (old_nexts me r history nexts m b t x)) (λ m s w es x. inl (old_boots me r history boots m s w es x))
      (λ m i g x. inl (old_matches me r history matches m i g x))
      (λ m x. inl (old_used me r history matches garbages boots stops nexts m x))

  pub old_accepted : (IsNextRecord r → ⊥) → (m : RoleId) (b : Round) (t : List ℕ) → HasNext (entry_by me r ∷ history) m b t
      → IsAsked sent m b t
  old_accepted d m b t x = facts.accepted m b t (old_nexts me r history d m b t x)

  pub old_balloter : (IsBallotRecord r → ⊥) → (a : RoleId) (b : Round) → HasKept (entry_by me r ∷ history) a (kept.Ballot b)
      → a ≡ role kind.Replacer b.id
  old_balloter d a b x = facts.balloter a b (old_begun me r history d a b x)

  pub new_last_ballot : IsLastBallot (entry_by me r ∷ history) me (replacer_after (durable_of replacer_rules me history) r)
      → (a : RoleId) → IsLastBallot (entry_by me r ∷ history) a (durable_of replacer_rules a (entry_by me r ∷ history))
  new_last_ballot own =
      by_role (λ a. IsLastBallot (entry_by me r ∷ history) a (durable_of replacer_rules a (entry_by me r ∷ history))) me
      (subst (λ d. IsLastBallot (entry_by me r ∷ history) me d) (sym (durable_own replacer_rules me r history)) own)
      (λ a e. subst (λ d. IsLastBallot (entry_by me r ∷ history) a d) (sym (durable_other replacer_rules me a r history e)) (
        λ b x. (facts.last_ballot a).0 b (kept_other me a r (kept.Ballot b) history e x),
        ⊎_elim inl (λ x. inr (inr x)) (facts.last_ballot a).1,
      ))

  pub old_last_ballot : (IsBallotRecord r → ⊥)
      → replacer_after (durable_of replacer_rules me history) r ≡ durable_of replacer_rules me history
      → (a : RoleId) → IsLastBallot (entry_by me r ∷ history) a (durable_of replacer_rules a (entry_by me r ∷ history))
  old_last_ballot d e =
      new_last_ballot (subst (λ x. IsLastBallot (entry_by me r ∷ history) me x) (sym e)
      (λ b x. (facts.last_ballot me).0 b (old_begun me r history d me b x), ⊎_elim inl (λ x. inr (inr x)) (facts.last_ballot me).1))

  pub old_known_sets : (IsKnownRecord r → ⊥) → (a : RoleId) (t : List ℕ) → HasKept (entry_by me r ∷ history) a (kept.Known t)
      → IsKnown c (entry_by me r ∷ history) t
  old_known_sets d a t x = grown_known c history sent longer sent grows t (facts.known_sets a t (old_known me r history d a t x))

  pub old_acceptors : (IsPromiseRecord r → ⊥) → (IsVoteRecord r → ⊥) → (IsWaterRecord r → ⊥)
      → acceptor_after (durable_of acceptor_rules me history) r ≡ durable_of acceptor_rules me history
      → (a : RoleId) → IsAcceptor (entry_by me r ∷ history) a (durable_of acceptor_rules a (entry_by me r ∷ history))
  old_acceptors promises votes waters e =
      new_acceptors
      (subst (λ d. IsAcceptor (entry_by me r ∷ history) me d) (sym e)
      (same_acceptor history (entry_by me r ∷ history) grows.more me (durable_of acceptor_rules me history) (old_promises me r history
      promises votes waters me) (old_votes me r history votes me) (old_marks me r history votes waters me) (facts.acceptors me)))

  pub old_voted : (IsVoteRecord r → ⊥) → (a : RoleId) (i : Round) (s : ℕ) (v : Value) → HasVoted (entry_by me r ∷ history) a i s v
      → IsProposed sent i s v
  old_voted d a i s v h = facts.voted a i s v (old_votes me r history d a i s v h)

  pub old_logged : values_in (written.Record r) ≡ []
      → (p s : ℕ) (v : Value) → slice_get (log_in (entry_by me r ∷ history) p) s ≡ Some v → IsChosen (entry_by me r ∷ history) s v
  old_logged e p s v x =
      grown_chosen_somewhere c history sent longer sent grows s v
      (facts.logged p s v (subst (λ l. slice_get l s ≡ Some v) (log_else me p r history e) x))

-- the facts of a history that has no record more
module _ (c : Cluster) (history longer : List KeptRecord) (sent : List Letter) (same : SameKept history longer) where
  back_mark : (a : RoleId) (i : Round) (n : ℕ) → HasMark longer a i n → HasMark history a i n
  back_mark a i n (inl x) = inl (x.0, x.1, same.back a (kept.Vote i x.0 n x.1) x.2)
  back_mark a i n (inr h) = inr (same.back a (kept.Water i n) h)

  back_promise : (a : RoleId) (i : Round) → HasPromise longer a i → HasPromise history a i
  back_promise a i (inl h) = inl (same.back a (kept.Promise i) h)
  back_promise a i (inr x) = inr (x.0, back_mark a i x.0 x.1)

  back_vote : (a : RoleId) (i : Round) (s : ℕ) (v : Value) → HasVoted longer a i s v → HasVoted history a i s v
  back_vote a i s v h = (h.0, same.back a (kept.Vote i s h.0 v) h.1)

  back_had : (m : RoleId) (i : Round) (g : Shape) → HasRound longer m i g → HasRound history m i g
  back_had m i g (inl h) = inl (same.back m (kept.Match i g) h)
  back_had m i g (inr h) = inr (h.0, h.1, h.2, same.back m (kept.Boot h.0 h.1 h.2) h.3, h.4)

  back_ballot : (m : RoleId) (b : Round) → HasBallot longer m b → HasBallot history m b
  back_ballot m b (inl h) = inl (same.back m (kept.Stop b) h)
  back_ballot m b (inr h) = inr (h.0, same.back m (kept.Next b h.0) h.1)

  back_used : (m : RoleId) → IsUsed longer m → IsUsed history m
  back_used m (inl h) =
      inl (h.0, (h.1.0, ⊎_elim (λ x. inl (back_had m h.0 h.1.0 x)) (λ x. inr (same.back m (kept.Garbage h.0 h.1.0) x)) h.1.1))
  back_used m (inr h) = inr (h.0, back_ballot m h.0 h.1)

  pub grows_same : Grows history sent longer sent
  grows_same = record {
    more = same.more;
    wide = λ d m. m;
    no_vote = λ a j s v past x. back_vote a j s v x;
    no_mark = λ a j n past x. back_mark a j n x;
    no_match = λ m i j h l y x. same.back m (kept.Match j h) x;
    no_boot = λ m s w es u x. same.back m (kept.Boot s w es) x;
    halted_match = λ m i g u x. same.back m (kept.Match i g) x;
    halted_garbage = λ m i g u x. same.back m (kept.Garbage i g) x;
    no_next = λ m a b t l u x. same.back m (kept.Next a t) x;
    no_proposal = λ j s v l x. x;
  }

  same_state : (a : RoleId) (s : State) → InState c history sent a s → InState c longer sent a s
  same_state a Down h = tt
  same_state a Plain h = tt
  same_state a (BatcherIn v) h = h
  same_state a (LeaderIn v) h =
      subst (λ (d : LeaderDurable). LeaderWasTold sent a (round_of d.own) v × InMode c longer sent d.own v v.mode × IsKnown c longer v.set)
      (sym (same.leaders a)) (
        h.0,
        grown_mode c history sent longer grows_same (durable_of leader_rules a history).own v v.mode h.1,
        grown_known c history sent longer sent grows_same v.set h.2,
      )
  same_state a (ProxyIn v) h = (h.0, λ p m. grown_pending c history sent longer sent grows_same p (h.1 p m))
  same_state a (ReplicaIn v) h = h
  same_state a (ReaderIn v) h = (h.0, h.1, grown_known c history sent longer sent grows_same v.set h.2)
  same_state a (ReplacerIn v) h =
      subst (λ (d : ReplacerDurable). IsKnown c longer v.set × InWork c longer sent a d.own v v.mode) (sym (same.replacers a)) (
        grown_known c history sent longer sent grows_same v.set h.0,
        grown_work c history sent longer grows_same a (durable_of replacer_rules a history).own v v.mode h.1,
      )

  pub same_facts : (states : RoleId → State) → Facts c history sent states → Facts c longer sent states
  same_facts states facts = record {
    owner = λ a i g h. facts.owner a i g (same.back a (kept.Round i g) h);
    one_grid = λ i g h x y. facts.one_grid i g h (x.0, same.back x.0 (kept.Round i g) x.1) (y.0, same.back y.0 (kept.Round i h) y.1);
    last = λ a. subst (λ (d : LeaderDurable). IsLastRound longer a d.own) (sym (same.leaders a)) (same_last history longer same.more a
        (durable_of leader_rules a history).own (λ i g x. same.back a (kept.Round i g) x) (facts.last a));
    asked = λ m i g x. grown_config c history sent longer sent grows_same i g (facts.asked m i g (same.back m (kept.Match i g) x));
    garbaged = λ m i g x.
        let y = facts.garbaged m i g (same.back m (kept.Garbage i g) x) in
        (grown_config c history sent longer sent grows_same i g y.0, grown_collected c history sent longer sent grows_same i y.1, y.2);
    logs = λ m. subst (λ d. IsMatchmaker c longer sent m d) (sym (same.matchmakers m))
        (same_log c history sent longer sent grows_same m (durable_of matchmaker_rules m history)
        (back_had m) (λ i g x. same.back m (kept.Garbage i g) x) (λ s w es x. same.back m (kept.Boot s w es) x)
        (back_ballot m) (λ b s x. same.back m (kept.Next b s) x) (facts.logs m));
    acceptors = λ a. subst (λ d. IsAcceptor longer a d) (sym (same.acceptors a)) (same_acceptor history longer same.more a
        (durable_of acceptor_rules a history) (back_promise a) (back_vote a) (back_mark a) (facts.acceptors a));
    sets = grown_sets c history sent longer sent grows_same facts.sets
        (λ m b t x. inl (same.back m (kept.Next b t) x)) (λ m s w es x. inl (same.back m (kept.Boot s w es) x))
        (λ m i g x. inl (same.back m (kept.Match i g) x)) (λ m x. inl (back_used m x));
    accepted = λ m b t x. facts.accepted m b t (same.back m (kept.Next b t) x);
    one_asked = facts.one_asked;
    asks =
        λ from to b t m. let x = facts.asks from to b t m in (grown_next c history sent longer sent grows_same to b t x.0, same.more _ x.1);
    balloter = λ a b x. facts.balloter a b (same.back a (kept.Ballot b) x);
    last_ballot = λ a. subst (λ d. IsLastBallot longer a d) (sym (same.replacers a))
        (λ b x. (facts.last_ballot a).0 b (same.back a (kept.Ballot b) x), ⊎_elim inl (λ x. inr (same.more _ x)) (facts.last_ballot a).1);
    known_sets = λ a t x. grown_known c history sent longer sent grows_same t (facts.known_sets a t (same.back a (kept.Known t) x));
    voted = λ a i s v h. facts.voted a i s v (back_vote a i s v h);
    one_value = facts.one_value;
    logged = λ p s v x. grown_chosen_somewhere c history sent longer sent grows_same s v
        (facts.logged p s v (subst (λ l. slice_get l s ≡ Some v) (same.logs p) x));
    says = λ d m. grown_says c history sent longer sent grows_same d.from d.msg (facts.says d m);
    running = λ a. same_state a (states a) (facts.running a);
  }

-- a replica forgets values
pub keep_snap : (c : Cluster) (history : List KeptRecord) (sent : List Letter) (states : RoleId → State) → Kinds history sent states
    → Facts c history sent states → (p first : ℕ) → Facts c (snap_by (role kind.Replica p) first ∷ history) sent states
keep_snap c history sent states kinds facts p first =
    same_facts c history (snap_by (role kind.Replica p) first ∷ history) sent (snap_same history kinds.keepers p first) states facts

-- an acceptor or a reader puts its list anew
pub keep_acceptor_anew : (c : Cluster) (history : List KeptRecord) (sent : List Letter) (states : RoleId → State)
    → Kinds history sent states → Facts c history sent states → (a first : ℕ)
    → Facts c (snap_by (role kind.Acceptor a) first ∷ history) sent states
keep_acceptor_anew c history sent states kinds facts a first =
    same_facts c history (snap_by (role kind.Acceptor a) first ∷ history) sent (acceptor_snap_same history kinds.keepers a first) states
    facts

pub keep_reader_anew : (c : Cluster) (history : List KeptRecord) (sent : List Letter) (states : RoleId → State)
    → Kinds history sent states → Facts c history sent states → (r first : ℕ)
    → Facts c (snap_by (role kind.Reader r) first ∷ history) sent states
keep_reader_anew c history sent states kinds facts r first =
    same_facts c history (snap_by (role kind.Reader r) first ∷ history) sent (reader_snap_same history kinds.keepers r first) states facts
