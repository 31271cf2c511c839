-- The facts hold once a record on sets of matchmakers is kept: a stop, a next set, a beginning, a ballot.
use Rattle.cx_inv_run.proofs.Common.{◌≡◌, ℕ, true, false, ◌⊎◌, List, ◌∷◌, inl, inr, ap, sym, subst, ◌∙◌, ⊎_elim, refl, true≢false}
use Rattle.cx_inv_run.proofs.Common.{same_Some, Cluster, RoleId, Round, Shape, role, is_before, no_round, Entry, Letter, KeptRecord}
use Rattle.cx_inv_run.proofs.Common.{MatchmakerDurable, matchmaker_rules, matchmaker_after, entry, Member, HasKept, replacer_rules, State}
use Rattle.cx_inv_run.proofs.Common.{Down, set_state, entry_by, durable_of, kept_cases, itself-not_before, before-not, before-from_at_most}
use Rattle.cx_inv_run.proofs.Common.{at_most-trans, before-both, HasRound}
use Rattle.cx_base.specs.declared.role.Kind.TheVariants as kind
use Rattle.cx_letter.specs.declared.kept.Record.TheVariants as kept
use Rattle.cx_inv_match.specs.Words.{HasMatch, HasBoot, HasStop, HasNext, HasBallot, IsKnown, IsUsed, IsMember, IsNextSet, IsBoot, SetFacts}
use Rattle.cx_inv_match.specs.Facts.{IsMatchmaker, IsNextAsked, IsAsked, Facts}
use Rattle.cx_inv_match.proofs.Grow.{Grows, grown_known, grown_round, grown_ballot, grown_watermark}
use Rattle.cx_inv_match.proofs.Parts.{covers_itself}
use Rattle.cx_inv_match.proofs.SetLaws.{grown_sets}
use Rattle.cx_inv_match.proofs.Keep.{old_begun, old_boots, old_nexts, old_stops, old_ballots, old_had, more_own, old_matches, old_garbages}
use Rattle.cx_inv_match.proofs.KeepFacts.{old_known_sets, old_sets, old_accepted, old_balloter, new_last_ballot, old_last_ballot}
use Rattle.cx_inv_match.proofs.KeepFacts.{kept_facts, new_logs}
use Rattle.cx_inv_match.proofs.KeepFacts.{old_owner, old_one_grid, old_last, old_asked, old_garbaged, old_logs, old_acceptors, old_voted}
use Rattle.cx_inv_match.proofs.KeepFacts.{old_logged}
use Rattle.cx_inv_match.proofs.Records.{no, grows_with, grows_else}

-- A BALLOT AND A NEXT SET

module _ (c : Cluster) (history : List KeptRecord) (sent : List Letter) (states : RoleId → State) (facts : Facts c history sent states)
    (me : RoleId) (b : Round) (member : IsMember c history me) (real : is_before no_round b ≡ true) where
  abbrev own : MatchmakerDurable
  own = durable_of matchmaker_rules me history

  -- a matchmaker stops

  module _ (above : is_before own.ballot b ≡ true) where
    stop_cases : (m : RoleId) (a : Round) → HasStop (entry_by me (kept.Stop b) ∷ history) m a → ((m ≡ me) × (a ≡ b)) ⊎ HasStop history m a
    stop_cases m a x = ⊎_elim
        (λ q. let e : kept.Stop a ≡ kept.Stop b = q.1 in inl (q.0, cc))
        (λ o. inr o)
        (kept_cases me m (kept.Stop b) (kept.Stop a) history x)

    pub grows_stop : Grows history sent (entry_by me (kept.Stop b) ∷ history) sent
    grows_stop = grows_else history sent me (kept.Stop b) no no no no no no

    stop_ballots : (a : Round) → HasBallot (entry_by me (kept.Stop b) ∷ history) me a → is_before b a ≡ false
    stop_ballots a (inl x) = ⊎_elim
        (λ q. subst (λ y. is_before b y ≡ false) (sym q.1) (itself-not_before b))
        (λ o. before-not a b (before-from_at_most a own.ballot b ((facts.logs me).ballots a (inl o)) above))
        (stop_cases me a x)
    stop_ballots a (inr x) = before-not a b (before-from_at_most a own.ballot b
        ((facts.logs me).ballots a (inr (x.0, old_nexts me (kept.Stop b) history no me a x.0 x.1))) above)

    stop_own : IsMatchmaker c (entry_by me (kept.Stop b) ∷ history) sent me (matchmaker_after own (kept.Stop b))
    stop_own = record {
      all = λ j g l x. (facts.logs me).all j g l (old_had me (kept.Stop b) history no no me j g x);
      only = λ e m. ⊎_elim (λ y. inl (grown_round c history sent (entry_by me (kept.Stop b) ∷ history) sent grows_stop me e.round e.grid y))
          (λ y. inr (inr y)) ((facts.logs me).only e m);
      from_watermark = (facts.logs me).from_watermark;
      bound = λ j g x. (facts.logs me).bound j g (old_garbages me (kept.Stop b) history no me j g x);
      boots = λ s w es x. (facts.logs me).boots s w es (old_boots me (kept.Stop b) history no me s w es x);
      raised = grown_watermark c history sent (entry_by me (kept.Stop b) ∷ history) sent grows_stop own.watermark own.entries
          (facts.logs me).raised;
      none = λ e j g x. (facts.logs me).none e j g (old_garbages me (kept.Stop b) history no me j g x);
      own = more_own history (entry_by me (kept.Stop b) ∷ history) (λ k x. inr x) me (durable_of matchmaker_rules me history).watermark
          (facts.logs me).own;
      began = λ s e. let x = (facts.logs me).began s e in (x.0, x.1, inr x.2);
      unbegun = λ e s w es x. (facts.logs me).unbegun e s w es (old_boots me (kept.Stop b) history no me s w es x);
      ballots = stop_ballots;
      ballot = inr (inl (inl refl));
      unstopped = λ e x. true≢false (sym real ∙ subst (λ y. is_before no_round y ≡ false) (sym e) (itself-not_before no_round));
      nexts = λ a s x. (facts.logs me).nexts a s (old_nexts me (kept.Stop b) history no me a s x);
      accepted = ⊎_elim inl (λ x. inr (inr x)) (facts.logs me).accepted;
    }

    stop_member : (m : RoleId) → m ≡ me → IsMember c (entry_by me (kept.Stop b) ∷ history) m
    stop_member m e = subst (λ t. IsMember c (entry_by me (kept.Stop b) ∷ history) t) (sym e) (more member)
      where
        more : IsMember c history me → IsMember c (entry_by me (kept.Stop b) ∷ history) me
        more (inl k) = inl k
        more (inr k) = inr (k.0, k.1, k.2, inr k.3)

    stop_sets : SetFacts c (entry_by me (kept.Stop b) ∷ history)
    stop_sets = grown_sets c history sent (entry_by me (kept.Stop b) ∷ history) sent grows_stop facts.sets
        (λ m a t x. inl (old_nexts me (kept.Stop b) history no m a t x))
        (λ m s w es x. inl (old_boots me (kept.Stop b) history no m s w es x))
        (λ m j g x. inl (old_matches me (kept.Stop b) history no m j g x))
        used
      where
        used : (m : RoleId) → IsUsed (entry_by me (kept.Stop b) ∷ history) m
            → IsUsed history m ⊎ IsMember c (entry_by me (kept.Stop b) ∷ history) m
        used m (inl (j, (g, inl x))) = inl (inl (j, (g, inl (old_had me (kept.Stop b) history no no m j g x))))
        used m (inl (j, (g, inr x))) = inl (inl (j, (g, inr (old_garbages me (kept.Stop b) history no m j g x))))
        used m (inr (a, inr x)) = inl (inr (a, inr (x.0, old_nexts me (kept.Stop b) history no m a x.0 x.1)))
        used m (inr (a, inl x)) = ⊎_elim (λ q. inr (stop_member m q.0)) (λ o. inl (inr (a, inl o))) (stop_cases m a x)

    pub keep_stop : Facts c (entry_by me (kept.Stop b) ∷ history) sent (set_state me Down states)
    keep_stop = kept_facts c history sent states facts me (kept.Stop b) grows_stop
        (old_owner c history sent states facts me (kept.Stop b) grows_stop no)
        (old_one_grid c history sent states facts me (kept.Stop b) grows_stop no)
        (old_last c history sent states facts me (kept.Stop b) grows_stop no refl)
        (old_asked c history sent states facts me (kept.Stop b) grows_stop no)
        (old_garbaged c history sent states facts me (kept.Stop b) grows_stop no)
        (new_logs c history sent states facts me (kept.Stop b) grows_stop stop_own)
        (old_acceptors c history sent states facts me (kept.Stop b) grows_stop no no no refl)
        (old_voted c history sent states facts me (kept.Stop b) grows_stop no)
        (old_logged c history sent states facts me (kept.Stop b) grows_stop refl)
        stop_sets
        (old_accepted c history sent states facts me (kept.Stop b) grows_stop no)
        (old_balloter c history sent states facts me (kept.Stop b) grows_stop no)
        (old_last_ballot c history sent states facts me (kept.Stop b) grows_stop no refl)
        (old_known_sets c history sent states facts me (kept.Stop b) grows_stop no)

  -- it accepts the next set

  module _ (s : List ℕ) (at_least : is_before b own.ballot ≡ false) (next : IsNextSet c history me b s) (asked : IsAsked sent me b s) where
    next_cases : (m : RoleId) (a : Round) (t : List ℕ) → HasNext (entry_by me (kept.Next b s) ∷ history) m a t
        → ((m ≡ me) × (a ≡ b) × (t ≡ s)) ⊎ HasNext history m a t
    next_cases m a t x = ⊎_elim
        (λ q. let e : kept.Next a t ≡ kept.Next b s = q.1 in inl (q.0, cc, cc))
        (λ o. inr o)
        (kept_cases me m (kept.Next b s) (kept.Next a t) history x)

    -- no ballot that it promised is above
    next_top : (a : Round) → HasBallot history me a → is_before b a ≡ false
    next_top a x = at_most-trans a own.ballot b ((facts.logs me).ballots a x) at_least

    pub grows_next : Grows history sent (entry_by me (kept.Next b s) ∷ history) sent
    grows_next = grows_with history sent me (kept.Next b s) no no
        (λ m k j h l x y. old_matches me (kept.Next b s) history no m j h y)
        (λ m t w es u x. old_boots me (kept.Next b s) history no m t w es x)
        (λ m j h u x. old_matches me (kept.Next b s) history no m j h x)
        (λ m j h u x. old_garbages me (kept.Next b s) history no m j h x)
        (λ m a d u l p x. ⊎_elim
        (λ q. absurd (before-both b d (subst (λ y. is_before y d ≡ true) q.1 l) (next_top d (subst (λ t. HasBallot history t d) q.0 p))))
        (λ o. o)
        (next_cases m a u x))

    next_ballots : (a : Round) → HasBallot (entry_by me (kept.Next b s) ∷ history) me a → is_before b a ≡ false
    next_ballots a (inl x) = next_top a (inl (old_stops me (kept.Next b s) history no me a x))
    next_ballots a (inr x) = ⊎_elim
        (λ q. subst (λ y. is_before b y ≡ false) (sym q.1) (itself-not_before b))
        (λ o. next_top a (inr (x.0, o)))
        (next_cases me a x.0 x.1)

    next_own : IsMatchmaker c (entry_by me (kept.Next b s) ∷ history) sent me (matchmaker_after own (kept.Next b s))
    next_own = record {
      all = λ j g l x. (facts.logs me).all j g l (old_had me (kept.Next b s) history no no me j g x);
      only = λ e m. ⊎_elim (λ y. inl (grown_round c history sent (entry_by me (kept.Next b s) ∷ history) sent grows_next me e.round e.grid
          y)) (λ y. inr (inr y)) ((facts.logs me).only e m);
      from_watermark = (facts.logs me).from_watermark;
      bound = λ j g x. (facts.logs me).bound j g (old_garbages me (kept.Next b s) history no me j g x);
      boots = λ t w es x. (facts.logs me).boots t w es (old_boots me (kept.Next b s) history no me t w es x);
      raised = grown_watermark c history sent (entry_by me (kept.Next b s) ∷ history) sent grows_next own.watermark own.entries
          (facts.logs me).raised;
      none = λ e j g x. (facts.logs me).none e j g (old_garbages me (kept.Next b s) history no me j g x);
      own = more_own history (entry_by me (kept.Next b s) ∷ history) (λ k x. inr x) me (durable_of matchmaker_rules me history).watermark
          (facts.logs me).own;
      began = λ t e. let x = (facts.logs me).began t e in (x.0, x.1, inr x.2);
      unbegun = λ e t w es x. (facts.logs me).unbegun e t w es (old_boots me (kept.Next b s) history no me t w es x);
      ballots = next_ballots;
      ballot = inr (inr (s, inl refl));
      unstopped = λ e x. true≢false (sym real ∙ subst (λ y. is_before no_round y ≡ false) (sym e) (itself-not_before no_round));
      nexts = λ a t x. next_ballots a (inr (t, x));
      accepted = inr (inl refl);
    }

    next_sets : SetFacts c (entry_by me (kept.Next b s) ∷ history)
    next_sets = grown_sets c history sent (entry_by me (kept.Next b s) ∷ history) sent grows_next facts.sets
        (λ m a t x. ⊎_elim
        (λ q. inr (
          subst (λ y. IsNextSet c history y a t) (sym q.0)
              (subst (λ y. IsNextSet c history me y t) (sym q.1) (subst (λ y. IsNextSet c history me b y) (sym q.2) next)),
          λ o u y. next_one o a u y q.1 ∙ sym q.2,
        ))
        (λ o. inl o)
        (next_cases m a t x))
        (λ m t w es x. inl (old_boots me (kept.Next b s) history no m t w es x))
        (λ m j g x. inl (old_matches me (kept.Next b s) history no m j g x))
        used
      where
        -- whoever accepted a set in this ballot accepted this one
        next_one : (o : RoleId) (a : Round) (u : List ℕ) → HasNext (entry_by me (kept.Next b s) ∷ history) o a u → a ≡ b → u ≡ s
        next_one o a u y e = ⊎_elim
            (λ p. p.2) (λ z. facts.one_asked b u s (subst (λ i. IsNextAsked sent i u) e (let y = facts.accepted o a u z in (y.0, o, y.1)))
            (asked.0, me, asked.1)) (next_cases o a u y)

        next_member : (m : RoleId) → m ≡ me → IsMember c (entry_by me (kept.Next b s) ∷ history) m
        next_member m e = subst (λ t. IsMember c (entry_by me (kept.Next b s) ∷ history) t) (sym e) (more member)
          where
            more : IsMember c history me → IsMember c (entry_by me (kept.Next b s) ∷ history) me
            more (inl k) = inl k
            more (inr k) = inr (k.0, k.1, k.2, inr k.3)

        used : (m : RoleId) → IsUsed (entry_by me (kept.Next b s) ∷ history) m
            → IsUsed history m ⊎ IsMember c (entry_by me (kept.Next b s) ∷ history) m
        used m (inl (j, (g, inl x))) = inl (inl (j, (g, inl (old_had me (kept.Next b s) history no no m j g x))))
        used m (inl (j, (g, inr x))) = inl (inl (j, (g, inr (old_garbages me (kept.Next b s) history no m j g x))))
        used m (inr (a, inl x)) = inl (inr (a, inl (old_stops me (kept.Next b s) history no m a x)))
        used m (inr (a, inr x)) = ⊎_elim (λ q. inr (next_member m q.0)) (λ o. inl (inr (a, inr (x.0, o)))) (next_cases m a x.0 x.1)

    pub keep_next : Facts c (entry_by me (kept.Next b s) ∷ history) sent (set_state me Down states)
    keep_next = kept_facts c history sent states facts me (kept.Next b s) grows_next
        (old_owner c history sent states facts me (kept.Next b s) grows_next no)
        (old_one_grid c history sent states facts me (kept.Next b s) grows_next no)
        (old_last c history sent states facts me (kept.Next b s) grows_next no refl)
        (old_asked c history sent states facts me (kept.Next b s) grows_next no)
        (old_garbaged c history sent states facts me (kept.Next b s) grows_next no)
        (new_logs c history sent states facts me (kept.Next b s) grows_next next_own)
        (old_acceptors c history sent states facts me (kept.Next b s) grows_next no no no refl)
        (old_voted c history sent states facts me (kept.Next b s) grows_next no)
        (old_logged c history sent states facts me (kept.Next b s) grows_next refl)
        next_sets (λ m a t x. ⊎_elim (λ q. subst (λ y. IsAsked sent y a t) (sym q.0) (subst (λ y. IsAsked sent me y t) (sym q.1)
        (subst (λ y. IsAsked sent me b y) (sym q.2) asked))) (λ o. facts.accepted m a t o) (next_cases m a t x))
        (old_balloter c history sent states facts me (kept.Next b s) grows_next no)
        (old_last_ballot c history sent states facts me (kept.Next b s) grows_next no refl)
        (old_known_sets c history sent states facts me (kept.Next b s) grows_next no)

-- A MATCHMAKER BEGINS

module _ (c : Cluster) (history : List KeptRecord) (sent : List Letter) (states : RoleId → State) (facts : Facts c history sent states)
    (me : RoleId) (s : List ℕ) (w : Round) (es : List Entry) (member : Member me.index s) (boot : IsBoot c history s w es)
    (unused : IsUsed history me → ⊥) (unbegun : (t : List ℕ) (v : Round) (xs : List Entry) → HasBoot history me t v xs → ⊥) where
  abbrev before : MatchmakerDurable
  before = durable_of matchmaker_rules me history

  boot_cases : (m : RoleId) (t : List ℕ) (v : Round) (xs : List Entry) → HasBoot (entry_by me (kept.Boot s w es) ∷ history) m t v xs
      → ((m ≡ me) × (t ≡ s) × (v ≡ w) × (xs ≡ es)) ⊎ HasBoot history m t v xs
  boot_cases m t v xs x = ⊎_elim
      (λ q. let e : kept.Boot t v xs ≡ kept.Boot s w es = q.1 in inl (q.0, cc, cc, cc))
      (λ o. inr o)
      (kept_cases me m (kept.Boot s w es) (kept.Boot t v xs) history x)

  pub grows_boot : Grows history sent (entry_by me (kept.Boot s w es) ∷ history) sent
  grows_boot = grows_with history sent me (kept.Boot s w es) no no
      (λ m k j h l x y. old_matches me (kept.Boot s w es) history no m j h y)
      (λ m t v xs u x. ⊎_elim (λ q. absurd (unused (subst (λ y. IsUsed history y) q.0 u))) (λ o. o) (boot_cases m t v xs x))
      (λ m j h u x. old_matches me (kept.Boot s w es) history no m j h x)
      (λ m j h u x. old_garbages me (kept.Boot s w es) history no m j h x)
      (λ m a d u l p x. old_nexts me (kept.Boot s w es) history no m a u x)

  -- it recorded nothing before
  no_match : (j : Round) (g : Shape) {A : Type 0} → HasMatch history me j g → A
  no_match j g x = absurd (unused (inl (j, (g, inl (inl x)))))

  own_boot : (t : List ℕ) (v : Round) (xs : List Entry) → HasBoot (entry_by me (kept.Boot s w es) ∷ history) me t v xs
      → (t ≡ s) × (v ≡ w) × (xs ≡ es)
  own_boot t v xs x = ⊎_elim (λ q. (q.1, q.2, q.3)) (λ o. absurd (unbegun t v xs o)) (boot_cases me t v xs x)

  boot_all : (j : Round) (g : Shape) → HasRound (entry_by me (kept.Boot s w es) ∷ history) me j g → Member (entry j g) es
  boot_all j g (inl x) = no_match j g (old_matches me (kept.Boot s w es) history no me j g x)
  boot_all j g (inr x) = subst (λ (l : List Entry). Member (entry j g) l) (own_boot x.0 x.1 x.2 x.3).2 x.4

  boot_own : IsMatchmaker c (entry_by me (kept.Boot s w es) ∷ history) sent me (matchmaker_after before (kept.Boot s w es))
  boot_own = record {
    all = λ j g l x. covers_itself c j g es (boot_all j g x);
    only = λ e m. inl (inr (s, w, es, inl refl, m));
    from_watermark = λ e m. (boot.join.only e m).1;
    bound = λ j g x. absurd (unused (inl (j, (g, inr (old_garbages me (kept.Boot s w es) history no me j g x)))));
    boots = λ t v xs x. subst (λ y. is_before w y ≡ false) (sym (own_boot t v xs x).1) (itself-not_before w);
    raised = grown_watermark c history sent (entry_by me (kept.Boot s w es) ∷ history) sent grows_boot w es boot.join.raised;
    none = λ e j g x. unused (inl (j, (g, inr (old_garbages me (kept.Boot s w es) history no me j g x))));
    own = inr (inr (s, es, inl refl));
    began = λ t e. (w, es, inl (ap (λ y. entry_by me (kept.Boot y w es)) (sym (same_Some s t e))));
    unbegun = λ e t v xs x. cc;
    ballots = λ b x. (facts.logs me).ballots b (old_ballots me (kept.Boot s w es) history no no me b x);
    ballot = ⊎_elim inl (λ x. inr (grown_ballot c history sent (entry_by me (kept.Boot s w es) ∷ history) sent grows_boot me _ x))
        (facts.logs me).ballot;
    unstopped = λ e x. (facts.logs me).unstopped e (x.0, old_ballots me (kept.Boot s w es) history no no me x.0 x.1);
    nexts = λ b t x. (facts.logs me).nexts b t (old_nexts me (kept.Boot s w es) history no me b t x);
    accepted = ⊎_elim inl (λ x. inr (inr x)) (facts.logs me).accepted;
  }

  boot_sets : SetFacts c (entry_by me (kept.Boot s w es) ∷ history)
  boot_sets = grown_sets c history sent (entry_by me (kept.Boot s w es) ∷ history) sent grows_boot facts.sets
      (λ m b t x. inl (old_nexts me (kept.Boot s w es) history no m b t x))
      (λ m t v xs x. ⊎_elim
      (λ q. inr (
        subst (λ (y : RoleId). Member y.index t) (sym q.0) (subst (λ (y : List ℕ). Member me.index y) (sym q.1) member),
        rw (q.1, q.2, q.3) boot,
        λ i g y. absurd (unused (subst (λ z. IsUsed history z) q.0
            (inl (i, (g, inl (inl (old_matches me (kept.Boot s w es) history no m i g y))))))),
      ))
      (λ o. inl o)
      (boot_cases m t v xs x))
      (λ m i g x. inl (old_matches me (kept.Boot s w es) history no m i g x))
      used
    where
      used : (m : RoleId) → IsUsed (entry_by me (kept.Boot s w es) ∷ history) m
          → IsUsed history m ⊎ IsMember c (entry_by me (kept.Boot s w es) ∷ history) m
      used m (inr x) = inl (inr (x.0, old_ballots me (kept.Boot s w es) history no no m x.0 x.1))
      used m (inl (j, (g, inr x))) = inl (inl (j, (g, inr (old_garbages me (kept.Boot s w es) history no m j g x))))
      used m (inl (j, (g, inl (inl x)))) = inl (inl (j, (g, inl (inl (old_matches me (kept.Boot s w es) history no m j g x)))))
      used m (inl (j, (g, inl (inr x)))) = inr (inr (x.0, x.1, x.2, x.3))

  pub keep_boot : Facts c (entry_by me (kept.Boot s w es) ∷ history) sent (set_state me Down states)
  keep_boot = kept_facts c history sent states facts me (kept.Boot s w es) grows_boot
      (old_owner c history sent states facts me (kept.Boot s w es) grows_boot no)
      (old_one_grid c history sent states facts me (kept.Boot s w es) grows_boot no)
      (old_last c history sent states facts me (kept.Boot s w es) grows_boot no refl)
      (old_asked c history sent states facts me (kept.Boot s w es) grows_boot no)
      (old_garbaged c history sent states facts me (kept.Boot s w es) grows_boot no)
      (new_logs c history sent states facts me (kept.Boot s w es) grows_boot boot_own)
      (old_acceptors c history sent states facts me (kept.Boot s w es) grows_boot no no no refl)
      (old_voted c history sent states facts me (kept.Boot s w es) grows_boot no)
      (old_logged c history sent states facts me (kept.Boot s w es) grows_boot refl)
      boot_sets
      (old_accepted c history sent states facts me (kept.Boot s w es) grows_boot no)
      (old_balloter c history sent states facts me (kept.Boot s w es) grows_boot no)
      (old_last_ballot c history sent states facts me (kept.Boot s w es) grows_boot no refl)
      (old_known_sets c history sent states facts me (kept.Boot s w es) grows_boot no)

-- A REPLACER BEGINS A BALLOT

module _ (c : Cluster) (history : List KeptRecord) (sent : List Letter) (states : RoleId → State) (facts : Facts c history sent states)
    (me : RoleId) (b : Round) (owned : me ≡ role kind.Replacer b.id)
    (above : is_before (durable_of replacer_rules me history).own b ≡ true) where
  ballot_cases : (a : RoleId) (d : Round) → HasKept (entry_by me (kept.Ballot b) ∷ history) a (kept.Ballot d)
      → ((a ≡ me) × (d ≡ b)) ⊎ HasKept history a (kept.Ballot d)
  ballot_cases a d x = ⊎_elim
      (λ q. let e : kept.Ballot d ≡ kept.Ballot b = q.1 in inl (q.0, cc))
      (λ o. inr o)
      (kept_cases me a (kept.Ballot b) (kept.Ballot d) history x)

  pub grows_ballot : Grows history sent (entry_by me (kept.Ballot b) ∷ history) sent
  grows_ballot = grows_else history sent me (kept.Ballot b) no no no no no no

  -- nobody was asked to accept a set in it
  pub ballot_new : (t : List ℕ) → IsNextAsked sent b t → ⊥
  ballot_new t x =
      let k = (facts.asks x.0 x.1 b t x.2).1 in
      before-both (durable_of replacer_rules me history).own b above
      ((facts.last_ballot me).0 b (subst (λ y. HasKept history y (kept.Ballot b)) (sym owned) k))

  pub keep_ballot : Facts c (entry_by me (kept.Ballot b) ∷ history) sent (set_state me Down states)
  keep_ballot = kept_facts c history sent states facts me (kept.Ballot b) grows_ballot
      (old_owner c history sent states facts me (kept.Ballot b) grows_ballot no)
      (old_one_grid c history sent states facts me (kept.Ballot b) grows_ballot no)
      (old_last c history sent states facts me (kept.Ballot b) grows_ballot no refl)
      (old_asked c history sent states facts me (kept.Ballot b) grows_ballot no)
      (old_garbaged c history sent states facts me (kept.Ballot b) grows_ballot no)
      (old_logs c history sent states facts me (kept.Ballot b) grows_ballot no no no no no refl)
      (old_acceptors c history sent states facts me (kept.Ballot b) grows_ballot no no no refl)
      (old_voted c history sent states facts me (kept.Ballot b) grows_ballot no)
      (old_logged c history sent states facts me (kept.Ballot b) grows_ballot refl)
      (old_sets c history sent states facts me (kept.Ballot b) grows_ballot no no no no no)
      (old_accepted c history sent states facts me (kept.Ballot b) grows_ballot no)
      (λ a d x. ⊎_elim (λ q. rw (q.0, q.1) owned) (λ o. facts.balloter a d o) (ballot_cases a d x))
      (new_last_ballot c history sent states facts me (kept.Ballot b) grows_ballot (
        λ d x. ⊎_elim
            (λ q. subst (λ y. is_before b y ≡ false) (sym q.1) (itself-not_before b))
            (λ o. before-not d b (before-from_at_most d (durable_of replacer_rules me history).own b ((facts.last_ballot me).0 d o) above))
            (ballot_cases me d x),
        inr (inl refl),
      ))
      (old_known_sets c history sent states facts me (kept.Ballot b) grows_ballot no)

-- A REPLACER KEEPS A SET THAT IT KNOWS

module _ (c : Cluster) (history : List KeptRecord) (sent : List Letter) (states : RoleId → State) (facts : Facts c history sent states)
    (me : RoleId) (s : List ℕ) (known : IsKnown c history s) where
  pub grows_set : Grows history sent (entry_by me (kept.Known s) ∷ history) sent
  grows_set = grows_else history sent me (kept.Known s) no no no no no no

  pub keep_known : Facts c (entry_by me (kept.Known s) ∷ history) sent (set_state me Down states)
  keep_known = kept_facts c history sent states facts me (kept.Known s) grows_set
      (old_owner c history sent states facts me (kept.Known s) grows_set no)
      (old_one_grid c history sent states facts me (kept.Known s) grows_set no)
      (old_last c history sent states facts me (kept.Known s) grows_set no refl)
      (old_asked c history sent states facts me (kept.Known s) grows_set no)
      (old_garbaged c history sent states facts me (kept.Known s) grows_set no)
      (old_logs c history sent states facts me (kept.Known s) grows_set no no no no no refl)
      (old_acceptors c history sent states facts me (kept.Known s) grows_set no no no refl)
      (old_voted c history sent states facts me (kept.Known s) grows_set no)
      (old_logged c history sent states facts me (kept.Known s) grows_set refl)
      (old_sets c history sent states facts me (kept.Known s) grows_set no no no no no)
      (old_accepted c history sent states facts me (kept.Known s) grows_set no)
      (old_balloter c history sent states facts me (kept.Known s) grows_set no)
      (new_last_ballot c history sent states facts me (kept.Known s) grows_set (
        λ b x. (facts.last_ballot me).0 b (old_begun me (kept.Known s) history no me b x),
        ⊎_elim inl (λ x. inr (inr x)) (facts.last_ballot me).1,
      ))
      (λ a t x. grown_known c history sent (entry_by me (kept.Known s) ∷ history) sent grows_set t (⊎_elim
      (λ q. let e : kept.Known t ≡ kept.Known s = q.1 in let same : s ≡ t = cc in subst (λ u. IsKnown c history u) same known)
      (λ o. facts.known_sets a t o)
      (kept_cases me a (kept.Known s) (kept.Known t) history x)))
