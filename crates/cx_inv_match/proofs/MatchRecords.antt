-- The facts hold once a matchmaker kept a round, or that it forgot the earlier ones.
use Rattle.cx_inv_run.proofs.Common.{◌≡◌, true, false, ◌⊎◌, List, [], ◌∷◌, ◌++◌, inl, inr, ap, sym, subst, ◌∙◌, ⊎_elim, refl}
use Rattle.cx_inv_run.proofs.Common.{true≢false, Cluster, RoleId, Round, Shape, is_before, Entry, Letter, KeptRecord, IsRetiring}
use Rattle.cx_inv_run.proofs.Common.{matchmaker_rules, matchmaker_after, entry, entries_since, IsConfig, State, Down, set_state, entry_by}
use Rattle.cx_inv_run.proofs.Common.{durable_of, kept_cases, Member-cases, Member-first, Member-second, before-trans, before-itself}
use Rattle.cx_inv_run.proofs.Common.{itself-not_before, before-not, before-from_at_most, before-to_at_least, least, HasRound}
use Rattle.cx_inv_match.specs.Prelude.{HasMatch, HasGarbage, HasBoot, HasLog, HasStopped, IsUsed, IsCollected, IsMember, IsWatermark}
use Rattle.cx_inv_match.specs.Prelude.{SetFacts, IsMatchmaker, Facts}
use Rattle.cx_letter.specs.declared.kept.Record.TheVariants as kept
use Rattle.cx_model.specs.Matchmaker.{beside, has_place}
use Rattle.cx_model.specs.Facts.{IsGridTold}
use Rattle.cx_inv_run.proofs.Rounds.{at_most-trans}
use Rattle.cx_inv_match.proofs.Grow.{Grows, grown_config, grown_round, grown_ballot, grown_watermark, grown_collected}
use Rattle.cx_inv_match.proofs.SetLaws.{grown_sets}
use Rattle.cx_inv_match.proofs.Parts.{entries-member, entries-there, with-member, with-older, with-itself, beside-member, beside-water}
use Rattle.cx_inv_match.proofs.Parts.{covers_itself, covers_beside}
use Rattle.cx_inv_match.proofs.Keep.{old_boots, old_nexts, old_ballots, old_had, more_own, old_matches, old_garbages}
use Rattle.cx_inv_match.proofs.KeepFacts.{old_known_sets, old_accepted, old_balloter, old_last_ballot, kept_facts, new_logs, old_owner}
use Rattle.cx_inv_match.proofs.KeepFacts.{old_one_grid}
use Rattle.cx_inv_match.proofs.KeepFacts.{old_last, old_asked, old_garbaged, old_acceptors, old_voted, old_logged}
use Rattle.cx_inv_match.proofs.Records.{no, grows_with}

-- A MATCHMAKER'S RECORDS

module _ (c : Cluster) (history : List KeptRecord) (sent : List Letter) (states : RoleId → State) (facts : Facts c history sent states)
    (me : RoleId) (i : Round) (g : Shape) (config : IsConfig history i g) (member : IsMember c history me)
    (running : HasStopped history me → ⊥) where
  -- a match

  module _ (above : (j : Round) → HasLog history me j → is_before j i ≡ true)
      (at_watermark : is_before i (durable_of matchmaker_rules me history).watermark ≡ false)
      (room : has_place c g (durable_of matchmaker_rules me history).entries ≡ true) where
    -- the entries beside which the round is recorded
    abbrev standing : List Entry
    standing = beside (durable_of matchmaker_rules me history).watermark g (durable_of matchmaker_rules me history).entries

    match_cases : (m : RoleId) (j : Round) (h : Shape) → HasMatch (entry_by me (kept.Match i g) ∷ history) m j h
        → ((m ≡ me) × (j ≡ i) × (h ≡ g)) ⊎ HasMatch history m j h
    match_cases m j h x = ⊎_elim
        (λ q. let e : kept.Match j h ≡ kept.Match i g = q.1 in inl (q.0, cc, cc))
        (λ o. inr o)
        (kept_cases me m (kept.Match i g) (kept.Match j h) history x)

    match_below : (m : RoleId) (k j : Round) (h : Shape) → is_before j k ≡ true → HasLog history m k
        → HasMatch (entry_by me (kept.Match i g) ∷ history) m j h → HasMatch history m j h
    match_below m k j h l y z = ⊎_elim (λ q. absurd (before-itself i (before-trans i k i (subst (λ t. is_before t k ≡ true) q.1 l)
        (above k (subst (λ t. HasLog history t k) q.0 y))))) (λ o. o) (match_cases m j h z)

    pub grows_match : Grows history sent (entry_by me (kept.Match i g) ∷ history) sent
    grows_match = grows_with history sent me (kept.Match i g) no no match_below
        (λ m s w es u x. old_boots me (kept.Match i g) history no m s w es x)
        (λ m j h u x. ⊎_elim (λ q. absurd (running (subst (λ t. HasStopped history t) q.0 u))) (λ o. o) (match_cases m j h x))
        (λ m j h u x. old_garbages me (kept.Match i g) history no m j h x)
        (λ m a b u l p x. old_nexts me (kept.Match i g) history no m a u x)

    match_asked : (m : RoleId) (j : Round) (h : Shape) → HasMatch (entry_by me (kept.Match i g) ∷ history) m j h
        → IsConfig (entry_by me (kept.Match i g) ∷ history) j h
    match_asked m j h x =
        grown_config c history sent (entry_by me (kept.Match i g) ∷ history) sent grows_match j h
        (⊎_elim (λ q. rw (q.1, q.2) config) (λ o. facts.asked m j h o) (match_cases m j h x))

    match_had : (j : Round) (h : Shape) → HasRound (entry_by me (kept.Match i g) ∷ history) me j h
        → ((j ≡ i) × (h ≡ g)) ⊎ HasRound history me j h
    match_had j h (inl x) = ⊎_elim (λ q. inl (q.1, q.2)) (λ o. inr (inl o)) (match_cases me j h x)
    match_had j h (inr x) = inr (inr (x.0, x.1, x.2, old_boots me (kept.Match i g) history no me x.0 x.1 x.2 x.3, x.4))

    match_own : IsMatchmaker c (entry_by me (kept.Match i g) ∷ history) sent me
        (matchmaker_after (durable_of matchmaker_rules me history) (kept.Match i g))
    match_own = record {
      all = λ j h l x. ⊎_elim
          (λ q. covers_itself c j h (standing ++ entry i g ∷ [])
          (Member-second (entry j h) standing (entry i g ∷ []) (inl (rw (q.0, q.1) refl))))
          (λ o. covers_beside c (durable_of matchmaker_rules me history) i j g h room (above j (h, inl o)) ((facts.logs me).all j h l o))
          (match_had j h x);
      only = λ e m. ⊎_elim
          (λ o. ⊎_elim (λ y. inl (grown_round c history sent (entry_by me (kept.Match i g) ∷ history) sent grows_match me e.round e.grid y))
          (λ y. inr (inr y)) ((facts.logs me).only e (beside-member (durable_of matchmaker_rules me history) g e o)))
          (λ n. ⊎_elim (λ q. inl (inl (inl (ap (λ (y : Entry). entry_by me (kept.Match y.round y.grid)) q)))) (λ z. absurd z) n)
          (Member-cases e standing (entry i g ∷ []) m);
      from_watermark = λ e m. ⊎_elim
          (λ o. (facts.logs me).from_watermark e (beside-member (durable_of matchmaker_rules me history) g e o))
          (λ n. ⊎_elim
          (λ q. subst (λ (y : Entry). is_before y.round (durable_of matchmaker_rules me history).watermark ≡ false) (sym q) at_watermark)
          (λ z. absurd z) n)
          (Member-cases e standing (entry i g ∷ []) m);
      bound = λ j h x. (facts.logs me).bound j h (old_garbages me (kept.Match i g) history no me j h x);
      boots = λ s w es x. (facts.logs me).boots s w es (old_boots me (kept.Match i g) history no me s w es x);
      raised = more_entries (grown_watermark c history sent (entry_by me (kept.Match i g) ∷ history) sent grows_match
          _ (durable_of matchmaker_rules me history).entries (facts.logs me).raised);
      none = λ e j h x. (facts.logs me).none e j h (old_garbages me (kept.Match i g) history no me j h x);
      own = more_own history (entry_by me (kept.Match i g) ∷ history) (λ k x. inr x) me (durable_of matchmaker_rules me history).watermark
          (facts.logs me).own;
      began = λ s e. let x = (facts.logs me).began s e in (x.0, x.1, inr x.2);
      unbegun = λ e s w es x. (facts.logs me).unbegun e s w es (old_boots me (kept.Match i g) history no me s w es x);
      ballots = λ b x. (facts.logs me).ballots b (old_ballots me (kept.Match i g) history no no me b x);
      ballot = ⊎_elim inl (λ x. inr (grown_ballot c history sent (entry_by me (kept.Match i g) ∷ history) sent grows_match me _ x))
          (facts.logs me).ballot;
      unstopped = λ e x. (facts.logs me).unstopped e (x.0, old_ballots me (kept.Match i g) history no no me x.0 x.1);
      nexts = λ b s x. (facts.logs me).nexts b s (old_nexts me (kept.Match i g) history no me b s x);
      accepted = ⊎_elim inl (λ x. inr (inr x)) (facts.logs me).accepted;
    }
      where
        more_entries : IsWatermark (entry_by me (kept.Match i g) ∷ history) (durable_of matchmaker_rules me history).watermark
            (durable_of matchmaker_rules me history).entries
            → IsWatermark (entry_by me (kept.Match i g) ∷ history) (durable_of matchmaker_rules me history).watermark
            (standing ++ entry i g ∷ [])
        more_entries (inl e) = inl e
        more_entries (inr x) = inr (
          x.0,
          (
            x.1.0,
            Member-first _ standing (entry i g ∷ [])
                (beside-water (durable_of matchmaker_rules me history) g x.1.0 x.1.1),
          ),
        )

    match_sets : SetFacts c (entry_by me (kept.Match i g) ∷ history)
    match_sets = grown_sets c history sent (entry_by me (kept.Match i g) ∷ history) sent grows_match facts.sets
        (λ m b t x. inl (old_nexts me (kept.Match i g) history no m b t x))
        (λ m s w es x. inl (old_boots me (kept.Match i g) history no m s w es x))
        (λ m j h x. ⊎_elim
        (λ q. inr (λ s w es b e n.
        let o = subst (λ t. HasBoot history t s w es) q.0 (old_boots me (kept.Match i g) history no m s w es b) in
        subst (λ t. is_before e.round t ≡ true) (sym q.1) (above e.round (e.grid, inl (inr (s, w, es, o, n))))))
        (λ o. inl o)
        (match_cases m j h x))
        match_used
      where
        match_used : (m : RoleId) → IsUsed (entry_by me (kept.Match i g) ∷ history) m
            → IsUsed history m ⊎ IsMember c (entry_by me (kept.Match i g) ∷ history) m
        match_used m (inr x) = inl (inr (x.0, old_ballots me (kept.Match i g) history no no m x.0 x.1))
        match_used m (inl (j, (h, inr x))) = inl (inl (j, (h, inr (old_garbages me (kept.Match i g) history no m j h x))))
        match_used m (inl (j, (h, inl (inr x)))) =
            inl (inl (j, (h, inl (inr (x.0, x.1, x.2, old_boots me (kept.Match i g) history no m x.0 x.1 x.2 x.3, x.4)))))
        match_used m (inl (j, (h, inl (inl x)))) = ⊎_elim
            (λ q. inr (subst (λ t. IsMember c (entry_by me (kept.Match i g) ∷ history) t) (sym q.0) (more_member member)))
            (λ o. inl (inl (j, (h, inl (inl o)))))
            (match_cases m j h x)
          where
            more_member : IsMember c history me → IsMember c (entry_by me (kept.Match i g) ∷ history) me
            more_member (inl k) = inl k
            more_member (inr k) = inr (k.0, k.1, k.2, inr k.3)

    pub keep_match : Facts c (entry_by me (kept.Match i g) ∷ history) sent (set_state me Down states)
    keep_match = kept_facts c history sent states facts me (kept.Match i g) grows_match
        (old_owner c history sent states facts me (kept.Match i g) grows_match no)
        (old_one_grid c history sent states facts me (kept.Match i g) grows_match no)
        (old_last c history sent states facts me (kept.Match i g) grows_match no refl)
        match_asked
        (old_garbaged c history sent states facts me (kept.Match i g) grows_match no)
        (new_logs c history sent states facts me (kept.Match i g) grows_match match_own)
        (old_acceptors c history sent states facts me (kept.Match i g) grows_match no no no refl)
        (old_voted c history sent states facts me (kept.Match i g) grows_match no)
        (old_logged c history sent states facts me (kept.Match i g) grows_match refl)
        match_sets
        (old_accepted c history sent states facts me (kept.Match i g) grows_match no)
        (old_balloter c history sent states facts me (kept.Match i g) grows_match no)
        (old_last_ballot c history sent states facts me (kept.Match i g) grows_match no refl)
        (old_known_sets c history sent states facts me (kept.Match i g) grows_match no)

  -- it forgets

  module _ (collected : IsCollected c history sent i) (retiring : IsRetiring sent i)
      (raises : is_before (durable_of matchmaker_rules me history).watermark i ≡ true) where
    garbage_cases : (m : RoleId) (j : Round) (h : Shape) → HasGarbage (entry_by me (kept.Garbage i g) ∷ history) m j h
        → ((m ≡ me) × (j ≡ i) × (h ≡ g)) ⊎ HasGarbage history m j h
    garbage_cases m j h x = ⊎_elim
        (λ q. let e : kept.Garbage j h ≡ kept.Garbage i g = q.1 in inl (q.0, cc, cc))
        (λ o. inr o)
        (kept_cases me m (kept.Garbage i g) (kept.Garbage j h) history x)

    pub grows_garbage : Grows history sent (entry_by me (kept.Garbage i g) ∷ history) sent
    grows_garbage = grows_with history sent me (kept.Garbage i g) no no
        (λ m k j h l x y. old_matches me (kept.Garbage i g) history no m j h y)
        (λ m s w es u x. old_boots me (kept.Garbage i g) history no m s w es x)
        (λ m j h u x. old_matches me (kept.Garbage i g) history no m j h x)
        (λ m j h u x. ⊎_elim (λ q. absurd (running (subst (λ t. HasStopped history t) q.0 u))) (λ o. o) (garbage_cases m j h x))
        (λ m a b u l p x. old_nexts me (kept.Garbage i g) history no m a u x)

    garbage_garbaged : (m : RoleId) (j : Round) (h : Shape) → HasGarbage (entry_by me (kept.Garbage i g) ∷ history) m j h
        → IsConfig (entry_by me (kept.Garbage i g) ∷ history) j h × IsCollected c (entry_by me (kept.Garbage i g) ∷ history) sent j
        × IsRetiring sent j
    garbage_garbaged m j h x =
        let y : IsConfig history j h × IsCollected c history sent j × IsRetiring sent j =
        ⊎_elim (λ q. rw (q.1, q.2) (config, collected, retiring)) (λ o. facts.garbaged m j h o) (garbage_cases m j h x) in (
          grown_config c history sent (entry_by me (kept.Garbage i g) ∷ history) sent grows_garbage j h y.0,
          grown_collected c history sent (entry_by me (kept.Garbage i g) ∷ history) sent grows_garbage j y.1,
          y.2,
        )

    garbage_own : IsMatchmaker c (entry_by me (kept.Garbage i g) ∷ history) sent me
        (matchmaker_after (durable_of matchmaker_rules me history) (kept.Garbage i g))
    garbage_own = record {
      all = λ j h l x.
          let above = before-to_at_least (durable_of matchmaker_rules me history).watermark i j raises l in
          let y : IsGridTold c j h (durable_of matchmaker_rules me history).entries =
          (facts.logs me).all j h (before-not (durable_of matchmaker_rules me history).watermark j above)
          (old_had me (kept.Garbage i g) history no no me j h x) in (
            y.0,
            with-older i g (entries_since i (durable_of matchmaker_rules me history).entries) y.0
                (entries-there i (durable_of matchmaker_rules me history).entries y.0 (at_most-trans i j y.0.round l y.3) y.1),
            y.2,
            y.3,
            y.4,
          );
      only = λ e m. ⊎_elim
          (λ q. inr (inl (ap (λ (y : Entry). entry_by me (kept.Garbage y.round y.grid)) q))) (λ o. ⊎_elim (λ y. inl (grown_round c history
          sent (entry_by me (kept.Garbage i g) ∷ history) sent grows_garbage me e.round e.grid y)) (λ y. inr (inr y))
          ((facts.logs me).only e (entries-member i (durable_of matchmaker_rules me history).entries e o).0))
          (with-member i g (entries_since i (durable_of matchmaker_rules me history).entries) e m);
      from_watermark = λ e m. ⊎_elim
          (λ q. subst (λ (y : Entry). is_before y.round i ≡ false) (sym q) (itself-not_before i))
          (λ o. (entries-member i (durable_of matchmaker_rules me history).entries e o).1)
          (with-member i g (entries_since i (durable_of matchmaker_rules me history).entries) e m);
      bound = λ j h x. ⊎_elim
          (λ q. subst (λ y. is_before i y ≡ false) (sym q.1) (itself-not_before i)) (λ o.
          before-not j i (before-from_at_most j (durable_of matchmaker_rules me history).watermark i ((facts.logs me).bound j h o) raises))
          (garbage_cases me j h x);
      boots = λ s w es x.
          before-not w i (before-from_at_most w (durable_of matchmaker_rules me history).watermark i
          ((facts.logs me).boots s w es (old_boots me (kept.Garbage i g) history no me s w es x)) raises);
      raised = inr (
        (me, g, inl refl),
        with-itself i g (entries_since i (durable_of matchmaker_rules me history).entries),
      );
      none = λ e j h x. absurd (true≢false (sym raises ∙ subst (λ y. is_before (durable_of matchmaker_rules me history).watermark y ≡ false)
          (sym e) (least (durable_of matchmaker_rules me history).watermark)));
      own = inr (inl (g, inl refl));
      began = λ s e. let x = (facts.logs me).began s e in (x.0, x.1, inr x.2);
      unbegun = λ e s w es x. (facts.logs me).unbegun e s w es (old_boots me (kept.Garbage i g) history no me s w es x);
      ballots = λ b x. (facts.logs me).ballots b (old_ballots me (kept.Garbage i g) history no no me b x);
      ballot = ⊎_elim inl (λ x. inr (grown_ballot c history sent (entry_by me (kept.Garbage i g) ∷ history) sent grows_garbage me _ x))
          (facts.logs me).ballot;
      unstopped = λ e x. (facts.logs me).unstopped e (x.0, old_ballots me (kept.Garbage i g) history no no me x.0 x.1);
      nexts = λ b s x. (facts.logs me).nexts b s (old_nexts me (kept.Garbage i g) history no me b s x);
      accepted = ⊎_elim inl (λ x. inr (inr x)) (facts.logs me).accepted;
    }

    garbage_sets : SetFacts c (entry_by me (kept.Garbage i g) ∷ history)
    garbage_sets = grown_sets c history sent (entry_by me (kept.Garbage i g) ∷ history) sent grows_garbage facts.sets
        (λ m b t x. inl (old_nexts me (kept.Garbage i g) history no m b t x))
        (λ m s w es x. inl (old_boots me (kept.Garbage i g) history no m s w es x))
        (λ m j h x. inl (old_matches me (kept.Garbage i g) history no m j h x))
        garbage_used
      where
        garbage_used : (m : RoleId) → IsUsed (entry_by me (kept.Garbage i g) ∷ history) m
            → IsUsed history m ⊎ IsMember c (entry_by me (kept.Garbage i g) ∷ history) m
        garbage_used m (inr x) = inl (inr (x.0, old_ballots me (kept.Garbage i g) history no no m x.0 x.1))
        garbage_used m (inl (j, (h, inl x))) = inl (inl (j, (h, inl (old_had me (kept.Garbage i g) history no no m j h x))))
        garbage_used m (inl (j, (h, inr x))) = ⊎_elim
            (λ q. inr (subst (λ t. IsMember c (entry_by me (kept.Garbage i g) ∷ history) t) (sym q.0) (more_member member)))
            (λ o. inl (inl (j, (h, inr o))))
            (garbage_cases m j h x)
          where
            more_member : IsMember c history me → IsMember c (entry_by me (kept.Garbage i g) ∷ history) me
            more_member (inl k) = inl k
            more_member (inr k) = inr (k.0, k.1, k.2, inr k.3)

    pub keep_garbage : Facts c (entry_by me (kept.Garbage i g) ∷ history) sent (set_state me Down states)
    keep_garbage = kept_facts c history sent states facts me (kept.Garbage i g) grows_garbage
        (old_owner c history sent states facts me (kept.Garbage i g) grows_garbage no)
        (old_one_grid c history sent states facts me (kept.Garbage i g) grows_garbage no)
        (old_last c history sent states facts me (kept.Garbage i g) grows_garbage no refl)
        (old_asked c history sent states facts me (kept.Garbage i g) grows_garbage no)
        garbage_garbaged
        (new_logs c history sent states facts me (kept.Garbage i g) grows_garbage garbage_own)
        (old_acceptors c history sent states facts me (kept.Garbage i g) grows_garbage no no no refl)
        (old_voted c history sent states facts me (kept.Garbage i g) grows_garbage no)
        (old_logged c history sent states facts me (kept.Garbage i g) grows_garbage refl)
        garbage_sets
        (old_accepted c history sent states facts me (kept.Garbage i g) grows_garbage no)
        (old_balloter c history sent states facts me (kept.Garbage i g) grows_garbage no)
        (old_last_ballot c history sent states facts me (kept.Garbage i g) grows_garbage no refl)
        (old_known_sets c history sent states facts me (kept.Garbage i g) grows_garbage no)
