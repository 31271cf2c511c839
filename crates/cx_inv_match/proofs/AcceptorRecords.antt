-- The facts hold once a record of an acceptor is kept: a promise, a vote, a watermark.
use Rattle.std.proofs.lemmas.Bool.{cases_eq}
use Rattle.cx_inv_run.proofs.Common.{◌≡◌, ℕ, ◌+◌, ◌<◌, ◌≤◌, true, false, ◌⊎◌, List, ◌∷◌, inl, inr, sym, subst, ◌∙◌, ⊎_elim, refl, arith}
use Rattle.cx_inv_run.proofs.Common.{max, cases_lt, Cluster, Value, RoleId, Round, is_before, Vote, Letter, KeptRecord, acceptor_rules}
use Rattle.cx_inv_run.proofs.Common.{acceptor_after, with_vote, votes_from_slot, HasVoted, IsProposed, Member, State, Down, set_state}
use Rattle.cx_inv_run.proofs.Common.{entry_by, durable_of, kept_cases, itself-not_before, at_most-trans, before-both}
use Rattle.cx_inv_match.specs.Prelude.{HasMark, HasPromise, IsPast, IsAcceptor, Facts}
use Rattle.cx_letter.specs.declared.kept.Record.TheVariants as kept
use Rattle.cx_inv_run.proofs.Histories.{kept_else}
use Rattle.cx_inv_match.proofs.Grow.{Grows}
use Rattle.cx_inv_match.proofs.Parts.{put-itself, put-cases, put-older, from-member, from-there}
use Rattle.cx_inv_match.proofs.Keep.{old_boots, old_nexts, old_matches, old_garbages, old_votes, old_marks, more_mark, more_low}
use Rattle.cx_inv_match.proofs.KeepFacts.{old_known_sets, old_sets, old_accepted, old_balloter, old_last_ballot, kept_facts, new_acceptors}
use Rattle.cx_inv_match.proofs.KeepFacts.{old_owner}
use Rattle.cx_inv_match.proofs.KeepFacts.{old_one_grid, old_last, old_asked, old_garbaged, old_logs, old_voted, old_logged}
use Rattle.cx_inv_match.proofs.Records.{no, grows_else}

-- an acceptor's records: a round that isn't below its promise isn't below any that it has promised

module _ (c : Cluster) (history : List KeptRecord) (sent : List Letter) (states : RoleId → State) (facts : Facts c history sent states)
    (me : RoleId) (i : Round) (at_least : is_before i (durable_of acceptor_rules me history).promise ≡ false) where
  promised_below : (x : Round) → HasPromise history me x → is_before i x ≡ false
  promised_below x h = at_most-trans x (durable_of acceptor_rules me history).promise i ((facts.acceptors me).bound x h) at_least

  not_past : (a : RoleId) (j : Round) → a ≡ me → j ≡ i → IsPast history a j → ⊥
  not_past a j p q past = before-both i past.0 (subst (λ x. is_before x past.0 ≡ true) q past.1)
      (promised_below past.0 (subst (λ x. HasPromise history x past.0) p past.2))

-- a promise

module _ (c : Cluster) (history : List KeptRecord) (sent : List Letter) (states : RoleId → State) (facts : Facts c history sent states)
    (me : RoleId) (i : Round) (at_least : is_before i (durable_of acceptor_rules me history).promise ≡ false) where
  pub grows_promise : Grows history sent (entry_by me (kept.Promise i) ∷ history) sent
  grows_promise = grows_else history sent me (kept.Promise i) no no no no no no

  promise_bound : (x : Round) → HasPromise (entry_by me (kept.Promise i) ∷ history) me x → is_before i x ≡ false
  promise_bound x (inl m) = ⊎_elim (λ q. let e : kept.Promise x ≡ kept.Promise i = q.1 in let p : x ≡ i = cc in subst (λ y.
      is_before i y ≡ false) (sym p) (itself-not_before i)) (λ o. promised_below c history sent states facts me i at_least x (inl o))
      (kept_cases me me (kept.Promise i) (kept.Promise x) history m)
  promise_bound x (inr h) =
      promised_below c history sent states facts me i at_least x (inr (h.0, old_marks me (kept.Promise i) history no no me x h.0 h.1))

  promise_own : IsAcceptor (entry_by me (kept.Promise i) ∷ history) me
      (acceptor_after (durable_of acceptor_rules me history) (kept.Promise i))
  promise_own = record {
    bound = promise_bound;
    promised = λ j l. inl (inl refl);
    last = λ j s v l x. (facts.acceptors me).last j s v l (old_votes me (kept.Promise i) history no me j s v x);
    only = λ u m. let x = (facts.acceptors me).only u m in ((x.0.0, inr x.0.1), x.1);
    mark = λ j n x. (facts.acceptors me).mark j n (old_marks me (kept.Promise i) history no no me j n x);
    low = more_low history (entry_by me (kept.Promise i) ∷ history) (λ k m. inr m) me (durable_of acceptor_rules me history)
        (facts.acceptors me).low;
    top = λ j s v x. (facts.acceptors me).top j s v (old_votes me (kept.Promise i) history no me j s v x);
  }

  pub keep_promise : Facts c (entry_by me (kept.Promise i) ∷ history) sent (set_state me Down states)
  keep_promise = kept_facts c history sent states facts me (kept.Promise i) grows_promise
      (old_owner c history sent states facts me (kept.Promise i) grows_promise no)
      (old_one_grid c history sent states facts me (kept.Promise i) grows_promise no)
      (old_last c history sent states facts me (kept.Promise i) grows_promise no refl)
      (old_asked c history sent states facts me (kept.Promise i) grows_promise no)
      (old_garbaged c history sent states facts me (kept.Promise i) grows_promise no)
      (old_logs c history sent states facts me (kept.Promise i) grows_promise no no no no no refl)
      (new_acceptors c history sent states facts me (kept.Promise i) grows_promise promise_own)
      (old_voted c history sent states facts me (kept.Promise i) grows_promise no)
      (old_logged c history sent states facts me (kept.Promise i) grows_promise refl)
      (old_sets c history sent states facts me (kept.Promise i) grows_promise no no no no no)
      (old_accepted c history sent states facts me (kept.Promise i) grows_promise no)
      (old_balloter c history sent states facts me (kept.Promise i) grows_promise no)
      (old_last_ballot c history sent states facts me (kept.Promise i) grows_promise no refl)
      (old_known_sets c history sent states facts me (kept.Promise i) grows_promise no)

max_cases : (a b : ℕ) → (max a b ≡ a) ⊎ (max a b ≡ b)
max_cases a b = ⊎_elim (λ l. inr (omega arith)) (λ l. inl (omega arith)) (cases_lt a b)

-- a vote

module _ (c : Cluster) (history : List KeptRecord) (sent : List Letter) (states : RoleId → State) (facts : Facts c history sent states)
    (me : RoleId) (i : Round) (s low : ℕ) (v : Value) (at_least : is_before i (durable_of acceptor_rules me history).promise ≡ false)
    (own_low : (durable_of acceptor_rules me history).cw ≤ s) (new_low : low ≤ s) (proposed : IsProposed sent i s v) where
  -- a vote or a watermark of the longer history is the new one or an old one
  vote_cases : (a : RoleId) (j : Round) (t : ℕ) (w : Value) → HasVoted (entry_by me (kept.Vote i s low v) ∷ history) a j t w
      → ((a ≡ me) × (j ≡ i) × (t ≡ s) × (w ≡ v)) ⊎ HasVoted history a j t w
  vote_cases a j t w x = ⊎_elim
      (λ q. let e : kept.Vote j t x.0 w ≡ kept.Vote i s low v = q.1 in inl (q.0, cc, cc, cc))
      (λ o. inr (x.0, o))
      (kept_cases me a (kept.Vote i s low v) (kept.Vote j t x.0 w) history x.1)

  vote_mark_cases : (a : RoleId) (j : Round) (n : ℕ) → HasMark (entry_by me (kept.Vote i s low v) ∷ history) a j n
      → ((a ≡ me) × (j ≡ i) × (n ≡ low)) ⊎ HasMark history a j n
  vote_mark_cases a j n (inl x) = ⊎_elim
      (λ q. let e : kept.Vote j x.0 n x.1 ≡ kept.Vote i s low v = q.1 in inl (q.0, cc, cc))
      (λ o. inr (inl (x.0, x.1, o)))
      (kept_cases me a (kept.Vote i s low v) (kept.Vote j x.0 n x.1) history x.2)
  vote_mark_cases a j n (inr m) = inr (inr (kept_else me a (kept.Vote i s low v) (kept.Water j n) history (λ e. cc) m))

  pub grows_vote : Grows history sent (entry_by me (kept.Vote i s low v) ∷ history) sent
  grows_vote = record {
    more = λ k m. inr m;
    wide = λ d m. m;
    no_vote = λ a j t w past x. ⊎_elim
        (λ q. absurd (not_past c history sent states facts me i at_least a j q.0 q.1 past)) (λ h. h) (vote_cases a j t w x);
    no_mark = λ a j n past x. ⊎_elim
        (λ q. absurd (not_past c history sent states facts me i at_least a j q.0 q.1 past)) (λ h. h) (vote_mark_cases a j n x);
    no_match = λ m k j h l x y. old_matches me (kept.Vote i s low v) history no m j h y;
    no_boot = λ m t w es u x. old_boots me (kept.Vote i s low v) history no m t w es x;
    halted_match = λ m j g u x. old_matches me (kept.Vote i s low v) history no m j g x;
    halted_garbage = λ m j g u x. old_garbages me (kept.Vote i s low v) history no m j g x;
    no_next = λ m a b u l p x. old_nexts me (kept.Vote i s low v) history no m a u x;
    no_proposal = λ j t w l x. x;
  }

  vote_bound : (x : Round) → HasPromise (entry_by me (kept.Vote i s low v) ∷ history) me x → is_before i x ≡ false
  vote_bound x (inl m) =
      promised_below c history sent states facts me i at_least x
      (inl (kept_else me me (kept.Vote i s low v) (kept.Promise x) history (λ e. cc) m))
  vote_bound x (inr h) = ⊎_elim
      (λ q. subst (λ y. is_before i y ≡ false) (sym q.1) (itself-not_before i))
      (λ o. promised_below c history sent states facts me i at_least x (inr (h.0, o)))
      (vote_mark_cases me x h.0 h.1)

  abbrev old_votes_left : List Vote
  old_votes_left = votes_from_slot (max (durable_of acceptor_rules me history).cw low) (durable_of acceptor_rules me history).votes

  abbrev new_vote : Vote
  new_vote = record { round = i; slot = s; value = v }

  -- the last vote at a slot, with the new one put among the old
  vote_last : (j : Round) (t : ℕ) (w : Value) → max (durable_of acceptor_rules me history).cw low ≤ t
      → HasVoted (entry_by me (kept.Vote i s low v) ∷ history) me j t w
      → (u : Vote) × Member u (with_vote new_vote old_votes_left) × (u.slot ≡ t) × (is_before u.round j ≡ false)
  vote_last j t w l x = ⊎_elim new old (vote_cases me j t w x)
    where
      new : (me ≡ me) × (j ≡ i) × (t ≡ s) × (w ≡ v)
          → (u : Vote) × Member u (with_vote new_vote old_votes_left) × (u.slot ≡ t) × (is_before u.round j ≡ false)
      new q = (new_vote, put-itself new_vote old_votes_left, sym q.2, subst (λ y. is_before i y ≡ false) (sym q.1) (itself-not_before i))

      old : HasVoted history me j t w
          → (u : Vote) × Member u (with_vote new_vote old_votes_left) × (u.slot ≡ t) × (is_before u.round j ≡ false)
      old h = ⊎_elim (λ e. (
        new_vote,
        put-itself new_vote old_votes_left,
        e,
        promised_below c history sent states facts me i at_least j (inr (h.0, inl (t, w, h.1))),
      )) (λ d. let u = (facts.acceptors me).last j t w (omega arith) h in (
        u.0,
        put-older new_vote old_votes_left u.0 (λ e. d (sym e ∙ u.2))
            (from-there (max (durable_of acceptor_rules me history).cw low) (durable_of acceptor_rules me history).votes u.0
            (rw u.2 l) u.1),
        u.2,
        u.3,
      ))
          (cases_eq s t)

  vote_only : (u : Vote) → Member u (with_vote new_vote old_votes_left) → HasVoted (entry_by me (kept.Vote i s low v) ∷ history) me u.round
      u.slot u.value × (max (durable_of acceptor_rules me history).cw low ≤ u.slot)
  vote_only u m = ⊎_elim (λ e. subst (λ (x : Vote). HasVoted (entry_by me (kept.Vote i s low v) ∷ history) me x.round x.slot x.value
      × (max (durable_of acceptor_rules me history).cw low ≤ x.slot)) (sym e) ((low, inl refl), omega arith))
      (λ k. let f = from-member (max (durable_of acceptor_rules me history).cw low) (durable_of acceptor_rules me history).votes u k in
      let x = (facts.acceptors me).only u f.0 in ((x.0.0, inr x.0.1), f.1))
      (put-cases new_vote old_votes_left u m)

  vote_mark : (j : Round) (n : ℕ) → HasMark (entry_by me (kept.Vote i s low v) ∷ history) me j n
      → n ≤ max (durable_of acceptor_rules me history).cw low
  vote_mark j n x =
      ⊎_elim (λ q. let p = q.2 in omega arith) (λ h. let p = (facts.acceptors me).mark j n h in omega arith) (vote_mark_cases me j n x)

  vote_top : (j : Round) (t : ℕ) (w : Value) → HasVoted (entry_by me (kept.Vote i s low v) ∷ history) me j t w
      → t < max (durable_of acceptor_rules me history).top (s + 1)
  vote_top j t w x =
      ⊎_elim (λ q. let p = q.2 in omega arith) (λ h. let p = (facts.acceptors me).top j t w h in omega arith) (vote_cases me j t w x)

  vote_low : (max (durable_of acceptor_rules me history).cw low ≡ 0)
      ⊎ ((j : Round) × HasMark (entry_by me (kept.Vote i s low v) ∷ history) me j (max (durable_of acceptor_rules me history).cw low))
  vote_low = ⊎_elim
      (λ e. ⊎_elim
      (λ z. inl (e ∙ z))
      (λ h. inr (
        h.0,
        subst (λ n. HasMark (entry_by me (kept.Vote i s low v) ∷ history) me h.0 n) (sym e) (more_mark history
            (entry_by me (kept.Vote i s low v) ∷ history) (λ k m. inr m) me h.0 (durable_of acceptor_rules me history).cw h.1),
      ))
      (facts.acceptors me).low)
      (λ e. inr (i, subst (λ n. HasMark (entry_by me (kept.Vote i s low v) ∷ history) me i n) (sym e) (inl (s, v, inl refl))))
      (max_cases (durable_of acceptor_rules me history).cw low)

  vote_own : IsAcceptor (entry_by me (kept.Vote i s low v) ∷ history) me
      (acceptor_after (durable_of acceptor_rules me history) (kept.Vote i s low v))
  vote_own = record {
    bound = vote_bound;
    promised = λ j l. inr (low, inl (s, v, inl refl));
    last = vote_last;
    only = vote_only;
    mark = vote_mark;
    low = vote_low;
    top = vote_top;
  }

  vote_voted : (a : RoleId) (j : Round) (t : ℕ) (w : Value) → HasVoted (entry_by me (kept.Vote i s low v) ∷ history) a j t w
      → IsProposed sent j t w
  vote_voted a j t w x = ⊎_elim (λ q. rw (q.1, q.2, q.3) proposed) (λ h. facts.voted a j t w h) (vote_cases a j t w x)

  pub keep_vote : Facts c (entry_by me (kept.Vote i s low v) ∷ history) sent (set_state me Down states)
  keep_vote = kept_facts c history sent states facts me (kept.Vote i s low v) grows_vote
      (old_owner c history sent states facts me (kept.Vote i s low v) grows_vote no)
      (old_one_grid c history sent states facts me (kept.Vote i s low v) grows_vote no)
      (old_last c history sent states facts me (kept.Vote i s low v) grows_vote no refl)
      (old_asked c history sent states facts me (kept.Vote i s low v) grows_vote no)
      (old_garbaged c history sent states facts me (kept.Vote i s low v) grows_vote no)
      (old_logs c history sent states facts me (kept.Vote i s low v) grows_vote no no no no no refl)
      (new_acceptors c history sent states facts me (kept.Vote i s low v) grows_vote vote_own)
      vote_voted
      (old_logged c history sent states facts me (kept.Vote i s low v) grows_vote refl)
      (old_sets c history sent states facts me (kept.Vote i s low v) grows_vote no no no no no)
      (old_accepted c history sent states facts me (kept.Vote i s low v) grows_vote no)
      (old_balloter c history sent states facts me (kept.Vote i s low v) grows_vote no)
      (old_last_ballot c history sent states facts me (kept.Vote i s low v) grows_vote no refl)
      (old_known_sets c history sent states facts me (kept.Vote i s low v) grows_vote no)

-- a watermark

module _ (c : Cluster) (history : List KeptRecord) (sent : List Letter) (states : RoleId → State) (facts : Facts c history sent states)
    (me : RoleId) (i : Round) (low : ℕ) (at_least : is_before i (durable_of acceptor_rules me history).promise ≡ false) where
  water_mark_cases : (a : RoleId) (j : Round) (n : ℕ) → HasMark (entry_by me (kept.Water i low) ∷ history) a j n
      → ((a ≡ me) × (j ≡ i) × (n ≡ low)) ⊎ HasMark history a j n
  water_mark_cases a j n (inl x) = inr (inl (x.0, x.1, kept_else me a (kept.Water i low) (kept.Vote j x.0 n x.1) history (λ e. cc) x.2))
  water_mark_cases a j n (inr m) = ⊎_elim
      (λ q. let e : kept.Water j n ≡ kept.Water i low = q.1 in inl (q.0, cc, cc))
      (λ o. inr (inr o))
      (kept_cases me a (kept.Water i low) (kept.Water j n) history m)

  pub grows_water : Grows history sent (entry_by me (kept.Water i low) ∷ history) sent
  grows_water = record {
    more = λ k m. inr m;
    wide = λ d m. m;
    no_vote = λ a j t w past x. old_votes me (kept.Water i low) history no a j t w x;
    no_mark = λ a j n past x. ⊎_elim
        (λ q. absurd (not_past c history sent states facts me i at_least a j q.0 q.1 past)) (λ h. h) (water_mark_cases a j n x);
    no_match = λ m k j h l x y. old_matches me (kept.Water i low) history no m j h y;
    no_boot = λ m t w es u x. old_boots me (kept.Water i low) history no m t w es x;
    halted_match = λ m j g u x. old_matches me (kept.Water i low) history no m j g x;
    halted_garbage = λ m j g u x. old_garbages me (kept.Water i low) history no m j g x;
    no_next = λ m a b u l p x. old_nexts me (kept.Water i low) history no m a u x;
    no_proposal = λ j t w l x. x;
  }

  water_bound : (x : Round) → HasPromise (entry_by me (kept.Water i low) ∷ history) me x → is_before i x ≡ false
  water_bound x (inl m) =
      promised_below c history sent states facts me i at_least x
      (inl (kept_else me me (kept.Water i low) (kept.Promise x) history (λ e. cc) m))
  water_bound x (inr h) = ⊎_elim
      (λ q. subst (λ y. is_before i y ≡ false) (sym q.1) (itself-not_before i))
      (λ o. promised_below c history sent states facts me i at_least x (inr (h.0, o)))
      (water_mark_cases me x h.0 h.1)

  water_last : (j : Round) (t : ℕ) (w : Value) → max (durable_of acceptor_rules me history).cw low ≤ t
      → HasVoted (entry_by me (kept.Water i low) ∷ history) me j t w → (u : Vote)
      × Member u (votes_from_slot (max (durable_of acceptor_rules me history).cw low) (durable_of acceptor_rules me history).votes)
      × (u.slot ≡ t) × (is_before u.round j ≡ false)
  water_last j t w l x =
      let u = (facts.acceptors me).last j t w (omega arith) (old_votes me (kept.Water i low) history no me j t w x) in (
        u.0,
        from-there (max (durable_of acceptor_rules me history).cw low) (durable_of acceptor_rules me history).votes u.0 (rw u.2 l) u.1,
        u.2,
        u.3,
      )

  water_only : (u : Vote)
      → Member u (votes_from_slot (max (durable_of acceptor_rules me history).cw low) (durable_of acceptor_rules me history).votes)
      → HasVoted (entry_by me (kept.Water i low) ∷ history) me u.round u.slot u.value
      × (max (durable_of acceptor_rules me history).cw low ≤ u.slot)
  water_only u m =
      let f = from-member (max (durable_of acceptor_rules me history).cw low) (durable_of acceptor_rules me history).votes u m in
      let x = (facts.acceptors me).only u f.0 in ((x.0.0, inr x.0.1), f.1)

  water_mark : (j : Round) (n : ℕ) → HasMark (entry_by me (kept.Water i low) ∷ history) me j n
      → n ≤ max (durable_of acceptor_rules me history).cw low
  water_mark j n x =
      ⊎_elim (λ q. let p = q.2 in omega arith) (λ h. let p = (facts.acceptors me).mark j n h in omega arith) (water_mark_cases me j n x)

  water_low : (max (durable_of acceptor_rules me history).cw low ≡ 0)
      ⊎ ((j : Round) × HasMark (entry_by me (kept.Water i low) ∷ history) me j (max (durable_of acceptor_rules me history).cw low))
  water_low = ⊎_elim
      (λ e. ⊎_elim
      (λ z. inl (e ∙ z))
      (λ h. inr (
        h.0,
        subst (λ n. HasMark (entry_by me (kept.Water i low) ∷ history) me h.0 n) (sym e) (more_mark history
            (entry_by me (kept.Water i low) ∷ history) (λ k m. inr m) me h.0 (durable_of acceptor_rules me history).cw h.1),
      ))
      (facts.acceptors me).low)
      (λ e. inr (i, subst (λ n. HasMark (entry_by me (kept.Water i low) ∷ history) me i n) (sym e) (inr (inl refl))))
      (max_cases (durable_of acceptor_rules me history).cw low)

  water_own : IsAcceptor (entry_by me (kept.Water i low) ∷ history) me
      (acceptor_after (durable_of acceptor_rules me history) (kept.Water i low))
  water_own = record {
    bound = water_bound;
    promised = λ j l. inr (low, inr (inl refl));
    last = water_last;
    only = water_only;
    mark = water_mark;
    low = water_low;
    top = λ j t w x. (facts.acceptors me).top j t w (old_votes me (kept.Water i low) history no me j t w x);
  }

  pub keep_water : Facts c (entry_by me (kept.Water i low) ∷ history) sent (set_state me Down states)
  keep_water = kept_facts c history sent states facts me (kept.Water i low) grows_water
      (old_owner c history sent states facts me (kept.Water i low) grows_water no)
      (old_one_grid c history sent states facts me (kept.Water i low) grows_water no)
      (old_last c history sent states facts me (kept.Water i low) grows_water no refl)
      (old_asked c history sent states facts me (kept.Water i low) grows_water no)
      (old_garbaged c history sent states facts me (kept.Water i low) grows_water no)
      (old_logs c history sent states facts me (kept.Water i low) grows_water no no no no no refl)
      (new_acceptors c history sent states facts me (kept.Water i low) grows_water water_own)
      (old_voted c history sent states facts me (kept.Water i low) grows_water no)
      (old_logged c history sent states facts me (kept.Water i low) grows_water refl)
      (old_sets c history sent states facts me (kept.Water i low) grows_water no no no no no)
      (old_accepted c history sent states facts me (kept.Water i low) grows_water no)
      (old_balloter c history sent states facts me (kept.Water i low) grows_water no)
      (old_last_ballot c history sent states facts me (kept.Water i low) grows_water no refl)
      (old_known_sets c history sent states facts me (kept.Water i low) grows_water no)
