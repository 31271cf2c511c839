-- The facts hold once a replica's values, a reader's turn or a leader's round is kept.
use Rattle.cx_inv_run.proofs.Common.{◌≡◌, ℕ, ◌+◌, true, false, ◌⊎◌, List, [], ◌∷◌, ◌++◌, length, Some, inl, inr, ap, sym, subst, ◌∙◌}
use Rattle.cx_inv_run.proofs.Common.{⊎_elim, refl, arith, zero, suc, slice_get, same_Some, Cluster, Value, RoleId, Round, Shape, role}
use Rattle.cx_inv_run.proofs.Common.{same_role, is_before, Letter, KeptRecord, leader_rules, leader_after, HasKept, IsConfig, bool_cases}
use Rattle.cx_inv_run.proofs.Common.{State, Down, set_state, entry_by, durable_of, log_in, kept_cases, log_other, log_own, same_role-true}
use Rattle.cx_inv_run.proofs.Common.{before-itself, itself-not_before, before-not}
use Rattle.cx_inv_match.specs.Prelude.{IsChosen, AreChosen, IsLastRound, Facts}
use Rattle.cx_base.specs.declared.role.Kind.TheVariants as kind
use Rattle.cx_letter.specs.declared.kept.Record.TheVariants as kept
use Rattle.cx_inv_match.proofs.Grow.{Grows, grown_chosen_somewhere}
use Rattle.cx_inv_match.proofs.Parts.{get-cases}
use Rattle.cx_inv_match.proofs.KeepFacts.{old_known_sets, old_sets, old_accepted, old_balloter, old_last_ballot, kept_facts, new_last}
use Rattle.cx_inv_match.proofs.KeepFacts.{old_owner}
use Rattle.cx_inv_match.proofs.KeepFacts.{old_one_grid, old_last, old_asked, old_garbaged, old_logs, old_acceptors, old_voted, old_logged}
use Rattle.cx_inv_match.proofs.Records.{no, grows_else}

-- a replica's values

chosen_at : (history : List KeptRecord) (first : ℕ) (new : List Value) → AreChosen history first new
    → (k : ℕ) (u : Value) → slice_get new k ≡ Some u → IsChosen history (first + k) u
chosen_at history first [] chosen k u x = cc
chosen_at history first (v ∷ new) chosen zero u x =
    subst (λ s. IsChosen history s u) (omega arith) (subst (λ w. IsChosen history first w) (same_Some v u x) chosen.0)
chosen_at history first (v ∷ new) chosen (suc k) u x =
    subst (λ s. IsChosen history s u) (omega arith) (chosen_at history (first + 1) new chosen.1 k u x)

module _ (c : Cluster) (history : List KeptRecord) (sent : List Letter) (states : RoleId → State) (facts : Facts c history sent states)
    (p : ℕ) (new : List Value) (chosen : AreChosen history (length (log_in history p)) new) where
  abbrev me : RoleId
  me = role kind.Replica p

  abbrev longer : List KeptRecord
  longer = entry_by me (kept.Log new) ∷ history

  pub grows_log : Grows history sent longer sent
  grows_log = grows_else history sent me (kept.Log new) no no no no no no

  own_value : (s : ℕ) (u : Value) → slice_get (log_in history p ++ new) s ≡ Some u → IsChosen longer s u
  own_value s u x =
      grown_chosen_somewhere c history sent longer sent grows_log s u
      (⊎_elim
      (λ o. facts.logged p s u o)
      (λ r. subst (λ t. IsChosen history t u) (sym r.1) (chosen_at history (length (log_in history p)) new chosen r.0 u r.2))
      (get-cases (log_in history p) new s u x))

  each_value : (q s : ℕ) (u : Value) → slice_get (log_in longer q) s ≡ Some u → IsChosen longer s u
  each_value q s u x = go (bool_cases (same_role (role kind.Replica q) me))
    where
      go : (same_role (role kind.Replica q) me ≡ true) ⊎ (same_role (role kind.Replica q) me ≡ false) → IsChosen longer s u
      go (inl t) =
          let one : q ≡ p = ap (λ (a : RoleId). a.index) (same_role-true (role kind.Replica q) me t) in
          own_value s u (subst (λ l. slice_get l s ≡ Some u) (log_own p (kept.Log new) history)
          (subst (λ (k : ℕ). slice_get (log_in longer k) s ≡ Some u) one x))
      go (inr f) =
          grown_chosen_somewhere c history sent longer sent grows_log s u
          (facts.logged q s u (subst (λ l. slice_get l s ≡ Some u) (log_other me q (kept.Log new) history f) x))

  pub keep_log : Facts c (entry_by me (kept.Log new) ∷ history) sent (set_state me Down states)
  keep_log = kept_facts c history sent states facts me (kept.Log new) grows_log
      (old_owner c history sent states facts me (kept.Log new) grows_log no)
      (old_one_grid c history sent states facts me (kept.Log new) grows_log no)
      (old_last c history sent states facts me (kept.Log new) grows_log no refl)
      (old_asked c history sent states facts me (kept.Log new) grows_log no)
      (old_garbaged c history sent states facts me (kept.Log new) grows_log no)
      (old_logs c history sent states facts me (kept.Log new) grows_log no no no no no refl)
      (old_acceptors c history sent states facts me (kept.Log new) grows_log no no no refl)
      (old_voted c history sent states facts me (kept.Log new) grows_log no)
      each_value
      (old_sets c history sent states facts me (kept.Log new) grows_log no no no no no)
      (old_accepted c history sent states facts me (kept.Log new) grows_log no)
      (old_balloter c history sent states facts me (kept.Log new) grows_log no)
      (old_last_ballot c history sent states facts me (kept.Log new) grows_log no refl)
      (old_known_sets c history sent states facts me (kept.Log new) grows_log no)

-- a reader's turn: it names nothing that a fact names

module _ (c : Cluster) (history : List KeptRecord) (sent : List Letter) (states : RoleId → State) (facts : Facts c history sent states)
    (me : RoleId) (n : ℕ) where
  pub grows_turn : Grows history sent (entry_by me (kept.Turn n) ∷ history) sent
  grows_turn = grows_else history sent me (kept.Turn n) no no no no no no

  pub keep_turn : Facts c (entry_by me (kept.Turn n) ∷ history) sent (set_state me Down states)
  keep_turn = kept_facts c history sent states facts me (kept.Turn n) grows_turn
      (old_owner c history sent states facts me (kept.Turn n) grows_turn no)
      (old_one_grid c history sent states facts me (kept.Turn n) grows_turn no)
      (old_last c history sent states facts me (kept.Turn n) grows_turn no refl)
      (old_asked c history sent states facts me (kept.Turn n) grows_turn no)
      (old_garbaged c history sent states facts me (kept.Turn n) grows_turn no)
      (old_logs c history sent states facts me (kept.Turn n) grows_turn no no no no no refl)
      (old_acceptors c history sent states facts me (kept.Turn n) grows_turn no no no refl)
      (old_voted c history sent states facts me (kept.Turn n) grows_turn no)
      (old_logged c history sent states facts me (kept.Turn n) grows_turn refl)
      (old_sets c history sent states facts me (kept.Turn n) grows_turn no no no no no)
      (old_accepted c history sent states facts me (kept.Turn n) grows_turn no)
      (old_balloter c history sent states facts me (kept.Turn n) grows_turn no)
      (old_last_ballot c history sent states facts me (kept.Turn n) grows_turn no refl)
      (old_known_sets c history sent states facts me (kept.Turn n) grows_turn no)

-- a round

module _ (c : Cluster) (history : List KeptRecord) (sent : List Letter) (states : RoleId → State) (facts : Facts c history sent states)
    (me : RoleId) (i : Round) (g : Shape) (owned : me ≡ role kind.Leader i.id)
    (above : (j : Round) (h : Shape) → HasKept history me (kept.Round j h) → is_before j i ≡ true) where
  round_cases : (a : RoleId) (j : Round) (h : Shape) → HasKept (entry_by me (kept.Round i g) ∷ history) a (kept.Round j h)
      → ((a ≡ me) × (j ≡ i) × (h ≡ g)) ⊎ HasKept history a (kept.Round j h)
  round_cases a j h x = ⊎_elim
      (λ q. let e : kept.Round j h ≡ kept.Round i g = q.1 in inl (q.0, cc, cc))
      (λ o. inr o)
      (kept_cases me a (kept.Round i g) (kept.Round j h) history x)

  pub grows_round : Grows history sent (entry_by me (kept.Round i g) ∷ history) sent
  grows_round = grows_else history sent me (kept.Round i g) no no no no no no

  round_owner : (a : RoleId) (j : Round) (h : Shape) → HasKept (entry_by me (kept.Round i g) ∷ history) a (kept.Round j h)
      → a ≡ role kind.Leader j.id
  round_owner a j h m = ⊎_elim (λ q. rw (q.0, q.1) owned) (λ o. facts.owner a j h o) (round_cases a j h m)

  -- nobody kept the round before
  pub round_new : (a : RoleId) (h : Shape) → HasKept history a (kept.Round i h) → ⊥
  round_new a h m =
      let p : a ≡ me = facts.owner a i h m ∙ sym owned in
      before-itself i (above i h (subst (λ x. HasKept history x (kept.Round i h)) p m))

  round_one_grid : (j : Round) (h k : Shape) → IsConfig (entry_by me (kept.Round i g) ∷ history) j h
      → IsConfig (entry_by me (kept.Round i g) ∷ history) j k → h ≡ k
  round_one_grid j h k x y = ⊎_elim
      (λ p. ⊎_elim
      (λ q. p.2 ∙ sym q.2)
      (λ q. absurd (round_new y.0 k (subst (λ t. HasKept history y.0 (kept.Round t k)) p.1 q)))
      (round_cases y.0 j k y.1))
      (λ p. ⊎_elim
      (λ q. absurd (round_new x.0 h (subst (λ t. HasKept history x.0 (kept.Round t h)) q.1 p)))
      (λ q. facts.one_grid j h k (x.0, p) (y.0, q))
      (round_cases y.0 j k y.1))
      (round_cases x.0 j h x.1)

  round_own : IsLastRound (entry_by me (kept.Round i g) ∷ history) me
      (leader_after (durable_of leader_rules me history) (kept.Round i g)).own
  round_own = (
    inl refl,
    λ j h m. ⊎_elim
        (λ q. subst (λ t. is_before i t ≡ false) (sym q.1) (itself-not_before i))
        (λ o. before-not j i (above j h o))
        (round_cases me j h m),
  )

  pub keep_round : Facts c (entry_by me (kept.Round i g) ∷ history) sent (set_state me Down states)
  keep_round = kept_facts c history sent states facts me (kept.Round i g) grows_round
      round_owner
      round_one_grid
      (new_last c history sent states facts me (kept.Round i g) grows_round round_own)
      (old_asked c history sent states facts me (kept.Round i g) grows_round no)
      (old_garbaged c history sent states facts me (kept.Round i g) grows_round no)
      (old_logs c history sent states facts me (kept.Round i g) grows_round no no no no no refl)
      (old_acceptors c history sent states facts me (kept.Round i g) grows_round no no no refl)
      (old_voted c history sent states facts me (kept.Round i g) grows_round no)
      (old_logged c history sent states facts me (kept.Round i g) grows_round refl)
      (old_sets c history sent states facts me (kept.Round i g) grows_round no no no no no)
      (old_accepted c history sent states facts me (kept.Round i g) grows_round no)
      (old_balloter c history sent states facts me (kept.Round i g) grows_round no)
      (old_last_ballot c history sent states facts me (kept.Round i g) grows_round no refl)
      (old_known_sets c history sent states facts me (kept.Round i g) grows_round no)
