-- In every run names in the stores lie in the cluster.
use Rattle.cx_inv_run.proofs.Common.{◌≡◌, ◌⊎◌, ℕ, Bool, true, false, List, [], ◌∷◌, ◌++◌, sym, subst, refl, inl, inr, and_parts, and_from}
use Rattle.cx_inv_run.proofs.Common.{list_all, length, filter, nat_lt, Cluster, Value, RoleId, role, same_role, Entry, Vote}
use Rattle.cx_inv_run.proofs.Common.{KeptRecord, Written, Record, acceptor_rules}
use Rattle.cx_inv_run.proofs.Common.{bool_cases, same_role-true, MatchmakerDurable, matchmaker_after, matchmaker_rules}
use Rattle.cx_inv_run.proofs.Common.{entries_since, entry, has_round, names_entry, names_grid, names_round, names_value, names_vote}
use Rattle.cx_inv_run.proofs.Common.{either_way, ReplicaDurable, replica_rules, written_after, values_in, Member-cases, all-Member}
use Rattle.cx_inv_run.proofs.Common.{Member-all, filter-older}
use Rattle.cx_base.specs.declared.role.Kind.TheVariants as kind
use Rattle.cx_letter.specs.declared.input.Written.TheVariants as written
use Rattle.cx_letter.specs.declared.kept.Record.TheVariants as kept
use Rattle.cx_model.specs.Matchmaker.{beside, matchmaker_fits, without_grid}
use Rattle.cx_model.specs.Replica.{replica_fits}
use Rattle.cx_inv_run.specs.States.{durable_of, log_in}
use Rattle.cx_inv_open.specs.Fits.{AllFit, FitsAs}
use Rattle.cx_inv_open.proofs.Anew.{history_named}

all_left : {X : Type 0} (P q : X → Bool) (xs : List X) → list_all P xs ≡ true → list_all P (filter q xs) ≡ true
all_left P q xs all = Member-all P (filter q xs) (λ x m. all-Member P xs all x (filter-older q x xs m))

all_with : {X : Type 0} (P : X → Bool) (xs : List X) (y : X) → list_all P xs ≡ true → P y ≡ true → list_all P (xs ++ y ∷ []) ≡ true
all_with P xs y all one =
    Member-all P (xs ++ y ∷ [])
    (λ x m. elim (Member-cases x xs (y ∷ []) m) [
      | inl a ↦ all-Member P xs all x a
      | inr b ↦ all-Member P (y ∷ []) (and_from (P y) true one refl) x b
    ])

module _ (c : Cluster) (n : ℕ) (led : nat_lt 0 c.leaders ≡ true) where
  abbrev A0 : RoleId
  A0 = role kind.Acceptor n

  abbrev M0 : RoleId
  M0 = role kind.Matchmaker n

  -- VOTES

  pub all_votes : (history : List KeptRecord) → AllFit c history
      → list_all (λ (v : Vote). names_vote c v) (durable_of acceptor_rules A0 history).votes ≡ true
  all_votes history fit = (history_named c n history fit).votes

  -- ROUNDS

  pub record AreNamed (d : MatchmakerDurable) : Type 0 where
    pub watermark : names_round c d.watermark ≡ true
    pub entries : list_all (λ (e : Entry). names_entry c e) d.entries ≡ true

  rounds_named : (d : MatchmakerDurable) (r : Record) → AreNamed d → matchmaker_fits c M0 d r ≡ true → AreNamed (matchmaker_after d r)
  rounds_named d (kept.Match i g) h fits =
      let p1 = and_parts _ _ fits in
      let p2 = and_parts _ _ p1.0 in
      let p3 = and_parts _ _ p2.0 in
      let p4 = and_parts _ _ p3.0 in
      let p5 = and_parts _ _ p4.0 in
      record {
        watermark = h.watermark;
        entries = all_with (λ (e : Entry). names_entry c e) (beside d.watermark g d.entries) (entry i g)
            (either_way (λ l. list_all (λ (e : Entry). names_entry c e) l ≡ true) (nat_lt (length d.entries) 16) d.entries
            (without_grid d.watermark g d.entries) h.entries (all_left (λ (e : Entry). names_entry c e) _ d.entries h.entries))
            (and_from (names_round c i) (names_grid c g) p5.1 p4.1);
      }
  rounds_named d (kept.Garbage i g) h fits =
      let p1 = and_parts _ _ fits in
      let p2 = and_parts _ _ p1.0 in
      let p3 = and_parts _ _ p2.0 in
      let left = all_left (λ (e : Entry). names_entry c e) _ d.entries h.entries in
      record {
        watermark = p3.1;
        entries = either_way (λ l. list_all (λ (e : Entry). names_entry c e) l ≡ true) (has_round i (entries_since i d.entries))
            (entries_since i d.entries) (entry i g ∷ entries_since i d.entries)
            left (and_from (names_entry c (entry i g)) _ (and_from (names_round c i) (names_grid c g) p3.1 p2.1) left);
      }
  rounds_named d (kept.Boot s w es) h fits =
      let p1 = and_parts _ _ fits in
      let p2 = and_parts _ _ p1.0 in
      record { watermark = p2.1; entries = p1.1 }
  rounds_named d (kept.Stop b) h fits = record { watermark = h.watermark; entries = h.entries }
  rounds_named d (kept.Next b s) h fits = record { watermark = h.watermark; entries = h.entries }
  rounds_named d other h fits = h

  rounds_step : (d : MatchmakerDurable) (ks : List KeptRecord) → durable_of matchmaker_rules M0 ks ≡ d → (what : Written)
      → FitsAs c M0 what ks kind.Matchmaker → AreNamed d → AreNamed (written_after matchmaker_rules d what)
  rounds_step d ks is (written.Record r) fits h = rounds_named d r h (subst (λ x. matchmaker_fits c M0 x r ≡ true) is fits.0)
  rounds_step d ks is (written.Snap first) fits h = absurd fits

  pub all_rounds : (history : List KeptRecord) → AllFit c history → AreNamed (durable_of matchmaker_rules M0 history)
  unfolding durable_of
  all_rounds [] fit = record { watermark = led; entries = refl }
  all_rounds (k ∷ ks) fit = go (bool_cases (same_role M0 k.role)) (all_rounds ks fit.1)
    where
      go : (same_role M0 k.role ≡ true) ⊎ (same_role M0 k.role ≡ false) → AreNamed (durable_of matchmaker_rules M0 ks)
          → AreNamed (durable_of matchmaker_rules M0 (k ∷ ks))
      go (inl t) h = rw t (rounds_step (durable_of matchmaker_rules M0 ks) ks refl k.what
          (subst (λ (x : RoleId). FitsAs c x k.what ks x.kind) (sym (same_role-true M0 k.role t)) fit.0) h)
      go (inr f) h = rw f h

-- VALUES

values_in_named : (c : Cluster) (me : RoleId) (d : ReplicaDurable) (r : Record) → replica_fits c me d r ≡ true
    → list_all (λ v. names_value c v) (values_in (written.Record r)) ≡ true
values_in_named c me d (kept.Log vs) fits =
    let p1 = and_parts _ _ fits in
    (and_parts _ _ p1.0).1
values_in_named c me d other fits = refl

two_named : (P : Value → Bool) (xs ys : List Value) → list_all P xs ≡ true → list_all P ys ≡ true → list_all P (xs ++ ys) ≡ true
two_named P xs ys a b =
    Member-all P (xs ++ ys) (λ x m. elim (Member-cases x xs ys m) [ inl i ↦ all-Member P xs a x i | inr i ↦ all-Member P ys b x i ])

written_named : (c : Cluster) (me : RoleId) (ks : List KeptRecord) (what : Written) → FitsAs c me what ks kind.Replica
    → list_all (λ v. names_value c v) (values_in what) ≡ true
written_named c me ks (written.Record r) fits = values_in_named c me (durable_of replica_rules me ks) r fits.0
written_named c me ks (written.Snap first) fits = refl

pub all_values : (c : Cluster) (p : ℕ) (history : List KeptRecord) → AllFit c history
    → list_all (λ v. names_value c v) (log_in history p) ≡ true
unfolding log_in
all_values c p [] fit = refl
all_values c p (k ∷ ks) fit = go (bool_cases (same_role (role kind.Replica p) k.role)) (all_values c p ks fit.1)
  where
    go : (same_role (role kind.Replica p) k.role ≡ true) ⊎ (same_role (role kind.Replica p) k.role ≡ false)
        → list_all (λ v. names_value c v) (log_in ks p) ≡ true → list_all (λ v. names_value c v) (log_in (k ∷ ks) p) ≡ true
    go (inl t) all =
        rw t (two_named (λ v. names_value c v) (log_in ks p) (values_in k.what) all (written_named c (role kind.Replica p) ks k.what
        (subst (λ (x : RoleId). FitsAs c x k.what ks x.kind) (sym (same_role-true (role kind.Replica p) k.role t)) fit.0)))
    go (inr f) all = rw f all
