-- An acceptor or a reader opens from the list that it puts anew.
use Rattle.cx_inv_run.proofs.Common.{◌≡◌, ◌⊎◌, ◌≤◌, ℕ, ◌+◌, ◌==◌, Bool, true, false, not, ◌&&◌, ◌||◌, nat_le, nat_lt, max, List, [], ◌∷◌}
use Rattle.cx_inv_run.proofs.Common.{None, Some, refl, sym, subst, inl, inr, arith, if◌then◌else◌, and_from, and_parts, cases_Bool}
use Rattle.cx_inv_run.proofs.Common.{list_all, nat_tests, Cluster, RoleId, role, same_role, same_role-true, is_before, no_round, Vote}
use Rattle.cx_inv_run.proofs.Common.{KeptRecord, Written, Record, AcceptorDurable, acceptor_after, acceptor_rules, is_of_round, vote_at}
use Rattle.cx_inv_run.proofs.Common.{votes_from_slot, with_vote, names_round, names_value, names_vote, last_turn, reader_rules, refused}
use Rattle.cx_inv_run.proofs.Common.{written_after, durable_of}
use Rattle.cx_base.specs.declared.role.Kind.TheVariants as kind
use Rattle.cx_field.specs.Fields.{in_window}
use Rattle.cx_letter.specs.declared.input.Written.TheVariants as written
use Rattle.cx_letter.specs.declared.kept.Record.TheVariants as kept
use Rattle.cx_model.specs.Acceptor.{acceptor_fits}
use Rattle.cx_inv_open.specs.Fits.{AllFit, FitsAs}
use Rattle.cx_inv_open.proofs.Readers.{turn_below}

-- what an acceptor promised and voted for is named in the cluster
pub record IsNamed (c : Cluster) (d : AcceptorDurable) : Type 0 where
  pub promise : is_before no_round d.promise ≡ true → names_round c d.promise ≡ true
  pub votes : list_all (λ (v : Vote). names_vote c v) d.votes ≡ true

named_from : (c : Cluster) (low : ℕ) (vs : List Vote) → list_all (λ (v : Vote). names_vote c v) vs ≡ true
    → list_all (λ (v : Vote). names_vote c v) (votes_from_slot low vs) ≡ true
named_from c low [] h = refl
named_from c low (v ∷ vs) h =
    let p = and_parts (names_vote c v) (list_all (λ (u : Vote). names_vote c u) vs) h in
    go (cases_Bool (nat_le low v.slot)) p.0 (named_from c low vs p.1)
  where
    go : (nat_le low v.slot ≡ true) ⊎ (nat_le low v.slot ≡ false) → names_vote c v ≡ true
        → list_all (λ (u : Vote). names_vote c u) (votes_from_slot low vs) ≡ true
        → list_all (λ (u : Vote). names_vote c u) (votes_from_slot low (v ∷ vs)) ≡ true
    go (inl t) own rest = rw t (and_from (names_vote c v) (list_all (λ (u : Vote). names_vote c u) (votes_from_slot low vs)) own rest)
    go (inr t) own rest = rw t rest

named_with : (c : Cluster) (v : Vote) (vs : List Vote) → names_vote c v ≡ true → list_all (λ (u : Vote). names_vote c u) vs ≡ true
    → list_all (λ (u : Vote). names_vote c u) (with_vote v vs) ≡ true
named_with c v [] own all = rw own refl
named_with c v (u ∷ us) own all = grind (arith, nat_tests, named_with c v us)

first_two : (p q r s t u : Bool) → (p && q && r && s && t && u) ≡ true → (p ≡ true) × (q ≡ true)
first_two true true r s t u h = (refl, refl)
first_two true false r s t u h = cc
first_two false q r s t u h = cc

first_one : (p q r : Bool) → (p && q && r) ≡ true → p ≡ true
first_one true q r h = refl
first_one false q r h = cc

last_two : (p q r : Bool) → (p && q && r) ≡ true → (q ≡ true) × (r ≡ true)
last_two true true true h = (refl, refl)
last_two true true false h = cc
last_two true false r h = cc
last_two false q r h = cc

-- every record that it may keep leaves it so
pub kept_named : (c : Cluster) (me : RoleId) (d : AcceptorDurable) (r : Record) → acceptor_fits c me d r ≡ true → IsNamed c d
    → IsNamed c (acceptor_after d r)
kept_named c me d (kept.Promise i) fit n =
    record { promise = λ x. (and_parts (names_round c i) (is_before d.promise i) fit).0; votes = n.votes }
kept_named c me d (kept.Vote i s cw v) fit n =
    let a = first_two (names_round c i) (names_value c v) (not (is_before i d.promise)) (nat_le d.cw s) (in_window cw s)
    (not (is_of_round i (vote_at s d.votes))) fit in
    record {
      promise = λ x. a.0;
      votes = named_with c (record { round = i; slot = s; value = v }) (votes_from_slot (max d.cw cw) d.votes)
          (and_from (names_round c i) (names_value c v) a.0 a.1) (named_from c (max d.cw cw) d.votes n.votes);
    }
kept_named c me d (kept.Water i cw) fit n =
    let a = first_one (names_round c i) (not (is_before i d.promise)) (is_before d.promise i || nat_lt d.cw cw) fit in
    record { promise = λ x. a; votes = named_from c (max d.cw cw) d.votes n.votes }
kept_named c me d (kept.Voted i top cw vs) fit n =
    let a = last_two (not (is_before no_round d.promise)) (names_round c i) (list_all (λ (v : Vote). names_vote c v) vs) fit in
    record { promise = λ x. a.0; votes = a.1 }
kept_named c me d (kept.Match i g) fit n = cc
kept_named c me d (kept.Garbage i g) fit n = cc
kept_named c me d (kept.Round i g) fit n = cc
kept_named c me d (kept.Log vs) fit n = cc
kept_named c me d (kept.Base f h p k) fit n = cc
kept_named c me d (kept.Pairs ps) fit n = cc
kept_named c me d (kept.Notes k f ns) fit n = cc
kept_named c me d (kept.Tail vs) fit n = cc
kept_named c me d (kept.Ballot b) fit n = cc
kept_named c me d (kept.Stop b) fit n = cc
kept_named c me d (kept.Next b t) fit n = cc
kept_named c me d (kept.Boot t w es) fit n = cc
kept_named c me d (kept.Turn k) fit n = cc
kept_named c me d (kept.Known t) fit n = cc

written_named : (c : Cluster) (me : RoleId) (w : Written) (ks : List KeptRecord) → FitsAs c me w ks kind.Acceptor
    → IsNamed c (durable_of acceptor_rules me ks) → IsNamed c (written_after acceptor_rules (durable_of acceptor_rules me ks) w)
written_named c me (written.Record r) ks fit n = kept_named c me (durable_of acceptor_rules me ks) r fit.0 n
written_named c me (written.Snap first) ks fit n = n

module _ (c : Cluster) (a : ℕ) where
  abbrev Me : RoleId
  Me = role kind.Acceptor a

  pub history_named : (history : List KeptRecord) → AllFit c history
      → IsNamed c (durable_of acceptor_rules (role kind.Acceptor a) history)
  unfolding durable_of
  history_named [] fit = record { promise = λ x. cc; votes = refl }
  history_named (k ∷ ks) fit = go (cases_Bool (same_role Me k.role)) (history_named ks fit.1)
    where
      go : (same_role Me k.role ≡ true) ⊎ (same_role Me k.role ≡ false) → IsNamed c (durable_of acceptor_rules Me ks)
          → IsNamed c (if same_role Me k.role then written_after acceptor_rules (durable_of acceptor_rules Me ks) k.what
          else durable_of acceptor_rules Me ks)
      go (inl t) rest =
          let own : FitsAs c Me k.what ks kind.Acceptor =
          subst (λ (r : RoleId). FitsAs c r k.what ks r.kind) (sym (same_role-true Me k.role t)) fit.0 in
          rw t (written_named c Me k.what ks own rest)
      go (inr f) rest = rw f rest

begun : (b : Bool) (first : ℕ) → (if b then Some 0 else None) ≡ Some first → b ≡ true
begun true first e = refl
begun false first e = cc

-- the acceptor opens from its renewed list
pub acceptor_opens : (c : Cluster) (history : List KeptRecord) → AllFit c history → (a first : ℕ)
    → acceptor_rules.snap c (role kind.Acceptor a) (durable_of acceptor_rules (role kind.Acceptor a) history) tt ≡ Some first
    → refused acceptor_rules c (role kind.Acceptor a)
    (acceptor_rules.renewed (durable_of acceptor_rules (role kind.Acceptor a) history) first) ≡ None
acceptor_opens c history fit a first e =
    let d = durable_of acceptor_rules (role kind.Acceptor a) history in
    let n = history_named c a history fit in
    rw (n.promise (begun (is_before no_round d.promise) first e), n.votes) refl

-- and so does the reader
pub reader_opens : (c : Cluster) (history : List KeptRecord) → AllFit c history → (r first : ℕ)
    → refused reader_rules c (role kind.Reader r) (reader_rules.renewed (durable_of reader_rules (role kind.Reader r) history) first)
    ≡ None
reader_opens c history fit r first =
    opened (durable_of reader_rules (role kind.Reader r) history).turn (turn_below c (role kind.Reader r) refl history fit)
  where
    any_first : (n : ℕ) → (n == 0 + 1 || 0 == 0) ≡ true
    any_first n = grind (arith, nat_tests)

    within : (n last : ℕ) → n ≤ last → nat_le n last ≡ true
    within n last l = grind (arith, nat_tests)

    opened : (n : ℕ) → n ≤ last_turn → refused reader_rules c (role kind.Reader r) (kept.Turn n ∷ []) ≡ None
    opened n l = rw (any_first n, within n last_turn l) refl
