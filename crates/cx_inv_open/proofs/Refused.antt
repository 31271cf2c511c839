-- A role refuses no record of its list, where each change of it is one that it could have made after the earlier ones.
use Rattle.std.proofs.lemmas.List.{reverse-reverse}
use Rattle.cx_inv_run.proofs.Common.{◌≡◌, ℕ, ◌+◌, Bool, true, false, List, [], ◌∷◌, ◌++◌, None, Some, if◌then◌else◌, refl, list_all, ap}
use Rattle.cx_inv_run.proofs.Common.{sym, ◌∙◌, subst, reverse, and_parts, list_all-append, reverse-append, Cluster, Command, Value, Kind}
use Rattle.cx_inv_run.proofs.Common.{RoleId, floor_fits, commands_of, role, same_role, KeptRecord, Written, Record, acceptor_rules}
use Rattle.cx_inv_run.proofs.Common.{batcher_rules, leader_rules, same_role-true, matchmaker_rules, by_test, proxy_rules, reader_rules}
use Rattle.cx_inv_run.proofs.Common.{replacer_rules, replica_rules, IsFit, Rules, folded, folded_from, refused, refused_from}
use Rattle.cx_inv_run.proofs.Common.{unbatcher_rules, list_after, list_of, values_in, durable_of, durable_by_time}
use Rattle.cx_base.specs.declared.role.Kind.TheVariants as kind
use Rattle.cx_letter.specs.declared.input.Written.TheVariants as written
use Rattle.cx_model.specs.Lists.{list_append}
use Rattle.cx_inv_run.specs.States.{log_in}
use Rattle.cx_inv_open.specs.Fits.{FitsAs, AllFit, has_fitting_floors}
use Rattle.cx_inv_open.specs.Reopened.{refused_as, stored_as}

module _ {D V : Type 0} (rules : Rules D V) (c : Cluster) (me : RoleId) where
  -- one more record at the end
  one_more : (d : D) (i : ℕ) (rs : List Record) (r : Record) → refused_from rules c me d i rs ≡ None
      → IsFit rules c me (folded_from rules d rs) (Some r) → refused_from rules c me d i (rs ++ r ∷ []) ≡ None
  one_more d i [] r none fit = rw (fit.0, fit.1) refl
  one_more d i (x ∷ rs) r none fit = step (rules.fits c me d x) none (λ n. one_more (rules.after d x) (i + 1) rs r n fit)
    where
      step : (b : Bool) → (if b then refused_from rules c me (rules.after d x) (i + 1) rs else Some i) ≡ None
          → (refused_from rules c me (rules.after d x) (i + 1) rs ≡ None → refused_from rules c me (rules.after d x) (i + 1) (rs ++ r ∷ [])
          ≡ None) → (if b then refused_from rules c me (rules.after d x) (i + 1) (rs ++ r ∷ []) else Some i) ≡ None
      step true n go = go n
      step false n go = cc

  -- a change after which the role opens from its list, with these changes before
  abbrev StepFits : List KeptRecord → Written → Type 0
  StepFits ks (written.Record r) = IsFit rules c me (durable_of rules me ks) (Some r)
  StepFits ks (written.Snap first) = refused rules c me (rules.renewed (durable_of rules me ks) first) ≡ None

  -- each of the role's changes, newest first, is one that it could have made after the earlier ones
  abbrev OwnFit : List KeptRecord → Type 0
  OwnFit [] = Unit {0}
  OwnFit (k ∷ ks) = (same_role me k.role ≡ true → StepFits ks k.what) × OwnFit ks

  left_by : (ks : List KeptRecord) → durable_of rules me ks ≡ folded rules (list_of rules me (reverse ks))
  left_by ks = sym (durable_by_time rules me (reverse ks) ∙ ap (λ (l : List KeptRecord). durable_of rules me l) (reverse-reverse ks))

  changed : (list : List Record) (ks : List KeptRecord) → durable_of rules me ks ≡ folded rules list → refused rules c me list ≡ None
      → (w : Written) → StepFits ks w → refused rules c me (list_after rules list w) ≡ None
  changed list ks left before (written.Record r) fit =
      one_more rules.empty 0 list r before (subst (λ d. IsFit rules c me d (Some r)) left fit)
  changed list ks left before (written.Snap first) fit = subst (λ d. refused rules c me (rules.renewed d first) ≡ None) left fit

  own_accepted : rules.whole rules.empty ≡ true → (ks : List KeptRecord) → OwnFit ks
      → refused rules c me (list_of rules me (reverse ks)) ≡ None
  own_accepted blank [] h = rw blank refl
  own_accepted blank (k ∷ ks) h =
      let list = list_of rules me (reverse ks) in
      let before = own_accepted blank ks h.1 in
      ap (λ (l : List KeptRecord). refused rules c me (list_of rules me l)) (reverse-append (k ∷ []) ks)
      ∙ ap (λ (l : List Record). refused rules c me l) (list_append rules me [] (reverse ks) (k ∷ []))
      ∙ by_test (λ (l : List Record). refused rules c me l ≡ None) (same_role me k.role) (list_after rules list k.what) list
      (λ t. changed list ks (left_by ks) before k.what (h.0 t))
      (λ f. before)

  -- its own are among all; what is told of a history is told of each earlier one
  own_of : (Told : List KeptRecord → Type 0) → ((k : KeptRecord) (ks : List KeptRecord) → Told (k ∷ ks) → Told ks) → (k : Kind)
      → me.kind ≡ k → ((w : Written) (ks : List KeptRecord) → Told ks → FitsAs c me w ks k → StepFits ks w)
      → (ks : List KeptRecord) → Told ks → AllFit c ks → OwnFit ks
  own_of Told older k is of [] told h = tt
  own_of Told older k is of (x ∷ ks) told h = (
    λ t. of x.what ks (older x ks told)
        (subst (λ j. FitsAs c me x.what ks j) is (subst (λ a. FitsAs c a x.what ks a.kind) (sym (same_role-true me x.role t)) h.0)),
    own_of Told older k is of ks (older x ks told) h.1,
  )

  accepted_as : rules.whole rules.empty ≡ true → (k : Kind) → me.kind ≡ k
      → ((w : Written) (ks : List KeptRecord) → FitsAs c me w ks k → StepFits ks w)
      → (ks : List KeptRecord) → AllFit c ks → refused rules c me (list_of rules me (reverse ks)) ≡ None
  accepted_as blank k is of ks h = own_accepted blank ks (own_of (λ l. Unit {0}) (λ x l t. tt) k is (λ w l t. of w l) ks tt h)

-- the changes of each kind of role: none, records alone, or lists put anew too

batcher_step : {A : Type 0} (c : Cluster) (me : RoleId) (w : Written) (ks : List KeptRecord) → FitsAs c me w ks kind.Batcher → A
batcher_step c me (written.Record r) ks h = absurd h
batcher_step c me (written.Snap first) ks h = absurd h

proxy_step : {A : Type 0} (c : Cluster) (me : RoleId) (w : Written) (ks : List KeptRecord) → FitsAs c me w ks kind.Proxy → A
proxy_step c me (written.Record r) ks h = absurd h
proxy_step c me (written.Snap first) ks h = absurd h

unbatcher_step : {A : Type 0} (c : Cluster) (me : RoleId) (w : Written) (ks : List KeptRecord) → FitsAs c me w ks kind.Unbatcher → A
unbatcher_step c me (written.Record r) ks h = absurd h
unbatcher_step c me (written.Snap first) ks h = absurd h

leader_step : (c : Cluster) (me : RoleId) (w : Written) (ks : List KeptRecord) → FitsAs c me w ks kind.Leader
    → StepFits leader_rules c me ks w
leader_step c me (written.Record r) ks h = h
leader_step c me (written.Snap first) ks h = absurd h

acceptor_step : (c : Cluster) (me : RoleId) (w : Written) (ks : List KeptRecord) → FitsAs c me w ks kind.Acceptor
    → StepFits acceptor_rules c me ks w
acceptor_step c me (written.Record r) ks h = h
acceptor_step c me (written.Snap first) ks h = h

matchmaker_step : (c : Cluster) (me : RoleId) (w : Written) (ks : List KeptRecord) → FitsAs c me w ks kind.Matchmaker
    → StepFits matchmaker_rules c me ks w
matchmaker_step c me (written.Record r) ks h = h
matchmaker_step c me (written.Snap first) ks h = absurd h

reader_step : (c : Cluster) (me : RoleId) (w : Written) (ks : List KeptRecord) → FitsAs c me w ks kind.Reader
    → StepFits reader_rules c me ks w
reader_step c me (written.Record r) ks h = h
reader_step c me (written.Snap first) ks h = h

replacer_step : (c : Cluster) (me : RoleId) (w : Written) (ks : List KeptRecord) → FitsAs c me w ks kind.Replacer
    → StepFits replacer_rules c me ks w
replacer_step c me (written.Record r) ks h = h
replacer_step c me (written.Snap first) ks h = absurd h

-- the floors that a replica was told

abbrev ToldTo : RoleId → List KeptRecord → Type 0
ToldTo me ks = has_fitting_floors (log_in ks me.index) ≡ true

front_told : (b : Bool) (vs ws : List Value) → has_fitting_floors (if b then vs ++ ws else vs) ≡ true → has_fitting_floors vs ≡ true
front_told true vs ws h = (and_parts (has_fitting_floors vs) (has_fitting_floors ws)
    (sym (list_all-append (λ (v : Value). list_all (λ (k : Command). floor_fits k.seq k.floor) (commands_of v)) vs ws) ∙ h)).0
front_told false vs ws h = h

older_told : (me : RoleId) (k : KeptRecord) (ks : List KeptRecord) → ToldTo me (k ∷ ks) → ToldTo me ks
unfolding log_in
older_told me k ks h = front_told (same_role (role kind.Replica me.index) k.role) (log_in ks me.index) (values_in k.what) h

replica_step : (c : Cluster) (me : RoleId) (w : Written) (ks : List KeptRecord) → ToldTo me ks → FitsAs c me w ks kind.Replica
    → StepFits replica_rules c me ks w
replica_step c me (written.Record r) ks told h = h
replica_step c me (written.Snap first) ks told h = h told

replica_accepted : (c : Cluster) (me : RoleId) → me.kind ≡ kind.Replica → (ks : List KeptRecord) → ToldTo me ks → AllFit c ks
    → refused replica_rules c me (list_of replica_rules me (reverse ks)) ≡ None
replica_accepted c me is ks told h = own_accepted replica_rules c me refl ks
    (own_of replica_rules c me (ToldTo me) (older_told me) kind.Replica is (replica_step c me) ks told h)

pub none_refused : (c : Cluster) (kept : List KeptRecord) → AllFit c (reverse kept) → (me : RoleId)
    → (me.kind ≡ kind.Replica → ToldTo me (reverse kept)) → refused_as c me (stored_as me kept me.kind) me.kind ≡ None
none_refused c kept h me told =
    subst (λ (l : List KeptRecord). refused_as c me (stored_as me l me.kind) me.kind ≡ None) (reverse-reverse kept) (go me.kind refl)
  where
    go : (k : Kind) → me.kind ≡ k → refused_as c me (stored_as me (reverse (reverse kept)) k) k ≡ None
    go kind.Client is = refl
    go kind.Batcher is = accepted_as batcher_rules c me refl kind.Batcher is (λ w ks x. batcher_step c me w ks x) (reverse kept) h
    go kind.Leader is = accepted_as leader_rules c me refl kind.Leader is (leader_step c me) (reverse kept) h
    go kind.Proxy is = accepted_as proxy_rules c me refl kind.Proxy is (λ w ks x. proxy_step c me w ks x) (reverse kept) h
    go kind.Acceptor is = accepted_as acceptor_rules c me refl kind.Acceptor is (acceptor_step c me) (reverse kept) h
    go kind.Matchmaker is = accepted_as matchmaker_rules c me refl kind.Matchmaker is (matchmaker_step c me) (reverse kept) h
    go kind.Replica is = replica_accepted c me is (reverse kept) (told is) h
    go kind.Unbatcher is = accepted_as unbatcher_rules c me refl kind.Unbatcher is (λ w ks x. unbatcher_step c me w ks x) (reverse kept) h
    go kind.Reader is = accepted_as reader_rules c me refl kind.Reader is (reader_step c me) (reverse kept) h
    go kind.Replacer is = accepted_as replacer_rules c me refl kind.Replacer is (replacer_step c me) (reverse kept) h
