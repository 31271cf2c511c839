-- One step of a role of the protocol, beside the one event that is recorded of it.
use Rattle.cx_inv_run.proofs.Common.{◌≡◌, ◌==◌, ◌&&◌, ℕ, true, false, List, [], ◌∷◌, ◌++◌, Option, None, Some, option_map, ap, sym, ◌∙◌}
use Rattle.cx_inv_run.proofs.Common.{subst, refl, true≢false, none-some, Cluster, Whole, Event, Kind, RoleId, code_of, OfKind, State}
use Rattle.cx_inv_run.proofs.Common.{BatcherIn, LeaderIn, ProxyIn, ReplicaIn, ReaderIn, ReplacerIn, plain, plain_volatile, batcher_volatile}
use Rattle.cx_inv_run.proofs.Common.{leader_volatile, proxy_volatile, replica_volatile, reader_volatile, replacer_volatile, acceptor_kinds}
use Rattle.cx_inv_run.proofs.Common.{batcher_kinds, matchmaker_kinds, proxy_kinds, reader_kinds, replica_kinds, unbatcher_kinds}
use Rattle.cx_inv_run.proofs.Common.{leader_kinds, replacer_kinds, acceptor_rules, batcher_rules, leader_rules, list_own, number_itself}
use Rattle.cx_inv_run.proofs.Common.{matchmaker_rules, Member, names_role, DeliversOneOf, proxy_rules, reader_rules, replacer_rules}
use Rattle.cx_inv_run.proofs.Common.{ReplicaDurable, ReplicaVolatile, replica_renewed, replica_rules, Rules, folded, folded_from}
use Rattle.cx_inv_run.proofs.Common.{unbatcher_rules, World, act_at, act_of, change, durable_part, kept_by, list_of, nothing, run_from}
use Rattle.cx_inv_run.proofs.Common.{turned, Letter, Act, Input, KeptRecord, Written, Record}
use Rattle.cx_role.specs.Prelude.{Append, KeeperChange, Renewal, Running, outcome_of, running_after, Change, step, snapped_by}
use Rattle.cx_base.specs.declared.role.Kind.TheVariants as kind
use Rattle.cx_base.specs.declared.why.Why.TheVariants as why
use Rattle.cx_inv_open.specs.Reopened.{stored_as}
use Rattle.cx_model.specs.Rules.{with_kept}
use Rattle.cx_letter.specs.declared.input.Act.TheVariants as act
use Rattle.cx_letter.specs.declared.input.Input.TheVariants as input
use Rattle.cx_letter.specs.declared.input.Written.TheVariants as written
use Rattle.cx_course.specs.declared.doing.Doing.{Doing}
use Rattle.cx_course.specs.declared.doing.Doing.TheVariants.{Begin, Give, Snap}
use Rattle.cx_course.specs.Changing.{StoreChange, change_for, changed_by}
use Rattle.cx_course.specs.Course.{is_a}
use Rattle.cx_course.specs.Hosted.{Hosted, ClientAt, BatcherAt, LeaderAt, ProxyAt, AcceptorAt, MatchmakerAt, ReplicaAt, UnbatcherAt}
use Rattle.cx_course.specs.Hosted.{ReaderAt, ReplacerAt, Step, by_row, by_snap, does, given, kind_at, name_of}
use Rattle.cx_role.specs.Snap.{snap_of}
use Rattle.cx_course.specs.Run.{is_client}
use Rattle.cx_course.proofs.Alike.{IsAlike, IsRole, Moves}
use Rattle.cx_course.proofs.Asker.{IsTraced}
use Rattle.cx_course.proofs.Turned.{IsPlain, act_moves, made_by, made_snap, whole_kept, whole_snap}

-- what a role of this kind may write: a client nothing, and only a replica forgets values
abbrev pub MayWrite : Kind → Option Written → Type 0
MayWrite k None = Unit {0}
MayWrite k (Some (written.Record r)) = k ≡ kind.Client → ⊥
MayWrite k (Some (written.Snap first)) = k ≡ kind.Replica

-- A step of the role of this name came to what these events come to in the model.
pub record Lands (w : World) (events : List Event) (me : RoleId) (x : Step) : Type 0 where
  pub what : Option Written
  pub moves : Moves w (run_from w events) me what x.sends
  pub alike : IsAlike (run_from w events) x.next
  pub name : name_of x.next ≡ me
  pub kept : x.kept ≡ changed_by me (option_map (change_for (stored_as me w.kept me.kind)) what)
  pub may : MayWrite me.kind what
  pub next : (y : Written) → what ≡ Some y → (e : Event) × ((change w e).kept ≡ kept_by me (Some y))
  pub answers : (d : Letter) → Member d x.answers → DeliversOneOf w events d

-- ---- the list in the store

folded_append : {D V : Type 0} (rules : Rules D V) (d : D) (rs ss : List Record)
    → folded_from rules d (rs ++ ss) ≡ folded_from rules (folded_from rules d rs) ss
folded_append rules d [] ss = refl
folded_append rules d (r ∷ rs) ss = folded_append rules (rules.after d r) rs ss

-- the durable part of a role after what its row kept
durable_kept : {D V : Type 0} (rules : Rules D V) (me : RoleId) (kept : List KeptRecord) (o : Option Record)
    → durable_part rules me (kept ++ kept_by me (option_map written.Record o)) ≡ with_kept rules (durable_part rules me kept) o
durable_kept rules me kept None = ap (folded rules) (list_own rules me kept None)
durable_kept rules me kept (Some r) =
    ap (folded rules) (list_own rules me kept (Some (written.Record r))) ∙ folded_append rules rules.empty (list_of rules me kept) (r ∷ [])

appended : (list : List Record) (o : Option Record) → option_map Append o ≡ option_map (change_for list) (option_map written.Record o)
appended list None = refl
appended list (Some r) = refl

may_keep : (k : Kind) (o : Option Record) → (k ≡ kind.Client → ⊥) → MayWrite k (option_map written.Record o)
may_keep k None other = tt
may_keep k (Some r) other = other

-- ---- by the rules of its kind

-- What holds of the list of each kind by its rules holds of the list in every role's store. A client has none.
pub stored_by : (P : (List KeptRecord → List Record) → Type 0) (me : RoleId) (k : Kind) → (k ≡ kind.Client → P (λ kept. []))
    → ((D V : Type 0) (rules : Rules D V) → P (list_of rules me)) → P (λ kept. stored_as me kept k)
stored_by P me kind.Client none each = none refl
stored_by P me kind.Batcher none each = each _ _ batcher_rules
stored_by P me kind.Leader none each = each _ _ leader_rules
stored_by P me kind.Proxy none each = each _ _ proxy_rules
stored_by P me kind.Acceptor none each = each _ _ acceptor_rules
stored_by P me kind.Matchmaker none each = each _ _ matchmaker_rules
stored_by P me kind.Replica none each = each _ _ replica_rules
stored_by P me kind.Unbatcher none each = each _ _ unbatcher_rules
stored_by P me kind.Reader none each = each _ _ reader_rules
stored_by P me kind.Replacer none each = each _ _ replacer_rules

-- What holds of the turns of each kind by its rules holds of the acts at every role. A client hears whatever it is given.
pub acts_by : (P : (Act → Change) → Type 0) (c : Cluster) (roles : RoleId → State) (kept : List KeptRecord) (me : RoleId) (k : Kind)
    → P (λ a. nothing (Some me) roles why.Heard)
    → ((D V : Type 0) (rules : Rules D V) (make : V → State) (running : Option V) → P (λ a. turned rules make c roles kept a me running))
    → P (λ a. act_of c roles kept a me k)
acts_by P c roles kept me kind.Client heard turns = heard
acts_by P c roles kept me kind.Batcher heard turns = turns _ _ batcher_rules BatcherIn (batcher_volatile (roles me))
acts_by P c roles kept me kind.Leader heard turns = turns _ _ leader_rules LeaderIn (leader_volatile (roles me))
acts_by P c roles kept me kind.Proxy heard turns = turns _ _ proxy_rules ProxyIn (proxy_volatile (roles me))
acts_by P c roles kept me kind.Acceptor heard turns = turns _ _ acceptor_rules plain (plain_volatile (roles me))
acts_by P c roles kept me kind.Matchmaker heard turns = turns _ _ matchmaker_rules plain (plain_volatile (roles me))
acts_by P c roles kept me kind.Replica heard turns = turns _ _ replica_rules ReplicaIn (replica_volatile (roles me))
acts_by P c roles kept me kind.Unbatcher heard turns = turns _ _ unbatcher_rules plain (plain_volatile (roles me))
acts_by P c roles kept me kind.Reader heard turns = turns _ _ reader_rules ReaderIn (reader_volatile (roles me))
acts_by P c roles kept me kind.Replacer heard turns = turns _ _ replacer_rules ReplacerIn (replacer_volatile (roles me))

-- What a step changes in stores: at most its role's own, and only a replica puts a list anew.
pub record ChangesOwn (h : Hosted) (kept : List StoreChange) : Type 0 where
  pub change : Option KeeperChange
  pub is : kept ≡ changed_by (name_of h) change
  pub renewal : (records : List Record) → change ≡ Some (Renewal records) → kind_at h ≡ kind.Replica

changes_none : (h : Hosted) → ChangesOwn h []
changes_none h = record { change = None; is = refl; renewal = λ records e. absurd (none-some (Renewal records) e) }

no_renewal : (o : Option Record) (records : List Record) → option_map Append o ≡ Some (Renewal records) → ⊥
no_renewal None records e = cc
no_renewal (Some r) records e = cc

-- what a row keeps
changes_row : (h : Hosted) (o : Option Record) → ChangesOwn h (changed_by (name_of h) (option_map Append o))
changes_row h o = record { change = option_map Append o; is = refl; renewal = λ records e. absurd (no_renewal o records e) }

given_changes : (h : Hosted) (i : Input) → ChangesOwn h (given h i).kept
given_changes (ClientAt s) (input.Take d) = changes_none (ClientAt s)
given_changes (ClientAt s) input.Tick = changes_none (ClientAt s)
given_changes (ClientAt s) (input.Order order) = changes_none (ClientAt s)
given_changes (BatcherAt s) i = changes_row (BatcherAt s) (outcome_of batcher_rules s i).kept
given_changes (LeaderAt s) i = changes_row (LeaderAt s) (outcome_of leader_rules s i).kept
given_changes (ProxyAt s) i = changes_row (ProxyAt s) (outcome_of proxy_rules s i).kept
given_changes (AcceptorAt s) i = changes_row (AcceptorAt s) (outcome_of acceptor_rules s i).kept
given_changes (MatchmakerAt s) i = changes_row (MatchmakerAt s) (outcome_of matchmaker_rules s i).kept
given_changes (ReplicaAt s) i = changes_row (ReplicaAt s) (outcome_of replica_rules s i).kept
given_changes (UnbatcherAt s) i = changes_row (UnbatcherAt s) (outcome_of unbatcher_rules s i).kept
given_changes (ReaderAt s) i = changes_row (ReaderAt s) (outcome_of reader_rules s i).kept
given_changes (ReplacerAt s) i = changes_row (ReplacerAt s) (outcome_of replacer_rules s i).kept

pub does_change : (h : Hosted) (what : Doing) → ChangesOwn h (does h what).kept
unfolding does
does_change h (Give n i) = given_changes h i
does_change (ReplicaAt s) Snap =
    record {
      change = option_map (λ b. Renewal (replica_renewed s.durable b)) (snap_of replica_rules s);
      is = refl;
      renewal = λ records e. refl;
    }
does_change (ClientAt s) Begin = changes_none (ClientAt s)
does_change other Begin = changes_none other
does_change other Snap = changes_none other

-- ---- a row

pub is_no : (k j : Kind) (me : RoleId) → me.kind ≡ j → (code_of j == code_of k) ≡ false → is_a k me ≡ false
is_no k j me is other = ap (λ i. (code_of i == code_of k) && (me.index == me.index)) is ∙ ap (λ b. b && (me.index == me.index)) other

pub is_one : (k : Kind) (me : RoleId) → me.kind ≡ k → is_a k me ≡ true
is_one k me is = ap (λ i. (code_of i == code_of k) && (me.index == me.index)) is
    ∙ ap (λ b. b && (me.index == me.index)) (number_itself (code_of k)) ∙ number_itself me.index

pub no_client : (me : RoleId) → is_a kind.Client me ≡ false → me.kind ≡ kind.Client → ⊥
no_client me off client = true≢false (sym (is_one kind.Client me client) ∙ off)

-- this event is the act
pub record IsAct (w : World) (e : Event) (a : Act) (me : RoleId) : Type 0 where
  pub change : change w e ≡ act_at w a me
  pub plain : IsPlain w e

module _ {D V : Type 0} (rules : Rules D V) (make : V → State) (get : State → Option V) (got : (v : V) → get (make v) ≡ Some v)
    (acts : (c : Cluster) (roles : RoleId → State) (kept : List KeptRecord) (a : Act) (me : RoleId)
    → act_of c roles kept a me rules.kind ≡ turned rules make c roles kept a me (get (roles me)))
    (wrap : Running D V → Hosted) (alike : (w : World) (s : Running D V) → IsRole rules make w s → IsAlike w (wrap s))
    (name : (s : Running D V) → name_of (wrap s) ≡ s.me) where
  row_lands : (w : World) (s : Running D V) (i : Input) (e : Event) → is_a kind.Client s.me ≡ false → IsTraced w → IsRole rules make w s
      → IsAct w e (act.Give i Whole) s.me → OfKind s.me (outcome_of rules s i) → Lands w (e ∷ []) s.me (by_row rules wrap s i)
  row_lands w s i e off traced is this kinds =
      let o = outcome_of rules s i in
      let m = act_moves rules make get got acts w traced s is (act.Give i Whole) (made_by o) (whole_kept o o.kept) e this.plain
      (λ d m. (kinds.sends d m).0) this.change in
      record {
        what = option_map written.Record o.kept;
        moves = m.0;
        alike = alike (step w e) (running_after rules s o) (record {
          cluster = is.cluster ∙ sym m.0.cluster;
          kind_is = is.kind_is;
          named = subst (λ c. names_role c s.me ≡ true) (sym m.0.cluster) is.named;
          durable = ap (λ (d : D). with_kept rules d o.kept) is.durable
              ∙ sym (ap (λ l. durable_part rules s.me l) m.0.kept ∙ durable_kept rules s.me w.kept o.kept);
          volatile = m.1;
        });
        name = name (running_after rules s o);
        kept = ap (changed_by s.me) (appended (stored_as s.me w.kept s.me.kind) o.kept);
        may = may_keep s.me.kind o.kept (no_client s.me off);
        next = λ y is. (e, m.2 ∙ ap (kept_by s.me) is);
        answers = λ d m. absurd m;
      }

-- a role of the protocol is given something
pub role_lands : (w : World) (h : Hosted) (i : Input) (e : Event) → is_client h ≡ false → IsTraced w → IsAlike w h
    → IsAct w e (act.Give i Whole) (name_of h) → Lands w (e ∷ []) (name_of h) (given h i)
role_lands w (ClientAt s) i e off traced is this = absurd (no_client s.me off (ap (λ (a : RoleId). a.kind) is.client.me))
role_lands w (BatcherAt s) i e off traced is this =
    row_lands batcher_rules BatcherIn batcher_volatile (λ v. refl) (λ c roles kept a me. refl) BatcherAt (λ w s is. is) (λ s. refl) w s i e
    off traced is this (batcher_kinds s.cluster s.me is.kind_is s.volatile i)
role_lands w (LeaderAt s) i e off traced is this = row_lands leader_rules LeaderIn leader_volatile (λ v. refl) (λ c roles kept a me. refl)
    LeaderAt (λ w s is. is) (λ s. refl) w s i e off traced is this (leader_kinds s.cluster s.me is.kind_is s.durable s.volatile i)
role_lands w (ProxyAt s) i e off traced is this = row_lands proxy_rules ProxyIn proxy_volatile (λ v. refl) (λ c roles kept a me. refl)
    ProxyAt (λ w s is. is) (λ s. refl) w s i e off traced is this (proxy_kinds s.cluster s.me is.kind_is s.volatile i)
role_lands w (AcceptorAt s) i e off traced is this = row_lands acceptor_rules plain plain_volatile (λ v. refl) (λ c roles kept a me. refl)
    AcceptorAt (λ w s is. is) (λ s. refl) w s i e off traced is this (acceptor_kinds s.cluster s.me is.kind_is s.durable i)
role_lands w (MatchmakerAt s) i e off traced is this =
    row_lands matchmaker_rules plain plain_volatile (λ v. refl) (λ c roles kept a me. refl) MatchmakerAt (λ w s is. is) (λ s. refl) w s i e
    off traced is this (matchmaker_kinds s.cluster s.me is.kind_is s.durable i)
role_lands w (ReplicaAt s) i e off traced is this =
    row_lands replica_rules ReplicaIn replica_volatile (λ v. refl) (λ c roles kept a me. refl) ReplicaAt (λ w s is. is) (λ s. refl) w s i e
    off traced is this (replica_kinds s.cluster s.me is.kind_is s.durable s.volatile i)
role_lands w (UnbatcherAt s) i e off traced is this = row_lands unbatcher_rules plain plain_volatile (λ v. refl) (λ c roles kept a me. refl)
    UnbatcherAt (λ w s is. is) (λ s. refl) w s i e off traced is this (unbatcher_kinds s.cluster s.me is.kind_is i)
role_lands w (ReaderAt s) i e off traced is this = row_lands reader_rules ReaderIn reader_volatile (λ v. refl) (λ c roles kept a me. refl)
    ReaderAt (λ w s is. is) (λ s. refl) w s i e off traced is this (reader_kinds s.cluster s.me is.kind_is s.durable s.volatile i)
role_lands w (ReplacerAt s) i e off traced is this =
    row_lands replacer_rules ReplacerIn replacer_volatile (λ v. refl) (λ c roles kept a me. refl) ReplacerAt (λ w s is. is) (λ s. refl) w s
    i e off traced is this (replacer_kinds s.cluster s.me is.kind_is s.durable s.volatile i)

-- ---- a snap

module _ (w : World) (s : Running ReplicaDurable ReplicaVolatile) (traced : IsTraced w) (is : IsRole replica_rules ReplicaIn w s) where
  stored_so : stored_as s.me w.kept s.me.kind ≡ list_of replica_rules s.me w.kept
  stored_so = ap (λ k. stored_as s.me w.kept k) is.kind_is

  renewed : (list : List Record) → stored_as s.me w.kept s.me.kind ≡ list → s.durable ≡ folded replica_rules list → (first : Option ℕ)
      → option_map (λ b. Renewal (replica_renewed s.durable b)) first
      ≡ option_map (change_for (stored_as s.me w.kept s.me.kind)) (option_map written.Snap first)
  renewed list stored durable None = refl
  renewed list stored durable (Some b) =
      ap (λ d. Some (Renewal (replica_renewed d b))) (durable ∙ sym (ap (folded replica_rules) stored))

  may_snap : (first : Option ℕ) → MayWrite s.me.kind (option_map written.Snap first)
  may_snap None = tt
  may_snap (Some b) = is.kind_is

  -- the durable part, and the rest, once this was forgotten
  durable_snap : (first : Option ℕ) → (snapped_by replica_rules s first).durable
      ≡ durable_part replica_rules s.me (w.kept ++ kept_by s.me (option_map written.Snap first))
  durable_snap None = is.durable ∙ sym (ap (folded replica_rules) (list_own replica_rules s.me w.kept None))
  durable_snap (Some b) = ap (λ d. folded replica_rules (replica_renewed d b)) is.durable
      ∙ sym (ap (folded replica_rules) (list_own replica_rules s.me w.kept (Some (written.Snap b))))

  name_snap : (first : Option ℕ) → (snapped_by replica_rules s first).me ≡ s.me
  name_snap None = refl
  name_snap (Some b) = refl

  snapped_alike : (after : World) (first : Option ℕ) → after.cluster ≡ w.cluster
      → after.kept ≡ w.kept ++ kept_by s.me (option_map written.Snap first)
      → after.roles s.me ≡ ReplicaIn s.volatile → IsRole replica_rules ReplicaIn after (snapped_by replica_rules s first)
  snapped_alike after None cluster kept state = record {
    cluster = is.cluster ∙ sym cluster;
    kind_is = is.kind_is;
    named = subst (λ c. names_role c s.me ≡ true) (sym cluster) is.named;
    durable = durable_snap None ∙ sym (ap (λ l. durable_part replica_rules s.me l) kept);
    volatile = state;
  }
  snapped_alike after (Some b) cluster kept state = record {
    cluster = is.cluster ∙ sym cluster;
    kind_is = is.kind_is;
    named = subst (λ c. names_role c s.me ≡ true) (sym cluster) is.named;
    durable = durable_snap (Some b) ∙ sym (ap (λ l. durable_part replica_rules s.me l) kept);
    volatile = state;
  }

  pub snap_lands : (e : Event) → IsAct w e (act.Snap Whole) s.me → Lands w (e ∷ []) s.me (by_snap s (snap_of replica_rules s))
  snap_lands e this =
      let first = snap_of replica_rules s in
      let m = act_moves replica_rules ReplicaIn replica_volatile (λ v. refl) (λ c roles kept a me. refl) w traced s is (act.Snap Whole)
      (made_snap s.volatile first) (whole_snap s.volatile first) e this.plain (λ d m. absurd m) this.change in
      record {
        what = option_map written.Snap first;
        moves = m.0;
        alike = snapped_alike (step w e) first m.0.cluster m.0.kept m.1;
        name = name_snap first;
        kept = ap (changed_by s.me) (renewed (list_of replica_rules s.me w.kept) stored_so is.durable first);
        may = may_snap first;
        next = λ y is. (e, m.2 ∙ ap (kept_by s.me) is);
        answers = λ d m. absurd m;
      }
