-- A renewal is no record of anybody: what is said of records, of what those of other kinds than replicas leave, and of the values that
-- replicas kept stays so.
use Rattle.cx_base.proofs.Common.{ap, sym, ◌∙◌, subst, inl, inr, arith, append-nil}
use Rattle.cx_model.specs.Prelude.{◌≡◌, ◌⊎◌, ℕ, Bool, true, false, List, [], ◌∷◌, refl, ◌++◌, if◌then◌else◌, Value, RoleId, role, same_role}
use Rattle.cx_model.specs.Prelude.{KeptRecord, Written, Record, acceptor_rules, leader_rules, bool_cases, matchmaker_rules, Member, HasKept}
use Rattle.cx_model.specs.Prelude.{replacer_rules, Rules, folded, written_after, values_in, by_role, same_role-true}
use Rattle.cx_model.specs.Prelude.{max, Kind, AcceptorDurable, LeaderDurable, MatchmakerDurable, ReaderDurable, ReplacerDurable}
use Rattle.cx_model.specs.Prelude.{reader_rules}
use Rattle.cx_base.specs.declared.role.Kind.TheVariants as kind
use Rattle.cx_letter.specs.declared.input.Written.TheVariants as written
use Rattle.cx_inv_run.specs.Kinds.{IsKeeper, IsWriter}
use Rattle.cx_inv_run.specs.States.{snap_by, entry_by, durable_of, log_in}
use Rattle.cx_inv_run.proofs.Histories.{durable_snap, durable_else, log_snap, no_snap}
use Rattle.cx_inv_run.proofs.Sends.{acceptor_keeps, reader_keeps, replica_keeps}

-- every change is one that its role's kind makes
abbrev pub AreKeepers : List KeptRecord → Type 0
AreKeepers history = (k : KeptRecord) → Member k history → IsWriter k.role.kind k.what

-- A longer history has no record more, leaves of each role that is no replica what the other leaves, and has no value more.
pub record SameKept (history longer : List KeptRecord) : Type 0 where
  pub more : (k : KeptRecord) → Member k history → Member k longer
  pub back : (a : RoleId) (r : Record) → HasKept longer a r → HasKept history a r
  pub leaders : (a : RoleId) → durable_of leader_rules a longer ≡ durable_of leader_rules a history
  pub matchmakers : (a : RoleId) → durable_of matchmaker_rules a longer ≡ durable_of matchmaker_rules a history
  pub acceptors : (a : RoleId) → durable_of acceptor_rules a longer ≡ durable_of acceptor_rules a history
  pub readers : (a : RoleId) → durable_of reader_rules a longer ≡ durable_of reader_rules a history
  pub replacers : (a : RoleId) → durable_of replacer_rules a longer ≡ durable_of replacer_rules a history
  pub logs : (p : ℕ) → log_in longer p ≡ log_in history p

-- by the rules of another kind the changes of a role leave nothing
module _ {D V : Type 0} (rules : Rules D V) (none : (d : D) (first : ℕ) → rules.renewed d first ≡ []) (j : Kind)
    (still : (d : D) (r : Record) → IsKeeper j r → rules.after d r ≡ d) where
  untouched : (d : D) (w : Written) → IsWriter j w → d ≡ rules.empty → written_after rules d w ≡ rules.empty
  untouched d (written.Record r) is e = still d r is ∙ e
  untouched d (written.Snap first) is e = ap (λ rs. folded rules rs) (none d first)

  foreign : (p : ℕ) (history : List KeptRecord) → AreKeepers history → durable_of rules (role j p) history ≡ rules.empty
  unfolding durable_of
  foreign p [] keepers = refl
  foreign p (k ∷ ks) keepers = go (bool_cases (same_role (role j p) k.role)) (foreign p ks (λ x m. keepers x (inr m)))
    where
      go : (same_role (role j p) k.role ≡ true) ⊎ (same_role (role j p) k.role ≡ false)
          → durable_of rules (role j p) ks ≡ rules.empty → (if same_role (role j p) k.role then written_after rules
          (durable_of rules (role j p) ks) k.what else durable_of rules (role j p) ks) ≡ rules.empty
      go (inl t) rest =
          rw t (untouched (durable_of rules (role j p) ks) k.what (subst (λ (a : RoleId). IsWriter a.kind k.what)
          (sym (same_role-true (role j p) k.role t)) (keepers k (inl refl))) rest)
      go (inr f) rest = rw f rest

  same_durable : (p first : ℕ) (history : List KeptRecord) → AreKeepers history → (a : RoleId)
      → durable_of rules a (snap_by (role j p) first ∷ history) ≡ durable_of rules a history
  same_durable p first history keepers =
      by_role (λ a. durable_of rules a (snap_by (role j p) first ∷ history) ≡ durable_of rules a history) (role j p)
      (durable_snap rules (role j p) first history
      ∙ ap (λ rs. folded rules rs) (none (durable_of rules (role j p) history) first) ∙ sym (foreign p history keepers))
      (λ a e. durable_else rules (role j p) a first history e)

-- by rules whose renewed list leaves all that it was made of, any role's renewal changes nothing
same_exact : {D V : Type 0} (rules : Rules D V) → ((d : D) (first : ℕ) → folded rules (rules.renewed d first) ≡ d)
    → (me : RoleId) (first : ℕ) (history : List KeptRecord) (a : RoleId)
    → durable_of rules a (snap_by me first ∷ history) ≡ durable_of rules a history
same_exact rules exact me first history =
    by_role (λ a. durable_of rules a (snap_by me first ∷ history) ≡ durable_of rules a history) me
    (durable_snap rules me first history ∙ exact (durable_of rules me history) first)
    (λ a e. durable_else rules me a first history e)

pub acceptor_exact : (d : AcceptorDurable) (first : ℕ) → folded acceptor_rules (acceptor_rules.renewed d first) ≡ d
acceptor_exact d first = refl

pub reader_exact : (d : ReaderDurable) (first : ℕ) → folded reader_rules (reader_rules.renewed d first) ≡ d
reader_exact d first = (let same : max 0 d.turn ≡ d.turn = omega arith in rw same refl)

-- a reader's last turn stays
pub reader_same : (me : RoleId) (first : ℕ) (history : List KeptRecord) (a : RoleId)
    → durable_of reader_rules a (snap_by me first ∷ history) ≡ durable_of reader_rules a history
reader_same = same_exact reader_rules reader_exact

module _ (j : Kind) (leader_still : (d : LeaderDurable) (r : Record) → IsKeeper j r → leader_rules.after d r ≡ d)
    (matchmaker_still : (d : MatchmakerDurable) (r : Record) → IsKeeper j r → matchmaker_rules.after d r ≡ d)
    (replacer_still : (d : ReplacerDurable) (r : Record) → IsKeeper j r → replacer_rules.after d r ≡ d) where
  renewal_same : (history : List KeptRecord) → AreKeepers history → (p first : ℕ)
      → SameKept history (snap_by (role j p) first ∷ history)
  renewal_same history keepers p first = record {
    more = λ k m. inr m;
    back = λ a r h. no_snap (role j p) a first r history h;
    leaders = same_durable leader_rules (λ d n. refl) j leader_still p first history keepers;
    matchmakers = same_durable matchmaker_rules (λ d n. refl) j matchmaker_still p first history keepers;
    acceptors = same_exact acceptor_rules acceptor_exact (role j p) first history;
    readers = same_exact reader_rules reader_exact (role j p) first history;
    replacers = same_durable replacer_rules (λ d n. refl) j replacer_still p first history keepers;
    logs = λ q. log_snap (role j p) q first history;
  }

-- a renewal of a replica's list
pub snap_same : (history : List KeptRecord) → AreKeepers history → (p first : ℕ)
    → SameKept history (snap_by (role kind.Replica p) first ∷ history)
snap_same =
    renewal_same kind.Replica (λ d r k. replica_keeps (λ x. leader_rules.after d x ≡ d) (λ vs. refl) r k)
    (λ d r k. replica_keeps (λ x. matchmaker_rules.after d x ≡ d) (λ vs. refl) r k)
    (λ d r k. replica_keeps (λ x. replacer_rules.after d x ≡ d) (λ vs. refl) r k)

-- of an acceptor's
pub acceptor_snap_same : (history : List KeptRecord) → AreKeepers history → (p first : ℕ)
    → SameKept history (snap_by (role kind.Acceptor p) first ∷ history)
acceptor_snap_same =
    renewal_same kind.Acceptor
    (λ d r k. acceptor_keeps (λ x. leader_rules.after d x ≡ d) (λ i. refl) (λ i s cw v. refl) (λ i cw. refl) r k)
    (λ d r k. acceptor_keeps (λ x. matchmaker_rules.after d x ≡ d) (λ i. refl) (λ i s cw v. refl) (λ i cw. refl) r k)
    (λ d r k. acceptor_keeps (λ x. replacer_rules.after d x ≡ d) (λ i. refl) (λ i s cw v. refl) (λ i cw. refl) r k)

-- and of a reader's
pub reader_snap_same : (history : List KeptRecord) → AreKeepers history → (p first : ℕ)
    → SameKept history (snap_by (role kind.Reader p) first ∷ history)
reader_snap_same =
    renewal_same kind.Reader (λ d r k. reader_keeps (λ x. leader_rules.after d x ≡ d) (λ n. refl) r k)
    (λ d r k. reader_keeps (λ x. matchmaker_rules.after d x ≡ d) (λ n. refl) r k)
    (λ d r k. reader_keeps (λ x. replacer_rules.after d x ≡ d) (λ n. refl) r k)

-- a record without values leaves the values that replicas kept
log_if : (b : Bool) (vs none : List Value) → none ≡ [] → (if b then vs ++ none else vs) ≡ vs
log_if true vs none e = ap (λ l. vs ++ l) e ∙ append-nil vs
log_if false vs none e = refl

pub log_else : (me : RoleId) (p : ℕ) (r : Record) (history : List KeptRecord) → values_in (written.Record r) ≡ []
    → log_in (entry_by me r ∷ history) p ≡ log_in history p
unfolding log_in
log_else me p r history e = log_if (same_role (role kind.Replica p) me) (log_in history p) (values_in (written.Record r)) e
