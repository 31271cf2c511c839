-- An acceptor or a reader that puts its list anew forgets nothing.
use Rattle.cx_inv_run.proofs.Common.{◌≡◌, ℕ, List, [], ◌∷◌, ◌++◌, Option, None, Some, ap, ◌∙◌, append-nil, Cut, Whole, Torn}
use Rattle.cx_inv_run.proofs.Common.{Kept, Cluster, RoleId, role, KeptRecord, Written, Snap, acceptor_rules, reader_rules, Rules, folded}
use Rattle.cx_inv_run.proofs.Common.{list_own, durable_part, kept_by, OfEveryRun, World, run, run_append, snap_turn}
use Rattle.cx_inv_run.proofs.Common.{turn, plain_volatile, reader_volatile}
use Rattle.cx_base.specs.declared.event.Event.TheVariants as event
use Rattle.cx_base.specs.declared.role.Kind.TheVariants as kind
use Rattle.cx_letter.specs.declared.input.Written.TheVariants as written
use Rattle.cx_model.specs.Promises.{RenewalsKeepAll}
use Rattle.cx_model.specs.World.{step}
use Rattle.cx_inv_run.proofs.Snaps.{acceptor_exact, reader_exact}

module _ {D V : Type 0} (rules : Rules D V) (exact : (d : D) (first : ℕ) → folded rules (rules.renewed d first) ≡ d) (me : RoleId)
    (kept : List KeptRecord) where
  abbrev Keeps : Option Written → Type 0
  Keeps w = durable_part rules me (kept ++ kept_by me w) ≡ durable_part rules me kept

  none_keeps : Keeps None
  none_keeps = ap (λ (l : List KeptRecord). durable_part rules me l) (append-nil kept)

  anew_keeps : (first : ℕ) → Keeps (Some (written.Snap first))
  anew_keeps first =
      ap (λ rs. folded rules rs) (list_own rules me kept (Some (written.Snap first))) ∙ exact (durable_part rules me kept) first

  snap_keeps : (cut : Cut) (v : V) (o : Option ℕ) → Keeps (snap_turn cut v o).kept
  snap_keeps cut v None = none_keeps
  snap_keeps Whole v (Some first) = anew_keeps first
  snap_keeps Torn v (Some first) = none_keeps
  snap_keeps Kept v (Some first) = anew_keeps first

  turn_keeps : (c : Cluster) (cut : Cut) (running : Option V) → Keeps (turn rules c me (durable_part rules me kept) (Snap cut) running).kept
  turn_keeps c cut None = none_keeps
  turn_keeps c cut (Some v) = snap_keeps cut v (rules.snap c me (durable_part rules me kept) v)

acceptor_step : (w : World) (a : ℕ) (cut : Cut)
    → durable_part acceptor_rules (role kind.Acceptor a) (step w (event.Snap (role kind.Acceptor a) cut)).kept
    ≡ durable_part acceptor_rules (role kind.Acceptor a) w.kept
unfolding step
acceptor_step w a cut =
    let me = role kind.Acceptor a in
    turn_keeps acceptor_rules acceptor_exact me w.kept w.cluster cut (plain_volatile (w.roles me))

reader_step : (w : World) (r : ℕ) (cut : Cut)
    → durable_part reader_rules (role kind.Reader r) (step w (event.Snap (role kind.Reader r) cut)).kept
    ≡ durable_part reader_rules (role kind.Reader r) w.kept
unfolding step
reader_step w r cut =
    let me = role kind.Reader r in
    turn_keeps reader_rules reader_exact me w.kept w.cluster cut (reader_volatile (w.roles me))

pub renewals_keep_all : OfEveryRun RenewalsKeepAll
renewals_keep_all c es = record {
  acceptors = λ a cut. let me = role kind.Acceptor a in
      ap (λ (w : World). durable_part acceptor_rules me w.kept) (run_append c es (event.Snap me cut ∷ [])) ∙ acceptor_step (run c es) a cut;
  readers = λ r cut. let me = role kind.Reader r in
      ap (λ (w : World). durable_part reader_rules me w.kept) (run_append c es (event.Snap me cut ∷ [])) ∙ reader_step (run c es) r cut;
}
