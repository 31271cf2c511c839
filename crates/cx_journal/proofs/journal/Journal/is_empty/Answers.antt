use Rattle.cx_journal.proofs.Common.{◌≡◌, ◌==◌, ℕ, List, length, true, not, ◌∙◌, ap, subst, is_some, has_some, told_records}
use Rattle.cx_journal.proofs.Ready.{has_none}
use Rattle.cx_journal.proofs.journal.Journal.is_empty.Goals as goal

pub returns-clause-empty : goal.returns-clause-empty
returns-clause-empty g c = subst (λ s. s.whole ≡ true → is_some (g.D.Disk.seen s.disk) ≡ true
    → c.is_single.result ≡ not (has_some (told_records (g.D.Disk.seen s.disk)))) c.self.view_is
    (has_none g.D.Disk.seen g.D.Disk.may_leave g.D.Disk.size _ _ c.self.invariant
    (c.is_single.ensures ∙ ap (λ (gs : List ℕ). length gs == 1) c.deref.ensures.value))
