use Rattle.cx_journal.proofs.Common.{◌≡◌, ◌==◌, ℕ, List, length, true, not, ◌∙◌, ap, subst, has_some, BothTell, seen_pair_records}
use Rattle.cx_journal.proofs.TwinReady.{twin_has_none}
use Rattle.cx_journal.proofs.twin.Twin.is_empty.Goals as goal

pub returns-clause-empty : goal.returns-clause-empty
returns-clause-empty g c = subst (λ s. s.whole ≡ true → BothTell g.D.Disk.seen s.first s.second
    → c.is_single.result ≡ not (has_some (seen_pair_records g.D.Disk.seen s.first s.second))) c.self.view_is
    (twin_has_none g.D.Disk.seen g.D.Disk.may_leave g.D.Disk.size _ _ c.self.invariant
    (c.is_single.ensures ∙ ap (λ (gs : List ℕ). length gs == 1) c.deref.ensures.value))
