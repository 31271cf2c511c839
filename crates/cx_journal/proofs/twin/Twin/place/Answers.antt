use Rattle.cx_journal.proofs.Common.{◌≡◌, ◌<◌, ◌++◌, length, true, sym, ◌∙◌, ap, subst, slice_index, take, frames, front_of, payloads}
use Rattle.cx_journal.proofs.Common.{BothTell, seen_pair_records}
use Rattle.cx_journal.proofs.TwinReady.{twin_place}
use Rattle.cx_journal.proofs.twin.Twin.place.Goals as goal

pub returns-clause-place : goal.returns-clause-place
returns-clause-place g c =
    subst (λ s. s.whole ≡ true → BothTell g.D.Disk.seen s.first s.second → c.gate_of.result ≡ length (front_of s.generation
    ++ frames (payloads (take c.args.index (seen_pair_records g.D.Disk.seen s.first s.second))))) c.self.view_is
    (twin_place g.D.Disk.seen g.D.Disk.may_leave g.D.Disk.size _ c.args.index _ c.self.invariant (subst (λ s. c.args.index < length s.gates)
    (sym c.self.view_is) c.requires) (c.gate_of.ensures ∙ ap (λ gs. slice_index gs c.args.index) c.deref.ensures.value))
