use Rattle.std.proofs.Common.{List, length, ap, arith}
use Rattle.cx_letter.specs.declared.input.KeptRecord.{KeptRecord}
use Rattle.cx_history.proofs.Keeping.{counts}
use Rattle.cx_history.proofs.kept.Kept.len.Goals as goal

pub returns : goal.returns
returns c =
    let inside = c.self.inside in
    let all = counts inside.roles.items inside.changes c.self.invariant in
    omega (arith, ap (λ (l : List KeptRecord). length l) c.self.view_is, all, c.self.invariant.same_count, inside.roles.ok.0, c.len.ensures)
