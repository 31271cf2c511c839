use Rattle.cx_base.proofs.Common.{◌≡◌, ◌+◌, ◌-◌, ◌++◌, min, vec_len, following, ready_values}
use Rattle.cx_rlog.proofs.early.ready.Given as goal

abbrev pub invariant-loop-later : goal.invariant-loop-later
invariant-loop-later l =
    (l.values.items ++ following l.early.items (l.first + l.later) (min 31 (1099511627776 - l.first) - l.later)
    ≡ ready_values l.held l.early.items l.fn.value)
    × (vec_len l.values ≡ l.later + 1)
