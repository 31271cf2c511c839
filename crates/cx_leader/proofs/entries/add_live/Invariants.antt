use Rattle.cx_role.proofs.Common.{◌≡◌, ◌++◌, drop, entries_since}
use Rattle.cx_leader.proofs.entries.add_live.Given as goal

abbrev pub invariant-loop-entry : goal.invariant-loop-entry
invariant-loop-entry l = l.live.items ++ entries_since l.watermark (drop l.entry-index l.entries)
    ≡ l.fn.live.items ++ entries_since l.watermark l.entries
