use Rattle.cx_role.proofs.Common.{◌≡◌, drop, entries_since, sorted_into}
use Rattle.cx_replace.proofs.join.put_live.Given as goal

abbrev pub invariant-loop-entry : goal.invariant-loop-entry
invariant-loop-entry l = sorted_into l.joined.items (entries_since l.watermark (drop l.entry-index l.entries))
    ≡ sorted_into l.fn.joined.items (entries_since l.watermark l.entries)
