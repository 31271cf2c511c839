use Rattle.cx_role.proofs.Common.{◌≡◌, drop, rows_whole, entries_since}
use Rattle.cx_reader.proofs.matched.live_whole.Given as goal

abbrev pub invariant-loop-entry : goal.invariant-loop-entry
invariant-loop-entry l =
    rows_whole (entries_since l.watermark (drop l.entry-index l.entries)) l.marks
    ≡ rows_whole (entries_since l.watermark l.entries) l.marks
