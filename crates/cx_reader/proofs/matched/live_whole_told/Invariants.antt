use Rattle.cx_role.proofs.Common.{◌≡◌, drop, entries_told, rows_whole, entries_since}
use Rattle.cx_reader.proofs.matched.live_whole_told.Given as goal

abbrev pub invariant-loop-answer : goal.invariant-loop-answer
invariant-loop-answer l =
    rows_whole (entries_since l.watermark (entries_told (drop l.answer-index l.told))) l.marks
    ≡ rows_whole (entries_since l.watermark (entries_told l.told)) l.marks
