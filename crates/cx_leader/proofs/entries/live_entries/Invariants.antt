use Rattle.cx_role.proofs.Common.{◌≡◌, ◌++◌, drop, entries_told, entries_since}
use Rattle.cx_leader.proofs.entries.live_entries.Given as goal

abbrev pub invariant-loop-answer : goal.invariant-loop-answer
invariant-loop-answer l = l.live.items ++ entries_since l.watermark (entries_told (drop l.answer-index l.told))
    ≡ entries_since l.watermark (entries_told l.told)
