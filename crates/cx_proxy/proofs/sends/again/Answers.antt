use Rattle.cx_role.proofs.Common.{sym}
use Rattle.cx_proxy.specs.Holds.{IsPendingInRange}
use Rattle.cx_proxy.proofs.Holding.{found_has}
use Rattle.cx_proxy.proofs.sends.again.Goals as goal

pub announce-requires-clause-parts : goal.announce-requires-clause-parts
announce-requires-clause-parts c = found_has IsPendingInRange _ _ _ c.requires.parts (sym c.in-Some.ensures)

pub ask_members-requires-clause-parts : goal.ask_members-requires-clause-parts
ask_members-requires-clause-parts c = found_has IsPendingInRange _ _ _ c.requires.parts (sym c.in-Some.ensures)
