use Rattle.std.proofs.Common.{Option, sym, ap, ◌∙◌, option_map}
use Rattle.cx_base.specs.declared.command.Placed.{Placed}
use Rattle.cx_rlog.proofs.Standing.{value_for-at}
use Rattle.cx_rlog.proofs.early.value_for.Goals as goal

pub returns-in-Some : goal.returns-in-Some
returns-in-Some c = ap (λ (o : Option Placed). option_map (λ (p : Placed). p.value) o) c.in-Some.ensures
    ∙ sym (value_for-at c.args.slot c.args.early.now.items)

pub returns-in-None : goal.returns-in-None
returns-in-None c = ap (λ (o : Option Placed). option_map (λ (p : Placed). p.value) o) c.in-None.ensures
    ∙ sym (value_for-at c.args.slot c.args.early.now.items)
