use Rattle.cx_base.proofs.Common.{◌≡◌, List, ap, subst, IfOk, slice_get}
use Rattle.cx_letter.specs.declared.kept.Record.{Record}
use Rattle.cx_keeper.specs.MemKeeper.{kept_of}
use Rattle.cx_keeper.proofs.Since.{kept_last, last_fits}
use Rattle.cx_keeper.proofs.mem_keeper.MemKeeper.kept_since.Goals as goal

pub returns-clause-last : goal.returns-clause-last
returns-clause-last c =
    let kept : c.self.inside.kept ≡ c.args.self.now.kept = ap kept_of c.self.view_is in
    kept_last c.args.self.now.kept c.args.count c.get.result c.requires.most
    (subst (λ (l : List Record). IfOk c.get.result (λ r. r ≡ slice_get l c.args.count)) kept c.get.ensures)

pub returns-clause-ranges : goal.returns-clause-ranges
returns-clause-ranges c =
    let kept : c.self.inside.kept ≡ c.args.self.now.kept = ap kept_of c.self.view_is in
    last_fits c.args.self.now.kept c.args.count c.get.result (rw (← kept) c.self.invariant) (returns-clause-last c)
