use Rattle.std.proofs.Common.{◌≡◌, ◌-◌, ◌∙◌, suc, sym, subst, arith}
use Rattle.cx_pieces.specs.Ends.{begin_of}
use Rattle.cx_pieces.proofs.Cuts.{begins_behind, begins_nowhere}
use Rattle.cx_pieces.proofs.chunk.begin_of.Goals as goal

pub returns-in-None : goal.returns-in-None
returns-in-None c =
    let behind : suc (c.args.number - 1) ≡ c.args.number = omega (arith, c.if-number-eq0.false) in
    subst (λ n. 0 ≡ begin_of 0 c.args.ends.now n) behind
    (begins_nowhere 0 c.args.ends.now (c.args.number - 1) (sym c.end_of.ensures ∙ c.in-None.is))

pub returns-in-Some : goal.returns-in-Some
returns-in-Some c =
    let behind : suc (c.args.number - 1) ≡ c.args.number = omega (arith, c.if-number-eq0.false) in
    subst (λ n. c.in-Some.end ≡ begin_of 0 c.args.ends.now n) behind
    (begins_behind 0 c.args.ends.now (c.args.number - 1) c.in-Some.end (sym c.end_of.ensures ∙ c.in-Some.is))
