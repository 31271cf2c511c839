use Rattle.std.proofs.Common.{IsTrue, refl, sym, subst}
use Rattle.cx_field.specs.Fields.{mark}
use Rattle.cx_world.proofs.Hearing.{all_zero, zero_fits}
use Rattle.cx_world.proofs.heard.Heard.new.Goals as goal

pub invariant_of-result : goal.invariant_of-result
invariant_of-result c = record { clients = refl; fit = λ client. subst (λ n. IsTrue (mark.fits n)) (sym (all_zero 64 client)) zero_fits }

pub returns : goal.returns
returns c = all_zero 64
