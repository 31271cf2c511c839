use Rattle.std.proofs.Common.{ap, subst, ◌∙◌, arith}
use Rattle.cx_msg.specs.RecordBytes.{record_of_bytes}
use Rattle.cx_msg.specs.Decodes.{Decodes}
use Rattle.cx_msg.proofs.RecordLaws.{is_found, recorded-again}
use Rattle.cx_msg.proofs.PlaceLaws.{record_faults_lie}
use Rattle.cx_msg.proofs.records.record_from.Goals as goal

pub returns-clause-found : goal.returns-clause-found
returns-clause-found c = is_found c.args.bytes.now c.read.result (λ i. omega (arith, c.type_inv.bytes i)) c.read.ensures

pub returns-clause-only : goal.returns-clause-only
returns-clause-only c = λ r fits e. subst (λ x. Decodes c.read.result x) (ap record_of_bytes e ∙ recorded-again r fits) c.read.ensures

pub returns-clause-place : goal.returns-clause-place
returns-clause-place c = record_faults_lie c.args.bytes.now c.read.result (λ i. omega (arith, c.type_inv.bytes i)) c.read.ensures
