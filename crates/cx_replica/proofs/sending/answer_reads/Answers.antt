use Rattle.std.proofs.Common.{rules, ◌≡◌, ◌+◌, true, drop}
use Rattle.std.proofs.lemmas.Bool.{and_parts}
use Rattle.cx_field.specs.Fields.{token}
use Rattle.cx_replica.specs.Sound.{are_reads}
use Rattle.cx_replica.proofs.Waiting.{answered_more, answered_none, drop_next}
use Rattle.cx_replica.proofs.sending.answer_reads.Goals as goal
use Rattle.cx_replica.proofs.sending.answer_reads.Goals.{then-one-held, else-one-held}

pub loop-place-preserved : goal.loop-place-preserved
loop-place-preserved c =
    let l = c.loop-place in
    let one = c.at-one.result in
    let rest = drop (l.place + 1) c.args.deferred.now in
    let map = c.args.machine.now.left.map in
    let is = drop_next c.args.deferred.now l.place one c.at-one.ensures in
    let list = rw is at l.invariant.list in
    let later : are_reads rest ≡ true = (and_parts (token.fits one.token) (are_reads rest) (rw is at l.invariant.reads)).1 in
    elim c.if-one-held.branch [
      | then-one-held w ↦ record {
        list = answered_more c.args.me c.args.held map one rest l.out.list _ _ (search rules) (search rules) list;
        spare = search rules;
        reads = later;
      }
      | else-one-held w ↦ record {
        list = answered_none c.args.me c.args.held map one rest l.out.list _ _ (search rules) (search rules) list;
        spare = search rules;
        reads = later;
      }
    ]
