use Rattle.cx_role.proofs.Common.{◌≡◌, ◌+◌, ◌∷◌, [], ◌∙◌, append_assoc, and_parts, drop, not, true}
use Rattle.cx_model.specs.Reader.{is_among}
use Rattle.cx_reader.specs.Running.{are_apart, are_once}
use Rattle.cx_reader.proofs.Entries.{drop_next, next_apart, next_new}
use Rattle.cx_reader.proofs.reads.AskedReads.add_all.Goals as goal

pub push-requires : goal.push-requires
push-requires c =
    let l = c.loop-place in
    let is = drop_next c.args.more.now l.place c.at.result c.at.ensures in
    next_new l.self (drop (l.place + 1) c.args.more.now) c.at.result (rw is at l.invariant.apart)

pub loop-place-preserved : goal.loop-place-preserved
loop-place-preserved c =
    let l = c.loop-place in
    let one = c.at.result in
    let rest = drop (l.place + 1) c.args.more.now in
    let is = drop_next c.args.more.now l.place one c.at.ensures in
    let apart : are_apart l.self (one ∷ rest) ≡ true = rw is at l.invariant.apart in
    let once : are_once (one ∷ rest) ≡ true = rw is at l.invariant.once in
    rw c.in_ok-push.ensures.ok record {
      list = append_assoc l.self (one ∷ []) rest ∙ (rw is at l.invariant.list);
      apart = next_apart l.self rest one apart once;
      once = (and_parts (not (is_among one.read rest)) (are_once rest) once).1;
    }
