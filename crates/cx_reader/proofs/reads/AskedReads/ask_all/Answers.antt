use Rattle.cx_role.proofs.Common.{◌≡◌, ◌+◌, ◌++◌, ◌∷◌, [], ◌∙◌, rules, refl, append_assoc, drop, map, role, Reader}
use Rattle.cx_model.specs.Reader.{read_to}
use Rattle.cx_reader.proofs.Entries.{drop_next}
use Rattle.cx_reader.proofs.reads.AskedReads.ask_all.Goals as goal

pub loop-place-preserved : goal.loop-place-preserved
loop-place-preserved c =
    let l = c.loop-place in
    let one = c.at.result in
    let ask = read_to (role Reader c.args.reader) c.args.mark in
    let rest = map ask (drop (l.place + 1) c.args.self.now) in
    let is = drop_next c.args.self.now l.place one c.at.ensures in
    let more : c.push.new.self.list ≡ l.out.list ++ ask one ∷ [] = rw (c.push.ensures.list, c.question.ensures) refl in
    record {
      list = rw more (append_assoc l.out.list (ask one ∷ []) rest ∙ (rw is at l.invariant.list));
      spare = search rules;
    }
