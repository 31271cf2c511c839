use Rattle.std.proofs.Common.{◌≡◌, ◌∙◌, ◌++◌, ◌∷◌, ℕ, ap, decimal, rules}
use Rattle.cx_record.proofs.Rows.{ids_put}
use Rattle.cx_record.proofs.line.put_ids.Goals as goal

pub returns-in_ok-put_number-in-Some-clause-ok : goal.returns-in_ok-put_number-in-Some-clause-ok
returns-in_ok-put_number-in-Some-clause-ok c =
    let whole : c.args.ids.now ≡ c.in-Some.first.now ∷ c.in-Some.others.now = search rules in
    ids_put c.put_more_ids.result c.args.text.now.items c.put_number.new.text.items c.put_more_ids.new.text.items c.args.ids.now
    c.in-Some.others.now c.in-Some.first.now
    whole (c.in_ok-put_number-in-Some.ensures.ok ∙ ap (λ (n : ℕ). c.args.text.now.items ++ decimal n) c.from.ensures)
    c.put_more_ids.ensures.ok
