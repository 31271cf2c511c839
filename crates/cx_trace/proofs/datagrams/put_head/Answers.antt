use Rattle.std.proofs.Common.{ap, subst, ◌∙◌}
use Rattle.cx_letter.specs.Prelude.{◌≡◌, ◌++◌, OnOk, List, ℕ, RoleId, name_of_message}
use Rattle.cx_trace.specs.Trace.{named_text}
use Rattle.cx_trace.proofs.datagrams.put_head.Goals as goal

-- The name is carried over as a whole, and not seen through.
pub returns-clause-ok : goal.returns-clause-ok
unfolding Rattle.cx_trace.specs.Trace.head_text
returns-clause-ok c =
    let d = c.args.spelled.now in
    subst (λ text. OnOk c.put_named.result (c.put_named.new.text.items ≡ c.args.text.now.items ++ text))
    (ap (λ (name : List ℕ). named_text c.args.n c.from.result c.to.result name) c.name.ensures
    ∙ ap (λ (from : RoleId). named_text c.args.n from c.to.result (name_of_message d.msg)) c.from.ensures
    ∙ ap (λ (to : RoleId). named_text c.args.n d.from to (name_of_message d.msg)) c.to.ensures)
    c.put_named.ensures.ok
