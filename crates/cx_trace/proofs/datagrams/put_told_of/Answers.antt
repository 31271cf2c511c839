use Rattle.std.proofs.Common.{◌≡◌, ◌++◌, ◌∙◌, OnOk, ap, subst}
use Rattle.cx_base.specs.declared.role.RoleId.{RoleId}
use Rattle.cx_letter.specs.declared.message.Msg.{Msg}
use Rattle.cx_trace.specs.Trace.{told_text}
use Rattle.cx_trace.proofs.datagrams.put_told_of.Goals as goal

pub returns-clause-ok : goal.returns-clause-ok
unfolding Rattle.cx_trace.specs.Trace.client_text_of
returns-clause-ok c =
    subst (λ printed. OnOk c.put_told.result (c.put_told.new.text.items ≡ c.args.text.now.items ++ printed))
    (ap (λ (to : RoleId). told_text to.index c.msg.result.now) c.to.ensures.to
    ∙ ap (λ (m : Msg). told_text c.args.datagram.now.to.index m) c.msg.ensures.msg) c.put_told.ensures.ok
