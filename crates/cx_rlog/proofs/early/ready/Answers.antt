use Rattle.cx_base.proofs.Common.{◌≡◌, ◌+◌, ◌-◌, min, Some, rules, arith, value_for}
use Rattle.cx_rlog.proofs.Following.{following_more, moved}
use Rattle.cx_rlog.proofs.early.ready.Goals as goal

pub loop-later-preserved : goal.loop-later-preserved
loop-later-preserved c =
    let first = c.args.held + 1 in
    let later = c.loop-later.later in
    let most = min 31 (1099511627776 - first) in
    let waits : value_for (first + later) c.args.early.now.items ≡ Some c.in-Some.value.now = search rules in
    let more = following_more c.args.early.now.items (first + later) (first + (later + 1)) (most - (later + 1)) (most - later)
    c.in-Some.value.now (omega arith) (omega arith) waits in (
      moved c.loop-later.values.items c.push-in-loop-later.new.self.items c.in-Some.value.now c.in_ok-copy-2.field-0 _ _ _
          c.in_ok-push-2.ensures.items c.in_ok-copy-2.ensures more c.loop-later.invariant.0,
      omega (arith, c.in_ok-push-2.ensures.len),
    )
