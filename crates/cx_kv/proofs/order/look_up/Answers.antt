use Rattle.cx_base.proofs.Common.{◌≡◌, ◌<◌, length, get_or, false, sym, subst, ◌∙◌, arith, bytes_eq, length-map}
use Rattle.cx_base.specs.declared.command.Pair.{Pair}
use Rattle.cx_kv.specs.Picked.{pair_at, picked}
use Rattle.cx_kv.proofs.Maps.{behind_place}
use Rattle.cx_kv.proofs.order.look_up.Goals as goal
use Rattle.cx_kv.proofs.order.look_up.Goals.{else-place-order-via-then-place-order+else-same_key, else-place-order-via-else-place-order}

pub returns-clause-free : goal.returns-clause-free
returns-clause-free c =
    let key = c.args.key.now in
    let pairs = picked c.args.list.now c.args.order.now in
    let place = c.key_place-place.result in
    let found = c.key_place-place.ensures in
    let long : length pairs ≡ length c.args.order.now = length-map c.args.order.now (pair_at c.args.list.now) in
    let other : place < length pairs → (d : Pair) → bytes_eq (get_or pairs place d).key key ≡ false =
    λ l d. elim c.else-place-order.branch [
      | else-place-order-via-then-place-order+else-same_key w ↦
          subst (λ (p : Pair). bytes_eq p.key key ≡ false) (sym (w.pair_at.ensures d)) (sym w.same_key.ensures ∙ w.if-same_key.false)
      | else-place-order-via-else-place-order w ↦ absurd (omega arith)
    ] in
    record { inside = found.inside; before = found.before; behind = behind_place key pairs place c.requires.rising found.behind other }
