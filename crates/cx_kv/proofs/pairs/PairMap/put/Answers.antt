use Rattle.std.proofs.Common.{◌<◌, arith, sym, subst}
use Rattle.cx_kv.specs.Picked.{picked}
use Rattle.cx_kv.specs.State.{MapState}
use Rattle.cx_kv.specs.Rising.{IsRising}
use Rattle.cx_kv.proofs.Maps.{rising_with_text}
use Rattle.cx_kv.proofs.pairs.PairMap.put.Goals as goal

pub invariant_of-self : goal.invariant_of-self
invariant_of-self c =
    let ordered = c.self.invariant.0 in
    let room = c.self.invariant.1 in
    let some : 0 < c.self.inside.spare = subst (λ (s : MapState). 0 < s.spare) (sym c.self.view_is) c.requires in
    let done = c.set_in.ensures in (
      record {
        below = done.below;
        rising = subst IsRising (sym done.pairs)
            (rising_with_text c.args.key.now c.args.text.now (picked c.self.inside.list.items c.self.inside.order.items) ordered.rising);
      },
      record {
        pairs_fit = omega (arith, room.pairs_fit, some, done.list_len, done.list_room);
        places_fit = omega (arith, room.places_fit, some, done.order_len, done.order_room);
        short = omega (arith, room.short, some, done.list_len);
      },
    )
