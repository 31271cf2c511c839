use Rattle.std.proofs.Common.{arith, sym, subst}
use Rattle.cx_kv.specs.Picked.{picked}
use Rattle.cx_kv.specs.Rising.{IsRising}
use Rattle.cx_kv.proofs.Maps.{rising_without_key}
use Rattle.cx_kv.proofs.pairs.PairMap.remove.Goals as goal

pub invariant_of-self : goal.invariant_of-self
invariant_of-self c =
    let ordered = c.self.invariant.0 in
    let room = c.self.invariant.1 in
    let done = c.remove_from.ensures in (
      record {
        below = done.below;
        rising = subst IsRising (sym done.pairs)
            (rising_without_key c.args.key.now (picked c.self.inside.list.items c.self.inside.order.items) ordered.rising);
      },
      record {
        pairs_fit = omega (arith, room.pairs_fit, done.list_len, done.list_room);
        places_fit = omega (arith, room.places_fit, done.order_len, done.order_room);
        short = omega (arith, room.short, done.list_len);
      },
    )
