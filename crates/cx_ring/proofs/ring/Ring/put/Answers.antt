use Rattle.cx_base.proofs.Common.{◌≡◌, ◌%◌, ◌∙◌, ◌<◌, None, length, get_or, sym, ap, arith, vec_len, mod_below}
use Rattle.cx_ring.specs.Ring.{IsNear, value_at}
use Rattle.cx_ring.proofs.Window.{get_or-within}
use Rattle.cx_ring.proofs.Steps.{with_one, room_is}
use Rattle.cx_ring.proofs.ring.Ring.put.Goals as goal

pub index_mut-requires : goal.index_mut-requires
index_mut-requires g c =
    let full : vec_len c.self.inside.places ≡ 32 =
    room_is (vec_len c.self.inside.places) c.args.self.now.room (ap (λ r. r.room) c.self.view_is) c.requires.room in
    let below = mod_below c.slot.result 32 (omega arith) in
    omega (arith, c.place_of-place.ensures, below)

pub invariant_of-self : goal.invariant_of-self
invariant_of-self g c =
    let full : vec_len c.self.inside.places ≡ 32 =
    room_is (vec_len c.self.inside.places) c.args.self.now.room (ap (λ r. r.room) c.self.view_is) c.requires.room in
    let size : length c.self.inside.places.items ≡ 32 = omega (arith, c.self.inside.places.ok.0) in
    let first : c.self.inside.first ≡ c.args.self.now.first = ap (λ r. r.first) c.self.view_is in
    let near : IsNear c.self.inside.first (g.S.Slotted.at c.args.one) =
    record { low = omega (arith, c.requires.low); high = omega (arith, c.requires.high) } in
    let place : c.place_of-place.result ≡ g.S.Slotted.at c.args.one % 32 = c.place_of-place.ensures ∙ ap (λ n. n % 32) c.slot.ensures in
    rw c.with.ensures (with_one g.S.Slotted.at c.self.inside.first c.self.inside.places.items c.self.inside.values.items c.self.invariant
    c.args.one c.place_of-place.result c.replace.new.self size near place c.replace.ensures.after)

pub returns-clause-earlier : goal.returns-clause-earlier
returns-clause-earlier g c =
    let full : vec_len c.self.inside.places ≡ 32 =
    room_is (vec_len c.self.inside.places) c.args.self.now.room (ap (λ r. r.room) c.self.view_is) c.requires.room in
    let first : c.self.inside.first ≡ c.args.self.now.first = ap (λ r. r.first) c.self.view_is in
    let near : IsNear c.self.inside.first (g.S.Slotted.at c.args.one) =
    record { low = omega (arith, c.requires.low); high = omega (arith, c.requires.high) } in
    let place : c.place_of-place.result ≡ g.S.Slotted.at c.args.one % 32 = c.place_of-place.ensures ∙ ap (λ n. n % 32) c.slot.ensures in
    let below = mod_below c.slot.result 32 (omega arith) in
    let within : c.place_of-place.result < length c.self.inside.places.items =
    omega (arith, c.place_of-place.ensures, below, c.self.inside.places.ok.0) in
    let had : get_or c.self.inside.places.items (g.S.Slotted.at c.args.one % 32) None ≡ value_at g.S.Slotted.at (g.S.Slotted.at c.args.one)
    c.self.inside.values.items = c.self.invariant.found (g.S.Slotted.at c.args.one) near in
    rw (sym c.self.view_is) (c.replace.ensures.value ∙ c.index_mut.ensures.value ∙ get_or-within c.self.inside.places.items
    c.place_of-place.result c.index_mut.result.now None within ∙ ap (λ i. get_or c.self.inside.places.items i None) place ∙ had)
