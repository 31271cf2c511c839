use Rattle.std.proofs.Common.{◌≡◌, ◌++◌, ◌∷◌, ◌∙◌, [], List, ℕ, ap}
use Rattle.cx_pieces.proofs.Holding.{held_closed, held_more}
use Rattle.cx_pieces.proofs.pieces.Pieces.push.Goals as goal

pub invariant_of-self : goal.invariant_of-self
invariant_of-self c =
    let old = c.self.inside in
    held_closed old.count old.chunks.items c.close.new.chunks.items old.last.items c.close.new.last.items old.room.items c.self.invariant
    c.close.ensures.same c.close.ensures.full

pub invariant_of-self-in_err-reserve : goal.invariant_of-self-in_err-reserve
invariant_of-self-in_err-reserve c =
    let old = c.self.inside in
    let closed = held_closed old.count old.chunks.items c.close.new.chunks.items old.last.items c.close.new.last.items old.room.items
    c.self.invariant c.close.ensures.same c.close.ensures.full in
    rw c.reserve.ensures.items closed

pub invariant_of-self-in_err-stored : goal.invariant_of-self-in_err-stored
invariant_of-self-in_err-stored c =
    let old = c.self.inside in
    let closed = held_closed old.count old.chunks.items c.close.new.chunks.items old.last.items c.close.new.last.items old.room.items
    c.self.invariant c.close.ensures.same c.close.ensures.full in
    record {
      count_is = rw c.reserve.ensures.items closed.count_is;
      are_full = closed.are_full;
      room_is = c.put_piece.ensures.room;
    }

pub invariant_of-self-2 : goal.invariant_of-self-2
invariant_of-self-2 c =
    let old = c.self.inside in
    let chunks = c.close.new.chunks.items in
    let closed = held_closed old.count old.chunks.items chunks old.last.items c.close.new.last.items old.room.items c.self.invariant
    c.close.ensures.same c.close.ensures.full in
    let last : c.push_reserved.new.self.items ≡ c.close.new.last.items ++ c.in_ok-stored.stored ∷ [] =
    c.push_reserved.ensures.items ∙ ap (λ (l : List (List ℕ)). l ++ c.in_ok-stored.stored ∷ []) c.reserve.ensures.items in
    rw last (held_more old.count c.in_ok-count.count chunks c.close.new.last.items old.room.items c.put_piece.new.room.items
    c.in_ok-stored.stored closed c.in_ok-count.ensures c.put_piece.ensures.room)
