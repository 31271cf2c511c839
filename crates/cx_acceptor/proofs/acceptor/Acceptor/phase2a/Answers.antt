use Rattle.std.proofs.Common.{◌<◌, ◌^◌, arith}
use Rattle.std.proofs.lemmas.Bool.{le-leb}
use Rattle.cx_acceptor.proofs.SoundLaws.{slot_small, sound_vote, vote_fits}
use Rattle.cx_acceptor.proofs.acceptor.Acceptor.phase2a.Goals as goal

pub keep-requires : goal.keep-requires
keep-requires g c =
    let r = c.requires in
    rw c.in_ok-copy-2.ensures
    (vote_fits c.args.round c.args.slot c.args.cw c.args.value.now r.round r.slot r.mark r.value)

pub overflow_add-slot : goal.overflow_add-slot
overflow_add-slot g c = let small : c.args.slot < 2 ^ 40 = slot_small c.args.slot c.requires.slot in omega arith

pub invariant_of-self-2 : goal.invariant_of-self-2
invariant_of-self-2 g c =
    let r = c.requires in
    let from = le-leb c.self.inside.cw c.args.slot c.if-slot-self.false in
    rw (
      c.place.ensures,
      c.keep_from.ensures.items,
      c.reserve.ensures.items,
      c.in_ok-copy.ensures,
      c.max-self-inside.ensures,
      c.max-self-inside-2.ensures,
    )
    (sound_vote c.self.inside.cluster c.self.inside.me _ c.self.invariant c.args.round r.round (rw (← c.self.view_is) at r.named)
    c.args.slot c.args.cw c.args.value.now r.slot r.mark r.value (rw (← c.self.view_is) at r.values) from r.window)
