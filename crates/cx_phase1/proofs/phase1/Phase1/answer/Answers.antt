use Rattle.std.proofs.Common.{arith, sym, ap, ◌∙◌}
use Rattle.cx_model.specs.Prelude.{◌≡◌, ◌<◌, ◌++◌, ◌∷◌, [], true, false, refl, with_mark, is_member_of, rows_whole, has_promised}
use Rattle.cx_model.specs.Prelude.{promised_by}
use Rattle.cx_model.specs.declared.states.Promised.{Promised}
use Rattle.cx_phase1.specs.Sound.{IsPromiseInRange}
use Rattle.cx_phase1.proofs.CountLaws.{member_below_64, marked_more, rows-marked, promise_told, sound_more}
use Rattle.cx_phase1.proofs.phase1.Phase1.answer.Goals as goal
use Rattle.cx_phase1.proofs.phase1.Phase1.answer.Goals.{then-rows_whole, else-rows_whole}

pub end_of-self-inside-requires : goal.end_of-self-inside-requires
end_of-self-inside-requires c =
    let p : Promised = record { acceptor = c.args.acceptor; cw = c.args.cw; votes = c.args.votes.now } in
    let told : IsPromiseInRange p = promise_told p c.requires.cw c.requires.votes in
    rw c.as_slice.ensures.items told.votes

pub take_in-requires-clause-cw : goal.take_in-requires-clause-cw
take_in-requires-clause-cw c =
    let p : Promised = record { acceptor = c.args.acceptor; cw = c.args.cw; votes = c.args.votes.now } in
    let told : IsPromiseInRange p = promise_told p c.requires.cw c.requires.votes in
    told.cw

pub take_in-requires-clause-votes : goal.take_in-requires-clause-votes
take_in-requires-clause-votes c =
    let p : Promised = record { acceptor = c.args.acceptor; cw = c.args.cw; votes = c.args.votes.now } in
    let told : IsPromiseInRange p = promise_told p c.requires.cw c.requires.votes in
    rw (c.into_vec.ensures, c.in_ok-copied.ensures) told.votes

pub add-requires : goal.add-requires
add-requires c =
    let member : is_member_of c.self.inside.live.items c.args.acceptor ≡ true =
    ap (λ es. is_member_of es c.args.acceptor) (sym c.deref.ensures.value) ∙ sym c.is_member_of.ensures ∙ c.if-not-is_member_of.false in
    let below : c.args.acceptor < 64 = member_below_64 c.self.inside.live.items c.args.acceptor c.self.invariant.ids member in
    omega arith

pub invariant_of-self-2 : goal.invariant_of-self-2
invariant_of-self-2 c =
    let p : Promised = record { acceptor = c.args.acceptor; cw = c.args.cw; votes = c.args.votes.now } in
    rw (
      c.with_promise.ensures,
      c.add.ensures.marks,
      c.take_in.ensures,
      c.into_vec.ensures,
      c.in_ok-copied.ensures,
      c.in_ok-make_room.ensures.ok,
      c.end_of-self-inside.ensures,
      c.as_slice.ensures.items,
    )
    (sound_more c.self.inside.live.items c.self.inside.told.items c.self.inside.marks c.self.inside.best c.self.inside.end p
    c.self.invariant (promise_told p c.requires.cw c.requires.votes))

pub returns-clause-told : goal.returns-clause-told
returns-clause-told c =
    let live = c.self.inside.live.items in
    let promises = c.self.inside.told.items in
    let a = c.args.acceptor in
    let p : Promised = record { acceptor = a; cw = c.args.cw; votes = c.args.votes.now } in
    let member : is_member_of live a ≡ true =
    ap (λ es. is_member_of es a) (sym c.deref.ensures.value) ∙ sym c.is_member_of.ensures ∙ c.if-not-is_member_of.false in
    let new : has_promised a promises ≡ false = sym (c.self.invariant.marked a) ∙ sym c.contains.ensures ∙ c.if-contains.false in
    let whole : c.rows_whole.result ≡ rows_whole live (promised_by (promises ++ p ∷ [])) =
    c.rows_whole.ensures ∙ ap (λ es. rows_whole es c.add.new.self) c.deref-2.ensures.value ∙ ap (rows_whole live) c.add.ensures.marks
    ∙ rows-marked live (with_mark a c.self.inside.marks) (promises ++ p ∷ [])
    (marked_more c.self.inside.marks promises p c.self.invariant.marked) in
    elim c.if-rows_whole.branch [
      | then-rows_whole w ↦ rw (w.result-is, ← c.self.view_is, member, new, sym whole ∙ w.if-rows_whole.true) refl
      | else-rows_whole w ↦ rw (w.result-is, ← c.self.view_is, member, new, sym whole ∙ w.if-rows_whole.false) refl
    ]
