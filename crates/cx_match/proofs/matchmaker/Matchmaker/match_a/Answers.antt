use Rattle.cx_role.proofs.Common.{rules, real_above, err_from_is_err_and}
use Rattle.cx_role.proofs.Step.{done}
use Rattle.cx_match.proofs.EntryLaws.{all_before, greatest_fits, some_entry, some_later}
use Rattle.cx_match.proofs.SoundLaws.{match_fits, sound_match}
use Rattle.cx_model.specs.Matchmaker.{again_told, entries_before}
use Rattle.cx_match.proofs.Telling.{one_told}
use Rattle.cx_match.proofs.matchmaker.Matchmaker.match_a.Goals as goal

pub match_nack-requires-clause-other : goal.match_nack-requires-clause-other
match_nack-requires-clause-other g c = real_above c.args.round c.self.inside.watermark c.requires.round c.self.invariant.watermark
    (rw c.is_before.ensures at c.if-is_before.true)

pub match_nack-requires-then-has_later-clause-other : goal.match_nack-requires-then-has_later-clause-other
match_nack-requires-then-has_later-clause-other g c =
    let later = rw (c.has_later.ensures, c.deref.ensures.value) at c.if-has_later.true in
    rw (c.last_round-last.ensures, c.deref-then-has_later.ensures.value)
    (greatest_fits c.self.inside.entries.items (some_later c.args.round c.self.inside.entries.items later) c.self.invariant.entries)

pub match_nack-requires-then-not-has_place-clause-other : goal.match_nack-requires-then-not-has_place-clause-other
match_nack-requires-then-not-has_place-clause-other g c =
    let full = rw (c.has_place.ensures, c.deref-3.ensures.value) at c.if-not-has_place.true in
    rw (c.last_round-last-then-not-has_place.ensures, c.deref-then-not-has_place.ensures.value)
    (greatest_fits c.self.inside.entries.items (some_entry c.self.inside.cluster c.args.grid c.self.inside.entries.items full)
    c.self.invariant.entries)

pub keep_own-requires : goal.keep_own-requires
keep_own-requires g c = match_fits c.args.round c.args.grid c.requires.round c.requires.grid

pub invariant_of-self-2 : goal.invariant_of-self-2
invariant_of-self-2 g c =
    let last = rw (c.has_later.ensures, c.deref.ensures.value) at c.if-has_later.false in
    let new = rw (c.has_entry.ensures, c.deref-2.ensures.value) at c.if-has_entry.false in
    let space = rw (c.has_place.ensures, c.deref-3.ensures.value) at c.if-not-has_place.false in
    let sound = sound_match c.self.inside.me _ c.args.round c.args.grid c.self.invariant c.requires.round c.requires.grid
    (all_before c.args.round c.self.inside.entries.items last new) c.self.inside.cluster space in
    rw (c.push_reserved.ensures.items, c.make_room.ensures.items, c.reserve.ensures.items) sound

pub returns : goal.returns
returns g c =
    let high = rw c.is_before.ensures at c.if-is_before.false in
    let last = rw (c.has_later.ensures, c.deref.ensures.value) at c.if-has_later.false in
    let new = rw (c.has_entry.ensures, c.deref-2.ensures.value) at c.if-has_entry.false in
    let space = rw (c.has_place.ensures, c.deref-3.ensures.value) at c.if-not-has_place.false in
    rw (← c.self.view_is, high, last, new, space) (done (record {
      why = search rules;
      kept = search rules;
      state = search rules;
      sends = one_told (entries_before c.args.round) _ _ _ _ _ _ _ _ _ _ _ c.self.invariant.who c.requires.sender
          c.in_ok-entries-2.ensures.earlier
          c.deref-4.ensures.value c.requires.empty c.in_ok-room-5.ensures.list c.push-2.ensures.list c.match_b-2.ensures;
    }) (search rules))

pub returns-in_err-keep_own : goal.returns-in_err-keep_own
returns-in_err-keep_own g c =
    let high = rw c.is_before.ensures at c.if-is_before.false in
    let last = rw (c.has_later.ensures, c.deref.ensures.value) at c.if-has_later.false in
    let new = rw (c.has_entry.ensures, c.deref-2.ensures.value) at c.if-has_entry.false in
    let space = rw (c.has_place.ensures, c.deref-3.ensures.value) at c.if-not-has_place.false in
    let p = err_from_is_err_and c.from_residual-in_err-keep_own.result c.from_residual-in_err-keep_own.ensures.1 in
    rw (← c.self.view_is, high, last, new, space) (record {
      ok = search rules;
      no_memory = λ e. record {
        kept = c.in_err-keep_own.ensures.refused (let f = rw (p.1, p.2) at e in cc);
        state = search rules;
        sends = search rules;
      };
      spared = search rules;
      tells_same = search rules;
      failed = search rules;
      keeps = search rules;
    })

pub returns-then-not-has_place : goal.returns-then-not-has_place
returns-then-not-has_place g c =
    let high = rw c.is_before.ensures at c.if-is_before.false in
    let last = rw (c.has_later.ensures, c.deref.ensures.value) at c.if-has_later.false in
    let new = rw (c.has_entry.ensures, c.deref-2.ensures.value) at c.if-has_entry.false in
    let full = rw (c.has_place.ensures, c.deref-3.ensures.value) at c.if-not-has_place.true in
    rw (← c.self.view_is, high, last, new, full)
    (done (record { why = search rules; kept = search rules; state = search rules; sends = search rules }) (search rules))

pub returns-then-has_later : goal.returns-then-has_later
returns-then-has_later g c =
    let high = rw c.is_before.ensures at c.if-is_before.false in
    let last = rw (c.has_later.ensures, c.deref.ensures.value) at c.if-has_later.true in
    rw (← c.self.view_is, high, last)
    (done (record { why = search rules; kept = search rules; state = search rules; sends = search rules }) (search rules))

pub returns-then-has_entry : goal.returns-then-has_entry
returns-then-has_entry g c =
    let high = rw c.is_before.ensures at c.if-is_before.false in
    let last = rw (c.has_later.ensures, c.deref.ensures.value) at c.if-has_later.false in
    let same = rw (c.has_entry.ensures, c.deref-2.ensures.value) at c.if-has_entry.true in
    rw (← c.self.view_is, high, last, same) (done (record {
      why = search rules;
      kept = search rules;
      state = search rules;
      sends = one_told (again_told c.self.inside.cluster c.args.round) _ _ _ _ _ _ _ _ _ _ _ c.self.invariant.who c.requires.sender
          c.in_ok-entries.ensures.told
          c.deref-then-has_entry.ensures.value c.requires.empty c.in_ok-room-3.ensures.list c.push-then-has_entry.ensures.list
          c.match_b.ensures;
    }) (search rules))
