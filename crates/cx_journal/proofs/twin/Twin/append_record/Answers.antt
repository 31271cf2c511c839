use Rattle.cx_journal.proofs.Common.{refl, ◌≡◌, ◌⊎◌, [], ◌∷◌, ◌++◌, ◌∙◌, true, false, sym, subst, None, BothTell, seen_pair_records}
use Rattle.cx_journal.proofs.Lengths.{fits_more}
use Rattle.cx_journal.proofs.Told.{told_two}
use Rattle.cx_journal.proofs.TwinReady.{ready_from, failed_so, either_told, gates_more}
use Rattle.cx_journal.proofs.twin.Twin.append_record.Goals as goal

pub invariant_of-self : goal.invariant_of-self
invariant_of-self g c =
    let old = c.self.inside in
    let list = seen_pair_records g.D.Disk.seen old.first old.second in
    let ready = c.self.invariant in
    let was_whole = subst (λ s. s.whole ≡ true) (sym c.self.view_is) c.requires.whole in
    let both : BothTell g.D.Disk.seen c.append_noted.new.first c.append_noted.new.second → BothTell g.D.Disk.seen old.first old.second =
    λ is_seen. (sym c.append_noted.ensures.first_tells ∙ is_seen.0, sym c.append_noted.ensures.second_tells ∙ is_seen.1) in
    ready_from g.D.Disk.seen g.D.Disk.may_leave g.D.Disk.size _ (list ++ c.args.what.now ∷ []) c.in-Ok.ensures.size ready.sound
    (λ is_seen. c.in-Ok.ensures.done list old.generation (ready.rests was_whole (both is_seen)) (ready.place was_whole (both is_seen)))
    (λ is_seen. fits_more list c.args.what.now (ready.fit (both is_seen)) c.requires.fits)
    (λ is_seen. c.in-Ok.ensures.place list old.generation (ready.place was_whole (both is_seen)))
    (λ is_seen. gates_more old.generation list c.args.what.now _ _ c.in-Ok.next (ready.gates_are was_whole (both is_seen))
    c.in-Ok.ensures.gates (c.in-Ok.ensures.place list old.generation (ready.place was_whole (both is_seen))))

pub invariant_of-self-in-Err-Failed : goal.invariant_of-self-in-Err-Failed
invariant_of-self-in-Err-Failed g c =
    let old = c.self.inside in
    let list = seen_pair_records g.D.Disk.seen old.first old.second in
    let ready = c.self.invariant in
    let was_whole = subst (λ s. s.whole ≡ true) (sym c.self.view_is) c.requires.whole in
    failed_so g.D.Disk.seen g.D.Disk.may_leave g.D.Disk.size _ _ ready c.append_noted.ensures.first_tells
    c.append_noted.ensures.second_tells g.D.Disk.moment g.D.Disk.left_since g.met.D.Disk.counts_now g.met.D.Disk.told_is_left
    (list ++ c.args.what.now ∷ []) (λ is_seen. fits_more list c.args.what.now (ready.fit is_seen) c.requires.fits) (λ is_seen.
    c.append_noted.ensures.any_moment list old.generation (ready.rests was_whole is_seen) (ready.place was_whole is_seen)) refl ready.sound

pub returns-in-Err-Failed-clause-lost_or_kept : goal.returns-in-Err-Failed-clause-lost_or_kept
returns-in-Err-Failed-clause-lost_or_kept g c = λ both _.
    let old = c.self.inside in
    let list = seen_pair_records g.D.Disk.seen old.first old.second in
    let ready = c.self.invariant in
    let was_whole = subst (λ s. s.whole ≡ true) (sym c.self.view_is) c.requires.whole in
    subst (λ s. BothTell g.D.Disk.seen s.first s.second → (seen_pair_records g.D.Disk.seen c.append_noted.new.first
    c.append_noted.new.second ≡ seen_pair_records g.D.Disk.seen s.first s.second) ⊎ (seen_pair_records g.D.Disk.seen
    c.append_noted.new.first c.append_noted.new.second ≡ seen_pair_records g.D.Disk.seen s.first s.second ++ c.args.what.now ∷ []))
    c.self.view_is
    (either_told g.D.Disk.seen g.D.Disk.may_leave g.D.Disk.size _ (record {
      first = c.append_noted.new.first;
      second = c.append_noted.new.second;
      second_lives = true;
      generation = None;
      gates = [];
      gate = 0;
      whole = false;
      faults = 0;
    }) ready c.append_noted.ensures.first_tells c.append_noted.ensures.second_tells g.D.Disk.moment g.D.Disk.left_since
    g.met.D.Disk.counts_now g.met.D.Disk.told_is_left
    (list ++ c.args.what.now ∷ []) (λ is_seen. fits_more list c.args.what.now (ready.fit is_seen) c.requires.fits)
    (λ is_seen. c.append_noted.ensures.any_moment list old.generation (ready.rests was_whole is_seen) (ready.place was_whole is_seen))) both

pub returns-in-Ok-clause-kept : goal.returns-in-Ok-clause-kept
returns-in-Ok-clause-kept g c = λ is_seen.
    let old = c.self.inside in
    let list = seen_pair_records g.D.Disk.seen old.first old.second in
    let was_whole = subst (λ s. s.whole ≡ true) (sym c.self.view_is) c.requires.whole in
    let both : BothTell g.D.Disk.seen old.first old.second =
    subst (λ s. BothTell g.D.Disk.seen s.first s.second) (sym c.self.view_is) is_seen in
    let ready = c.self.invariant in
    subst (λ s. seen_pair_records g.D.Disk.seen c.append_noted.new.first c.append_noted.new.second
    ≡ seen_pair_records g.D.Disk.seen s.first s.second ++ c.args.what.now ∷ []) c.self.view_is
    (told_two g.D.Disk.seen g.D.Disk.may_leave old.second_lives old.generation (list ++ c.args.what.now ∷ []) c.append_noted.new.first
    c.append_noted.new.second (fits_more list c.args.what.now (ready.fit both) c.requires.fits)
    (c.in-Ok.ensures.done list old.generation (ready.rests was_whole both) (ready.place was_whole both)))
