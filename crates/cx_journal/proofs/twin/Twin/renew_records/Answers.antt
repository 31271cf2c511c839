use Rattle.cx_journal.proofs.Common.{◌≡◌, ◌⊎◌, ◌+◌, [], ◌∷◌, ◌++◌, ◌∙◌, length, true, false, Some, refl, sym, ap, subst, arith}
use Rattle.cx_journal.proofs.Common.{length-append, None, frames, front_of, payloads, BothTell, seen_pair_records, gates-count}
use Rattle.cx_journal.proofs.Told.{told_two, fit_kept, turned_size}
use Rattle.cx_journal.proofs.TwinReady.{ready_from, failed_so, either_told}
use Rattle.cx_journal.proofs.twin.Twin.renew_records.Goals as goal

pub invariant_of-self : goal.invariant_of-self
invariant_of-self g c =
    let was_whole = subst (λ s. s.whole ≡ true) (sym c.self.view_is) c.requires.whole in
    let both : BothTell g.D.Disk.seen c.renew_two.new.first c.renew_two.new.second → BothTell g.D.Disk.seen c.self.inside.first
    c.self.inside.second = λ is_seen. (sym c.renew_two.ensures.first_tells ∙ is_seen.0, sym c.renew_two.ensures.second_tells ∙ is_seen.1) in
    let two : 2 + length (frames (payloads c.args.records.now))
    ≡ length (front_of (Some c.in-Ok.renewed.generation) ++ frames (payloads c.args.records.now)) =
    omega (arith, length-append (4 ∷ c.in-Ok.renewed.generation ∷ []) (frames (payloads c.args.records.now))) in
    ready_from g.D.Disk.seen g.D.Disk.may_leave g.D.Disk.size _ c.args.records.now
    (turned_size c.self.inside.second_lives _ _ _ c.in-Ok.ensures.size) c.in-Ok.ensures.generation
    (λ is_seen. c.in-Ok.ensures.done _ (c.self.invariant.rests was_whole (both is_seen)))
    (λ _. fit_kept c.args.records.now c.requires.fits) (λ _. c.in-Ok.ensures.gate ∙ two) (λ _. c.in-Ok.ensures.gates)

pub invariant_of-self-in-Err-Failed : goal.invariant_of-self-in-Err-Failed
invariant_of-self-in-Err-Failed g c =
    let was_whole = subst (λ s. s.whole ≡ true) (sym c.self.view_is) c.requires.whole in
    failed_so g.D.Disk.seen g.D.Disk.may_leave g.D.Disk.size _ _ c.self.invariant c.renew_two.ensures.first_tells
    c.renew_two.ensures.second_tells g.D.Disk.moment g.D.Disk.left_since g.met.D.Disk.counts_now g.met.D.Disk.told_is_left
    c.args.records.now (λ _. fit_kept c.args.records.now c.requires.fits)
    (λ is_seen. c.renew_two.ensures.any_moment _ (c.self.invariant.rests was_whole is_seen)) refl c.self.invariant.sound

pub returns-in-Err-Failed-clause-old_or_new : goal.returns-in-Err-Failed-clause-old_or_new
returns-in-Err-Failed-clause-old_or_new g c = λ both _.
    let was_whole = subst (λ s. s.whole ≡ true) (sym c.self.view_is) c.requires.whole in
    subst (λ s. BothTell g.D.Disk.seen s.first s.second
    → (seen_pair_records g.D.Disk.seen c.renew_two.new.first c.renew_two.new.second ≡ seen_pair_records g.D.Disk.seen s.first s.second)
    ⊎ (seen_pair_records g.D.Disk.seen c.renew_two.new.first c.renew_two.new.second ≡ c.args.records.now)) c.self.view_is
    (either_told g.D.Disk.seen g.D.Disk.may_leave g.D.Disk.size _ (record {
      first = c.renew_two.new.first;
      second = c.renew_two.new.second;
      second_lives = true;
      generation = None;
      gates = [];
      gate = 0;
      whole = false;
      faults = 0;
    }) c.self.invariant c.renew_two.ensures.first_tells c.renew_two.ensures.second_tells g.D.Disk.moment g.D.Disk.left_since
    g.met.D.Disk.counts_now g.met.D.Disk.told_is_left
    c.args.records.now (λ _. fit_kept c.args.records.now c.requires.fits)
    (λ is_seen. c.renew_two.ensures.any_moment _ (c.self.invariant.rests was_whole is_seen))) both

pub returns-in-Ok-clause-gates : goal.returns-in-Ok-clause-gates
returns-in-Ok-clause-gates g c = ap length c.in-Ok.ensures.gates ∙ gates-count 2 c.args.records.now

pub returns-in-Ok-clause-kept : goal.returns-in-Ok-clause-kept
returns-in-Ok-clause-kept g c =
    λ is_seen.
    let was_whole = subst (λ s. s.whole ≡ true) (sym c.self.view_is) c.requires.whole in
    let fit = fit_kept c.args.records.now c.requires.fits in
    let both = subst (λ s. BothTell g.D.Disk.seen s.first s.second) (sym c.self.view_is) is_seen in
    told_two g.D.Disk.seen g.D.Disk.may_leave _ _ c.args.records.now c.renew_two.new.first c.renew_two.new.second fit
    (c.in-Ok.ensures.done _ (c.self.invariant.rests was_whole both))
