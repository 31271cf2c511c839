-- An acceptor stays sound.
use Rattle.cx_role.specs.Prelude.{Acceptor, round, slots_rise, vote_in_range, AcceptorDurable}
use Rattle.cx_role.proofs.Common.{◌≡◌, ◌≤◌, ◌<◌, ℕ, ◌+◌, ◌^◌, ◌&&◌, Bool, true, not, nat_le, nat_lt, max, List, [], ◌∷◌, refl, arith}
use Rattle.cx_role.proofs.Common.{and_parts, nat_tests, Cluster, Value, RoleId, Round, role, is_before, no_round, Record, Vote, in_window}
use Rattle.cx_role.proofs.Common.{names_round, names_value, value, fits, vote_at, is_of_round, list_all, ◌||◌, sym, true≢false, bool_cases}
use Rattle.cx_role.proofs.Common.{inl, inr, None, Some, none-some, refused}
use Rattle.cx_role.proofs.Common.kept
use Rattle.cx_role.proofs.Ranges.{max_fits, real_or_none}
use Rattle.cx_wire.specs.Format.{u16, u32, u64}
use Rattle.cx_field.specs.Fields.{mark, round0, slot, votes}
use Rattle.cx_field.proofs.ListLaws.{votes_apart}
use Rattle.cx_letter.specs.Records.{kept_record}
use Rattle.cx_field.proofs.Rising.{list_all-filter, rises-filter}
use Rattle.cx_model.specs.Acceptor.{acceptor_after, acceptor_fits, acceptor_renewed, acceptor_rules, acceptor_snap, votes_from_slot}
use Rattle.cx_model.specs.Names.{names_vote}
use Rattle.cx_acceptor.specs.Sound.{IsSound}
use Rattle.cx_acceptor.proofs.VoteLaws.{all_in, all_with, rising_with}

-- whether what votes name lies in the cluster
abbrev are_named : Cluster → List Vote → Bool
are_named c vs = list_all (λ (v : Vote). names_vote c v) vs

next_fits : (s : ℕ) → slot.fits s ≡ true → mark.fits (s + 1) ≡ true
unfolding slot mark u64
next_fits s h = grind (arith, nat_tests)

window_of_both : (a b s : ℕ) → nat_le a s ≡ true → in_window b s ≡ true → in_window (max a b) s ≡ true
window_of_both a b s from inside = grind (arith, nat_tests)

-- the votes from a later watermark on are in its window
from_kept : (cw low : ℕ) (vs : List Vote) → cw ≤ low → all_in cw vs ≡ true → all_in low (votes_from_slot low vs) ≡ true
from_kept cw low [] below all = refl
from_kept cw low (v ∷ vs) below all = grind (arith, nat_tests, from_kept cw low vs)

from_rising : (low : ℕ) (vs : List Vote) → slots_rise vs ≡ true → slots_rise (votes_from_slot low vs) ≡ true
from_rising low vs h =
    rises-filter (λ (v : Vote). nat_le low v.slot) (λ (v : Vote) (later : Vote). nat_lt v.slot later.slot) vs h

from_named : (c : Cluster) (low : ℕ) (vs : List Vote) → are_named c vs ≡ true → are_named c (votes_from_slot low vs) ≡ true
from_named c low vs h = list_all-filter (λ (v : Vote). nat_le low v.slot) (λ (v : Vote). names_vote c v) vs h

module _ (c : Cluster) (me : RoleId) (d : AcceptorDurable) (sound : IsSound c me d) (i : Round) (real : round.fits i ≡ true)
    (known : names_round c i ≡ true) where
  pub sound_promise : IsSound c me (record d { promise = i })
  sound_promise =
      record {
        who = sound.who;
        promise = real_or_none i real;
        cw = sound.cw;
        top = sound.top;
        votes = sound.votes;
        rising = sound.rising;
        leader = λ _. known;
        named = sound.named;
      }

  pub sound_vote : (s cw : ℕ) (v : Value) → slot.fits s ≡ true → mark.fits cw ≡ true → value.fits v ≡ true
      → names_value c v ≡ true → nat_le d.cw s ≡ true → in_window cw s ≡ true → IsSound c me (acceptor_after d (kept.Vote i s cw v))
  sound_vote s cw v in_slots in_marks fit clients from inside =
      let low = max d.cw cw in
      let new : Vote = record { round = i; slot = s; value = v } in
      let below : d.cw ≤ low = omega arith in
      let own : vote_in_range low new ≡ true = rw (real, in_slots, window_of_both d.cw cw s from inside, fit) refl in
      let earlier = from_kept d.cw low d.votes below sound.votes in
      let own_names : names_vote c new ≡ true = rw (known, clients) refl in
      record {
        who = sound.who;
        promise = real_or_none i real;
        cw = max_fits d.cw cw sound.cw in_marks;
        top = max_fits d.top (s + 1) sound.top (next_fits s in_slots);
        votes = all_with (λ (w : Vote). vote_in_range low w) new (votes_from_slot low d.votes) own earlier;
        rising = rising_with new (votes_from_slot low d.votes) (from_rising low d.votes sound.rising);
        leader = λ _. known;
        named = all_with (λ (w : Vote). names_vote c w) new (votes_from_slot low d.votes) own_names (from_named c low d.votes sound.named);
      }

  pub sound_water : (cw : ℕ) → mark.fits cw ≡ true → IsSound c me (acceptor_after d (kept.Water i cw))
  sound_water cw in_marks =
      let low = max d.cw cw in
      let below : d.cw ≤ low = omega arith in
      record {
        who = sound.who;
        promise = real_or_none i real;
        cw = max_fits d.cw cw sound.cw in_marks;
        top = sound.top;
        votes = from_kept d.cw low d.votes below sound.votes;
        rising = from_rising low d.votes sound.rising;
        leader = λ _. known;
        named = from_named c low d.votes sound.named;
      }

vote_tests : (a b c d e f : Bool) → (a && b && c && d && e && f) ≡ true → (a ≡ true) × (b ≡ true) × (d ≡ true) × (e ≡ true)
vote_tests a b c d e f h = grind (arith, nat_tests)

water_tests : (a b c : Bool) → (a && b && c) ≡ true → a ≡ true
water_tests a b c h = grind (arith, nat_tests)

voted_tests : (a b c : Bool) → (a && b && c) ≡ true → (b ≡ true) × (c ≡ true)
voted_tests a b c h = grind (arith, nat_tests)

pub vote_parts : (i : Round) (s cw : ℕ) (v : Value) → fits (kept.Vote i s cw v) ≡ true
    → (round.fits i ≡ true) × (slot.fits s ≡ true) × (mark.fits cw ≡ true) × (value.fits v ≡ true)
unfolding kept_record
vote_parts i s cw v fit = grind (arith, nat_tests)

pub voted_parts : (i : Round) (top cw : ℕ) (vs : List Vote) → fits (kept.Voted i top cw vs) ≡ true
    → (round.fits i ≡ true) × (mark.fits top ≡ true) × (mark.fits cw ≡ true) × ((votes cw).fits vs ≡ true)
unfolding kept_record
voted_parts i top cw vs fit = grind (arith, nat_tests)

-- all that an acceptor's list leaves, in one record, leaves a sound acceptor
sound_voted : (c : Cluster) (me : RoleId) (i : Round) (top cw : ℕ) (vs : List Vote) → me ≡ role Acceptor me.index
    → fits (kept.Voted i top cw vs) ≡ true → names_round c i ≡ true → are_named c vs ≡ true
    → IsSound c me (record { promise = i; cw = cw; votes = vs; top = top })
sound_voted c me i top cw vs who fit known named =
    let p = voted_parts i top cw vs fit in
    let told = votes_apart cw vs p.3 in
    record {
      who = who;
      promise = real_or_none i p.0;
      cw = p.2;
      top = p.1;
      votes = told.1;
      rising = told.2;
      leader = λ _. known;
      named = named;
    }

-- a record that fits leaves a sound acceptor sound
pub after_sound : (c : Cluster) (me : RoleId) (d : AcceptorDurable) (r : Record) → IsSound c me d → fits r ≡ true
    → acceptor_fits c me d r ≡ true → IsSound c me (acceptor_after d r)
unfolding kept_record
after_sound c me d (kept.Promise i) sound fit takes =
    sound_promise c me d sound i fit (and_parts (names_round c i) (is_before d.promise i) takes).0
after_sound c me d (kept.Vote i s cw v) sound fit takes =
    let p = vote_parts i s cw v fit in
    let tests = vote_tests (names_round c i) (names_value c v) (not (is_before i d.promise)) (nat_le d.cw s)
    (in_window cw s) (not (is_of_round i (vote_at s d.votes))) takes in
    sound_vote c me d sound i p.0 tests.0 s cw v p.1 p.2 p.3 tests.1 tests.2 tests.3
after_sound c me d (kept.Water i cw) sound fit takes =
    let a = and_parts (round.fits i) (mark.fits cw) fit in
    let known = water_tests (names_round c i) (not (is_before i d.promise)) (is_before d.promise i || nat_lt d.cw cw) takes in
    sound_water c me d sound i a.0 known cw a.1
after_sound c me d (kept.Voted i top cw vs) sound fit takes =
    let tests = voted_tests (not (is_before no_round d.promise)) (names_round c i) (are_named c vs) takes in
    sound_voted c me i top cw vs sound.who fit tests.0 tests.1
after_sound c me d other sound fit takes = cc

pub slot_small : (s : ℕ) → slot.fits s ≡ true → s < 2 ^ 40
unfolding slot u64
slot_small s fit = grind (arith, nat_tests)

-- a vote's record with each field in its range
pub vote_fits : (i : Round) (s cw : ℕ) (v : Value) → round.fits i ≡ true → slot.fits s ≡ true → mark.fits cw ≡ true
    → value.fits v ≡ true → fits (kept.Vote i s cw v) ≡ true
unfolding kept_record
vote_fits i s cw v real in_slots in_marks fit = rw (real, in_slots, in_marks, fit) refl

real_above_none : (w : Round) → round0.fits w ≡ true → is_before no_round w ≡ true → round.fits w ≡ true
unfolding round round0
real_above_none w fit before = grind (arith, nat_tests)

-- all that a sound acceptor's list leaves has a spelling, where it promised a round
pub voted_fits : (c : Cluster) (me : RoleId) (d : AcceptorDurable) → IsSound c me d → is_before no_round d.promise ≡ true
    → (votes d.cw).fits d.votes ≡ true → fits (kept.Voted d.promise d.top d.cw d.votes) ≡ true
unfolding kept_record
voted_fits c me d sound promised told =
    rw (real_above_none d.promise sound.promise promised, sound.top, sound.cw, told) refl

pub empty_sound : (c : Cluster) (me : RoleId) → me ≡ role Acceptor me.index
    → IsSound c me (record { promise = no_round; cw = 0; votes = []; top = 0 })
unfolding round0 mark u16 u32 u64
empty_sound c me who =
    record {
      who = who;
      promise = refl;
      cw = refl;
      top = refl;
      votes = refl;
      rising = refl;
      leader = λ e. absurd (true≢false (sym e));
      named = refl;
    }

-- a sound acceptor can be opened from its list put anew
pub renewable : (c : Cluster) (me : RoleId) (d : AcceptorDurable) → IsSound c me d → (first : ℕ)
    → acceptor_snap c me d tt ≡ Some first → refused acceptor_rules c me (acceptor_renewed d first) ≡ None
renewable c me d sound first is = elim (bool_cases (is_before no_round d.promise)) [
  | inl promised ↦ rw (sound.leader promised, sound.named) refl
  | inr none ↦ absurd (none-some first (rw none at is))
]
