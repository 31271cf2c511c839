-- A matchmaker stays sound.
use Rattle.cx_role.specs.Prelude.{Matchmaker, names_set, MatchmakerDurable}
use Rattle.cx_role.proofs.Common.{◌≡◌, ◌≤◌, ◌<◌, ℕ, not, ◌&&◌, ◌||◌, Bool, true, false, nat_le, nat_lt, [], ◌∷◌, ◌++◌, length, refl}
use Rattle.cx_role.proofs.Common.{list_all, arith, length-append, and_parts, nat_tests, Cluster, RoleId, Round, Shape, role, is_before}
use Rattle.cx_role.proofs.Common.{no_round, Record, Entry, List, None, same_round, fits, entries_since, has_round}
use Rattle.cx_role.proofs.Common.kept
use Rattle.cx_role.proofs.Ranges.{real_or_none}
use Rattle.cx_wire.specs.Format.{u16, u32}
use Rattle.cx_field.specs.Fields.{goes_with, entries, grid, joined, round, round0, set}
use Rattle.cx_letter.specs.Records.{kept_record}
use Rattle.cx_field.proofs.ListLaws.{entries_fit, entries_snoc}
use Rattle.cx_model.specs.Matchmaker.{matchmaker_after, matchmaker_fits, entry}
use Rattle.cx_field.proofs.ListLaws.{entries_filter}
use Rattle.cx_field.proofs.Rising.{list_all-filter}
use Rattle.cx_role.proofs.Common.{by_test}
use Rattle.cx_model.specs.Matchmaker.{has_place, has_grid, same_grid, without_grid, beside}
use Rattle.cx_match.specs.Sound.{IsSound, matchmaker_durable}
use Rattle.cx_match.proofs.EntryLaws.{at_most_255, with_own_fits, own_round, from_fewer, filter_fewer}

is_below : (n k : ℕ) → nat_lt n k ≡ true → n < k
is_below n k h = grind (arith, nat_tests)

by_grid : (a b e l : Bool) → a ≡ false → (a || (b && e && l)) ≡ true → l ≡ true
by_grid true b e l f t = cc
by_grid false true true l f t = t
by_grid false true false l f t = cc
by_grid false false e l f t = cc

has_room_or : (n : ℕ) (b : Bool) → n ≤ 254 → (nat_le n 254 || b) ≡ true
has_room_or n b few = grind (arith, nat_tests)

module _ (me : RoleId) (d : MatchmakerDurable) (i : Round) (g : Shape) (sound : IsSound me d) (real : round.fits i ≡ true)
    (fit : grid.fits g ≡ true) where
  abbrev stays : Entry → Bool
  stays e = same_round e.round d.watermark || not (same_grid e.grid g)

  -- those beside which the round is recorded are a part of the entries
  beside_fits : entries.fits (beside d.watermark g d.entries) ≡ true
  beside_fits =
      by_test (λ (xs : List Entry). entries.fits xs ≡ true) (nat_lt (length d.entries) 16) d.entries (without_grid d.watermark g d.entries)
      (λ t. sound.entries) (λ f. entries_filter stays d.entries sound.entries)

  beside_before : list_all (λ (e : Entry). is_before e.round i) d.entries ≡ true
      → list_all (λ (e : Entry). is_before e.round i) (beside d.watermark g d.entries) ≡ true
  beside_before before =
      by_test (λ (xs : List Entry). list_all (λ (e : Entry). is_before e.round i) xs ≡ true) (nat_lt (length d.entries) 16) d.entries
      (without_grid d.watermark g d.entries)
      (λ t. before) (λ f. list_all-filter stays (λ (e : Entry). is_before e.round i) d.entries before)

  beside_few : (c : Cluster) → has_place c g d.entries ≡ true → length (beside d.watermark g d.entries) < 254
  beside_few c space =
      by_test (λ (xs : List Entry). length xs < 254) (nat_lt (length d.entries) 16) d.entries (without_grid d.watermark g d.entries)
      (λ t. let l = is_below (length d.entries) 16 t in omega arith)
      (λ f. let l = filter_fewer stays d.entries in
      let k = is_below (length d.entries) 254 (by_grid (nat_lt (length d.entries) 16) c.one_entry_a_grid (has_grid g d.entries)
      (nat_lt (length d.entries) 254) f space) in
      omega arith)

  pub sound_match : list_all (λ (e : Entry). is_before e.round i) d.entries ≡ true → (c : Cluster) → has_place c g d.entries ≡ true
      → IsSound me (matchmaker_after d (kept.Match i g))
  sound_match before c space =
      let one : List Entry = entry i g ∷ [] in
      let few = beside_few c space in
      let count : length (beside d.watermark g d.entries ++ one) ≤ 254 = omega (arith, length-append (beside d.watermark g d.entries) one)
      in
      record {
        who = sound.who;
        watermark = sound.watermark;
        entries = entries_snoc (beside d.watermark g d.entries) (entry i g) beside_fits (omega arith) (rw (real, fit) refl)
            (beside_before before);
        room = has_room_or (length (beside d.watermark g d.entries ++ one)) (has_round d.watermark (beside d.watermark g d.entries ++ one))
            count;
        ballot = sound.ballot;
        accepted = sound.accepted;
        next = sound.next;
      }

  -- the entries from a retiring round on leave room for its own
  from_few : is_before d.watermark i ≡ true → length (entries_since i d.entries) ≤ 254
  from_few above =
      let most = at_most_255 d.entries sound.entries in
      let fewer = filter_fewer (λ (e : Entry). not (is_before e.round i)) d.entries in
      let own = from_fewer d.watermark i d.entries above in
      let room = sound.room in
      grind (arith, nat_tests, most, fewer, own, room)

  pub sound_garbage : is_before d.watermark i ≡ true → IsSound me (matchmaker_after d (kept.Garbage i g))
  sound_garbage above =
      let own = own_round i g (entries_since i d.entries) in
      record {
        who = sound.who;
        watermark = real_or_none i real;
        entries = with_own_fits i g d.entries sound.entries (from_few above) (rw (real, fit) refl);
        room = grind (arith, nat_tests, own);
        ballot = sound.ballot;
        accepted = sound.accepted;
        next = sound.next;
      }

-- a ballot in which it accepts a set of the cluster
goes_together : (b : Round) (n : ℕ) → nat_le 1 b.r ≡ true → nat_le 1 n ≡ true → goes_with b n ≡ true
goes_together b n real some = rw (real, some) refl

-- a set of the cluster has a member
has_member : (c : Cluster) (s : List ℕ) → names_set c s ≡ true → nat_le 1 (length s) ≡ true
has_member c s named = grind (arith, nat_tests)

real_r : (b : Round) → round.fits b ≡ true → nat_le 1 b.r ≡ true
unfolding round
real_r b fit = grind (arith, nat_tests)

-- the entries with which it begins are such as it may tell
pub joined_told : (es : List Entry) → joined.fits es ≡ true → (entries.fits es ≡ true) × (length es ≤ 254)
unfolding entries joined
joined_told es fit = (grind (arith, nat_tests), grind (arith, nat_tests))

module _ (me : RoleId) (d : MatchmakerDurable) (sound : IsSound me d) where
  pub sound_stop : (b : Round) → round.fits b ≡ true → IsSound me (matchmaker_after d (kept.Stop b))
  sound_stop b real = record {
    who = sound.who;
    watermark = sound.watermark;
    entries = sound.entries;
    room = sound.room;
    ballot = real_or_none b real;
    accepted = sound.accepted;
    next = sound.next;
  }

  pub sound_next : (c : Cluster) (b : Round) (s : List ℕ) → round.fits b ≡ true → names_set c s ≡ true
      → IsSound me (matchmaker_after d (kept.Next b s))
  sound_next c b s real named = record {
    who = sound.who;
    watermark = sound.watermark;
    entries = sound.entries;
    room = sound.room;
    ballot = real_or_none b real;
    accepted = real_or_none b real;
    next = goes_together b (length s) (real_r b real) (has_member c s named);
  }

  pub sound_boot : (s : List ℕ) (w : Round) (es : List Entry) → round0.fits w ≡ true → joined.fits es ≡ true
      → IsSound me (matchmaker_after d (kept.Boot s w es))
  sound_boot s w es fits_round fit =
      let told = joined_told es fit in
      record {
        who = sound.who;
        watermark = fits_round;
        entries = told.0;
        room = has_room_or (length es) (has_round w es) told.1;
        ballot = sound.ballot;
        accepted = sound.accepted;
        next = sound.next;
      }

last_two : (a d e : Bool) → (a && d && e) ≡ true → (d ≡ true) × (e ≡ true)
last_two a d e h = grind (arith, nat_tests)

-- a record that fits leaves a sound matchmaker sound
pub after_sound : (c : Cluster) (me : RoleId) (d : MatchmakerDurable) (r : Record) → IsSound me d → fits r ≡ true
    → matchmaker_fits c me d r ≡ true → IsSound me (matchmaker_after d r)
unfolding kept_record
after_sound c me d (kept.Match i g) sound fit takes =
    let a = and_parts (round.fits i) (grid.fits g) fit in
    let t = last_two _ (list_all (λ (e : Entry). is_before e.round i) d.entries) (has_place c g d.entries) takes in
    sound_match me d i g sound a.0 a.1 t.0 c t.1
after_sound c me d (kept.Garbage i g) sound fit takes =
    let a = and_parts (round.fits i) (grid.fits g) fit in
    sound_garbage me d i g sound a.0 a.1 (and_parts _ (is_before d.watermark i) takes).1
after_sound c me d (kept.Stop b) sound fit takes = sound_stop me d sound b fit
after_sound c me d (kept.Next b s) sound fit takes =
    let a = and_parts (round.fits b) (set.fits s) fit in
    let before = and_parts _ (not (same_round b d.accepted)) takes in
    let higher = and_parts _ (not (is_before b d.ballot)) before.0 in
    sound_next me d sound c b s a.0 (and_parts _ (names_set c s) higher.0).1
after_sound c me d (kept.Boot s w es) sound fit takes =
    let a = and_parts (set.fits s) (round0.fits w && joined.fits es) fit in
    let b = and_parts (round0.fits w) (joined.fits es) a.1 in
    sound_boot me d sound s w es b.0 b.1
after_sound c me d other sound fit takes = cc

pub garbage_fits : (i : Round) (g : Shape) → round.fits i ≡ true → grid.fits g ≡ true → fits (kept.Garbage i g) ≡ true
unfolding kept_record
garbage_fits i g real fit = rw (real, fit) refl

-- the record of a round and its grid with each in its range
pub match_fits : (i : Round) (g : Shape) → round.fits i ≡ true → grid.fits g ≡ true → fits (kept.Match i g) ≡ true
unfolding kept_record
match_fits i g real fit = rw (real, fit) refl

-- the records of a matchmaker that is replaced, with each part in its range
pub stop_fits : (b : Round) → round.fits b ≡ true → fits (kept.Stop b) ≡ true
unfolding kept_record
stop_fits b real = real

pub next_fits : (b : Round) (s : List ℕ) → round.fits b ≡ true → set.fits s ≡ true → fits (kept.Next b s) ≡ true
unfolding kept_record
next_fits b s real fit = rw (real, fit) refl

pub boot_fits : (s : List ℕ) (w : Round) (es : List Entry) → set.fits s ≡ true → round0.fits w ≡ true → joined.fits es ≡ true
    → fits (kept.Boot s w es) ≡ true
unfolding kept_record
boot_fits s w es fit fits_round told = rw (fit, fits_round, told) refl

pub empty_sound : (me : RoleId) → me ≡ role Matchmaker me.index → IsSound me (matchmaker_durable no_round [] None no_round no_round [])
unfolding round0 u16 u32
empty_sound me who = record {
  who = who;
  watermark = refl;
  entries = entries_fit [] (omega arith) refl refl;
  room = refl;
  ballot = refl;
  accepted = refl;
  next = refl;
}
