-- A matchmaker keeps what it may keep.
use Rattle.cx_role.proofs.Common.{bytes_eq, ◌≡◌, ℕ, ◌&&◌, Bool, true, false, not, refl, list_all, list_any, arith, and_parts}
use Rattle.cx_role.proofs.Common.{List, Option, None, Some, nat_tests, Cluster, RoleId, Round, Shape, same_role, same_round, is_before}
use Rattle.cx_role.proofs.Common.{is_in, Letter, Take, Entry, Msg, names, names_round, Outcome, by_test, IsFit, matchmaker_rules, has_round}
use Rattle.cx_model.specs.Names.{names_ballot, names_body, names_entry, names_grid, names_set}
use Rattle.cx_role.proofs.Common.msg
use Rattle.cx_role.proofs.Named.{body_named}
use Rattle.cx_model.specs.Matchmaker.{MatchmakerDurable, matchmaker_row, matchmaker_takes, at_work, in_set, is_booted, is_stopped, set_of}
use Rattle.cx_model.specs.Matchmaker.{has_place, garbage_a_row, match_a_row, stop_a_row, next_a_row, boot_in, boot_a_row}
use Rattle.cx_match.proofs.EntryLaws.{all_before, behind}

abbrev Fits : Cluster → RoleId → MatchmakerDurable → Outcome (Unit {0}) → Type 0
Fits c me d o = IsFit matchmaker_rules c me d o.kept

there_is : (b : Bool) → not b ≡ false → b ≡ true
there_is true h = refl
there_is false h = cc

module _ (c : Cluster) (me : RoleId) (d : MatchmakerDurable) (from : RoleId) where
  in_set_fit : (o : Outcome (Unit {0})) → (is_booted c me d ≡ true → Fits c me d o) → Fits c me d (in_set c me d o)
  in_set_fit o fit = by_test (Fits c me d) (is_booted c me d) _ _ fit (λ _. tt)

  at_work_fit : (o : Outcome (Unit {0})) → (is_booted c me d ≡ true → is_stopped d ≡ false → Fits c me d o) → Fits c me d (at_work c me d o)
  at_work_fit o fit =
      by_test (Fits c me d) (is_booted c me d) _ _ (λ booted.
      by_test (Fits c me d) (is_stopped d) _ _ (λ _. tt) (fit booted)) (λ _. tt)

  match_a_fit : (i : Round) (g : Shape) → names_round c i ≡ true → names_grid c g ≡ true
      → is_booted c me d ≡ true → is_stopped d ≡ false → Fits c me d (match_a_row c me d from i g)
  match_a_fit i g named members booted working =
      by_test (Fits c me d) (is_before i d.watermark) _ _ (λ _. tt) (λ high.
      by_test (Fits c me d) (list_any (λ (e : Entry). is_before i e.round) d.entries) _ _ (λ _. tt) (λ last.
      by_test (Fits c me d) (has_round i d.entries) _ _ (λ _. tt) (λ new.
      by_test (Fits c me d) (not (has_place c g d.entries)) _ _ (λ _. tt) (λ space.
      (rw (booted, working, named, members, high, all_before i d.entries last new, there_is (has_place c g d.entries) space) refl, refl)))))

  garbage_a_fit : (i : Round) (g : Shape) → names_round c i ≡ true → names_grid c g ≡ true
      → is_booted c me d ≡ true → is_stopped d ≡ false → Fits c me d (garbage_a_row me d from i g)
  garbage_a_fit i g named members booted working =
      by_test (Fits c me d) (is_before d.watermark i) _ _ (λ low. (rw (booted, working, named, members, low) refl, refl)) (λ _. tt)

  stop_a_fit : (b : Round) → names_ballot c b ≡ true → is_booted c me d ≡ true → Fits c me d (stop_a_row me d from b)
  stop_a_fit b named booted =
      by_test (Fits c me d) (is_before b d.ballot) _ _ (λ _. tt) (λ low.
      by_test (Fits c me d) (same_round b d.ballot) _ _ (λ _. tt) (λ other.
      (rw (booted, named, behind b d.ballot low other) refl, refl)))

  next_a_fit : (b : Round) (s : List ℕ) → names_ballot c b ≡ true → names_set c s ≡ true → is_booted c me d ≡ true
      → Fits c me d (next_a_row me d from b s)
  next_a_fit b s named members booted =
      by_test (Fits c me d) (is_before b d.ballot) _ _ (λ _. tt) (λ low.
      by_test (Fits c me d) (same_round b d.accepted) _ _ (λ _. tt) (λ new.
      (rw (booted, named, members, low, new) refl, refl)))

  module _ (s : List ℕ) (w : Round) (es : List Entry) (members : names_set c s ≡ true) (named : names_round c w ≡ true)
      (told : list_all (λ (e : Entry). names_entry c e) es ≡ true) where
    boot_in_fit : is_in me.index s ≡ true → (own : Option (List ℕ)) → set_of c me d.booted ≡ own → Fits c me d (boot_in me from s w es own)
    boot_in_fit member (Some t) is = by_test (Fits c me d) (bytes_eq s t) _ _ (λ _. tt) (λ _. tt)
    boot_in_fit member None is = (rw (is, member, members, named, told) refl, refl)

    boot_a_fit : Fits c me d (boot_a_row c me d from s w es)
    boot_a_fit = by_test (Fits c me d) (is_in me.index s) _ _ (λ member. boot_in_fit member (set_of c me d.booted) refl) (λ _. tt)

  takes_fit : (m : Msg) → names_body c m ≡ true → Fits c me d (matchmaker_takes c me d from m)
  takes_fit (msg.MatchA i g) named =
      let a = and_parts (names_round c i) (names_grid c g) named in at_work_fit (match_a_row c me d from i g) (match_a_fit i g a.0 a.1)
  takes_fit (msg.GarbageA i g) named =
      let a = and_parts (names_round c i) (names_grid c g) named in at_work_fit (garbage_a_row me d from i g) (garbage_a_fit i g a.0 a.1)
  takes_fit (msg.MatchRead u) named = at_work_fit _ (λ _ _. tt)
  takes_fit (msg.StopA b) named = in_set_fit (stop_a_row me d from b) (stop_a_fit b named)
  takes_fit (msg.NextA b s) named =
      let a = and_parts (names_ballot c b) (names_set c s) named in in_set_fit (next_a_row me d from b s) (next_a_fit b s a.0 a.1)
  takes_fit (msg.BootA s w es) named =
      let a = and_parts (names_set c s && names_round c w) (list_all (λ (e : Entry). names_entry c e) es) named in
      let b = and_parts (names_set c s) (names_round c w) a.0 in
      boot_a_fit s w es b.0 b.1 a.1
  takes_fit other named = tt

-- the record of a row is one that the matchmaker may append
pub take_fit : (c : Cluster) (me : RoleId) (d : MatchmakerDurable) (l : Letter) → Fits c me d (matchmaker_row c me d tt (Take l))
take_fit c me d l =
    by_test (Fits c me d) (same_role l.to me && names c l) _ _ (λ is.
    takes_fit c me d l.from l.msg (body_named c me l is)) (λ _. tt)
