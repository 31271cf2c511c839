-- A matchmaker keeps what it may keep.
use Rattle.cx_inv_run.proofs.Common.{◌≡◌, ℕ, ◌&&◌, bytes_eq, true, false, List, Option, None, Some, refl, list_any}
use Rattle.cx_inv_run.proofs.Common.{list_all, arith, and_parts, nat_tests, Cluster, RoleId, Round, Shape, is_in, role, same_role}
use Rattle.cx_inv_run.proofs.Common.{is_before, same_round, Entry, Letter, Input, KeptRecord, Msg, MatchmakerDurable, matchmaker_rules}
use Rattle.cx_inv_run.proofs.Common.{matchmaker_row, matchmaker_takes, at_work, boot_in, has_round, in_set, is_booted, is_stopped}
use Rattle.cx_inv_run.proofs.Common.{match_a_row, set_of, names, names_body, names_entry, names_grid, names_role, names_round, names_set}
use Rattle.cx_inv_run.proofs.Common.{Outcome, by_test, either_way, IsFit, Lands, State, plain, durable_of, none-Member, Member-all}
use Rattle.cx_inv_run.proofs.Common.{matchmaker_kinds}
use Rattle.std.specs.Prelude.{Bool, not}
use Rattle.cx_base.specs.declared.role.Kind.TheVariants as kind
use Rattle.cx_letter.specs.declared.input.Input.TheVariants as input
use Rattle.cx_letter.specs.declared.message.Msg.TheVariants as msg
use Rattle.cx_model.specs.Names.{names_ballot}
use Rattle.cx_model.specs.Matchmaker.{has_place}
use Rattle.cx_inv_open.specs.Fits.{Fitting}
use Rattle.cx_inv_open.proofs.Keep.{calm_in, new_fits, lands}

-- where no entry is of the round or of a later one, all are of earlier ones
is_after : (a b : Round) → is_before a b ≡ false → same_round b a ≡ false → is_before b a ≡ true
is_after a b before same = grind (arith, nat_tests)

is_later : (a b : Round) → is_before a b ≡ false → same_round a b ≡ false → is_before b a ≡ true
is_later a b before same = grind (arith, nat_tests)

all_before : (i : Round) (es : List Entry) → list_any (λ (e : Entry). is_before i e.round) es ≡ false → has_round i es ≡ false
    → list_all (λ (e : Entry). is_before e.round i) es ≡ true
all_before i es later none =
    Member-all (λ (e : Entry). is_before e.round i) es (λ e m. is_after i e.round
    (none-Member (λ (e : Entry). is_before i e.round) es later e m) (none-Member (λ (e : Entry). same_round e.round i) es none e m))

not_from : (b : Bool) → not b ≡ false → b ≡ true
not_from true e = refl
not_from false e = cc

module _ (c : Cluster) (me : RoleId) (d : MatchmakerDurable) where
  abbrev Fine : Outcome (Unit {0}) → Type 0
  Fine o = IsFit matchmaker_rules c me d o.kept

  -- what only a member of a set does, and what only one that hasn't stopped does
  set_fine : (o : Outcome (Unit {0})) → (is_booted c me d ≡ true → Fine o) → Fine (in_set c me d o)
  set_fine o h = by_test Fine (is_booted c me d) _ _ h (λ f. tt)

  work_fine : (o : Outcome (Unit {0})) → (is_booted c me d ≡ true → is_stopped d ≡ false → Fine o) → Fine (at_work c me d o)
  work_fine o h = set_fine _ (λ booted. by_test Fine (is_stopped d) _ _ (λ t. tt) (λ works. h booted works))

  match_fine : (from : RoleId) (i : Round) (g : Shape) → is_booted c me d ≡ true → is_stopped d ≡ false → names_round c i ≡ true
      → names_grid c g ≡ true
      → Fine (match_a_row c me d from i g)
  match_fine from i g booted works round grid =
      by_test Fine (is_before i d.watermark) _ _ (λ t. tt)
      (λ high. by_test Fine (list_any (λ (e : Entry). is_before i e.round) d.entries) _ _ (λ t. tt)
      (λ last. by_test Fine (has_round i d.entries) _ _ (λ t. tt)
      (λ new. by_test Fine (not (has_place c g d.entries)) _ _ (λ t. tt)
      (λ room. (
        rw (booted, works, round, grid, high, all_before i d.entries last new, not_from (has_place c g d.entries) room) refl,
        refl,
      )))))

  boots_fine : (from : RoleId) (s : List ℕ) (w : Round) (es : List Entry) → is_in me.index s ≡ true → names_set c s ≡ true
      → names_round c w ≡ true
      → list_all (λ (e : Entry). names_entry c e) es ≡ true → (o : Option (List ℕ)) → set_of c me d.booted ≡ o
      → Fine (boot_in me from s w es o)
  boots_fine from s w es member set round entries (Some t) e = either_way Fine (bytes_eq s t) _ _ tt tt
  boots_fine from s w es member set round entries None e = (rw (e, member, set, round, entries) refl, refl)

  takes_fine : (from : RoleId) (m : Msg) → names_body c m ≡ true → Fine (matchmaker_takes c me d from m)
  takes_fine from (msg.MatchA i g) named =
      let a = and_parts (names_round c i) (names_grid c g) named in
      work_fine _ (λ booted works. match_fine from i g booted works a.0 a.1)
  takes_fine from (msg.GarbageA i g) named =
      let a = and_parts (names_round c i) (names_grid c g) named in
      work_fine _ (λ booted works.
      by_test Fine (is_before d.watermark i) _ _ (λ low. (rw (booted, works, a.0, a.1, low) refl, refl)) (λ f. tt))
  takes_fine from (msg.MatchRead t) named = work_fine _ (λ booted works. tt)
  takes_fine from (msg.StopA b) named =
      set_fine _ (λ booted. by_test Fine (is_before b d.ballot) _ _ (λ t. tt)
      (λ high. by_test Fine (same_round b d.ballot) _ _ (λ t. tt) (λ new. (rw (booted, named, is_later b d.ballot high new) refl, refl))))
  takes_fine from (msg.NextA b s) named =
      let a = and_parts (names_ballot c b) (names_set c s) named in
      set_fine _ (λ booted. by_test Fine (is_before b d.ballot) _ _ (λ t. tt)
      (λ high. by_test Fine (same_round b d.accepted) _ _ (λ t. tt) (λ new. (rw (booted, a.0, a.1, high, new) refl, refl))))
  takes_fine from (msg.BootA s w es) named =
      let a = and_parts (names_set c s && names_round c w) (list_all (λ (e : Entry). names_entry c e) es) named in
      let b = and_parts (names_set c s) (names_round c w) a.0 in
      by_test Fine (is_in me.index s) _ _ (λ member. boots_fine from s w es member b.0 b.1 a.1 (set_of c me d.booted) refl) (λ f. tt)
  takes_fine from other named = tt

  row_fine : (i : Input) → Fine (matchmaker_row c me d tt i)
  row_fine (input.Take x) =
      by_test Fine (same_role x.to me && names c x) _ _
      (λ is. let a = and_parts (same_role x.to me) (names c x) is in
      takes_fine x.from x.msg (and_parts (names_role c x.from && names_role c x.to) (names_body c x.msg) a.1).1)
      (λ f. tt)
  row_fine input.Tick = tt
  row_fine (input.Order order) = tt

pub matchmaker_lands : (c : Cluster) (history : List KeptRecord) (sent : List Letter) (states : RoleId → State)
    → Fitting c history sent states → (m : ℕ) (i : Input)
    → Lands (Fitting c) history sent states (role kind.Matchmaker m) plain
    (matchmaker_row c (role kind.Matchmaker m) (durable_of matchmaker_rules (role kind.Matchmaker m) history) tt i)
matchmaker_lands c history sent states h m i =
    let me = role kind.Matchmaker m in
    let d = durable_of matchmaker_rules me history in
    lands c history sent states h me plain _ (new_fits matchmaker_rules c history me (λ r x. x) _ (row_fine c me d i)) tt
    (calm_in me _ tt (matchmaker_kinds c me refl d i))
