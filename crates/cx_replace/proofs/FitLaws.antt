-- A replacer keeps what it may keep.
use Rattle.std.proofs.lemmas.Slice.Eq.{bytes_eq-Decides}
use Rattle.cx_model.specs.Prelude.{◌≡◌, ◌&&◌, ◌||◌, not, true, false, nat_lt, Bool, List, ℕ, length, Option, refl, Cluster, RoleId, Round}
use Rattle.cx_model.specs.Prelude.{same_role, same_round, is_in, Letter, Record, Entry, Msg, names, names_body, Outcome, IsFit, None}
use Rattle.cx_model.specs.Prelude.{bytes_eq}
use Rattle.cx_model.specs.Prelude.{is_above, with_mark, enough, ReplacerDurable, ReplacerVolatile, halt_counted, has_halted, is_booting}
use Rattle.cx_model.specs.Prelude.{is_deciding, is_resting, is_stopping, joined_entries, replacer_row, replacer_rules, replacer_takes}
use Rattle.cx_model.specs.Prelude.{to_decide}
use Rattle.cx_role.proofs.Common.{subst, sym, either_way, by_test, and_parts}
use Rattle.cx_role.proofs.Common.msg
use Rattle.cx_role.proofs.Named.{body_named}
use Rattle.cx_letter.specs.declared.input.Input.TheVariants as input
use Rattle.cx_model.specs.Names.{names_set}
use Rattle.cx_model.specs.Replacer.{boot_b_row, decide, known_record, known_set, next_b_row, sets_row, stop_b_row, stop_nack_row}

abbrev KeepsNone : Outcome ReplacerVolatile → Type 0
KeepsNone o = o.kept ≡ None

abbrev Fits : Cluster → RoleId → ReplacerDurable → Outcome ReplacerVolatile → Type 0
Fits c me d o = IsFit replacer_rules c me d o.kept

there_is : (b : Bool) → not b ≡ false → b ≡ true
there_is true h = refl
there_is false h = cc

module _ (c : Cluster) (me : RoleId) (d : ReplacerDurable) where
  none_fits : (o : Outcome ReplacerVolatile) → KeepsNone o → Fits c me d o
  none_fits o none = subst (λ (kept : Option Record). IsFit replacer_rules c me d kept) (sym none) tt

  -- a set of the cluster's that it comes to know
  known_fits : (s : List ℕ) → names_set c s ≡ true → IsFit replacer_rules c me d (known_record c d s)
  known_fits s named =
      by_test (λ (kept : Option Record). IsFit replacer_rules c me d kept) (c.keep_sets && is_above s (known_set c d)) _ _
      (λ kept.
      let parts = and_parts c.keep_sets (is_above s (known_set c d)) kept in
      (rw (parts.0, named, parts.1) refl, refl)) (λ _. tt)

  decide_none : (v : ReplacerVolatile) (es : List Entry) (s : List ℕ) → KeepsNone (decide me d v es s)
  decide_none v es s = either_way KeepsNone (nat_lt 254 (length es)) _ _ refl refl

  halt_counted_none : (v : ReplacerVolatile) → KeepsNone (halt_counted c me d v)
  halt_counted_none v =
      either_way KeepsNone (nat_lt (length v.halts) (enough c)) _ _ refl (decide_none v (joined_entries v.halts) (to_decide v.next v.halts))

  module _ (v : ReplacerVolatile) (from : RoleId) where
    stop_b_none : (b w : Round) (es : List Entry) (a : Round) (s : List ℕ) → KeepsNone (stop_b_row c me d v from b w es a s)
    stop_b_none b w es a s =
        either_way KeepsNone (not (is_stopping v.mode && same_round b d.own && is_in from.index v.set)) _ _ refl
        (either_way KeepsNone (has_halted from.index v.halts) _ _ refl (halt_counted_none _))

    next_b_none : (b : Round) → KeepsNone (next_b_row c me d v from b)
    next_b_none b =
        either_way KeepsNone (not (is_deciding v.mode && same_round b d.own)) _ _ refl
        (either_way KeepsNone (is_in from.index v.counted) _ _ refl
        (either_way KeepsNone (nat_lt (length (with_mark from.index v.counted)) (enough c)) _ _ refl refl))

    boot_b_fits : (s : List ℕ) → names_set c s ≡ true → Fits c me d (boot_b_row c me d v from s)
    boot_b_fits s named =
        by_test (Fits c me d) (not (is_booting v.mode && bytes_eq s v.next)) _ _ (λ _. tt)
        (λ booting.
        let on = and_parts (is_booting v.mode) (bytes_eq s v.next) (there_is _ booting) in
        let same = (bytes_eq-Decides s v.next).0 on.1 in
        by_test (Fits c me d) (is_in from.index v.counted) _ _ (λ _. tt)
        (λ new.
        by_test (Fits c me d) (nat_lt (length (with_mark from.index v.counted)) (enough c)) _ _ (λ _. tt)
        (λ all. known_fits v.next (subst (λ (t : List ℕ). names_set c t ≡ true) same named))))

    sets_fits : (s : List ℕ) → names_set c s ≡ true → Fits c me d (sets_row c d v s)
    sets_fits s named = by_test (Fits c me d) (is_above s v.set) _ _ (λ above. known_fits s named) (λ _. tt)

    takes_fits : (m : Msg) → names_body c m ≡ true → Fits c me d (replacer_takes c me d v from m)
    takes_fits (msg.StopB b w es a s) named = none_fits (stop_b_row c me d v from b w es a s) (stop_b_none b w es a s)
    takes_fits (msg.NextB b) named = none_fits (next_b_row c me d v from b) (next_b_none b)
    takes_fits (msg.BootB s) named = boot_b_fits s named
    takes_fits (msg.StopNack b other) named =
        none_fits (stop_nack_row d v b other)
        (either_way KeepsNone (not (same_round b d.own) || is_resting v.mode || is_booting v.mode) _ _ refl refl)
    takes_fits (msg.Sets s) named = sets_fits s named
    takes_fits other named = tt

  -- the record of a row is one that the replacer may append
  pub take_fits : (v : ReplacerVolatile) (letter : Letter)
      → IsFit replacer_rules c me d (replacer_row c me d v (input.Take letter)).kept
  take_fits v letter =
      by_test (Fits c me d) (same_role letter.to me && names c letter) _ _
      (λ ours. takes_fits v letter.from letter.msg (body_named c me letter ours)) (λ _. tt)
