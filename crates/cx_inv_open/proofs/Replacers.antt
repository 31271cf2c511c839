-- A replacer keeps its own ballots, each above its last, and named sets, each above the one that it knew by its records.
use Rattle.std.proofs.lemmas.Slice.Eq.{bytes_eq-Decides}
use Rattle.cx_inv_run.proofs.Common.{◌≡◌, ℕ, ◌+◌, ◌<◌, ◌==◌, ◌&&◌, ◌||◌, Bool, true, false, max, not, bytes_eq, nat_lt, List, length}
use Rattle.cx_inv_run.proofs.Common.{Option, None, Some, if◌then◌else◌, refl, subst, arith, and_from, and_parts, not-false, nat_tests}
use Rattle.cx_inv_run.proofs.Common.{same_Some, Cluster, Lead, Collect, Replace, RoleId, Round, is_in, role, same_role, is_before}
use Rattle.cx_inv_run.proofs.Common.{lead_after, same_round, is_above, Entry, with_mark, Letter, Input, KeptRecord, Msg, Replacing}
use Rattle.cx_inv_run.proofs.Common.{Stopping, Deciding, Booting, number_itself, enough, first_set, names, names_body, names_role}
use Rattle.cx_inv_run.proofs.Common.{names_set, Outcome, by_test, either_way, ReplacerDurable, ReplacerVolatile, decide, halt_counted}
use Rattle.cx_inv_run.proofs.Common.{has_halted, is_booting, is_deciding, is_resting, is_stopping, joined_entries, next_counted}
use Rattle.cx_inv_run.proofs.Common.{replacer_orders, replacer_row, replacer_rules, replacer_takes, to_decide, IsFit, Lands, State}
use Rattle.cx_inv_run.proofs.Common.{ReplacerIn, durable_of, before-higher, replacer_kinds}
use Rattle.cx_base.specs.declared.event.Order.{Order as OrderOf}
use Rattle.cx_base.specs.declared.event.Order.TheVariants.{Change, Offer}
use Rattle.cx_base.specs.declared.role.Kind.TheVariants as kind
use Rattle.cx_letter.specs.declared.input.Input.TheVariants as input
use Rattle.cx_letter.specs.declared.kept.Record.TheVariants as kept
use Rattle.cx_letter.specs.declared.message.Msg.TheVariants as msg
use Rattle.cx_model.specs.declared.states.Replacing.TheVariants.{Idle}
use Rattle.cx_model.specs.Names.{names_ballot}
use Rattle.cx_model.specs.Replacer.{begin_in, boot_counted, known_record, known_set, tick_in}
use Rattle.cx_inv_open.specs.Fits.{Fitting}
use Rattle.cx_inv_open.proofs.Keep.{calm_in, new_fits, lands}

module _ (c : Cluster) (me : RoleId) (place : me.index < c.replacers) where
  is_named : nat_lt me.index c.replacers ≡ true
  is_named = grind (arith, nat_tests)

  abbrev ballot_fits : Round → Round → Bool
  ballot_fits own b = names_ballot c b && (b.id == me.index) && is_before own b && (b.s == 0)

  -- the ballot that it begins
  lead_fits : (own seen b : Round) → lead_after own seen me.index ≡ Some b → ballot_fits own b ≡ true
  lead_fits own seen b is = go (max own.r seen.r == 4294967295) is
    where
      go : (t : Bool) → (if t then None else Some (record { r = max own.r seen.r + 1; id = me.index; s = 0 })) ≡ Some b
          → ballot_fits own b ≡ true
      go true q = cc
      go false q =
          let next : Round = record { r = max own.r seen.r + 1; id = me.index; s = 0 } in
          subst (λ (x : Round). ballot_fits own x ≡ true) (same_Some next b q)
          (and_from _ _ (and_from _ _ (and_from _ _ is_named (number_itself me.index)) (before-higher own next (omega arith))) refl)

  module _ (d : ReplacerDurable) where
    abbrev Fine : Outcome ReplacerVolatile → Type 0
    Fine o = IsFit replacer_rules c me d o.kept

    begun : (v : ReplacerVolatile) (s : List ℕ) (o : Option Round) → ((b : Round) → o ≡ Some b → ballot_fits d.own b ≡ true)
        → Fine (begin_in me v s o)
    begun v s None fits = tt
    begun v s (Some b) fits = (fits b refl, refl)

    orders_fine : (v : ReplacerVolatile) (order : OrderOf) → Fine (replacer_orders c me d v order)
    orders_fine v (Replace s) =
        either_way Fine (not (names_set c s)) _ _ tt
        (either_way Fine (not (is_above s v.set)) _ _ tt (begun v s (lead_after d.own v.seen me.index) (lead_fits d.own v.seen)))
    orders_fine v (Lead g) = tt
    orders_fine v (Change g) = tt
    orders_fine v Collect = tt
    orders_fine v (Offer to s) = tt

    -- a set that it comes to know, whose members are named
    known_fine : (s : List ℕ) → names_set c s ≡ true → IsFit replacer_rules c me d (known_record c d s)
    known_fine s named =
        by_test (λ o. IsFit replacer_rules c me d o) (c.keep_sets && is_above s (known_set c d)) (Some (kept.Known s)) None
        (λ t. let a = and_parts c.keep_sets (is_above s (known_set c d)) t in
        (and_from _ _ (and_from _ _ a.0 named) a.1, refl)) (λ f. tt)

    -- it keeps nothing else

    halted_fine : (v : ReplacerVolatile) → Fine (halt_counted c me d v)
    halted_fine v =
        either_way Fine (nat_lt (length v.halts) (enough c)) _ _ tt (decided (joined_entries v.halts) (to_decide v.next v.halts))
      where
        decided : (es : List Entry) (s : List ℕ) → Fine (decide me d v es s)
        decided es s = either_way Fine (nat_lt 254 (length es)) _ _ tt tt

    next_fine : (v : ReplacerVolatile) (counted : List ℕ) → Fine (next_counted c me v counted)
    next_fine v counted = either_way Fine (nat_lt (length counted) (enough c)) _ _ tt tt

    boot_fine : (v : ReplacerVolatile) (counted : List ℕ) → names_set c v.next ≡ true → Fine (boot_counted c me d v counted)
    boot_fine v counted named = either_way Fine (nat_lt (length counted) (enough c)) _ _ tt (known_fine v.next named)

    takes_fine : (v : ReplacerVolatile) (from : RoleId) (m : Msg) → names_body c m ≡ true → Fine (replacer_takes c me d v from m)
    takes_fine v from (msg.StopB b w es a s) named =
        either_way Fine (not (is_stopping v.mode && same_round b d.own && is_in from.index v.set)) _ _ tt
        (either_way Fine (has_halted from.index v.halts) _ _ tt (halted_fine _))
    takes_fine v from (msg.NextB b) named =
        either_way Fine (not (is_deciding v.mode && same_round b d.own)) _ _ tt
        (either_way Fine (is_in from.index v.counted) _ _ tt (next_fine v (with_mark from.index v.counted)))
    takes_fine v from (msg.BootB s) named =
        by_test Fine (not (is_booting v.mode && bytes_eq s v.next)) _ _ (λ t. tt)
        (λ f. let same = (bytes_eq-Decides s v.next).0 (and_parts (is_booting v.mode) (bytes_eq s v.next) (not-false _ f)).1 in
        either_way Fine (is_in from.index v.counted) _ _ tt
        (boot_fine v (with_mark from.index v.counted) (subst (λ t. names_set c t ≡ true) same named)))
    takes_fine v from (msg.StopNack b other) named =
        either_way Fine (not (same_round b d.own) || is_resting v.mode || is_booting v.mode) _ _ tt tt
    takes_fine v from (msg.Sets s) named = either_way Fine (is_above s v.set) _ _ (known_fine s named) tt
    takes_fine v from other named = tt

    ticks_fine : (v : ReplacerVolatile) (mode : Replacing) → Fine (tick_in c me d v mode)
    ticks_fine v Idle = either_way Fine (is_above v.set (first_set c)) _ _ tt tt
    ticks_fine v Stopping = tt
    ticks_fine v Deciding = tt
    ticks_fine v Booting = tt

    row_fine : (v : ReplacerVolatile) (i : Input) → Fine (replacer_row c me d v i)
    row_fine v (input.Take x) =
        by_test Fine (same_role x.to me && names c x) _ _
        (λ t. let named = (and_parts (same_role x.to me) (names c x) t).1 in
        takes_fine v x.from x.msg (and_parts (names_role c x.from && names_role c x.to) (names_body c x.msg) named).1) (λ f. tt)
    row_fine v input.Tick = ticks_fine v v.mode
    row_fine v (input.Order order) = orders_fine v order

pub replacer_lands : (c : Cluster) (history : List KeptRecord) (sent : List Letter) (states : RoleId → State)
    → Fitting c history sent states → (x : ℕ) (v : ReplacerVolatile) → x < c.replacers → (i : Input)
    → Lands (Fitting c) history sent states (role kind.Replacer x) ReplacerIn
    (replacer_row c (role kind.Replacer x) (durable_of replacer_rules (role kind.Replacer x) history) v i)
replacer_lands c history sent states h x v place i =
    let me = role kind.Replacer x in
    let d = durable_of replacer_rules me history in
    lands c history sent states h me ReplacerIn _ (new_fits replacer_rules c history me (λ r x. x) _ (row_fine c me place d v i)) tt
    (calm_in me _ tt (replacer_kinds c me refl d v i))
