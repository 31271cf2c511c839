-- What a replacer's rows keep is a ballot above all that it began before.
use Rattle.cx_inv_run.proofs.Common.{◌≡◌, ℕ, true, not, ◌&&◌, ◌||◌, List, Option, None, Some, refl, bytes_eq, nat_lt, length, Cluster, Lead}
use Rattle.cx_inv_run.proofs.Common.{Collect, Replace, RoleId, Round, is_in, role, same_role, is_before, same_round, lead_after, is_above}
use Rattle.cx_inv_run.proofs.Common.{with_mark, Letter, Input, Take, Tick, Order, KeptRecord, Msg, Replacing, Stopping, Deciding, Booting}
use Rattle.cx_inv_run.proofs.Common.{enough, first_set, names, names_set, Outcome, either_way, HasKept, ReplacerDurable, ReplacerVolatile}
use Rattle.cx_inv_run.proofs.Common.{replacer_rules, is_resting, is_stopping, is_deciding, is_booting, has_halted, joined_entries}
use Rattle.cx_inv_run.proofs.Common.{halt_counted, next_counted, replacer_takes, replacer_orders, replacer_row, State, durable_of}
use Rattle.cx_inv_run.proofs.Common.{before-from_at_most}
use Rattle.cx_base.specs.declared.event.Order.{Order as OrderOf}
use Rattle.cx_base.specs.declared.event.Order.TheVariants.{Change, Offer}
use Rattle.cx_base.specs.declared.role.Kind.TheVariants as kind
use Rattle.cx_letter.specs.declared.kept.Record.TheVariants as kept
use Rattle.cx_letter.specs.declared.message.Msg.TheVariants as msg
use Rattle.cx_model.specs.declared.states.Replacing.TheVariants.{Idle}
use Rattle.cx_model.specs.Replacer.{begin_in, boot_counted, known_record, known_set, tick_in}
use Rattle.cx_inv_match.specs.Facts.{Facts}
use Rattle.cx_inv_facts.proofs.Next.{AllNext, lead_after-above}

module _ (c : Cluster) (history : List KeptRecord) (sent : List Letter) (states : RoleId → State) (facts : Facts c history sent states)
    (x : ℕ) (v : ReplacerVolatile) where
  abbrev me : RoleId
  me = role kind.Replacer x

  abbrev dur : ReplacerDurable
  dur = durable_of replacer_rules me history

  abbrev Fine : Outcome ReplacerVolatile → Type 0
  Fine o = AllNext history me o.kept

  above_last : (b : Round) → is_before dur.own b ≡ true → (a : Round) → HasKept history me (kept.Ballot a) → is_before a b ≡ true
  above_last b up a h = before-from_at_most a dur.own b ((facts.last_ballot me).0 a h) up

  begin_fine : (s : List ℕ) (next : Option Round) → ((b : Round) → next ≡ Some b → is_before dur.own b ≡ true) → Fine (begin_in me v s next)
  begin_fine s None up = tt
  begin_fine s (Some b) up = above_last b (up b refl)

  halt_fine : (u : ReplacerVolatile) → Fine (halt_counted c me dur u)
  halt_fine u =
      either_way Fine (nat_lt (length u.halts) (enough c)) _ _ tt (either_way Fine (nat_lt 254 (length (joined_entries u.halts))) _ _ tt tt)

  next_fine : (counted : List ℕ) → Fine (next_counted c me v counted)
  next_fine counted = either_way Fine (nat_lt (length counted) (enough c)) _ _ tt tt

  known_fine : (s : List ℕ) → AllNext history me (known_record c dur s)
  known_fine s = either_way (AllNext history me) (c.keep_sets && is_above s (known_set c dur)) (Some (kept.Known s)) None tt tt

  boot_fine : (counted : List ℕ) → Fine (boot_counted c me dur v counted)
  boot_fine counted = either_way Fine (nat_lt (length counted) (enough c)) _ _ tt (known_fine v.next)

  takes_fine : (from : RoleId) (m : Msg) → Fine (replacer_takes c me dur v from m)
  takes_fine from (msg.StopB b w es a s) =
      either_way Fine (not (is_stopping v.mode && same_round b dur.own && is_in from.index v.set)) _ _ tt
      (either_way Fine (has_halted from.index v.halts) _ _ tt (halt_fine _))
  takes_fine from (msg.NextB b) =
      either_way Fine (not (is_deciding v.mode && same_round b dur.own)) _ _ tt
      (either_way Fine (is_in from.index v.counted) _ _ tt (next_fine (with_mark from.index v.counted)))
  takes_fine from (msg.BootB s) =
      either_way Fine (not (is_booting v.mode && bytes_eq s v.next)) _ _ tt
      (either_way Fine (is_in from.index v.counted) _ _ tt (boot_fine (with_mark from.index v.counted)))
  takes_fine from (msg.StopNack b other) =
      either_way Fine (not (same_round b dur.own) || is_resting v.mode || is_booting v.mode) _ _ tt tt
  takes_fine from (msg.Sets s) = either_way Fine (is_above s v.set) _ _ (known_fine s) tt
  takes_fine from other = tt

  tick_fine : (mode : Replacing) → Fine (tick_in c me dur v mode)
  tick_fine Idle = either_way Fine (is_above v.set (first_set c)) _ _ tt tt
  tick_fine Stopping = tt
  tick_fine Deciding = tt
  tick_fine Booting = tt

  order_fine : (order : OrderOf) → Fine (replacer_orders c me dur v order)
  order_fine (Replace s) =
      either_way Fine (not (names_set c s)) _ _ tt
      (either_way Fine (not (is_above s v.set)) _ _ tt
      (begin_fine s (lead_after dur.own v.seen x) (lead_after-above x dur.own v.seen)))
  order_fine (Lead g) = tt
  order_fine (Change g) = tt
  order_fine Collect = tt
  order_fine (Offer to s) = tt

  pub replacer_next : (i : Input) → AllNext history me (replacer_row c me dur v i).kept
  replacer_next (Take d) = either_way Fine (same_role d.to me && names c d) _ _ (takes_fine d.from d.msg) tt
  replacer_next Tick = tick_fine v.mode
  replacer_next (Order order) = order_fine order
