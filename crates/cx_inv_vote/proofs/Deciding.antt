-- What an event's word `decided` says: a replacer lets a set begin in the place of the one that it knows, and by this word alone. So
-- whoever is asked to begin in a set, and whoever begins in it, was so after an event that decided this set.
use Rattle.cx_inv_run.proofs.Common.{◌≡◌, ℕ, not, ◌&&◌, ◌||◌, map, ◌⊎◌, List, [], ◌++◌, length, Option, Some, None, inl, inr, ap, sym, ◌∙◌}
use Rattle.cx_inv_run.proofs.Common.{refl, nat_lt, bytes_eq, if◌then◌else◌, list_any, same_Some, Cluster, Lead, Collect, Offer, Replace}
use Rattle.cx_inv_run.proofs.Common.{RoleId, Round, Why, Shape, is_in, below, role, same_role, is_before, same_round, lead_after, is_above}
use Rattle.cx_inv_run.proofs.Common.{Entry, with_mark, Letter, Input, Record, Msg, Replacing, Stopping, Deciding, Booting, enough}
use Rattle.cx_inv_run.proofs.Common.{first_set, MatchmakerDurable, matchmaker_takes, match_a_row, garbage_a_row, match_read_row, stop_a_row}
use Rattle.cx_inv_run.proofs.Common.{next_a_row, boot_in, in_set, at_work, set_of, is_booted, is_stopped, has_round, Member, names}
use Rattle.cx_inv_run.proofs.Common.{names_set, Outcome, only_word, replied, by_test, ReplacerDurable, ReplacerVolatile, is_stopping}
use Rattle.cx_inv_run.proofs.Common.{is_deciding, is_booting, is_resting, has_halted, joined_entries, to_decide, decide, halt_counted}
use Rattle.cx_inv_run.proofs.Common.{replacer_takes, replacer_orders, replacer_row, Member-both}
use Rattle.cx_base.specs.declared.event.Order.{Order as OrderOf}
use Rattle.cx_base.specs.declared.event.Order.TheVariants.{Change as ChangeGrid}
use Rattle.cx_base.specs.declared.role.Kind.TheVariants as kind
use Rattle.cx_base.specs.declared.why.Why.TheVariants as why
use Rattle.cx_letter.specs.declared.input.Input.TheVariants as input
use Rattle.cx_letter.specs.declared.kept.Record.TheVariants as kept
use Rattle.cx_letter.specs.declared.message.Msg.TheVariants as msg
use Rattle.cx_model.specs.declared.states.Replacing.TheVariants.{Idle}
use Rattle.cx_model.specs.Matchmaker.{boot_a_row}
use Rattle.cx_model.specs.Replacer.{stop_a_to, next_a_to, boot_a_to, sets_to, others, sets_to_all, begin_in, stop_b_row, next_b_row}
use Rattle.cx_model.specs.Replacer.{boot_b_row, known_record, with_seen, stop_nack_row, sets_row, tick_in}
use Rattle.cx_model.specs.Matchmaker.{has_place}
use Rattle.cx_inv_vote.proofs.Leading.{each}

-- nobody is asked to begin by these
abbrev pub NoBoot : List Letter → Type 0
NoBoot ds = (d : Letter) → Member d ds → (t : List ℕ) (w : Round) (es : List Entry) → msg.BootA t w es ≡ d.msg → ⊥

abbrev begun_in : Msg → List ℕ
begun_in (msg.BootA t w es) = t
begun_in other = []

-- the rows of a replacer

-- it lets this set begin, and did so before, or decides it
abbrev pub Begins : ReplacerVolatile → Why → List ℕ → Type 0
Begins v y t = ((v.mode ≡ Booting) ⊎ (y ≡ why.Decided)) × (v.next ≡ t)

-- What a row says: it asks to begin in such a set alone, it leaves the replacer in such a set alone, and by its word it goes on with the
-- two sets that it had.
pub record RowSays (v : ReplacerVolatile) (o : Outcome ReplacerVolatile) : Type 0 where
  pub asks : (d : Letter) → Member d o.sends → (t : List ℕ) (w : Round) (es : List Entry) → msg.BootA t w es ≡ d.msg → Begins v o.why t
  pub boots : o.volatile.mode ≡ Booting → Begins v o.why o.volatile.next
  pub decided : o.why ≡ why.Decided → (o.volatile.mode ≡ Booting) × (o.volatile.set ≡ v.set) × (o.volatile.next ≡ v.next)

-- its mode is another than the last one, or it goes on with its set
abbrev Stays : ReplacerVolatile → ReplacerVolatile → Type 0
Stays v u = u.mode ≡ Booting → (v.mode ≡ Booting) × (v.next ≡ u.next)

says_else : (v u : ReplacerVolatile) (y : Why) (r : Option Record) (ds : List Letter) → (y ≡ why.Decided → ⊥) → Stays v u → NoBoot ds
    → RowSays v (record { why = y; kept = r; volatile = u; sends = ds })
says_else v u y r ds other stays none = record {
  asks = λ d m t w es e. absurd (none d m t w es e);
  boots = λ e. let p = stays e in (inl p.0, p.1);
  decided = λ e. absurd (other e);
}

says_nothing : (v u : ReplacerVolatile) (y : Why) → (y ≡ why.Decided → ⊥) → Stays v u → RowSays v (only_word y u)
says_nothing v u y other stays = says_else v u y None [] other stays (λ d m. absurd m)

none_each : (make : ℕ → Letter) (ns : List ℕ) → ((n : ℕ) (t : List ℕ) (w : Round) (es : List Entry) → msg.BootA t w es ≡ (make n).msg → ⊥)
    → NoBoot (map make ns)
none_each make ns h = each (λ (d : Letter). (t : List ℕ) (w : Round) (es : List Entry) → msg.BootA t w es ≡ d.msg → ⊥) make ns h

module _ (c : Cluster) (me : RoleId) (dur : ReplacerDurable) (v : ReplacerVolatile) where
  abbrev Says : Outcome ReplacerVolatile → Type 0
  Says o = RowSays v o

  same : (y : Why) → (y ≡ why.Decided → ⊥) → Says (only_word y v)
  same y other = says_nothing v v y other (λ e. (e, refl))

  -- all members of the next set are asked to begin
  asks_boot : (y : Why) (u : ReplacerVolatile) → Begins v y v.next → (u.mode ≡ Booting → Begins v y u.next)
      → (y ≡ why.Decided → (u.mode ≡ Booting) × (u.set ≡ v.set) × (u.next ≡ v.next))
      → Says (replied y u (map (boot_a_to me v.next v.watermark v.entries) v.next))
  asks_boot y u begins boots decided = record {
    asks = each (λ (d : Letter). (t : List ℕ) (w : Round) (es : List Entry) → msg.BootA t w es ≡ d.msg → Begins v y t)
        (boot_a_to me v.next v.watermark v.entries) v.next (λ n t w es e. (begins.0, sym (ap begun_in e)));
    boots = boots;
    decided = decided;
  }

  tells_no_boot : (s : List ℕ) → NoBoot (sets_to_all c me s)
  tells_no_boot s =
      Member-both (λ (d : Letter). (t : List ℕ) (w : Round) (es : List Entry) → msg.BootA t w es ≡ d.msg → ⊥)
      (map (λ l. sets_to me s (role kind.Leader l)) (below c.leaders) ++ map (λ r. sets_to me s (role kind.Reader r)) (below c.readers))
      (map (λ y. sets_to me s (role kind.Replacer y)) (others c me))
      (Member-both (λ (d : Letter). (t : List ℕ) (w : Round) (es : List Entry) → msg.BootA t w es ≡ d.msg → ⊥)
      (map (λ l. sets_to me s (role kind.Leader l)) (below c.leaders)) (map (λ r. sets_to me s (role kind.Reader r)) (below c.readers))
      (none_each (λ l. sets_to me s (role kind.Leader l)) (below c.leaders) (λ n t w es e. cc))
      (none_each (λ r. sets_to me s (role kind.Reader r)) (below c.readers) (λ n t w es e. cc)))
      (none_each (λ y. sets_to me s (role kind.Replacer y)) (others c me) (λ n t w es e. cc))

  -- an order

  begin_says : (s : List ℕ) (next : Option Round) → Says (begin_in me v s next)
  begin_says s None = same why.End (λ e. cc)
  begin_says s (Some b) = says_else v (record v { mode = Stopping; next = s; halts = []; counted = [] }) why.Started (Some (kept.Ballot b))
      (map (stop_a_to me b) v.set) (λ e. cc) (λ e. cc) (none_each (stop_a_to me b) v.set (λ n t w es e. cc))

  order_says : (order : OrderOf) → Says (replacer_orders c me dur v order)
  order_says (Replace s) =
      by_test Says (not (names_set c s)) _ _
      (λ t. same why.Stranger (λ e. cc))
      (λ f. by_test Says (not (is_above s v.set)) _ _
      (λ t. same why.Old (λ e. cc))
      (λ g. begin_says s (lead_after dur.own v.seen me.index)))
  order_says (Lead g) = same why.Stranger (λ e. cc)
  order_says (ChangeGrid g) = same why.Stranger (λ e. cc)
  order_says Collect = same why.Stranger (λ e. cc)
  order_says (Offer to s) = same why.Stranger (λ e. cc)

  -- a tick

  tick_says : (mode : Replacing) → v.mode ≡ mode → Says (tick_in c me dur v mode)
  tick_says Idle is =
      by_test Says (is_above v.set (first_set c)) _ _
      (λ t. says_else v v why.Resent None (sets_to_all c me v.set) (λ e. cc) (λ e. (e, refl)) (tells_no_boot v.set))
      (λ f. same why.Idle (λ e. cc))
  tick_says Stopping is = says_else v v why.Resent None (map (stop_a_to me dur.own) v.set) (λ e. cc) (λ e. (e, refl))
      (none_each (stop_a_to me dur.own) v.set (λ n t w es e. cc))
  tick_says Deciding is =
      says_else v v why.Resent None (map (next_a_to me dur.own v.next) v.set) (λ e. cc) (λ e. (e, refl))
      (none_each (next_a_to me dur.own v.next) v.set (λ n t w es e. cc))
  tick_says Booting is = asks_boot why.Resent v (inl is, refl) (λ e. (inl e, refl)) (λ e. cc)

  -- a matchmaker has stopped

  decide_says : (u : ReplacerVolatile) (es : List Entry) (s : List ℕ) → Says (decide me dur u es s)
  decide_says u es s =
      by_test Says (nat_lt 254 (length es)) _ _
      (λ t. says_nothing v (record u { mode = Idle }) why.Full (λ e. cc) (λ e. cc)) (λ f. says_else v _ why.Asking None
      (map (next_a_to me dur.own s) u.set) (λ e. cc) (λ e. cc) (none_each (next_a_to me dur.own s) u.set (λ n t w es e. cc)))

  halt_says : (u : ReplacerVolatile) → (u.mode ≡ v.mode) → (v.next ≡ u.next) → Says (halt_counted c me dur u)
  halt_says u mode next =
      by_test Says (nat_lt (length u.halts) (enough c)) _ _
      (λ t. says_nothing v u why.Counted (λ e. cc) (λ e. (sym mode ∙ e, next)))
      (λ k. decide_says u (joined_entries u.halts) (to_decide u.next u.halts))

  stop_b_says : (from : RoleId) (b w : Round) (es : List Entry) (a : Round) (s : List ℕ) → Says (stop_b_row c me dur v from b w es a s)
  stop_b_says from b w es a s =
      by_test Says (not (is_stopping v.mode && same_round b dur.own && is_in from.index v.set)) _ _
      (λ t. same why.Old (λ e. cc))
      (λ f. by_test Says (has_halted from.index v.halts) _ _
      (λ t. same why.Same (λ e. cc))
      (λ g. halt_says _ refl refl))

  -- a matchmaker has accepted

  next_b_says : (from : RoleId) (b : Round) → Says (next_b_row c me dur v from b)
  next_b_says from b =
      by_test Says (not (is_deciding v.mode && same_round b dur.own)) _ _
      (λ t. same why.Old (λ e. cc))
      (λ f. by_test Says (is_in from.index v.counted) _ _
      (λ t. same why.Same (λ e. cc))
      (λ g. by_test Says (nat_lt (length (with_mark from.index v.counted)) (enough c)) _ _
      (λ t. says_nothing v (record v { counted = with_mark from.index v.counted }) why.Counted (λ e. cc) (λ e. (e, refl))) (λ k. asks_boot
      why.Decided (record v { mode = Booting; counted = [] }) (inr refl, refl) (λ e. (inr refl, refl)) (λ e. (refl, refl, refl)))))

  -- a member of the next set has begun

  boot_b_says : (from : RoleId) (s : List ℕ) → Says (boot_b_row c me dur v from s)
  boot_b_says from s =
      by_test Says (not (is_booting v.mode && bytes_eq s v.next)) _ _
      (λ t. same why.Old (λ e. cc))
      (λ f. by_test Says (is_in from.index v.counted) _ _
      (λ t. same why.Same (λ e. cc))
      (λ g. by_test Says (nat_lt (length (with_mark from.index v.counted)) (enough c)) _ _
      (λ t. says_nothing v (record v { counted = with_mark from.index v.counted }) why.Counted (λ e. cc) (λ e. (e, refl))) (λ k. says_else v
      (record v { mode = Idle; set = v.next }) why.Replaced (known_record c dur v.next) (sets_to_all c me v.next) (λ e. cc) (λ e. cc)
      (tells_no_boot v.next))))

  -- a greater ballot, another set

  stop_nack_says : (b other : Round) → Says (stop_nack_row dur v b other)
  stop_nack_says b other =
      by_test Says (not (same_round b dur.own) || is_resting v.mode || is_booting v.mode) _ _
      (λ t. says_nothing v (with_seen other v) why.Old (λ e. cc) (λ e. (e, refl)))
      (λ f. says_nothing v (record (with_seen other v) { mode = Idle }) why.Nacked (λ e. cc) (λ e. cc))

  sets_says : (s : List ℕ) → Says (sets_row c dur v s)
  sets_says s =
      by_test Says (is_above s v.set) _ _
      (λ t. says_else v (record v { mode = Idle; set = s }) why.Learnt (known_record c dur s) [] (λ e. cc) (λ e. cc) (λ d m. absurd m))
      (λ f. same why.Old (λ e. cc))

  takes_says : (from : RoleId) (m : Msg) → Says (replacer_takes c me dur v from m)
  takes_says from (msg.StopB b w es a s) = stop_b_says from b w es a s
  takes_says from (msg.NextB b) = next_b_says from b
  takes_says from (msg.BootB s) = boot_b_says from s
  takes_says from (msg.StopNack b other) = stop_nack_says b other
  takes_says from (msg.Sets s) = sets_says s
  takes_says from other = same why.Stranger (λ e. cc)

  pub row_says : (i : Input) → Says (replacer_row c me dur v i)
  row_says (input.Take d) =
      by_test Says (same_role d.to me && names c d) _ _ (λ t. takes_says d.from d.msg) (λ f. same why.Stranger (λ e. cc))
  row_says input.Tick = tick_says v.mode refl
  row_says (input.Order order) = order_says order

-- the rows of a matchmaker

module _ (c : Cluster) (me : RoleId) (d : MatchmakerDurable) (m : Msg) where
  -- it begins in a set only where it is asked to
  abbrev WasAsked : Outcome (Unit {0}) → Type 0
  WasAsked o = (t : List ℕ) (w : Round) (es : List Entry) → o.kept ≡ Some (kept.Boot t w es) → msg.BootA t w es ≡ m

  in_set_asked : (o : Outcome (Unit {0})) → WasAsked o → WasAsked (in_set c me d o)
  in_set_asked o h = by_test WasAsked (is_booted c me d) _ _ (λ k. h) (λ k t w es e. cc)

  at_work_asked : (o : Outcome (Unit {0})) → WasAsked o → WasAsked (at_work c me d o)
  at_work_asked o h =
      in_set_asked (if is_stopped d then only_word why.Stopped tt else o) (by_test WasAsked (is_stopped d) _ _ (λ k t w es e. cc) (λ k. h))

  match_a_asked : (from : RoleId) (i : Round) (g : Shape) → WasAsked (match_a_row c me d from i g)
  match_a_asked from i g =
      by_test WasAsked (is_before i d.watermark) _ _
      (λ k t w es e. cc)
      (λ k. by_test WasAsked (list_any (λ (e : Entry). is_before i e.round) d.entries) _ _
      (λ k t w es e. cc)
      (λ k. by_test WasAsked (has_round i d.entries) _ _
      (λ k t w es e. cc)
      (λ k. by_test WasAsked (not (has_place c g d.entries)) _ _
      (λ k t w es e. cc)
      (λ k t w es e. cc))))

  garbage_a_asked : (from : RoleId) (i : Round) (g : Shape) → WasAsked (garbage_a_row me d from i g)
  garbage_a_asked from i g = by_test WasAsked (is_before d.watermark i) _ _ (λ k t w es e. cc) (λ k t w es e. cc)

  stop_a_asked : (from : RoleId) (b : Round) → WasAsked (stop_a_row me d from b)
  stop_a_asked from b =
      by_test WasAsked (is_before b d.ballot) _ _
      (λ k t w es e. cc)
      (λ k. by_test WasAsked (same_round b d.ballot) _ _ (λ k t w es e. cc) (λ k t w es e. cc))

  next_a_asked : (from : RoleId) (b : Round) (s : List ℕ) → WasAsked (next_a_row me d from b s)
  next_a_asked from b s =
      by_test WasAsked (is_before b d.ballot) _ _
      (λ k t w es e. cc)
      (λ k. by_test WasAsked (same_round b d.accepted) _ _ (λ k t w es e. cc) (λ k t w es e. cc))

  boot_a_asked : (from : RoleId) (s : List ℕ) (w : Round) (es : List Entry) → m ≡ msg.BootA s w es
      → WasAsked (boot_a_row c me d from s w es)
  boot_a_asked from s w es is = by_test WasAsked (is_in me.index s) _ _ (λ k. go (set_of c me d.booted)) (λ k t v xs e. cc)
    where
      begun : (t : List ℕ) (v : Round) (xs : List Entry) → kept.Boot s w es ≡ kept.Boot t v xs → msg.BootA t v xs ≡ msg.BootA s w es
      begun t v xs e = cc

      go : (o : Option (List ℕ)) → WasAsked (boot_in me from s w es o)
      go None = λ t v xs e. begun t v xs (same_Some (kept.Boot s w es) (kept.Boot t v xs) e) ∙ sym is
      go (Some u) = by_test WasAsked (bytes_eq s u) _ _ (λ k t v xs e. cc) (λ k t v xs e. cc)

pub boot_asked : (c : Cluster) (me : RoleId) (d : MatchmakerDurable) (from : RoleId) (m : Msg)
    → WasAsked c me d m (matchmaker_takes c me d from m)
boot_asked c me d from (msg.MatchA i g) =
    at_work_asked c me d (msg.MatchA i g) (match_a_row c me d from i g) (match_a_asked c me d (msg.MatchA i g) from i g)
boot_asked c me d from (msg.GarbageA i g) =
    at_work_asked c me d (msg.GarbageA i g) (garbage_a_row me d from i g) (garbage_a_asked c me d (msg.GarbageA i g) from i g)
boot_asked c me d from (msg.MatchRead u) = at_work_asked c me d (msg.MatchRead u) (match_read_row me d from u) (λ t w es e. cc)
boot_asked c me d from (msg.StopA b) = in_set_asked c me d (msg.StopA b) (stop_a_row me d from b) (stop_a_asked c me d (msg.StopA b) from b)
boot_asked c me d from (msg.NextA b s) =
    in_set_asked c me d (msg.NextA b s) (next_a_row me d from b s) (next_a_asked c me d (msg.NextA b s) from b s)
boot_asked c me d from (msg.BootA s w es) = boot_a_asked c me d (msg.BootA s w es) from s w es refl
boot_asked c me d from other = λ t w es e. cc
