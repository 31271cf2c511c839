-- Which kinds of datagrams and records a leader and a replacer send and keep.
use Rattle.cx_model.specs.Prelude.{◌≡◌, ℕ, List, [], ◌∷◌, ◌++◌, map, Option, None, Some, refl, not, ◌&&◌, ◌||◌, nat_lt, nat_le}
use Rattle.cx_model.specs.Prelude.{length, bytes_eq, slice_index_or, is_above, Cluster, Command, Placed, Lead, Collect, Replace, RoleId}
use Rattle.cx_model.specs.Prelude.{Round, Shape, is_in, below, same_role, role, same_round, lead_after, change_after, Entry, with_mark}
use Rattle.cx_model.specs.Prelude.{letter, Input, Take, Tick, Order, Msg, Collection, with_informed, is_off, is_informing, is_collecting}
use Rattle.cx_model.specs.Prelude.{LeaderDurable, LeaderVolatile, is_idle, is_matching, is_promising, is_leading, is_own, round_of}
use Rattle.cx_model.specs.Prelude.{match_a_to, phase1a_to, leads_to, propose_to, inform_to, garbage_a_to, begin_in, lead_with, is_changed}
use Rattle.cx_model.specs.Prelude.{matched_by, match_counted, promise_counted, is_past_window, propose_in, is_settled, collect_in}
use Rattle.cx_model.specs.Prelude.{informed_in, set_learnt, leader_takes, open_values, stage_sends, tick_in, order_row, leader_row}
use Rattle.cx_model.specs.Prelude.{has_no_room, first_set, is_counted, live_entries, is_member_of, members_of, members_in, rows_whole}
use Rattle.cx_model.specs.Prelude.{enough, names, names_grid, names_set, promised_by, has_promised, plan, placed_from, ReplacerDurable}
use Rattle.cx_model.specs.Prelude.{ReplacerVolatile, is_resting, is_stopping, is_deciding, is_booting, has_halted, joined_entries}
use Rattle.cx_model.specs.Prelude.{to_decide, stop_a_to, next_a_to, boot_a_to, sets_to, others, sets_to_all, halt_counted, replacer_takes}
use Rattle.cx_model.specs.Prelude.{replacer_orders, replacer_row}
use Rattle.cx_base.specs.declared.event.Order.{Order as OrderOf}
use Rattle.cx_base.specs.declared.event.Order.TheVariants.{Change, Offer}
use Rattle.cx_base.specs.declared.role.Kind.TheVariants as kind
use Rattle.cx_letter.specs.declared.kept.Record.TheVariants as kept
use Rattle.cx_letter.specs.declared.message.Msg.TheVariants as msg
use Rattle.cx_model.specs.declared.states.Mode.{Mode}
use Rattle.cx_model.specs.declared.states.Mode.TheVariants.{Idle, Matching, Phase1, Leading}
use Rattle.cx_model.specs.declared.states.Plan.{Plan}
use Rattle.cx_model.specs.declared.states.Replacing.{Replacing}
use Rattle.cx_model.specs.declared.states.Replacing.TheVariants as replacing
use Rattle.cx_model.specs.Outcome.{either_way}
use Rattle.cx_model.specs.Replacer.{begin_in as ballot_begun, known_record, known_set, tick_in as replacer_tick}
use Rattle.cx_inv_run.specs.Kinds.{IsKept, OfKind}
use Rattle.cx_inv_run.proofs.Senders.{AreOwn, none, one, both, mapped, quiet, replying, keeping, pick}

-- the leader's rows
module _ (c : Cluster) (me : RoleId) (is : me.kind ≡ kind.Leader) (d : LeaderDurable) where
  asking_matchmakers : (i : Round) (g : Shape) (set : List ℕ) → AreOwn me (map (match_a_to me i g) set)
  asking_matchmakers i g set = mapped me (match_a_to me i g) set (λ m. (refl, is))

  proposing : (own : Entry) (cw : ℕ) (ps : List Placed) → AreOwn me (map (propose_to c me own cw) ps)
  proposing own cw ps = mapped me (propose_to c me own cw) ps (λ p. (refl, is))

  leading : (i : Round) → AreOwn me (map (leads_to me i) (below c.batchers))
  leading i = mapped me (leads_to me i) (below c.batchers) (λ b. (refl, is))

  informing : (i : Round) (cw : ℕ) (g : Shape) → AreOwn me (map (inform_to me i cw) (members_in c g))
  informing i cw g = mapped me (inform_to me i cw) (members_in c g) (λ a. (refl, is))

  collecting : (own : Entry) (set : List ℕ) → AreOwn me (map (garbage_a_to me own) set)
  collecting own set = mapped me (garbage_a_to me own) set (λ m. (refl, is))

  promising : (i : Round) (es : List Entry) → AreOwn me (map (phase1a_to me i) (members_of c es))
  promising i es = mapped me (phase1a_to me i) (members_of c es) (λ a. (refl, is))

  begun : (v : LeaderVolatile) (g : Shape) (o : Option Round) → OfKind me (begin_in c me v g o)
  begun v g None = quiet me _ v
  begun v g (Some i) = keeping me _ _ _ _ is (asking_matchmakers i g v.set)

  led : (own : Entry) (v : LeaderVolatile) (p : Plan) → OfKind me (lead_with c me own v p)
  led own v p =
      replying me _ _ _
      (both me (map (propose_to c me own p.cw) (placed_from p.cw p.values)) (map (leads_to me own.round) (below c.batchers))
      (proposing own p.cw (placed_from p.cw p.values)) (leading own.round))

  matched : (own : Entry) (v : LeaderVolatile) (es : List Entry) → OfKind me (matched_by c me own v es)
  matched own v [] = led own v (plan v.cw v.promises)
  matched own v (e ∷ es) = replying me _ _ _ (promising own.round (e ∷ es))

  answers_counted : (o : Option Entry) (v : LeaderVolatile) → OfKind me (match_counted c me o v)
  answers_counted None v = quiet me _ v
  answers_counted (Some own) v =
      pick me (nat_lt (length v.told) (enough c)) _ _ (quiet me _ v)
      (pick me (is_changed own.round) _ _
      (replying me _ _ _ (both me (map (propose_to c me own v.cw) v.proposed) (map (leads_to me own.round) (below c.batchers))
      (proposing own v.cw v.proposed) (leading own.round))) (matched own v (live_entries v.told)))

  promises_counted : (o : Option Entry) (v : LeaderVolatile) → OfKind me (promise_counted c me o v)
  promises_counted None v = quiet me _ v
  promises_counted (Some own) v =
      pick me (rows_whole (live_entries v.told) (promised_by v.promises)) _ _ (led own v (plan v.cw v.promises)) (quiet me _ v)

  proposed : (v : LeaderVolatile) (commands : List Command) (o : Option Entry) → OfKind me (propose_in c me v commands o)
  proposed v commands None = quiet me _ v
  proposed v commands (Some own) = pick me (is_past_window v) _ _ (quiet me _ v) (replying me _ _ _ (one me _ _ is))

  collection_begun : (v : LeaderVolatile) (o : Option Entry) → OfKind me (collect_in c me v o)
  collection_begun v None = quiet me _ v
  collection_begun v (Some own) =
      pick me (not (is_off v.collection.stage)) _ _ (quiet me _ v)
      (pick me (not (is_settled v)) _ _ (quiet me _ v) (replying me _ _ _ (informing own.round v.cw own.grid)))

  informed : (v : LeaderVolatile) (from : RoleId) (o : Option Entry) → OfKind me (informed_in c me v from o)
  informed v from None = quiet me _ v
  informed v from (Some own) =
      let k = with_informed own.grid from.index v.collection in
      pick me (not (is_in from.index own.grid.members)) _ _ (quiet me _ v)
      (pick me (is_in from.index v.collection.counted) _ _ (quiet me _ v)
      (pick me (is_collecting k.stage) _ _ (replying me _ _ _ (collecting own v.set)) (quiet me _ _)))

  learnt : (v : LeaderVolatile) (mode : Mode) (o : Option Entry) → OfKind me (set_learnt me v mode o)
  learnt v Idle o = quiet me _ v
  learnt v Phase1 o = quiet me _ v
  learnt v Matching None = quiet me _ v
  learnt v Matching (Some own) = replying me _ _ _ (asking_matchmakers own.round own.grid v.set)
  learnt v Leading None = quiet me _ v
  learnt v Leading (Some own) = pick me (is_collecting v.collection.stage) _ _ (replying me _ _ _ (collecting own v.set)) (quiet me _ v)

  leader_took : (v : LeaderVolatile) (from : RoleId) (m : Msg) → OfKind me (leader_takes c me d v from m)
  leader_took v from (msg.MatchB i w es) =
      pick me (not (is_matching v.mode && is_own d i && is_in from.index v.set)) _ _ (quiet me _ v)
      (pick me (is_counted from.index v.told) _ _ (quiet me _ v)
      (answers_counted d.own (record v { told = v.told ++ record { matchmaker = from.index; watermark = w; entries = es } ∷ [] })))
  leader_took v from (msg.MatchNack i reason other) = pick me (is_idle v.mode || not (is_own d i) || not (is_in from.index v.set))
      _ _ (quiet me _ _) (pick me (has_no_room reason) _ _ (quiet me _ _) (quiet me _ _))
  leader_took v from (msg.Phase1B i cw votes) =
      pick me (not (is_promising v.mode && is_own d i)) _ _ (quiet me _ v)
      (pick me (not (is_member_of (live_entries v.told) from.index)) _ _ (quiet me _ v)
      (pick me (has_promised from.index v.promises) _ _ (quiet me _ v)
      (promises_counted d.own (record v { promises = v.promises ++ record { acceptor = from.index; cw = cw; votes = votes } ∷ [] }))))
  leader_took v from (msg.Nack i promise) = pick me (is_idle v.mode || not (is_own d i)) _ _ (quiet me _ _) (quiet me _ _)
  leader_took v from (msg.Batch commands) = pick me (is_leading v.mode) _ _ (proposed v commands d.own) (quiet me _ v)
  leader_took v from (msg.ChosenIn i s) =
      pick me (not (is_leading v.mode && is_own d i)) _ _ (quiet me _ v)
      (pick me (nat_lt s v.cw) _ _ (quiet me _ v)
      (pick me (nat_le v.next s) _ _ (quiet me _ v) (pick me (is_in s v.chosen) _ _ (quiet me _ v) (quiet me _ _))))
  leader_took v from (msg.Held n) = pick me (nat_le n (slice_index_or v.held from.index 0)) _ _ (quiet me _ v) (quiet me _ _)
  leader_took v from (msg.Informed i cw) =
      pick me (not (is_leading v.mode && is_own d i && is_informing v.collection.stage && nat_le v.collection.mark cw)) _ _ (quiet me _ v)
      (informed v from d.own)
  leader_took v from (msg.GarbageB i) =
      pick me (not (is_leading v.mode && is_own d i && is_collecting v.collection.stage && is_in from.index v.set)) _ _ (quiet me _ v)
      (pick me (is_in from.index v.collection.counted) _ _ (quiet me _ v) (quiet me _ _))
  leader_took v from (msg.Sets s) = pick me (is_above s v.set) _ _ (learnt (record v { set = s }) v.mode d.own) (quiet me _ v)
  leader_took v from other = quiet me _ v

  stage_all : (own : Entry) (set : List ℕ) (k : Collection) → AreOwn me (stage_sends c me own set k)
  stage_all own set k =
      either_way (AreOwn me) (is_informing k.stage) _ _ (informing own.round k.mark own.grid)
      (either_way (AreOwn me) (is_collecting k.stage) _ _ (collecting own set) (none me))

  leader_ticked : (v : LeaderVolatile) (mode : Mode) (o : Option Entry) → OfKind me (tick_in c me v mode o)
  leader_ticked v mode None = quiet me _ v
  leader_ticked v Idle (Some own) = quiet me _ v
  leader_ticked v Matching (Some own) = replying me _ v _ (asking_matchmakers own.round own.grid v.set)
  leader_ticked v Phase1 (Some own) = replying me _ v _ (promising own.round (live_entries v.told))
  leader_ticked v Leading (Some own) =
      replying me _ v _ (both me (map (propose_to c me own v.cw) (open_values v) ++ map (leads_to me own.round) (below c.batchers))
      (stage_sends c me own v.set v.collection)
      (both me (map (propose_to c me own v.cw) (open_values v)) (map (leads_to me own.round) (below c.batchers))
      (proposing own v.cw (open_values v)) (leading own.round)) (stage_all own v.set v.collection))

  ordered : (v : LeaderVolatile) (order : OrderOf) → OfKind me (order_row c me d v order)
  ordered v (Lead g) = pick me (names_grid c g) _ _ (begun v g (lead_after (round_of d.own) v.seen me.index)) (quiet me _ v)
  ordered v (Change g) =
      pick me (not (names_grid c g)) _ _ (quiet me _ v)
      (pick me (not (is_leading v.mode)) _ _ (quiet me _ v) (begun v g (change_after (round_of d.own))))
  ordered v Collect = pick me (is_leading v.mode) _ _ (collection_begun v d.own) (quiet me _ v)
  ordered v (Replace s) = quiet me _ v
  ordered v (Offer to s) = quiet me _ v

  pub leader_kinds : (v : LeaderVolatile) (i : Input) → OfKind me (leader_row c me d v i)
  leader_kinds v (Take letter) =
      pick me (same_role letter.to me && names c letter) _ _ (leader_took v letter.from letter.msg) (quiet me _ v)
  leader_kinds v Tick = leader_ticked v v.mode d.own
  leader_kinds v (Order order) = ordered v order

-- the replacer's rows
module _ (c : Cluster) (me : RoleId) (is : me.kind ≡ kind.Replacer) (d : ReplacerDurable) where
  stopping : (b : Round) (set : List ℕ) → AreOwn me (map (stop_a_to me b) set)
  stopping b set = mapped me (stop_a_to me b) set (λ m. (refl, is))

  deciding : (b : Round) (s set : List ℕ) → AreOwn me (map (next_a_to me b s) set)
  deciding b s set = mapped me (next_a_to me b s) set (λ m. (refl, is))

  booting : (s : List ℕ) (w : Round) (es : List Entry) (set : List ℕ) → AreOwn me (map (boot_a_to me s w es) set)
  booting s w es set = mapped me (boot_a_to me s w es) set (λ m. (refl, is))

  telling : (s : List ℕ) → AreOwn me (sets_to_all c me s)
  telling s = both me
      (map (λ l. sets_to me s (role kind.Leader l)) (below c.leaders) ++ map (λ r. sets_to me s (role kind.Reader r)) (below c.readers)) _
      (both me (map (λ l. sets_to me s (role kind.Leader l)) (below c.leaders)) _
      (mapped me (λ l. sets_to me s (role kind.Leader l)) (below c.leaders) (λ l. (refl, is)))
      (mapped me (λ r. sets_to me s (role kind.Reader r)) (below c.readers) (λ r. (refl, is))))
      (mapped me (λ x. sets_to me s (role kind.Replacer x)) (others c me) (λ x. (refl, is)))

  halts_counted : (v : ReplacerVolatile) → OfKind me (halt_counted c me d v)
  halts_counted v =
      pick me (nat_lt (length v.halts) (enough c)) _ _ (quiet me _ v) (pick me (nat_lt 254 (length (joined_entries v.halts)))
      _ _ (quiet me _ _) (replying me _ _ _ (deciding d.own (to_decide v.next v.halts) v.set)))

  known_kept : (s : List ℕ) → IsKept me.kind (known_record c d s)
  known_kept s =
      either_way (IsKept me.kind) (c.keep_sets && is_above s (known_set c d)) (Some (kept.Known s)) None is tt

  replacer_took : (v : ReplacerVolatile) (from : RoleId) (m : Msg) → OfKind me (replacer_takes c me d v from m)
  replacer_took v from (msg.StopB b w es a s) =
      pick me (not (is_stopping v.mode && same_round b d.own && is_in from.index v.set)) _ _ (quiet me _ v)
      (pick me (has_halted from.index v.halts) _ _ (quiet me _ v) (halts_counted _))
  replacer_took v from (msg.NextB b) =
      pick me (not (is_deciding v.mode && same_round b d.own)) _ _ (quiet me _ v)
      (pick me (is_in from.index v.counted) _ _ (quiet me _ v) (pick me (nat_lt (length (with_mark from.index v.counted)) (enough c))
      _ _ (quiet me _ _) (replying me _ _ _ (booting v.next v.watermark v.entries v.next))))
  replacer_took v from (msg.BootB s) =
      pick me (not (is_booting v.mode && bytes_eq s v.next)) _ _ (quiet me _ v)
      (pick me (is_in from.index v.counted) _ _ (quiet me _ v)
      (pick me (nat_lt (length (with_mark from.index v.counted)) (enough c)) _ _ (quiet me _ _)
      (record { sends = telling v.next; keeps = known_kept v.next })))
  replacer_took v from (msg.StopNack b other) =
      pick me (not (same_round b d.own) || is_resting v.mode || is_booting v.mode) _ _ (quiet me _ _) (quiet me _ _)
  replacer_took v from (msg.Sets s) =
      pick me (is_above s v.set) _ _ (record { sends = none me; keeps = known_kept s }) (quiet me _ v)
  replacer_took v from other = quiet me _ v

  replacer_ticked : (v : ReplacerVolatile) (mode : Replacing) → OfKind me (replacer_tick c me d v mode)
  replacer_ticked v replacing.Idle = pick me (is_above v.set (first_set c)) _ _ (replying me _ v _ (telling v.set)) (quiet me _ v)
  replacer_ticked v replacing.Stopping = replying me _ v _ (stopping d.own v.set)
  replacer_ticked v replacing.Deciding = replying me _ v _ (deciding d.own v.next v.set)
  replacer_ticked v replacing.Booting = replying me _ v _ (booting v.next v.watermark v.entries v.next)

  ballot : (v : ReplacerVolatile) (s : List ℕ) (o : Option Round) → OfKind me (ballot_begun me v s o)
  ballot v s None = quiet me _ v
  ballot v s (Some b) = keeping me _ _ _ _ is (stopping b v.set)

  replacer_ordered : (v : ReplacerVolatile) (order : OrderOf) → OfKind me (replacer_orders c me d v order)
  replacer_ordered v (Replace s) =
      pick me (not (names_set c s)) _ _ (quiet me _ v)
      (pick me (not (is_above s v.set)) _ _ (quiet me _ v) (ballot v s (lead_after d.own v.seen me.index)))
  replacer_ordered v (Lead g) = quiet me _ v
  replacer_ordered v (Change g) = quiet me _ v
  replacer_ordered v Collect = quiet me _ v
  replacer_ordered v (Offer to s) = quiet me _ v

  pub replacer_kinds : (v : ReplacerVolatile) (i : Input) → OfKind me (replacer_row c me d v i)
  replacer_kinds v (Take letter) =
      pick me (same_role letter.to me && names c letter) _ _ (replacer_took v letter.from letter.msg) (quiet me _ v)
  replacer_kinds v Tick = replacer_ticked v v.mode
  replacer_kinds v (Order order) = replacer_ordered v order
