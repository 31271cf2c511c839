-- Each grid that a matchmaker recorded comes from an order to a leader.
use Rattle.cx_inv_run.proofs.Common.{◌≡◌, ◌⊎◌, ◌∙◌, sym, subst, ap, inl, inr, refl, List, [], ◌∷◌, ◌++◌, reverse, append-nil, append_assoc}
use Rattle.cx_inv_run.proofs.Common.{◌&&◌, ◌||◌, not, nat_lt, nat_le, length, map, slice_get, slice_index_or, Option, None, Some}
use Rattle.cx_inv_run.proofs.Common.{option_map}
use Rattle.cx_inv_run.proofs.Common.{Cluster, Lead, Collect, Replace, Offer, RoleId, Round, Shape, Kind, Why, Cut, Whole, Torn, Kept}
use Rattle.cx_inv_run.proofs.Common.{Event}
use Rattle.cx_inv_run.proofs.Common.{Command, Entry, Token, Letter, Act, Give, Snap, Stop, Wake, Input, Take, Tick, Order, Record}
use Rattle.cx_inv_run.proofs.Common.{Written, Msg}
use Rattle.cx_inv_run.proofs.Common.{KeptRecord, Member, Member-cases, Member-first, Member-second, Member-turned, IsConfig, IsKeeper}
use Rattle.cx_inv_run.proofs.Common.{kinds_are_so, Outcome, either_way, only_word, replied, LeaderDurable, LeaderVolatile}
use Rattle.cx_inv_run.proofs.Common.{leader_rules, leader_row, leader_takes, leader_volatile, begin_in, lead_with, lead_after, change_after}
use Rattle.cx_inv_run.proofs.Common.{matched_by, match_counted, promise_counted, propose_in, collect_in, informed_in, set_learnt, tick_in}
use Rattle.cx_inv_run.proofs.Common.{order_row, round_of, is_matching, is_own, is_in, is_counted, is_idle, has_no_room, is_promising}
use Rattle.cx_inv_run.proofs.Common.{is_member_of, live_entries, has_promised, is_leading, is_informing, is_collecting, is_above, is_off}
use Rattle.cx_inv_run.proofs.Common.{is_settled, is_changed, is_past_window, enough, rows_whole, promised_by, plan, with_informed, names}
use Rattle.cx_inv_run.proofs.Common.{names_grid, same_role, Mode, Idle, Matching, Phase1, Leading, Plan, State, LeaderIn, Turn, turn}
use Rattle.cx_inv_run.proofs.Common.{turn_with}
use Rattle.cx_inv_run.proofs.Common.{whole_turn, cut_turn, snap_turn, still, names_role, World, nothing, changed, act_of, act_at, come, ask}
use Rattle.cx_inv_run.proofs.Common.{change, durable_part, kept_by, is_stale, request, heard_by, role, run, run_append, run_cluster}
use Rattle.cx_inv_run.proofs.Common.{durable_by_time, matchmaker_rules, first_set, IsGrid, HasRound}
use Rattle.cx_base.specs.declared.event.Event.TheVariants as event
use Rattle.cx_base.specs.declared.event.Order.{Order as OrderOf}
use Rattle.cx_base.specs.declared.event.Order.TheVariants as order
use Rattle.cx_base.specs.declared.role.Kind.TheVariants as kind
use Rattle.cx_base.specs.declared.why.Why.TheVariants as why
use Rattle.cx_letter.specs.declared.input.Input.TheVariants as input
use Rattle.cx_letter.specs.declared.input.Written.TheVariants as written
use Rattle.cx_letter.specs.declared.kept.Record.TheVariants as kept
use Rattle.cx_letter.specs.declared.message.Msg.TheVariants as msg
use Rattle.cx_model.specs.World.{Change, step}
use Rattle.cx_inv_run.specs.Kinds.{IsWriter}
use Rattle.cx_inv_match.specs.Prelude.{Facts}
use Rattle.cx_inv_vote.proofs.Steps.{facts_hold}
use Rattle.cx_inv_alive.specs.Alive.{GridsComeFromOrders, HasGrids, OrdersHaveGrids, grid_in, matchmaker_store, ordered_grid}

nothing_kept : {A B : Type 0} {x : B} → ◌≡◌ {A = Option B} None (Some x) → A
nothing_kept e = absurd cc

-- what a leader's row keeps is a round with this grid, if it keeps one
abbrev Says : Option Shape → Outcome LeaderVolatile → Type 0
Says x o = (i : Round) (g : Shape) → o.kept ≡ Some (kept.Round i g) → x ≡ Some g

-- the grid in an input, in an act
abbrev input_grid : Input → Option Shape
input_grid (Take d) = None
input_grid Tick = None
input_grid (Order o) = grid_in o

abbrev act_grid : Act → Option Shape
act_grid (Give i cut) = input_grid i
act_grid other = None

module _ (c : Cluster) (me : RoleId) (d : LeaderDurable) where
  begun : (v : LeaderVolatile) (g : Shape) (o : Option Round) → Says (Some g) (begin_in c me v g o)
  begun v g None = λ i h e. nothing_kept e
  begun v g (Some j) = λ i h e. cc

  matched : (own : Entry) (v : LeaderVolatile) (es : List Entry) → Says None (matched_by c me own v es)
  matched own v [] = λ i g e. nothing_kept e
  matched own v (x ∷ es) = λ i g e. nothing_kept e

  answers_counted : (o : Option Entry) (v : LeaderVolatile) → Says None (match_counted c me o v)
  answers_counted None v = λ i g e. nothing_kept e
  answers_counted (Some own) v =
      either_way (Says None) (nat_lt (length v.told) (enough c)) _ _ (λ i g e. nothing_kept e)
      (either_way (Says None) (is_changed own.round) _ _ (λ i g e. nothing_kept e) (matched own v (live_entries v.told)))

  promises_counted : (o : Option Entry) (v : LeaderVolatile) → Says None (promise_counted c me o v)
  promises_counted None v = λ i g e. nothing_kept e
  promises_counted (Some own) v =
      either_way (Says None) (rows_whole (live_entries v.told) (promised_by v.promises)) _ _
      (λ i g e. nothing_kept e) (λ i g e. nothing_kept e)

  proposed : (v : LeaderVolatile) (commands : List Command) (o : Option Entry) → Says None (propose_in c me v commands o)
  proposed v commands None = λ i g e. nothing_kept e
  proposed v commands (Some own) =
      either_way (Says None) (is_past_window v) _ _ (λ i g e. nothing_kept e) (λ i g e. nothing_kept e)

  collection_begun : (v : LeaderVolatile) (o : Option Entry) → Says None (collect_in c me v o)
  collection_begun v None = λ i g e. nothing_kept e
  collection_begun v (Some own) =
      either_way (Says None) (not (is_off v.collection.stage)) _ _ (λ i g e. nothing_kept e)
      (either_way (Says None) (not (is_settled v)) _ _ (λ i g e. nothing_kept e) (λ i g e. nothing_kept e))

  informed : (v : LeaderVolatile) (from : RoleId) (o : Option Entry) → Says None (informed_in c me v from o)
  informed v from None = λ i g e. nothing_kept e
  informed v from (Some own) =
      let k = with_informed own.grid from.index v.collection in
      either_way (Says None) (not (is_in from.index own.grid.members)) _ _ (λ i g e. nothing_kept e)
      (either_way (Says None) (is_in from.index v.collection.counted) _ _ (λ i g e. nothing_kept e)
      (either_way (Says None) (is_collecting k.stage) _ _ (λ i g e. nothing_kept e) (λ i g e. nothing_kept e)))

  learnt : (v : LeaderVolatile) (mode : Mode) (o : Option Entry) → Says None (set_learnt me v mode o)
  learnt v Idle o = λ i g e. nothing_kept e
  learnt v Phase1 o = λ i g e. nothing_kept e
  learnt v Matching None = λ i g e. nothing_kept e
  learnt v Matching (Some own) = λ i g e. nothing_kept e
  learnt v Leading None = λ i g e. nothing_kept e
  learnt v Leading (Some own) =
      either_way (Says None) (is_collecting v.collection.stage) _ _ (λ i g e. nothing_kept e) (λ i g e. nothing_kept e)

  took : (v : LeaderVolatile) (from : RoleId) (m : Msg) → Says None (leader_takes c me d v from m)
  took v from (msg.MatchB i w es) =
      either_way (Says None) (not (is_matching v.mode && is_own d i && is_in from.index v.set)) _ _ (λ j g e. nothing_kept e)
      (either_way (Says None) (is_counted from.index v.told) _ _ (λ j g e. nothing_kept e)
      (answers_counted d.own (record v { told = v.told ++ record { matchmaker = from.index; watermark = w; entries = es } ∷ [] })))
  took v from (msg.MatchNack i reason other) =
      either_way (Says None) (is_idle v.mode || not (is_own d i) || not (is_in from.index v.set)) _ _ (λ j g e. nothing_kept e)
      (either_way (Says None) (has_no_room reason) _ _ (λ j g e. nothing_kept e) (λ j g e. nothing_kept e))
  took v from (msg.Phase1B i cw votes) =
      either_way (Says None) (not (is_promising v.mode && is_own d i)) _ _ (λ j g e. nothing_kept e)
      (either_way (Says None) (not (is_member_of (live_entries v.told) from.index)) _ _ (λ j g e. nothing_kept e)
      (either_way (Says None) (has_promised from.index v.promises) _ _ (λ j g e. nothing_kept e)
      (promises_counted d.own (record v { promises = v.promises ++ record { acceptor = from.index; cw = cw; votes = votes } ∷ [] }))))
  took v from (msg.Nack i promise) =
      either_way (Says None) (is_idle v.mode || not (is_own d i)) _ _ (λ j g e. nothing_kept e) (λ j g e. nothing_kept e)
  took v from (msg.Batch commands) =
      either_way (Says None) (is_leading v.mode) _ _ (proposed v commands d.own) (λ j g e. nothing_kept e)
  took v from (msg.ChosenIn i s) =
      either_way (Says None) (not (is_leading v.mode && is_own d i)) _ _ (λ j g e. nothing_kept e)
      (either_way (Says None) (nat_lt s v.cw) _ _ (λ j g e. nothing_kept e)
      (either_way (Says None) (nat_le v.next s) _ _ (λ j g e. nothing_kept e)
      (either_way (Says None) (is_in s v.chosen) _ _ (λ j g e. nothing_kept e) (λ j g e. nothing_kept e))))
  took v from (msg.Held n) =
      either_way (Says None) (nat_le n (slice_index_or v.held from.index 0)) _ _ (λ j g e. nothing_kept e) (λ j g e. nothing_kept e)
  took v from (msg.Informed i cw) =
      either_way (Says None) (not (is_leading v.mode && is_own d i && is_informing v.collection.stage && nat_le v.collection.mark cw)) _ _
      (λ j g e. nothing_kept e) (informed v from d.own)
  took v from (msg.GarbageB i) =
      either_way (Says None)
      (not (is_leading v.mode && is_own d i && is_collecting v.collection.stage && is_in from.index v.set)) _ _ (λ j g e. nothing_kept e)
      (either_way (Says None) (is_in from.index v.collection.counted) _ _ (λ j g e. nothing_kept e) (λ j g e. nothing_kept e))
  took v from (msg.Sets s) =
      either_way (Says None) (is_above s v.set) _ _ (learnt (record v { set = s }) v.mode d.own) (λ j g e. nothing_kept e)
  took v from other = λ j g e. nothing_kept e

  ticked : (v : LeaderVolatile) (mode : Mode) (o : Option Entry) → Says None (tick_in c me v mode o)
  ticked v mode None = λ i g e. nothing_kept e
  ticked v Idle (Some own) = λ i g e. nothing_kept e
  ticked v Matching (Some own) = λ i g e. nothing_kept e
  ticked v Phase1 (Some own) = λ i g e. nothing_kept e
  ticked v Leading (Some own) = λ i g e. nothing_kept e

  given_order : (v : LeaderVolatile) (o : OrderOf) → Says (grid_in o) (order_row c me d v o)
  given_order v (Lead g) =
      either_way (Says (Some g)) (names_grid c g) _ _ (begun v g (lead_after (round_of d.own) v.seen me.index))
      (λ i h e. nothing_kept e)
  given_order v (order.Change g) =
      either_way (Says (Some g)) (not (names_grid c g)) _ _ (λ i h e. nothing_kept e)
      (either_way (Says (Some g)) (not (is_leading v.mode)) _ _ (λ i h e. nothing_kept e) (begun v g (change_after (round_of d.own))))
  given_order v Collect =
      either_way (Says None) (is_leading v.mode) _ _ (collection_begun v d.own) (λ i h e. nothing_kept e)
  given_order v (Replace s) = λ i h e. nothing_kept e
  given_order v (Offer to s) = λ i h e. nothing_kept e

  row_says : (v : LeaderVolatile) (i : Input) → Says (input_grid i) (leader_row c me d v i)
  row_says v (Take letter) =
      either_way (Says None) (same_role letter.to me && names c letter) _ _ (took v letter.from letter.msg) (λ i g e. nothing_kept e)
  row_says v Tick = ticked v v.mode d.own
  row_says v (Order o) = given_order v o

  -- a turn of a leader
  abbrev TurnSays : Option Shape → Turn LeaderVolatile → Type 0
  TurnSays x t = (i : Round) (g : Shape) → t.kept ≡ Some (written.Record (kept.Round i g)) → x ≡ Some g

  unwritten : (o : Option Record) (r : Record) → option_map written.Record o ≡ Some (written.Record r) → o ≡ Some r
  unwritten None r e = nothing_kept e
  unwritten (Some q) r e = cc

  cut_says : (x : Option Shape) (cut : Cut) (o : Outcome LeaderVolatile) (r : Option Record) → o.kept ≡ r → Says x o
      → TurnSays x (turn_with cut r o)
  cut_says x cut o None same says = λ i g e. says i g (unwritten o.kept (kept.Round i g) e)
  cut_says x Whole o (Some r) same says = λ i g e. says i g (unwritten o.kept (kept.Round i g) e)
  cut_says x Torn o (Some r) same says = λ i g e. nothing_kept e
  cut_says x Kept o (Some r) same says = λ i g e. says i g (same ∙ unwritten (Some r) (kept.Round i g) e)

  turn_says : (act : Act) (running : Option LeaderVolatile) → TurnSays (act_grid act) (turn leader_rules c me d act running)
  turn_says (Give i cut) None = λ j g e. nothing_kept e
  turn_says (Give i cut) (Some v) = cut_says (input_grid i) cut (leader_row c me d v i) (leader_row c me d v i).kept refl (row_says v i)
  turn_says (Snap cut) None = λ j g e. nothing_kept e
  turn_says (Snap cut) (Some v) = λ j g e. nothing_kept e
  turn_says Stop None = λ j g e. nothing_kept e
  turn_says Stop (Some v) = λ j g e. nothing_kept e
  turn_says Wake None =
      either_way (TurnSays None) (names_role c me) (still (Some (leader_rules.fresh c d)) why.Opened) (still None why.Down)
      (λ j g e. nothing_kept e) (λ j g e. nothing_kept e)
  turn_says Wake (Some v) = λ j g e. nothing_kept e

-- what is kept at a leader is a round with this grid, if one is kept
abbrev KeptSays : Option Shape → List KeptRecord → Type 0
KeptSays x ks =
    (k : KeptRecord) (i : Round) (g : Shape) → Member k ks → k.what ≡ written.Record (kept.Round i g) → k.role.kind ≡ kind.Leader
    → x ≡ Some g

abbrev ChangeSays : Option Shape → Change → Type 0
ChangeSays x ch = KeptSays x ch.kept

kept_own : (me : RoleId) (o : Option Written) (k : KeptRecord) → Member k (kept_by me o) → (k.role ≡ me) × (o ≡ Some k.what)
kept_own me None k m = absurd m
kept_own me (Some w) k (inl e) = (ap (λ (x : KeptRecord). x.role) e, ap (λ (x : KeptRecord). Some x.what) (sym e))
kept_own me (Some w) k (inr m) = absurd m

-- no other role keeps a leader's record
no_leader : (x : Option Shape) (a : RoleId) (k : Kind) → a.kind ≡ k → (k ≡ kind.Leader → ⊥) → (o : Option Written)
    → KeptSays x (kept_by a o)
no_leader x a k is other o = λ y i g m e l.
    absurd (other (sym is ∙ ap (λ (z : RoleId). z.kind) (sym (kept_own a o y m).0) ∙ l))

module _ (c : Cluster) (roles : RoleId → State) (history : List KeptRecord) where
  act_says : (act : Act) (a : RoleId) (k : Kind) → a.kind ≡ k → ChangeSays (act_grid act) (act_of c roles history act a k)
  act_says act a kind.Client is = λ y i g m e l. absurd m
  act_says act a kind.Leader is = λ y i g m e l.
      let p = kept_own a _ y m in
      turn_says c a (durable_part leader_rules a history) act (leader_volatile (roles a)) i g (p.1 ∙ ap (λ (w : Written). Some w) e)
  act_says act a kind.Batcher is = no_leader (act_grid act) a kind.Batcher is (λ p. cc) _
  act_says act a kind.Proxy is = no_leader (act_grid act) a kind.Proxy is (λ p. cc) _
  act_says act a kind.Acceptor is = no_leader (act_grid act) a kind.Acceptor is (λ p. cc) _
  act_says act a kind.Matchmaker is = no_leader (act_grid act) a kind.Matchmaker is (λ p. cc) _
  act_says act a kind.Replica is = no_leader (act_grid act) a kind.Replica is (λ p. cc) _
  act_says act a kind.Unbatcher is = no_leader (act_grid act) a kind.Unbatcher is (λ p. cc) _
  act_says act a kind.Reader is = no_leader (act_grid act) a kind.Reader is (λ p. cc) _
  act_says act a kind.Replacer is = no_leader (act_grid act) a kind.Replacer is (λ p. cc) _

module _ (w : World) where
  at_says : (act : Act) (a : RoleId) → ChangeSays (act_grid act) (act_at w act a)
  at_says act a = act_says w.cluster w.roles w.kept act a a.kind refl

  come_says : (cut : Cut) (o : Option Letter) → ChangeSays None (come w cut o)
  come_says cut None = λ y i g m e l. absurd m
  come_says cut (Some d) = at_says (Give (input.Take d) cut) d.to

  ask_says : (e : Event) (t : Token) → ChangeSays None (ask w e (Some t))
  ask_says e t =
      either_way (ChangeSays None) (is_stale t e w.events)
      (nothing (Some (role kind.Client t.client)) w.roles why.Stale) (record {
        who = Some (role kind.Client t.client);
        why = why.Sent;
        roles = w.roles;
        kept = [];
        sends = request (heard_by t.client w.sent w.events) e;
      }) (λ y i g m f l. absurd m) (λ y i g m f l. absurd m)

  event_says : (e : Event) → ChangeSays (ordered_grid e) (change w e)
  event_says (event.Write command batcher) = ask_says (event.Write command batcher) (record { client = command.client; seq = command.seq })
  event_says (event.Read client seq floor reader replica key) =
      ask_says (event.Read client seq floor reader replica key) (record { client = client; seq = seq })
  event_says (event.Session client seq floor replica key) =
      ask_says (event.Session client seq floor replica key) (record { client = client; seq = seq })
  event_says (event.Deliver n cut) = come_says cut (slice_get w.sent n)
  event_says (event.Tick r) = at_says (Give input.Tick Whole) r
  event_says (event.Order l o cut) = at_says (Give (input.Order o) cut) (role kind.Leader l)
  event_says (event.Replace x s cut) = at_says (Give (input.Order (Replace s)) cut) (role kind.Replacer x)
  event_says (event.Offer p to s) = at_says (Give (input.Order (Offer to s)) Whole) (role kind.Replica p)
  event_says (event.Snap r cut) = at_says (Snap cut) r
  event_says (event.Crash r) = at_says Stop r
  event_says (event.Restart r) = at_says Wake r

-- one of these events ordered a leader to use a grid
abbrev IsOrdered : List Event → Shape → Type 0
IsOrdered es g = (e : Event) × Member e es × (ordered_grid e ≡ Some g)

abbrev RoundsAreOrdered : Cluster → List Event → World → Type 0
RoundsAreOrdered c es w =
    (k : KeptRecord) (i : Round) (g : Shape) → Member k w.kept → k.what ≡ written.Record (kept.Round i g) → IsOrdered es g

step_ordered : (c : Cluster) (then : List Event) (e : Event) → RoundsAreOrdered c then (run c then)
    → RoundsAreOrdered c (then ++ e ∷ []) (step (run c then) e)
unfolding step
step_ordered c then e old k i g m is = elim (Member-cases k (run c then).kept (change (run c then) e).kept m) [
  | inl o ↦ (let r = old k i g o is in (r.0, Member-first r.0 then (e ∷ []) r.1, r.2))
  | inr n ↦ (
      let all : Member k (run c (then ++ e ∷ [])).kept = subst (λ (w : World). Member k w.kept) (sym (run_append c then (e ∷ []))) m in
      let writes = kinds_are_so.keepers c (then ++ e ∷ []) k all in
      let leads : k.role.kind ≡ kind.Leader = subst (λ (x : Written). IsWriter k.role.kind x) is writes in
      (e, Member-second e then (e ∷ []) (inl refl), event_says (run c then) e k i g n is leads)
      )
]

all_ordered : (c : Cluster) (then later : List Event) → RoundsAreOrdered c then (run c then)
    → RoundsAreOrdered c (then ++ later) (run c (then ++ later))
all_ordered c then [] h = subst (λ l. RoundsAreOrdered c l (run c l)) (sym (append-nil then)) h
all_ordered c then (e ∷ later) h =
    subst (λ l. RoundsAreOrdered c l (run c l)) (append_assoc then (e ∷ []) later)
    (all_ordered c (then ++ e ∷ []) later
    (subst (λ w. RoundsAreOrdered c (then ++ e ∷ []) w) (sym (run_append c then (e ∷ []))) (step_ordered c then e h)))

rounds_are_ordered : (c : Cluster) (es : List Event) → RoundsAreOrdered c es (run c es)
rounds_are_ordered c es = all_ordered c [] es (λ k i g m is. absurd m)

-- an entry of a matchmaker's is a leader's round
module _ (c : Cluster) (es : List Event) (m : RoleId) where
  abbrev history : List KeptRecord
  history = reverse (run c es).kept

  facts : Facts c history (run c es).sent (run c es).roles
  facts = facts_hold c es

  had_round : (i : Round) (g : Shape) → HasRound history m i g → IsConfig history i g
  had_round i g (inl x) = facts.asked m i g x
  had_round i g (inr x) = ((facts.sets.booted m x.0 x.1 x.2 x.3).1.join.only (record { round = i; grid = g }) x.4).0

  entry_round : (e : Entry) → Member e (durable_part matchmaker_rules m (run c es).kept).entries → IsConfig history e.round e.grid
  entry_round e k = elim ((facts.logs m).only e (subst (λ d. Member e d.entries) (durable_by_time matchmaker_rules m (run c es).kept) k)) [
    | inl x ↦ had_round e.round e.grid x
    | inr x ↦ (facts.garbaged m e.round e.grid x).0
  ]

pub grids_come_from_orders : GridsComeFromOrders
grids_come_from_orders c es orders m e of k =
    let config = entry_round c es (role kind.Matchmaker m) e k in
    let at = rounds_are_ordered c es _ e.round e.grid (Member-turned _ _ config.1) refl in
    orders at.0 e.grid at.1 at.2
