-- What a leader takes, it keeps no record of.
use Rattle.cx_role.proofs.Common.{◌≡◌, ◌&&◌, List, [], ◌∷◌, ◌++◌, Option, None, Some, refl, arith, subst, sym, Cluster, Command, RoleId}
use Rattle.cx_role.proofs.Common.{same_role, Letter, Record, Entry, Msg, live_entries, names, Outcome, either_way, IsFit, is_above}
use Rattle.cx_role.proofs.Common.{LeaderDurable, LeaderVolatile, leader_rules}
use Rattle.cx_role.proofs.Common.msg
use Rattle.cx_letter.specs.declared.input.Input.TheVariants as input
use Rattle.cx_model.specs.declared.states.Mode.{Mode}
use Rattle.cx_model.specs.declared.states.Mode.TheVariants as mode
use Rattle.cx_model.specs.Collection.{is_collecting}
use Rattle.cx_model.specs.Leader.{matched_by, match_counted, promise_counted, propose_in, informed_in, set_learnt, leader_takes, leader_row}

abbrev KeepsNone : Outcome LeaderVolatile → Type 0
KeepsNone o = o.kept ≡ None

module _ (c : Cluster) (me : RoleId) where
  matched_none : (own : Entry) (v : LeaderVolatile) (es : List Entry) → KeepsNone (matched_by c me own v es)
  matched_none own v [] = refl
  matched_none own v (e ∷ es) = refl

  counted_none : (own : Option Entry) (v : LeaderVolatile) → KeepsNone (match_counted c me own v)
  counted_none None v = refl
  counted_none (Some own) v = grind (arith, matched_none own v (live_entries v.told))

  promised_none : (own : Option Entry) (v : LeaderVolatile) → KeepsNone (promise_counted c me own v)
  promised_none None v = refl
  promised_none (Some own) v = grind arith

  propose_none : (v : LeaderVolatile) (commands : List Command) (own : Option Entry) → KeepsNone (propose_in c me v commands own)
  propose_none v commands None = refl
  propose_none v commands (Some own) = grind arith

  informed_none : (v : LeaderVolatile) (from : RoleId) (own : Option Entry) → KeepsNone (informed_in c me v from own)
  informed_none v from None = refl
  informed_none v from (Some own) = grind arith

  learnt_none : (v : LeaderVolatile) (m : Mode) (own : Option Entry) → KeepsNone (set_learnt me v m own)
  learnt_none v mode.Idle own = refl
  learnt_none v mode.Matching None = refl
  learnt_none v mode.Matching (Some own) = refl
  learnt_none v mode.Phase1 own = refl
  learnt_none v mode.Leading None = refl
  learnt_none v mode.Leading (Some own) = either_way KeepsNone (is_collecting v.collection.stage) _ _ refl refl

  takes_none : (d : LeaderDurable) (v : LeaderVolatile) (from : RoleId) (m : Msg) → KeepsNone (leader_takes c me d v from m)
  takes_none d v from (msg.MatchB i w es) =
      grind (arith, counted_none d.own (record v { told = v.told ++ record { matchmaker = from.index; watermark = w; entries = es } ∷ [] }))
  takes_none d v from (msg.MatchNack i reason other) = grind arith
  takes_none d v from (msg.Phase1B i cw votes) = grind
      (arith, promised_none d.own (record v { promises = v.promises ++ record { acceptor = from.index; cw = cw; votes = votes } ∷ [] }))
  takes_none d v from (msg.Nack i promise) = grind arith
  takes_none d v from (msg.Batch commands) = grind (arith, propose_none v commands d.own)
  takes_none d v from (msg.ChosenIn i s) = grind arith
  takes_none d v from (msg.Held n) = grind arith
  takes_none d v from (msg.Informed i cw) = grind (arith, informed_none v from d.own)
  takes_none d v from (msg.GarbageB i) = grind arith
  takes_none d v from (msg.Sets s) = either_way KeepsNone (is_above s v.set) _ _ (learnt_none (record v { set = s }) v.mode d.own) refl
  takes_none d v from other = refl

  pub take_fits : (d : LeaderDurable) (v : LeaderVolatile) (letter : Letter)
      → IsFit leader_rules c me d (leader_row c me d v (input.Take letter)).kept
  take_fits d v letter =
      let none = either_way KeepsNone (same_role letter.to me && names c letter) _ _ (takes_none d v letter.from letter.msg) refl in
      subst (λ (kept : Option Record). IsFit leader_rules c me d kept) (sym none) tt
