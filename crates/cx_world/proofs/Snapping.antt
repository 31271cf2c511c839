-- A seat whose role forgets is as the store of its keeper leaves it.
use Rattle.cx_inv_run.proofs.Common.{◌∙◌, Option, ap, sym, subst, inl, inr, Kept, Snap, cut_turn, snap_turn}
use Rattle.cx_role.specs.Prelude.{◌≡◌, ℕ, Bool, true, false, List, [], None, Some, Err, refl, Cluster, Cut, Whole, Torn, RoleId, Why}
use Rattle.cx_role.specs.Prelude.{Letter, Written, list_with, Rules, Running, folded, refused, Renewal, Failed, KeepsDurable, snap_of}
use Rattle.cx_role.proofs.Common.{◌&&◌, if◌then◌else◌, nat_lt, is_before, no_round, none-some, same_Some, true≢false, Kind, acceptor_rules}
use Rattle.cx_role.proofs.Common.{reader_rules, replica_rules}
use Rattle.cx_base.specs.Role.{puts_anew}
use Rattle.cx_base.specs.declared.role.Kind.TheVariants as kind
use Rattle.cx_base.specs.declared.why.Why.TheVariants as why
use Rattle.cx_letter.specs.declared.input.Written.TheVariants as written
use Rattle.cx_model.specs.Turn.{still}
use Rattle.cx_keeper.specs.MemKeeper.{kept_of}
use Rattle.cx_role.specs.Snap.{SnapStays, Snaps}
use Rattle.cx_world.specs.LastKeeper.{LastState, first_slot_of, last_renew_gives, list_kept}
use Rattle.cx_world.specs.Seat.{IsTurned, NeverSnaps, Opens, SaysFirst, Seat, Sits, seat_turn, volatile_of, why_of_cut}
use Rattle.cx_world.proofs.Standing.{cut_either, cut_turned, here, knows, lives, on, stays, stops, whole_list}

-- a role could be opened from the list of a renewal
abbrev pub IsOwn : {D V : Type 0} → Rules D V → Running D V → Option ℕ → Type 0
IsOwn rules s o = (n : ℕ) → o ≡ Some n → refused rules s.cluster s.me (rules.renewed s.durable n) ≡ None

-- of a seat whose role runs
module _ {S D V : Type 0} (rules : Rules D V) (state : S → Running D V) (c : Cluster) (me : RoleId) (store : LastState) (role : Option S)
    (runs : Bool) (sits : Sits rules state c me store role runs) (up : runs ≡ true) (s : S) (is : role ≡ Some s) where
  pub snapped : (o : Option ℕ) → IsOwn rules (state s) o → (w : Why) (old new : LastState) (after : S) (sent : List Letter)
      → list_kept old ≡ list_kept store
      → Snaps last_renew_gives rules (state s) o w old new (state after) sent → Sits rules state c me new (Some after) runs
  snapped None own w old new after sent same step =
      let list : list_kept new ≡ list_kept store = ap list_kept step.list ∙ same in
      let durable : (state after).durable ≡ (state s).durable = ap (λ (x : Running D V). x.durable) step.state in
      let known = knows rules state c me store role runs sits up s is in
      let there = here rules state c me store role runs sits up s is in
      on rules state c me store role runs sits up s is after new
      (ap (λ (x : Running D V). x.cluster) step.state ∙ there.cluster) (ap (λ (x : Running D V). x.me) step.state ∙ there.me)
      (ap (λ (x : Running D V). x.live) step.state ∙ lives rules state c me store role runs sits up s is)
      (ap rules.whole durable ∙ known.0) (durable ∙ known.1 ∙ ap (λ l. folded rules l) (sym list))
  snapped (Some n) own w old new after sent same step =
      let renewed = rules.renewed (state s).durable n in
      let list : list_kept new ≡ renewed = ap kept_of step.list.0.1 in
      let durable : (state after).durable ≡ folded rules renewed = ap (λ (x : Running D V). x.durable) step.state in
      let there = here rules state c me store role runs sits up s is in
      on rules state c me store role runs sits up s is after new
      (ap (λ (x : Running D V). x.cluster) step.state ∙ there.cluster) (ap (λ (x : Running D V). x.me) step.state ∙ there.me)
      (ap (λ (x : Running D V). x.live) step.state ∙ lives rules state c me store role runs sits up s is) (ap rules.whole durable
      ∙ whole_list rules (state s).cluster (state s).me renewed (own n refl)) (durable ∙ ap (λ l. folded rules l) (sym list))

  pub snap_fell : (o : Option ℕ) → IsOwn rules (state s) o → (old new : LastState) (after : S) → list_kept old ≡ list_kept store
      → old.last ≡ None → ((n : ℕ) × (o ≡ Some n) × last_renew_gives old (rules.renewed (state s).durable n) (Err Failed) new)
      → (state after).live ≡ false → KeepsDurable (state s) (state after) → Sits rules state c me new (Some after) false
  snap_fell o own old new after same none fail dead keeps =
      let n = fail.0 in
      let renewed = rules.renewed (state s).durable n in
      elim (cut_either old new (Renewal renewed) none fail.2) [
        | inl torn ↦
            stops rules state c me store role runs sits up s is after new keeps dead
            (stays rules state c me store role runs sits up s is after new keeps (torn.list ∙ same) torn.last)
        | inr kept ↦
            let at : refused rules (state s).cluster (state s).me (list_kept new) ≡ None =
            ap (λ l. refused rules (state s).cluster (state s).me l) kept.list ∙ own n fail.1 in
            let at_cluster = subst (λ x. refused rules x (state s).me (list_kept new) ≡ None) (sym keeps.cluster) at in
            let at_role : Opens rules (state after) (list_kept new) (Some (written.Snap (first_slot_of renewed))) =
            subst (λ x. refused rules (state after).cluster x (list_kept new) ≡ None) (sym keeps.me) at_cluster in
            stops rules state c me store role runs sits up s is after new keeps dead
            (subst (λ x. Opens rules (state after) (list_kept new) x) (sym kept.last) at_role)
      ]

  -- a renewal that is out of memory changes nothing
  pub refused_snap : (old new : LastState) (after : S) (sent : List Letter) → list_kept old ≡ list_kept store
      → SnapStays last_renew_gives (state s) (state after) old new sent → Sits rules state c me new (Some after) runs
  refused_snap old new after sent same stay =
      let list : list_kept new ≡ list_kept store = elim stay.list [
        | inl all ↦ ap list_kept all ∙ same
        | inr more ↦ ap kept_of more.1.0 ∙ same
      ] in
      let durable : (state after).durable ≡ (state s).durable = ap (λ (x : Running D V). x.durable) stay.state in
      let known = knows rules state c me store role runs sits up s is in
      let there = here rules state c me store role runs sits up s is in
      on rules state c me store role runs sits up s is after new
      (ap (λ (x : Running D V). x.cluster) stay.state ∙ there.cluster) (ap (λ (x : Running D V). x.me) stay.state ∙ there.me)
      (ap (λ (x : Running D V). x.live) stay.state ∙ lives rules state c me store role runs sits up s is)
      (ap rules.whole durable ∙ known.0) (durable ∙ known.1 ∙ ap (λ l. folded rules l) (sym list))

-- ---- what a snap comes to at a seat

module _ {S D V : Type 0} (rules : Rules D V) (says : SaysFirst rules) (state : S → Running D V) (seat : Seat S) (s : S) (cut : Cut)
    (old new : LastState) (k : Option Written)
    (role : seat.role ≡ Some s) (at_cluster : (state s).cluster ≡ seat.cluster) (at_role : (state s).me ≡ seat.me)
    (fold : (state s).durable ≡ folded rules seat.records)
    (set : old.store.cut ≡ cut) (none : old.last ≡ None) (same : list_kept old ≡ seat.records) (told : k ≡ new.last) where
  turn_is : seat_turn rules state (Snap cut) seat ≡ snap_turn cut (state s).volatile (snap_of rules (state s))
  turn_is = rw (role, at_cluster, at_role, fold) refl

  -- the list that a renewal leaves
  grown : (n : ℕ) → list_kept new ≡ rules.renewed (state s).durable n → list_kept new ≡ list_with rules seat.records (Some (written.Snap n))
  grown n list = list ∙ ap (λ d. rules.renewed d n) fold

  -- the change that it is
  left : (n : ℕ) → snap_of rules (state s) ≡ Some n
      → new.last ≡ Some (written.Snap (first_slot_of (rules.renewed (state s).durable n))) → k ≡ Some (written.Snap n)
  left n is last =
      told ∙ last ∙ ap (λ x. Some (written.Snap x)) (says (state s).cluster (state s).me (state s).durable (state s).volatile n is)

  whole_snap : (o : Option ℕ) → snap_of rules (state s) ≡ o → (w : Why) (after : S) (sent : List Letter)
      → Snaps last_renew_gives rules (state s) o w old new (state after) sent
      → IsTurned rules state (snap_turn cut (state s).volatile o) seat (record seat { role = Some after; records = list_kept new }) w k sent
  whole_snap None may w after sent step =
      let nothing : k ≡ None = told ∙ ap (λ (x : LastState). x.last) step.list ∙ none in
      record {
        why = step.why;
        role = ap (λ (x : Running D V). Some x.volatile) step.state;
        kept = nothing;
        sends = step.sends;
        records = ap list_kept step.list ∙ same ∙ ap (λ x. list_with rules seat.records x) (sym nothing);
        cluster = refl;
        me = refl;
      }
  whole_snap (Some n) may w after sent step =
      let is : cut ≡ Whole = sym set ∙ step.list.0.0 in
      let change : k ≡ Some (written.Snap n) = left n may step.list.1 in
      rw is (record {
        why = step.why;
        role = ap (λ (x : Running D V). Some x.volatile) step.state;
        kept = change;
        sends = step.sends;
        records = grown n (ap kept_of step.list.0.1) ∙ ap (λ x. list_with rules seat.records x) (sym change);
        cluster = refl;
        me = refl;
      })

  pub snap_turned : (w : Why) (after : S) (sent : List Letter)
      → Snaps last_renew_gives rules (state s) (snap_of rules (state s)) w old new (state after) sent
      → IsTurned rules state (seat_turn rules state (Snap cut) seat) seat
      (record seat { role = Some after; records = list_kept new }) w k sent
  snap_turned w after sent step =
      subst (λ t. IsTurned rules state t seat (record seat { role = Some after; records = list_kept new }) w k sent) (sym turn_is)
      (whole_snap (snap_of rules (state s)) refl w after sent step)

  pub snap_failed : ((n : ℕ) × (snap_of rules (state s) ≡ Some n)
      × last_renew_gives old (rules.renewed (state s).durable n) (Err Failed) new)
      → IsTurned rules state (seat_turn rules state (Snap cut) seat) seat (record seat { role = None; records = list_kept new })
      (why_of_cut cut) k []
  snap_failed fail =
      let n = fail.0 in
      let v = (state s).volatile in
      let turn : seat_turn rules state (Snap cut) seat ≡ snap_turn cut v (Some n) = turn_is ∙ ap (λ x. snap_turn cut v x) fail.1 in
      elim (cut_either old new (Renewal (rules.renewed (state s).durable n)) none fail.2) [
        | inl torn ↦
            let is : cut ≡ Torn = sym set ∙ torn.cut in
            cut_turned rules state (seat_turn rules state (Snap cut) seat) seat cut None k (list_kept new) (turn
            ∙ ap (λ x. snap_turn x v (Some n)) is ∙ ap (λ x. cut_turn (why_of_cut x) None) (sym is)) (told ∙ torn.last) (torn.list ∙ same)
        | inr kept ↦
            let is : cut ≡ Kept = sym set ∙ kept.cut in
            cut_turned rules state (seat_turn rules state (Snap cut) seat) seat cut (Some (written.Snap n)) k (list_kept new)
            (turn ∙ ap (λ x. snap_turn x v (Some n)) is ∙ ap (λ x. cut_turn (why_of_cut x) (Some (written.Snap n))) (sym is))
            (left n fail.1 kept.last) (grown n kept.list)
      ]

-- a snap of a role whose list is never put anew
pub rests : {S D V : Type 0} (rules : Rules D V) (never : NeverSnaps rules) (state : S → Running D V) (seat : Seat S) (cut : Cut) (s : S)
    → seat.role ≡ Some s → IsTurned rules state (seat_turn rules state (Snap cut) seat) seat seat why.Idle None []
rests rules never state seat cut s is =
    let v = (state s).volatile in
    let role : volatile_of state seat.role ≡ Some v = ap (volatile_of state) is in
    let snaps : seat_turn rules state (Snap cut) seat ≡ snap_turn cut v (rules.snap seat.cluster seat.me (folded rules seat.records) v) =
    rw is refl in
    let idle : snap_turn cut v (rules.snap seat.cluster seat.me (folded rules seat.records) v) ≡ still (Some v) why.Idle =
    ap (λ o. snap_turn cut v o) (never seat.cluster seat.me (folded rules seat.records) v) in
    subst (λ t. IsTurned rules state t seat seat why.Idle None []) (sym (snaps ∙ idle))
    (record { why = refl; role = role; kept = refl; sends = refl; records = refl; cluster = refl; me = refl })

-- of two that aren't both so
pub both_off : (b p : Bool) → (b && p) ≡ false → b ≡ true → p ≡ true → ⊥
both_off true true off first second = true≢false off
both_off true false off first second = true≢false (sym second)
both_off false p off first second = true≢false (sym first)

-- ---- which kinds put their lists anew

only_zero : (b : Bool) (first : ℕ) → (if b then Some 0 else None) ≡ Some first → 0 ≡ first
only_zero true first is = same_Some 0 first is
only_zero false first is = absurd (none-some first is)

pub acceptor_says : SaysFirst acceptor_rules
acceptor_says c me d v first is = only_zero (is_before no_round d.promise) first is

pub reader_says : SaysFirst reader_rules
reader_says c me d v first is = only_zero (nat_lt 0 d.turn) first is

pub replica_says : SaysFirst replica_rules
replica_says c me d v first is = refl

pub other_kinds : (k : Kind) → (k ≡ kind.Acceptor → ⊥) → (k ≡ kind.Replica → ⊥) → (k ≡ kind.Reader → ⊥) → puts_anew k ≡ false
other_kinds kind.Acceptor a p r = absurd (a refl)
other_kinds kind.Replica a p r = absurd (p refl)
other_kinds kind.Reader a p r = absurd (r refl)
other_kinds other a p r = refl
