-- Each order that a tended node gives is one that the leader takes.
use Rattle.std.specs.Cmp.Derive.{both_true}
use Rattle.cx_model.specs.Prelude.{change_after, lead_after, is_off, is_retired, begin_in, collect_in, is_idle, is_leading, is_settled}
use Rattle.cx_model.specs.Prelude.{round_of, names_grid}
use Rattle.cx_role.proofs.Common.{◌≡◌, ◌⊎◌, ◌+◌, ◌-◌, ◌≤◌, ◌/◌, ◌%◌, ◌==◌, ◌&&◌, not, nat_lt, min, ℕ, zero, suc, Bool, true, false, Option}
use Rattle.cx_role.proofs.Common.{None, Some, if◌then◌else◌, inl, inr, arith, refl, sym, subst, is_some, list_all, nat_tests, none-some}
use Rattle.cx_role.proofs.Common.{same_Some, Cluster, Order, RoleId, Round, Shape, is_in, numbers, Entry, LeaderDurable, LeaderVolatile}
use Rattle.cx_role.proofs.Common.{only_word}
use Rattle.cx_base.specs.declared.event.Order.TheVariants as order
use Rattle.cx_base.specs.declared.why.Why.TheVariants as why
use Rattle.cx_model.specs.Leader.{change_row, collect_row, lead_row}
use Rattle.cx_leader.specs.Tending.{can_collect, has_heard, has_open, is_spent}
use Rattle.cx_node.specs.Orders.{IsApt, NoVainOrder, begins, retires}
use Rattle.cx_course.specs.Run.{grid_of}
use Rattle.cx_course.specs.Tending.{is_time, leader_asked, standing_of}

both : (a b : Bool) → (a && b) ≡ true → (a ≡ true) × (b ≡ true)
both true b e = (refl, e)
both false b e = cc

-- ---- its grid is one of the cluster

lower : (i n a : ℕ) → i + suc n ≤ a → nat_lt i a ≡ true
lower i n a h = grind (arith, nat_tests, h)

all_within : (n i a : ℕ) → i + n ≤ a → list_all (λ id. nat_lt id a) (numbers i n) ≡ true
all_within zero i a h = refl
all_within (suc n) i a h = let rest : (i + 1) + n ≤ a = omega (arith, h) in both_true (lower i n a h) (all_within n (i + 1) a rest)

either_named : (c : Cluster) (t : Bool) (x y : Shape) → names_grid c x ≡ true → names_grid c y ≡ true
    → names_grid c (if t then x else y) ≡ true
either_named c true x y p q = p
either_named c false x y p q = q

grid_named : (c : Cluster) → names_grid c (grid_of c) ≡ true
grid_named c =
    let n = min c.acceptors 16 in
    let most : 0 + n ≤ c.acceptors = fits c.acceptors in
    let all = all_within n 0 c.acceptors most in
    either_named c (n % 2 == 0) (record { rows = 2; cols = n / 2; members = numbers 0 n })
    (record { rows = 1; cols = n; members = numbers 0 n }) all all
  where
    fits : (a : ℕ) → 0 + min a 16 ≤ a
    fits a = grind arith

-- ---- the rows

begun : (c : Cluster) (me : RoleId) (v : LeaderVolatile) (g : Shape) (o : Option Round) → begins (begin_in c me v g o).why ≡ true
begun c me v g None = refl
begun c me v g (Some i) = refl

leads : (c : Cluster) (me : RoleId) (d : LeaderDurable) (v : LeaderVolatile) → begins (lead_row c me d v (grid_of c)).why ≡ true
leads c me d v =
    let g = grid_of c in
    let next = lead_after (round_of d.own) v.seen me.index in
    subst (λ (t : Bool). begins (if t then begin_in c me v g next else only_word why.Stranger v).why ≡ true) (sym (grid_named c))
    (begun c me v g next)

changes : (c : Cluster) (me : RoleId) (d : LeaderDurable) (v : LeaderVolatile) → is_leading v.mode ≡ true
    → begins (change_row c me d v (grid_of c)).why ≡ true
changes c me d v leading =
    let g = grid_of c in
    let next = change_after (round_of d.own) in
    subst (λ (t : Bool). begins (if not t then only_word why.Stranger v else if not (is_leading v.mode) then only_word why.Idle v
    else begin_in c me v g next).why ≡ true) (sym (grid_named c))
    (subst (λ (t : Bool). begins (if not t then only_word why.Idle v else begin_in c me v g next).why ≡ true) (sym leading)
    (begun c me v g next))

retiring : (c : Cluster) (me : RoleId) (v : LeaderVolatile) (own : Option Entry) → is_some own ≡ true → is_off v.collection.stage ≡ true
    → is_settled v ≡ true → retires (collect_in c me v own).why ≡ true
retiring c me v None has off settled = cc
retiring c me v (Some own) has off settled = rw (off, settled) refl

collects : (c : Cluster) (me : RoleId) (d : LeaderDurable) (v : LeaderVolatile) → (is_leading v.mode ≡ true → is_some d.own ≡ true)
    → can_collect v ≡ true → retires (collect_row c me d v).why ≡ true
collects c me d v has can =
    let p = both (is_leading v.mode && is_off v.collection.stage) (is_settled v) can in
    let q = both (is_leading v.mode) (is_off v.collection.stage) p.0 in
    subst (λ (t : Bool). retires (if t then collect_in c me v d.own else only_word why.Idle v).why ≡ true) (sym q.0)
    (retiring c me v d.own (has q.0) q.1 p.1)

-- a spent leader leads, and has retired the earlier rounds
spent : (v : LeaderVolatile) → is_spent v ≡ true → (is_leading v.mode ≡ true) × (is_retired v.collection.stage ≡ true)
spent v e =
    let p = both (is_leading v.mode && is_retired v.collection.stage && has_open v)
    (list_all (λ s. is_in s v.chosen) (numbers v.cw (v.next - v.cw))) e in
    let q = both (is_leading v.mode && is_retired v.collection.stage) (has_open v) p.0 in
    both (is_leading v.mode) (is_retired v.collection.stage) q.0

-- which order is given
asked : (may due can : Bool) (g : Shape) (o : Order)
    → (if may then Some (order.Lead g) else if due then Some (order.Change g) else if can then Some order.Collect else None) ≡ Some o
    → ((may ≡ true) × (order.Lead g ≡ o)) ⊎ (((due ≡ true) × (order.Change g ≡ o)) ⊎ ((can ≡ true) × (order.Collect ≡ o)))
asked true due can g o e = inl (refl, same_Some (order.Lead g) o e)
asked false true can g o e = inr (inl (refl, same_Some (order.Change g) o e))
asked false false true g o e = inr (inr (refl, same_Some order.Collect o e))
asked false false false g o e = absurd (none-some o e)

pub no_vain : NoVainOrder
unfolding leader_asked
no_vain l k o has e =
    let c = l.cluster in
    let v = l.volatile in
    let s = standing_of l in
    elim (asked s.may_lead (is_time k.stuck && s.is_spent) s.can_collect (grid_of c) o e) [
      | inl led ↦ subst (λ (x : Order). IsApt l x) led.1 (record {
        taken = leads c l.me l.durable v;
        leads = λ g same. (both (is_idle v.mode) (has_heard c v) led.0).0;
        changes = λ g same. cc;
      })
      | inr (inl changed) ↦
          let is = spent v (both (is_time k.stuck) (is_spent v) changed.0).1 in
          subst (λ (x : Order). IsApt l x) changed.1
          (record { taken = changes c l.me l.durable v is.0; leads = λ g same. cc; changes = λ g same. is.1 })
      | inr (inr collected) ↦ subst (λ (x : Order). IsApt l x) collected.1
          (record { taken = collects c l.me l.durable v has collected.0; leads = λ g same. cc; changes = λ g same. cc })
    ]
