-- No order of a tended node is in vain, and a replica that lags waits for no beat.
use Rattle.std.specs.Prelude.{◌≡◌, ℕ, ◌<◌, ◌/◌, nat_lt, Bool, true, false, Some, is_some}
use Rattle.cx_model.specs.Prelude.{RoleId, Why, Shape, is_retired, LeaderDurable, LeaderVolatile, is_idle, is_leading, order_row, Running}
use Rattle.cx_base.specs.declared.event.Order.{Order}
use Rattle.cx_base.specs.declared.event.Order.TheVariants as order
use Rattle.cx_base.specs.declared.role.Kind.TheVariants as kind
use Rattle.cx_base.specs.declared.why.Why.TheVariants as why
use Rattle.cx_course.specs.Course.{is_a}
use Rattle.cx_course.specs.Tending.{Care, leader_asked, standing_of, ticks_behind}

-- a round was begun, or there is none left
abbrev pub begins : Why → Bool
begins why.Started = true
begins why.End = true
begins other = false

-- the earlier rounds begin to be retired
abbrev pub retires : Why → Bool
retires why.Informing = true
retires other = false

-- what a leader answers to an order that it takes
abbrev pub is_taken : Order → Why → Bool
is_taken (order.Lead g) w = begins w
is_taken (order.Change g) w = begins w
is_taken order.Collect w = retires w
is_taken (order.Replace s) w = false
is_taken (order.Offer to slot) w = false

-- The leader takes it. Only an idle leader is to lead, and only one that has retired the earlier rounds to change.
pub record IsApt (l : Running LeaderDurable LeaderVolatile) (o : Order) : Type 0 where
  pub taken : is_taken o (order_row l.cluster l.me l.durable l.volatile o).why ≡ true
  pub leads : (g : Shape) → o ≡ order.Lead g → is_idle l.volatile.mode ≡ true
  pub changes : (g : Shape) → o ≡ order.Change g → is_retired l.volatile.collection.stage ≡ true

-- each order that a leader is given, whatever was counted; one that leads has a round
abbrev pub NoVainOrder : Type 0
NoVainOrder =
    (l : Running LeaderDurable LeaderVolatile) (k : Care) (o : Order)
    → (is_leading l.volatile.mode ≡ true → is_some l.durable.own ≡ true)
    → leader_asked l.cluster (standing_of l) k ≡ Some o → IsApt l o

-- A replica that holds more by a value of another replica ticks behind it, whatever it held, and so asks for the next one; behind what
-- anybody else sends it ticks as its reports are due, and not more often.
pub record AsksOn : Type 0 where
  pub lacked : (from : RoleId) (before now : ℕ) → is_a kind.Replica from ≡ true → before < now → ticks_behind from before now ≡ true
  pub others : (from : RoleId) (before now : ℕ) → is_a kind.Replica from ≡ false
      → ticks_behind from before now ≡ nat_lt (before / 8) (now / 8)
