use Rattle.cx_role.proofs.Common.{◌≡◌, ◌++◌, ◌∷◌, [], ◌+◌, ◌-◌, ◌∙◌, true, false, sym, subst, arith, ap, is_some, nat_le, nat_tests}
use Rattle.cx_role.proofs.Common.{are_rising, floor_of}
use Rattle.cx_replica.specs.Room.{MachineState}
use Rattle.cx_replica.proofs.Rises.{are_floors_below, last_rises, one_less, some_above, still_below}
use Rattle.cx_replica.proofs.machine.Machine.is_behind.Goals as goal

pub returns-then-is_some : goal.returns-then-is_some
returns-then-is_some c floor =
    let floors = c.self.inside.table.table.floors in
    let k = c.loop-above.above - 1 in
    let told : is_some (floor_of k floors) ≡ true = ap (λ o. is_some o) (sym c.floor.ensures) ∙ sym c.is_some.ensures ∙ c.if-is_some.true in
    subst (λ (m : MachineState). false ≡ are_rising 0 (m.left.table.floors ++ record { client = c.args.client; floor = floor } ∷ []))
    c.self.view_is (some_above c.args.client floor k floors told (omega (arith, c.loop-above-test.true)))

pub loop-above-preserved : goal.loop-above-preserved
loop-above-preserved c =
    let floors = c.self.inside.table.table.floors in
    let k = c.loop-above.above - 1 in
    let next : c.loop-above.above ≡ k + 1 = omega (arith, c.loop-above-test.true) in
    let below : are_floors_below (k + 1) floors ≡ true = rw (← next) (rw (← c.self.view_is) at c.loop-above.invariant) in
    let none : is_some (floor_of k floors) ≡ false =
    ap (λ o. is_some o) (sym c.floor.ensures) ∙ sym c.is_some.ensures ∙ c.if-is_some.false in
    subst (λ (m : MachineState). are_floors_below k m.left.table.floors ≡ true) c.self.view_is (one_less k floors below none)

pub returns : goal.returns
returns c floor =
    let floors = c.self.inside.table.table.floors in
    let least : nat_le 0 c.args.client ≡ true = grind (arith, nat_tests) in
    let below : are_floors_below c.loop-above.above floors ≡ true = rw (← c.self.view_is) at c.loop-above.invariant in
    subst (λ (m : MachineState). true ≡ are_rising 0 (m.left.table.floors ++ record { client = c.args.client; floor = floor } ∷ []))
    c.self.view_is (sym (last_rises c.args.client floor 0 floors c.notes-rising.ensures.floors_rise least
    (still_below c.loop-above.above c.args.client floors (omega (arith, c.loop-above-test.false)) below)))
