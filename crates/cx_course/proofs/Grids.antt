-- The orders that a node gives: their grids are grids, of acceptors of the cluster.
use Rattle.std.proofs.Common.{◌/◌}
use Rattle.cx_inv_run.proofs.Common.{◌≡◌, ◌≤◌, ◌<◌, ◌+◌, ◌%◌, ◌==◌, ℕ, zero, suc, min, true, arith, lit≤, lt-ltb, refl, sym, subst, nat_lt}
use Rattle.cx_inv_run.proofs.Common.{list_all, Cluster, Lead, Collect, RoleId, IsGrid, Shape, numbers, Member-all, either_way}
use Rattle.cx_base.specs.declared.event.Order.TheVariants.{Change}
use Rattle.cx_base.specs.declared.role.Kind.TheVariants as kind
use Rattle.cx_inv_run.proofs.Members.{numbers-Member}
use Rattle.cx_script.specs.Names.{names_members}
use Rattle.cx_course.specs.Run.{first_grid, grid_of}
use Rattle.cx_course.proofs.Doings.{IsOrder}

first_grid_fits : (n : ℕ) → 1 ≤ n → n ≤ 16 → IsGrid (first_grid n)
first_grid_fits zero some most = let none : ⊥ = omega (arith, some) in absurd none
first_grid_fits (suc zero) some most = record { some_row = lit≤ tt; some_col = lit≤ tt; room = lit≤ tt; count = refl; once = refl }
first_grid_fits (suc (suc zero)) some most = record { some_row = lit≤ tt; some_col = lit≤ tt; room = lit≤ tt; count = refl; once = refl }
first_grid_fits (suc (suc (suc zero))) some most =
    record { some_row = lit≤ tt; some_col = lit≤ tt; room = lit≤ tt; count = refl; once = refl }
first_grid_fits (suc (suc (suc (suc zero)))) some most =
    record { some_row = lit≤ tt; some_col = lit≤ tt; room = lit≤ tt; count = refl; once = refl }
first_grid_fits (suc (suc (suc (suc (suc zero))))) some most =
    record { some_row = lit≤ tt; some_col = lit≤ tt; room = lit≤ tt; count = refl; once = refl }
first_grid_fits (suc (suc (suc (suc (suc (suc zero)))))) some most =
    record { some_row = lit≤ tt; some_col = lit≤ tt; room = lit≤ tt; count = refl; once = refl }
first_grid_fits (suc (suc (suc (suc (suc (suc (suc zero))))))) some most =
    record { some_row = lit≤ tt; some_col = lit≤ tt; room = lit≤ tt; count = refl; once = refl }
first_grid_fits (suc (suc (suc (suc (suc (suc (suc (suc zero)))))))) some most =
    record { some_row = lit≤ tt; some_col = lit≤ tt; room = lit≤ tt; count = refl; once = refl }
first_grid_fits (suc (suc (suc (suc (suc (suc (suc (suc (suc zero))))))))) some most =
    record { some_row = lit≤ tt; some_col = lit≤ tt; room = lit≤ tt; count = refl; once = refl }
first_grid_fits (suc (suc (suc (suc (suc (suc (suc (suc (suc (suc zero)))))))))) some most =
    record { some_row = lit≤ tt; some_col = lit≤ tt; room = lit≤ tt; count = refl; once = refl }
first_grid_fits (suc (suc (suc (suc (suc (suc (suc (suc (suc (suc (suc zero))))))))))) some most =
    record { some_row = lit≤ tt; some_col = lit≤ tt; room = lit≤ tt; count = refl; once = refl }
first_grid_fits (suc (suc (suc (suc (suc (suc (suc (suc (suc (suc (suc (suc zero)))))))))))) some most =
    record { some_row = lit≤ tt; some_col = lit≤ tt; room = lit≤ tt; count = refl; once = refl }
first_grid_fits (suc (suc (suc (suc (suc (suc (suc (suc (suc (suc (suc (suc (suc zero))))))))))))) some most =
    record { some_row = lit≤ tt; some_col = lit≤ tt; room = lit≤ tt; count = refl; once = refl }
first_grid_fits (suc (suc (suc (suc (suc (suc (suc (suc (suc (suc (suc (suc (suc (suc zero)))))))))))))) some most =
    record { some_row = lit≤ tt; some_col = lit≤ tt; room = lit≤ tt; count = refl; once = refl }
first_grid_fits (suc (suc (suc (suc (suc (suc (suc (suc (suc (suc (suc (suc (suc (suc (suc zero))))))))))))))) some most =
    record { some_row = lit≤ tt; some_col = lit≤ tt; room = lit≤ tt; count = refl; once = refl }
first_grid_fits (suc (suc (suc (suc (suc (suc (suc (suc (suc (suc (suc (suc (suc (suc (suc (suc zero)))))))))))))))) some most =
    record { some_row = lit≤ tt; some_col = lit≤ tt; room = lit≤ tt; count = refl; once = refl }
first_grid_fits (suc (suc (suc (suc (suc (suc (suc (suc (suc (suc (suc (suc (suc (suc (suc (suc (suc n))))))))))))))))) some most =
    let none : ⊥ = omega (arith, most) in absurd none

members_are : (n : ℕ) → (first_grid n).members ≡ numbers 0 n
members_are n = either_way (λ (g : Shape). g.members ≡ numbers 0 n) (n % 2 == 0) (record { rows = 2; cols = n / 2; members = numbers 0 n })
    (record { rows = 1; cols = n; members = numbers 0 n }) refl refl

few : (c : Cluster) → min c.acceptors 16 ≤ c.acceptors
few c = omega arith

members_named : (c : Cluster) → names_members c (grid_of c) ≡ true
members_named c =
    let n = min c.acceptors 16 in
    subst (λ ms. list_all (λ id. nat_lt id c.acceptors) ms ≡ true) (sym (members_are n)) (Member-all (λ id. nat_lt id c.acceptors)
    (numbers 0 n) (λ id m. lt-ltb id c.acceptors (less id n c.acceptors (numbers-Member id 0 n m).1 (few c))))
  where
    less : (id n all : ℕ) → id < 0 + n → n ≤ all → id < all
    less id n all a b = omega (arith, a, b)

grid_fits : (c : Cluster) → IsGrid (grid_of c)
grid_fits c =
    let n = min c.acceptors 16 in
    first_grid_fits n (some c.acceptors c.some_acceptor) (most c.acceptors)
  where
    some : (all : ℕ) → 1 ≤ all → 1 ≤ min all 16
    some all a = omega (arith, a)

    most : (all : ℕ) → min all 16 ≤ 16
    most all = omega arith

pub lead_is_order : (c : Cluster) (me : RoleId) → me.kind ≡ kind.Leader → IsOrder c me (Lead (grid_of c))
lead_is_order c me is = record { leader = is; grid = grid_fits c; named = members_named c }

pub change_is_order : (c : Cluster) (me : RoleId) → me.kind ≡ kind.Leader → IsOrder c me (Change (grid_of c))
change_is_order c me is = record { leader = is; grid = grid_fits c; named = members_named c }

pub collect_is_order : (c : Cluster) (me : RoleId) → me.kind ≡ kind.Leader → IsOrder c me Collect
collect_is_order c me is = record { leader = is; grid = tt; named = refl }
