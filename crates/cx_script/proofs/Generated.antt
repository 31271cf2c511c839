-- The world takes each generated event, and its names lie in the generator's cluster.
use Rattle.std.proofs.lemmas.List.Folds.{list_all_at}
use Rattle.cx_base.proofs.Common.{◌≡◌, ◌<◌, ◌+◌, ◌%◌, ◌==◌, ℕ, Bool, true, false, nat_lt, nat_le, refl, inl, inr, arith, if◌then◌else◌}
use Rattle.cx_base.proofs.Common.{true≢false, cases_Bool, nat_tests, floor_fits, Shape, role}
use Rattle.cx_base.specs.declared.event.Event.{Event}
use Rattle.cx_base.specs.declared.role.Kind.TheVariants.{Batcher}
use Rattle.cx_script.specs.Generator.{GeneratorState, gen_cluster, gen_servers, gen_server, gen_first_grid, gen_grid, later_event}
use Rattle.cx_script.specs.Generator.{gen_event, drawn, second_draw, third_draw, fourth_draw, next_event}
use Rattle.cx_script.specs.Names.{names_members, names_server}
use Rattle.cx_script.proofs.Takes.{IsGood}

either : {A : Type 0} (P : A → Type 0) (b : Bool) (x y : A) → P x → P y → P (if b then x else y)
either P true x y h k = h
either P false x y h k = k

half : (n : ℕ) → nat_lt (n % 2) 2 ≡ true
half n = grind (arith, nat_tests)

quarter : (n : ℕ) → nat_lt (n % 4) 4 ≡ true
quarter n = grind (arith, nat_tests)

floor_before : (n : ℕ) → floor_fits (n + 1) n ≡ true
floor_before n =
    let below : nat_lt n (n + 1) ≡ true = grind (arith, nat_tests) in
    let near : nat_le (n + 1) (n + 64) ≡ true = grind (arith, nat_tests) in
    rw (below, near) refl

server_named : (b : ℕ) → names_server gen_cluster (gen_server b) ≡ true
server_named b =
    let here : b % 18 < 18 = omega arith in
    elim (cases_Bool (names_server gen_cluster (gen_server b))) [
      | inl named ↦ named
      | inr other ↦ absurd (true≢false (list_all_at (names_server gen_cluster) gen_servers (b % 18) (role Batcher 0) here other))
    ]

grid_named : (c : ℕ) → names_members gen_cluster (gen_grid c) ≡ true
grid_named c =
    let named : Shape → Type 0 = λ g. names_members gen_cluster g ≡ true in
    either named (c % 3 == 0) gen_first_grid _ refl (either named (c % 3 == 1) _ _ refl refl)

later_good : (made sent a b c d : ℕ) → IsGood gen_cluster (later_event made sent a b c d)
later_good made sent a b c d =
    let or_else : (test : Bool) (x y : Event) → IsGood gen_cluster x → IsGood gen_cluster y → IsGood gen_cluster (if test then x else y) =
    λ test x y. either (IsGood gen_cluster) test x y in
    let half_b = half b in
    let half_d = half d in
    let quarter_b = quarter b in
    let grid = grid_named c in
    let server = server_named b in
    or_else (nat_le a 64) _ _ (record { taken = refl; named = refl }) (
    or_else (nat_le a 76) _ _ (record { taken = floor_before made; named = rw quarter_b refl }) (
    or_else (nat_le a 81) _ _ (record { taken = floor_before made; named = rw (quarter_b, half_d) refl }) (
    or_else (nat_le a 90) _ _ (record { taken = refl; named = server }) (
    or_else (nat_le a 91) _ _ (record { taken = refl; named = rw (half_b, grid) refl }) (
    or_else (nat_le a 92) _ _ (record { taken = refl; named = rw (half_b, grid) refl }) (
    or_else (nat_le a 93) _ _ (record { taken = refl; named = rw half_b refl }) (
    or_else (nat_le a 94) _ _ (record { taken = refl; named = server }) (record { taken = refl; named = server }))))))))

event_good : (made sent a b c d : ℕ) → IsGood gen_cluster (gen_event made sent a b c d)
unfolding gen_event
event_good made sent a b c d =
    either (IsGood gen_cluster) (made == 0) _ _ (record { taken = refl; named = refl }) (later_good made sent (a % 100) b c d)

pub generated_is_good : (g : GeneratorState) (sent : ℕ) → IsGood gen_cluster (next_event g sent)
unfolding next_event
generated_is_good g sent = event_good g.made sent (drawn g.x) (drawn (second_draw g.x)) (drawn (third_draw g.x)) (drawn (fourth_draw g.x))
