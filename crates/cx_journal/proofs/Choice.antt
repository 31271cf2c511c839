-- Which of two disks is live, where one is behind the other.
use Rattle.std.proofs.Common.{◌≡◌, ◌<◌, inl, ℕ, zero, suc, ◌+◌, Bool, true, false, List, Option, Some, None, Ok, refl, arith, lt-ltb}
use Rattle.std.specs.Prelude.{◌%◌, nat_lt}
use Rattle.cx_journal.specs.Generation.{generation, next_generation, second_is_live, IsBehind}
use Rattle.cx_journal.specs.Pair.{StandsAfter, LiveStands, front_of, IsTwin, OpensTo}

-- the three generations, in turn
later_wins : (g : ℕ) → g < 3 → second_is_live (Some g) (Some ((g + 1) % 3)) ≡ Ok true
later_wins zero small = refl
later_wins (suc zero) small = refl
later_wins (suc (suc zero)) small = refl
later_wins (suc (suc (suc g))) small = absurd (omega arith)

earlier_loses : (g : ℕ) → g < 3 → second_is_live (Some ((g + 1) % 3)) (Some g) ≡ Ok false
earlier_loses zero small = refl
earlier_loses (suc zero) small = refl
earlier_loses (suc (suc zero)) small = refl
earlier_loses (suc (suc (suc g))) small = absurd (omega arith)

-- the live one, first or second
pub first_lives : (live other : Option ℕ) → ((g : ℕ) → live ≡ Some g → g < 3) → IsBehind live other → second_is_live live other ≡ Ok false
first_lives None None sound behind = refl
first_lives (Some g) None sound behind = let small : g < 3 = sound g refl in let is : nat_lt g 3 ≡ true = lt-ltb g 3 small in rw is refl
first_lives live (Some h) sound behind = rw (behind.1) (earlier_loses h behind.0)

pub second_lives : (live other : Option ℕ) → ((g : ℕ) → live ≡ Some g → g < 3) → (live ≡ None → ⊥) → IsBehind live other
    → second_is_live other live ≡ Ok true
second_lives None None sound some behind = absurd (some refl)
second_lives (Some g) None sound some behind =
    let small : g < 3 = sound g refl in let is : nat_lt g 3 ≡ true = lt-ltb g 3 small in rw is refl
second_lives live (Some h) sound some behind = rw (behind.1) (later_wins h behind.0)

-- the next generation, and what is behind it then
pub next_small : (live : Option ℕ) → ((g : ℕ) → live ≡ Some g → g < 3) → next_generation live < 3
next_small None sound = omega arith
next_small (Some zero) sound = omega arith
next_small (Some (suc zero)) sound = omega arith
next_small (Some (suc (suc zero))) sound = omega arith
next_small (Some (suc (suc (suc g)))) sound = let small : suc (suc (suc g)) < 3 = sound _ refl in absurd (omega (arith, small))

pub left_behind : (live : Option ℕ) → ((g : ℕ) → live ≡ Some g → g < 3) → IsBehind (Some (next_generation live)) live
left_behind None sound = tt
left_behind (Some g) sound = (sound g refl, refl)

live_stands : (gen : Option ℕ) (payloads : List (List ℕ)) (file : List ℕ) → StandsAfter (front_of gen) payloads file
    → LiveStands gen payloads file
live_stands None payloads file stands = inl stands
live_stands (Some g) payloads file stands = stands

-- a pair that is kept opens to its records
pub opens : (second : Bool) (payloads : List (List ℕ)) (live other : List ℕ) → IsTwin second payloads live other
    → OpensTo payloads second live other
opens false payloads live other twin = record {
  second = false;
  choice = first_lives (generation live) (generation other) twin.sound twin.behind;
  stands = live_stands (generation live) payloads live twin.stands;
}
opens true payloads live other twin = record {
  second = true;
  choice = second_lives (generation live) (generation other) twin.sound
      (λ none. let no_way : true ≡ false = twin.plain_is_first none in absurd cc) twin.behind;
  stands = live_stands (generation live) payloads live twin.stands;
}
