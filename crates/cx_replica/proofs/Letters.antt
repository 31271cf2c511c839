-- What a replica reports to each leader.
use Rattle.std.proofs.Common.{append_assoc, arith}
use Rattle.cx_role.specs.Prelude.{◌≡◌, ℕ, suc, ◌+◌, ◌-◌, ◌<◌, List, [], ◌∷◌, ◌++◌, map, refl, numbers, role, Leader, Replica, RoleId}
use Rattle.cx_role.specs.Prelude.{Letter, letter, held_to}
use Rattle.cx_letter.specs.declared.message.Msg.TheVariants as msg

numbers_step : (i n : ℕ) → i < n → numbers i (n - i) ≡ i ∷ numbers (i + 1) (n - (i + 1))
numbers_step i n below = let e : n - i ≡ suc (n - (i + 1)) = omega arith in rw e refl

own_letter : (me : RoleId) (mark i : ℕ) → me.kind ≡ Replica
    → letter (role Replica me.index) (role Leader i) (msg.Held mark) ≡ held_to me mark i
own_letter me mark i k = rw (← k) refl

-- the next leader gets its report, and those after it are left
pub held_step : (me : RoleId) (mark i n : ℕ) (sent new all : List Letter) (d : Letter) → i < n → me.kind ≡ Replica
    → d ≡ letter (role Replica me.index) (role Leader i) (msg.Held mark) → new ≡ sent ++ d ∷ []
    → sent ++ map (held_to me mark) (numbers i (n - i)) ≡ all
    → new ++ map (held_to me mark) (numbers (i + 1) (n - (i + 1))) ≡ all
held_step me mark i n sent new all d below k is pushed so_far =
    let left = rw (numbers_step i n below) at so_far in
    rw (pushed, is, own_letter me mark i k, append_assoc) left
