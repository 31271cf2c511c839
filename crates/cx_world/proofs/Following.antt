-- The values of a replica's changes, one change after another.
use Rattle.cx_base.proofs.Common.{get_or, drop_more}
use Rattle.cx_inv_run.proofs.Common.{◌≡◌, ◌<◌, ◌≤◌, ◌+◌, ℕ, zero, suc, List, [], ◌∷◌, ◌++◌, Some, drop, length, slice_get, ap, sym, refl}
use Rattle.cx_inv_run.proofs.Common.{◌∙◌, append_assoc, arith, length-append, command_list, commands_of, fold, map_behind, role, Command}
use Rattle.cx_inv_run.proofs.Common.{Pair, Value, RoleId, log_of, KeptRecord}
use Rattle.cx_base.specs.declared.role.Kind.TheVariants as kind
use Rattle.cx_kv.proofs.Behind.{behind_both}
use Rattle.cx_choice.proofs.Numbered.{next_kept}
use Rattle.cx_world.specs.Folded.{values_by, values_kept}

-- the commands of values after others
pub commands_both : (vs more : List Value) → command_list (vs ++ more) ≡ command_list vs ++ command_list more
commands_both [] more = refl
commands_both (v ∷ vs) more =
    ap (λ l. commands_of v ++ l) (commands_both vs more) ∙ sym (append_assoc (commands_of v) (command_list vs) (command_list more))

-- the map after values and then others
pub map_both : (before : List Command) (map : List Pair) (vs more : List Value) → map_behind before map (command_list (vs ++ more))
    ≡ map_behind (before ++ command_list vs) (map_behind before map (command_list vs)) (command_list more)
map_both before map vs more = rw (commands_both vs more) (behind_both before map (command_list vs) (command_list more))

-- one value more is executed
pub value_next : (values : List Value) (i : ℕ) (v : Value) (before new_before : List Command) (map new_map : List Pair)
    (commands : List Command) (all : List Pair) → i < length values
    → v ≡ get_or values i v → new_map ≡ map_behind before map (commands_of v) → new_before ≡ before ++ commands_of v
    → before ++ command_list (drop i values) ≡ commands → map_behind before map (command_list (drop i values)) ≡ all
    → (new_before ++ command_list (drop (i + 1) values) ≡ commands)
    × (map_behind new_before new_map (command_list (drop (i + 1) values)) ≡ all)
value_next values i v before new_before map new_map commands all there is leaves begins list so_far =
    let rest = drop (i + 1) values in
    let next : drop i values ≡ v ∷ rest = drop_more values i v there ∙ ap (λ x. x ∷ rest) (sym is) in
    let told : before ++ commands_of v ++ command_list rest ≡ commands =
    append_assoc before (commands_of v) (command_list rest) ∙ (rw next at list) in
    let left : map_behind (before ++ commands_of v) (map_behind before map (commands_of v)) (command_list rest) ≡ all =
    sym (behind_both before map (commands_of v) (command_list rest)) ∙ (rw next at so_far) in
    rw (begins, leaves) (told, left)

-- the values after a change's
pub values_next : (me : RoleId) (history : List KeptRecord) (n : ℕ) (one : KeptRecord) → slice_get history n ≡ Some one
    → values_kept me (drop n history) ≡ values_by me one ++ values_kept me (drop (n + 1) history)
values_next me history n one at = ap (values_kept me) (next_kept history n one at)

-- all values that a replica kept
pub all_values : (p : ℕ) (history : List KeptRecord) → log_of p history ≡ values_kept (role kind.Replica p) history
all_values p [] = refl
all_values p (k ∷ ks) = ap (λ l. values_by (role kind.Replica p) k ++ l) (all_values p ks)

-- one change more was executed
pub record IsExecuted (me : RoleId) (history : List KeptRecord) (n held : ℕ) (before : List Command) (map : List Pair) : Type 0 where
  pub held_is : held + length (values_kept me (drop n history)) ≡ length (values_kept me history)
  pub map_is : map_behind before map (command_list (values_kept me (drop n history))) ≡ fold (values_kept me history)

pub executed_next : (me : RoleId) (history : List KeptRecord) (n : ℕ) (one : KeptRecord) (held new_held : ℕ)
    (before new_before : List Command) (map new_map : List Pair)
    → slice_get history n ≡ Some one → new_held ≡ held + length (values_by me one) → new_before ≡ before ++ command_list (values_by me one)
    → new_map ≡ map_behind before map (command_list (values_by me one)) → IsExecuted me history n held before map
    → IsExecuted me history (n + 1) new_held new_before new_map
executed_next me history n one held new_held before new_before map new_map at holds begins leaves so_far =
    let rest = values_kept me (drop (n + 1) history) in
    let next = values_next me history n one at in
    let count : length (values_kept me (drop n history)) ≡ length (values_by me one) + length rest =
    ap (λ (l : List Value). length l) next ∙ length-append (values_by me one) rest in
    record {
      held_is = omega (arith, holds, count, so_far.held_is);
      map_is = rw (begins, leaves) (sym (map_both before map (values_by me one) rest)
          ∙ ap (λ (l : List Value). map_behind before map (command_list l)) (sym next) ∙ so_far.map_is);
    }

drop_end : (history : List KeptRecord) (n : ℕ) → length history ≤ n → drop n history ≡ []
drop_end [] zero h = refl
drop_end [] (suc n) h = refl
drop_end (k ∷ history) zero h = absurd (omega arith)
drop_end (k ∷ history) (suc n) h = drop_end history n (omega arith)

-- all changes were executed
pub executed_all : (p : ℕ) (history : List KeptRecord) (n held : ℕ) (before : List Command) (map : List Pair) → length history ≤ n
    → IsExecuted (role kind.Replica p) history n held before map → (held ≡ length (log_of p history)) × (map ≡ fold (log_of p history))
executed_all p history n held before map done so_far =
    let me = role kind.Replica p in
    let none = drop_end history n done in
    let count : held + 0 ≡ length (values_kept me history) = rw none at so_far.held_is in
    let left : map ≡ fold (values_kept me history) = rw none at so_far.map_is in
    rw (all_values p history) (omega (arith, count), left)
