-- The window that words ask for is from 1 to 64.
use Rattle.clap.specs.Words.{Row, Text, fault_of, subcommand_of}
use Rattle.cx_base.proofs.Common.{◌≡◌, ◌⊎◌, inl, inr, ◌≤◌, ◌&&◌, ℕ, Bool, true, false, nat_le, List, Option, None, Some, option_and_then}
use Rattle.cx_base.proofs.Common.{option_map, if◌then◌else◌, leb-true, subst, codes, bytes_eq, and_parts, cases_Bool}
use Rattle.cx_base.specs.declared.role.RoleId.{RoleId}
use Rattle.compax.specs.declared.words.Invocation.{Invocation}
use Rattle.compax.specs.declared.words.Invocation.TheVariants.{Replay, Generate, Node}
use Rattle.compax.specs.Words.{asked_by, compax_app, generated, has_no_kind, hosted, is_set, most_seed, most_u8, most_u32, node_with}
use Rattle.compax.specs.Words.{number_at, roles_at, said, window_of}

-- what is asked for is no node, or one whose window fits
abbrev Fits : Option Invocation → Type 0
Fits None = Unit {0}
Fits (Some Replay) = Unit {0}
Fits (Some (Generate seed count)) = Unit {0}
Fits (Some (Node turns tend window recording roles)) = (1 ≤ window) × (window ≤ 64)

with_roles : (turns : ℕ) (tend : Option ℕ) (window : ℕ) (recording : Bool) (roles : Option (List RoleId)) → (1 ≤ window) × (window ≤ 64)
    → Fits (option_map (Node turns tend window recording) roles)
with_roles turns tend window recording None is = tt
with_roles turns tend window recording (Some roles) is = is

with_window : (rows : List Row) (turns window : ℕ) → Fits (option_and_then (node_with rows turns) (window_of window))
with_window rows turns window = go (cases_Bool (nat_le 1 window && nat_le window 64))
  where
    go : ((nat_le 1 window && nat_le window 64) ≡ true) ⊎ ((nat_le 1 window && nat_le window 64) ≡ false)
        → Fits (option_and_then (node_with rows turns) (window_of window))
    go (inl is) =
        let parts = and_parts (nat_le 1 window) (nat_le window 64) is in
        rw is (with_roles turns (number_at most_u32 (codes "tend") rows) window (is_set (codes "record") rows)
        (roles_at (codes "ROLE") rows) (leb-true 1 window parts.0, leb-true window 64 parts.1))
    go (inr not) = rw not tt

with_number : (rows : List Row) (turns : ℕ) (number : Option ℕ)
    → Fits (option_and_then (node_with rows turns) (option_and_then window_of number))
with_number rows turns None = tt
with_number rows turns (Some window) = with_window rows turns window

with_turns : (rows : List Row) (turns : Option ℕ) → Fits (option_and_then (λ n.
    option_and_then (node_with rows n) (option_and_then window_of (number_at most_u8 (codes "window") rows))) turns)
with_turns rows None = tt
with_turns rows (Some turns) = with_number rows turns (number_at most_u8 (codes "window") rows)

generated_fits : (seed count : Option ℕ) → Fits (option_and_then (λ n. option_map (Generate n) count) seed)
generated_fits None count = tt
generated_fits (Some seed) None = tt
generated_fits (Some seed) (Some count) = tt

either : (b : Bool) (x y : Option Invocation) → Fits x → Fits y → Fits (if b then x else y)
either true x y p q = p
either false x y p q = q

asked_fits : (met : Option (Text × List Row)) → Fits (option_and_then asked_by met)
asked_fits None = tt
asked_fits (Some (name, rows)) =
    either (bytes_eq name (codes "replay")) (Some Replay) _ tt (either (bytes_eq name (codes "gen")) (generated rows)
    _ (generated_fits (number_at most_seed (codes "SEED") rows) (number_at 65535 (codes "COUNT") rows))
    (either (bytes_eq name (codes "node")) (hosted rows) None (with_turns rows (number_at most_u32 (codes "turns") rows)) tt))

said_fits : (words : List Text) → Fits (said words)
unfolding said
said_fits words = either (has_no_kind (fault_of compax_app words)) (option_and_then asked_by (subcommand_of compax_app words)) None
    (asked_fits (subcommand_of compax_app words)) tt

-- the window of a node that words ask for
pub window_fits : (words : List Text) (turns : ℕ) (tend : Option ℕ) (window : ℕ) (recording : Bool) (roles : List RoleId)
    → said words ≡ Some (Node turns tend window recording roles) → (1 ≤ window) × (window ≤ 64)
window_fits words turns tend window recording roles is = subst Fits is (said_fits words)
